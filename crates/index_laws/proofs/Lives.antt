-- Lives have one history.
use Rattle.index_laws.proofs.Common.{◌≡◌, ◌≢◌, ℕ, suc, List, [], ◌∷◌, ◌++◌, map, refl, sym, ap, ap₂, subst, ◌∙◌, All-map, Call, Insert, Change, Note, Reply, Inserted, LegalCalls, AllLegal, answered, calls_of, legal_at_first, weave-legal, woven-in_order, Layout, Item, added_notes, items_of, Known, loaded_tree, PassView}
use Rattle.finite_map.specs.Weaves.{Event}
use Rattle.plain_index.specs.Orders.{AreWoven, CallsAreWoven}
use Rattle.index_laws.proofs.Executions.Loaded.{loader_legal}
use Rattle.index_laws.specs.Lives.{AreLives, HasLived, PassLife, LivesAreWoven, OneHistoryOfAll, called, loaded, looked_up, new, rested, scanned, went_on}

-- the calls of notes, with their replies
abbrev asked_in : List Note → List (Call × Reply)
asked_in [] = []
asked_in (n ∷ ns) = (n.call, n.reply) ∷ asked_in ns

asked-append : (xs ys : List Note) → asked_in (xs ++ ys) ≡ asked_in xs ++ asked_in ys
asked-append [] ys = refl
asked-append (x ∷ xs) ys = ap (λ (z : List (Call × Reply)). (x.call, x.reply) ∷ z) (asked-append xs ys)

asked-map : (ns : List Note) → map (λ (n : Note). (n.call, n.reply)) ns ≡ asked_in ns
asked-map [] = refl
asked-map (n ∷ ns) = ap (λ (z : List (Call × Reply)). (n.call, n.reply) ∷ z) (asked-map ns)

events-are : (ns : List Note) → calls_of ns ≡ map (λ (x : Call × Reply). answered x.0 x.1) (asked_in ns)
events-are [] = refl
events-are (n ∷ ns) = ap (λ (z : List Event). answered n.call n.reply ∷ z) (events-are ns)

asked-added : (n : ℕ) (xs : List Item) → asked_in (added_notes n xs) ≡ map (λ (x : Item). (Insert x.key x.value, Inserted)) xs
asked-added n [] = refl
asked-added n (x ∷ xs) = ap (λ (z : List (Call × Reply)). (Insert x.key x.value, Inserted) ∷ z) (asked-added (suc n) xs)

-- a pass's notes are those of the calls that it has lived through, and legal
record IsLived (calls : List (Call × Reply)) (j : PassView) : Type 0 where
  pub same : asked_in j.notes ≡ calls
  pub legal : LegalCalls j.front j.number j.notes

stays : (calls : List (Call × Reply)) (k j : PassView) → IsLived calls k → j.notes ≡ k.notes → LegalCalls j.front j.number j.notes → IsLived calls j
stays calls k j h same legal = record { same = ap asked_in same ∙ h.same; legal = legal }

lived : {layout : Layout} {calls : List (Call × Reply)} {j : PassView} → HasLived layout calls j → IsLived calls j
lived {j = j} (new is) = record {
  same = ap asked_in is.2;
  legal = subst (λ f. LegalCalls f j.number j.notes) (sym is.1) (subst (LegalCalls [] j.number) (sym is.2) (legal_at_first j.number));
}
lived (loaded {layout = layout} {words = words} {seat = s} load is) = record {
  same = ap (λ (k : Known). asked_in k.notes) is ∙ asked-added 0 (items_of (loaded_tree layout words));
  legal = subst (λ (k : Known). LegalCalls k.front k.pass k.notes) (sym is) (loader_legal layout words load);
}
lived (called {calls = calls} {before = k} {after = j} {call = call} {reply = reply} h noted) = record {
  same = ap asked_in noted.notes ∙ asked-append k.notes (record { place = noted.place; call = call; reply = reply } ∷ []) ∙ ap (λ (z : List (Call × Reply)). z ++ (call, reply) ∷ []) (lived h).same;
  legal = noted.legal;
}
lived (looked_up {calls = calls} {asked = asked} {before = k} {after = j} h noted) = record {
  same = ap asked_in noted.notes ∙ asked-append k.notes noted.added ∙ ap₂ (λ (y z : List (Call × Reply)). y ++ z) (lived h).same (sym (asked-map noted.added));
  legal = noted.legal;
}
lived (went_on {calls = calls} {before = k} {after = j} h unnoted) = stays calls k j (lived h) unnoted.notes unnoted.legal
lived (scanned {calls = calls} {before = k} {after = j} h on same legal) = stays calls k j (lived h) same legal
lived (rested {calls = calls} {before = k} {after = j} h number front notes) = stays calls k j (lived h) notes
    (subst (λ n. LegalCalls j.front n j.notes) (sym number) (subst (λ f. LegalCalls f k.number j.notes) (sym front) (subst (LegalCalls k.front k.number) (sym notes) (lived h).legal)))

abbrev pass_in : PassLife → ℕ × List Note
pass_in life = (life.1.number, life.1.notes)

all_legal : (layout : Layout) (front : List Change) (lives : List PassLife) → AreLives layout front lives → AllLegal front (map pass_in lives)
all_legal layout front [] h = tt
all_legal layout front (life ∷ lives) h = (
  subst (λ f. LegalCalls f life.1.number life.1.notes) h.1 (lived h.0).legal,
  All-map (λ other. other.0 ≢ life.1.number) pass_in lives h.2,
  all_legal layout front lives h.3,
)

woven_lives : (layout : Layout) (front : List Change) (lives : List PassLife) → AreLives layout front lives → (es : List Event) → CallsAreWoven (map pass_in lives) es → LivesAreWoven lives es
woven_lives layout front [] h es woven = woven
woven_lives layout front (life ∷ lives) h es woven = (
  woven.0,
  woven_lives layout front lives h.3 woven.0 woven.1,
  subst (λ l. AreWoven l woven.0 es) (events-are life.1.notes ∙ ap (map (λ (x : Call × Reply). answered x.0 x.1)) (lived h.0).same) woven.2,
)

pub one_history_of_all : OneHistoryOfAll
one_history_of_all layout front lives h =
    let legal = all_legal layout front lives h in
    (weave-legal front (map pass_in lives) legal, woven_lives layout front lives h _ (woven-in_order front (map pass_in lives) legal))
