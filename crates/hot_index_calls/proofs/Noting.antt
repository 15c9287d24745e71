-- How an answered call gets its note: one that changed nothing, and what is the same of each.
pub mod Scanned
use Rattle.hot_index_calls.proofs.Common.{◌≡◌, ◌≢◌, ℕ, zero, suc, ◌+◌, ◌-◌, ◌<◌, ◌≤◌, List, [], ◌∷◌, ◌++◌, length, take, Bool, true, false, if◌then◌else◌, Option, Some, None, refl, sym, ap, subst, ◌∙◌, arith, le_refl, le_trans, length-append, nat_eq, false≢true, All, All-cons, All-head, All-nil, All-tail, Call, Get, Change, Note, Reply, Inserted, Exists, New, Was, Exchanged, Differs, Value, Absent, Removed, Map, value_at, step_where, reply_of, map_of, BeginsWith, LegalFront, OthersGoOn, is_change, LegalCalls, others_begin, legal_quiet, Layout, Key, Act, ClearPin, Event, Known, Core, IsLawful, Recalls, IsEvent, StepsWith, TableView, SeatView, IsPassOf, MakesNoAside, Pins, HasFound, HasSearched, Looks, Sure, since, event_recalls}
use Rattle.std.proofs.Common.{eq-eqb}
use Rattle.std.proofs.lemmas.Bool.Decides.{nat_tests}
use Rattle.tries.specs.Tree.{Tree, Has, IsTrie}
use Rattle.tries.proofs.Content.{holds_has}
use Rattle.tries.proofs.Content.Maps.{holds_value, value_holds}
use Rattle.versions.specs.State.{IsHeldSince, WasAbsentSince}
use Rattle.versions.specs.Told.{content}
use Rattle.rowex_reading.proofs.Seen.Led.{HasLookedAt, looked_at}
use Rattle.rowex_reading.proofs.Seen.{seen_told, seen_within}
use Rattle.hot_index_calls.specs.Passes.{AreByPasses, IsSettled, pass_of}
use Rattle.hot_index_calls.specs.Answers.{GoesOn, IsNoted, got}
use Rattle.hot_index_calls.specs.Noting.{same_reply, first_from, answers_so, place_of}

-- the note of a call that changed nothing: its place is the first right one since the pass's last load of the root
abbrev pub note_of : Call → Reply → Known → List Note
note_of call reply k = record { place = place_of k.front (since k) call reply; call = call; reply = reply } ∷ []

-- Replies

is_same : (v w : ℕ) → nat_eq v w ≡ true → v ≡ w
is_same v w e = grind (arith, nat_tests)

pub reply_is : (r s : Reply) → same_reply r s ≡ true → r ≡ s
reply_is Inserted Inserted e = refl
reply_is (Exists v) (Exists w) e = ap Exists (is_same v w e)
reply_is New New e = refl
reply_is (Was v) (Was w) e = ap Was (is_same v w e)
reply_is Exchanged Exchanged e = refl
reply_is (Differs v) (Differs w) e = ap Differs (is_same v w e)
reply_is (Value v) (Value w) e = ap Value (is_same v w e)
reply_is Absent Absent e = refl
reply_is (Removed v) (Removed w) e = ap Removed (is_same v w e)
reply_is _ _ e = absurd (false≢true e)

pub same_reply_reflexive : (r : Reply) → same_reply r r ≡ true
same_reply_reflexive Inserted = refl
same_reply_reflexive (Exists v) = eq-eqb v v refl
same_reply_reflexive New = refl
same_reply_reflexive (Was v) = eq-eqb v v refl
same_reply_reflexive Exchanged = refl
same_reply_reflexive (Differs v) = eq-eqb v v refl
same_reply_reflexive (Value v) = eq-eqb v v refl
same_reply_reflexive Absent = refl
same_reply_reflexive (Removed v) = eq-eqb v v refl

-- The place

-- where one of the numbers passes the test, the first one does
record IsFirst (test : ℕ → Bool) (low more p : ℕ) : Type 0 where
  least : low ≤ p
  most : p ≤ low + more
  passes : test p ≡ true

first_where : (test : ℕ → Bool) (low more n : ℕ) → low ≤ n → test n ≡ true → (low + 1 ≤ n → IsFirst test (low + 1) more (first_from test (low + 1) more)) →
    (b : Bool) → test low ≡ b → IsFirst test low (suc more) (if b then low else first_from test (low + 1) more)
first_where test low more n l t later true e = record { least = le_refl low; most = omega arith; passes = e }
first_where test low more n l t later false e =
    let ne : low ≢ n = λ same. false≢true (sym e ∙ (ap test same ∙ t)) in
    let f = later (omega arith) in
    record { least = let g = f.least in omega arith; most = let g = f.most in omega arith; passes = f.passes }

first_is : (test : ℕ → Bool) (low more n : ℕ) → low ≤ n → n ≤ low + more → test n ≡ true → IsFirst test low more (first_from test low more)
first_is test low zero n l h t = record { least = le_refl low; most = omega arith; passes = subst (λ m. test m ≡ true) (let e : n ≡ low = omega arith in e) t }
first_is test low (suc more) n l h t = first_where test low more n l t (λ le. first_is test (low + 1) more n le (omega arith) t) (test low) refl

-- The reply was right after some of the changes seen, from those at the last load of the root on.
abbrev pub WasRight : Known → Call → Reply → Type 0
WasRight k call reply = (n : ℕ) × (since k ≤ n) × (n ≤ length k.front) × (reply_of (map_of (take n k.front)) call ≡ reply)

pub record IsRightPlace (front : List Change) (low : ℕ) (call : Call) (reply : Reply) (p : ℕ) : Type 0 where
  pub least : low ≤ p
  pub most : p ≤ length front
  pub right : reply ≡ reply_of (map_of (take p front)) call

-- if there is such a place at all, the note's is one
pub right_place : (k : Known) (call : Call) (reply : Reply) → WasRight k call reply → IsRightPlace k.front (since k) call reply (place_of k.front (since k) call reply)
unfolding place_of
right_place k call reply (n, lo, hi, e) =
    let test = answers_so k.front call reply in
    let f = first_is test (since k) (length k.front - since k) n lo (omega arith) (ap (λ r. same_reply r reply) e ∙ same_reply_reflexive reply) in
    record { least = f.least; most = let h = f.most in omega arith; right = sym (reply_is _ reply f.passes) }

-- What a search found

absent_at : (t : Option Tree) (key : Key) → ((u : Tree) → t ≡ Some u → Has u key → ⊥) → value_at (content t) key ≡ None
absent_at None key h = refl
absent_at (Some t) key h = go (value_at (content (Some t)) key) refl
  where
    go : (o : Option ℕ) → value_at (content (Some t)) key ≡ o → o ≡ None
    go None e = refl
    go (Some v) e = absurd (h t refl (holds_has t key v (value_holds t key v e)))

get_reply : (m : Map) (key : List ℕ) (o : Option ℕ) → value_at m key ≡ o → reply_of m (Get key) ≡ got o
get_reply m key o e = ap (λ z. (step_where z m (Get key)).1) e ∙ at o
  where
    at : (o : Option ℕ) → (step_where o m (Get key)).1 ≡ got o
    at None = refl
    at (Some v) = refl

-- after some of the changes seen, from those at the last load of the root on, the key had this value, or none
abbrev pub HadValue : Known → Key → Option ℕ → Type 0
HadValue k key o = (n : ℕ) × (since k ≤ n) × (n ≤ length k.front) × (value_at (map_of (take n k.front)) key ≡ o)

-- a key that was absent since some version was so after some of the changes seen
pub missed_had : (k : Known) (key : Key) (m : ℕ) → Sure k (λ s. WasAbsentSince s m key) → (c : Core) → IsLawful c → Recalls c k →
    (n : ℕ) × (m ≤ n) × (n ≤ length k.front) × (value_at (map_of (take n k.front)) key ≡ None)
missed_had k key m missed c lawful recalls =
    let f = missed c lawful recalls in
    let told = (seen_told lawful recalls).content_is f.0 f.2 in
    (f.0, f.1, f.2, ap (λ (z : Map). value_at z key) (sym told) ∙ absent_at (c.past.version f.0) key f.3)

pub met_had : (k : Known) (key : Key) (v m : ℕ) → Sure k (λ s. IsHeldSince s m key v) → (c : Core) → IsLawful c → Recalls c k →
    (n : ℕ) × (m ≤ n) × (n ≤ length k.front) × (value_at (map_of (take n k.front)) key ≡ Some v)
met_had k key v m found c lawful recalls =
    let f = found c lawful recalls in
    let told = (seen_told lawful recalls).content_is f.0 f.3 in
    let tree : IsTrie f.1 = (lawful.core.state.trees f.0 f.1 (le_trans f.3 (seen_within lawful recalls)) f.4).0 in
    (f.0, f.2, f.3, ap (λ (z : Map). value_at z key) (sym told) ∙ (ap (λ t. value_at (content t) key) f.4 ∙ holds_value f.1 tree key v f.5))

-- what a search found was so
pub found_had : (k : Known) (key : Key) (o : Option ℕ) → HasFound k key o → (c : Core) → IsLawful c → Recalls c k → HadValue k key o
found_had k key None found c lawful recalls = missed_had k key (since k) found c lawful recalls
found_had k key (Some v) found c lawful recalls = met_had k key v (since k) found c lawful recalls

-- and so the reply that a get gives was right
pub found_right : (k : Known) (key : Key) (o : Option ℕ) → HasFound k key o → (c : Core) → IsLawful c → Recalls c k → WasRight k (Get key) (got o)
found_right k key o found c lawful recalls = let f = found_had k key o found c lawful recalls in (f.0, f.1, f.2, get_reply _ key o f.3)

-- The end of a call

-- Since it knew k the pass has gone on: it has seen more changes, and loaded the root, and has nothing of its own.
pub record HasGoneOn (k i : Known) : Type 0 where
  pub pass : i.pass ≡ k.pass
  pub notes : i.notes ≡ k.notes
  pub own : i.own ≡ []
  pub locks : i.locks ≡ []
  pub anchor : i.anchor ≡ None
  pub front : BeginsWith i.front k.front
  pub fresh : BeginsWith i.fresh.front k.front
  pub now : k.steps ≤ i.fresh.step

-- It has only looked: the changes that it has seen since are others'.
pub record HasLooked (k i : Known) : Type 0 where
  pub on : HasGoneOn k i
  pub others : OthersGoOn k.pass k.front i.front

pub longer : (later front : List Change) → BeginsWith later front → length front ≤ length later
longer later front b = let e = ap length b.1 ∙ length-append front b.0 in omega arith

-- it is one seat still
pub fits_then : (table : TableView) (s t : SeatView) → MakesNoAside s t → IsPassOf table s → IsPassOf table t
fits_then table s t same fits = (same.0 ∙ fits.0, subst (λ q. q < table.layout.passes) (sym same.2) fits.1)

-- the pin changes neither its number nor its front
pub pinned_pass : {G : Type 0} {table : TableView} {becomes : G → Event → G → Type 0} {a b : SeatView × G} → Pins table becomes a b → b.0.known.pass ≡ a.0.known.pass
pinned_pass pins = ap (λ (z : Known). z.pass) pins.1.rest

pub pinned_front : {G : Type 0} {table : TableView} {becomes : G → Event → G → Type 0} {a b : SeatView × G} → Pins table becomes a b → b.0.known.front ≡ a.0.known.front
pinned_front pins = ap (λ (z : Known). z.front) pins.1.rest

-- a pass that was settled, was pinned and has looked then
pub looked_then : {G : Type 0} {table : TableView} {becomes : G → Event → G → Type 0} {n : ℕ} {a b : SeatView × G} (i : Known) → IsSettled a.0.known → Pins table becomes a b → HasLookedAt n b.0.known i → HasLooked a.0.known i
looked_then {n = n} {a = a} {b = b} i settled pins at = record {
  on = record {
    pass = at.later.pass ∙ pinned_pass pins;
    notes = ap (λ (z : Known). z.notes) at.sees ∙ ap (λ (z : Known). z.notes) pinned;
    own = ap (λ (z : Known). z.own) at.sees ∙ (ap (λ (z : Known). z.own) pinned ∙ settled.own);
    locks = ap (λ (z : Known). z.locks) at.sees ∙ (ap (λ (z : Known). z.locks) pinned ∙ settled.locks);
    anchor = ap (λ (z : Known). z.anchor) at.sees ∙ (ap (λ (z : Known). z.anchor) pinned ∙ settled.anchor);
    front = others_begin a.0.known.pass a.0.known.front i.front others;
    fresh = subst (λ (z : List Change). BeginsWith i.fresh.front z) (pinned_front pins) at.fresh;
    now = let now = at.now in let steps = ap (λ (z : Known). z.steps) pinned in omega arith;
  };
  others = others;
}
  where
    pinned : b.0.known ≡ record a.0.known { pin = b.0.known.pin; round = b.0.known.round; steps = a.0.known.steps + 2 }
    pinned = pins.1.rest

    others : OthersGoOn a.0.known.pass a.0.known.front i.front
    others = subst (λ (z : ℕ × List Change). OthersGoOn z.0 z.1 i.front) (λ x. (pinned_pass pins x, pinned_front pins x)) at.later.front

pub looked : {G : Type 0} {table : TableView} {becomes : G → Event → G → Type 0} {e n : ℕ} {a b c : SeatView × G} → IsSettled a.0.known → Pins table becomes a b → Looks table becomes e n b c →
    HasLooked a.0.known c.0.known
looked {c = c} settled pins looks = looked_then c.0.known settled pins (looked_at looks)

-- what holds of each of two lists holds of each of the first
pub All-part : {A : Type 0} (P : A → Type 0) (xs ys : List A) → All P (xs ++ ys) → All P xs
All-part P [] ys h = All-nil P
All-part P (x ∷ xs) ys h = All-cons P x xs (All-head P x (xs ++ ys) h) (All-part P xs ys (All-tail P x (xs ++ ys) h))

-- and of each of the second
pub All-behind : {A : Type 0} (P : A → Type 0) (xs ys : List A) → All P (xs ++ ys) → All P ys
All-behind P [] ys h = h
All-behind P (x ∷ xs) ys h = All-behind P xs ys (All-tail P x (xs ++ ys) h)

-- changes that a lawful core goes on from were made by passes of its index
pub by_passes : (c : Core) (k : Known) → IsLawful c → Recalls c k → AreByPasses c.layout k.front
by_passes c k lawful recalls = All-part (λ x. x.pass < c.layout.passes) k.front recalls.front.0 (subst (AreByPasses c.layout) recalls.front.1 lawful.makers)

pub event_makers : {layout : Layout} {act : Act} {said : Known → List Note} {k j : Known} → IsEvent layout act said k j → AreByPasses layout k.front
event_makers {k = k} e = subst (λ (z : Layout). AreByPasses z k.front) e.layout_is (by_passes e.core k e.lawful (event_recalls e))

-- The pass clears its pin, with these notes.
abbrev pub cleared : Known → Known
cleared i = record i { pin = None; steps = i.steps + 1 }

module _ {layout : Layout} {said : Known → List Note} {i : Known} (s t : SeatView) (gone : HasGoneOn s.known i) (event : IsEvent layout ClearPin said i t.known) where
  pub legal_front : LegalFront i.front
  legal_front = (seen_told event.lawful (event_recalls event)).legal

  -- its front has gone on
  pub goes_on : GoesOn layout (pass_of s) (pass_of t)
  goes_on = record {
    number = ap (λ (z : Known). z.pass) event.learned_is ∙ gone.pass;
    front = subst (λ (z : Known). BeginsWith z.front s.known.front) (sym event.learned_is) gone.front;
    fresh = subst (λ (z : Known). BeginsWith z.fresh.front s.known.front) (sym event.learned_is) gone.fresh;
    seen = subst (λ (z : Known). BeginsWith z.front z.fresh.front) (sym event.learned_is) event.knows.seen.fresh;
    now = subst (λ (z : Known). (s.known.steps ≤ z.fresh.step) × (z.fresh.step < z.steps)) (sym event.learned_is) (gone.now, let l = event.knows.counted.loaded in omega arith);
    makers = subst (λ (z : Known). AreByPasses layout z.front) (sym event.learned_is) (event_makers event);
  }

  -- and it has settled again
  pub settles : LegalCalls i.front i.pass (i.notes ++ said (cleared i)) → IsSettled t.known
  settles legal = subst IsSettled (sym event.learned_is) whole
    where
      whole : IsSettled (record (cleared i) { notes = i.notes ++ said (cleared i) })
      whole = record { own = gone.own; locks = gone.locks; anchor = gone.anchor; pin = refl; fresh = event.knows.seen.fresh; loaded = let l = event.knows.counted.loaded in omega arith; legal = legal }

-- a call that changed nothing is noted as its pass clears the pin
pub noted : (layout : Layout) (call : Call) (reply : Reply) (s : SeatView) (i : Known) (t : SeatView) → IsSettled s.known → HasLooked s.known i → IsEvent layout ClearPin (note_of call reply) i t.known →
    ((c : Core) → IsLawful c → Recalls c i → WasRight i call reply) → ((p : ℕ) → is_change (record { place = p; call = call; reply = reply }) ≡ false) →
    IsNoted layout (pass_of s) (pass_of t) call reply × IsSettled t.known
noted layout call reply s i t settled looks event right quiet = (told, settles s t looks.on event legal)
  where
    place : ℕ
    place = place_of i.front (since i) call reply

    note : Note
    note = record { place = place; call = call; reply = reply }

    at : IsRightPlace i.front (since i) call reply place
    at = right_place i call reply (right event.core event.lawful (event_recalls event))

    calls : LegalCalls i.front s.known.pass (s.known.notes ++ note ∷ [])
    calls = legal_quiet s.known.front i.front s.known.pass s.known.notes note settled.legal looks.others (legal_front s t looks.on event)
        (le_trans (longer i.fresh.front s.known.front looks.on.fresh) at.least) at.most at.right (quiet place)

    legal : LegalCalls i.front i.pass (i.notes ++ note ∷ [])
    legal = subst (λ (z : ℕ × List Note). LegalCalls i.front z.0 (z.1 ++ note ∷ [])) (λ x. (sym looks.on.pass x, sym looks.on.notes x)) calls

    told : IsNoted layout (pass_of s) (pass_of t) call reply
    told = record {
      on = goes_on s t looks.on event;
      place = place;
      notes = ap (λ (z : Known). z.notes) event.learned_is ∙ ap (λ (z : List Note). z ++ note ∷ []) looks.on.notes;
      low = subst (λ (z : Known). length z.fresh.front ≤ place) (sym event.learned_is) at.least;
      high = subst (λ (z : Known). place ≤ length z.front) (sym event.learned_is) at.most;
      legal = subst (λ (z : Known). LegalCalls z.front z.pass z.notes) (sym event.learned_is) legal;
    }

-- A get

pub get_changes_nothing : (key : Key) (o : Option ℕ) (p : ℕ) → is_change (record { place = p; call = Get key; reply = got o }) ≡ false
get_changes_nothing key None p = refl
get_changes_nothing key (Some v) p = refl

module _ {G : Type 0} {table : TableView} {becomes : G → Event → G → Type 0} {a b c d : SeatView × G} (key : Key) (o : Option ℕ) (pins : Pins table becomes a b) (search : HasSearched table becomes b c)
    (end : StepsWith table becomes ClearPin (note_of (Get key) (got o)) c d) where
  -- the get is noted, and the pass has settled again
  pub get_noted : IsSettled a.0.known → HasFound c.0.known key o → IsNoted table.layout (pass_of a.0) (pass_of d.0) (Get key) (got o) × IsSettled d.0.known
  get_noted settled found =
      noted table.layout (Get key) (got o) a.0 c.0.known d.0 settled (looked settled pins search.looks) end.event (found_right c.0.known key o found) (get_changes_nothing key o)
