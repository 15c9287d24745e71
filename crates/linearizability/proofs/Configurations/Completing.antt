-- Responses that complete the pending calls of a run.
use Rattle.linearizability.proofs.Common.{◌≡◌, ◌⊎◌, inl, inr, ℕ, ◌<◌, ◌≤◌, List, [], ◌∷◌, ◌++◌, length, drop, map, Option, Some, None, refl, sym, ap, subst, ◌∙◌, arith, ⊎_elim, le_refl, append-nil, cons_option, All, IsPermutation, option_map, drop-append_seam, cases_lt, All-cons, All-head, All-nil, All-tail, All-permutation, Call, Change, Note, Get, Kind, Reply, LegalCalls, change_of, changes_of, effect_of, key_of, BeginsWith, LegalFrom, OthersGoOn, map_of, legal_front_part, legal_change, legal_longer, Layout}
use Rattle.linearizability.specs.Effects.{completion_of, completions}
use Rattle.linearizability.specs.Histories.{ChangesAsAsked, HasChangedOnce, IsAppended, AsksOneOrLooksUp, EndsWithin, PendingEndOrChangeAsAsked, replied}
use Rattle.linearizability.specs.Configurations.{Happening, IsSoundConfiguration, IsWholeRun, Configuration, Pending}
use Rattle.linearizability.specs.Statements.{IsLinearizable, Linearizable, OrderedByEffect}
use Rattle.linearizability.proofs.laws.Asking.{refused_change_nothing, answered_calls_change_as_asked}
use Rattle.linearizability.proofs.Histories.Calling.{LegalUpTo, calls_legal}
use Rattle.linearizability.proofs.Configurations.{grown, longer, runs_stay_sound}
use Rattle.linearizability.proofs.Effects.{legal_on, makers_behind, makers_legal}
use Rattle.linearizability.proofs.Histories.{AllComplete, Completes, in_one_order}

-- each call that is pending at the last time has changed nothing, or the map as it asks
abbrev ChangeAsAsked : Layout → ℕ → (ℕ → Configuration) → Type 0
ChangeAsAsked layout last at =
    (q : ℕ) → q < layout.passes → (call : Pending) → (at last).pending q ≡ Some call → ChangesAsAsked q call.calls (at call.since).core.changes (at last).core.changes

pub none_some : (call : Pending) (P : Type 0) → None ≡ Some call → P
none_some call P e = cc

module _ (layout : Layout) (last : ℕ) (at : ℕ → Configuration) (happens : ℕ → Happening) (run : IsWholeRun layout last at happens) where
  abbrev changes : List Change
  changes = (at last).core.changes

  sound_at : (t : ℕ) → t ≤ last → IsSoundConfiguration layout (at t)
  sound_at = runs_stay_sound layout last at happens run

  change_legal : LegalFrom [] changes
  change_legal = (sound_at last (le_refl last)).lawful.core.told.legal

  others_at : (t : ℕ) → t ≤ last → (q : ℕ) → q < layout.passes → OthersGoOn q ((at t).known q).front (at t).core.changes
  others_at t low q below = let s = sound_at t low in subst (λ z. OthersGoOn z ((at t).known q).front (at t).core.changes) (s.named q below) (s.knows q below).seen.front

  -- a pass with no call pending
  rests : (q : ℕ) → q < layout.passes → LegalUpTo at q last None → Completes last at q None []
  rests q below h = record {
    none = λ _. refl;
    legal = subst (LegalCalls changes q) (sym (append-nil ((at last).known q).notes))
        (legal_longer ((at last).known q).front changes q ((at last).known q).notes h (others_at last (le_refl last) q below) change_legal);
    placed = λ call e. none_some call (All (λ n. length (at call.since).core.changes ≤ n.place) []) e;
  }

  same_call : (c d : Pending) → Some c ≡ Some d → c ≡ d
  same_call c d e = cc

  module _ (q : ℕ) (below : q < layout.passes) (call : Pending) (h : LegalUpTo at q last (Some call)) where
    abbrev s : ℕ
    s = call.since

    abbrev seen : List Change
    seen = (at s).core.changes

    low : s ≤ last
    low = let l = h.0 in omega (arith, l)

    before : List Note
    before = ((at s).known q).notes

    -- its calls that have responded, where it invoked this one
    then : LegalCalls seen q ((at s).known q).notes
    then = legal_longer ((at s).known q).front seen q ((at s).known q).notes h.1 (others_at s low q below) (sound_at s low).lawful.core.told.legal

    completes : (notes : List Note) → LegalCalls changes q (((at s).known q).notes ++ notes) → All (λ n. length seen ≤ n.place) notes → Completes last at q (Some call) notes
    completes notes legal placed = record {
      none = λ e. none_some call (notes ≡ []) (sym e);
      legal = legal;
      placed = λ c e. subst (λ (z : Pending). All (λ n. length (at z.since).core.changes ≤ n.place) notes) (same_call call c e) placed;
    }

    -- By what it has done

    since_then : changes ≡ seen ++ drop (length seen) changes
    since_then =
        let more = grown layout last at happens run s last low (le_refl last) in
        more.1 ∙ ap (λ l. seen ++ l) (sym (ap (drop (length seen)) more.1 ∙ drop-append_seam seen more.0))

    legal_since : LegalFrom (map_of seen) (drop (length seen) changes)
    legal_since = legal_on [] seen (drop (length seen) changes) (subst (LegalFrom []) since_then change_legal)

    by_effect : Completes last at q (Some call) (completion_of at changes q (Some call))
    by_effect = completes (completion_of at changes q (Some call))
        (subst (λ l. LegalCalls l q (((at s).known q).notes ++ completion_of at changes q (Some call))) (sym since_then)
        (makers_legal q call.calls (drop (length seen) changes) seen ((at s).known q).notes then legal_since))
        (makers_behind q call.calls (drop (length seen) changes) seen (length seen) (le_refl (length seen)) legal_since)

    -- As it was asked

    unchanged : OthersGoOn q seen changes → Completes last at q (Some call) []
    unchanged others = completes []
        (subst (LegalCalls changes q) (sym (append-nil ((at s).known q).notes)) (legal_longer seen changes q ((at s).known q).notes then others change_legal))
        (All-nil (λ n. length seen ≤ n.place))

    changed_once : (asked : Call) → HasChangedOnce q asked seen changes → (notes : List Note) × Completes last at q (Some call) notes × (map (λ n. n.call) notes ≡ asked ∷ [])
    changed_once asked x =
        let n : Note = replied x.meanwhile asked in
        let all : BeginsWith changes (x.meanwhile ++ x.change ∷ []) = (x.since.0, x.since.1) in
        let now = legal_front_part (x.meanwhile ++ x.change ∷ []) changes all change_legal in
        let legal_until = legal_front_part x.meanwhile (x.meanwhile ++ x.change ∷ []) (x.change ∷ [], refl) now in
        let legal = legal_longer seen x.meanwhile q ((at s).known q).notes then x.until legal_until in
        let made = legal_change x.meanwhile q ((at s).known q).notes n x.change legal refl refl x.made in
        let least = longer x.meanwhile seen (x.until.0, x.until.1) in (
          n ∷ [],
          completes (n ∷ []) (legal_longer (x.meanwhile ++ x.change ∷ []) changes q (((at s).known q).notes ++ n ∷ []) made x.since change_legal)
              (All-cons (λ n. length seen ≤ n.place) n [] least (All-nil (λ n. length seen ≤ n.place))),
          refl,
        )

  -- what completes the call of pass q
  abbrev Completion : ℕ → Option Pending → Type 0
  Completion q o = (notes : List Note) × (q < layout.passes → Completes last at q o notes) × IsAppended o notes

  nothing : (q : ℕ) → layout.passes ≤ q → (o : Option Pending) → Completion q o
  nothing q high None = ([], (λ low. absurd (omega arith)), refl)
  nothing q high (Some call) = ([], (λ low. absurd (omega arith)), inl refl)

  module _ (asked : ChangeAsAsked layout last at) where
    answered : (q : ℕ) → q < layout.passes → (call : Pending) → LegalUpTo at q last (Some call) → ChangesAsAsked q call.calls (at call.since).core.changes changes → Completion q (Some call)
    answered q below call h (inl others) = ([], (λ _. unchanged q below call h others), inl refl)
    answered q below call h (inr (one, is, once)) = let x = changed_once q below call h one once in (x.0, (λ _. x.1), inr (x.2 ∙ sym is))

    completion : (q : ℕ) → q < layout.passes → (o : Option Pending) → (at last).pending q ≡ o → LegalUpTo at q last o → Completion q o
    completion q below None is h = ([], (λ _. rests q below h), refl)
    completion q below (Some call) is h = answered q below call h (asked q below call is)

    completion_of_each : (q : ℕ) → Completion q ((at last).pending q)
    completion_of_each q = ⊎_elim
        (λ below. completion q below ((at last).pending q) refl (calls_legal layout last at happens run last (le_refl last) q below))
        (λ high. nothing q high ((at last).pending q)) (cases_lt q layout.passes)

  effect : (q : ℕ) → q < layout.passes → (o : Option Pending) → LegalUpTo at q last o → Completes last at q o (completion_of at changes q o)
  effect q below None h = rests q below h
  effect q below (Some call) h = by_effect q below call h

as_asked : (layout : Layout) (last : ℕ) (at : ℕ → Configuration) (happens : ℕ → Happening) → IsWholeRun layout last at happens → ChangeAsAsked layout last at → IsLinearizable layout last at happens
as_asked layout last at happens run asked =
    let added : ℕ → List Note = λ q. (completion_of_each layout last at happens run asked q).0 in
    let all : AllComplete layout last at added = λ q low. (completion_of_each layout last at happens run asked q).1 low in
    (added, (λ q. (completion_of_each layout last at happens run asked q).2), in_one_order layout last at happens run added all)

-- Calls that end later

no_effect : (key : List ℕ) (reply : Reply) → effect_of (Get key) reply ≡ None
no_effect key reply = refl

-- a get makes no change
pub no_change : (q : ℕ) (n : Note) (key : List ℕ) → n.call ≡ Get key → change_of q n ≡ None
no_change q n key e = ap (λ (o : Option (Kind × ℕ)). option_map (λ effect. record { pass = q; key = key_of n.call; value = effect.1; kind = effect.0 }) o)
    (ap (λ (c : Call). effect_of c n.reply) e ∙ no_effect key n.reply)

-- a call looks up
abbrev LooksUp : Call → Type 0
LooksUp call = (key : List ℕ) × (call ≡ Get key)

all_look_up : (keys : List (List ℕ)) → All LooksUp (map Get keys)
all_look_up [] = All-nil LooksUp
all_look_up (key ∷ keys) = All-cons LooksUp (Get key) (map Get keys) (key, refl) (all_look_up keys)

look_ups : (q : ℕ) (notes : List Note) → All LooksUp (map (λ n. n.call) notes) → changes_of q notes ≡ []
look_ups q [] all = refl
look_ups q (n ∷ notes) all =
    let (key, is) = All-head LooksUp n.call (map (λ n. n.call) notes) all in
    ap (λ o. cons_option o (changes_of q notes)) (no_change q n key is) ∙ look_ups q notes (All-tail LooksUp n.call (map (λ n. n.call) notes) all)

module _ (layout : Layout) (last later : ℕ) (at : ℕ → Configuration) (happens : ℕ → Happening) (low : last ≤ later) (run : IsWholeRun layout later at happens) where
  until : IsWholeRun layout last at happens
  until = record { new = run.new; next = λ t lower. run.next t (omega (arith, low, lower)) }

  one_or_quiet : (q : ℕ) (calls : List Call) (notes : List Note) → IsPermutation calls (map (λ n. n.call) notes) → AsksOneOrLooksUp calls →
      ((asked : Call) × (calls ≡ asked ∷ [])) ⊎ (changes_of q notes ≡ [])
  one_or_quiet q calls notes same (inl one) = inl one
  one_or_quiet q calls notes same (inr (keys, is)) = inr (look_ups q notes (All-permutation LooksUp calls (map (λ n. n.call) notes) same (subst (All LooksUp) (sym is) (all_look_up keys))))

  module _ (q : ℕ) (below : q < layout.passes) (call : Pending) (is : (at last).pending q ≡ Some call) where
    since : call.since ≤ last
    since = let early = (subst (LegalUpTo at q last) is (calls_legal layout last at happens until last (le_refl last) q below)).0 in omega (arith, early)

    ended : AsksOneOrLooksUp call.calls → EndsWithin at last later q call → ChangesAsAsked q call.calls (at call.since).core.changes (at last).core.changes
    ended asks (t, from, upto, inl (notes, x)) =
        answered_calls_change_as_asked layout later at happens run q t call notes below upto x (one_or_quiet q call.calls notes x.calls asks) last since from
    ended asks (t, from, upto, inr x) = inl (refused_change_nothing layout later at happens run q t call below upto x last since from)

  all_as_asked : PendingEndOrChangeAsAsked layout last later at → ChangeAsAsked layout last at
  all_as_asked h q below call is = ⊎_elim (λ x. ended q below call is x.0 x.1) (λ x. x) (h q below call is)

pub linearizable : Linearizable
linearizable layout last later at happens low run h =
    as_asked layout last at happens (until layout last later at happens low run) (all_as_asked layout last later at happens low run h)

pub ordered_by_effect : OrderedByEffect
ordered_by_effect layout last at happens run = in_one_order layout last at happens run (completions last at)
    (λ q low. effect layout last at happens run q low ((at last).pending q) (calls_legal layout last at happens run last (le_refl last) q low))
