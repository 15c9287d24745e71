-- The loop before a publish, and what may be done with what is held.
use Rattle.publish_laws.proofs.Common.{◌≡◌, inl, inr, ℕ, ◌+◌, ◌-◌, List, [], ◌∷◌, ◌++◌, map, refl, sym, ap, subst, ◌∙◌, append_assoc, ◌<◌, ◌^◌, map-append, IsOffset, Layout, Fill, LoadRef, Release, Value, IsReady, Known, Core, FitsIn, HasWord, IsPacked, Knows, IsEvent, Act, IsOwned, knows_all, owned_used, IsOneOf, AreApart, of_right, all_of, ready_gives_next, recalls_on, later_trans, same_later, value_loaded, silent, HasReadied, IsLater, Made, held_as, recs_of, HoldsMade}
use Rattle.std.proofs.lemmas.List.{append-nil}
use Rattle.rowex_table.specs.Rule.{MayStep}
use Rattle.rowex_core.specs.declared.event.Act.TheVariants.{Ready}
use Rattle.rowex_core.specs.declared.known.Holding.TheVariants.{Held}
use Rattle.rowex_table.specs.Stays.{KeepsRecall, LeavesLocks, LeavesAnchor}
use Rattle.rowex_table.proofs.Made.ActsLeave.{act_leaves}
use Rattle.publish_laws.specs.Loops.{KeepsLoaded, KeepsValues, ReadiesEach, StaysLocked}
use Rattle.publish_laws.specs.Stages.{HasLoaded}

-- What is recalled on and on

pub later_if_same : (k j : Known) → j ≡ k → IsLater k j
later_if_same k j e = same_later k j (ap (λ (z : Known). z.pass) e) (ap (λ (z : Known). z.pin) e) (ap (λ (z : Known). z.front) e) (ap (λ (z : Known). z.facts) e)

pub later_transitive : (k i j : Known) → IsLater k i → IsLater i j → IsLater k j
later_transitive k i j a b = later_trans a b

-- All made ready

pub recs_append : (us vs : List Made) → recs_of (us ++ vs) ≡ recs_of us ++ recs_of vs
recs_append us vs = map-append (λ (m : Made). m.rec) us vs

-- of lists that are apart, the one in the middle is on neither side
middle : {X : Type 0} (xs ys : List X) (x : X) → AreApart (xs ++ x ∷ ys) → (IsOneOf x xs → ⊥) × (IsOneOf x ys → ⊥)
middle [] ys x a = ((λ h. absurd h), a.0)
middle (z ∷ xs) ys x a =
    let m = middle xs ys x a.1 in
    (λ h. elim h [ inl e ↦ a.0 (of_right z xs (x ∷ ys) (inl (sym e))) | inr i ↦ m.0 i ], m.1)

-- a step that leaves what was loaded
pub still_loaded : (layout : Layout) (k i : Known) (act : Act) → KeepsValues act → IsEvent layout act silent k i → KeepsLoaded k i
still_loaded layout k i (LoadRef (Value l) w) values e leaf value h =
    subst (IsOneOf (record { leaf = leaf; value = value })) (sym (value_loaded layout silent k i l w e)) (inr h)
still_loaded layout k i act values e leaf value h = subst (IsOneOf (record { leaf = leaf; value = value })) (sym ((act_leaves layout k i act e).values values)) h

-- a step that leaves the locks and the anchor, and what was loaded
pub still_locked : (layout : Layout) (k i : Known) (act : Act) → KeepsRecall act → LeavesLocks act → LeavesAnchor act → KeepsValues act → IsEvent layout act silent k i → StaysLocked k i
still_locked layout k i act recalls locks anchor values e =
    let n = act_leaves layout k i act e in (recalls_on layout silent k i act recalls e, n.locks locks, n.anchor anchor, still_loaded layout k i act values e)

pub locked_on : (k i j : Known) → StaysLocked k i → StaysLocked i j → StaysLocked k j
locked_on k i j a b = (later_transitive k i j a.0 b.0, b.1 ∙ a.1, b.2 ∙ a.2, λ leaf value h. b.3 leaf value (a.3 leaf value h))

pub locked_same : (k j : Known) → j ≡ k → StaysLocked k j
locked_same k j e =
    (later_if_same k j e, ap (λ (z : Known). z.locks) e, ap (λ (z : Known). z.anchor) e, λ leaf value h. subst (λ (z : Known). HasLoaded z leaf value) (sym e) h)

-- one of them is ready
pub ready_next : (layout : Layout) (done : List Made) (m : Made) (todo : List Made) (k i : Known) → HasReadied k done (m ∷ todo) → IsEvent layout (Ready m.rec) silent k i → HasReadied i (done ++ m ∷ []) todo
ready_next layout done m todo k i has e =
    let sides = middle (recs_of done) (recs_of todo) m.rec (subst AreApart (recs_append done (m ∷ todo)) has.1) in
    (ready_gives_next layout silent k i m done todo e has.0 sides.0 sides.1, subst (λ z. AreApart (recs_of z)) (sym (append_assoc done (m ∷ []) todo)) has.1)

ready_each : (layout : Layout) (done todo : List Made) (k j : Known) → HasReadied k done todo → ReadiesEach layout todo k j → (j.own ≡ map (held_as IsReady) (done ++ todo)) × StaysLocked k j
ready_each layout done [] k j has e =
    (ap (λ (z : Known). z.own) e ∙ (has.0 ∙ (append-nil (map (held_as IsReady) done) ∙ ap (map (held_as IsReady)) (sym (append-nil done)))), locked_same k j e)
ready_each layout done (m ∷ todo) k j has (i, e, rest) =
    let moved : (done ++ m ∷ []) ++ todo ≡ done ++ m ∷ todo = append_assoc done (m ∷ []) todo in
    let next = ready_each layout (done ++ m ∷ []) todo i j (ready_next layout done m todo k i has e) rest in
    (next.0 ∙ ap (map (held_as IsReady)) moved, locked_on k i j (still_locked layout k i (Ready m.rec) tt tt tt tt e) next.1)

-- All that a pass holds it may make ready: then all of it is.
pub readies_all : (layout : Layout) (k j : Known) (news : List Made) → HoldsMade k news → ReadiesEach layout news k j → (j.own ≡ map (held_as IsReady) news) × StaysLocked k j
readies_all layout k j news holds e = ready_each layout [] news k j holds e

-- What a pass holds it may fill where the table has a word, make ready once its words spell a value that has room in it, and give up.
pub holds_rights : (layout : Layout) (k : Known) (done todo : List Made) (m : Made) → HasReadied k done (m ∷ todo) →
    ((offset w : ℕ) → IsOffset m.rec offset → w < 2 ^ 64 → HasWord layout m.rec offset → MayStep layout (λ found. Fill m.rec offset w) k) ×
    (IsPacked m.rec m.words → FitsIn layout m.rec m.words → MayStep layout (λ found. Ready m.rec) k) × MayStep layout (λ found. Release m.rec) k
holds_rights layout k done todo m has = (
  λ offset w at low there c law layout_is known.
      (let owned = owned_here c known in (known.pass, (owned_used c law k.pass (held_as Held m) owned, owned.0, at, low, subst (λ (z : Layout). HasWord z m.rec offset) (sym layout_is) there))),
  λ packed room c law layout_is known.
      (let owned = owned_here c known in (
        known.pass,
        (
          owned_used c law k.pass (held_as Held m) owned,
          owned.0,
          subst (IsPacked m.rec) (sym owned.1) packed,
          subst (λ (z : Layout). FitsIn z m.rec (c.words m.rec)) (sym layout_is) (subst (FitsIn layout m.rec) (sym owned.1) room),
        ),
      )),
  λ c law layout_is known. (let owned = owned_here c known in (known.pass, (owned_used c law k.pass (held_as Held m) owned, owned.0))),
)
  where
    here : IsOneOf (held_as Held m) k.own
    here = subst (IsOneOf (held_as Held m)) (sym has.0) (of_right (held_as Held m) (map (held_as IsReady) done) (held_as Held m ∷ map (held_as Held) todo) (inl refl))

    owned_here : (c : Core) → Knows c k → IsOwned k.pass c (held_as Held m)
    owned_here c known = all_of (IsOwned k.pass c) (held_as Held m) k.own (knows_all c k known).own here
