-- The locks that steps try: each once at most.
use Rattle.rowex_writing.proofs.Common.{◌≡◌, inl, inr, ℕ, zero, suc, ◌+◌, ◌-◌, ◌<◌, ◌≤◌, List, [], ◌∷◌, ◌++◌, length, get_or, take, drop, map, refl, sym, ap, subst, ◌∙◌, arith, All, slice_range, append-nil, length-append, All-append, All-cons, All-head, All-nil, All-tail, PathNode, AreApart, IsOneOf, of_append, of_map, Act, Lock, Event, Target, Anchor, NodeTarget, Steps, TableView, SeatView, runs_append, runs_one}
use Rattle.rowex_writing.specs.locks.Going.{IsStepUnderLocks}
use Rattle.rowex_writing.specs.locks.Locks.{TriesBy, TriesNodesBy, TriesOnceBy, TriesLocksOnce, numbers_of, targets_of}
use Rattle.rowex_writing.proofs.locks.Spans.{slice_more}

-- ---- of two lists
pub targets_append : (xs ys : List Act) → targets_of (xs ++ ys) ≡ targets_of xs ++ targets_of ys
targets_append [] ys = refl
targets_append (Lock target found ∷ xs) ys = ap (λ z. target ∷ z) (targets_append xs ys)
targets_append (act ∷ xs) ys = targets_append xs ys

-- no lock is tried after the first
pub once_before : (xs ys : List Act) → TriesLocksOnce xs → targets_of ys ≡ [] → TriesLocksOnce (xs ++ ys)
once_before xs ys once none = subst AreApart (sym (targets_append xs ys ∙ (ap (λ z. targets_of xs ++ z) none ∙ append-nil (targets_of xs)))) once

-- or before the second
pub once_after : (xs ys : List Act) → targets_of xs ≡ [] → TriesLocksOnce ys → TriesLocksOnce (xs ++ ys)
once_after xs ys none once = subst AreApart (sym (targets_append xs ys ∙ ap (λ z. z ++ targets_of ys) none)) once

pub no_lock_is_tried : (acts : List Act) → All IsStepUnderLocks acts → targets_of acts ≡ []
no_lock_is_tried [] all = refl
no_lock_is_tried (Lock target found ∷ acts) all = absurd (All-head IsStepUnderLocks (Lock target found) acts all)
no_lock_is_tried (act ∷ acts) all = no_lock_is_tried acts (All-tail IsStepUnderLocks act acts all)

-- ---- lists in which none stands twice
apart_end : {X : Type 0} (x : X) (xs : List X) → AreApart xs → (IsOneOf x xs → ⊥) → AreApart (xs ++ x ∷ [])
apart_end x [] apart new = ((λ i. i), tt)
apart_end x (y ∷ xs) apart new = (
  λ i. elim (of_append y xs (x ∷ []) i) [ inl older ↦ apart.0 older | inr last ↦ elim last [ inl e ↦ new (inl (sym e)) | inr none ↦ none ] ],
  apart_end x xs apart.1 (λ i. new (inr i)),
)

of_take : (n number : ℕ) (way : List PathNode) → IsOneOf number (numbers_of (take n way)) → IsOneOf number (numbers_of way)
of_take zero number way i = absurd i
of_take (suc n) number [] i = i
of_take (suc n) number (s ∷ way) (inl e) = inl e
of_take (suc n) number (s ∷ way) (inr i) = inr (of_take n number way i)

apart_take : (n : ℕ) (way : List PathNode) → AreApart (numbers_of way) → AreApart (numbers_of (take n way))
apart_take zero way apart = tt
apart_take (suc n) [] apart = tt
apart_take (suc n) (s ∷ way) apart = (λ i. apart.0 (of_take n s.number way i), apart_take n way apart.1)

apart_drop : (n : ℕ) (way : List PathNode) → AreApart (numbers_of way) → AreApart (numbers_of (drop n way))
apart_drop zero way apart = apart
apart_drop (suc n) [] apart = tt
apart_drop (suc n) (s ∷ way) apart = apart_drop n way apart.1

-- a node of a way is none of those that follow
pub number_new : (way : List PathNode) (i j : ℕ) (d : PathNode) → i < j → j ≤ length way → AreApart (numbers_of way) → IsOneOf (get_or way i d).number (numbers_of (slice_range way (i + 1) j)) → ⊥
number_new way i j d low high apart =
    (subst (λ z. AreApart (numbers_of z)) (slice_more way i j d low high) (apart_take (j - i) (drop i way) (apart_drop i way apart))).0

-- ---- steps of a pass
same_number : (n m : ℕ) → NodeTarget n ≡ NodeTarget m → n ≡ m
same_number n m e = ap number_of e
  where
    number_of : Target → ℕ
    number_of (NodeTarget i) = i
    number_of Anchor = 0

module _ {G : Type 0} {Is : Act → Type 0} (table : TableView) (becomes : G → Event → G → Type 0) where
  pub tries_none : (a : SeatView × G) → TriesBy Is table becomes [] a a
  tries_none a = record { acts = []; each = All-nil Is; tried_are = refl; steps = refl }

  pub tries_one : (act : Act) (a b : SeatView × G) → Is act → Steps table becomes act a b → TriesBy Is table becomes (targets_of (act ∷ [])) a b
  tries_one act a b is s = record { acts = act ∷ []; each = All-cons Is act [] is (All-nil Is); tried_are = refl; steps = runs_one table becomes act a b s }

  pub tries_more : {s t : List Target} (a m b : SeatView × G) → TriesBy Is table becomes s a m → TriesBy Is table becomes t m b → TriesBy Is table becomes (s ++ t) a b
  tries_more {s} {t} a m b first second = record {
    acts = first.acts ++ second.acts;
    each = All-append Is first.acts second.acts first.each second.each;
    tried_are = targets_append first.acts second.acts ∙ (ap (λ z. z ++ targets_of second.acts) first.tried_are ∙ ap (λ z. s ++ z) second.tried_are);
    steps = runs_append table becomes first.acts second.acts a m b first.steps second.steps;
  }

  -- each lock is tried once at most, where none is tried after it
  pub once_then : {locks : ℕ} (a m b : SeatView × G) → TriesOnceBy Is table becomes locks a m → TriesBy Is table becomes [] m b → TriesOnceBy Is table becomes locks a b
  unfolding tries_more
  once_then a m b (tried, run, once, count) works = (tried ++ [], tries_more a m b run works, once_before run.acts works.acts once works.tried_are, ap length (append-nil tried) ∙ count)

  -- or before it
  pub then_once : {locks : ℕ} (a m b : SeatView × G) → TriesBy Is table becomes [] a m → TriesOnceBy Is table becomes locks m b → TriesOnceBy Is table becomes locks a b
  unfolding tries_more
  then_once a m b first (tried, run, once, count) = (tried, tries_more {s = []} a m b first run, once_after first.acts run.acts first.tried_are once, count)

module _ {G : Type 0} {Is : Act → Type 0} (table : TableView) (becomes : G → Event → G → Type 0) where
  pub nodes_none : (a : SeatView × G) → TriesNodesBy Is table becomes [] a a
  unfolding tries_none
  nodes_none a = record { tried = []; run = tries_none table becomes a; once = tt; count = refl; among = λ t i. i }

  pub nodes_once : (ns : List ℕ) (a b : SeatView × G) → TriesNodesBy Is table becomes ns a b → TriesOnceBy Is table becomes (length ns) a b
  nodes_once ns a b h = (h.tried, h.run, h.once, h.count)

  -- none more
  pub nodes_then : (ns : List ℕ) (a m b : SeatView × G) → TriesNodesBy Is table becomes ns a m → TriesBy Is table becomes [] m b → TriesNodesBy Is table becomes ns a b
  unfolding tries_more
  nodes_then ns a m b h works = record {
    tried = h.tried ++ [];
    run = tries_more table becomes a m b h.run works;
    once = once_before h.run.acts works.acts h.once works.tried_are;
    count = ap length (append-nil h.tried) ∙ h.count;
    among = λ t i. h.among t (subst (IsOneOf t) (append-nil h.tried) i);
  }

  -- a lock more, which is none of those before
  apart_more : (target : Target) (tried : List Target) (a b : SeatView × G) (run : TriesBy Is table becomes tried a b) → TriesLocksOnce run.acts → (IsOneOf target tried → ⊥) → AreApart (tried ++ target ∷ [])
  apart_more target tried a b run once new = apart_end target tried (subst AreApart run.tried_are once) new

  -- of a node
  pub nodes_more : (n : ℕ) (ns : List ℕ) (a m b : SeatView × G) → (IsOneOf n ns → ⊥) → TriesNodesBy Is table becomes ns a m → TriesBy Is table becomes (NodeTarget n ∷ []) m b → TriesNodesBy Is table becomes (n ∷ ns) a b
  nodes_more n ns a m b new h lock =
      let all = tries_more table becomes a m b h.run lock in
      record { tried = h.tried ++ NodeTarget n ∷ []; run = all; once = subst AreApart (sym all.tried_are) (apart_more (NodeTarget n) h.tried a m h.run h.once none); count = omega (arith, length-append h.tried (NodeTarget n ∷ []), h.count); among = within }
    where
      none : IsOneOf (NodeTarget n) h.tried → ⊥
      none i = let (x, there, e) = of_map NodeTarget (NodeTarget n) ns (h.among (NodeTarget n) i) in new (subst (λ z. IsOneOf z ns) (sym (same_number n x e)) there)

      within : (t : Target) → IsOneOf t (h.tried ++ NodeTarget n ∷ []) → IsOneOf t (map NodeTarget (n ∷ ns))
      within t i = elim (of_append t h.tried (NodeTarget n ∷ []) i) [ inl older ↦ inr (h.among t older) | inr last ↦ elim last [ inl e ↦ inl e | inr nothing ↦ absurd nothing ] ]

  -- of the anchor
  pub anchor_more : (ns : List ℕ) (a m b : SeatView × G) → TriesNodesBy Is table becomes ns a m → TriesBy Is table becomes (Anchor ∷ []) m b → TriesOnceBy Is table becomes (suc (length ns)) a b
  anchor_more ns a m b h lock =
      let all = tries_more table becomes a m b h.run lock in (h.tried ++ Anchor ∷ [], all, subst AreApart (sym all.tried_are) (apart_more Anchor h.tried a m h.run h.once none), omega (arith, length-append h.tried (Anchor ∷ []), h.count))
    where
      none : IsOneOf Anchor h.tried → ⊥
      none i = let (x, there, e) = of_map NodeTarget Anchor ns (h.among Anchor i) in cc
