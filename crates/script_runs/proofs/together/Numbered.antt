-- Lists whose items are numbered, and three lists side by side.
use Rattle.script_runs.proofs.Common.{◌≡◌, ℕ, suc, ◌+◌, List, [], ◌∷◌, ◌++◌, length, map, Some, refl, sym, ap, subst, ◌∙◌, arith, All, AllZip, slice_get, zip, All-nil, All-cons, All-head, All-tail, HandleView, handle_at, PassView, Owns, Event, TableView, Command}
use Rattle.script_runs.specs.declared.answer.Done.{Done}
use Rattle.script_runs.specs.declared.together.Order.{Order}
use Rattle.script_runs.specs.Progress.{AllThree, AreAt, HasRunItsOrder, IsDone, IsNewPassOf, IsOrderOf}
use Rattle.script_runs.specs.Scripts.{AllFrom}

module _ {A : Type 0} (p : ℕ → A → Type 0) where
  AllFrom-each : (first : ℕ) (xs : List A) → ((q : ℕ) (x : A) → slice_get xs q ≡ Some x → p (first + q) x) → AllFrom first p xs
  AllFrom-each first [] h = tt
  AllFrom-each first (x ∷ xs) h =
      let now : first + 0 ≡ first = omega arith in (
        subst (λ n. p n x) now (h 0 x refl),
        AllFrom-each (first + 1) xs (λ q y is. let next : first + suc q ≡ (first + 1) + q = omega arith in subst (λ n. p n y) next (h (suc q) y is)),
      )

  pub AllFrom-zero : (xs : List A) → ((q : ℕ) (x : A) → slice_get xs q ≡ Some x → p q x) → AllFrom 0 p xs
  AllFrom-zero xs h = AllFrom-each 0 xs (λ q x is. let same : q ≡ 0 + q = omega arith in subst (λ n. p n x) same (h q x is))

  pub AllFrom-append : (first : ℕ) (xs ys : List A) → AllFrom first p xs → AllFrom (first + length xs) p ys → AllFrom first p (xs ++ ys)
  AllFrom-append first [] ys h l = let none : first + 0 ≡ first = omega arith in subst (λ n. AllFrom n p ys) none l
  AllFrom-append first (x ∷ xs) ys h l =
      let next : first + suc (length xs) ≡ (first + 1) + length xs = omega arith in
      (h.0, AllFrom-append (first + 1) xs ys h.1 (subst (λ n. AllFrom n p ys) next l))

  pub AllFrom-left : (first : ℕ) (xs ys : List A) → AllFrom first p (xs ++ ys) → AllFrom first p xs
  AllFrom-left first [] ys h = tt
  AllFrom-left first (x ∷ xs) ys h = (h.0, AllFrom-left (first + 1) xs ys h.1)

  pub AllFrom-right : (first : ℕ) (xs ys : List A) → AllFrom first p (xs ++ ys) → AllFrom (first + length xs) p ys
  AllFrom-right first [] ys h = let none : first ≡ first + 0 = omega arith in subst (λ n. AllFrom n p ys) none h
  AllFrom-right first (x ∷ xs) ys h =
      let next : (first + 1) + length xs ≡ first + suc (length xs) = omega arith in
      subst (λ n. AllFrom n p ys) next (AllFrom-right (first + 1) xs ys h.1)

module _ (index : TableView) where
  -- new passes are the index's
  pub owns_first : (first : ℕ) (passes : List PassView) → AllFrom first (IsNewPassOf index) passes → All (Owns index) passes
  owns_first first [] h = All-nil (Owns index)
  owns_first first (p ∷ passes) h = All-cons (Owns index) p passes h.0.0 (owns_first (first + 1) passes h.1)

  -- and so with gates
  pub first_with : {G : Type 0} (first : ℕ) (passes : List PassView) (gates : List G) → AllFrom first (IsNewPassOf index) passes
      → AllFrom first (λ q a. IsNewPassOf index q a.0) (zip passes gates)
  first_with first [] gates h = tt
  first_with first (p ∷ passes) [] h = tt
  first_with first (p ∷ passes) (g ∷ gates) h = (h.0, first_with (first + 1) passes gates h.1)

  -- the handle of a pass at the index, beside a gate
  abbrev pub seat_at : {G : Type 0} → PassView × G → HandleView × G
  seat_at a = (handle_at index a.0, a.1)

  pub zip_at : {G : Type 0} (passes : List PassView) (gates : List G) → zip (map (handle_at index) passes) gates ≡ map seat_at (zip passes gates)
  zip_at [] gates = refl
  zip_at (p ∷ passes) [] = refl
  zip_at (p ∷ passes) (g ∷ gates) = ap (λ seats. seat_at (p, g) ∷ seats) (zip_at passes gates)

  pub all_at : (passes : List PassView) → All (λ h. h.index ≡ index) (map (handle_at index) passes)
  all_at [] = All-nil (λ (h : HandleView). h.index ≡ index)
  all_at (p ∷ passes) = All-cons (λ (h : HandleView). h.index ≡ index) (handle_at index p) (map (handle_at index) passes) refl (all_at passes)

-- what is at an index with this handle is at the handle's
pub at_own : (index : TableView) (handle : HandleView) (done : List Done) → AreAt index handle done → AreAt handle.index handle done
at_own index handle done at = (refl, subst (λ (i : TableView). All (λ d. d.handle.index ≡ i) done) (sym at.0) at.1)

module _ {G : Type 0} (becomes : G → Event → G → Type 0) where
  -- scripts that have run by handles at the index are at it
  pub done_at : (index : TableView) (handles : List HandleView) (gates : List G) (scripts : List (List Command)) (done : List (Done × G))
      → All (λ h. h.index ≡ index) handles → AllThree (IsDone becomes) (zip handles gates) scripts done
      → All (λ d. d.handle.index ≡ index) (map (λ r. r.0) done)
  done_at index [] gates [] [] at h = All-nil (λ (d : Done). d.handle.index ≡ index)
  done_at index [] gates [] (x ∷ done) at h = absurd h
  done_at index [] gates (x ∷ scripts) done at h = absurd h
  done_at index (x ∷ handles) [] [] [] at h = All-nil (λ (d : Done). d.handle.index ≡ index)
  done_at index (x ∷ handles) [] [] (y ∷ done) at h = absurd h
  done_at index (x ∷ handles) [] (y ∷ scripts) done at h = absurd h
  done_at index (x ∷ handles) (g ∷ gates) [] done at h = absurd h
  done_at index (x ∷ handles) (g ∷ gates) (s ∷ scripts) [] at h = absurd h
  done_at index (x ∷ handles) (g ∷ gates) (s ∷ scripts) (d ∷ done) at h =
      All-cons (λ (d : Done). d.handle.index ≡ index) d.0 (map (λ r. r.0) done) (h.0.0 ∙ All-head (λ (h : HandleView). h.index ≡ index) x handles at)
      (done_at index handles gates scripts done (All-tail (λ (h : HandleView). h.index ≡ index) x handles at) h.1)

  pub done_long : (seats : List (HandleView × G)) (scripts : List (List Command)) (done : List (Done × G)) → AllThree (IsDone becomes) seats scripts done
      → length done ≡ length scripts
  done_long [] [] [] h = refl
  done_long [] [] (x ∷ done) h = absurd h
  done_long [] (x ∷ scripts) done h = absurd h
  done_long (x ∷ seats) [] done h = absurd h
  done_long (x ∷ seats) (y ∷ scripts) [] h = absurd h
  done_long (p ∷ seats) (s ∷ scripts) (d ∷ done) h = ap suc (done_long seats scripts done h.1)

  -- what the threads did is what they were started for
  pub all_joined : (seats : List (HandleView × G)) (scripts : List (List Command)) (orders : List (Order G)) (done : List (Done × G))
      → AllThree IsOrderOf seats scripts orders → AllZip (HasRunItsOrder becomes) orders done → AllThree (IsDone becomes) seats scripts done
  all_joined [] [] [] [] h kept = tt
  all_joined [] [] [] (x ∷ done) h kept = absurd kept
  all_joined [] [] (x ∷ orders) done h kept = absurd h
  all_joined [] (x ∷ scripts) orders done h kept = absurd h
  all_joined (x ∷ seats) [] orders done h kept = absurd h
  all_joined (x ∷ seats) (y ∷ scripts) [] done h kept = absurd h
  all_joined (x ∷ seats) (y ∷ scripts) (z ∷ orders) [] h kept = absurd kept
  all_joined (a ∷ seats) (s ∷ scripts) (o ∷ orders) (d ∷ done) h kept =
      let first : IsDone becomes a s d =
      subst (λ a. IsDone becomes a s d) (λ i. (h.0.0 i, h.0.1 i)) (subst (λ s. IsDone becomes (o.handle.value, o.gate.value) s d) h.0.2 kept.0) in
      (first, all_joined seats scripts orders done h.1 kept.1)
