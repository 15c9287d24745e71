-- An index whose passes are kept by the handle of the last one.
use Rattle.hot_c.proofs.Common.{◌≡◌, ℕ, suc, ◌+◌, List, [], ◌∷◌, ◌++◌, length, map, reverse, All, Box, Some, Result, Ok, Err, IfOk, IsErrAnd, MatchResult, refl, sym, ap, ◌∙◌, subst, arith, length-append, Global, slice_get, length-map, length-reverse, All-nil, All-cons, Layout, TableView, Owns, PassView, HandleView, handle_at}
use Rattle.hot_c.specs.Calls.{KeepsPasses}
use Rattle.hot_c.specs.declared.opened.Opened.{Opened}
use Rattle.hot_c.proofs.opening.Places.{mapped}

-- what holds of each by its place holds of all
pub all_of : {A : Type 0} (P : A → Type 0) (xs : List A) → ((q : ℕ) (x : A) → slice_get xs q ≡ Some x → P x) → All P xs
all_of P [] h = All-nil P
all_of P (x ∷ xs) h = All-cons P x xs (h 0 x refl) (all_of P xs (λ q y e. h (suc q) y e))

at_end : {A : Type 0} (xs : List A) (x : A) → slice_get (xs ++ x ∷ []) (length xs) ≡ Some x
at_end [] x = refl
at_end (y ∷ xs) x = at_end xs x

-- these passes of an index, each as a handle there
module _ (IsPass : TableView → ℕ → PassView → Type 0) (index : TableView) (passes : ℕ) (HasRecords : Layout → Type 0) (closed : List PassView) where
  keeps_passes : (index.layout.passes ≡ passes) × HasRecords index.layout → length closed ≡ passes → ((q : ℕ) (p : PassView) → slice_get closed q ≡ Some p → Owns index p × IsPass index q p)
      → (b : Opened) → reverse b.kept.items ++ b.handle ∷ [] ≡ map (handle_at index) closed → KeepsPasses IsPass passes HasRecords b
  keeps_passes layout count each b all =
      let kept = b.kept.items in let handle = b.handle in
      let found = λ (q : ℕ) (h : HandleView) (got : slice_get (reverse kept ++ handle ∷ []) q ≡ Some h).
      mapped (handle_at index) closed q h (subst (λ l. slice_get l q ≡ Some h) all got) in
      let last = found (length (reverse kept)) handle (at_end (reverse kept) handle) in
      let mine : handle.index ≡ index = ap (λ (h : HandleView). h.index) (sym last.2) in
      let long = ap length all in let short = length-map closed (handle_at index) in let same = length-reverse kept in let more = length-append (reverse kept) (handle ∷ []) in
      record {
        layout = subst (λ (i : TableView). (i.layout.passes ≡ passes) × HasRecords i.layout) (sym mine) layout;
        count = omega (arith, long, short, same, more, count);
        each = λ q h got. let it = found q h got in
            (ap (λ (x : HandleView). x.index) (sym it.2) ∙ sym mine, subst (λ (i : TableView). IsPass i q h.pass) (sym mine) (subst (λ (x : HandleView). IsPass index q x.pass) it.2 (each q it.0 it.1).1));
      }

  pub passes_kept : {E : Type 0} (r : Result (Box Opened Global) E) → (index.layout.passes ≡ passes) × HasRecords index.layout → length closed ≡ passes
      → ((q : ℕ) (p : PassView) → slice_get closed q ≡ Some p → Owns index p × IsPass index q p) → IfOk r (λ b. reverse b.value.kept.items ++ b.value.handle ∷ [] ≡ map (handle_at index) closed)
      → IfOk r (λ b. KeepsPasses IsPass passes HasRecords b.value)
  passes_kept (Ok x) layout count each all = keeps_passes layout count each x.value all
  passes_kept (Err e) layout count each all = tt

-- with the fault told by another name
pub told_as : {E D : Type 0} (Q : E → D → Type 0) (IsMade : Box Opened Global → Type 0) (r : Result (Box Opened Global) E) (s : Result (Box Opened Global) D) → MatchResult r (λ x. s ≡ Ok x) (λ e. IsErrAnd s (Q e))
    → IfOk r IsMade → IfOk s IsMade
told_as Q IsMade (Ok x) s same made = subst (λ t. IfOk t IsMade) (sym same) made
told_as Q IsMade (Err e) (Err d) same made = tt
told_as Q IsMade (Err e) (Ok x) same made = absurd same
