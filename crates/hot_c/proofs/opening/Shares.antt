-- New passes, in boxes and behind handles.
use Rattle.hot_c.proofs.Common.{◌≡◌, ℕ, List, [], ◌∷◌, length, map, Box, Vec, Option, Some, Result, Ok, Err, IfOk, IsErrAnd, MatchResult, refl, sym, ap, ◌∙◌, subst, Global, slice_get, length-map, Layout, TableView}
use Rattle.hot_c.specs.Calls.{AreNewHandles, HaveOpenedOn, IsNewShare}
use Rattle.hot_c.specs.declared.handle.IndexHandle.{IndexHandle}
use Rattle.hot_c.specs.declared.opened.Opened.{Opened}
use Rattle.hot_c.proofs.opening.Places.{mapped}

abbrev pub Shared : Type 0
Shared = Box Opened Global

-- each has its share of the index, and the pass of its place, and keeps no other
abbrev pub AreShares : TableView → List Shared → Type 0
AreShares index shared = (q : ℕ) (b : Shared) → slice_get shared q ≡ Some b → IsNewShare index q b.value

pub are_new : {E D : Type 0} (Q : E → D → Type 0) (index : TableView) (passes count : ℕ) (HasRecords : Layout → Type 0) (r : Result (Vec Shared Global) E) (s : Result (Vec Shared Global) D)
    → MatchResult r (λ x. s ≡ Ok x) (λ e. IsErrAnd s (Q e)) → (index.layout.passes ≡ passes) × HasRecords index.layout → count ≡ passes
    → IfOk r (λ shared. length shared.items ≡ count) → IfOk r (λ shared. AreShares index shared.items) → IfOk s (λ made. AreNewHandles passes HasRecords (map (λ b. b.value) made.items))
are_new Q index passes count HasRecords (Ok x) s same layout all long each = subst (λ t. IfOk t (λ made. AreNewHandles passes HasRecords (map (λ b. b.value) made.items))) (sym same) (record {
  index = index;
  layout = layout;
  count = length-map x.items (λ (b : Shared). b.value) ∙ long ∙ all;
  each = λ q o got. let found = mapped (λ (b : Shared). b.value) x.items q o got in
      subst (IsNewShare index q) found.2 (each q found.0 found.1);
})
are_new Q index passes count HasRecords (Err e) (Err d) same layout all long each = tt
are_new Q index passes count HasRecords (Err e) (Ok x) same layout all long each = absurd same

some_of_each : (boxes : List Shared) → map (λ b. Some b.value) boxes ≡ map Some (map (λ b. b.value) boxes)
some_of_each [] = refl
some_of_each (b ∷ boxes) = ap (λ (rest : List (Option Opened)). Some b.value ∷ rest) (some_of_each boxes)

pub have_opened : (passes : ℕ) (HasRecords : Layout → Type 0) (handles : List IndexHandle) (boxes : List Shared) → map (λ h. h.cell.opened) handles ≡ map (λ b. Some b.value) boxes
    → AreNewHandles passes HasRecords (map (λ b. b.value) boxes) → HaveOpenedOn HasRecords handles
have_opened passes HasRecords handles boxes held new =
    let many : length handles ≡ passes = sym (length-map handles (λ (h : IndexHandle). h.cell.opened)) ∙ ap length held ∙ length-map boxes (λ (b : Shared). Some b.value)
    ∙ sym (length-map boxes (λ (b : Shared). b.value)) ∙ new.count in
    (map (λ b. b.value) boxes, held ∙ some_of_each boxes, subst (λ n. AreNewHandles n HasRecords (map (λ b. b.value) boxes)) (sym many) new)
