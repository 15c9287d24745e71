-- Where each record is free or in the tree, no record is lost.
use Rattle.index_laws.proofs.Common.{◌≡◌, ◌⊎◌, inl, inr, ℕ, zero, suc, ◌+◌, ◌<◌, refl, sym, ap, ◌∙◌, arith, count_by, range_with_len, false≢true, sum_by-cons, Rec, a_node, a_leaf, Fate, Free, Held, Ready, InTree, Unlinked, Marked, IsLinked, linked_cases, Core, HasRecord, IsLawful, is_in_tree, linked_where}
use Rattle.index_laws.specs.Rest.{NoneIsLost, is_free_fate}
use Rattle.index_laws.proofs.Rounding.{IsPlaced}
use Rattle.index_laws.proofs.Standing.{leaves_in_tree, nodes_in_tree, one_if}

one_of_two : (f : Fate) → IsPlaced f → one_if (is_free_fate f) + one_if (is_in_tree f) ≡ 1
one_of_two Free placed = refl
one_of_two (InTree since) placed = refl
one_of_two (Held q) placed = absurd placed
one_of_two (Ready q) placed = absurd placed
one_of_two (Unlinked since last q) placed = absurd placed
one_of_two (Marked since last epoch) placed = absurd placed

module _ (c : Core) (law : IsLawful c) (placed : (r : Rec) → HasRecord c.layout r → IsPlaced (c.fate r)) where
  stands : (r : Rec) (f : Fate) → c.fate r ≡ f → IsPlaced f → (c.fate r ≡ Free) ⊎ IsLinked (c.past.version c.past.now) r
  stands r Free is ok = inl is
  stands r (InTree since) is ok = elim (linked_cases (c.past.version c.past.now) r) [
    | inl x ↦ inr x.0
    | inr x ↦ absurd (false≢true (sym x.1 ∙ (linked_where c law r ∙ ap is_in_tree is)))
  ]
  stands r (Held q) is ok = absurd ok
  stands r (Ready q) is ok = absurd ok
  stands r (Unlinked since last q) is ok = absurd ok
  stands r (Marked since last epoch) is ok = absurd ok

  -- of the records of a kind, from one number on, those that are free and those in the tree are all
  both : (kind : ℕ → Rec) (a n : ℕ) → ((i : ℕ) → i < a + n → IsPlaced (c.fate (kind i))) →
      count_by (λ i. is_free_fate (c.fate (kind i))) (range_with_len a n) + count_by (λ i. is_in_tree (c.fate (kind i))) (range_with_len a n) ≡ n
  both kind a zero each = refl
  both kind a (suc n) each =
      let free = sum_by-cons (λ i. one_if (is_free_fate (c.fate (kind i)))) a (range_with_len (a + 1) n) in
      let tree = sum_by-cons (λ i. one_if (is_in_tree (c.fate (kind i)))) a (range_with_len (a + 1) n) in
      let one = one_of_two (c.fate (kind a)) (each a (omega arith)) in
      omega (arith, free, tree, one, both kind (a + 1) n (λ i low. each i (omega (arith, low))))

  pub none_is_lost : NoneIsLost c
  none_is_lost =
      let leaf_sum = both a_leaf 0 c.layout.leaves (λ i low. placed (a_leaf i) (omega (arith, low))) in
      let node_sum = both a_node 0 c.layout.nodes (λ i low. placed (a_node i) (omega (arith, low))) in
      let leaf_count = leaves_in_tree c law in
      let node_count = nodes_in_tree c law in
      record {
        each = λ r has. stands r (c.fate r) refl (placed r has);
        leaves = omega (arith, leaf_sum, leaf_count);
        nodes = omega (arith, node_sum, node_count);
      }
