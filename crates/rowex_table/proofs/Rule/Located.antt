-- A record that was located, as a node's or a leaf's.
use Rattle.rowex_table.proofs.Common.{◌≡◌, ◌∙◌, ℕ, ap, subst, sym, Layout, a_node, a_leaf}
use Rattle.rowex_table.specs.declared.record_steps.RecordAt.{RecordAt}
use Rattle.rowex_table.specs.Rule.{IsLeafRecordAt, IsNodeRecordAt, IsStartOf, record_number}

pub node_at : (layout : Layout) (n : ℕ) (at : RecordAt) → at.rec ≡ a_node n → IsStartOf layout (a_node n) at.start → IsNodeRecordAt layout at
node_at layout n at is start = let same = sym (ap record_number is) in (is ∙ ap a_node same, subst (λ k. IsStartOf layout (a_node k) at.start) same start)

pub leaf_at : (layout : Layout) (l : ℕ) (at : RecordAt) → at.rec ≡ a_leaf l → IsStartOf layout (a_leaf l) at.start → IsLeafRecordAt layout at
leaf_at layout l at is start = let same = sym (ap record_number is) in (is ∙ ap a_leaf same, subst (λ k. IsStartOf layout (a_leaf k) at.start) same start)
