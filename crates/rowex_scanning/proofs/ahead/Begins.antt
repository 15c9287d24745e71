-- The records to which a walk is led are the table's, and are located by its origins.
use Rattle.rowex_scanning.proofs.Common.{◌≡◌, ◌<◌, ℕ, subst, sym, Leaf, Node, a_leaf, a_node, Layout, Known, HasRecord, HasWord, IsLeafRecordAt, IsNodeRecordAt, IsStartOf, IsPossible, HasPlace, IsLedTo}
use Rattle.record_words.specs.Layout.{leaf_size}
use Rattle.rowex_table.specs.declared.record_steps.RecordAt.{RecordAt}
use Rattle.rowex_table.proofs.Rule.Located.{leaf_at, node_at}
use Rattle.rowex_reading.proofs.Seen.Standing.{led_in_table}

module _ (layout other : Layout) (same : other ≡ layout) where
  pub leaf_there : (k : Known) (m n : ℕ) → IsPossible layout k → IsLedTo k m (Leaf n) → HasRecord other (a_leaf n)
  leaf_there k m n possible led = subst (λ l. HasRecord l (a_leaf n)) (sym same) (led_in_table layout k m (Leaf n) possible led)

  pub node_there : (k : Known) (m n h place : ℕ) → IsPossible layout k → HasPlace k m n h place → HasRecord other (a_node n)
  node_there k m n h place possible has = subst (λ l. HasRecord l (a_node n)) (sym same) (led_in_table layout k m (Node n h) possible has.0)

  pub leaf_begins : (n : ℕ) (at : RecordAt) → at.rec ≡ a_leaf n → IsStartOf other (a_leaf n) at.start → IsLeafRecordAt layout at
  leaf_begins n at is start = leaf_at layout n at is (subst (λ l. IsStartOf l (a_leaf n) at.start) same start)

  pub node_begins : (n : ℕ) (at : RecordAt) → at.rec ≡ a_node n → IsStartOf other (a_node n) at.start → IsNodeRecordAt layout at
  node_begins n at is start = node_at layout n at is (subst (λ l. IsStartOf l (a_node n) at.start) same start)

  pub word_there : (n offset : ℕ) (at : RecordAt) → at.rec ≡ a_leaf n → offset < leaf_size other n → HasWord layout at.rec offset
  word_there n offset at is low = subst (λ r. HasWord layout r offset) (sym is) (subst (λ l. offset < leaf_size l n) same low)

  pub begins_there : (n start : ℕ) → IsStartOf other (a_leaf n) start → IsStartOf layout (a_leaf n) start
  begins_there n start is = subst (λ l. IsStartOf l (a_leaf n) start) same is
