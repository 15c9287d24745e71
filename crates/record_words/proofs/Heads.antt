-- The numbers of a node are those of a node and of a head.
use Rattle.record_words.proofs.Common.{◌≡◌, List, ℕ, length, take, refl, sym, ap, take_at, with_unused, NodeView, HeadView, IsLawfulNode, IsHead, IsNode, head_of, same_count}

-- the rows of a node are the used places
pub used_rows : (node : NodeView) → IsLawfulNode node → take (length node.entries) (with_unused node.rows) ≡ node.rows
used_rows node lawful = take_at node.rows _ (length node.entries) (same_count node lawful)

pub is_node : (node : NodeView) → IsLawfulNode node → IsNode node.height node.columns (with_unused node.rows) node.entries
is_node node lawful = record {
  padded = ap with_unused (sym (used_rows node lawful));
  lawful = rw (used_rows node lawful) lawful;
}

pub is_head : (node : NodeView) → IsLawfulNode node → IsHead (length node.rows) node.height node.columns (with_unused node.rows)
is_head node lawful = (node.entries, sym (same_count node lawful), is_node node lawful)

-- heads with the same numbers are the same
pub same_fields : {height tall : ℕ} {columns wide rows sparse : List ℕ} → height ≡ tall → columns ≡ wide → rows ≡ sparse →
    ◌≡◌ {A = HeadView} (record { height = height; columns = columns; rows = rows }) (record { height = tall; columns = wide; rows = sparse })
same_fields heights same_columns same_rows = rw (heights, same_columns, same_rows)

-- the head of the used places is the node's
pub head_used : (node : NodeView) → ◌≡◌ {A = HeadView} (record { height = node.height; columns = node.columns; rows = take (length node.rows) (with_unused node.rows) }) (head_of node)
head_used node = same_fields refl refl (take_at node.rows _ (length node.rows) refl)
