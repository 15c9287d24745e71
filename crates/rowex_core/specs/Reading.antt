-- What the words of a record say, and what words and entries a tree has. The words of a record are those from offset 1 on.
use Rattle.std.specs.Prelude.{◌≡◌, ℕ, ◌-◌, ◌<◌, List, length, get_or, take, drop, Option, Some, None, nat_lt, if◌then◌else◌}
use Rattle.compound_node.specs.declared.entries.Entry.{Entry}
use Rattle.compound_node.specs.declared.entries.Entry.TheVariants.{Leaf, Node}
use Rattle.compound_node.specs.Nodes.{NodeView}
use Rattle.partial_keys.specs.Shown.{piece_of}
use Rattle.node_tries.specs.Piece.{size}
use Rattle.record_words.specs.declared.TheConstants.{FIELDS_OFFSET, HEAD_WORDS}
use Rattle.record_words.specs.Decoding.{columns_in, count_in, entries_of, numbers_in, height_in, leaf_key_in, rows_in, leaf_value_in}
use Rattle.record_words.specs.Packed.{fixed_words}
use Rattle.record_words.specs.Node.{HasNodeWords, node_words}
use Rattle.record_words.specs.Leaf.{HasLeafWords, leaf_words, up_to_key, words_for}
use Rattle.tries.specs.Tree.{Tree, leaf, node, fork, subtrie, Fixed}
use Rattle.tries.specs.Place.{entry_at}
use Rattle.record_words.specs.declared.records.Rec.{Rec}
use Rattle.record_words.specs.declared.records.Rec.TheVariants.{Node as a_node, Leaf as a_leaf}
use Rattle.versions.specs.Heap.{NodeWords, LeafWords}

-- ---- the records that words say

-- the part of a node that stays the same, from the words of its head: height, columns and rows
abbrev pub fixed_of : List ℕ → Fixed
fixed_of head = record { height = height_in (numbers_in head); columns = columns_in head; rows = rows_in head }

-- What the words of a node say: `head` are the words of its head, and `tail` those of its entries. `Leaf 0` stands in for an entry that is
-- missing, which no encoded node has.
abbrev pub node_words_from : (head tail : List ℕ) → NodeWords
node_words_from head tail = record {
  fixed = fixed_of head;
  subtrie = piece_of (Leaf 0) (fixed_of head).columns (fixed_of head).rows (entries_of (count_in (numbers_in head)) tail);
}

-- what the words of a node record say, where its state is left out
unfoldable pub node_words_of : List ℕ → NodeWords
node_words_of words = node_words_from (take HEAD_WORDS words) (drop HEAD_WORDS words)

-- what the words of a leaf record say, where its state is left out
unfoldable pub leaf_of : List ℕ → LeafWords
leaf_of words = record { key = leaf_key_in words; value = leaf_value_in words }

-- The words of a record encode a node, or a leaf. Of a node these are all words, and of a leaf those up to the end of its key.
unfoldable pub IsPacked : Rec → List ℕ → Type 0
IsPacked (a_node number) words = (view : NodeView) × HasNodeWords view × (node_words view ≡ words)
IsPacked (a_leaf number) words = (pair : List ℕ × ℕ) × HasLeafWords pair × (leaf_words pair ≡ up_to_key words)

-- ---- trees

-- the entry for the record with which a tree begins; none if it begins with a fork
abbrev pub head_entry : Tree → Option Entry
head_entry (leaf number key value) = Some (Leaf number)
head_entry (node number fixed body) = Some (Node number fixed.height)
head_entry (fork position left right) = None

-- the entry of the root in a version, which may be empty
abbrev pub root_of : Option Tree → Option Entry
root_of None = None
root_of (Some tree) = head_entry tree

-- the entry in this slot of the node with which a tree begins; none if the tree begins with no node, or has no entry there
abbrev pub entry_in : (tree : Tree) → (slot : ℕ) → Option Entry
entry_in (leaf number key value) slot = None
entry_in (node number fixed body) slot = if nat_lt slot (size (subtrie body)) then Some (entry_at (subtrie body) slot) else None
entry_in (fork position left right) slot = None

-- the value of the leaf with which a tree begins; none if it begins with no leaf
abbrev pub head_value : Tree → Option ℕ
head_value (leaf number key value) = Some value
head_value (node number fixed body) = None
head_value (fork position left right) = None

-- The record with which the tree begins has this word at this offset. The offset is that of a fixed word (`IsFixedOffset`). Behind the end
-- of a leaf's key any word may stand. For a tree that begins with a fork, and so with no record, the word is 0.
abbrev pub HasWordAt : Tree → (offset word : ℕ) → Type 0
HasWordAt (leaf number key value) offset word = offset < words_for (length key) → get_or (leaf_words (key, value)) (offset - FIELDS_OFFSET) 0 ≡ word
HasWordAt (node number fixed body) offset word =
    get_or (fixed_words (length fixed.rows) fixed.height fixed.columns fixed.rows) (offset - FIELDS_OFFSET) 0 ≡ word
HasWordAt (fork position left right) offset word = word ≡ 0
