-- At which words the records of a kind begin.
use Rattle.std.specs.Prelude.{ℕ, ◌≡◌, ◌+◌, ◌<◌}
use Rattle.record_words.specs.declared.layout.Layout.{Layout}
use Rattle.record_words.specs.Layout.{leaf_start, node_start}
use Rattle.rowex_records.specs.declared.claiming.RecordKind.{RecordKind}
use Rattle.rowex_records.specs.declared.claiming.RecordKind.TheVariants.{Node, Leaf}

-- the number of the table's word at which the record of the kind that has this index begins
abbrev pub first_word : (kind : RecordKind) → (layout : Layout) → (index : ℕ) → ℕ
first_word (Node end) layout index = node_start layout index
first_word (Leaf first end) layout index = leaf_start layout (first + index)

-- The `count` records of the kind from `number` on, and the place behind them, begin `size` words apart. So a walk over them finds each
-- start by a sum.
abbrev pub IsSpan : RecordKind → Layout → (number count size : ℕ) → Type 0
IsSpan kind layout number count size = (index : ℕ) → index < count → first_word kind layout (number + (index + 1)) ≡ first_word kind layout (number + index) + size
