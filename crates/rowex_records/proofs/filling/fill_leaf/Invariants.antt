-- The words are stored up to the one that waits: the length, or the word with the bytes of the key before the index.
use Rattle.std.specs.Prelude.{◌+◌, ◌≡◌, get_or}
use Rattle.rowex_records.proofs.Common.{Leaf, leaf_words}
use Rattle.rowex_records.specs.Records.{SetsSome}
use Rattle.rowex_records.proofs.filling.fill_leaf.Given as goal

abbrev pub invariant-loop-index : goal.invariant-loop-index
invariant-loop-index g l =
    SetsSome l.table g.G.Gate.becomes (Leaf l.number) (leaf_words (l.key, l.value)) (l.index + 1) (l.fn.seat, l.fn.gate) (l.seat, l.gate) ×
    (l.offset ≡ l.index + 2) × (l.word ≡ get_or (leaf_words (l.key, l.value)) (l.index + 1) 0)
