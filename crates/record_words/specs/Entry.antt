-- Entry words.
use Rattle.std.specs.Prelude.{ℕ, ◌+◌, ◌*◌, ◌^◌, ◌<◌, ◌≤◌, Option, Some, None}
use Rattle.compound_node.specs.declared.entries.Entry.{Entry}
use Rattle.compound_node.specs.declared.entries.Entry.TheVariants.{Leaf, Node}
use Rattle.record_words.specs.declared.TheConstants.{HEIGHT_BIT}

-- The entry has a word: its record's number has 32 bits, and a node's height is from 1 to 65,535. `None`, an empty slot or root, has a
-- word, too.
abbrev pub HasEntryWord : Option Entry → Type 0
HasEntryWord None = Unit {0}
HasEntryWord (Some (Leaf number)) = number < 2 ^ 32
HasEntryWord (Some (Node number height)) = (number < 2 ^ 32) × (1 ≤ height) × (height < 2 ^ 16)

-- The word of an entry: 1 for a leaf or 2 for a node in its lowest two bits, then the number, then a node's height. It is 0 for none.
abbrev pub entry_word : Option Entry → ℕ
entry_word None = 0
entry_word (Some (Leaf number)) = 4 * number + 1
entry_word (Some (Node number height)) = 2 ^ HEIGHT_BIT * height + 4 * number + 2
