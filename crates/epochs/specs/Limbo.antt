-- When a small round is due.
use Rattle.std.specs.Prelude.{ℕ, ◌/◌, min, max}
use Rattle.record_words.specs.declared.layout.Layout.{Layout}

-- How many records a pass retires before it makes a small round, unless records are scarce. It is the least of an eighth of the number of
-- passes, each pass's share of a quarter of the node records, and 96. But it is 32 at least. A round loads each pin, so more passes wait
-- longer; but the lists of all passes are to keep few nodes from reuse.
abbrev pub due_after : Layout → ℕ
due_after layout = max (min (min (layout.passes / 8) (layout.nodes / 4 / layout.passes)) 96) 32
