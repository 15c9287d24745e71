-- How many atomic steps a call makes at most.
use Rattle.std.specs.Prelude.{ℕ, ◌+◌, ◌*◌}
use Rattle.finite_map.specs.declared.Call.{Call}
use Rattle.finite_map.specs.declared.Call.TheVariants.{Add, Exchange}
use Rattle.record_words.specs.declared.layout.Layout.{Layout}
use Rattle.rowex_scanning.specs.Counts.{scan_loads}
use Rattle.rowex_writing.specs.plan.Counts.{most_steps_of}

-- how many steps a round of collection makes at most that visits this many records: three on the epoch, one for each pin, and two for each
-- record, a load of its state and an exchange
abbrev pub visiting_steps : (layout : Layout) (count : ℕ) → ℕ
visiting_steps layout count = 3 + layout.passes + 2 * count

-- how many steps a round of collection makes at most, in whatever table of the layout: no more are committed than all records
abbrev pub round_steps : Layout → ℕ
round_steps layout = visiting_steps layout (layout.nodes + layout.leaves)

-- how many steps an attempt at this call makes at most: two that load the epoch and set the pin, one that clears it, and the others
abbrev pub once_steps : (call : Call) (layout : Layout) → ℕ
once_steps call layout = most_steps_of call layout + 3

-- How many steps a call makes at most in its two attempts, with a round of collection between them. A small round before them is not
-- counted here. An exchange and an addition, which are never full, make one attempt.
abbrev pub twice_steps : (call : Call) (layout : Layout) → ℕ
twice_steps (Exchange key expected value) layout = once_steps (Exchange key expected value) layout
twice_steps (Add key delta) layout = once_steps (Add key delta) layout
twice_steps call layout = 2 * once_steps call layout + round_steps layout

-- how many records a small round visits at most
abbrev pub most_visited : ℕ
most_visited = 128

-- how many steps a small round makes at most
abbrev pub small_steps : Layout → ℕ
small_steps layout = visiting_steps layout most_visited

-- how many steps a call that doesn't wait makes at most: those of a small round before it, and of its attempts with a round between
abbrev pub try_steps : (call : Call) (layout : Layout) → ℕ
try_steps call layout = small_steps layout + twice_steps call layout

-- how many steps a scan makes at most: two that set its pin and one that clears it, one for the root, and its loads below
abbrev pub scan_steps : (limit : ℕ) → ℕ
scan_steps limit = 4 + scan_loads limit
