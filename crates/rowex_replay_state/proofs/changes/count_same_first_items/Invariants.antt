-- The numbers so far are the same.
use Rattle.std.proofs.Common.{◌≡◌, ℕ, ◌<◌, map, get_or}
use Rattle.rowex_replay_state.specs.Versions.{read_item}
use Rattle.rowex_replay_state.specs.Changed.{numbers}
use Rattle.rowex_replay_state.proofs.changes.count_same_first_items.Given as goal

abbrev pub invariant-loop-i : goal.invariant-loop-i
invariant-loop-i l = (k : ℕ) → k < l.i → get_or (numbers (map read_item l.before)) k 0 ≡ get_or (numbers (map read_item l.after)) k 0
