-- The value that the changes so far lead to.
use Rattle.plain_index.proofs.Common.{◌≡◌, take, value_at, map_of}
use Rattle.plain_index.proofs.histories.held_value.Given as goal

abbrev pub invariant-loop-change : goal.invariant-loop-change
invariant-loop-change l = l.held ≡ value_at (map_of (take l.change-index l.front)) l.key
