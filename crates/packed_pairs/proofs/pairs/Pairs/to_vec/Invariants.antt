-- The pairs so far and those that are left; and there is room for these.
use Rattle.std.proofs.Common.{◌≡◌, ◌++◌, ◌+◌, ◌≤◌, length}
use Rattle.packed_pairs.proofs.pairs.Pairs.to_vec.Given as goal

abbrev pub invariant-loop-key : goal.invariant-loop-key
invariant-loop-key l = record { listed : l.list.items ++ l.rest ≡ l.self; room : l.list.len + length l.rest ≤ l.list.cap }

abbrev pub decreases-loop-key : goal.decreases-loop-key
decreases-loop-key l = length l.rest
