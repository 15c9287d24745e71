-- The items so far stand in front of unused places.
use Rattle.std.proofs.Common.{◌≡◌, ◌-◌, ◌++◌, take, replicate}
use Rattle.partial_keys.proofs.pad.Given as goal

abbrev pub invariant-loop-i : goal.invariant-loop-i
invariant-loop-i g l = l.padded ≡ take l.i l.items ++ replicate (g.row.N - l.i) l.fn.unused
