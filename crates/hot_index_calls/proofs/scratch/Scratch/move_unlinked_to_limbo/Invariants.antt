-- Those that are left fall, and what is made stays.
use Rattle.std.proofs.Common.{◌≡◌, length}
use Rattle.hot_index_calls.proofs.scratch.Scratch.move_unlinked_to_limbo.Given as goal

abbrev pub invariant-loop-rec : goal.invariant-loop-rec
invariant-loop-rec l = record { made : l.self.build.made.items ≡ l.fn.self.build.made.items }

abbrev pub decreases-loop-rec : goal.decreases-loop-rec
decreases-loop-rec l = length l.self.build.gone.items
