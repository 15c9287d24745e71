-- What is made stays.
use Rattle.std.specs.Prelude.{◌≡◌}
use Rattle.hot_index_calls.proofs.scratch.Scratch.reset_skips.Given as goal

abbrev pub invariant-loop-place : goal.invariant-loop-place
invariant-loop-place l = record { made : l.self.build.made.items ≡ l.fn.self.build.made.items }
