-- What is made, and what is gone, stays.
use Rattle.std.specs.Prelude.{◌≡◌}
use Rattle.hot_index_calls.proofs.scratch.Scratch.leave_first_parts.Given as goal

abbrev pub invariant-loop-place : goal.invariant-loop-place
invariant-loop-place l = record {
  made : l.self.build.made.items ≡ l.fn.self.build.made.items;
  gone : l.self.build.gone.items ≡ l.fn.self.build.gone.items;
}
