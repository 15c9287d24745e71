-- What is made, and what is gone, stays.
use Rattle.std.specs.Prelude.{◌≡◌}
use Rattle.hot_index_calls.proofs.scratch.Scratch.reuse_given_records.Given as goal

abbrev pub invariant-loop-rec : goal.invariant-loop-rec
invariant-loop-rec l = record {
  made : l.build.made.items ≡ l.fn.self.build.made.items;
  gone : l.build.gone.items ≡ l.fn.self.build.gone.items;
}
