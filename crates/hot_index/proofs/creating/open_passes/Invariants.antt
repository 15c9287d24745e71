-- The passes that are open, with those that are left, are all.
use Rattle.std.specs.Prelude.{◌≡◌, ◌++◌}
use Rattle.std.specs.Vec.Iter.{into_iter_items}
use Rattle.hot_index.proofs.creating.open_passes.Given as goal

abbrev pub invariant-loop-pass : goal.invariant-loop-pass
invariant-loop-pass l = record {
  all : l.passes.items ++ into_iter_items l.pass-iterator ≡ l.fn.closed.items;
}
