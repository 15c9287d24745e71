-- The handles that have been made, with those of the passes that are left, are those of all.
use Rattle.std.specs.Prelude.{◌≡◌, ◌++◌, map}
use Rattle.std.specs.List.{All}
use Rattle.hot_index.proofs.Common.{into_iter_items, Owns}
use Rattle.hot_index.specs.Handles.{handle_at}
use Rattle.hot_index.proofs.handle.handles_of.Given as goal

abbrev pub invariant-loop-pass : goal.invariant-loop-pass
invariant-loop-pass l = record {
  left : All (Owns l.index) (into_iter_items l.pass-iterator);
  made : l.handles.items ++ map (handle_at l.index) (into_iter_items l.pass-iterator) ≡ map (handle_at l.index) l.fn.passes.items;
}
