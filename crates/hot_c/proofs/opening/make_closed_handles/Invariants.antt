-- The handles that have been made, with those of the passes that are left, are those of all.
use Rattle.std.specs.Prelude.{◌≡◌, ◌++◌, map}
use Rattle.std.specs.List.{All}
use Rattle.hot_c.proofs.Common.{into_iter_items, handle_at, Owns}
use Rattle.hot_c.proofs.opening.make_closed_handles.Given as goal

abbrev pub invariant-loop-pass : goal.invariant-loop-pass
invariant-loop-pass l = record {
  left : All (Owns l.index.value) (into_iter_items l.pass-iterator);
  made : l.handles.items ++ map (handle_at l.index.value) (into_iter_items l.pass-iterator) ≡ map (handle_at l.index.value) l.fn.passes.items;
}
