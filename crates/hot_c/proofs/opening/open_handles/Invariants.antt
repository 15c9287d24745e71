-- The first handles hold the first passes, and the others are closed.
use Rattle.std.specs.Prelude.{◌≡◌, ◌+◌, Some, length, map, take, drop}
use Rattle.std.specs.Vec.Iter.{into_iter_items, into_iter_len}
use Rattle.hot_c.specs.Calls.{AreClosed, places_of}
use Rattle.hot_c.proofs.opening.open_handles.Given as goal

abbrev pub invariant-loop-opened : goal.invariant-loop-opened
invariant-loop-opened l = record {
  long : into_iter_len l.opened-iterator ≡ length (into_iter_items l.opened-iterator);
  count : l.place + length (into_iter_items l.opened-iterator) ≡ length l.handles;
  left : into_iter_items l.opened-iterator ≡ drop l.place l.fn.passes.items;
  done : take l.place (map (λ h. h.cell.opened) l.handles) ≡ take l.place (map (λ b. Some b.value) l.fn.passes.items);
  closed : AreClosed (drop l.place l.handles);
  places : places_of l.handles ≡ places_of l.initial.handles;
}
