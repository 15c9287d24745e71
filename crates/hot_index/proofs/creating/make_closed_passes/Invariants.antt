-- The passes that have been made, with those of the seats that are left, are those of all. The count is that of the next one.
use Rattle.std.specs.Prelude.{◌≡◌, ◌++◌, map}
use Rattle.hot_index.proofs.Common.{into_iter_items, pass_of}
use Rattle.hot_index.specs.Passes.{AreSettled}
use Rattle.hot_index.proofs.creating.make_closed_passes.Given as goal

abbrev pub invariant-loop-seat : goal.invariant-loop-seat
invariant-loop-seat l = record {
  settled : AreSettled l.count (into_iter_items l.seat-iterator);
  made : l.passes.items ++ map pass_of (into_iter_items l.seat-iterator) ≡ map pass_of l.fn.seats.items;
}
