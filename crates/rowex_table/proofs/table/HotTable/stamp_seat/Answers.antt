-- The view is split, and the pass keeps its own.
use Rattle.std.proofs.Common.{rules, ap}
use Rattle.rowex_table.proofs.stamping.Stamps.{stamps}
use Rattle.rowex_table.proofs.table.HotTable.stamp_seat.Goals as goal

pub split_seat-seat-requires : goal.split_seat-seat-requires
split_seat-seat-requires c = (search rules, search rules, stamps c.self.inside.table.shared.key.layout _ _ _ _ (ap (λ m. m.0) c.seat.invariant.0))
