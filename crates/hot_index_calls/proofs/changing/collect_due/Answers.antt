-- A small round, or nothing.
use Rattle.hot_index_calls.proofs.Rooms.{small_spare}
use Rattle.std.proofs.Common.{inl, inr, refl}
use Rattle.hot_index_calls.proofs.Passes.Collected.{does_idle}
use Rattle.hot_index_calls.proofs.changing.collect_due.Goals as goal

pub returns-then-is_due-clause-idle : goal.returns-then-is_due-clause-idle
returns-then-is_due-clause-idle g c =
    let small = c.collect_small_round.ensures in does_idle small.round.does small.free c.requires.idle

pub returns-then-is_due-clause-tidied : goal.returns-then-is_due-clause-tidied
returns-then-is_due-clause-tidied g c = inr c.collect_small_round.ensures.round

pub returns-else-is_due-clause-tidied : goal.returns-else-is_due-clause-tidied
returns-else-is_due-clause-tidied g c = inl refl

pub returns-then-is_due-clause-spares : goal.returns-then-is_due-clause-spares
returns-then-is_due-clause-spares g c = small_spare c.args.table.now g.G.Gate.becomes (c.args.seat.now, c.args.gate.now) (c.collect_small_round.new.seat, c.collect_small_round.new.gate) c.collect_small_round.ensures.round
