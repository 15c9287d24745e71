-- The records below the index are given up, and the pass has just the others.
use Rattle.rowex_records.proofs.claiming.GivenUp.{GivesUpSome}
use Rattle.rowex_records.proofs.claiming.give_up_records.Given as goal

abbrev pub invariant-loop-index : goal.invariant-loop-index
invariant-loop-index g l = GivesUpSome l.table g.G.Gate.becomes l.recs l.index (l.fn.seat, l.fn.gate) (l.seat, l.gate)
