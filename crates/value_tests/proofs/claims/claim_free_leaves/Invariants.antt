-- The seat stays one of the table's.
use Rattle.rowex_table.specs.Seats.{IsSeatOf}
use Rattle.value_tests.proofs.claims.claim_free_leaves.Given as goal

abbrev pub invariant-loop-number : goal.invariant-loop-number
invariant-loop-number l = IsSeatOf l.table l.seat
