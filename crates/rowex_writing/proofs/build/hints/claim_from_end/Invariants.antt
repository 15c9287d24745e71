-- From the old end of the walk up to its end of now, each record was missed.
use Rattle.std.proofs.Common.{◌-◌, ◌≡◌}
use Rattle.rowex_writing.proofs.build.Passing.{HasPassed}
use Rattle.rowex_writing.proofs.build.hints.claim_from_end.Given as goal

abbrev pub invariant-loop-walk : goal.invariant-loop-walk
invariant-loop-walk g l = record {
  passed : HasPassed l.table g.G.Gate.becomes l.fn.hint.next l.fn.walk (l.fn.seat, l.fn.gate) l.walk (l.seat, l.gate);
  same : l.hint.next ≡ l.fn.hint.next;
  all : l.nodes ≡ l.table.layout.nodes;
}

abbrev pub decreases-loop-walk : goal.decreases-loop-walk
decreases-loop-walk g l = l.nodes - l.walk.end
