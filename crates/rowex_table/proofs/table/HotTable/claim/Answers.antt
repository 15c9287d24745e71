-- That the record is committed before is no step.
use Rattle.rowex_table.proofs.Common.{Claim, ap, subst, sym}
use Rattle.rowex_table.specs.Runs.{silent}
use Rattle.rowex_table.proofs.Committed.Chains.{step_from}
use Rattle.rowex_table.proofs.table.HotTable.claim.Goals as goal

pub returns : goal.returns
returns g c = step_from c.args.self.now g.G.Gate.becomes (Claim c.args.rec c.claim_at.result) silent c.args.seat.now c.commit.new.seat c.args.gate.now (c.claim_at.new.seat, c.claim_at.new.gate) c.commit.ensures.bounds (rw c.locate.ensures.rec at c.claim_at.ensures)
