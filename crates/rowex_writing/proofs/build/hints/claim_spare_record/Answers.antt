-- The record is claimed, or was not free, or there is none of the number.
use Rattle.rowex_writing.proofs.Common.{arith, count_of, record_of}
use Rattle.rowex_writing.proofs.locks.Going.{goes_none}
use Rattle.rowex_writing.proofs.build.Building.{number_on, one_on, one_steps}
use Rattle.rowex_writing.proofs.build.Counts.{one_rises}
use Rattle.rowex_writing.proofs.build.hints.claim_spare_record.Goals as goal

pub returns-then-claim_by_number-clause-goes : goal.returns-then-claim_by_number-clause-goes
returns-then-claim_by_number-clause-goes g c =
    one_on c.args.table.now g.G.Gate.becomes (record_of c.args.kind c.in_ok-number.number) _ _ (c.claim_by_number.ensures.claimed c.if-claim_by_number.true).1

pub returns-clause-goes : goal.returns-clause-goes
returns-clause-goes g c =
    number_on c.args.table.now g.G.Gate.becomes (record_of c.args.kind) (count_of c.args.kind c.args.table.now.layout) c.in_ok-number.number (c.args.seat.now, c.args.gate.now) (c.claim_by_number.new.seat, c.claim_by_number.new.gate)
    (c.claim_by_number.ensures.missed c.if-claim_by_number.false)

pub returns-in_err-number-clause-goes : goal.returns-in_err-number-clause-goes
returns-in_err-number-clause-goes g c = goes_none c.args.table.now g.G.Gate.becomes (c.args.seat.now, c.args.gate.now)

pub returns-then-claim_by_number-clause-few : goal.returns-then-claim_by_number-clause-few
returns-then-claim_by_number-clause-few g c =
    let (low, one) = c.claim_by_number.ensures.claimed c.if-claim_by_number.true in
    omega (arith, one_steps c.args.table.now g.G.Gate.becomes (record_of c.args.kind c.in_ok-number.number) (c.args.seat.now, c.args.gate.now) (c.claim_by_number.new.seat, c.claim_by_number.new.gate) one)

pub returns-then-claim_by_number-clause-some : goal.returns-then-claim_by_number-clause-some
returns-then-claim_by_number-clause-some g c = λ some.
    one_rises c.args.table.now g.G.Gate.becomes (record_of c.args.kind c.in_ok-number.number) (c.args.seat.now, c.args.gate.now) (c.claim_by_number.new.seat, c.claim_by_number.new.gate) (c.claim_by_number.ensures.claimed c.if-claim_by_number.true).1
