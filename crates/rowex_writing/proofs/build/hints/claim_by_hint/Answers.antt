-- The spare record was not free, or there was none; then one of all records is claimed, or none was free.
use Rattle.rowex_writing.proofs.Common.{arith, ℕ, ◌<◌, ◌≤◌, ◌∙◌, IsAnothersTo, count_of, record_of, all_earlier, claims_holds, missed_before, more_since}
use Rattle.rowex_writing.proofs.locks.Going.{goes_committed, goes_more, seat_of}
use Rattle.rowex_writing.proofs.build.Counts.{claims_rises, none_rises}
use Rattle.rowex_writing.proofs.build.Building.{none_on, claim_on, steps_rise}
use Rattle.rowex_writing.proofs.build.hints.claim_by_hint.Goals as goal

pub claim_record-requires-clause-own : goal.claim_record-requires-clause-own
claim_record-requires-clause-own g c = seat_of c.args.table.now g.G.Gate.becomes (c.args.seat.now, c.args.gate.now) (c.claim_spare_record.new.seat, c.claim_spare_record.new.gate) c.claim_spare_record.ensures.goes c.requires.own

pub returns-in_err-number-clause-goes : goal.returns-in_err-number-clause-goes
returns-in_err-number-clause-goes g c =
    goes_more c.args.table.now g.G.Gate.becomes _ _ _ c.claim_spare_record.ensures.goes (none_on c.args.table.now g.G.Gate.becomes (record_of c.args.kind) _ _ _ _ _ c.in_err-number.ensures.claims)

pub returns-in_err-number-clause-claims : goal.returns-in_err-number-clause-claims
returns-in_err-number-clause-claims g c = rw c.from_residual.ensures (
  c.in_err-number.ensures.claims.own ∙ c.in_default.ensures.claims,
  all_earlier (IsAnothersTo c.args.table.now.layout c.args.seat.now.known) (record_of c.args.kind) (count_of c.args.kind c.args.table.now.layout) c.claim_record.new.seat.known.failed c.args.seat.now.known.steps c.claim_spare_record.new.seat.known.steps
      (steps_rise c.args.table.now g.G.Gate.becomes c.claim_spare_record.ensures.goes.acts (c.args.seat.now, c.args.gate.now) (c.claim_spare_record.new.seat, c.claim_spare_record.new.gate) c.claim_spare_record.ensures.goes.steps)
      (λ q low. missed_before c.args.table.now.layout c.args.seat.now.known c.claim_spare_record.new.seat.known c.claim_record.new.seat.known.failed (record_of c.args.kind q) c.claim_spare_record.new.seat.known.steps
      c.claim_spare_record.ensures.goes.stays.0.pass c.in_default.ensures.claims c.claim_spare_record.ensures.goes.stays.1 (c.in_err-number.ensures.none q low)),
)

pub returns-clause-goes : goal.returns-clause-goes
returns-clause-goes g c =
    goes_more c.args.table.now g.G.Gate.becomes _ _ _ c.claim_spare_record.ensures.goes (claim_on c.args.table.now g.G.Gate.becomes (record_of c.args.kind) _ _ _ _ _ c.in_ok-number.ensures.claims)

pub returns-clause-claims : goal.returns-clause-claims
returns-clause-claims g c = (
  c.in_ok-number.ensures.held.0,
  more_since (record_of c.args.kind c.in_ok-number.number) c.args.seat.now.known c.claim_spare_record.new.seat.known c.claim_record.new.seat.known c.in_default.ensures.claims
      (claims_holds c.args.table.now g.G.Gate.becomes (record_of c.args.kind) _ _ c.in_ok-number.number (c.claim_spare_record.new.seat, c.claim_spare_record.new.gate) (c.claim_record.new.seat, c.claim_record.new.gate) c.in_ok-number.ensures.claims),
)

pub claim_record-requires-clause-committed : goal.claim_record-requires-clause-committed
claim_record-requires-clause-committed g c =
    goes_committed c.args.table.now g.G.Gate.becomes c.args.kind (c.args.seat.now, c.args.gate.now) (c.claim_spare_record.new.seat, c.claim_spare_record.new.gate) c.claim_spare_record.ensures.goes c.requires.committed

-- the steps of the spare record are none or some, and those of the walk are some
rises : (i j k : ℕ) → i ≤ j → j < k → i < k
rises i j k first second = omega arith

pub returns-in_err-number-clause-some : goal.returns-in_err-number-clause-some
returns-in_err-number-clause-some g c = λ some.
    rises _ _ _
    (steps_rise c.args.table.now g.G.Gate.becomes c.claim_spare_record.ensures.goes.acts (c.args.seat.now, c.args.gate.now) (c.claim_spare_record.new.seat, c.claim_spare_record.new.gate) c.claim_spare_record.ensures.goes.steps)
    (none_rises c.args.table.now g.G.Gate.becomes (record_of c.args.kind) _ _ _ (c.claim_spare_record.new.seat, c.claim_spare_record.new.gate) (c.claim_record.new.seat, c.claim_record.new.gate) c.in_err-number.ensures.claims some)

pub returns-clause-some : goal.returns-clause-some
returns-clause-some g c = λ some.
    rises _ _ _
    (steps_rise c.args.table.now g.G.Gate.becomes c.claim_spare_record.ensures.goes.acts (c.args.seat.now, c.args.gate.now) (c.claim_spare_record.new.seat, c.claim_spare_record.new.gate) c.claim_spare_record.ensures.goes.steps)
    (claims_rises c.args.table.now g.G.Gate.becomes (record_of c.args.kind) _ _ c.in_ok-number.number (c.claim_spare_record.new.seat, c.claim_spare_record.new.gate) (c.claim_record.new.seat, c.claim_record.new.gate) c.in_ok-number.ensures.claims)
