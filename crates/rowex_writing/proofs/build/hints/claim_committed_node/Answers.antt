-- The spare record was not free, or there was none; then one of those below the end is claimed, or none was free.
use Rattle.rowex_writing.proofs.build.Spare.{goes_free, walk_taken}
use Rattle.rowex_writing.proofs.Common.{ℕ, ◌<◌, ◌≤◌, ◌∙◌, arith, Contains-append_left, a_node, claims_holds, more_since}
use Rattle.std.specs.Prelude.{min}
use Rattle.rowex_records.specs.declared.claiming.RecordKind.TheVariants.{Node}
use Rattle.rowex_writing.proofs.build.Counts.{claims_count, claims_rises, none_count, none_rises}
use Rattle.rowex_writing.proofs.locks.Going.{goes_committed, goes_more, seat_of}
use Rattle.rowex_writing.proofs.build.Building.{none_on, claim_on, steps_rise}
use Rattle.rowex_writing.proofs.build.Walks.{alone_still, walk_on, walk_out, walk_claims}
use Rattle.rowex_writing.proofs.build.hints.claim_committed_node.Goals as goal

pub returns-in-Some-clause-walk : goal.returns-in-Some-clause-walk
returns-in-Some-clause-walk g c = λ since made alone w.
    walk_on c.args.table.now g.G.Gate.becomes since (c.args.seat.now, c.args.gate.now) (c.claim_spare_record.new.seat, c.claim_spare_record.new.gate) made _ _ _
    c.claim_spare_record.ensures.goes (λ r has. Contains-append_left made _ r has) w

pub claim_next_record-requires-clause-own : goal.claim_next_record-requires-clause-own
claim_next_record-requires-clause-own g c = seat_of c.args.table.now g.G.Gate.becomes (c.args.seat.now, c.args.gate.now) (c.claim_spare_record.new.seat, c.claim_spare_record.new.gate) c.claim_spare_record.ensures.goes c.requires.own

pub returns-in_err-number-clause-goes : goal.returns-in_err-number-clause-goes
returns-in_err-number-clause-goes g c =
    goes_more c.args.table.now g.G.Gate.becomes _ _ _ c.claim_spare_record.ensures.goes (none_on c.args.table.now g.G.Gate.becomes a_node _ _ _ _ _ c.in_err-number.ensures.claims.1)

pub returns-in_err-number-clause-walk : goal.returns-in_err-number-clause-walk
returns-in_err-number-clause-walk g c = λ since made alone w. rw c.from_residual.ensures
    (let count = w.count in let less = c.in_err-number.ensures.claims.0 in (
      omega arith,
      walk_out c.args.table.now g.G.Gate.becomes since c.args.left.now c.claim_next_record.new.left (c.claim_spare_record.new.seat, c.claim_spare_record.new.gate) (c.claim_next_record.new.seat, c.claim_next_record.new.gate) made
          c.args.hint.now.next _ (alone_still c.args.seat.now.known c.claim_spare_record.new.seat.known made c.in_default.ensures.claims alone)
          (none_on c.args.table.now g.G.Gate.becomes a_node _ _ _ _ _ c.in_err-number.ensures.claims.1) (omega arith) (omega arith) c.in_err-number.ensures.claims.1
          (walk_on c.args.table.now g.G.Gate.becomes since (c.args.seat.now, c.args.gate.now) (c.claim_spare_record.new.seat, c.claim_spare_record.new.gate) made made c.args.hint.now.next c.args.left.now
          c.claim_spare_record.ensures.goes (λ r has. has) w),
    ))

pub returns-in_err-number-clause-few : goal.returns-in_err-number-clause-few
returns-in_err-number-clause-few g c =
    let few = none_count c.args.table.now g.G.Gate.becomes _ _ _ _ (c.claim_spare_record.new.seat, c.claim_spare_record.new.gate) (c.claim_next_record.new.seat, c.claim_next_record.new.gate) c.in_err-number.ensures.claims.1 in
    omega (arith, few, c.in_err-number.ensures.claims.0, c.claim_spare_record.ensures.few)

pub returns-clause-goes : goal.returns-clause-goes
returns-clause-goes g c =
    goes_more c.args.table.now g.G.Gate.becomes _ _ _ c.claim_spare_record.ensures.goes (claim_on c.args.table.now g.G.Gate.becomes a_node _ _ _ _ _ c.in_ok-number.ensures.claims.0)

pub returns-clause-claims : goal.returns-clause-claims
returns-clause-claims g c = (
  omega (arith, c.in_ok-number.ensures.held.0, c.requires.range),
  more_since (a_node c.in_ok-number.number) c.args.seat.now.known c.claim_spare_record.new.seat.known c.claim_next_record.new.seat.known c.in_default.ensures.claims
      (claims_holds c.args.table.now g.G.Gate.becomes a_node _ _ c.in_ok-number.number (c.claim_spare_record.new.seat, c.claim_spare_record.new.gate) (c.claim_next_record.new.seat, c.claim_next_record.new.gate) c.in_ok-number.ensures.claims.0),
)

pub returns-clause-walk : goal.returns-clause-walk
returns-clause-walk g c = λ since made alone w.
    walk_claims c.args.table.now g.G.Gate.becomes since c.args.left.now c.claim_next_record.new.left c.in_ok-number.number (c.claim_spare_record.new.seat, c.claim_spare_record.new.gate)
    (c.claim_next_record.new.seat, c.claim_next_record.new.gate) made c.args.hint.now.next (alone_still c.args.seat.now.known c.claim_spare_record.new.seat.known made c.in_default.ensures.claims alone)
    (claim_on c.args.table.now g.G.Gate.becomes a_node _ _ _ _ _ c.in_ok-number.ensures.claims.0) c.in_ok-number.ensures.claims.0 c.in_ok-number.ensures.claims.1
    (walk_on c.args.table.now g.G.Gate.becomes since (c.args.seat.now, c.args.gate.now) (c.claim_spare_record.new.seat, c.claim_spare_record.new.gate) made made c.args.hint.now.next c.args.left.now
    c.claim_spare_record.ensures.goes (λ r has. has) w)

pub returns-clause-few : goal.returns-clause-few
returns-clause-few g c =
    let claims = c.in_ok-number.ensures.claims.0 in
    let few = claims_count c.args.table.now g.G.Gate.becomes a_node _ _ c.in_ok-number.number (c.claim_spare_record.new.seat, c.claim_spare_record.new.gate) (c.claim_next_record.new.seat, c.claim_next_record.new.gate) claims in
    omega (arith, few, c.in_ok-number.ensures.claims.1, c.claim_spare_record.ensures.few)

pub returns-in_err-number-clause-tried : goal.returns-in_err-number-clause-tried
returns-in_err-number-clause-tried g c = λ whole one none is number from low free.
    walk_taken c.args.table.now g.G.Gate.becomes c.args.hint.now.next c.args.end (min c.args.end c.args.left.now) (c.claim_spare_record.new.seat, c.claim_spare_record.new.gate) (c.claim_next_record.new.seat, c.claim_next_record.new.gate) (omega (arith, whole)) one
    c.in_err-number.ensures.claims.1 number low
    (goes_free c.args.table.now g.G.Gate.becomes number (c.args.seat.now, c.args.gate.now) (c.claim_spare_record.new.seat, c.claim_spare_record.new.gate) c.claim_spare_record.ensures.goes (c.in_default.ensures.claims ∙ none) free)

pub claim_next_record-requires-clause-committed : goal.claim_next_record-requires-clause-committed
claim_next_record-requires-clause-committed g c =
    goes_committed c.args.table.now g.G.Gate.becomes (Node c.args.end) (c.args.seat.now, c.args.gate.now) (c.claim_spare_record.new.seat, c.claim_spare_record.new.gate) c.claim_spare_record.ensures.goes c.requires.committed

-- the steps of the spare record are none or some, and those of the walk are some
rises : (i j k : ℕ) → i ≤ j → j < k → i < k
rises i j k first second = omega arith

pub returns-in_err-number-clause-some : goal.returns-in_err-number-clause-some
returns-in_err-number-clause-some g c = λ some left.
    rises _ _ _
    (steps_rise c.args.table.now g.G.Gate.becomes c.claim_spare_record.ensures.goes.acts (c.args.seat.now, c.args.gate.now) (c.claim_spare_record.new.seat, c.claim_spare_record.new.gate) c.claim_spare_record.ensures.goes.steps)
    (none_rises c.args.table.now g.G.Gate.becomes a_node _ _ _ (c.claim_spare_record.new.seat, c.claim_spare_record.new.gate) (c.claim_next_record.new.seat, c.claim_next_record.new.gate) c.in_err-number.ensures.claims.1 (omega (arith, some, left)))

pub returns-clause-some : goal.returns-clause-some
returns-clause-some g c = λ some left.
    rises _ _ _
    (steps_rise c.args.table.now g.G.Gate.becomes c.claim_spare_record.ensures.goes.acts (c.args.seat.now, c.args.gate.now) (c.claim_spare_record.new.seat, c.claim_spare_record.new.gate) c.claim_spare_record.ensures.goes.steps)
    (claims_rises c.args.table.now g.G.Gate.becomes a_node _ _ c.in_ok-number.number (c.claim_spare_record.new.seat, c.claim_spare_record.new.gate) (c.claim_next_record.new.seat, c.claim_next_record.new.gate) c.in_ok-number.ensures.claims.0)
