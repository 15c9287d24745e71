-- The committed ones of the class are tried.
use Rattle.rowex_writing.proofs.Common.{arith, ap, ◌∙◌, SeatView}
use Rattle.rowex_writing.proofs.locks.Going.{goes_found}
use Rattle.rowex_writing.proofs.build.Classes.{class_committed, class_ends}
use Rattle.rowex_writing.proofs.build.leaves.claim_leaf_of_class.Goals as goal

pub claim_by_hint-requires-clause-own : goal.claim_by_hint-requires-clause-own
claim_by_hint-requires-clause-own g c = ap (λ (z : SeatView). z.table) c.count_committed_from-count.ensures.bounds.1 ∙ c.requires.own

pub claim_by_hint-requires-clause-kind : goal.claim_by_hint-requires-clause-kind
claim_by_hint-requires-clause-kind g c = omega (arith, c.min.ensures, c.requires.range.0, c.requires.range.1)

pub claim_by_hint-requires-clause-committed : goal.claim_by_hint-requires-clause-committed
claim_by_hint-requires-clause-committed g c =
    rw c.min.ensures (class_committed c.args.table.now.layout c.count_committed_from-count.new.seat.bounds c.args.numbers.start c.args.numbers.end c.count_committed_from-count.result c.requires.range.0 c.requires.class
    c.count_committed_from-count.ensures.committed)

pub returns-in-Some-clause-goes : goal.returns-in-Some-clause-goes
returns-in-Some-clause-goes g c =
    goes_found c.args.table.now g.G.Gate.becomes c.args.seat.now c.count_committed_from-count.new.seat c.args.gate.now (c.claim_by_hint.new.seat, c.claim_by_hint.new.gate) c.count_committed_from-count.ensures.bounds c.claim_by_hint.ensures.goes
    (c.claim_by_hint.ensures.some (omega (arith, c.min.ensures, c.requires.range.0, c.count_committed_from-count.ensures.some)))

pub returns-in-None-clause-goes : goal.returns-in-None-clause-goes
returns-in-None-clause-goes g c =
    goes_found c.args.table.now g.G.Gate.becomes c.args.seat.now c.count_committed_from-count.new.seat c.args.gate.now (c.claim_by_hint.new.seat, c.claim_by_hint.new.gate) c.count_committed_from-count.ensures.bounds c.claim_by_hint.ensures.goes
    (c.claim_by_hint.ensures.some (omega (arith, c.min.ensures, c.requires.range.0, c.count_committed_from-count.ensures.some)))

pub returns-in-None-clause-tried : goal.returns-in-None-clause-tried
returns-in-None-clause-tried g c = (
  omega (arith, c.min.ensures, c.requires.range.0, c.count_committed_from-count.ensures.some),
  rw c.min.ensures (class_ends c.args.table.now.layout c.args.seat.now.bounds c.args.numbers.start c.args.numbers.end c.count_committed_from-count.result c.requires.range.0 c.requires.class c.count_committed_from-count.ensures.rest),
)

pub returns-in-None-clause-missed : goal.returns-in-None-clause-missed
returns-in-None-clause-missed g c = rw (ap (λ (z : SeatView). z.known) c.count_committed_from-count.ensures.bounds.1) at c.in-None.ensures.claims.1
