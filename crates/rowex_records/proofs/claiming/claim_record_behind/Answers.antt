-- No span yet, one of records that are not free, and one that has a free record.
use Rattle.rowex_records.proofs.Common.{arith, ◌≡◌, ◌<◌, ◌≤◌, ◌+◌, ◌∙◌, ap, subst, None}
use Rattle.std.proofs.Common.{le_refl, le_trans}
use Rattle.record_words.specs.Layout.{uncommitted_in}
use Rattle.rowex_table.proofs.Committed.{committed_falls}
use Rattle.rowex_records.specs.Claims.{GoesOnBehind, begin_of, count_of, record_of}
use Rattle.rowex_records.proofs.Claims.{behind_claims, behind_none, behind_span, next_turn, turned_low, turned_over}
use Rattle.rowex_records.proofs.claiming.claim_record_behind.Goals as goal
use Rattle.rowex_records.proofs.claiming.claim_record_behind.Goals.{In-loop-tried}
use Rattle.rowex_records.proofs.claiming.claim_record_behind.Given.{Over}

pub loop-tried-init : goal.loop-tried-init
loop-tried-init g c =
    let all : c.count-all.result ≡ count_of c.args.kind c.args.table.now.layout = rw c.layout-layout.ensures at c.count-all.ensures in
    record {
      own = c.requires.own;
      bounds = λ kind. le_refl (uncommitted_in c.args.seat.now.bounds kind);
      none = behind_none _ _ c.args.kind _ _;
      number = rw all at c.number_or_zero-number.ensures.begin ∙ next_turn (count_of c.args.kind c.args.table.now.layout) c.args.turn.from c.requires.low;
      low = c.requires.some;
    }

-- a record of the kind is tried next
tried_low : (g : Over) (c : In-loop-tried g) → c.loop-tried.number < count_of c.args.kind c.args.table.now.layout
tried_low g c = rw c.loop-tried.invariant.number (turned_low _ c.args.turn.from c.loop-tried.tried c.requires.low (omega (arith, c.requires.few, c.loop-tried-test.true)))

pub returns-in-Some-clause-tries : goal.returns-in-Some-clause-tries
returns-in-Some-clause-tries g c =
    behind_claims _ _ c.args.kind _ c.loop-tried.tried c.loop-tried.number _ _ _ _ c.requires.low (omega (arith, c.min-count.ensures, c.requires.few, c.loop-tried-test.true)) c.loop-tried.invariant.number c.loop-tried.invariant.none _ c.args.turn.most
    (rw c.span_from-span.ensures.number at c.in-Some.ensures.tries)

pub loop-tried-preserved : goal.loop-tried-preserved
loop-tried-preserved g c =
    let all : c.count-all.result ≡ count_of c.args.kind c.args.table.now.layout = rw c.layout-layout.ensures at c.count-all.ensures in
    let upto : c.loop-tried.number + c.span_from-span.result.count ≤ count_of c.args.kind c.args.table.now.layout = rw c.layout-layout.ensures at c.span_from-span.ensures.count.1 in
    let low : c.loop-tried.tried < count_of c.args.kind c.args.table.now.layout = omega (arith, c.requires.few, c.loop-tried-test.true) in
    let fits : c.loop-tried.tried + c.min-count.result ≤ count_of c.args.kind c.args.table.now.layout = omega (arith, c.min-count.ensures, c.requires.few, c.loop-tried-test.true) in
    let few : c.loop-tried.number + c.min-count.result ≤ count_of c.args.kind c.args.table.now.layout = omega (arith, upto, c.min-count.ensures) in
    record {
      own = c.in_default.ensures.own;
      bounds = λ kind. le_trans (c.in_default.ensures.bounds kind) (c.loop-tried.invariant.bounds kind);
      none = behind_span _ _ c.args.kind _ c.loop-tried.tried c.loop-tried.number _ _ _ _ c.requires.low fits c.loop-tried.invariant.number c.loop-tried.invariant.none (rw c.span_from-span.ensures.number at c.in_default.ensures.tries);
      number = rw all at c.number_or_zero-number-in-loop-tried.ensures.begin ∙
          (ap (λ z. begin_of (count_of c.args.kind c.args.table.now.layout) (z + c.min-count.result)) c.loop-tried.invariant.number ∙
          turned_over (count_of c.args.kind c.args.table.now.layout) c.args.turn.from c.loop-tried.tried c.min-count.result c.requires.low low fits
          (subst (λ z. z + c.min-count.result ≤ count_of c.args.kind c.args.table.now.layout) c.loop-tried.invariant.number few));
      low = omega (arith, c.min-count.ensures, c.loop-tried.invariant.low);
    }

pub returns-clause-tries : goal.returns-clause-tries
returns-clause-tries g c =
    let done : c.loop-tried.tried ≡ c.args.turn.most = omega (arith, c.loop-tried.invariant.low, c.loop-tried-test.false) in
    subst (λ z. GoesOnBehind c.args.table.now g.G.Gate.becomes c.args.kind c.args.turn.from z (None, z) (c.args.seat.now, c.args.gate.now) (c.loop-tried.seat, c.loop-tried.gate)) done
    c.loop-tried.invariant.none

pub claim_record_in_span-requires-clause-committed : goal.claim_record_in_span-requires-clause-committed
claim_record_in_span-requires-clause-committed g c = λ index low. committed_falls c.args.table.now.layout (uncommitted_in c.loop-tried.seat.bounds) (uncommitted_in c.args.seat.now.bounds) (record_of c.args.kind index) c.loop-tried.invariant.bounds (c.requires.committed index low)
