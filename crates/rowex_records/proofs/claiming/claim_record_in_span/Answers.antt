-- None of the span yet, one more that is not free, and one that is.
use Rattle.rowex_records.proofs.Common.{rules, arith, ◌≡◌, ◌+◌, ◌∙◌, ap, sym, subst, add-zero, None}
use Rattle.std.proofs.Common.{le_refl, le_trans}
use Rattle.record_words.specs.Layout.{uncommitted_in}
use Rattle.rowex_table.proofs.Committed.{committed_falls}
use Rattle.rowex_records.specs.Claims.{GoesOnTrying, record_of}
use Rattle.rowex_records.proofs.Claims.{has_index, span_none, span_more, span_claims, starts_at}
use Rattle.rowex_records.proofs.claiming.claim_record_in_span.Goals as goal

pub loop-index-init : goal.loop-index-init
loop-index-init g c = record {
  own = search rules;
  bounds = λ kind. le_refl (uncommitted_in c.args.seat.now.bounds kind);
  start = rw (add-zero c.args.span.number) (rw c.layout.ensures at c.start_at-start.ensures);
  tries = span_none _ _ c.args.kind _ _;
}

pub record_at-rec-requires : goal.record_at-rec-requires
record_at-rec-requires g c = has_index c.args.kind c.args.table.now.layout (c.args.span.number + c.loop-index.index) (omega (arith, c.requires.few, c.loop-index-test.true))

pub try_claim_record-requires-clause-start : goal.try_claim_record-requires-clause-start
try_claim_record-requires-clause-start g c =
    rw (c.record_at-rec.ensures, c.loop-index.invariant.start) (starts_at c.args.kind c.args.table.now.layout (c.args.span.number + c.loop-index.index) c.requires.kind (omega (arith, c.requires.few, c.loop-index-test.true)))

pub try_claim_record-requires-clause-committed : goal.try_claim_record-requires-clause-committed
try_claim_record-requires-clause-committed g c =
    rw c.record_at-rec.ensures (committed_falls c.args.table.now.layout (uncommitted_in c.loop-index.seat.bounds) (uncommitted_in c.args.seat.now.bounds) (record_of c.args.kind (c.args.span.number + c.loop-index.index)) c.loop-index.invariant.bounds
    (c.requires.committed (c.args.span.number + c.loop-index.index) (omega (arith, c.requires.few, c.loop-index-test.true))))

pub returns-then-try_claim_record-clause-bounds : goal.returns-then-try_claim_record-clause-bounds
returns-then-try_claim_record-clause-bounds g c = λ kind. le_trans ((c.try_claim_record.ensures.claimed c.if-try_claim_record.true).does.seat.4 kind) (c.loop-index.invariant.bounds kind)

pub loop-index-preserved : goal.loop-index-preserved
loop-index-preserved g c = record {
  own = (c.try_claim_record.ensures.missed c.if-try_claim_record.false).does.seat.0 ∙ c.loop-index.invariant.own;
  bounds = λ kind. le_trans ((c.try_claim_record.ensures.missed c.if-try_claim_record.false).does.seat.4 kind) (c.loop-index.invariant.bounds kind);
  start = ap (λ z. z + c.args.span.size) c.loop-index.invariant.start ∙ sym (c.requires.span c.loop-index.index c.loop-index-test.true);
  tries = span_more _ _ c.args.kind _ _ _ _ _ (omega (arith, c.requires.few, c.loop-index-test.true)) c.loop-index.invariant.tries (rw c.record_at-rec.ensures at (c.try_claim_record.ensures.missed c.if-try_claim_record.false));
}

pub returns-then-try_claim_record-clause-tries : goal.returns-then-try_claim_record-clause-tries
returns-then-try_claim_record-clause-tries g c =
    span_claims _ _ c.args.kind _ _ _ _ _ _ c.loop-index-test.true c.requires.few c.loop-index.invariant.tries (rw c.record_at-rec.ensures at (c.try_claim_record.ensures.claimed c.if-try_claim_record.true))

pub returns-clause-tries : goal.returns-clause-tries
returns-clause-tries g c =
    let done : c.loop-index.index ≡ c.args.span.count = omega arith in
    subst (λ z. GoesOnTrying c.args.table.now g.G.Gate.becomes c.args.kind c.args.span.number z None (c.args.seat.now, c.args.gate.now) (c.loop-index.seat, c.loop-index.gate)) done
    c.loop-index.invariant.tries
