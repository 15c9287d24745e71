-- None may be tried, the first is free, and it is not.
use Rattle.std.proofs.Common.{arith, ◌≡◌, ◌<◌}
use Rattle.record_words.specs.Layout.{uncommitted_in}
use Rattle.rowex_table.proofs.Committed.{committed_falls}
use Rattle.rowex_records.specs.Claims.{count_of, record_of}
use Rattle.rowex_records.proofs.Claims.{tries_behind, tries_first, tries_none}
use Rattle.rowex_records.proofs.claiming.claim_and_count_tries.Goals as goal
use Rattle.rowex_records.proofs.claiming.claim_and_count_tries.Goals.{After-number_or_zero-begin}
use Rattle.rowex_records.proofs.claiming.claim_and_count_tries.Given.{Over}

pub returns-then-most-eq0-clause-tries : goal.returns-then-most-eq0-clause-tries
returns-then-most-eq0-clause-tries g c = tries_none _ _ c.args.kind _ _ _ c.if-most-eq0.true

-- a record of the kind is tried
begin_low : (g : Over) (c : After-number_or_zero-begin g) → c.number_or_zero-begin.result < count_of c.args.kind c.args.table.now.layout
begin_low g c =
    let all : c.count.result ≡ count_of c.args.kind c.args.table.now.layout = rw c.layout.ensures at c.count.ensures in
    rw (← all) (c.number_or_zero-begin.ensures.low (omega (arith, all, c.requires.few, c.if-most-eq0.false)))

pub try_claim_record-requires-clause-committed : goal.try_claim_record-requires-clause-committed
try_claim_record-requires-clause-committed g c =
    rw (c.locate-at.ensures.rec, c.record_at.ensures) (c.requires.committed c.number_or_zero-begin.result (begin_low g (goal.at.try_claim_record-requires-clause-committed g c).After-number_or_zero-begin))

pub claim_record_behind-requires-clause-committed : goal.claim_record_behind-requires-clause-committed
claim_record_behind-requires-clause-committed g c = λ index low.
    committed_falls c.args.table.now.layout (uncommitted_in c.try_claim_record.new.seat.bounds) (uncommitted_in c.args.seat.now.bounds) (record_of c.args.kind index) ((c.try_claim_record.ensures.missed c.if-try_claim_record.false).does.seat.4) (c.requires.committed index low)

pub returns-then-try_claim_record-clause-tries : goal.returns-then-try_claim_record-clause-tries
returns-then-try_claim_record-clause-tries g c =
    let all : c.count.result ≡ count_of c.args.kind c.args.table.now.layout = rw c.layout.ensures at c.count.ensures in
    tries_first _ _ c.args.kind c.args.turn.from _ c.args.turn.most (begin_low g (goal.at.returns-then-try_claim_record-clause-tries g c).After-number_or_zero-begin) (rw all at c.number_or_zero-begin.ensures.begin) _ _
    (rw (c.locate-at.ensures.rec, c.record_at.ensures) at (c.try_claim_record.ensures.claimed c.if-try_claim_record.true))

pub returns-clause-tries : goal.returns-clause-tries
returns-clause-tries g c =
    let all : c.count.result ≡ count_of c.args.kind c.args.table.now.layout = rw c.layout.ensures at c.count.ensures in
    tries_behind _ _ c.args.kind c.args.turn.from _ c.args.turn.most (begin_low g (goal.at.returns-clause-tries g c).After-number_or_zero-begin) (rw all at c.number_or_zero-begin.ensures.begin) _ _ _ _
    (rw (c.locate-at.ensures.rec, c.record_at.ensures) at (c.try_claim_record.ensures.missed c.if-try_claim_record.false)) c.claim_record_behind.ensures.tries
