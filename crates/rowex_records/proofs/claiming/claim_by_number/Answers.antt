-- The record is one of the table's, and was claimed.
use Rattle.rowex_records.proofs.claiming.claim_by_number.Goals as goal

pub returns-clause-claimed : goal.returns-clause-claimed
returns-clause-claimed g c = λ taken. (rw c.layout.ensures at (rw c.count.ensures at c.if-number-count.false), rw (c.locate-at.ensures.rec, c.record_at.ensures) at (c.try_claim_record.ensures.claimed taken))
