-- What is left of those that may be tried.
use Rattle.std.proofs.Common.{arith, ◌≡◌, min}
use Rattle.rowex_records.specs.Claims.{count_of}
use Rattle.rowex_records.proofs.Claims.{has_tried, tries_held}
use Rattle.rowex_records.proofs.claiming.claim_next_record.Goals as goal

pub returns-clause-claims : goal.returns-clause-claims
returns-clause-claims g c =
    let most : c.min-most.result ≡ min (count_of c.args.kind c.args.table.now.layout) c.args.left.now = rw c.layout.ensures at (rw c.count.ensures at c.min-most.ensures) in
    has_tried _ _ c.args.kind c.args.from _ _ _ _ _ _ _ most (omega (arith, c.min-most.ensures, c.claim_and_count_tries-claimed.ensures.few)) c.claim_and_count_tries-claimed.ensures.tries

pub returns-clause-held : goal.returns-clause-held
returns-clause-held g c = tries_held _ _ c.args.kind _ _ _ _ _ _ c.claim_and_count_tries-claimed.ensures.tries
