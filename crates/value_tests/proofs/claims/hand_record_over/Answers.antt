-- The seat has claimed the record, and may release it.
use Rattle.std.proofs.Common.{rules, ◌≡◌, true}
use Rattle.rowex_table.proofs.Rights.{releases}
use Rattle.value_tests.proofs.claims.hand_record_over.Goals as goal

pub release-requires-clause-may : goal.release-requires-clause-may
release-requires-clause-may g c =
    let has : c.claim_if_free.result ≡ true = search rules in
    let claimed = c.claim_if_free.ensures.taken has in
    releases _ _ c.args.rec claimed.0 c.requires.range claimed.2
