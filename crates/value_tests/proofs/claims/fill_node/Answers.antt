-- The seat has claimed the record, and may fill it.
use Rattle.std.proofs.Common.{rules, ◌≡◌, true, arith}
use Rattle.record_words.specs.declared.records.Rec.TheVariants.{Node as a_node}
use Rattle.rowex_table.proofs.Rights.{fills}
use Rattle.value_tests.proofs.claims.fill_node.Goals as goal

pub fill-requires-clause-may : goal.fill-requires-clause-may
fill-requires-clause-may g c =
    let has : c.claim_if_free.result ≡ true = search rules in
    let claimed = c.claim_if_free.ensures.taken has in
    fills _ _ (a_node 0) 1 7 claimed.0 c.requires.range (omega arith, omega arith) (omega arith) (omega arith) claimed.2
