-- The passes are those of the index that was made.
use Rattle.hot_example.proofs.Taking.{told_made}
use Rattle.hot_example.proofs.run_example.Goals as goal

pub take_both-requires-clause-count : goal.take_both-requires-clause-count
take_both-requires-clause-count g c = told_made _ _ c.create.result c.map_err.result _ c.in_ok-index.was c.map_err.ensures.cases c.create.ensures.count

pub take_both-requires-clause-each : goal.take_both-requires-clause-each
take_both-requires-clause-each g c = told_made _ _ c.create.result c.map_err.result _ c.in_ok-index.was c.map_err.ensures.cases c.create.ensures.each
