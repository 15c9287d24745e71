-- The try with a gate that is told nothing.
use Rattle.hot_index.proofs.index.Index.try_exchange.Goals as goal

pub returns-clause-tried : goal.returns-clause-tried
returns-clause-tried c = c.try_exchange_with.ensures.tried

pub returns-clause-busy : goal.returns-clause-busy
returns-clause-busy c = c.try_exchange_with.ensures.busy
