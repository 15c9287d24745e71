-- Of each kind all records are committed.
use Rattle.std.proofs.lemmas.List.{get_or-replicate}
use Rattle.record_words.specs.declared.TheConstants.{RECORD_KINDS}
use Rattle.hot_index.proofs.loading.Load.finish.Goals as goal

pub returns-clause-committed : goal.returns-clause-committed
returns-clause-committed c = c.finish_committed.ensures.all (λ kind low. get_or-replicate RECORD_KINDS kind 4294967295 0 low)
