-- A get's steps are those of a call that only reads.
use Rattle.hot_index.proofs.Common.{read_told, unless_get, waited_lacks}
use Rattle.hot_index.proofs.index.Index.call_with.Goals as goal

pub returns-in-Get-clause-told : goal.returns-in-Get-clause-told
returns-in-Get-clause-told g c = read_told _ _ _ _ c.get_with.ensures.made.read

pub returns-in_default-clause-lacks : goal.returns-in_default-clause-lacks
returns-in_default-clause-lacks g c = waited_lacks c.args.self.now.layout c.args.pass.now c.retry_change_with.new.pass c.args.call.now c.in_default.not-Get c.retry_change_with.result c.retry_change_with.ensures.leafless c.retry_change_with.ensures.call

pub returns-in_default-clause-tries : goal.returns-in_default-clause-tries
returns-in_default-clause-tries g c = unless_get c.args.call.now _ _ c.in_default.not-Get c.retry_change_with.ensures.tries
