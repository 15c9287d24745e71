-- A get's steps are those of a call that only reads; any other call's are a change's.
use Rattle.hot_index.proofs.Common.{read_told, get_few, unless_get, may_lack, may_refuse}
use Rattle.hot_index.proofs.index.Index.try_call_with.Goals as goal

pub returns-in-Get-clause-told : goal.returns-in-Get-clause-told
returns-in-Get-clause-told g c = read_told _ _ _ _ c.get_with.ensures.made.read

pub returns-in-Get-clause-steps : goal.returns-in-Get-clause-steps
returns-in-Get-clause-steps g c = let made = c.get_with.ensures.made in get_few c.args.call.now c.args.self.now.layout _ _ _ made.few made.depth

pub returns-in_default-clause-lacks : goal.returns-in_default-clause-lacks
returns-in_default-clause-lacks g c = may_lack c.args.call.now c.try_change_with.result (may_refuse c.args.self.now.layout c.args.pass.now c.try_change_with.new.pass c.args.call.now c.in_default.not-Get c.try_change_with.result c.try_change_with.ensures.leafless c.try_change_with.ensures.call)

pub returns-in_default-clause-may : goal.returns-in_default-clause-may
returns-in_default-clause-may g c = may_refuse c.args.self.now.layout c.args.pass.now c.try_change_with.new.pass c.args.call.now c.in_default.not-Get c.try_change_with.result c.try_change_with.ensures.leafless c.try_change_with.ensures.call

pub returns-in_default-clause-made : goal.returns-in_default-clause-made
returns-in_default-clause-made g c = unless_get c.args.call.now _ _ c.in_default.not-Get c.try_change_with.ensures.made
