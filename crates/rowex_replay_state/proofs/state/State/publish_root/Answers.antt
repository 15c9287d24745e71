-- The root's word is that of the entry.
use Rattle.std.proofs.lemmas.Result.{IfOk-weaker}
use Rattle.rowex_replay_state.proofs.Publishing.Stores.{root_answers}
use Rattle.rowex_replay_state.proofs.state.State.publish_root.Goals as goal

pub returns-clause-ok : goal.returns-clause-ok
returns-clause-ok c = IfOk-weaker c.publish_tree.result _ _
    (λ made p. root_answers made c.args.self.now c.publish_tree.new.self c.args.pass c.args.word c.args.root c.requires.fits c.requires.spelled (c.has_locked_anchor.ensures.0 c.if-not-has_locked_anchor.false) p) c.publish_tree.ensures.ok
