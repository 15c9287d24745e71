-- The state is tested first, and the word of `Live` says that the node may be locked.
use Rattle.std.proofs.Common.{sym, ◌∙◌}
use Rattle.rowex_replay_state.proofs.LockSteps.{node_stays, node_locks}
use Rattle.rowex_replay_state.proofs.state.State.lock_node.Goals as goal

pub returns-else-not-is_node_in_tree : goal.returns-else-not-is_node_in_tree
returns-else-not-is_node_in_tree c = rw (sym c.self.view_is, c.set_lock.ensures) (node_locks _ c.args.pass c.args.node c.args.found (c.has_state_word.ensures.0 c.if-not-has_state_word.false) (c.if-found-pack_state.true ∙ c.pack_state.ensures) (c.is_node_in_tree.ensures.0 c.if-not-is_node_in_tree.false))

pub returns-else-found-pack_state : goal.returns-else-found-pack_state
returns-else-found-pack_state c = rw (sym c.self.view_is) (node_stays _ c.args.pass c.args.node c.args.found (c.has_state_word.ensures.0 c.if-not-has_state_word.false) (λ same. c.if-found-pack_state.false (same ∙ sym c.pack_state.ensures)))
