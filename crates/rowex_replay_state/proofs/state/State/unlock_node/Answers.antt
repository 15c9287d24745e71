-- The pass has locked the node, which is in the tree.
use Rattle.std.proofs.Common.{refl, sym}
use Rattle.rowex_replay_state.proofs.LockSteps.{node_gone, node_unlocks}
use Rattle.rowex_replay_state.proofs.state.State.unlock_node.Goals as goal

pub returns : goal.returns
returns c = rw (sym c.self.view_is, c.set_lock.ensures) (node_unlocks _ c.args.pass c.args.node (c.is_locked_by.ensures.0 c.if-not-is_locked_by.false) (c.is_node_in_tree.ensures.0 c.if-not-is_node_in_tree.false))

pub returns-then-not-is_node_in_tree : goal.returns-then-not-is_node_in_tree
returns-then-not-is_node_in_tree c = rw (sym c.self.view_is) (refl, node_gone _ c.args.pass c.args.node (λ h. let x = c.is_node_in_tree.ensures.1 h in let y = c.if-not-is_node_in_tree.true in cc))
