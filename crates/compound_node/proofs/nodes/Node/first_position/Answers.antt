-- The head's root fork is the node's.
use Rattle.compound_node.proofs.Common.{refl, subst, ◌≡◌, AtRootFork}
use Rattle.compound_node.specs.Nodes.{piece}
use Rattle.compound_node.proofs.nodes.Node.first_position.Goals as goal

pub returns-clause-root : goal.returns-clause-root
returns-clause-root c = subst (λ node. AtRootFork (λ p zero one. c.first_position.result ≡ p) (piece node)) c.self.view_is (c.first_position.ensures.root _ c.self.invariant refl)
