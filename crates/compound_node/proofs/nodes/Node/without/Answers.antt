-- The parts of a node fit together.
use Rattle.compound_node.proofs.Lawful.{parts_fit}
use Rattle.compound_node.proofs.nodes.Node.without.Goals as goal

pub make_rest-requires-clause-fit : goal.make_rest-requires-clause-fit
make_rest-requires-clause-fit c = rw (c.columns.ensures, c.rows.ensures, c.as_slice.ensures.value) (parts_fit _ c.self.invariant)
