-- The parts of a node fit together.
use Rattle.compound_node.proofs.Lawful.{parts_fit}
use Rattle.compound_node.proofs.nodes.Node.cut.Goals as goal

pub make_cut-requires : goal.make_cut-requires
make_cut-requires c = rw (c.columns.ensures, c.rows.ensures, c.as_slice.ensures.value) (parts_fit _ c.self.invariant)
