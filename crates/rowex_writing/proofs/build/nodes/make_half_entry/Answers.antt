-- The half's own node.
use Rattle.rowex_writing.proofs.build.Building.{half_of_node}
use Rattle.rowex_writing.proofs.build.Walks.{makes_none}
use Rattle.rowex_writing.proofs.build.nodes.make_half_entry.Goals as goal

pub returns-in-Many-clause-made : goal.returns-in-Many-clause-made
returns-in-Many-clause-made g c = λ news b.
    half_of_node c.args.table.now c.args.seat.now c.make_node.new.seat c.make_node.new.build.made.items news c.args.old c.args.half.now c.in-Many.node c.make_node.result c.in-Many.is (c.make_node.ensures.made news b)

pub returns-in-One-clause-makes : goal.returns-in-One-clause-makes
returns-in-One-clause-makes g c = makes_none ((c.args.seat.now, c.args.gate.now), c.args.build.now)

pub returns-in-Same-clause-makes : goal.returns-in-Same-clause-makes
returns-in-Same-clause-makes g c = makes_none ((c.args.seat.now, c.args.gate.now), c.args.build.now)
