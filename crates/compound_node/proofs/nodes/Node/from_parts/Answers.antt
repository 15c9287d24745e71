-- A head and entries that stand below its height make a node.
use Rattle.std.proofs.Common.{refl}
use Rattle.compound_node.proofs.Lawful.{other_node}
use Rattle.compound_node.proofs.nodes.Node.from_parts.Goals as goal

pub of-requires : goal.of-requires
of-requires c = rw (c.in_ok-head.ensures.head, c.list_items.ensures)
    (other_node _ c.args.height c.args.columns.now c.args.padded_rows.now (c.in_ok-head.ensures.some.0 refl) c.args.entries.now refl (c.all_stand_below.ensures.0 c.if-not-all_stand_below.false)).lawful
