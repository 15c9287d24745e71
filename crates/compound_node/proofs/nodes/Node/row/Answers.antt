-- A place past the last one has none.
use Rattle.compound_node.proofs.Common.{arith, subst, sym, get_or_past}
use Rattle.compound_node.proofs.Lawful.{same_count}
use Rattle.compound_node.specs.Nodes.{IsLawfulNode}
use Rattle.compound_node.proofs.nodes.Node.row.Goals as goal

pub returns-else-slot-lt-MAX_ENTRIES : goal.returns-else-slot-lt-MAX_ENTRIES
returns-else-slot-lt-MAX_ENTRIES c =
    let lawful : IsLawfulNode c.args.self.now = subst IsLawfulNode c.self.view_is c.self.invariant in
    sym (get_or_past c.args.self.now.rows c.args.slot 4294967295 (omega (arith, same_count c.args.self.now lawful, lawful.room)))
