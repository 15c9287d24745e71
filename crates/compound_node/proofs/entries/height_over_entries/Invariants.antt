-- The greatest height of the entries behind.
use Rattle.std.proofs.Common.{◌≡◌, drop}
use Rattle.compound_node.specs.Nodes.{greatest_height}
use Rattle.compound_node.proofs.entries.height_over_entries.Given as goal

abbrev pub invariant-loop-i : goal.invariant-loop-i
invariant-loop-i l = l.greatest ≡ greatest_height (drop l.i l.entries)
