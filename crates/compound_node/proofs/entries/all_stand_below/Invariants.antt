-- The entries so far stand below.
use Rattle.compound_node.proofs.Common.{take, All}
use Rattle.compound_node.specs.Nodes.{StandsBelow}
use Rattle.compound_node.proofs.entries.all_stand_below.Given as goal

abbrev pub invariant-loop-entry : goal.invariant-loop-entry
invariant-loop-entry l = All (StandsBelow l.height) (take l.entry-index l.entries)
