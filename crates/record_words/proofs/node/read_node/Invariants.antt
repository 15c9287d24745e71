-- The entries so far are those of the node that has the words.
use Rattle.record_words.proofs.Common.{◌≡◌, take, NodeView}
use Rattle.record_words.specs.Node.{HasNodeWords, node_words}
use Rattle.record_words.proofs.node.read_node.Given as goal

abbrev pub invariant-loop-slot : goal.invariant-loop-slot
invariant-loop-slot l = (node : NodeView) → HasNodeWords node → node_words node ≡ l.words → l.entries.items ≡ take l.slot node.entries
