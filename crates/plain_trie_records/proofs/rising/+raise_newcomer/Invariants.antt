-- Heights fall on the way down.
use Rattle.compound_node.specs.Nodes.{height_of}
use Rattle.plain_trie_records.proofs.rising.+raise_newcomer.Given as goal

abbrev pub decreases-raise_newcomer : goal.decreases-raise_newcomer
decreases-raise_newcomer l = height_of l.entry
