-- The search stands at an entry of the tree, in which it ends at the same leaf; heights fall.
use Rattle.compound_node.specs.Nodes.{height_of}
use Rattle.tries.specs.Tree.{Tree}
use Rattle.plain_trie_records.proofs.Store.Searching.{IsOnWay}
use Rattle.plain_trie.specs.Views.{IsTree}
use Rattle.plain_trie.proofs.Views.{view}
use Rattle.plain_trie.proofs.plain.PlainTrie.find_leaf.Given as goal

abbrev pub decreases-loop-entry : goal.decreases-loop-entry
decreases-loop-entry l = height_of l.entry

abbrev pub invariant-loop-entry : goal.invariant-loop-entry
invariant-loop-entry l = (t : Tree) × IsTree (view l.self-inside) l.fn.top t × IsOnWay l.self-inside.nodes.items l.self-inside.leaves.items l.key t l.entry
