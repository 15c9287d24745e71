-- A whole node takes the old one's record.
use Rattle.plain_trie_records.proofs.Common.{arith, IsBuiltFrom}
use Rattle.plain_trie_records.proofs.Heights.{heights_whole}
use Rattle.plain_trie_records.proofs.Risen.{set_other, set_same}
use Rattle.plain_trie_records.proofs.raising.store_grown.Goals as goal

pub returns-in-One-clause-heights : goal.returns-in-One-clause-heights
returns-in-One-clause-heights c = λ old P at s steady.
    rw c.put_node.ensures.nodes (heights_whole c.args.nodes.now.items c.args.number old P at c.in-One.node (rw c.in-One.is at s) (rw c.in-One.is at steady))

pub returns-in-One-clause-others : goal.returns-in-One-clause-others
returns-in-One-clause-others c = λ m v ne at. rw c.put_node.ensures.nodes (set_other c.args.nodes.now.items c.args.number m c.in-One.node v ne at)

pub returns-in-One-clause-does : goal.returns-in-One-clause-does
returns-in-One-clause-does c = λ old P at s big.
    let built : IsBuiltFrom c.in-One.node P = rw c.in-One.is at s in
    rw c.in-One.is (c.in-One.node, rw c.put_node.ensures.nodes (set_same c.args.nodes.now.items c.args.number c.in-One.node (omega (arith, c.requires.number, c.args.nodes.now.ok.0))), built)

pub returns-in-Two-clause-does : goal.returns-in-Two-clause-does
returns-in-Two-clause-does c = λ old P at s big. rw c.in-Two.is (c.store_cut.ensures.side old P at (rw c.in-Two.is at s) big)
