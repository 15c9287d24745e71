-- The words become those of the node with the leaf.
use Rattle.rowex_writing.proofs.build.Building.{low_made}
use Rattle.rowex_writing.proofs.build.nodes.make_node_with_leaf.Goals as goal

pub make_node_from_words-requires-clause-spelling : goal.make_node_from_words-requires-clause-spelling
make_node_from_words-requires-clause-spelling g c =
    let (node, takes, can) = c.requires.takes in
    let built = c.add_leaf_to_words.ensures node takes can in
    (built.node, built.has, built.spells)

pub returns-clause-made : goal.returns-clause-made
returns-clause-made g c = λ news node takes can b.
    let built = c.add_leaf_to_words.ensures node takes can in
    low_made c.args.table.now c.make_node_from_words.new.seat c.make_node_from_words.new.build.made.items news built.node _ c.make_node_from_words.result built.has built.built
    (c.make_node_from_words.ensures.made news built.node built.has built.spells b)
