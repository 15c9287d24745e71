-- The record has the words of the node.
use Rattle.std.proofs.Common.{sym}
use Rattle.rowex_writing.proofs.build.Building.{has_made}
use Rattle.rowex_writing.proofs.build.nodes.make_node.Goals as goal

pub returns-clause-made : goal.returns-clause-made
returns-clause-made g c = λ news b.
    has_made c.args.table.now c.make_node_from_words.new.seat c.make_node_from_words.new.build.made.items news c.args.node.now c.make_node_from_words.result c.pack_node-words.ensures.fits
    (c.make_node_from_words.ensures.made news c.args.node.now c.pack_node-words.ensures.fits (sym c.pack_node-words.ensures.words) b)
