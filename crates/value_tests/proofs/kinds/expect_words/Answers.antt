-- The words that are read back are those of the node.
use Rattle.std.proofs.Common.{sym}
use Rattle.value_tests.proofs.kinds.expect_words.Goals as goal

pub read_node-read-requires : goal.read_node-read-requires
read_node-read-requires g c = (c.args.node.now, c.pack_node-packed.ensures.fits, sym c.pack_node-packed.ensures.words)
