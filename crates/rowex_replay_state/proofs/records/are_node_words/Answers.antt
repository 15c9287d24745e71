-- Words are read exactly where they spell a node.
use Rattle.rowex_replay_state.proofs.records.Packing.{packed_node}
use Rattle.rowex_replay_state.proofs.records.are_node_words.Goals as goal

pub returns : goal.returns
returns c = rw c.is_ok.ensures.value (packed_node c.args.words.now c.unpack_node.result c.unpack_node.ensures)
