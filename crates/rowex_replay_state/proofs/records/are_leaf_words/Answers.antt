-- Words are read exactly where they spell a leaf.
use Rattle.rowex_replay_state.proofs.records.Packing.{packed_leaf}
use Rattle.rowex_replay_state.proofs.records.are_leaf_words.Goals as goal

pub returns : goal.returns
returns c = rw c.is_ok.ensures.value (packed_leaf c.args.words.now c.unpack_leaf.result c.unpack_leaf.ensures)
