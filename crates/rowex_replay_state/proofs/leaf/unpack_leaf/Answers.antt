-- No key is so long.
use Rattle.rowex_replay_state.proofs.Common.{arith, sym, up_to_key, Bad, leaf_words_parts, up_to_key_size}
use Rattle.rowex_replay_state.proofs.leaf.Readings.{reads_none}
use Rattle.rowex_replay_state.proofs.leaf.unpack_leaf.Goals as goal

pub returns-then-words : goal.returns-then-words
returns-then-words c =
    reads_none Bad (λ leaf has same. omega (arith, has.key.short, up_to_key_size c.args.words.now, (leaf_words_parts leaf (up_to_key c.args.words.now) (sym same)).size))
