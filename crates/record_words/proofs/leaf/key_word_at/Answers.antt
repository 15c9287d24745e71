-- The eight bytes are those of the key's word.
use Rattle.std.proofs.Common.{◌∙◌, ◌+◌, ◌-◌, ◌*◌, arith, ap, drop, take, get_or, get_or-take, get_or-drop}
use Rattle.key_bits.specs.Key.{with_zeros}
use Rattle.record_words.proofs.Bytes.{key_word-eight}
use Rattle.record_words.proofs.Lawful.{get_or-padded}
use Rattle.record_words.proofs.leaf.key_word_at.Goals as goal

pub returns : goal.returns
returns c =
    c.from_be_bytes.ensures ∙ key_word-eight _ c.args.key.now c.args.j
    (λ i h. ap (λ bytes. get_or bytes i 0) c.copy_from_slice.ensures.after ∙ (ap (λ places. get_or (take (8 * c.args.j + 8 - 8 * c.args.j) (drop (8 * c.args.j) places)) i 0) c.padded_bytes.ensures.bytes ∙ (get_or-take (8 * c.args.j + 8 - 8 * c.args.j) (drop (8 * c.args.j) (with_zeros c.args.key.now)) i 0 (omega (arith, h)) ∙
    (get_or-drop (8 * c.args.j) (with_zeros c.args.key.now) i 0 ∙ get_or-padded c.args.key.now _ 0 (8 * c.args.j + i)))))
