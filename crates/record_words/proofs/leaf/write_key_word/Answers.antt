-- The eight bytes from 8j on are those of the word, and the others are as before.
use Rattle.record_words.proofs.Common.{◌≡◌, ◌+◌, ◌-◌, ◌*◌, ◌<◌, length, arith, ◌∙◌, ap, get_or, subst, sym, to_be_bytes, w64}
use Rattle.record_words.proofs.Bytes.{key_word-bytes, same_key_word, small_byte, small_written, written_at, written_other, outside}
use Rattle.record_words.proofs.leaf.write_key_word.Goals as goal

pub returns-clause-written : goal.returns-clause-written
returns-clause-written c =
    let new : c.copy_from_slice.new.self ≡ to_be_bytes w64 c.args.word = c.copy_from_slice.ensures.after ∙ c.to_be_bytes.ensures in
    let eight : length c.copy_from_slice.new.self ≡ 8 * c.args.j + 8 - 8 * c.args.j = ap length new ∙ omega arith in
    key_word-bytes _ c.args.j c.args.word c.ranges.word.fits
    (λ i h. written_at c.args.bytes.now c.copy_from_slice.new.self (8 * c.args.j) (8 * c.args.j + 8 - 8 * c.args.j) i (omega arith) eight (omega arith) ∙ ap (λ bytes. get_or bytes i 0) new)

pub returns-clause-others : goal.returns-clause-others
returns-clause-others c k other =
    let new : c.copy_from_slice.new.self ≡ to_be_bytes w64 c.args.word = c.copy_from_slice.ensures.after ∙ c.to_be_bytes.ensures in
    let eight : length c.copy_from_slice.new.self ≡ 8 * c.args.j + 8 - 8 * c.args.j = ap length new ∙ omega arith in
    same_key_word _ c.args.bytes.now k k
    (λ i h. written_other c.args.bytes.now c.copy_from_slice.new.self (8 * c.args.j) (8 * c.args.j + 8 - 8 * c.args.j) (8 * k + i) (omega arith) eight (outside k c.args.j i h other))

pub returns-clause-small : goal.returns-clause-small
returns-clause-small c =
    let new : c.copy_from_slice.new.self ≡ to_be_bytes w64 c.args.word = c.copy_from_slice.ensures.after ∙ c.to_be_bytes.ensures in
    let eight : length c.copy_from_slice.new.self ≡ 8 * c.args.j + 8 - 8 * c.args.j = ap length new ∙ omega arith in
    small_written c.args.bytes.now c.copy_from_slice.new.self (8 * c.args.j) (8 * c.args.j + 8 - 8 * c.args.j) (omega arith) eight c.fits-bytes
    (λ i. subst (λ bytes. get_or bytes i 0 < 256) (sym new) (small_byte c.args.word i))
