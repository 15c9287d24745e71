-- The bytes of the words are those of the key, if there is one.
use Rattle.rowex_replay_state.proofs.Common.{ℕ, ◌≡◌, ◌<◌, take, drop, get_or, sym, ◌∙◌, EachIndex, up_to_key, Bad, leaf_words_parts, key_of_bytes, same_pair, up_to_key_long, up_to_key_size, up_to_key_value}
use Rattle.rowex_replay_state.proofs.leaf.Readings.{reads_none, reads_one}
use Rattle.rowex_replay_state.proofs.leaf.LeafBytes.{rest_of_bytes, leaf_of_bytes}
use Rattle.rowex_replay_state.proofs.leaf.unpack_leaf_with_bytes.Goals as goal

pub returns-then-not-are_zero_bytes : goal.returns-then-not-are_zero_bytes
returns-then-not-are_zero_bytes c =
    reads_none Bad (λ leaf has same.
    let zero : EachIndex c.split_at.result.1.now (λ i. get_or c.split_at.result.1.now i 0 ≡ 0) =
    rw c.split_at.ensures.back (rest_of_bytes c.args.bytes.now (up_to_key c.args.words.now) leaf _ c.requires.spelled (λ i. (c.type_inv.bytes i).fits) has (sym same) (sym (up_to_key_size c.args.words.now))) in
    absurd (cc (c.are_zero_bytes.ensures.1 zero)))

pub returns-in-Ok : goal.returns-in-Ok
returns-in-Ok c =
    let key : c.in-Ok.key ≡ take (get_or c.args.words.now 1 0) c.args.bytes.now = c.in-Ok.ensures.ok ∙ c.split_at.ensures.front in
    let zero : EachIndex (drop (get_or c.args.words.now 1 0) c.args.bytes.now) (λ i. get_or (drop (get_or c.args.words.now 1 0) c.args.bytes.now) i 0 ≡ 0) =
    rw c.split_at.ensures.back at (c.are_zero_bytes.ensures.0 c.if-not-are_zero_bytes.false) in
    let value = up_to_key_value c.args.words.now in
    let size = sym (up_to_key_size c.args.words.now) in
    let small : (i : ℕ) → get_or c.args.bytes.now i 0 < 256 = λ i. (c.type_inv.bytes i).fits in
    reads_one _ (record { key = c.in-Ok.ensures.key; value = c.fits-words 0 })
    (rw (key, sym value) (leaf_of_bytes c.args.bytes.now (up_to_key c.args.words.now) _ c.requires.spelled small (up_to_key_long c.args.words.now) size c.requires.short zero))
    (λ leaf has same. same_pair _ leaf.0 _ leaf.1
    (key ∙ key_of_bytes c.args.bytes.now (up_to_key c.args.words.now) leaf _ c.requires.spelled small has (sym same) size)
    (sym value ∙ (leaf_words_parts leaf (up_to_key c.args.words.now) (sym same)).value))
