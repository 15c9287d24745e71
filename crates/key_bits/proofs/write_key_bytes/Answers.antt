-- Eight bytes and zeros stand in front of zeros; or 32 bytes do, and then the others; or all bytes.
use Rattle.std.proofs.Common.{ℕ, ◌≡◌, ◌+◌, ◌-◌, ◌≤◌, ◌++◌, ◌∷◌, [], ◌∙◌, List, ap, ap₂, arith, drop, get_or, length, length-drop, refl, replicate, subst, sym, take}
use Rattle.std.proofs.lemmas.Simd.{length-chunk, length-put_chunk, pick_l-range_with_len, put_chunk_is, take_more_put_chunk}
use Rattle.std.proofs.lemmas.Slice.{drop-append-drop, drop-put_mid, take-put_mid}
use Rattle.std.proofs.lemmas.List.{length-replicate, take-append-drop, take_all}
use Rattle.key_bits.specs.declared.TheConstants.{MAX_BYTES}
use Rattle.key_bits.specs.Key.{with_zeros}
use Rattle.key_bits.proofs.Holding.{written}
use Rattle.key_bits.proofs.write_key_bytes.Goals as goal
use borrow.Rule.Slice.PartMut.{put_mid}
use lib.Lanes.{chunk, pick_l, put_chunk}

-- the places, once eight bytes and 24 zeros have been written
abbrev placed : List ℕ → List ℕ
placed bytes = put_chunk 0 (replicate MAX_BYTES 0) (pick_l 0 (take 8 bytes ++ replicate 8 0)
    (0 ∷ 1 ∷ 2 ∷ 3 ∷ 4 ∷ 5 ∷ 6 ∷ 7 ∷ 8 ∷ 9 ∷ 10 ∷ 11 ∷ 12 ∷ 13 ∷ 14 ∷ 15 ∷ 8 ∷ 9 ∷ 10 ∷ 11 ∷ 12 ∷ 13 ∷ 14 ∷ 15 ∷ 8 ∷ 9 ∷ 10 ∷ 11 ∷ 12 ∷ 13 ∷ 14 ∷ 15 ∷ []))

eight_placed : (a b c d e f g h : ℕ) → let bytes : List ℕ = a ∷ b ∷ c ∷ d ∷ e ∷ f ∷ g ∷ h ∷ [] in placed bytes ≡ with_zeros bytes
eight_placed a b c d e f g h = refl

placed_is : (bytes : List ℕ) → length bytes ≡ 8 → placed bytes ≡ with_zeros bytes
placed_is bytes long =
    subst (λ z. placed z ≡ with_zeros z) (pick_l-range_with_len 0 bytes 0 8 (omega (arith, long)) ∙ take_all 8 bytes (omega (arith, long)))
    (eight_placed (get_or bytes 0 0) (get_or bytes 1 0) (get_or bytes 2 0) (get_or bytes 3 0) (get_or bytes 4 0) (get_or bytes 5 0) (get_or bytes 6 0) (get_or bytes 7 0))

pub returns-then-bytes-eq8 : goal.returns-then-bytes-eq8
returns-then-bytes-eq8 c = rw c.requires.zeros (placed_is c.args.bytes.now c.if-bytes-eq8.true)

-- 32 bytes or more: the first of them, and then the others
all_placed : (bytes array rest : List ℕ) → array ≡ replicate MAX_BYTES 0 → 32 ≤ length bytes → rest ≡ drop 32 bytes →
    put_mid 32 (length bytes - 32) (put_chunk 0 array (chunk 0 32 bytes)) rest ≡ with_zeros bytes
all_placed bytes array rest empty many rest_is =
    let front = chunk 0 32 bytes in
    let first = put_chunk 0 array front in
    let places : length array ≡ 240 = ap length empty ∙ length-replicate {A = ℕ} MAX_BYTES 0 in
    let long : length front ≡ 32 = length-chunk 0 32 bytes many in
    let count : length rest ≡ length bytes - 32 = ap length rest_is ∙ length-drop 32 bytes in
    let room : length first ≡ 240 = length-put_chunk 0 array front ∙ places in
    let here : first ≡ front ++ drop 32 array = put_chunk_is 0 array front (omega (arith, long, places)) ∙ ap (λ n. front ++ drop n array) long in
    let all = put_mid 32 (length bytes - 32) first rest in
    let before : take (length bytes) all ≡ bytes = take-put_mid 32 (length bytes - 32) first rest (length bytes) (omega (arith, count, many)) (omega (arith, room))
    ∙ (ap₂ (λ a b. a ++ b) (take_more_put_chunk 0 array front 32 (omega (arith, long)) (omega (arith, places))) rest_is ∙ take-append-drop 32 bytes) in
    let behind : drop (length bytes) all ≡ drop (length bytes) (replicate MAX_BYTES 0) = drop-put_mid 32 (length bytes - 32) first rest (length bytes) (omega (arith, many)) (omega (arith, room)) count
    ∙ (ap (drop (length bytes)) here ∙ (drop-append-drop 32 array front (length bytes) many long ∙ ap (drop (length bytes)) empty)) in
    sym (take-append-drop (length bytes) all) ∙ (ap₂ (λ a b. a ++ b) before behind ∙ written bytes)

pub returns-then-bytes-ge32 : goal.returns-then-bytes-ge32
returns-then-bytes-ge32 c = all_placed c.args.bytes.now c.args.array.now c.copy_from_slice.new.self c.requires.zeros c.if-bytes-ge32.true (c.copy_from_slice.ensures.after ∙ take_all (length c.args.bytes.now - 32) (drop 32 c.args.bytes.now) (omega (arith, length-drop 32 c.args.bytes.now)))

pub returns-else-bytes-ge32 : goal.returns-else-bytes-ge32
returns-else-bytes-ge32 c = rw (c.copy_from_slice-else-bytes-ge32.ensures.after, c.requires.zeros) (written c.args.bytes.now)
