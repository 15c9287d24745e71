-- A word of a key against its eight bytes.
use Rattle.record_words.proofs.Common.{ℕ, ◌≡◌, ◌+◌, ◌-◌, ◌*◌, ◌^◌, ◌<◌, ◌≤◌, arith, List, get_or, drop, length, sym, ◌∙◌, ◌⊎◌, ⊎_elim, inl, inr, ◌≢◌, ap, take, get_or-take, lit<, rules, below_more, subst, get_or_past, places, get_or_append_left, length-take-le, get_or-append_right, cases_lt, from_be_bytes, to_be_bytes, w64, from_be_bytes-to_be_bytes_8}
use Rattle.std.proofs.Common.{get_or-drop}
use borrow.Author.Count.{below_none}
use borrow.Rule.Slice.PartMut.{put_mid}
use Rattle.record_words.specs.Leaf.{key_word}

eight_digits : (a b c d e f g h p q r s t u v w : ℕ) → a < 256 → b < 256 → c < 256 → d < 256 → e < 256 → f < 256 → g < 256 → h < 256 → p < 256 → q < 256 → r < 256 → s < 256 → t < 256 → u < 256 → v < 256 → w < 256 →
    a * 256 ^ 7 + b * 256 ^ 6 + c * 256 ^ 5 + d * 256 ^ 4 + e * 256 ^ 3 + f * 256 ^ 2 + g * 256 ^ 1 + h ≡ p * 256 ^ 7 + q * 256 ^ 6 + r * 256 ^ 5 + s * 256 ^ 4 + t * 256 ^ 3 + u * 256 ^ 2 + v * 256 ^ 1 + w →
    (a ≡ p) × (b ≡ q) × (c ≡ r) × (d ≡ s) × (e ≡ t) × (f ≡ u) × (g ≡ v) × (h ≡ w)
eight_digits a b c d e f g h p q r s t u v w ha hb hc hd he hf hg hh hp hq hr hs ht hu hv hw same = (omega arith, omega arith, omega arith, omega arith, omega arith, omega arith, omega arith, omega arith)

-- what the eight bytes are decides the number
same_number : (xs ys : List ℕ) → ((i : ℕ) → i < 8 → get_or xs i 0 ≡ get_or ys i 0) → from_be_bytes w64 xs ≡ from_be_bytes w64 ys
same_number xs ys same = cc (same 0 (lit< tt), same 1 (lit< tt), same 2 (lit< tt), same 3 (lit< tt), same 4 (lit< tt), same 5 (lit< tt), same 6 (lit< tt), same 7 (lit< tt))

pub same_key_word : (xs ys : List ℕ) (j k : ℕ) → ((i : ℕ) → i < 8 → get_or xs (8 * j + i) 0 ≡ get_or ys (8 * k + i) 0) → key_word xs j ≡ key_word ys k
unfolding key_word
same_key_word xs ys j k same = same_number (drop (8 * j) xs) (drop (8 * k) ys) (λ i h. get_or-drop (8 * j) xs i 0 ∙ (same i h ∙ sym (get_or-drop (8 * k) ys i 0)))

-- the word of the bytes of a number is the number
pub key_word-bytes : (xs : List ℕ) (j n : ℕ) → n < 2 ^ 64 → ((i : ℕ) → i < 8 → get_or xs (8 * j + i) 0 ≡ get_or (to_be_bytes w64 n) i 0) → key_word xs j ≡ n
unfolding key_word
key_word-bytes xs j n small same =
    same_number (drop (8 * j) xs) (to_be_bytes w64 n) (λ i h. get_or-drop (8 * j) xs i 0 ∙ same i h) ∙ from_be_bytes-to_be_bytes_8 n small

-- what holds of 0 to 7 holds of each number below 8
below_eight : (P : ℕ → Type 0) → P 0 → P 1 → P 2 → P 3 → P 4 → P 5 → P 6 → P 7 → (i : ℕ) → i < 8 → P i
below_eight P a b c d e f g h i small =
    below_more P 7 (below_more P 6 (below_more P 5 (below_more P 4 (below_more P 3 (below_more P 2 (below_more P 1 (below_more P 0 (below_none P) a) b) c) d) e) f) g) h i small

-- the number decides the eight bytes
bytes_of_number : (xs ys : List ℕ) → ((i : ℕ) → get_or xs i 0 < 256) → ((i : ℕ) → get_or ys i 0 < 256) → from_be_bytes w64 xs ≡ from_be_bytes w64 ys → (i : ℕ) → i < 8 → get_or xs i 0 ≡ get_or ys i 0
bytes_of_number xs ys small_xs small_ys same i h =
    let all = eight_digits (get_or xs 0 0) (get_or xs 1 0) (get_or xs 2 0) (get_or xs 3 0) (get_or xs 4 0) (get_or xs 5 0) (get_or xs 6 0) (get_or xs 7 0)
    (get_or ys 0 0) (get_or ys 1 0) (get_or ys 2 0) (get_or ys 3 0) (get_or ys 4 0) (get_or ys 5 0) (get_or ys 6 0) (get_or ys 7 0)
    (small_xs 0) (small_xs 1) (small_xs 2) (small_xs 3) (small_xs 4) (small_xs 5) (small_xs 6) (small_xs 7)
    (small_ys 0) (small_ys 1) (small_ys 2) (small_ys 3) (small_ys 4) (small_ys 5) (small_ys 6) (small_ys 7) same in
    below_eight (λ i. get_or xs i 0 ≡ get_or ys i 0) all.0 all.1 all.2 all.3 all.4 all.5 all.6 all.7 i h

-- the word decides its eight bytes
pub same_key_bytes : (xs ys : List ℕ) (j k : ℕ) → ((i : ℕ) → get_or xs i 0 < 256) → ((i : ℕ) → get_or ys i 0 < 256) → key_word xs j ≡ key_word ys k → (i : ℕ) → i < 8 → get_or xs (8 * j + i) 0 ≡ get_or ys (8 * k + i) 0
unfolding key_word
same_key_bytes xs ys j k small_xs small_ys same i h =
    sym (get_or-drop (8 * j) xs i 0) ∙ (bytes_of_number (drop (8 * j) xs) (drop (8 * k) ys)
    (λ n. rw get_or-drop (small_xs (8 * j + n))) (λ n. rw get_or-drop (small_ys (8 * k + n))) same i h ∙ get_or-drop (8 * k) ys i 0)

-- the number of the eight bytes from byte 8j on
pub key_word-eight : (eight xs : List ℕ) (j : ℕ) → ((i : ℕ) → i < 8 → get_or eight i 0 ≡ get_or xs (8 * j + i) 0) → from_be_bytes w64 eight ≡ key_word xs j
unfolding key_word
key_word-eight eight xs j same = same_number eight (drop (8 * j) xs) (λ i h. same i h ∙ sym (get_or-drop (8 * j) xs i 0))

-- the elements of a list a part of which was written
pub written_at : (xs ys : List ℕ) (a k i : ℕ) → a + k ≤ length xs → length ys ≡ k → i < k → get_or (put_mid a k xs ys) (a + i) 0 ≡ get_or ys i 0
written_at xs ys a k i within all small = search (rules, places)

pub written_other : (xs ys : List ℕ) (a k n : ℕ) → a + k ≤ length xs → length ys ≡ k → (n < a) ⊎ (a + k ≤ n) → get_or (put_mid a k xs ys) n 0 ≡ get_or xs n 0
written_other xs ys a k n within all outside =
    ⊎_elim (λ (before : n < a). get_or_append_left (take a xs) _ 0 n (omega (arith, length-take-le a xs (omega arith))) ∙ get_or-take a xs n 0 before)
    (λ (after : a + k ≤ n). get_or-append_right (take a xs) _ a n 0 (length-take-le a xs (omega arith)) (omega arith)
    ∙ (get_or-append_right ys _ k (n - a) 0 all (omega arith)
    ∙ (get_or-drop k (drop a xs) (n - a - k) 0 ∙ (get_or-drop a xs (k + (n - a - k)) 0 ∙ ap (λ m. get_or xs m 0) (omega arith))))) outside

-- byte i of one word is no byte of another
pub outside : (k j i : ℕ) → i < 8 → k ≢ j → (8 * k + i < 8 * j) ⊎ (8 * j + (8 * j + 8 - 8 * j) ≤ 8 * k + i)
outside k j i small other = ⊎_elim (λ (below : k < j). inl (omega arith)) (λ (above : j ≤ k). inr (omega arith)) (cases_lt k j)

-- a number's bytes are bytes
pub small_byte : (n i : ℕ) → get_or (to_be_bytes w64 n) i 0 < 256
small_byte n i =
    ⊎_elim (λ (low : i < 8). below_eight (λ k. get_or (to_be_bytes w64 n) k 0 < 256) (omega arith) (omega arith) (omega arith) (omega arith) (omega arith) (omega arith) (omega arith) (omega arith) i low)
    (λ (past : 8 ≤ i). rw (get_or_past (to_be_bytes w64 n) i 0 past) (lit< tt)) (cases_lt i 8)

-- and so are those of a list of bytes a part of which was written with bytes
pub small_written : (xs ys : List ℕ) (a k : ℕ) → a + k ≤ length xs → length ys ≡ k → ((i : ℕ) → get_or xs i 0 < 256) → ((i : ℕ) → get_or ys i 0 < 256) → (n : ℕ) → get_or (put_mid a k xs ys) n 0 < 256
small_written xs ys a k within all small_xs small_ys n =
    ⊎_elim (λ (before : n < a). other (inl before)) (λ (after : a ≤ n). ⊎_elim (λ (inside : n < a + k). at after inside) (λ (past : a + k ≤ n). other (inr past)) (cases_lt n (a + k))) (cases_lt n a)
  where
    other : (n < a) ⊎ (a + k ≤ n) → get_or (put_mid a k xs ys) n 0 < 256
    other beside = rw (written_other xs ys a k n within all beside) (small_xs n)

    at : a ≤ n → n < a + k → get_or (put_mid a k xs ys) n 0 < 256
    at after inside =
        let e : a + (n - a) ≡ n = omega (arith, after) in
        subst (λ z. get_or (put_mid a k xs ys) z 0 < 256) e
        (rw (written_at xs ys a k (n - a) within all (omega (arith, after, inside))) (small_ys (n - a)))
