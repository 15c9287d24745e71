-- Numbers that share a word.
pub mod Parts
use Rattle.record_words.proofs.Common.{ℕ, ◌≡◌, ◌+◌, ◌*◌, ◌/◌, ◌%◌, ◌^◌, ◌<◌, ◌≤◌, ⊎_elim, arith, List, get_or, length, subst, lit<, cases_lt, get_or_default, get_or_past}
use Rattle.record_words.specs.Packed.{position_at, position_word, row_at, row_word}

-- each element is below the bound, and so is what stands for those past the last
at-lt : (xs : List ℕ) (i d bound : ℕ) → d < bound → ((k : ℕ) → get_or xs k 0 < bound) → get_or xs i d < bound
at-lt xs i d bound other small =
    ⊎_elim (λ (inside : i < length xs). rw (get_or_default xs i d 0 inside) (small i)) (λ (past : length xs ≤ i). rw (get_or_past xs i d past) other) (cases_lt i (length xs))

-- ---- four positions in a word
pub position_at-lt : (columns : List ℕ) (i : ℕ) → ((k : ℕ) → get_or columns k 0 < 2 ^ 16) → position_at columns i < 2 ^ 16
position_at-lt columns i small = at-lt columns i 65535 (2 ^ 16) (lit< tt) small

pub position_word-same : (xs ys : List ℕ) (j : ℕ) → ((i : ℕ) → position_at xs i ≡ position_at ys i) → position_word xs j ≡ position_word ys j
unfolding position_word
position_word-same xs ys j same = cc (same (4 * j), same (4 * j + 1), same (4 * j + 2), same (4 * j + 3))

four_digits : (a b c d p q r s : ℕ) → a < 2 ^ 16 → b < 2 ^ 16 → c < 2 ^ 16 → d < 2 ^ 16 → p < 2 ^ 16 → q < 2 ^ 16 → r < 2 ^ 16 → s < 2 ^ 16 →
    a + 2 ^ 16 * b + 2 ^ 32 * c + 2 ^ 48 * d ≡ p + 2 ^ 16 * q + 2 ^ 32 * r + 2 ^ 48 * s → (a ≡ p) × (b ≡ q) × (c ≡ r) × (d ≡ s)
four_digits a b c d p q r s ha hb hc hd hp hq hr hs same = (omega arith, omega arith, omega arith, omega arith)

one_of_four : (P : ℕ → Type 0) (i : ℕ) → P (4 * (i / 4)) → P (4 * (i / 4) + 1) → P (4 * (i / 4) + 2) → P (4 * (i / 4) + 3) → P i
one_of_four P i a b c d =
    ⊎_elim (λ (first : i % 4 < 1). subst P (omega arith) a)
    (λ (later : 1 ≤ i % 4). ⊎_elim (λ (second : i % 4 < 2). subst P (omega arith) b)
    (λ (last : 2 ≤ i % 4). ⊎_elim (λ (third : i % 4 < 3). subst P (omega arith) c) (λ (fourth : 3 ≤ i % 4). subst P (omega arith) d) (cases_lt (i % 4) 3)) (cases_lt (i % 4) 2))
    (cases_lt (i % 4) 1)

-- the word decides its four positions
pub same_positions : (xs ys : List ℕ) → ((k : ℕ) → get_or xs k 0 < 2 ^ 16) → ((k : ℕ) → get_or ys k 0 < 2 ^ 16) → ((j : ℕ) → j < 8 → position_word xs j ≡ position_word ys j) → (i : ℕ) → i < 32 → position_at xs i ≡ position_at ys i
unfolding position_word
same_positions xs ys small_xs small_ys same i few =
    let j : ℕ = i / 4 in
    let small_x = λ (n : ℕ). position_at-lt xs n small_xs in
    let small_y = λ (n : ℕ). position_at-lt ys n small_ys in
    let all = four_digits (position_at xs (4 * j)) (position_at xs (4 * j + 1)) (position_at xs (4 * j + 2)) (position_at xs (4 * j + 3))
    (position_at ys (4 * j)) (position_at ys (4 * j + 1)) (position_at ys (4 * j + 2)) (position_at ys (4 * j + 3))
    (small_x (4 * j)) (small_x (4 * j + 1)) (small_x (4 * j + 2)) (small_x (4 * j + 3))
    (small_y (4 * j)) (small_y (4 * j + 1)) (small_y (4 * j + 2)) (small_y (4 * j + 3)) (same j (omega arith)) in
    let P : ℕ → Type 0 = λ n. position_at xs n ≡ position_at ys n in
    one_of_four P i all.0 all.1 all.2 all.3

-- ---- two rows in a word
pub row_at-lt : (rows : List ℕ) (i : ℕ) → ((k : ℕ) → get_or rows k 0 < 2 ^ 32) → row_at rows i < 2 ^ 32
row_at-lt rows i small = at-lt rows i 4294967295 (2 ^ 32) (lit< tt) small

pub row_word-same : (xs ys : List ℕ) (j : ℕ) → ((i : ℕ) → row_at xs i ≡ row_at ys i) → row_word xs j ≡ row_word ys j
unfolding row_word
row_word-same xs ys j same = cc (same (2 * j), same (2 * j + 1))

two_digits : (a b p q : ℕ) → a < 2 ^ 32 → p < 2 ^ 32 → a + 2 ^ 32 * b ≡ p + 2 ^ 32 * q → (a ≡ p) × (b ≡ q)
two_digits a b p q ha hp same = (omega arith, omega arith)

-- the word decides its two rows
pub same_rows : (xs ys : List ℕ) → ((k : ℕ) → get_or xs k 0 < 2 ^ 32) → ((k : ℕ) → get_or ys k 0 < 2 ^ 32) → ((j : ℕ) → j < 16 → row_word xs j ≡ row_word ys j) → (i : ℕ) → i < 32 → row_at xs i ≡ row_at ys i
unfolding row_word
same_rows xs ys small_xs small_ys same i few =
    let j : ℕ = i / 2 in
    let all = two_digits (row_at xs (2 * j)) (row_at xs (2 * j + 1)) (row_at ys (2 * j)) (row_at ys (2 * j + 1))
    (row_at-lt xs (2 * j) small_xs) (row_at-lt ys (2 * j) small_ys) (same j (omega arith)) in
    let P : ℕ → Type 0 = λ n. row_at xs n ≡ row_at ys n in
    ⊎_elim (λ (low : i % 2 < 1). subst P (omega arith) all.0) (λ (high : 1 ≤ i % 2). subst P (omega arith) all.1) (cases_lt (i % 2) 1)
