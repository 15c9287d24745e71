-- The numbers that share a word, each by its part.
use Rattle.std.proofs.Common.{ℕ, ◌≡◌, ◌+◌, ◌*◌, ◌/◌, ◌%◌, ◌^◌, ◌<◌, ◌-◌, List, get_or, arith, ap, below_more, ◌∙◌}
use borrow.Author.Count.{below_none}
use Rattle.record_words.specs.Packed.{position_at, position_word, row_at, row_word}
use Rattle.record_words.proofs.Packed.{position_at-lt, row_at-lt}

-- a position is its 16 bits of its word
pub position_in_word : (columns : List ℕ) (i : ℕ) → ((k : ℕ) → get_or columns k 0 < 2 ^ 16) → position_at columns i ≡ position_word columns (i / 4) / 2 ^ (16 * (i % 4)) % 2 ^ 16
unfolding position_word
position_in_word columns i small =
    let j : ℕ = i / 4 in
    let a = position_at-lt columns (4 * j) small in
    let b = position_at-lt columns (4 * j + 1) small in
    let c = position_at-lt columns (4 * j + 2) small in
    let d = position_at-lt columns (4 * j + 3) small in
    let P : ℕ → Type 0 = λ r. (n : ℕ) → n ≡ 4 * j + r → position_at columns n ≡ position_word columns j / 2 ^ (16 * r) % 2 ^ 16 in
    below_more P 3 (below_more P 2 (below_more P 1 (below_more P 0 (below_none P)
    (λ n is. ap (position_at columns) (let e : n ≡ 4 * j = omega arith in e) ∙ omega arith))
    (λ n is. ap (position_at columns) is ∙ omega arith))
    (λ n is. ap (position_at columns) is ∙ omega arith))
    (λ n is. ap (position_at columns) is ∙ omega arith) (i % 4) (omega arith) i (omega arith)

-- a row is its half of its word
pub row_in_word : (rows : List ℕ) (i : ℕ) → ((k : ℕ) → get_or rows k 0 < 2 ^ 32) → row_at rows i ≡ row_word rows (i / 2) / 2 ^ (32 * (i % 2)) % 2 ^ 32
unfolding row_word
row_in_word rows i small =
    let j : ℕ = i / 2 in
    let a = row_at-lt rows (2 * j) small in
    let b = row_at-lt rows (2 * j + 1) small in
    let P : ℕ → Type 0 = λ r. (n : ℕ) → n ≡ 2 * j + r → row_at rows n ≡ row_word rows j / 2 ^ (32 * r) % 2 ^ 32 in
    below_more P 1 (below_more P 0 (below_none P)
    (λ n is. ap (row_at rows) (let e : n ≡ 2 * j = omega arith in e) ∙ omega arith))
    (λ n is. ap (row_at rows) is ∙ omega arith) (i % 2) (omega arith) i (omega arith)
