-- The bytes of the words that were loaded so far, with zeros behind them.
use Rattle.rowex_reading.proofs.Common.{◌≡◌, ◌≢◌, ℕ, ◌+◌, ◌-◌, ◌*◌, ◌<◌, ◌≤◌, ◌++◌, List, length, get_or, replicate, take, ⊎_elim, sym, ◌∙◌, subst, arith, lit<, get_or-take, length-append, cases_lt, get_or_append_left, get_or-append_right, length-replicate, length-take-le, take-append-le, take-take, MAX_BYTES, HoldsKey, IsKey, key_word, words_of_key, LEAF_FIELDS, zero_in}
use Rattle.record_words.proofs.Bytes.{same_key_word}

-- the places of the words before this one, of which the first key word is at 2
abbrev pub front : ℕ → List ℕ → List ℕ
front i places = take (8 * (i - 2)) places ++ replicate (MAX_BYTES - 8 * (i - 2)) 0

module _ (i : ℕ) (places : List ℕ) (long : length places ≡ MAX_BYTES) (few : i ≤ LEAF_FIELDS) where
  taken : length (take (8 * (i - 2)) places) ≡ 8 * (i - 2)
  taken = length-take-le (8 * (i - 2)) places (omega (arith, long, few))

  pub length-front : length (front i places) ≡ MAX_BYTES
  length-front = length-append (take (8 * (i - 2)) places) (replicate (MAX_BYTES - 8 * (i - 2)) 0) ∙ omega (arith, taken, few, length-replicate {A = ℕ} (MAX_BYTES - 8 * (i - 2)) 0)

  at_front : (x : ℕ) → x < 8 * (i - 2) → get_or (front i places) x 0 ≡ get_or places x 0
  at_front x low = get_or_append_left (take (8 * (i - 2)) places) (replicate (MAX_BYTES - 8 * (i - 2)) 0) 0 x (omega (arith, taken, low)) ∙ get_or-take (8 * (i - 2)) places x 0 low

  behind : (x : ℕ) → 8 * (i - 2) ≤ x → get_or (front i places) x 0 ≡ 0
  behind x past = get_or-append_right (take (8 * (i - 2)) places) (replicate (MAX_BYTES - 8 * (i - 2)) 0) (8 * (i - 2)) x 0 taken past ∙ zero_in (MAX_BYTES - 8 * (i - 2)) (x - 8 * (i - 2))

  pub front_small : ((b : ℕ) → get_or places b 0 < 256) → (b : ℕ) → get_or (front i places) b 0 < 256
  front_small small b =
      ⊎_elim (λ (low : b < 8 * (i - 2)). rw (at_front b low) (small b)) (λ (past : 8 * (i - 2) ≤ b). rw (behind b past) (lit< tt)) (cases_lt b (8 * (i - 2)))

  -- a key that has no more bytes than the words has them
  pub take-front : (n : ℕ) → n ≤ 8 * (i - 2) → take n (front i places) ≡ take n places
  take-front n few = take-append-le n (take (8 * (i - 2)) places) (replicate (MAX_BYTES - 8 * (i - 2)) 0) (omega (arith, taken, few)) ∙ take-take n (8 * (i - 2)) places few

  front_word : (b : ℕ) → b < i - 2 → key_word (front i places) b ≡ key_word places b
  front_word b low = same_key_word (front i places) places b b (λ t small. at_front (8 * b + t) (omega (arith, low, small)))

  pub key_front : (size : ℕ) → i ≡ 2 + words_of_key size → HoldsKey (front i places) size → IsKey (take size places)
  key_front size all holds = subst IsKey (take-front size (omega (arith, all))) holds.key

-- a word more was written
module _ (i w : ℕ) (places more : List ℕ) (long : length places ≡ MAX_BYTES) (long' : length more ≡ MAX_BYTES) (past : 2 ≤ i) (few : i < LEAF_FIELDS)
    (written : key_word more (i - 2) ≡ w) (others : (b : ℕ) → b ≢ i - 2 → key_word more b ≡ key_word places b) where
  pub front_written : key_word (front (i + 1) more) (i - 2) ≡ w
  front_written = front_word (i + 1) more long' (omega arith) (i - 2) (omega arith) ∙ written

  pub front_others : (b : ℕ) → b ≢ i - 2 → key_word (front (i + 1) more) b ≡ key_word (front i places) b
  front_others b other = ⊎_elim (λ (low : b < i - 2). front_word (i + 1) more long' (omega arith) b (omega (arith, low)) ∙ (others b other ∙ sym (front_word i places long (omega arith) b low)))
      (λ (high : i - 2 ≤ b).
      same_key_word (front (i + 1) more) (front i places) b b (λ t small.
      behind (i + 1) more long' (omega arith) (8 * b + t) (omega (arith, other, high, past)) ∙ sym (behind i places long (omega arith) (8 * b + t) (omega (arith, high))))) (cases_lt b (i - 2))
