-- The rows' words are stored by kind: those of both halves of wide ones, one after the other.
use Rattle.record_words.proofs.Common.{List, ℕ, ap, arith, get_or, inl, inr, length, rules, subst, sym, ⊎_elim, ◌++◌, ◌+◌, ◌-◌, ◌<◌, ◌∙◌, ◌≡◌, ◌≤◌, ◌⊎◌, cases_lt, ext_get_or, get_or-map-range_with_len, length-map-range_with_len, get_or-chunk, length-chunk, pick_l-range_with_len, pick_l_left, range_with_len}
use Rattle.record_words.proofs.HeadParts.HeadsByKind.{length-row_words}
use Rattle.record_words.proofs.Written.{at_stored, before_stored, chunk_stored, half_words, length-stored, other_stored, stored}
use Rattle.record_words.specs.Kinds.{head_size, rows_from}
use Rattle.record_words.specs.Packed.{row_word, row_words}
use Rattle.record_words.specs.declared.kind.HeadKind.{HeadKind}
use Rattle.record_words.specs.declared.kind.HeadKind.TheVariants.{Middle, Narrow, Wide}
use Rattle.record_words.proofs.node.put_rows.Goals as goal
use lib.Lanes.{chunk, pick_l}

-- words that have the rows of a kind have those of this one
for_kind : (kind this : HeadKind) (rows words : List ℕ) → kind ≡ this → chunk (rows_from this) (head_size this - rows_from this) words ≡ row_words this rows → chunk (rows_from kind) (head_size kind - rows_from kind) words ≡ row_words kind rows
for_kind kind this rows words is = subst (λ k. chunk (rows_from k) (head_size k - rows_from k) words ≡ row_words k rows) (sym is)

outside : (kind this : HeadKind) (k : ℕ) → kind ≡ this → (k < rows_from kind) ⊎ (head_size kind ≤ k) → (k < rows_from this) ⊎ (head_size this ≤ k)
outside kind this k is = subst (λ t. (k < rows_from t) ⊎ (head_size t ≤ k)) is

-- ---- a half of the rows
low_half : (rows : List ℕ) → length rows ≡ 32 → pick_l 0 (rows ++ rows) (range_with_len 0 16) ≡ chunk 0 16 rows
low_half rows long = pick_l_left 0 rows rows 32 (range_with_len 0 16) long tt ∙ pick_l-range_with_len 0 rows 0 16 (omega (arith, long))

high_half : (rows : List ℕ) → length rows ≡ 32 → pick_l 0 (rows ++ rows) (range_with_len 16 16) ≡ chunk 16 16 rows
high_half rows long = pick_l_left 0 rows rows 32 (range_with_len 16 16) long tt ∙ pick_l-range_with_len 0 rows 16 16 (omega (arith, long))

module _ (rows words low high : List ℕ) (long : length rows ≡ 32) (whole : length words ≡ 57) (eight : length low ≡ 8) (eight_more : length high ≡ 8)
    (of_low : (j : ℕ) → j < 8 → get_or low j 0 ≡ row_word (pick_l 0 (rows ++ rows) (range_with_len 0 16)) j) (of_high : (j : ℕ) → j < 8 → get_or high j 0 ≡ row_word (pick_l 0 (rows ++ rows) (range_with_len 16 16)) j) where
  abbrev once : List ℕ
  once = stored 9 48 words low whole (omega (arith, eight))

  once_whole : length once ≡ 57
  once_whole = length-stored 9 48 words low whole (omega (arith, eight))

  abbrev twice : List ℕ
  twice = stored 17 40 once high once_whole (omega (arith, eight_more))

  twice_whole : length twice ≡ 57
  twice_whole = length-stored 17 40 once high once_whole (omega (arith, eight_more))

  word_at : (k : ℕ) → k < 16 → get_or twice (9 + k) 0 ≡ row_word rows k
  word_at k small =
      ⊎_elim
      (λ (l : k < 8).
      before_stored 17 40 once high once_whole (omega (arith, eight_more)) (9 + k) (omega (arith, l))
      ∙ (at_stored 9 48 words low whole (omega (arith, eight)) k (omega (arith, l, eight))
      ∙ (of_low k l ∙ (ap (λ rs. row_word rs k) (low_half rows long) ∙ (half_words rows 0 k l ∙ ap (row_word rows) (omega arith))))))
      (λ (h : 8 ≤ k).
      ap (λ i. get_or twice i 0) (let e : 9 + k ≡ 17 + (k - 8) = omega (arith, h) in e)
      ∙ (at_stored 17 40 once high once_whole (omega (arith, eight_more)) (k - 8) (omega (arith, h, small, eight_more))
      ∙ (of_high (k - 8) (omega (arith, h, small)) ∙ (ap (λ rs. row_word rs (k - 8)) (high_half rows long) ∙ (half_words rows 8 (k - 8) (omega (arith, h, small)) ∙ ap (row_word rows) (omega (arith, h)))))))
      (cases_lt k 8)

  rows_are : chunk 9 16 twice ≡ row_words Wide rows
  rows_are =
      let count : length (chunk 9 16 twice) ≡ 16 = length-chunk 9 16 twice (omega (arith, twice_whole)) in
      ext_get_or 0 (chunk 9 16 twice) (row_words Wide rows) (count ∙ sym (length-map-range_with_len (row_word rows) 0 16))
      (λ k h. let small : k < 16 = omega (arith, h, count) in get_or-chunk 9 16 twice k 0 small ∙ (word_at k small ∙ sym (get_or-map-range_with_len (row_word rows) 0 16 k k 0 small (omega arith))))

  others_stay : (k : ℕ) → (k < 9) ⊎ (25 ≤ k) → get_or twice k 0 ≡ get_or words k 0
  others_stay k out =
      other_stored 17 40 once high once_whole (omega (arith, eight_more)) k (⊎_elim (λ (h : k < 9). inl (omega (arith, h))) (λ (h : 25 ≤ k). inr (omega (arith, h, eight_more))) out)
      ∙ other_stored 9 48 words low whole (omega (arith, eight)) k (⊎_elim (λ (h : k < 9). inl h) (λ (h : 25 ≤ k). inr (omega (arith, h, eight))) out)

pub returns-in-Wide-clause-rows : goal.returns-in-Wide-clause-rows
returns-in-Wide-clause-rows c =
    let low = c.words_of_rows in let high = c.words_of_rows-in-Wide in
    let whole : length c.args.words.now ≡ 57 = search rules in
    for_kind c.args.kind Wide c.args.rows _ c.in-Wide.is (rows_are c.args.rows c.args.words.now low.result high.result c.fits-rows.0 whole low.ensures.whole high.ensures.whole low.ensures.each high.ensures.each)

pub returns-in-Wide-clause-others : goal.returns-in-Wide-clause-others
returns-in-Wide-clause-others c = λ k out.
    let low = c.words_of_rows in let high = c.words_of_rows-in-Wide in
    let whole : length c.args.words.now ≡ 57 = search rules in
    others_stay c.args.rows c.args.words.now low.result high.result c.fits-rows.0 whole low.ensures.whole high.ensures.whole low.ensures.each high.ensures.each k (outside c.args.kind Wide k c.in-Wide.is out)

-- ---- the highest bits of rows, which are stored at once
module _ (kind this : HeadKind) (is : kind ≡ this) (inside : head_size this ≤ 57) (order : rows_from this ≤ head_size this) (rows words made : List ℕ) (whole : length words ≡ 57) (are : made ≡ row_words this rows) where
  long : length made ≡ head_size this - rows_from this
  long = omega (arith, ap length are, length-row_words this rows)

  here : length words ≡ rows_from this + (57 - rows_from this)
  here = omega (arith, whole, inside, order)

  room : length made ≤ 57 - rows_from this
  room = omega (arith, long, inside)

  abbrev put : List ℕ
  put = stored (rows_from this) (57 - rows_from this) words made here room

  rows_put : chunk (rows_from kind) (head_size kind - rows_from kind) put ≡ row_words kind rows
  rows_put = for_kind kind this rows put is (chunk_stored (rows_from this) (57 - rows_from this) words made here room (head_size this - rows_from this) long ∙ are)

  others_kept : (k : ℕ) → (k < rows_from kind) ⊎ (head_size kind ≤ k) → get_or put k 0 ≡ get_or words k 0
  others_kept k out =
      other_stored (rows_from this) (57 - rows_from this) words made here room k
      (⊎_elim (λ (low : k < rows_from this). inl low) (λ (past : head_size this ≤ k). inr (omega (arith, past, long, order))) (outside kind this k is out))

pub returns-in-Narrow-clause-rows : goal.returns-in-Narrow-clause-rows
returns-in-Narrow-clause-rows c = rows_put c.args.kind Narrow c.in-Narrow.is (omega arith) (omega arith) c.args.rows c.args.words.now c.words_of_high_bytes.result (search rules) c.words_of_high_bytes.ensures

pub returns-in-Narrow-clause-others : goal.returns-in-Narrow-clause-others
returns-in-Narrow-clause-others c = others_kept c.args.kind Narrow c.in-Narrow.is (omega arith) (omega arith) c.args.rows c.args.words.now c.words_of_high_bytes.result (search rules) c.words_of_high_bytes.ensures

pub returns-in-Middle-clause-rows : goal.returns-in-Middle-clause-rows
returns-in-Middle-clause-rows c = rows_put c.args.kind Middle c.in-Middle.is (omega arith) (omega arith) c.args.rows c.args.words.now c.words_of_high_halves.result (search rules) c.words_of_high_halves.ensures

pub returns-in-Middle-clause-others : goal.returns-in-Middle-clause-others
returns-in-Middle-clause-others c = others_kept c.args.kind Middle c.in-Middle.is (omega arith) (omega arith) c.args.rows c.args.words.now c.words_of_high_halves.result (search rules) c.words_of_high_halves.ensures
