-- The words of a head, written part by part.
use Rattle.record_words.proofs.Common.{ℕ, ◌≡◌, ◌+◌, ◌-◌, ◌^◌, ◌<◌, ◌≤◌, ◌++◌, ◌⊎◌, inl, inr, ⊎_elim, List, [], ◌∷◌, arith, drop, get_or, get_or-set_other, get_or-set_same, length, length-append, replicate, set, take, sym, ap, ap₂, ◌∙◌, cases_lt, append_assoc, ext_get_or, get_or-append_right, get_or-drop, get_or-replicate, get_or_append_left, length-drop, length-replicate, replicate-append-replicate, take_at, get_or-map-range_with_len, length-map-range_with_len, chunk-drop, get_or-chunk, length-chunk, with_free}
use Rattle.std.proofs.lemmas.List.{length-set}
use lib.Lanes.{chunk}
use Rattle.record_words.specs.Kinds.{head_size, index_lanes, kind_of, kind_part, lane_words, mask_lanes, rows_from, with_free_to_16}
use Rattle.record_words.specs.Packed.{column_words, fixed_words, kind_words, meta_word, position_word, row_words}
use Rattle.record_words.specs.declared.kind.HeadKind.{HeadKind}
use Rattle.record_words.specs.declared.kind.HeadKind.TheVariants.{Middle, Narrow, Wide}
use Rattle.record_words.proofs.HeadParts.HeadsByKind.{length-lane_words}
use Rattle.record_words.proofs.Lawful.{get_or-padded}
use Rattle.record_words.proofs.search.NearHeads.{index_none, mask_none, zeros_in_lanes}
use Rattle.record_words.proofs.OfKinds.{AreNear, are_near_unless_wide, narrow-not-wide, narrow_few}
use Rattle.record_words.proofs.Packed.{position_word-same}
use Rattle.record_words.proofs.HeadParts.{indexes_long, masks_long}

-- sixteen of the places of at most sixteen columns
places_as : (columns : List ℕ) (n m : ℕ) → length columns + n ≡ 16 → columns ++ replicate (n + m) 65535 ≡ (columns ++ replicate n 65535) ++ replicate m 65535
places_as columns n m whole = ap (λ (free : List ℕ). columns ++ free) (sym (replicate-append-replicate n m 65535)) ∙ sym (append_assoc columns (replicate n 65535) (replicate m 65535))

pub sixteen_places : (columns : List ℕ) → length columns ≤ 16 → chunk 0 16 (with_free columns) ≡ with_free_to_16 columns
sixteen_places columns few =
    let n : ℕ = 16 - length columns in
    let all : length columns + n ≡ 16 = omega (arith, few) in
    let free : 31 - length columns ≡ n + 15 = omega (arith, few) in
    ap (λ k. take 16 (columns ++ replicate k 65535)) free
    ∙ (ap (take 16) (places_as columns n 15 all)
    ∙ take_at (with_free_to_16 columns) (replicate 15 65535) 16 (length-append columns (replicate n 65535) ∙ omega (arith, all, length-replicate {A = ℕ} n 65535)))

-- the words of positions
pub wide_columns : (columns words : List ℕ) → length words ≡ 57 → ((j : ℕ) → j < 8 → get_or words (1 + j) 0 ≡ position_word (with_free columns) j) → chunk 1 8 words ≡ column_words Wide columns
wide_columns columns words whole each =
    let long : length (chunk 1 8 words) ≡ 8 = length-chunk 1 8 words (omega (arith, whole)) in
    ext_get_or 0 (chunk 1 8 words) (column_words Wide columns) (long ∙ sym (length-map-range_with_len (position_word columns) 0 8))
    (λ j h. let low : j < 8 = omega (arith, h, long) in
    get_or-chunk 1 8 words j 0 low ∙ (each j low ∙ (position_word-same (with_free columns) columns j (get_or-padded columns (31 - length columns) 65535)
    ∙ sym (get_or-map-range_with_len (position_word columns) 0 8 j j 0 low (omega arith)))))

-- a list that is two others at its places
joined : (n m : ℕ) (xs a b : List ℕ) → length xs ≡ n + m → length a ≡ n → length b ≡ m → ((k : ℕ) → k < n → get_or xs k 0 ≡ get_or a k 0) → ((k : ℕ) → k < m → get_or xs (n + k) 0 ≡ get_or b k 0) → xs ≡ a ++ b
joined n m xs a b long a_long b_long front back =
    ext_get_or 0 xs (a ++ b) (long ∙ sym (length-append a b ∙ ap₂ (λ i j. i + j) a_long b_long))
    (λ i h. ⊎_elim (λ (low : i < n). front i low ∙ sym (get_or_append_left a b 0 i (omega (arith, low, a_long))))
    (λ (past : n ≤ i). ap (λ k. get_or xs k 0) (let e : i ≡ n + (i - n) = omega (arith, past) in e) ∙ (back (i - n) (omega (arith, h, long, past)) ∙ sym (get_or-append_right a b n i 0 a_long past)))
    (cases_lt i n))

-- the words of lanes
pub narrow_columns : (columns words : List ℕ) → kind_of columns ≡ Narrow → length words ≡ 57 → get_or words 1 0 ≡ get_or (lane_words 8 2 (index_lanes columns)) 1 0 → get_or words 2 0 ≡ get_or (lane_words 8 2 (mask_lanes columns)) 1 0 →
    chunk 1 2 words ≡ column_words Narrow columns
narrow_columns columns words kinded whole indexes masks =
    let its : List ℕ = lane_words 8 1 (drop 8 (index_lanes columns)) in
    let ones : List ℕ = lane_words 8 1 (drop 8 (mask_lanes columns)) in
    let near : AreNear columns 16 = are_near_unless_wide columns (narrow-not-wide (kind_of columns) kinded) in
    let few : length columns ≤ 8 = narrow_few columns kinded in
    let its_word : get_or words 1 0 ≡ get_or its 0 0 = indexes ∙ ap (λ (ws : List ℕ). get_or ws 1 0) (zeros_in_lanes (index_lanes columns) (indexes_long columns 16 near near.few) (index_none columns few)) in
    let ones_word : get_or words 2 0 ≡ get_or ones 0 0 = masks ∙ ap (λ (ws : List ℕ). get_or ws 1 0) (zeros_in_lanes (mask_lanes columns) (masks_long columns 16 near near.few) (mask_none columns few)) in
    joined 1 1 (chunk 1 2 words) its ones (length-chunk 1 2 words (omega (arith, whole))) (length-lane_words 8 1 (drop 8 (index_lanes columns))) (length-lane_words 8 1 (drop 8 (mask_lanes columns)))
    (λ k low. let e : k ≡ 0 = omega (arith, low) in rw e (get_or-chunk 1 2 words 0 0 (omega arith) ∙ its_word))
    (λ k low. let e : k ≡ 0 = omega (arith, low) in rw e (get_or-chunk 1 2 words 1 0 (omega arith) ∙ ones_word))

pub middle_columns : (columns words : List ℕ) → length words ≡ 57 → ((k : ℕ) → k < 2 → get_or words (1 + k) 0 ≡ get_or (lane_words 8 2 (index_lanes columns)) k 0) →
    ((k : ℕ) → k < 2 → get_or words (3 + k) 0 ≡ get_or (lane_words 8 2 (mask_lanes columns)) k 0) → chunk 1 4 words ≡ column_words Middle columns
middle_columns columns words whole indexes masks =
    joined 2 2 (chunk 1 4 words) (lane_words 8 2 (index_lanes columns)) (lane_words 8 2 (mask_lanes columns))
    (length-chunk 1 4 words (omega (arith, whole))) (length-lane_words 8 2 (index_lanes columns)) (length-lane_words 8 2 (mask_lanes columns))
    (λ k low. get_or-chunk 1 4 words k 0 (omega (arith, low)) ∙ indexes k low)
    (λ k low. get_or-chunk 1 4 words (2 + k) 0 (omega (arith, low)) ∙ (ap (λ i. get_or words i 0) (let e : 1 + (2 + k) ≡ 3 + k = omega arith in e) ∙ masks k low))

-- ---- a head, part by part
-- a part that has the same words at each place
same_chunk : (from n : ℕ) (xs ys : List ℕ) → from + n ≤ length xs → from + n ≤ length ys → ((k : ℕ) → k < n → get_or xs (from + k) 0 ≡ get_or ys (from + k) 0) → chunk from n xs ≡ chunk from n ys
same_chunk from n xs ys room room_y same =
    let long : length (chunk from n xs) ≡ n = length-chunk from n xs room in
    ext_get_or 0 (chunk from n xs) (chunk from n ys) (long ∙ sym (length-chunk from n ys room_y))
    (λ k h. let low : k < n = omega (arith, h, long) in get_or-chunk from n xs k 0 low ∙ (same k low ∙ sym (get_or-chunk from n ys k 0 low)))

front_is : (n : ℕ) (xs : List ℕ) → 1 ≤ length xs → get_or xs 0 0 ≡ n → chunk 0 1 xs ≡ n ∷ []
front_is n [] some is = absurd (omega (arith, some))
front_is n (x ∷ xs) some is = ap (λ m. m ∷ []) is

-- words that are these parts
in_parts : (a b c n : ℕ) (cs rs us back words : List ℕ) → 1 ≤ length words → get_or words 0 0 ≡ n → chunk 1 a words ≡ cs → chunk (1 + a) b words ≡ rs → chunk (1 + a + b) c words ≡ us → drop (1 + a + b + c) words ≡ back →
    words ≡ (n ∷ (cs ++ (rs ++ us))) ++ back
in_parts a b c n cs rs us back words some first of_columns of_rows of_unused behind =
    chunk-drop 0 1 words ∙ (ap₂ (λ (f t : List ℕ). f ++ t) (front_is n words some first)
    (chunk-drop 1 a words ∙ ap₂ (λ (f t : List ℕ). f ++ t) of_columns
    (chunk-drop (1 + a) b words ∙ ap₂ (λ (f t : List ℕ). f ++ t) of_rows
    (chunk-drop (1 + a + b) c words ∙ ap₂ (λ (f t : List ℕ). f ++ t) of_unused behind)))
    ∙ ap (λ (t : List ℕ). n ∷ t) (ap (λ (t : List ℕ). cs ++ t) (sym (append_assoc rs us back)) ∙ sym (append_assoc cs (rs ++ us) back)))

order : (kind : HeadKind) → (1 ≤ rows_from kind) × (rows_from kind ≤ head_size kind) × (head_size kind ≤ 25)
order Wide = (omega arith, omega arith, omega arith)
order Narrow = (omega arith, omega arith, omega arith)
order Middle = (omega arith, omega arith, omega arith)

-- the words are those of a head of this kind, before the old ones of the entries
pub record ArePut (kind : HeadKind) (n : ℕ) (columns rows old words : List ℕ) : Type 0 where
  pub first : get_or words 0 0 ≡ n
  pub of_columns : chunk 1 (rows_from kind - 1) words ≡ column_words kind columns
  pub of_rows : chunk (rows_from kind) (head_size kind - rows_from kind) words ≡ row_words kind rows
  pub unused : chunk (head_size kind) (25 - head_size kind) words ≡ replicate (25 - head_size kind) (2 ^ 64 - 1)
  pub behind : drop 25 words ≡ drop 25 old

pub put_together : (kind : HeadKind) (count height : ℕ) (columns rows old words : List ℕ) → length words ≡ 57 → ArePut kind (meta_word count (length columns) height + kind_part kind columns) columns rows old words →
    words ≡ kind_words kind count height columns rows ++ drop 25 old
put_together Wide count height columns rows old words whole put = in_parts 8 16 0 _ (column_words Wide columns) (row_words Wide rows) [] (drop 25 old) words (omega (arith, whole)) put.first put.of_columns put.of_rows put.unused put.behind
put_together Narrow count height columns rows old words whole put =
    in_parts 2 4 18 _ (column_words Narrow columns) (row_words Narrow rows) (replicate 18 (2 ^ 64 - 1)) (drop 25 old) words (omega (arith, whole)) put.first put.of_columns put.of_rows put.unused put.behind
put_together Middle count height columns rows old words whole put =
    in_parts 4 8 12 _ (column_words Middle columns) (row_words Middle rows) (replicate 12 (2 ^ 64 - 1)) (drop 25 old) words (omega (arith, whole)) put.first put.of_columns put.of_rows put.unused put.behind

-- the first word and the unused ones are written, then the columns, then the rows
module _ (kind : HeadKind) (n : ℕ) (columns rows old start middle words : List ℕ) (old_whole : length old ≡ 57) (start_whole : length start ≡ 57) (middle_whole : length middle ≡ 57) (whole : length words ≡ 57)
    (first : get_or start 0 0 ≡ n) (ones : (k : ℕ) → 0 < k → k < 25 → get_or start k 0 ≡ 2 ^ 64 - 1) (behind : (k : ℕ) → 25 ≤ k → get_or start k 0 ≡ get_or old k 0)
    (of_columns : chunk 1 (rows_from kind - 1) middle ≡ column_words kind columns) (others : (k : ℕ) → (k < 1) ⊎ (rows_from kind ≤ k) → get_or middle k 0 ≡ get_or start k 0)
    (of_rows : chunk (rows_from kind) (head_size kind - rows_from kind) words ≡ row_words kind rows) (rest : (k : ℕ) → (k < rows_from kind) ⊎ (head_size kind ≤ k) → get_or words k 0 ≡ get_or middle k 0) where
  pub in_order : ArePut kind n columns rows old words
  in_order =
      let (some, before, room) = order kind in
      let last : length (chunk (head_size kind) (25 - head_size kind) words) ≡ 25 - head_size kind = length-chunk (head_size kind) (25 - head_size kind) words (omega (arith, room, whole)) in
      let count : length (drop 25 words) ≡ 32 = omega (arith, length-drop 25 words, whole) in record {
        first = rest 0 (inl (omega (arith, some))) ∙ (others 0 (inl (omega arith)) ∙ first);
        of_columns = same_chunk 1 (rows_from kind - 1) words middle (omega (arith, some, before, room, whole)) (omega (arith, some, before, room, middle_whole)) (λ k low. rest (1 + k) (inl (omega (arith, low)))) ∙ of_columns;
        of_rows = of_rows;
        unused = ext_get_or 0 (chunk (head_size kind) (25 - head_size kind) words) (replicate (25 - head_size kind) (2 ^ 64 - 1)) (last ∙ sym (length-replicate {A = ℕ} (25 - head_size kind) (2 ^ 64 - 1)))
            (λ k h. let low : k < 25 - head_size kind = omega (arith, h, last) in
            get_or-chunk (head_size kind) (25 - head_size kind) words k 0 low
            ∙ (rest (head_size kind + k) (inr (omega arith)) ∙ (others (head_size kind + k) (inr (omega (arith, before))) ∙ (ones (head_size kind + k) (omega (arith, some, before)) (omega (arith, low))
            ∙ sym (get_or-replicate {A = ℕ} (25 - head_size kind) k (2 ^ 64 - 1) 0 low)))));
        behind = ext_get_or 0 (drop 25 words) (drop 25 old) (count ∙ sym (omega (arith, length-drop 25 old, old_whole)))
            (λ k h. get_or-drop 25 words k 0 ∙ (rest (25 + k) (inr (omega (arith, room))) ∙ (others (25 + k) (inr (omega (arith, before, room))) ∙ (behind (25 + k) (omega arith) ∙ sym (get_or-drop 25 old k 0)))));
      }

-- all words of a head are ones before, but for the first
module _ (filled old : List ℕ) (n : ℕ) (full : filled ≡ replicate 25 (2 ^ 64 - 1)) (whole : length old ≡ 57) where
  abbrev pub start : List ℕ
  start = set (filled ++ drop 25 old) 0 n

  long : length filled ≡ 25
  long = ap length full ∙ length-replicate {A = ℕ} 25 (2 ^ 64 - 1)

  before : length (filled ++ drop 25 old) ≡ 57
  before = length-append filled (drop 25 old) ∙ omega (arith, long, length-drop 25 old, whole)

  pub start_whole : length start ≡ 57
  start_whole = length-set (filled ++ drop 25 old) 0 n ∙ before

  pub start_first : get_or start 0 0 ≡ n
  start_first = get_or-set_same (filled ++ drop 25 old) 0 n 0 (omega (arith, before))

  pub start_ones : (k : ℕ) → 0 < k → k < 25 → get_or start k 0 ≡ 2 ^ 64 - 1
  start_ones k some low =
      get_or-set_other (filled ++ drop 25 old) 0 k n 0 (omega (arith, some))
      ∙ (get_or_append_left filled (drop 25 old) 0 k (omega (arith, low, long)) ∙ (ap (λ (xs : List ℕ). get_or xs k 0) full ∙ get_or-replicate {A = ℕ} 25 k (2 ^ 64 - 1) 0 low))

  pub start_behind : (k : ℕ) → 25 ≤ k → get_or start k 0 ≡ get_or old k 0
  start_behind k past =
      get_or-set_other (filled ++ drop 25 old) 0 k n 0 (omega (arith, past))
      ∙ (get_or-append_right filled (drop 25 old) 25 k 0 long past ∙ (get_or-drop 25 old (k - 25) 0 ∙ ap (λ i. get_or old i 0) (let e : 25 + (k - 25) ≡ k = omega (arith, past) in e)))

pub as_fixed : (kind : HeadKind) (count height : ℕ) (columns rows : List ℕ) → kind ≡ kind_of columns → kind_words kind count height columns rows ≡ fixed_words count height columns rows
unfolding fixed_words
as_fixed kind count height columns rows is = ap (λ k. kind_words k count height columns rows) is
