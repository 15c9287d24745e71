-- Reading the words of a record that spell a value gives the value's parts.
pub mod Leafing
pub mod Storing
use Rattle.rowex_core.proofs.Common.{◌≡◌, ◌⊎◌, inl, inr, ℕ, zero, suc, ◌+◌, ◌-◌, ◌*◌, ◌/◌, ◌%◌, ◌^◌, ◌<◌, ◌≤◌, List, [], ◌∷◌, ◌++◌, length, get_or, take, drop, map, Option, Some, None, nat_lt, eqb, ltb, if◌then◌else◌, true, false, refl, sym, ap, ap₂, ◌∙◌, arith, length-take, get_or-take, get_or-drop, All, slice_get, unwrap_or, eq-eqb, ne_eqb, cases_lt, lt-ltb, le-ltb, ext_get_or, get_or_default, take_at, drop_at, length-take-le, length-map, get_or-map, length-map-range_with_len, get_or-map-range_with_len, unwrap_or-slice_get, Entry, Leaf, Node, NodeView, head_of, piece, same_count, piece_of, Place, Fork, size, places, HasEntryWord, entry_word, HasNodeWords, head_words, entry_words, node_words, fixed_words, length-entry_words, entry_words_at, middle_row_is, narrow_row_is, near_column_is, told, whole, wide_position, wide_row, Subtrie, entry_at, NodeWords, column_byte, column_in, entry_of, entries_of, row_in}
use Rattle.record_words.specs.Kinds.{kind_in, kind_of, mask_index, position_index}
use Rattle.record_words.specs.declared.kind.HeadKind.{HeadKind}
use Rattle.record_words.specs.declared.kind.HeadKind.TheVariants.{Middle, Narrow, Wide}
use Rattle.record_words.proofs.HeadParts.HeadsByKind.{Tells}
use Rattle.rowex_core.specs.Reading.{fixed_of, node_words_of}
use Rattle.node_tries.proofs.Piece.{length-places}

-- Entries

pub entry_of_word : (e : Option Entry) → HasEntryWord e → entry_of (entry_word e) ≡ e
unfolding entry_of
entry_of_word None h = refl
entry_of_word (Some (Leaf n)) h =
    let other : eqb (4 * n + 1) 0 ≡ false = ne_eqb (4 * n + 1) 0 (λ z. omega arith) in
    let tagged : eqb ((4 * n + 1) % 4) 1 ≡ true = eq-eqb ((4 * n + 1) % 4) 1 (omega arith) in
    rw (other, tagged) (ap (λ z. Some (Leaf z)) (let x : (4 * n + 1) / 4 ≡ n = omega arith in x))
entry_of_word (Some (Node n height)) h =
    let w : ℕ = 2 ^ 34 * height + 4 * n + 2 in
    let other : eqb (2 ^ 34 * height + 4 * n + 2) 0 ≡ false = ne_eqb (2 ^ 34 * height + 4 * n + 2) 0 (λ z. omega arith) in
    let tagged : eqb ((2 ^ 34 * height + 4 * n + 2) % 4) 1 ≡ false = ne_eqb ((2 ^ 34 * height + 4 * n + 2) % 4) 1 (λ z. omega arith) in
    rw (other, tagged) (ap₂ (λ x y. Some (Node x y)) (let x : (2 ^ 34 * height + 4 * n + 2) / 4 % 2 ^ 32 ≡ n = omega arith in x) (let y : (2 ^ 34 * height + 4 * n + 2) / 2 ^ 34 ≡ height = omega arith in y))

-- the entry at a place of a subtrie, from the list of its places
low_place : {X : Type 0} (xs ys : List X) (j : ℕ) → j < length xs → slice_get (xs ++ ys) j ≡ slice_get xs j
low_place [] ys j h = absurd (omega arith)
low_place (x ∷ xs) ys zero h = refl
low_place (x ∷ xs) ys (suc j) h = low_place xs ys j (omega arith)

high_place : {X : Type 0} (xs ys : List X) (j : ℕ) → length xs ≤ j → slice_get (xs ++ ys) j ≡ slice_get ys (j - length xs)
high_place [] ys j h = ap (slice_get ys) (let e : j ≡ j - 0 = omega arith in e)
high_place (x ∷ xs) ys zero h = absurd (omega arith)
high_place (x ∷ xs) ys (suc j) h = high_place xs ys j (omega arith) ∙ ap (slice_get ys) (let e : j - length xs ≡ suc j - suc (length xs) = omega arith in e)

pub place_is : (p : Subtrie) (j : ℕ) → (if nat_lt j (size p) then Some (entry_at p j) else None) ≡ slice_get (places p) j
place_is (Place e) zero = refl
place_is (Place e) (suc j) = rw (le-ltb (suc j) 1 (omega arith)) refl
place_is (Fork q a b) j = go (place_is a j) (place_is b (j - size a)) (cases_lt j (size a))
  where
    same : size a ≤ j → (j - size a < size b) ⊎ (size b ≤ j - size a) → ltb j (size a + size b) ≡ ltb (j - size a) (size b)
    same h (inl x) = lt-ltb j (size a + size b) (omega arith) ∙ sym (lt-ltb (j - size a) (size b) x)
    same h (inr x) = le-ltb j (size a + size b) (omega arith) ∙ sym (le-ltb (j - size a) (size b) x)

    go : (if nat_lt j (size a) then Some (entry_at a j) else None) ≡ slice_get (places a) j →
        (if nat_lt (j - size a) (size b) then Some (entry_at b (j - size a)) else None) ≡ slice_get (places b) (j - size a) → (j < size a) ⊎ (size a ≤ j) →
        (if nat_lt j (size a + size b) then Some (if nat_lt j (size a) then entry_at a j else entry_at b (j - size a)) else None) ≡ slice_get (places a ++ places b) j
    go x y (inl h) =
        let s = length-places a in
        let low : ltb j (size a) ≡ true = lt-ltb j (size a) h in
        let all : ltb j (size a + size b) ≡ true = lt-ltb j (size a + size b) (omega arith) in
        rw (all, low) ((rw low at x) ∙ sym (low_place (places a) (places b) j (omega arith)))
    go x y (inr h) =
        let s = length-places a in
        let high : ltb j (size a) ≡ false = le-ltb j (size a) h in
        rw (high, same h (cases_lt (j - size a) (size b))) (y ∙ (ap (λ z. slice_get (places b) (j - z)) (sym s) ∙ sym (high_place (places a) (places b) j (omega arith))))

-- Nodes

module _ (view : NodeView) (words : List ℕ) (small : All (λ w. w < 2 ^ 64) words) (has : HasNodeWords view) (same : node_words view ≡ words) where
  head_long : length (head_words (head_of view)) ≡ 25
  head_long = whole view has.lawful (head_words (head_of view)) refl

  pub head_is : head_words (head_of view) ≡ take 25 words
  head_is = sym (take_at (head_words (head_of view)) (entry_words view.entries) 25 head_long) ∙ ap (take 25) same

  tail_is : entry_words view.entries ≡ drop 25 words
  tail_is = sym (drop_at (head_words (head_of view)) (entry_words view.entries) 25 head_long) ∙ ap (drop 25) same

  room : length view.rows ≤ 32
  room = omega (arith, same_count view has.lawful, has.lawful.room)

  first : Tells (length view.rows) view.height view.columns (get_or (take 25 words) 0 0)
  first = told view has.lawful (take 25 words) head_is

  -- a column and a row, by the kind that the columns take
  column_is : (i : ℕ) → i < length view.columns → column_in (kind_in (get_or (take 25 words) 0 0)) (take 25 words) i ≡ get_or view.columns i 0
  column_is i used = ap (λ kind. column_in kind (take 25 words) i) first.kind_told ∙ go (kind_of view.columns) refl
    where
      go : (kind : HeadKind) → kind_of view.columns ≡ kind → column_in kind (take 25 words) i ≡ get_or view.columns i 0
      go Wide e = wide_position view has.lawful (take 25 words) head_is e i (omega (arith, used, has.lawful.positions.few)) ∙ get_or_default view.columns i 65535 0 used
      go Narrow e = near_column_is view has.lawful (take 25 words) head_is (λ wide. cc) i _ _ _ used refl
          (ap (λ kind. column_byte i (get_or (take 25 words) (position_index kind i) 0)) (sym e)) (ap (λ kind. column_byte i (get_or (take 25 words) (mask_index kind i) 0)) (sym e))
      go Middle e = near_column_is view has.lawful (take 25 words) head_is (λ wide. cc) i _ _ _ used refl
          (ap (λ kind. column_byte i (get_or (take 25 words) (position_index kind i) 0)) (sym e)) (ap (λ kind. column_byte i (get_or (take 25 words) (mask_index kind i) 0)) (sym e))

  row_is : (i : ℕ) → i < length view.rows → row_in (kind_in (get_or (take 25 words) 0 0)) (take 25 words) i ≡ get_or view.rows i 0
  row_is i used = ap (λ kind. row_in kind (take 25 words) i) first.kind_told ∙ go (kind_of view.columns) refl
    where
      go : (kind : HeadKind) → kind_of view.columns ≡ kind → row_in kind (take 25 words) i ≡ get_or view.rows i 0
      go Wide e = wide_row view has.lawful (take 25 words) head_is e i (omega (arith, used, room)) ∙ get_or_default view.rows i 4294967295 0 used
      go Narrow e = narrow_row_is view has.lawful (take 25 words) head_is e i used
      go Middle e = middle_row_is view has.lawful (take 25 words) head_is e i used

  columns_are : (fixed_of (take 25 words)).columns ≡ view.columns
  columns_are =
      let f = column_in (kind_in (get_or (take 25 words) 0 0)) (take 25 words) in
      let n : ℕ = get_or (take 25 words) 0 0 / 256 % 256 in
      let long = length-map-range_with_len f 0 n in
      ext_get_or 0 (fixed_of (take 25 words)).columns view.columns (long ∙ first.columns_counted)
      (λ i h. let low : i < n = omega (arith, h, long) in get_or-map-range_with_len f 0 n i i 0 low (omega arith) ∙ column_is i (omega (arith, low, first.columns_counted)))

  rows_are : (fixed_of (take 25 words)).rows ≡ view.rows
  rows_are =
      let f = row_in (kind_in (get_or (take 25 words) 0 0)) (take 25 words) in
      let n : ℕ = get_or (take 25 words) 0 0 % 256 in
      let long = length-map-range_with_len f 0 n in
      ext_get_or 0 (fixed_of (take 25 words)).rows view.rows (long ∙ first.counted)
      (λ i h. let low : i < n = omega (arith, h, long) in get_or-map-range_with_len f 0 n i i 0 low (omega arith) ∙ row_is i (omega (arith, low, first.counted)))

  entry_word_at : (i : ℕ) → i < 32 → entry_of (get_or (drop 25 words) i 0) ≡ slice_get view.entries i
  entry_word_at i h = ap entry_of (entry_words_at view.entries (drop 25 words) tail_is i h) ∙ entry_of_word (slice_get view.entries i) (has.entries.each i)

  tail_long : length (drop 25 words) ≡ 32
  tail_long = ap length (sym tail_is) ∙ length-entry_words view.entries

  entries_are : entries_of (get_or (take 25 words) 0 0 % 256) (drop 25 words) ≡ view.entries
  entries_are =
      let n = first.counted in
      let r = same_count view has.lawful in
      let l = has.lawful.room in
      let m = length-map (drop 25 words) (λ w. unwrap_or (entry_of w) (Leaf 0)) in
      let t = tail_long in
      ext_get_or (Leaf 0) (entries_of (get_or (take 25 words) 0 0 % 256) (drop 25 words)) view.entries
      (length-take-le (get_or (take 25 words) 0 0 % 256) (map (λ w. unwrap_or (entry_of w) (Leaf 0)) (drop 25 words)) (omega arith) ∙ (n ∙ r))
      (λ i h. let low : i < length view.entries = omega (arith, length-take (get_or (take 25 words) 0 0 % 256) (map (λ w. unwrap_or (entry_of w) (Leaf 0)) (drop 25 words))) in
      get_or-take (get_or (take 25 words) 0 0 % 256) (map (λ w. unwrap_or (entry_of w) (Leaf 0)) (drop 25 words)) i (Leaf 0) (omega arith) ∙
      (get_or-map (λ w. unwrap_or (entry_of w) (Leaf 0)) (drop 25 words) i 0 (Leaf 0) (omega arith) ∙
      (ap (λ z. unwrap_or z (Leaf 0)) (entry_word_at i (omega arith)) ∙ unwrap_or-slice_get view.entries i (Leaf 0))))

  -- the words that a node has are read as that node
  pub node_is : node_words_of words ≡ record { fixed = record { height = view.height; columns = view.columns; rows = view.rows }; subtrie = piece view }
  unfolding node_words_of
  node_is = same_node first.height_told columns_are rows_are entries_are
    where
      same_node : {h i : ℕ} {c d r s : List ℕ} {e f : List Entry} → h ≡ i → c ≡ d → r ≡ s → e ≡ f →
          ◌≡◌ {A = NodeWords} (record { fixed = record { height = h; columns = c; rows = r }; subtrie = piece_of (Leaf 0) c r e }) (record { fixed = record { height = i; columns = d; rows = s }; subtrie = piece_of (Leaf 0) d s f })
      same_node a b c d = rw (a, b, c, d) refl

  -- and each entry word is that of the entry at its place, or of none
  pub entry_at_is : (j : ℕ) → j < 32 → entry_of (get_or words (25 + j) 0) ≡ (if nat_lt j (size (piece view)) then Some (entry_at (piece view) j) else None)
  entry_at_is j h = ap entry_of (sym (get_or-drop 25 words j 0)) ∙ (entry_word_at j h ∙ (ap (λ z. slice_get z j) has.lawful.shows.entries_are ∙ sym (place_is (piece view) j)))

  pub entry_word_is : (j : ℕ) → j < 32 → get_or words (25 + j) 0 ≡ entry_word (if nat_lt j (size (piece view)) then Some (entry_at (piece view) j) else None)
  entry_word_is j h = sym (get_or-drop 25 words j 0) ∙ (entry_words_at view.entries (drop 25 words) tail_is j h ∙ ap entry_word (ap (λ z. slice_get z j) has.lawful.shows.entries_are ∙ sym (place_is (piece view) j)))

  pub few_entries : size (piece view) ≤ 32
  few_entries = omega (arith, length-places (piece view), ap length has.lawful.shows.entries_are, has.lawful.room)

  -- and each fixed word is that of its columns, rows and height
  pub fixed_word_is : (i : ℕ) → i < 25 → get_or words i 0 ≡ get_or (fixed_words (length view.rows) view.height view.columns view.rows) i 0
  fixed_word_is i h = sym (get_or-take 25 words i 0 h) ∙ ap (λ z. get_or z i 0) (sym head_is)
