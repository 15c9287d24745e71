-- The words of a node have 64 bits.
use Rattle.rowex_replay_state.proofs.Common.{◌≡◌, ℕ, zero, suc, ◌+◌, ◌-◌, ◌*◌, ◌/◌, ◌^◌, ◌<◌, ◌≤◌, List, [], ◌∷◌, drop, length, get_or, refl, replicate, sym, subst, arith, lit<, All, get_or-replicate, get_or_past, length-replicate, All-from_get_or, All-append, NodeView, head_of, same_count, HasNodeWords, entry_words, head_words, node_words, column_words, fixed_words, meta_word, position_word, row_lanes, row_word, row_words, length-entry_words, entry_words_at, column-lt, row-lt}
use Rattle.std.specs.Prelude.{slice_get}
use Rattle.std.proofs.lemmas.List.FromFn.{get_or-map-range_with_len, length-map-range_with_len}
use lib.Lanes.{digits_l, number_l}
use Rattle.record_words.specs.Kinds.{head_size, index_lanes, kind_of, kind_part, lane_words, mask_lanes}
use Rattle.record_words.specs.declared.kind.HeadKind.{HeadKind}
use Rattle.record_words.specs.declared.kind.HeadKind.TheVariants.{Middle, Narrow, Wide}
use Rattle.record_words.proofs.OfKinds.{OfKind, is_middle, is_narrow, is_wide, of_kind}
use Rattle.record_words.proofs.HeadParts.{parts}
use Rattle.rowex_core.proofs.Cores.Published.{entry_small}
use Rattle.record_words.proofs.Packed.{position_at-lt, row_at-lt}

digit-lt : (n x i : ℕ) → get_or (digits_l (2 ^ 64) n x) i 0 < 2 ^ 64
digit-lt zero x i = subst (λ w. w < 2 ^ 64) (sym (get_or_past {X = ℕ} [] i 0 (omega arith))) (lit< tt)
digit-lt (suc n) x zero = omega arith
digit-lt (suc n) x (suc i) = digit-lt n (x / 2 ^ 64) i

digits_small : (n x : ℕ) → All (λ w. w < 2 ^ 64) (digits_l (2 ^ 64) n x)
digits_small n x = All-from_get_or (λ w. w < 2 ^ 64) (digits_l (2 ^ 64) n x) 0 (λ i h. digit-lt n x i)

one_small : (w : ℕ) → w < 2 ^ 64 → All (λ w. w < 2 ^ 64) (w ∷ [])
one_small w small = All-from_get_or (λ w. w < 2 ^ 64) (w ∷ []) 0 (λ i h. subst (λ k. get_or (w ∷ []) k 0 < 2 ^ 64) (let z : 0 ≡ i = omega (arith, h) in z) small)

lanes_small : (w n : ℕ) (lanes : List ℕ) → All (λ w. w < 2 ^ 64) (lane_words w n lanes)
unfolding lane_words
lanes_small w n lanes = digits_small n (number_l (2 ^ w) lanes)

position_word_small : (columns : List ℕ) (j : ℕ) → ((k : ℕ) → get_or columns k 0 < 2 ^ 16) → position_word columns j < 2 ^ 64
unfolding position_word
position_word_small columns j s =
    let a = position_at-lt columns (4 * j) s in let b = position_at-lt columns (4 * j + 1) s in let c = position_at-lt columns (4 * j + 2) s in let d = position_at-lt columns (4 * j + 3) s in omega arith

row_word_small : (rows : List ℕ) (j : ℕ) → ((k : ℕ) → get_or rows k 0 < 2 ^ 32) → row_word rows j < 2 ^ 64
unfolding row_word
row_word_small rows j s = let a = row_at-lt rows (2 * j) s in let b = row_at-lt rows (2 * j + 1) s in omega arith

-- the words of the columns and of the rows, in each kind
columns_small : (kind : HeadKind) (columns : List ℕ) → ((k : ℕ) → get_or columns k 0 < 2 ^ 16) → All (λ w. w < 2 ^ 64) (column_words kind columns)
columns_small Wide columns s = All-from_get_or (λ w. w < 2 ^ 64) (column_words Wide columns) 0
    (λ i h. let few : i < 8 = omega (arith, h, length-map-range_with_len (position_word columns) 0 8) in
    subst (λ w. w < 2 ^ 64) (sym (get_or-map-range_with_len (position_word columns) 0 8 i i 0 few (omega arith))) (position_word_small columns i s))
columns_small Narrow columns s = All-append (λ w. w < 2 ^ 64) _ _ (lanes_small 8 1 (drop 8 (index_lanes columns))) (lanes_small 8 1 (drop 8 (mask_lanes columns)))
columns_small Middle columns s = All-append (λ w. w < 2 ^ 64) _ _ (lanes_small 8 2 (index_lanes columns)) (lanes_small 8 2 (mask_lanes columns))

rows_small : (kind : HeadKind) (rows : List ℕ) → ((k : ℕ) → get_or rows k 0 < 2 ^ 32) → All (λ w. w < 2 ^ 64) (row_words kind rows)
rows_small Wide rows s = All-from_get_or (λ w. w < 2 ^ 64) (row_words Wide rows) 0
    (λ i h. let few : i < 16 = omega (arith, h, length-map-range_with_len (row_word rows) 0 16) in
    subst (λ w. w < 2 ^ 64) (sym (get_or-map-range_with_len (row_word rows) 0 16 i i 0 few (omega arith))) (row_word_small rows i s))
rows_small Narrow rows s = lanes_small 8 4 (row_lanes 24 rows)
rows_small Middle rows s = lanes_small 16 8 (row_lanes 16 rows)

ones_small : (n : ℕ) → All (λ w. w < 2 ^ 64) (replicate n (2 ^ 64 - 1))
ones_small n = All-from_get_or (λ w. w < 2 ^ 64) (replicate n (2 ^ 64 - 1)) 0
    (λ i h. subst (λ w. w < 2 ^ 64) (sym (get_or-replicate n i (2 ^ 64 - 1) 0 (omega (arith, h, length-replicate {A = ℕ} n (2 ^ 64 - 1))))) (lit< tt))

kind_small : (columns : List ℕ) → OfKind columns → kind_part (kind_of columns) columns < 2 ^ 42
kind_small columns (is_wide e) = rw e (omega arith)
kind_small columns (is_narrow e near) = rw e (let within = near.within in omega (arith, within))
kind_small columns (is_middle e near) = rw e (let within = near.within in omega (arith, within))

module _ (view : NodeView) (has : HasNodeWords view) where
  first_small : get_or (head_words (head_of view)) 0 0 < 2 ^ 64
  first_small =
      let p = parts view has.lawful (head_words (head_of view)) refl in
      let few : length view.columns ≤ 31 = has.lawful.positions.few in
      omega (arith, p.numbers, kind_small view.columns (of_kind view.columns), same_count view has.lawful, has.lawful.room, few, has.lawful.bound)

  head_small : All (λ w. w < 2 ^ 64) (head_words (head_of view))
  unfolding fixed_words
  head_small =
      All-append (λ w. w < 2 ^ 64) ((meta_word (length view.rows) (length view.columns) view.height + kind_part (kind_of view.columns) view.columns) ∷ []) _ (one_small _ first_small)
      (All-append (λ w. w < 2 ^ 64) (column_words (kind_of view.columns) view.columns) _ (columns_small (kind_of view.columns) view.columns (column-lt view has.lawful))
      (All-append (λ w. w < 2 ^ 64) (row_words (kind_of view.columns) view.rows) _ (rows_small (kind_of view.columns) view.rows (row-lt view has.lawful)) (ones_small (25 - head_size (kind_of view.columns)))))

  entries_small : All (λ w. w < 2 ^ 64) (entry_words view.entries)
  entries_small = All-from_get_or (λ w. w < 2 ^ 64) (entry_words view.entries) 0
      (λ i h. subst (λ z. z < 2 ^ 64) (sym (entry_words_at view.entries (entry_words view.entries) refl i (omega (arith, h, length-entry_words view.entries)))) (entry_small (slice_get view.entries i) (has.entries.each i)))

  pub node_small : (words : List ℕ) → node_words view ≡ words → All (λ w. w < 2 ^ 64) words
  node_small words e = subst (All (λ w. w < 2 ^ 64)) e (All-append (λ w. w < 2 ^ 64) (head_words (head_of view)) (entry_words view.entries) head_small entries_small)
