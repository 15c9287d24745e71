-- The words of a head with a new fork.
use Rattle.compound_node.proofs.Common.{Bool, List, [], ap, ap₂, arith, bit_or, cond, drop, false, get_or, length, length-append, map, replicate, subst, sym, take, true, ℕ, ◌%◌, ◌*◌, ◌++◌, ◌+◌, ◌-◌, ◌<◌, ◌^◌, ◌∙◌, ◌∷◌, ◌≡◌, ◌≤◌, drop_at, length-drop, length-map, length-replicate, length-take-le, take-replicate, take_at, one_shl, take-append-add, IsColumns, forked_rows, spread_row, length-with_position, edited, front_below, has, with_position}
use Rattle.compound_node.proofs.Lawful.{same_count}
use Rattle.compound_node.specs.Forking.{forked_head}
use Rattle.compound_node.specs.Nodes.{FitsHead, HeadView, IsLawfulNode, leaves, node_of}
use Rattle.compound_node.specs.declared.entries.Entry.TheVariants.{Leaf}
use Rattle.partial_keys.proofs.Putting.{drop_pad}
use Rattle.node_tries.proofs.Edits.{edited-left}

-- there is room for the column
pub room_for_column : (p : ℕ) (cs : List ℕ) → IsColumns (cond (has cs p) cs (with_position p cs)) → has cs p ≡ false → length cs < 31
room_for_column p cs columns off =
    let more : IsColumns (with_position p cs) = subst (λ b. IsColumns (cond b cs (with_position p cs))) off columns in
    omega (arith, more.few, length-with_position p cs)

-- the bit of a column
bit_is : (below : ℕ) → below ≤ 31 → 1 * 2 ^ (31 - below) % 2 ^ 32 ≡ 2 ^ (31 - below)
bit_is below l = one_shl (31 - below) 32 (omega arith)

-- ---- rows with a new fork, in front of unused places
module _ (weight : ℕ) (bit : Bool) (first n : ℕ) (rows : List ℕ) (inside : first + n ≤ length rows) where
  length-forked_rows : (ys : List ℕ) → length (forked_rows weight bit ys) ≡ length ys + 1
  length-forked_rows ys = elim bit as (λ v. length (forked_rows weight v ys) ≡ length ys + 1) [
    | true ↦ length-append ys (bit_or (get_or ys 0 0) weight ∷ [])
    | false ↦ omega (arith, length-map ys (λ row. bit_or row weight))
  ]

  length-edited : length (edited first n (forked_rows weight bit) rows) ≡ length rows + 1
  length-edited =
      let part : List ℕ = take n (drop first rows) in
      let rest : List ℕ = drop (first + n) rows in
      omega (
        arith,
        inside,
        length-append (take first rows) (forked_rows weight bit part ++ rest),
        length-append (forked_rows weight bit part) rest,
        length-forked_rows part,
        length-take-le first rows (omega (arith, inside)),
        length-take-le n (drop first rows) (omega (arith, inside, length-drop first rows)),
        length-drop first rows,
        length-drop (first + n) rows,
      )

  -- the last place is dropped, which is unused
  last_dropped : (count : ℕ) → length rows ≡ count → count < 32 →
      take 32 (edited first n (forked_rows weight bit) (rows ++ replicate (32 - count) 4294967295)) ≡ edited first n (forked_rows weight bit) rows ++ replicate (32 - (count + 1)) 4294967295
  last_dropped count counted room =
      let forked : List ℕ = edited first n (forked_rows weight bit) rows in
      let unused : List ℕ = replicate (32 - count) 4294967295 in
      ap (take 32) (edited-left first n (forked_rows weight bit) rows unused inside)
      ∙ ap (λ k. take k (forked ++ unused)) (let e : 32 ≡ length forked + (32 - (count + 1)) = omega (arith, length-edited, counted, room) in e)
      ∙ take-append-add forked unused (32 - (count + 1))
      ∙ ap (λ ys. forked ++ ys) (take-replicate (32 - (count + 1)) (32 - count) 4294967295 (omega arith))

module _ (count : ℕ) (head : HeadView) (words : List ℕ) (fits : FitsHead count words head) where
  used : take count words ≡ head.rows
  used = ap (take count) fits.padded ∙ take_at head.rows _ count fits.counted

  unused : drop count words ≡ replicate (32 - count) 4294967295
  unused = ap (drop count) fits.padded ∙ drop_at head.rows _ count fits.counted ∙ ap (λ n. replicate (32 - n) 4294967295) fits.counted

  -- what stands behind one row more
  behind : drop (count + 1) words ≡ replicate (32 - (count + 1)) 4294967295
  behind =
      ap (drop (count + 1)) fits.padded
      ∙ ap (λ n. drop (count + 1) (head.rows ++ replicate (32 - n) 4294967295)) fits.counted
      ∙ drop_pad 32 count head.rows 4294967295 fits.counted

  module _ (is_column : Bool) (below : ℕ) where
    abbrev with_column : List ℕ
    with_column = cond is_column head.rows (map (spread_row below) head.rows)

    length-with_column : length with_column ≡ count
    length-with_column = elim is_column as (λ b. length (cond b head.rows (map (spread_row below) head.rows)) ≡ count) [
      | true ↦ fits.counted
      | false ↦ length-map head.rows (spread_row below) ∙ fits.counted
    ]

    column_words : cond is_column words (map (spread_row below) (take count words) ++ drop count words) ≡ with_column ++ replicate (32 - count) 4294967295
    column_words = elim is_column as (λ b. cond b words (map (spread_row below) (take count words) ++ drop count words) ≡ cond b head.rows (map (spread_row below) head.rows) ++ replicate (32 - count) 4294967295) [
      | true ↦ fits.padded ∙ ap (λ n. head.rows ++ replicate (32 - n) 4294967295) fits.counted
      | false ↦ ap₂ (λ xs ys. map (spread_row below) xs ++ ys) used unused
    ]

  -- what the words are in the end
  pub words_forked : (height position first last below : ℕ) (bit : Bool) (new : List ℕ) → first ≤ last → last < count → count < 32 → below ≤ 31 → below ≡ front_below position head.columns →
      new ≡ take 32 (edited first (last + 1 - first) (forked_rows (1 * 2 ^ (31 - below) % 2 ^ 32) bit) (cond (has head.columns position) words (map (spread_row below) (take count words) ++ drop count words))) →
      new ≡ (forked_head height position first last bit head).rows ++ drop (count + 1) words
  words_forked height position first last below bit new order inside room few place e =
      let is_column : Bool = has head.columns position in
      let n : ℕ = last + 1 - first in
      let rows : List ℕ = with_column is_column below in
      let counted : length rows ≡ count = length-with_column is_column below in
      e
      ∙ ap (λ ws. take 32 (edited first n (forked_rows (1 * 2 ^ (31 - below) % 2 ^ 32) bit) ws)) (column_words is_column below)
      ∙ last_dropped (1 * 2 ^ (31 - below) % 2 ^ 32) bit first n rows (omega (arith, order, inside, counted)) count counted room
      ∙ ap₂ (λ w ys. edited first n (forked_rows w bit) rows ++ ys) (bit_is below few) (sym behind)
      ∙ ap (λ k. edited first n (forked_rows (2 ^ (31 - k)) bit) (cond is_column head.rows (map (spread_row k) head.rows)) ++ drop (count + 1) words) place

-- a row more
module _ (count : ℕ) (head : HeadView) (words : List ℕ) (fits : FitsHead count words head) (next : HeadView) (new : List ℕ) (lawful : IsLawfulNode (node_of next (leaves (count + 1)))) (is : new ≡ next.rows ++ drop (count + 1) words) where
  longer : length next.rows ≡ count + 1
  longer = same_count (node_of next (leaves (count + 1))) lawful ∙ length-replicate (count + 1) (Leaf 0)

  pub new_rows : take (count + 1) new ≡ next.rows
  new_rows = ap (take (count + 1)) is ∙ take_at next.rows (drop (count + 1) words) (count + 1) longer

  pub new_fits : FitsHead (count + 1) new next
  new_fits = record {
    padded = is ∙ ap (λ ys. next.rows ++ ys) (behind count head words fits ∙ ap (λ n. replicate (32 - n) 4294967295) (sym longer));
    counted = longer;
    lawful = lawful;
  }
