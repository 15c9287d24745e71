-- What holds of each node, and of the fields that make one.
use Rattle.compound_node.proofs.Common.{Bool, List, [], ap, arith, cond, false, get_or, length, map, refl, set, subst, sym, take, true, ℕ, ◌+◌, ◌<◌, ◌^◌, ◌∙◌, ◌≡◌, ◌≤◌, get_or-replicate, get_or-take, length-map, length-replicate, length-set, length-take-le, All-set, All, code-lt, highest_leads, piece_of_shown, same_length, shows-replaced, replaced, IsColumns, IsHighest, dense_of, row_of, with_unused, piece_of, ShowsPiece, length-paths, length-places, size_pos, Fork, Piece, Place, leads_to, paths, size, IsRunEnd, IsRunStart, front_below-place, IsPlaceOf, affected_count, affected_first, front_below, has}
use Rattle.compound_node.proofs.Heights.{below_greatest, greatest_height-fits}
use Rattle.compound_node.proofs.Ladders.{row_at, shown-sparse_keys, sparse_keys-shown}
use Rattle.compound_node.specs.Nodes.{FitTogether, FitsHead, FitsWords, HeadView, IsEntry, IsHead, IsLawfulNode, IsNode, NodeView, StandsBelow, greatest_height, head_of, height_of, leaves, node_from, node_of, piece}
use Rattle.compound_node.specs.declared.entries.Entry.TheVariants.{Leaf}
use Rattle.compound_node.specs.declared.entries.Entry.{Entry}
use Rattle.partial_keys.proofs.Affected.{affected_is}

pub length-leaves : (n : ℕ) → length (leaves n) ≡ n
length-leaves n = length-replicate n (Leaf 0)

pub same_count : (node : NodeView) → IsLawfulNode node → length node.rows ≡ length node.entries
same_count node lawful = same_length node.columns node.rows node.entries (piece node) lawful.shows

module _ {A B : Type 0} (d : B) (cs rows : List ℕ) (es : List A) (P : Piece A) (sh : ShowsPiece cs rows es P) where
  pub rows_fit : (k : ℕ) → k < length rows → get_or rows k 0 < 2 ^ 32
  rows_fit k l =
      let n : length rows ≡ size P = ap length sh.rows_are ∙ length-map (paths P) (row_of cs) ∙ length-paths P in
      subst (λ r. r < 2 ^ 32) (sym (ap (λ rs. get_or rs k 0) sh.rows_are ∙ row_at 32 cs P k (omega arith))) (code-lt 32 (map (has (get_or (paths P) k [])) cs))

  -- the rows that show one piece show another with other things at its places
  pub shows_others : (ys : List B) → length ys ≡ length es → ShowsPiece cs rows ys (piece_of d cs rows ys)
  shows_others ys e =
      let n : length rows ≡ length es = same_length cs rows es P sh in
      let some : length rows ≡ size P = ap length sh.rows_are ∙ length-map (paths P) (row_of cs) ∙ length-paths P in
      sparse_keys-shown d cs rows ys sh.columns_rise sh.few (omega (arith, size_pos P)) (omega arith) rows_fit (shown-sparse_keys cs rows es P sh)

module _ (node : NodeView) (lawful : IsLawfulNode node) where
  -- the node with other entries
  pub other_entries : (entries : List Entry) → length entries ≡ length node.entries → All (StandsBelow node.height) entries → IsLawfulNode (node_of (head_of node) entries)
  other_entries entries e stand = record {
    several = omega (arith, lawful.several);
    room = omega (arith, lawful.room);
    positions = lawful.positions;
    shows = shows_others (Leaf 0) node.columns node.rows node.entries (piece node) lawful.shows entries e;
    children = λ k d l. (stand k d l).0;
    above = λ k d l. (stand k d l).1;
    bound = lawful.bound;
  }

  pub height_positive : 0 < node.height
  height_positive = omega (arith, lawful.above 0 (Leaf 0) (omega (arith, lawful.several)))

  pub with_leaves : (n : ℕ) → n ≡ length node.entries → IsLawfulNode (node_of (head_of node) (leaves n))
  with_leaves n e = other_entries (leaves n) (length-replicate n (Leaf 0) ∙ e)
      (λ k d l. subst (StandsBelow node.height) (sym (get_or-replicate n k (Leaf 0) d (subst (λ m. k < m) (length-replicate n (Leaf 0)) l))) (tt, height_positive))

  pub parts_fit : FitTogether node.columns node.rows node.entries
  parts_fit = record {
    several = lawful.several;
    room = lawful.room;
    same = same_count node lawful;
    positions = lawful.positions;
    shows = lawful.shows;
    children = lawful.children;
  }

  -- another entry at a place
  pub replaced_lawful : (i : ℕ) (entry : Entry) → StandsBelow node.height entry → IsLawfulNode (record node { entries = set node.entries i entry })
  replaced_lawful i entry stands = other_entries (set node.entries i entry) (length-set node.entries i entry)
      (All-set (StandsBelow node.height) node.entries i entry stands (λ k d l. (lawful.children k d l, lawful.above k d l)))

  pub piece-replaced : (i : ℕ) (entry : Entry) → i < length node.entries → piece (record node { entries = set node.entries i entry }) ≡ replaced i entry (piece node)
  piece-replaced i entry l = piece_of_shown (Leaf 0) node.columns node.rows (set node.entries i entry) (replaced i entry (piece node))
      (shows-replaced node.columns node.rows node.entries (piece node) i entry lawful.shows l)

-- a new node of parts that fit
pub built_lawful : (columns rows : List ℕ) (entries : List Entry) → FitTogether columns rows entries →
    IsLawfulNode (record { height = 1 + greatest_height entries; columns = columns; rows = rows; entries = entries })
built_lawful columns rows entries fit = record {
  several = fit.several;
  room = fit.room;
  positions = fit.positions;
  shows = fit.shows;
  children = fit.children;
  above = λ k d l. omega (arith, below_greatest entries k d l);
  bound = omega (arith, greatest_height-fits entries fit.children);
}

-- ---- the search
leads_to-lt : {A : Type 0} (bit : ℕ → Bool) (P : Piece A) → leads_to bit P < size P
leads_to-lt bit (Place x) = omega arith
leads_to-lt bit (Fork p a b) = elim (bit p) as (λ v. cond v (size a + leads_to bit b) (leads_to bit a) < size a + size b)
    [ true ↦ omega (arith, leads_to-lt bit b) | false ↦ omega (arith, leads_to-lt bit a) ]

module _ (head : HeadView) (padded_rows : List ℕ) (bit : ℕ → Bool) (dense i : ℕ) (padded : padded_rows ≡ with_unused head.rows) (gathered : dense ≡ dense_of head.columns bit)
    (highest : IsHighest padded_rows dense i) (node : NodeView) (lawful : IsLawfulNode node) (same : head_of node ≡ head) where
  pub head_leads : i ≡ leads_to bit (piece node)
  head_leads =
      let columns : head.columns ≡ node.columns = sym (ap (λ (h : HeadView). h.columns) same) in
      let rows : head.rows ≡ node.rows = sym (ap (λ (h : HeadView). h.rows) same) in
      let at_node : IsHighest (with_unused node.rows) (dense_of node.columns bit) i =
      subst (λ xs. IsHighest xs (dense_of node.columns bit) i) (padded ∙ ap with_unused rows) (subst (λ d. IsHighest padded_rows d i) (gathered ∙ ap (λ cs. dense_of cs bit) columns) highest) in
      highest_leads node.columns node.rows node.entries (piece node) lawful.shows bit i at_node

  pub head_leads-fits : i < length head.rows
  head_leads-fits =
      let n : length node.entries ≡ size (piece node) = ap length lawful.shows.entries_are ∙ length-places (piece node) in
      let rows : length head.rows ≡ length node.rows = sym (ap (λ (h : HeadView). length h.rows) same) in
      omega (arith, head_leads, leads_to-lt bit (piece node), same_count node lawful)

-- ---- the affected range
pub affected_range_is : (node : NodeView) → IsLawfulNode node → (position found n first last : ℕ) → found < length node.entries → n ≡ front_below position node.columns →
    IsRunStart node.rows n found first → IsRunEnd node.rows n found last →
    (affected_first position found (piece node) ≡ first) × (affected_count position found (piece node) + first ≡ last + 1)
affected_range_is node lawful position found n first last here below start end =
    let size_is : length node.entries ≡ size (piece node) = ap length lawful.shows.entries_are ∙ length-places (piece node) in
    affected_is node.columns node.rows node.entries (piece node) position found n first last lawful.shows
    (subst (IsPlaceOf node.columns position) (sym below) (front_below-place position node.columns)) (omega arith) start end

-- ---- fields that make a node
module _ (count height : ℕ) (columns padded_rows : List ℕ) where
  pub fits_head : 0 < height → height ≤ 65535 → length padded_rows ≡ 32 → ((i : ℕ) → get_or padded_rows i 0 < 2 ^ 32) → FitsWords count columns padded_rows →
      FitsHead count padded_rows (record { height = height; columns = columns; rows = take count padded_rows })
  fits_head high bound long fits words =
      let rows : List ℕ = take count padded_rows in
      let n : length rows ≡ count = length-take-le count padded_rows (omega (arith, words.room)) in
      let m : length (leaves count) ≡ count = length-replicate count (Leaf 0) in
      let positions : IsColumns columns = words.positions in
      record {
        padded = words.padded;
        counted = n;
        lawful = record {
          several = omega (arith, words.several);
          room = omega (arith, words.room);
          positions = positions;
          shows = sparse_keys-shown (Leaf 0) columns rows (leaves count) positions.rise positions.few (omega (arith, words.several)) (omega arith)
              (λ k l. rw (get_or-take count padded_rows k 0 (omega arith)) (fits k)) words.keys;
          children = λ k d l. leaf_at IsEntry k d (omega arith) tt;
          above = λ k d l. leaf_at (λ entry. height_of entry < height) k d (omega arith) high;
          bound = bound;
        };
      }
    where
      leaf_at : (P : Entry → Type 0) (k : ℕ) (d : Entry) → k < count → P (Leaf 0) → P (get_or (leaves count) k d)
      leaf_at P k d l p = subst P (sym (get_or-replicate count k (Leaf 0) d l)) p

  -- what fits is the head of a node of leaves
  pub some_node : FitsHead count padded_rows (record { height = height; columns = columns; rows = take count padded_rows }) → IsHead count height columns padded_rows
  some_node fits =
      let m : length (leaves count) ≡ count = length-replicate count (Leaf 0) in (
        leaves count,
        m,
        record {
          padded = subst (λ n. padded_rows ≡ with_unused (take n padded_rows)) (sym m) fits.padded;
          lawful = subst (λ n. IsLawfulNode (record { height = height; columns = columns; rows = take n padded_rows; entries = leaves count })) (sym m) fits.lawful;
        },
      )

  -- the words of a node's head fit
  pub fits_words : IsHead count height columns padded_rows → FitsWords count columns padded_rows
  fits_words head =
      let entries : List Entry = head.0 in
      let node : IsNode height columns padded_rows entries = head.2 in
      let lawful : IsLawfulNode (node_from height columns padded_rows entries) = node.lawful in
      subst (λ n. FitsWords n columns padded_rows) head.1 (record {
        several = lawful.several;
        room = lawful.room;
        positions = lawful.positions;
        padded = node.padded;
        keys = shown-sparse_keys columns (take (length entries) padded_rows) entries (piece (node_from height columns padded_rows entries)) lawful.shows;
      })

  -- a head's fields fit together
  pub head_fits : IsHead count height columns padded_rows → FitsHead count padded_rows (record { height = height; columns = columns; rows = take count padded_rows })
  head_fits head =
      let entries : List Entry = head.0 in
      let node : IsNode height columns padded_rows entries = head.2 in
      subst (λ n. FitsHead n padded_rows (record { height = height; columns = columns; rows = take n padded_rows })) head.1 (record {
        padded = node.padded;
        counted = same_count (node_from height columns padded_rows entries) node.lawful;
        lawful = with_leaves (node_from height columns padded_rows entries) node.lawful (length entries) refl;
      })

  pub head_height : IsHead count height columns padded_rows → 0 < height
  head_height head = height_positive (node_from height columns padded_rows head.0) (head.2).lawful

  -- the head of a node, with other entries that can stand there
  pub other_node : IsHead count height columns padded_rows → (entries : List Entry) → length entries ≡ count → All (StandsBelow height) entries → IsNode height columns padded_rows entries
  other_node head entries e stand =
      let old : List Entry = head.0 in
      let same : length old ≡ length entries = head.1 ∙ sym e in
      record {
        padded = subst (λ n. padded_rows ≡ with_unused (take n padded_rows)) same (head.2).padded;
        lawful = subst (λ n. IsLawfulNode (record { height = height; columns = columns; rows = take n padded_rows; entries = entries })) same
            (other_entries (node_from height columns padded_rows old) (head.2).lawful entries (sym same) stand);
      }
