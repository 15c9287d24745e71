-- The words of a head with a new fork, at a column that it has or at a new one.
use Rattle.record_words.proofs.Common.{ℕ, ◌≡◌, ◌+◌, ◌-◌, ◌*◌, ◌%◌, ◌^◌, ◌<◌, ◌≤◌, ◌++◌, ◌⊎◌, arith, Bool, true, false, cond, List, drop, get_or, get_or-take, length, replicate, take, map, ap, ap₂, refl, subst, sym, lit<, ◌∙◌, insert, IsColumns, drop_at, length-map, take-map, take_at, NewLeaf, new_leaf, same_count, with_leaves, forked_head, FitsHead, HeadView, IsBuiltFrom, NodeView, head_of, node_of, piece, Leaf, front_below-columns, with_unused, edited, grown, front_below, has, with_position}
use Rattle.compound_node.proofs.Forking.Forked.{new_fits, room_for_column, words_forked}
use Rattle.record_words.proofs.Written.{head_put}
use Rattle.record_words.specs.Packed.{fixed_words}
use Rattle.partial_keys.specs.Spread.{forked_rows, spread_row}
use Rattle.record_words.specs.Kinds.{head_size, kind_in, kind_of, kind_part, rows_from}
use Rattle.record_words.specs.Node.{CanGrowAt, HasHead, head_words}
use Rattle.record_words.specs.Packed.{meta_word, row_words}
use Rattle.record_words.specs.declared.kind.HeadKind.{HeadKind}
use Rattle.record_words.specs.declared.kind.HeadKind.TheVariants.{Middle, Narrow, Wide}
use Rattle.record_words.proofs.node.DroppedRows.{first_lanes}
use Rattle.record_words.proofs.Lawful.{length-with_unused}
use Rattle.record_words.proofs.HeadParts.HeadsByKind.{HasParts, Tells, first_tells, head_parts}
use Rattle.record_words.proofs.Lanes.{column_lanes, has-unused}
use Rattle.record_words.proofs.Nodes.{head_part, length-node_words}
use Rattle.record_words.proofs.node.SameColumns.{has_next}
use Rattle.record_words.proofs.OfKinds.{OfKind, is_middle, is_narrow, is_wide, of_kind}

pub some_before_rows : (kind : HeadKind) → 0 < rows_from kind
some_before_rows Wide = omega arith
some_before_rows Narrow = omega arith
some_before_rows Middle = omega arith

-- the kind and the first byte take less than 2 ^ 42
few_part : (columns : List ℕ) → kind_part (kind_of columns) columns < 2 ^ 42
few_part columns = go (of_kind columns)
  where
    go : OfKind columns → kind_part (kind_of columns) columns < 2 ^ 42
    go (is_wide e) = rw e (omega arith)
    go (is_narrow e near) = rw e (let within = near.within in omega (arith, within))
    go (is_middle e near) = rw e (let within = near.within in omega (arith, within))

-- a node that gets a leaf, and its words
module _ {words : List ℕ} {node : NodeView} {position first last : ℕ} (growing : CanGrowAt words node position first last) (low : position < 65535) where
  same : head_words (head_of node) ≡ take 25 words
  same = head_part node words growing.spells

  pub long : length words ≡ 57
  long = ap length (sym growing.spells) ∙ length-node_words node

  parts : HasParts (kind_of node.columns) (length node.rows) node.height node.columns node.rows (take 25 words)
  parts = head_parts (length node.rows) node.height node.columns node.rows (take 25 words) same

  word_is : (k : ℕ) → k < 25 → get_or (take 25 words) k 0 ≡ get_or words k 0
  word_is k small = get_or-take 25 words k 0 small

  -- the number of entries in the first word
  abbrev numbers_of : ℕ → ℕ
  numbers_of count = meta_word count (length node.columns) 1 + kind_part (kind_of node.columns) node.columns

  numbers_are : get_or words 0 0 ≡ numbers_of (length node.rows)
  numbers_are = sym (word_is 0 (lit< tt)) ∙ (parts.numbers ∙ ap (λ h. meta_word (length node.rows) (length node.columns) h + kind_part (kind_of node.columns) node.columns) growing.takes.0)

  pub room : length node.rows < 32
  room = omega (arith, same_count node growing.has.lawful, growing.takes.1)

  one_more : get_or words 0 0 + 1 ≡ numbers_of (length node.rows + 1)
  one_more = omega (arith, numbers_are)

  told : Tells (length node.rows) 1 node.columns (get_or words 0 0)
  told = first_tells (length node.rows) 1 node.columns (get_or words 0 0) (omega (arith, room)) (let few = growing.has.lawful.positions.few in omega (arith, few)) (omega arith) numbers_are

  pub few_numbers : get_or words 0 0 + 1 < 2 ^ 64
  few_numbers = omega (arith, one_more, few_part node.columns, room, growing.has.lawful.positions.few)

  -- the word tells the kind
  pub kind_told : kind_in (get_or words 0 0) ≡ kind_of node.columns
  kind_told = told.kind_told

  -- ---- the lanes with the positions
  module _ (lanes : List ℕ) (lanes_are : lanes ≡ node.columns ++ replicate (32 - length node.columns) 65535) where
    pub front_is : front_below position lanes ≡ front_below position node.columns
    front_is =
        let are = column_lanes node.columns lanes (length node.columns) growing.has.lawful.positions refl lanes_are in
        front_below-columns position (length node.columns) lanes are.1 (omega (arith, low)) ∙ ap (front_below position) are.0

    -- the position stands in a lane where it is a column
    pub column_lacks : has lanes position ≡ false → has node.columns position ≡ false
    column_lacks lacks = sym (has-unused position (32 - length node.columns) node.columns low) ∙ (ap (λ xs. has xs position) (sym lanes_are) ∙ lacks)

    pub column_found : has lanes position ≡ true → has node.columns position ≡ true
    column_found found = sym (has-unused position (32 - length node.columns) node.columns low) ∙ (ap (λ xs. has xs position) (sym lanes_are) ∙ found)

  fits_head : (old : List ℕ) → old ≡ with_unused node.rows → FitsHead (length node.rows) old (head_of node)
  fits_head old old_are = record { padded = old_are; counted = refl; lawful = with_leaves node growing.has.lawful (length node.rows) (same_count node growing.has.lawful) }

  -- ---- the rows with the fork
  module _ (bit : Bool) where
    abbrev next : HeadView
    next = forked_head 1 position first last bit (head_of node)

    leaf : NewLeaf node position first last bit 0
    leaf = new_leaf node growing.has.lawful position first last bit 0 growing.range growing.takes.1 low growing.takes.0

    -- the node with the leaf
    pub grown_leaf : (leaf : ℕ) → IsBuiltFrom (node_of next (insert node.entries (cond bit (last + 1) first) (Leaf leaf))) (grown position bit (Leaf leaf) first (piece node))
    grown_leaf leaf = (new_leaf node growing.has.lawful position first last bit leaf growing.range growing.takes.1 low growing.takes.0).built

    pub ordered : first ≤ last
    ordered = leaf.ordered

    pub in_range : last < length node.rows
    in_range = leaf.in_range

    -- where the position is no column
    module _ (off : has node.columns position ≡ false) where
      pub room_for_one : length node.columns < 31
      room_for_one = room_for_column position node.columns leaf.leaves_fit.positions off

      pub more_columns : next.columns ≡ with_position position node.columns
      more_columns = ap (λ b. cond b node.columns (with_position position node.columns)) off

      pub more_are_columns : IsColumns (with_position position node.columns)
      more_are_columns = subst IsColumns more_columns leaf.leaves_fit.positions

      module _ (below : ℕ) (old base rows : List ℕ) (few : below ≤ 31) (place : below ≡ front_below position node.columns) (old_are : old ≡ with_unused node.rows)
          (lanes : List ℕ) (count : ℕ) (lanes_are : lanes ≡ map (spread_row below) old) (counted : count ≡ length node.rows) (whole : length base ≡ 32)
          (front : (i : ℕ) → i < count → get_or base i 0 ≡ get_or lanes i 0) (behind : (i : ℕ) → i < 32 → count ≤ i → get_or base i 0 ≡ 4294967295)
          (rows_are : rows ≡ take 32 (edited first (last + 1 - first) (forked_rows (1 * 2 ^ (31 - below) % 2 ^ 32) bit) base)) where
        abbrev n : ℕ
        n = length node.rows

        old_fits : FitsHead n old (head_of node)
        old_fits = fits_head old old_are

        behind_are : drop n old ≡ replicate (32 - n) 4294967295
        behind_are = ap (drop n) old_are ∙ drop_at node.rows (replicate (32 - n) 4294967295) n refl

        few_rows : n ≤ 32
        few_rows = omega (arith, room)

        base_are : base ≡ with_unused (take n (map (spread_row below) old))
        base_are =
            first_lanes lanes base count (ap length lanes_are ∙ (length-map old (spread_row below) ∙ (ap length old_are ∙ length-with_unused node.rows few_rows))) (omega (arith, counted, few_rows)) whole front behind
            ∙ ap₂ (λ k (ls : List ℕ). with_unused (take k ls)) counted lanes_are

        front_long : length (take n (map (spread_row below) old)) ≡ n
        front_long = ap length (take-map (spread_row below) n old) ∙ (length-map (take n old) (spread_row below)
            ∙ (ap (λ (rs : List ℕ). length (take n rs)) old_are ∙ ap length (take_at node.rows (replicate (32 - n) 4294967295) n refl)))

        base_is : base ≡ map (spread_row below) (take n old) ++ drop n old
        base_is =
            base_are ∙ (ap (λ k. take n (map (spread_row below) old) ++ replicate (32 - k) 4294967295) front_long
            ∙ (ap (λ (front : List ℕ). front ++ replicate (32 - n) 4294967295) (take-map (spread_row below) n old) ∙ ap (λ (rest : List ℕ). map (spread_row below) (take n old) ++ rest) (sym behind_are)))

        kept_more : rows ≡ next.rows ++ drop (n + 1) old
        kept_more = words_forked n (head_of node) old old_fits 1 position first last below bit rows ordered in_range room few place
            (rows_are ∙ (ap (λ (rs : List ℕ). take 32 (edited first (last + 1 - first) (forked_rows (1 * 2 ^ (31 - below) % 2 ^ 32) bit) rs)) base_is
            ∙ ap (λ b. take 32 (edited first (last + 1 - first) (forked_rows (1 * 2 ^ (31 - below) % 2 ^ 32) bit) (cond b old (map (spread_row below) (take n old) ++ drop n old)))) (sym off)))

        fits_more : FitsHead (n + 1) rows next
        fits_more = new_fits n (head_of node) old old_fits next rows leaf.leaves_fit kept_more

        pub has_column_fork : (columns out : List ℕ) (more : ℕ) → columns ≡ with_position position node.columns → more ≡ n + 1 → out ≡ fixed_words more 1 columns rows ++ drop 25 words → HasHead words out (forked_head 1 position first last bit (head_of node))
        has_column_fork columns out more columns_are longer is =
            is ∙ ap (λ front. front ++ drop 25 words) (head_put next more 1 columns rows (longer ∙ sym fits_more.counted) refl (columns_are ∙ sym more_columns) fits_more.padded)

    module _ (column : has node.columns position ≡ true) (below : ℕ) (old rows : List ℕ) (few : below ≤ 31) (place : below ≡ front_below position node.columns)
        (old_are : old ≡ with_unused node.rows)
        (rows_are : rows ≡ take 32 (edited first (last + 1 - first) (forked_rows (1 * 2 ^ (31 - below) % 2 ^ 32) bit) old)) where
      abbrev count : ℕ
      count = length node.rows

      fits : FitsHead count old (head_of node)
      fits = fits_head old old_are

      kept : rows ≡ next.rows ++ drop (count + 1) old
      kept = words_forked count (head_of node) old fits 1 position first last below bit rows ordered in_range room few place
          (rows_are ∙ ap (λ b. take 32 (edited first (last + 1 - first) (forked_rows (1 * 2 ^ (31 - below) % 2 ^ 32) bit) (cond b old (map (spread_row below) (take count old) ++ drop count old)))) (sym column))

      forked : FitsHead (count + 1) rows next
      forked = new_fits count (head_of node) old fits next rows leaf.leaves_fit kept

      columns_stay : next.columns ≡ node.columns
      columns_stay = ap (λ b. cond b node.columns (with_position position node.columns)) column

      -- the words with the new rows are those of the head with the fork
      module _ (kind : HeadKind) (kinded : kind ≡ kind_of node.columns) (out : List ℕ) (whole : length out ≡ 57) (numbers : get_or out 0 0 ≡ get_or words 0 0 + 1)
          (others : (k : ℕ) → 0 < k → (k < rows_from kind) ⊎ (head_size kind ≤ k) → get_or out k 0 ≡ get_or words k 0)
          (in_rows : take (head_size kind - rows_from kind) (drop (rows_from kind) out) ≡ row_words kind rows) where
        pub has_fork : HasHead words out (forked_head 1 position first last bit (head_of node))
        has_fork = has_next words (head_of node) next same long columns_stay rows forked.padded kind kinded out whole (numbers ∙ (one_more ∙ ap numbers_of (sym forked.counted))) others in_rows
