-- The parts of a node with a new fork fit together.
pub mod Forked
use Rattle.compound_node.proofs.Common.{Bool, List, [], ap, arith, cond, drop, false, length, length-append, map, refl, subst, sym, take, true, ℕ, ⊎_elim, ◌++◌, ◌+◌, ◌-◌, ◌<◌, ◌^◌, ◌∙◌, ◌∷◌, ◌≡◌, ◌≤◌, cases_Bool, All-append, All-drop, All-push, All-take, length-drop, length-take-le, one_shl, All, insert, shows-at_column, shows-at_new, weight, IsColumns-with_position, piece_of_shown, shown_self, affected_range, same_length, shown_columns, IsColumns, piece_of, ShowsPiece, forked_rows, spread_row, IsPlaceOf, front_below-place, IsAffected, affected_count, edited, forked_places, grown, Piece, front_below, has, with_position}
use Rattle.compound_node.proofs.Editing.{put-before, put-behind}
use Rattle.compound_node.proofs.Heights.{greatest_height-insert}
use Rattle.compound_node.proofs.Lawful.{built_lawful, parts_fit, same_count, with_leaves}
use Rattle.compound_node.specs.Forking.{forked_head}
use Rattle.compound_node.specs.Nodes.{FitTogether, HeadView, IsBuiltFrom, IsEntry, IsLawfulNode, NodeView, greatest_height, head_of, height_of, leaves, node_of, piece}
use Rattle.compound_node.specs.declared.entries.Entry.TheVariants.{Leaf}
use Rattle.compound_node.specs.declared.entries.Entry.{Entry}

-- parts that show some piece fit
pub fit_from_shown : (columns rows : List ℕ) (entries : List Entry) (P : Piece Entry) → ShowsPiece columns rows entries P → 2 ≤ length entries → length entries ≤ 32 → IsColumns columns → All IsEntry entries →
    FitTogether columns rows entries
fit_from_shown columns rows entries P sh several room positions children = record {
  several = several;
  room = room;
  same = same_length columns rows entries P sh;
  positions = positions;
  shows = shown_self (Leaf 0) columns rows entries P sh;
  children = children;
}

module _ {X : Type 0} (bit : Bool) (x : X) (f n : ℕ) (xs : List X) where
  length-forked_places : (ys : List X) → length (forked_places bit x ys) ≡ length ys + 1
  length-forked_places ys = elim bit as (λ v. length (cond v (ys ++ x ∷ []) (x ∷ ys)) ≡ length ys + 1) [ true ↦ length-append ys (x ∷ []) | false ↦ omega arith ]

  length-put : f + n ≤ length xs → length (edited f n (forked_places bit x) xs) ≡ length xs + 1
  length-put l =
      let a : length (take f xs) ≡ f = length-take-le f xs (omega arith) in
      let b : length (take n (drop f xs)) ≡ n = length-take-le n (drop f xs) (rw length-drop (omega arith)) in
      let c : length (drop (f + n) xs) ≡ length xs - (f + n) = length-drop (f + n) xs in
      rw (length-append (take f xs) (forked_places bit x (take n (drop f xs)) ++ drop (f + n) xs), length-append (forked_places bit x (take n (drop f xs))) (drop (f + n) xs), length-forked_places (take n (drop f xs)), a, b, c)
      (omega arith)

  All-put : (F : X → Type 0) → All F xs → F x → All F (edited f n (forked_places bit x) xs)
  All-put F all one =
      let middle : All F (take n (drop f xs)) = All-take F n (drop f xs) (All-drop F f xs all) in
      All-append F (take f xs) (forked_places bit x (take n (drop f xs)) ++ drop (f + n) xs) (All-take F f xs all)
      (All-append F (forked_places bit x (take n (drop f xs))) (drop (f + n) xs)
      (elim bit as (λ v. All F (cond v (take n (drop f xs) ++ x ∷ []) (x ∷ take n (drop f xs))))
      [ true ↦ All-push F (take n (drop f xs)) x middle one | false ↦ All-append F (x ∷ []) (take n (drop f xs)) (All-push F [] x (λ k d l. absurd (omega arith)) one) middle ])
      (All-drop F (f + n) xs all))

module _ (columns rows : List ℕ) (entries : List Entry) (fit : FitTogether columns rows entries) (position first last : ℕ) (bit : Bool) (entry : Entry)
    (range : IsAffected (piece_of (Leaf 0) columns rows entries) position first last) where
  fork_range : (first ≤ last) × (last < length entries)
  fork_range =
      let r : (first ≤ last) × (last < length entries) × (last + 1 - first ≡ affected_count position first (piece_of (Leaf 0) columns rows entries)) =
      affected_range columns rows entries (piece_of (Leaf 0) columns rows entries) position first last fit.shows range in
      (r.0, r.1)

  module _ (room : length entries < 32) (stands : IsEntry entry) where
    put_together : (new_columns new_rows : List ℕ) → IsColumns new_columns →
        ShowsPiece new_columns new_rows (edited first (last + 1 - first) (forked_places bit entry) entries) (grown position bit entry first (piece_of (Leaf 0) columns rows entries)) →
        FitTogether new_columns new_rows (edited first (last + 1 - first) (forked_places bit entry) entries)
    put_together new_columns new_rows positions sh =
        let long : length (edited first (last + 1 - first) (forked_places bit entry) entries) ≡ length entries + 1 = length-put bit entry first (last + 1 - first) entries (omega (arith, fork_range.0, fork_range.1)) in
        fit_from_shown new_columns new_rows (edited first (last + 1 - first) (forked_places bit entry) entries) (grown position bit entry first (piece_of (Leaf 0) columns rows entries)) sh
        (omega (arith, long, fit.several)) (omega (arith, long)) positions (All-put bit entry first (last + 1 - first) entries IsEntry fit.children stands)

    -- the position is a column
    fit_at_column : has columns position ≡ true →
        FitTogether columns (edited first (last + 1 - first) (forked_rows (weight (front_below position columns)) bit) rows) (edited first (last + 1 - first) (forked_places bit entry) entries)
    fit_at_column here = put_together columns _ fit.positions (shows-at_column columns rows entries (piece_of (Leaf 0) columns rows entries) position first last bit entry fit.shows range here)

    -- the position becomes a column
    fit_at_new : position < 65535 → has columns position ≡ false →
        FitTogether (with_position position columns) (edited first (last + 1 - first) (forked_rows (weight (front_below position columns)) bit) (map (spread_row (front_below position columns)) rows))
        (edited first (last + 1 - first) (forked_places bit entry) entries)
    fit_at_new below off = put_together (with_position position columns) _
        (IsColumns-with_position position columns fit.positions (omega (arith, shown_columns columns rows entries (piece_of (Leaf 0) columns rows entries) fit.shows)) below off)
        (shows-at_new columns rows entries (piece_of (Leaf 0) columns rows entries) position first last bit entry fit.shows range room off)

-- ---- a node with a new fork
module _ (node : NodeView) (lawful : IsLawfulNode node) (position first last : ℕ) (bit : Bool) (entry : Entry)
    (range : IsAffected (piece node) position first last) (room : length node.entries < 32) (below : position < 65535) (stands : IsEntry entry) where
  abbrev new_entries : List Entry
  new_entries = edited first (last + 1 - first) (forked_places bit entry) node.entries

  abbrev new_head : HeadView
  new_head = forked_head (1 + greatest_height new_entries) position first last bit (head_of node)

  new_range : (first ≤ last) × (last < length node.entries)
  new_range = fork_range node.columns node.rows node.entries (parts_fit node lawful) position first last bit entry range

  new_length : length new_entries ≡ length node.entries + 1
  new_length = length-put bit entry first (last + 1 - first) node.entries (omega (arith, new_range.0, new_range.1))

  new_children : All IsEntry new_entries
  new_children = All-put bit entry first (last + 1 - first) node.entries IsEntry lawful.children stands

  -- among leaves alone the new entry is the highest
  new_greatest : node.height ≡ 1 → greatest_height new_entries ≡ height_of entry
  new_greatest e =
      let low : All (λ entry. height_of entry < 1) node.entries = subst (λ h. All (λ entry. height_of entry < h) node.entries) e lawful.above in
      elim bit as (λ b. greatest_height (edited first (last + 1 - first) (forked_places b entry) node.entries) ≡ height_of entry) [
        | true ↦ ap greatest_height (sym (put-behind first (last + 1 - first) entry node.entries)) ∙ greatest_height-insert node.entries (first + (last + 1 - first)) entry low
        | false ↦ ap greatest_height (sym (put-before first (last + 1 - first) entry node.entries)) ∙ greatest_height-insert node.entries first entry low
      ]

  weight_is : weight (front_below position node.columns) ≡ 2 ^ (31 - front_below position node.columns)
  weight_is =
      let place : IsPlaceOf node.columns position (front_below position node.columns) = front_below-place position node.columns in
      one_shl (31 - front_below position node.columns) 32 (omega arith)

  -- it is built from the piece with the fork
  forked_built : IsBuiltFrom (node_of new_head new_entries) (grown position bit entry first (piece node))
  forked_built = ⊎_elim
      (λ (e : has node.columns position ≡ true). rw e (built_from node.columns (edited first (last + 1 - first) (forked_rows (2 ^ (31 - front_below position node.columns)) bit) node.rows)
      (rw weight_is at (fit_at_column node.columns node.rows node.entries (parts_fit node lawful) position first last bit entry range room stands e))
      (rw weight_is at (shows-at_column node.columns node.rows node.entries (piece node) position first last bit entry lawful.shows range e))))
      (λ (e : has node.columns position ≡ false). rw e (built_from (with_position position node.columns)
      (edited first (last + 1 - first) (forked_rows (2 ^ (31 - front_below position node.columns)) bit) (map (spread_row (front_below position node.columns)) node.rows))
      (rw weight_is at (fit_at_new node.columns node.rows node.entries (parts_fit node lawful) position first last bit entry range room stands below e))
      (rw weight_is at (shows-at_new node.columns node.rows node.entries (piece node) position first last bit entry lawful.shows range room e))))
      (cases_Bool (has node.columns position))
    where
      built_from : (columns rows : List ℕ) → FitTogether columns rows new_entries → ShowsPiece columns rows new_entries (grown position bit entry first (piece node)) →
          IsBuiltFrom (record { height = 1 + greatest_height new_entries; columns = columns; rows = rows; entries = new_entries }) (grown position bit entry first (piece node))
      built_from columns rows fit sh = record {
        lawful = built_lawful columns rows new_entries fit;
        shows_it = piece_of_shown (Leaf 0) columns rows new_entries (grown position bit entry first (piece node)) sh;
        height_is = refl;
      }

  new_leaves : IsLawfulNode (node_of new_head (leaves (length node.rows + 1)))
  new_leaves = with_leaves (node_of new_head new_entries) forked_built.lawful (length node.rows + 1) (omega (arith, same_count node lawful, new_length))

-- what a node with a new fork needs
pub record NewFork (node : NodeView) (position first last : ℕ) (bit : Bool) (entry : Entry) : Type 0 where
  pub ordered : first ≤ last
  pub in_range : last < length node.entries
  pub children : All IsEntry (edited first (last + 1 - first) (forked_places bit entry) node.entries)
  pub greatest : node.height ≡ 1 → greatest_height (edited first (last + 1 - first) (forked_places bit entry) node.entries) ≡ height_of entry
  pub leaves_fit : IsLawfulNode (node_of (forked_head (1 + greatest_height (edited first (last + 1 - first) (forked_places bit entry) node.entries)) position first last bit (head_of node)) (leaves (length node.rows + 1)))
  pub built : IsBuiltFrom (node_of (forked_head (1 + greatest_height (edited first (last + 1 - first) (forked_places bit entry) node.entries)) position first last bit (head_of node))
      (edited first (last + 1 - first) (forked_places bit entry) node.entries)) (grown position bit entry first (piece node))

pub new_fork : (node : NodeView) (lawful : IsLawfulNode node) (self : NodeView) (same : node ≡ self) (position first last : ℕ) (bit : Bool) (entry : Entry) →
    IsAffected (piece self) position first last → length self.entries < 32 → position < 65535 → IsEntry entry → NewFork node position first last bit entry
new_fork node lawful self same position first last bit entry at has_room below stands =
    let range : IsAffected (piece node) position first last = subst (λ v. IsAffected (piece v) position first last) (sym same) at in
    let room : length node.entries < 32 = subst (λ (v : NodeView). length v.entries < 32) (sym same) has_room in
    record {
      ordered = (new_range node lawful position first last bit entry range room below stands).0;
      in_range = (new_range node lawful position first last bit entry range room below stands).1;
      children = new_children node lawful position first last bit entry range room below stands;
      greatest = new_greatest node lawful position first last bit entry range room below stands;
      leaves_fit = new_leaves node lawful position first last bit entry range room below stands;
      built = forked_built node lawful position first last bit entry range room below stands;
    }

-- an element goes straight behind the affected ones, or straight before them
pub put_beside : {X : Type 0} (first last : ℕ) (bit : Bool) (x : X) (xs : List X) → first ≤ last → edited first (last + 1 - first) (forked_places bit x) xs ≡ insert xs (cond bit (last + 1) first) x
put_beside first last true x xs ordered =
    let end : first + (last + 1 - first) ≡ last + 1 = omega (arith, ordered) in
    sym (put-behind first (last + 1 - first) x xs) ∙ ap (λ k. insert xs k x) end
put_beside first last false x xs ordered = sym (put-before first (last + 1 - first) x xs)

-- what the head of a node of leaves needs for a new leaf
pub record NewLeaf (node : NodeView) (position first last : ℕ) (bit : Bool) (leaf : ℕ) : Type 0 where
  pub ordered : first ≤ last
  pub in_range : last < length node.rows
  pub leaves_fit : IsLawfulNode (node_of (forked_head 1 position first last bit (head_of node)) (leaves (length node.rows + 1)))
  pub built : IsBuiltFrom (node_of (forked_head 1 position first last bit (head_of node)) (insert node.entries (cond bit (last + 1) first) (Leaf leaf))) (grown position bit (Leaf leaf) first (piece node))

pub new_leaf : (node : NodeView) → IsLawfulNode node → (position first last : ℕ) (bit : Bool) (leaf : ℕ) →
    IsAffected (piece node) position first last → length node.entries < 32 → position < 65535 → node.height ≡ 1 → NewLeaf node position first last bit leaf
new_leaf node lawful position first last bit leaf at room below low =
    let fork : NewFork node position first last bit (Leaf leaf) = new_fork node lawful node refl position first last bit (Leaf leaf) at room below tt in
    let height : 1 + greatest_height (edited first (last + 1 - first) (forked_places bit (Leaf leaf)) node.entries) ≡ 1 = omega (arith, fork.greatest low) in
    record {
      ordered = fork.ordered;
      in_range = omega (arith, fork.in_range, same_count node lawful);
      leaves_fit = subst (λ h. IsLawfulNode (node_of (forked_head h position first last bit (head_of node)) (leaves (length node.rows + 1)))) height fork.leaves_fit;
      built = subst (λ es. IsBuiltFrom (node_of (forked_head 1 position first last bit (head_of node)) es) (grown position bit (Leaf leaf) first (piece node)))
          (put_beside first last bit (Leaf leaf) node.entries fork.ordered)
          (subst (λ h. IsBuiltFrom (node_of (forked_head h position first last bit (head_of node)) (edited first (last + 1 - first) (forked_places bit (Leaf leaf)) node.entries)) (grown position bit (Leaf leaf) first (piece node))) height fork.built);
    }
