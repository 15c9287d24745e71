-- What the loads of a node's head tell.
use Rattle.rowex_reading.proofs.Common.{◌≡◌, ℕ, ◌-◌, ◌^◌, ◌<◌, ◌≤◌, ◌++◌, List, [], ◌∷◌, drop, get_or, get_or-take, length, map, replicate, take, refl, ap, ap₂, sym, ◌∙◌, subst, arith, le_trans, take-append-drop, take-take, Entry, Leaf, Node, NodeView, HeadView, IsLawfulNode, head_of, leaves, node_of, piece, same_count, with_leaves, Place, Fork, places, uses, row_of, Layout, HasHeadWords, head_words, IsSpelling, HEAD_WORDS, head_size, kind_in, kind_of, HeadKind, Middle, Narrow, Wide, same_head, parts, told, Tree, leaf, node, fork, subtrie, Subtrie, shape, a_node, Heap, NodeWords, IsCopied, Stands, IsRecord, IsSameRecord, IsReach, steady, Known, Core, IsLawful, IsSized, heap_of, Recalls, recalls, IsPacked, head_is, node_is, EntryStoodSince, HadShapeSince, loads_shape, same_record_now, node_there, shaped, view}
use Rattle.node_tries.proofs.Piece.Mapping.{places-map_places, paths-map_places, uses-map_places, UsesOnly-map_places, RisesFrom-map_places, map_places}
use Rattle.node_tries.proofs.Positions.Tests.{all_weaker}
use Rattle.partial_keys.specs.Shows.{ShowsPiece}
use Rattle.partial_keys.proofs.Shown.{piece_of_shown}
use Rattle.tries.specs.Tree.{Fixed}
use Rattle.versions.proofs.Heap.{node_number}
use Rattle.rowex_reading.specs.Possible.{IsPossible}
use Rattle.rowex_reading.specs.Seen.{seen, AreHeadWords, AreLoaded, IsLedTo, shape_of}
use Rattle.rowex_reading.proofs.Seen.{recalls_before, seen_within, seen_past, seen_grown, seen_stable, stands_in, stands_seen}
use Rattle.rowex_reading.proofs.Seen.Standing.{reach, is_packed}
use Rattle.rowex_reading.proofs.Possible.Placing.{stood_if_stands}
use Rattle.rowex_reading.proofs.reading.Wording.{led_stood, word_now, words_now}

-- The forks of a node are those of one with its head and leaves at its places

abbrev a_leaf : Entry → Entry
a_leaf e = Leaf 0

shape_map : (p : Subtrie) → shape p ≡ map_places a_leaf p
shape_map (Place e) = refl
shape_map (Fork q a b) = ap₂ (λ x y. Fork q x y) (shape_map a) (shape_map b)

as_many : (xs : List Entry) → map a_leaf xs ≡ leaves (length xs)
as_many [] = refl
as_many (x ∷ xs) = ap (λ z. Leaf 0 ∷ z) (as_many xs)

shows_leaves : (v : NodeView) → IsLawfulNode v → ShowsPiece v.columns v.rows (leaves (length v.rows)) (map_places a_leaf (piece v))
shows_leaves v lawful = record {
  few = lawful.shows.few;
  columns_rise = lawful.shows.columns_rise;
  forks_at_columns = UsesOnly-map_places a_leaf v.columns (piece v) lawful.shows.forks_at_columns;
  columns_used = all_weaker (uses (piece v)) (uses (map_places a_leaf (piece v))) v.columns (λ p e. uses-map_places a_leaf (piece v) p ∙ e) lawful.shows.columns_used;
  paths_rise = RisesFrom-map_places a_leaf 0 (piece v) lawful.shows.paths_rise;
  rows_are = lawful.shows.rows_are ∙ ap (map (row_of v.columns)) (sym (paths-map_places a_leaf (piece v)));
  entries_are = ap leaves (same_count v lawful ∙ ap length lawful.shows.entries_are) ∙ (sym (as_many (places (piece v))) ∙ sym (places-map_places a_leaf (piece v)));
}

pub shape_is : (v : NodeView) → IsLawfulNode v → shape (piece v) ≡ shape_of (head_of v)
shape_is v lawful = shape_map (piece v) ∙ sym (piece_of_shown (Leaf 0) v.columns v.rows (leaves (length v.rows)) (map_places a_leaf (piece v)) (shows_leaves v lawful))

-- the fixed words of a node that stood are those that it has
same_fixed : (heap : Heap) (n : ℕ) (x : Fixed) (b w : Tree) → IsRecord (a_node n) w → IsSameRecord (node n x b) w → IsCopied heap w → (heap.nodes n).fixed ≡ x
same_fixed heap n x b (leaf m k v) r i f = absurd i
same_fixed heap n x b (fork p y z) r i f = absurd i
same_fixed heap n x b (node m y d) r i f = ap (λ z. (heap.nodes z).fixed) (node_number r) ∙ (ap (λ (z : NodeWords). z.fixed) f ∙ sym i.0)

-- The first words of a node's head have been loaded, which tell all of them.
module _ (layout : Layout) (k j : Known) (n : ℕ) (part words : List ℕ) (possible : IsPossible layout j) (loaded : AreLoaded k j (a_node n) 0 (λ o. o < length part) part)
    (short : length part ≤ HEAD_WORDS) (tell : (v : NodeView) → IsLawfulNode v → take (length part) (head_words (head_of v)) ≡ part → head_words (head_of v) ≡ words) (m h : ℕ) (led : IsLedTo k m (Node n h)) where
  -- in each core of which j is true, the words are those of a node's head
  record HeadNow (c : Core) : Type 0 where
    view_now : NodeView
    lawful_now : IsLawfulNode view_now
    spelled : head_words (head_of view_now) ≡ words
    nodes_are : (heap_of c.words).nodes n ≡ record { fixed = head_of view_now; subtrie = piece view_now }

  head_now : (c : Core) → IsLawful c → Recalls c j → HeadNow c
  unfolding IsPacked
  head_now c lawful known =
      let before = recalls_before loaded.later known in
      go (is_packed c k lawful before m led.0 (Node n h) (led.1 c lawful before))
    where
      go : IsPacked (a_node n) (c.words (a_node n)) → HeadNow c
      go (v, has, same) =
          let sized : IsSized (a_node n) (c.words (a_node n)) = lawful.records.sized (a_node n) in
          let all : head_words (head_of v) ≡ take HEAD_WORDS (c.words (a_node n)) = head_is v (c.words (a_node n)) sized.1 has same in
          let are : part ≡ take (length part) (c.words (a_node n)) = words_now (length part) part (c.words (a_node n)) refl (omega (arith, sized.0, short))
          (λ o low. word_now k j (a_node n) (λ o. o < length part) part loaded m (led_stood k m (Node n h) led) c lawful known o low (omega arith, omega (arith, low, short)) tt) in
          record {
            view_now = v;
            lawful_now = has.lawful;
            spelled = tell v has.lawful (ap (take (length part)) all ∙ (take-take (length part) HEAD_WORDS (c.words (a_node n)) short ∙ sym are));
            nodes_are = node_is v (c.words (a_node n)) sized.1 has same;
          }

  some_now : HeadNow possible.core
  some_now = head_now possible.core possible.lawful (recalls possible.core j possible.knows)

  abbrev its : HeadView
  its = head_of some_now.view_now

  -- it is the same head in each
  module _ (c : Core) (lawful : IsLawful c) (known : Recalls c j) where
    there : HeadNow c
    there = head_now c lawful known

    head_same : head_of there.view_now ≡ its
    head_same = same_head there.view_now some_now.view_now there.lawful_now some_now.lawful_now (there.spelled ∙ sym some_now.spelled)

    before : Recalls c k
    before = recalls_before loaded.later known

    led_there : EntryStoodSince (seen c k) m (Node n h)
    led_there = led.1 c lawful before

    head_reach : IsReach (view c) m
    head_reach = reach c k lawful before m led.0

    head_height : its.height ≡ h
    head_height = go (node_there n h led_there.1 led_there.5)
      where
        go : (x : Fixed) × (b : Tree) × (led_there.1 ≡ node n x b) × (x.height ≡ h) → its.height ≡ h
        go (x, b, is_node, high) =
            let st : Stands c.past led_there.0 (a_node n) (node n x b) = subst (λ z. Stands c.past led_there.0 (a_node n) z) is_node (stands_in c k led_there.4) in
            let w = same_record_now (view c) lawful.core.state (a_node n) led_there.0 (node n x b)
            (head_reach led_there.0 led_there.2 (le_trans led_there.3 (seen_within lawful before)) (a_node n) (node n x b) st) st in
            ap (λ (z : HeadView). z.height) (sym head_same ∙ (ap (λ (z : NodeWords). z.fixed) (sym there.nodes_are) ∙ same_fixed (heap_of c.words) n x b w.0 w.1.is_record w.2 w.3)) ∙ high

    head_shaped : HadShapeSince (seen c j) m n (shape_of its)
    head_shaped = go (node_there n h led_there.1 led_there.5)
      where
        go : (x : Fixed) × (b : Tree) × (led_there.1 ≡ node n x b) × (x.height ≡ h) → HadShapeSince (seen c j) m n (shape_of its)
        go (x, b, is_node, high) =
            let inside : led_there.0 ≤ length j.front = le_trans led_there.3 (seen_grown c loaded.later).longer in
            let past : led_there.0 ≤ c.past.now = le_trans led_there.3 (seen_within lawful before) in
            let st = stands_in c k led_there.4 in
            let p = shape ((heap_of c.words).nodes n).subtrie in
            let shape_there : HadShapeSince c.past m n p = loads_shape (view c) lawful.core.state m head_reach n h (seen_stable m (Node n h) (seen c k) c.past (seen_past lawful before) led_there) in
            let same : shape (subtrie b) ≡ p = shaped c.past m (steady (view c) lawful.core.state m head_reach) n p b shape_there (stood_if_stands c.past m n led_there.0 led_there.1 x b is_node led_there.2 past st) in (
              b,
              stood_if_stands (seen c j) m n led_there.0 led_there.1 x b is_node led_there.2 inside (stands_seen c j st),
              same ∙ (ap (λ (z : NodeWords). shape z.subtrie) there.nodes_are ∙ (shape_is there.view_now there.lawful_now ∙ ap shape_of head_same)),
            )

  pub part_read : AreHeadWords j m n h words
  part_read = record {
    head = its;
    seen = record {
      height = head_height possible.core possible.lawful (recalls possible.core j possible.knows);
      lawful = with_leaves some_now.view_now some_now.lawful_now (length its.rows) (same_count some_now.view_now some_now.lawful_now);
      shaped = head_shaped;
    };
    words_are = some_now.spelled;
  }

-- Those that say something in its kind have been.
pub kind_tells : (kind : HeadKind) (part : List ℕ) → kind_in (get_or part 0 0) ≡ kind → length part ≡ head_size kind → (v : NodeView) → IsLawfulNode v → take (length part) (head_words (head_of v)) ≡ part →
    head_words (head_of v) ≡ part ++ replicate (HEAD_WORDS - head_size kind) (2 ^ 64 - 1)
kind_tells kind part is long v lawful same =
    let whole : List ℕ = head_words (head_of v) in
    let some : 0 < length part = omega (arith, long, size_some kind) in
    let its_kind : kind_of v.columns ≡ kind = sym (told v lawful whole refl).kind_told ∙ (ap kind_in (sym (get_or-take (length part) whole 0 0 some) ∙ ap (λ (ws : List ℕ). get_or ws 0 0) same) ∙ is) in
    let rest : drop (head_size kind) whole ≡ replicate (HEAD_WORDS - head_size kind) (2 ^ 64 - 1) = subst (λ k. drop (head_size k) whole ≡ replicate (HEAD_WORDS - head_size k) (2 ^ 64 - 1)) its_kind (parts v lawful whole refl).rest in
    sym (take-append-drop (head_size kind) whole) ∙ ap₂ (λ (xs ys : List ℕ). xs ++ ys) (ap (λ n. take n whole) (sym long) ∙ same) rest
  where
    size_some : (kind : HeadKind) → 0 < head_size kind
    size_some Wide = omega arith
    size_some Narrow = omega arith
    size_some Middle = omega arith

-- the words of a head spell it
pub spelled_so : {k : Known} {m n h : ℕ} {words : List ℕ} → AreHeadWords k m n h words → IsSpelling HasHeadWords head_words words
spelled_so are = (are.head, (node_of are.head (leaves (length are.head.rows)), are.seen.lawful, refl), are.words_are)
