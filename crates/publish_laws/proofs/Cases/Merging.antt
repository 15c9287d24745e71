-- Removals that merge may be published; and what a pass knows of the nodes beside each other.
use Rattle.publish_laws.proofs.Common.{◌≡◌, ◌<◌, ◌+◌, inl, ℕ, Bool, true, false, List, [], ◌∷◌, ◌++◌, Some, refl, sym, ap, ap₂, subst, ◌∙◌, arith, if◌then◌else◌, NodeView, greatest_height, height_of, piece, Entry, Node, Change, Fork, Place, RisesFrom, places, Layout, item, Key, bit, fork_closed, subtrie_collapsed, subtrie_sibling, subtrie_without, child, seek, Subtrie, Tree, subtrie, Within, here, inside, node, greatest-append, built_within, trie_within, within_trans, NodeWords, LeafWords, Rec, a_node, a_leaf, IsOneOf, shown_within, all_of, of_left, of_right, IsBesideNode, IsEntryFor, IsLeafOf, IsNewSubtrie, linked_for_entry, subtrie_merged, IsPublished, removed_change, built_now, shown_now, trie_now, newest_tree_if_node, stands_now, same_entry, Known, Locked, node_words_of, Core, IsLawful, bare, heap_of, IsInTree, stored_words, stored_root, Knows, IsLocked, node_used, knows_all, recalls, Made, recs_of, publishes_made, MayPublish}
use Rattle.tries.specs.Place.{fork_of}
use Rattle.versions.proofs.Heap.Stored.{links_of}
use Rattle.version_laws.proofs.Beside.{StandBeside, beside_now, first_within, both_low, both_rise, last_fork, second_within, two, two_within}
use Rattle.version_laws.proofs.Rise.Merging.{collapsed_tree, merge_at_spot, merged_tree}
use Rattle.version_laws.proofs.Replaced.{linked_fate}
use Rattle.version_laws.proofs.Scan.{node_of}
use Rattle.publish_laws.specs.Acts.{BesideMayLock}
use Rattle.publish_laws.specs.Cases.{MayMerge}
use Rattle.publish_laws.specs.Rises.{made_of_node, IsBuiltAnew, IsSide}
use Rattle.publish_laws.specs.Stages.{AreBeside, IsLeafThere, IsStage, merged}
use Rattle.publish_laws.proofs.Rises.Bounding.{bound_of}
use Rattle.publish_laws.proofs.Spots.{stores_at}
use Rattle.publish_laws.proofs.Loops.{recs_append}
use Rattle.publish_laws.proofs.Cases.Publishing.{publish_words}
use Rattle.publish_laws.proofs.Rises.{side_in}
use Rattle.publish_laws.proofs.Stages.Valuing.{loaded_leaf, named_below}
use Rattle.publish_laws.proofs.Stages.{locked_node, made_node, node_fixed, stage_of}

-- What the words tell of a core: the leaf of the lower node, the two that stand beside each other, and the tree that both become.
module _ (layout : Layout) (k : Known) (held : List Locked) (news : List Made) (c : Core) (stage : IsStage layout k held news c) (key : Key) (o n m j : ℕ) (b : AreBeside held key o n m j) where
  pub beside_in : IsBesideNode (bare c) k.pass key o n m
  beside_in =
      let (upper, up) = locked_node layout k held news c stage o b.upper b.has_upper in
      let (other, across) = locked_node layout k held news c stage m b.other b.has_other in record {
        locked = upper.lock;
        height = b.height;
        entry = ap (λ (y : NodeWords). seek key y.subtrie) up ∙ b.entry;
        position = b.position;
        other_height = b.other_height;
        sibling = ap (λ (y : NodeWords). subtrie_sibling key y.subtrie) up ∙ b.sibling;
        locked_too = other.lock;
      }

  merged_is : subtrie_merged (bare c) k.pass key o n m beside_in ≡ merged b
  unfolding beside_in
  merged_is =
      let lower = (locked_node layout k held news c stage n b.lower b.has_lower).1 in
      let across = (locked_node layout k held news c stage m b.other b.has_other).1 in
      ap₂ (λ (x y : NodeWords). fork_of (bit key b.position) b.position (subtrie_without key x.subtrie) y.subtrie) lower across

  -- the leaf that goes
  leaf_in : IsLeafThere layout k held news j key → IsLeafOf (bare c) k.pass key n j
  leaf_in there =
      let (lower, down) = locked_node layout k held news c stage n b.lower b.has_lower in
      record { lock = lower.lock; entry = ap (λ (y : NodeWords). seek key y.subtrie) down ∙ b.leaf; key = there c stage }

  module _ (there : IsLeafThere layout k held news j key) (z : ℕ) (view : NodeView) (has : IsOneOf (made_of_node z view) news) (may : IsBuiltAnew view) (shows : piece view ≡ merged b) where
    -- the new node
    pub joined_in : IsNewSubtrie (bare c) k.pass z (node_fixed view) (subtrie_merged (bare c) k.pass key o n m beside_in)
    joined_in =
        let (upper, up) = locked_node layout k held news c stage o b.upper b.has_upper in
        let (t, now) = newest_tree_if_node (bare c) stage.lawful.core.state o upper.linked upper.fate in
        let (d, v, pg) = stands_now (bare c) stage.lawful.core.state t now o upper.linked upper.fate in
        let (s, is, trie, built) = merged_tree (bare c) k.pass stage.lawful.core.state key n j (leaf_in there) o m beside_in t now ((bare c).heap.nodes o).fixed d v in
        let same : piece view ≡ subtrie_merged (bare c) k.pass key o n m beside_in = shows ∙ sym merged_is in
        subst (IsNewSubtrie (bare c) k.pass z (node_fixed view)) same (made_node layout k held news c stage z view has may.0 (bound_of view s may (same ∙ sym is) trie built))

    -- and the entry for what is left above
    pub closed_in : (e : Entry) (us : List Made) → IsSide (subtrie_collapsed key (Node z view.height) (node_words_of b.upper).subtrie) e us → ((u : Made) → IsOneOf u us → IsOneOf u news) →
        (i : IsEntryFor (bare c) k.pass (subtrie_collapsed key (Node z view.height) ((bare c).heap.nodes o).subtrie) e) × (linked_for_entry i ≡ recs_of us)
    closed_in e us side made =
        let (upper, up) = locked_node layout k held news c stage o b.upper b.has_upper in
        let (t, now) = newest_tree_if_node (bare c) stage.lawful.core.state o upper.linked upper.fate in
        let (d, v, pg) = stands_now (bare c) stage.lawful.core.state t now o upper.linked upper.fate in
        let (s, is, trie, built) = collapsed_tree (bare c) k.pass stage.lawful.core.state key n j (leaf_in there) o m beside_in t now ((bare c).heap.nodes o).fixed d v z (node_fixed view) joined_in in
        let words : subtrie_collapsed key (Node z view.height) ((bare c).heap.nodes o).subtrie ≡ subtrie_collapsed key (Node z view.height) (node_words_of b.upper).subtrie =
        ap (λ (y : NodeWords). subtrie_collapsed key (Node z view.height) y.subtrie) up in
        let (i, linked) = side_in layout k held news c stage (subtrie_collapsed key (Node z view.height) (node_words_of b.upper).subtrie) e us side made s (is ∙ words) trie built in
        let (f, still) = same_entry (bare c) k.pass (subtrie_collapsed key (Node z view.height) (node_words_of b.upper).subtrie) (subtrie_collapsed key (Node z view.height) ((bare c).heap.nodes o).subtrie) (sym words) e i in
        (f, still ∙ linked)

pub merge : MayMerge
merge layout k held us key o n m j z height w value view e at has b may shows side holds fits there loaded word =
    publishes_made layout k at w change (Some value) news gone has.own allowed
  where
    news : List Made
    news = us ++ made_of_node z view ∷ []

    gone : List Rec
    gone = a_node o ∷ a_node n ∷ a_node m ∷ a_leaf j ∷ []

    change : Change
    change = removed_change k.pass (item j key value)

    allowed : MayPublish layout k at w change (Some value) (recs_of news) gone
    allowed c law layout_is known =
        let stage = stage_of layout k held news has c law layout_is known in
        let s = stores_at layout k held news c stage known key (Node o height) at holds e w fits word in
        let (below, down) = locked_node layout k held news c stage n b.lower b.has_lower in
        let named = named_below c k.pass key j n below (ap (λ (y : NodeWords). seek key y.subtrie) down ∙ b.leaf) in
        let is_leaf = loaded_leaf c k law known j key value named (there c stage) loaded in
        let seen = leaf_in layout k held news c stage key o n m j b there in
        let joined = joined_in layout k held news c stage key o n m j b there z view (of_right (made_of_node z view) us (made_of_node z view ∷ []) (inl refl)) may shows in
        let (i, linked) = closed_in layout k held news c stage key o n m j b there z view (of_right (made_of_node z view) us (made_of_node z view ∷ []) (inl refl)) may shows e us side (λ u h. of_left u us (made_of_node z view ∷ []) h) in
        let heap = heap_of (stored_words c at w) in
        let root = stored_root c at w in
        let published = merge_at_spot (bare c) k.pass law.core.state key n j seen o m (beside_in layout k held news c stage key o n m j b) z (node_fixed view) joined height e i s.spot s.low heap root s.stored in
        publish_words c change law known.pass at w (Some e) s.of_entry s.locked word.0 word.1 s.packed (Some value) (recs_of news) gone
        (subst (λ xs. IsPublished (bare c) heap root change xs gone) (ap (λ xs. xs ++ a_node z ∷ []) linked ∙ sym (recs_append us (made_of_node z view ∷ [])))
        (subst (λ (y : LeafWords). IsPublished (bare c) heap root (removed_change k.pass (item j key y.value)) (linked_for_entry i ++ a_node z ∷ []) gone) is_leaf published)) (λ f. f)

-- What a pass knows by its locks

module _ (layout : Layout) (k : Known) (c : Core) (law : IsLawful c) (layout_is : c.layout ≡ layout) (known : Knows c k) where
  stage_now : IsStage layout k k.locks [] c
  stage_now = record {
    lawful = law;
    layout_is = layout_is;
    recalls = recalls c k known;
    locks = λ l i. all_of (IsLocked k.pass c) l k.locks (knows_all c k known).locks i;
    made = λ m i. absurd i;
  }

  -- The tree of the present, with a locked node.
  record StandsLocked (o : ℕ) (words : List ℕ) : Type 0 where
    tree : Tree
    now : c.past.version c.past.now ≡ Some tree
    body : Tree
    place : Within (node o (node_words_of words).fixed body) tree
    same : (bare c).heap.nodes o ≡ node_words_of words

  module _ (o : ℕ) (words : List ℕ) (has : IsOneOf (record { node = o; words = words }) k.locks) where
    locked_stands : StandsLocked o words
    locked_stands =
        let (on, same) = locked_node layout k k.locks [] c stage_now o words has in
        let (t, now) = newest_tree_if_node (bare c) law.core.state o on.linked on.fate in
        let (d, v, pg) = stands_now (bare c) law.core.state t now o on.linked on.fate in
        record { tree = t; now = now; body = d; place = subst (λ (y : NodeWords). Within (node o y.fixed d) t) same v; same = same }

    locked_shown : node_words_of words ≡ record { fixed = (node_words_of words).fixed; subtrie = subtrie locked_stands.body }
    locked_shown = sym locked_stands.same ∙ (shown_within (bare c).heap locked_stands.place (shown_now (bare c) law.core.state locked_stands.tree locked_stands.now)).0

    -- A node that it names beside the key's way is in the tree.
    beside_linked : (key : Key) (m q h : ℕ) → subtrie_sibling key (node_words_of words).subtrie ≡ Some (q, Place (Node m h)) → IsInTree c m
    beside_linked key m q h sibling =
        let (u, is, last) = last_fork key locked_stands.body q (Node m h) (ap (λ (y : NodeWords). subtrie_sibling key y.subtrie) (sym locked_shown) ∙ sibling) in
        let (x, b, named, high) = node_of m h u is in
        let w : Within u locked_stands.tree = within_trans (second_within (bit key q) q (child key locked_stands.body) u) (within_trans last.place (within_trans (inside here) locked_stands.place)) in
        linked_fate (bare c) law.core.state locked_stands.tree locked_stands.now (a_node m) (links_of (subst (λ u. Within u locked_stands.tree) named w))

  -- It is one of the table's.
  pub beside_in_table : (key : Key) (o m q h : ℕ) (words : List ℕ) → IsOneOf (record { node = o; words = words }) k.locks → subtrie_sibling key (node_words_of words).subtrie ≡ Some (q, Place (Node m h)) → m < layout.nodes
  beside_in_table key o m q h words has sibling = subst (λ (y : Layout). m < y.nodes) layout_is (node_used c law m (beside_linked o words has key m q h sibling))

  module _ (key : Key) (o n m j : ℕ) (b : AreBeside k.locks key o n m j) where
    stands : StandsLocked o b.upper
    stands = locked_stands o b.upper b.has_upper

    beside_stands : StandBeside key stands.body b.position n m
    beside_stands =
        beside_now (bare c) law.core.state stands.tree stands.now key o n m b.height b.position b.other_height (ap (λ (y : NodeWords). seek key y.subtrie) stands.same ∙ b.entry)
        (ap (λ (y : NodeWords). subtrie_sibling key y.subtrie) stands.same ∙ b.sibling) (node_words_of b.upper).fixed stands.body stands.place

    both_within : Within (two beside_stands) stands.tree
    both_within = two_within beside_stands stands.place

    -- the words of both are those of their bodies
    merged_shown : merged b ≡ fork_of (bit key b.position) b.position (subtrie_without key (subtrie beside_stands.lower)) (subtrie beside_stands.other)
    merged_shown =
        let (lower, down) = locked_node layout k k.locks [] c stage_now n b.lower b.has_lower in
        let (other, across) = locked_node layout k k.locks [] c stage_now m b.other b.has_other in
        let first = first_within (bit key b.position) b.position (node n beside_stands.fixed beside_stands.lower) (node m beside_stands.fixed_too beside_stands.other) in
        let second = second_within (bit key b.position) b.position (node n beside_stands.fixed beside_stands.lower) (node m beside_stands.fixed_too beside_stands.other) in
        let shown = shown_within (bare c).heap both_within (shown_now (bare c) law.core.state stands.tree stands.now) in
        ap₂ (λ (x y : NodeWords). fork_of (bit key b.position) b.position (subtrie_without key x.subtrie) y.subtrie)
        (sym down ∙ (shown_within (bare c).heap first shown).0) (sym across ∙ (shown_within (bare c).heap second shown).0)

    -- What is left of the lower node and the one beside it can stand below one fork,
    pub merged_rises : RisesFrom 0 (merged b)
    merged_rises = subst (RisesFrom 0) (sym merged_shown) (both_rise beside_stands (trie_within both_within (trie_now (bare c) law.core.state stands.tree stands.now)))

    -- in a node that is lower than the one above.
    pub merged_low : 1 + greatest_height (places (merged b)) < (node_words_of b.upper).fixed.height
    merged_low =
        let built = built_within stands.place (built_now (bare c) law.core.state stands.tree stands.now) in
        let low = both_low beside_stands (node_words_of b.upper).fixed.height built.1 built.2 in
        let same = ap (λ x. greatest_height (places x)) merged_shown in
        omega (arith, low, same)

-- The pass may lock it.
pub beside_may_lock : BesideMayLock
beside_may_lock layout k key o m q h words has sibling c law layout_is known live = beside_linked layout k c law layout_is known o words has key m q h sibling

-- Closed with a lower entry a subtrie stays lower.
greatest_closed : (q h : ℕ) (u : Bool) (e : Entry) (x y r : Subtrie) → height_of e < h → greatest_height (places x) < h → greatest_height (places y) < h → greatest_height (places r) < h →
    greatest_height (places (fork_closed q u e x y r)) < h
greatest_closed q h true e x (Place d) r low i j l = omega (arith, low)
greatest_closed q h true e x (Fork p a b) r low i j l = omega (arith, i, l, greatest-append (places x) (places r))
greatest_closed q h false e (Place d) y r low i j l = omega (arith, low)
greatest_closed q h false e (Fork p a b) y r low i j l = omega (arith, j, l, greatest-append (places r) (places y))

pub collapsed_low : (key : Key) (e : Entry) (x : Subtrie) (height : ℕ) → greatest_height (places x) < height → height_of e < height →
    greatest_height (places (subtrie_collapsed key e x)) < height
collapsed_low key e (Place d) height under low = under
collapsed_low key e (Fork q x y) height under low =
    let both = greatest-append (places x) (places y) in
    let first : greatest_height (places x) < height = omega (arith, both, under) in
    let second : greatest_height (places y) < height = omega (arith, both, under) in
    go (bit key q) first second (collapsed_low key e x height first low) (collapsed_low key e y height second low)
  where
    go : (u : Bool) → greatest_height (places x) < height → greatest_height (places y) < height → greatest_height (places (subtrie_collapsed key e x)) < height → greatest_height (places (subtrie_collapsed key e y)) < height →
        greatest_height (places (fork_closed q u e x y (if u then subtrie_collapsed key e y else subtrie_collapsed key e x))) < height
    go true f g a b = greatest_closed q height true e x y (subtrie_collapsed key e y) low f g b
    go false f g a b = greatest_closed q height false e x y (subtrie_collapsed key e x) low f g a
