-- The way of a search.
use Rattle.plain_trie_records.proofs.Common.{◌≡◌, ℕ, ◌+◌, ◌<◌, true, false, List, ◌++◌, length, refl, ap, sym, ◌∙◌, subst, arith, Some, if◌then◌else◌, get_or, slice_get, get_or_from_slice_get, slice_get_within, get_or_append_left, get_or-append-add, length-places, Place, Fork, places, size, leads_to, bit_of, NodeView, piece, IsLawfulNode, height_of, Entry, Leaf, Node, Item, Key, bit, child, seek, found, spot, Subtrie, Fixed, Tree, leaf, node, fork, subtrie, IsBuilt, IsLower, Within, here, inside, zero_side, one_side, subtrie_child, within_child, built_within, leads_spot, spot_below, found_child}
use Rattle.plain_trie_records.specs.declared.leaf.LeafRecord.{LeafRecord}
use Rattle.plain_trie_records.specs.Store.{IsNodeStored, ShowsTree, item_record}

-- what stands there
pub spot_entry : (k : Key) (x : Subtrie) (d : Entry) → get_or (places x) (spot k x) d ≡ seek k x
spot_entry k (Place e) d = refl
spot_entry k (Fork p x y) d =
    elim (bit k p) as (λ u. get_or (places x ++ places y) (if u then size x + spot k y else spot k x) d ≡ (if u then seek k y else seek k x)) [
      | true ↦ ap (λ n. get_or (places x ++ places y) (n + spot k y) d) (sym (length-places x)) ∙ (get_or-append-add (places x) (places y) (spot k y) d ∙ spot_entry k y d)
      | false ↦ get_or_append_left (places x) (places y) d (spot k x) (rw (length-places x) (spot_below k x)) ∙ spot_entry k x d
    ]

pub shown_within : (ns : List NodeView) (ls : List LeafRecord) {s t : Tree} → Within s t → ShowsTree ns ls t → ShowsTree ns ls s
shown_within ns ls here i = i
shown_within ns ls (inside w) i = shown_within ns ls w i.1
shown_within ns ls (zero_side w) i = shown_within ns ls w i.0
shown_within ns ls (one_side w) i = shown_within ns ls w i.1

pub lower_child : (h : ℕ) (k : Key) (b : Tree) → IsLower h b → height_of (seek k (subtrie b)) < h
lower_child h k (leaf n l v) i = i
lower_child h k (node n x b) i = i
lower_child h k (fork p a b) i =
    elim (bit k p) as (λ u. height_of (if u then seek k (subtrie b) else seek k (subtrie a)) < h) [ true ↦ lower_child h k b i.1 | false ↦ lower_child h k a i.0 ]

-- a node that a tree begins with, as its record has it
pub record IsNodeOf (ns : List NodeView) (ls : List LeafRecord) (n h : ℕ) (u : Tree) : Type 0 where
  pub fixed : Fixed
  pub body : Tree
  pub is : u ≡ node n fixed body
  pub high : fixed.height ≡ h
  pub stored : IsNodeStored ns n fixed (subtrie body)
  pub below : ShowsTree ns ls body
  pub built : IsBuilt (node n fixed body)

pub node_of_subtrie : (ns : List NodeView) (ls : List LeafRecord) (n h : ℕ) (u : Tree) → subtrie u ≡ Place (Node n h) → ShowsTree ns ls u → IsBuilt u → IsNodeOf ns ls n h u
node_of_subtrie ns ls n h (leaf m k v) e s b = absurd cc
node_of_subtrie ns ls n h (fork p x y) e s b = absurd cc
node_of_subtrie ns ls n h (node m x d) e s b =
    let f : m ≡ n = cc in
    let g : x.height ≡ h = cc in
    record {
      fixed = x;
      body = d;
      is = ap (λ z. node z x d) f;
      high = g;
      stored = subst (λ z. IsNodeStored ns z x (subtrie d)) f s.0;
      below = s.1;
      built = b;
    }

-- a leaf that a tree is
pub leaf_of_subtrie : (ns : List NodeView) (ls : List LeafRecord) (k : Key) (n : ℕ) (u : Tree) → subtrie u ≡ Place (Leaf n) → ShowsTree ns ls u → slice_get ls n ≡ Some (item_record (found k u))
leaf_of_subtrie ns ls k n (leaf m l v) e s = let f : m ≡ n = cc in subst (λ z. slice_get ls z ≡ Some (item_record (found k (leaf m l v)))) f s
leaf_of_subtrie ns ls k n (node m x d) e s = absurd cc
leaf_of_subtrie ns ls k n (fork p x y) e s = absurd cc

pub leaf_number : (k : Key) (n : ℕ) (u : Tree) → subtrie u ≡ Place (Leaf n) → (found k u).number ≡ n
leaf_number k n (leaf m l v) e = cc
leaf_number k n (node m x d) e = absurd cc
leaf_number k n (fork p x y) e = absurd cc

-- where a search stands: at an entry that shows a part of the tree, in which it ends at the same leaf
pub record IsOnWay (ns : List NodeView) (ls : List LeafRecord) (k : Key) (t : Tree) (e : Entry) : Type 0 where
  pub part : Tree
  pub head : subtrie part ≡ Place e
  pub shown : ShowsTree ns ls part
  pub built : IsBuilt part
  pub same : found k part ≡ found k t

-- the record that stands at an index
pub read_at : {A : Type 0} (xs : List A) (n : ℕ) (v y : A) → slice_get xs n ≡ Some v → y ≡ get_or xs n y → y ≡ v
read_at xs n v y e h = h ∙ get_or_from_slice_get xs n v y e

-- the entry of a lawful node to which a search leads
pub sought_entry : (k : Key) (v : NodeView) (i : ℕ) (e : Entry) → IsLawfulNode v → i ≡ leads_to (bit_of k) (piece v) → slice_get v.entries i ≡ Some e → e ≡ seek k (piece v)
sought_entry k v i e lawful leads entry =
    sym (get_or_from_slice_get v.entries i e e entry) ∙
    (ap (λ es. get_or es i e) lawful.shows.entries_are ∙
    (ap (λ j. get_or (places (piece v)) j e) (leads ∙ leads_spot k (piece v)) ∙ spot_entry k (piece v) e))

-- a step down from a node
pub on_way_down : (ns : List NodeView) (ls : List LeafRecord) (k : Key) (t : Tree) (n h : ℕ) (w : IsOnWay ns ls k t (Node n h)) (v : NodeView) (e : Entry) →
    v ≡ get_or ns n v → e ≡ seek k (piece v) → IsOnWay ns ls k t e × (height_of e < h)
on_way_down ns ls k t n h w v e at sought =
    let u = node_of_subtrie ns ls n h w.part w.head w.shown w.built in
    let same : v ≡ u.stored.view = read_at ns n u.stored.view v u.stored.at at in
    let is : e ≡ seek k (subtrie u.body) = sought ∙ ap (seek k) (ap piece same ∙ u.stored.shows) in (
      record {
        part = child k u.body;
        head = subtrie_child k u.body ∙ ap (λ z. let y : Subtrie = Place z in y) (sym is);
        shown = shown_within ns ls (within_child k u.body) u.below;
        built = built_within (within_child k u.body) u.built.2;
        same = found_child k u.body ∙ (sym (ap (found k) u.is) ∙ w.same);
      },
      let l = lower_child u.fixed.height k u.body u.built.1 in omega (arith, ap height_of is, u.high),
    )

pub on_way_within : (ns : List NodeView) (ls : List LeafRecord) (k : Key) (t : Tree) (n h : ℕ) → IsOnWay ns ls k t (Node n h) → n < length ns
on_way_within ns ls k t n h w = let u = node_of_subtrie ns ls n h w.part w.head w.shown w.built in slice_get_within ns n u.stored.view u.stored.at

pub on_way_end : (ns : List NodeView) (ls : List LeafRecord) (k : Key) (t : Tree) (n : ℕ) → IsOnWay ns ls k t (Leaf n) → slice_get ls n ≡ Some (item_record (found k t))
on_way_end ns ls k t n w = leaf_of_subtrie ns ls k n w.part w.head w.shown ∙ ap (λ x. Some (item_record x)) w.same

pub on_way_number : (ns : List NodeView) (ls : List LeafRecord) (k : Key) (t : Tree) (n : ℕ) → IsOnWay ns ls k t (Leaf n) → (found k t).number ≡ n
on_way_number ns ls k t n w = ap (λ (y : Item). y.number) (sym w.same) ∙ leaf_number k n w.part w.head
