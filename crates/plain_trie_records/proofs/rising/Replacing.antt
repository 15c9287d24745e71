-- What takes a node's place, as a tree.
use Rattle.plain_trie_records.proofs.Common.{◌≡◌, ◌⊎◌, inl, inr, ℕ, suc, ◌+◌, ◌*◌, ◌<◌, ◌≤◌, Bool, true, false, List, refl, ap, ap₂, sym, ◌∙◌, arith, if◌then◌else◌, MatchBool, lt-ltb, false≢true, MAX_BYTES, Place, Fork, places, size, NodeView, piece, greatest_height, head_of, Entry, affected, IsAdded, put, IsInOwnSubtrie, IsPathBelow, Item, Key, bit, spot, without_marks, child, Subtrie, Fixed, Tree, leaf, node, fork, subtrie, IsTrie, IsBuilt, IsLower, first_position, Within, here, inside, zero_side, one_side, IsTip, has_within, grafted, IsAbovePath, WayBelow, size-piece, body_bound, greatest_if_lower, node_built, fork_of_two_places, Risen, Whole, Split, subtrie_of}
use Rattle.tries.proofs.Place.Spots.{path_spot, grafted_spot}
use Rattle.plain_trie_records.specs.declared.leaf.LeafRecord.{LeafRecord}
use Rattle.plain_trie_records.specs.Risen.{IsNamed, StandsForSubtrie, RisenShows}
use Rattle.plain_trie_records.specs.Store.{ShowsTree}
use Rattle.plain_trie_records.specs.Rising.{StaysStored}
use Rattle.plain_trie_records.proofs.Store.{lower_more, shown_kept}

-- ---- records for a body
-- a tree that differs from a body in its nodes alone, and begins with this subtrie
pub record IsAround (ms : List NodeView) (ls : List LeafRecord) (h : ℕ) (head : Subtrie) (b : Tree) : Type 0 where
  pub tree : Tree
  pub begins : subtrie tree ≡ head
  pub same : without_marks tree ≡ without_marks b
  pub built : IsBuilt tree
  pub lower : IsLower (suc h) tree
  pub shown : ShowsTree ms ls tree

module _ (ms : List NodeView) (ls : List LeafRecord) (old : NodeView) (bounded : old.height + first_position (piece old) ≤ 9 * MAX_BYTES) where
  named_around : (e : Entry) (s : Tree) → IsNamed ms old e (subtrie s) → IsTrie s → IsBuilt s → ShowsTree ms ls s → IsLower old.height s → IsAround ms ls old.height (Place e) s
  named_around e s i trie built shown low = record {
    tree = node i.number (head_of i.view) s;
    begins = ap (λ z. let y : Subtrie = Place z in y) (sym i.is);
    same = refl;
    built = node_built i.view i.number s i.lawful i.shows built (high i.height) (bound i.height);
    lower = under i.height;
    shown = (record { view = i.view; at = i.at; fixed = refl; shows = i.shows }, shown);
  }
    where
      below : greatest_height (places (subtrie s)) < old.height
      below = greatest_if_lower old.height s low

      high : (i.view.height ≡ 1 + greatest_height (places (subtrie s))) ⊎ ((i.view.height ≡ old.height) × (first_position (piece i.view) ≡ first_position (piece old))) → greatest_height (places (subtrie s)) < i.view.height
      high (inl e) = omega arith
      high (inr e) = omega (arith, below)

      under : (i.view.height ≡ 1 + greatest_height (places (subtrie s))) ⊎ ((i.view.height ≡ old.height) × (first_position (piece i.view) ≡ first_position (piece old))) → i.view.height < suc old.height
      under (inl e) = omega (arith, below)
      under (inr e) = omega arith

      bound : (i.view.height ≡ 1 + greatest_height (places (subtrie s))) ⊎ ((i.view.height ≡ old.height) × (first_position (piece i.view) ≡ first_position (piece old))) → i.view.height + first_position (subtrie s) ≤ 9 * MAX_BYTES
      bound (inl e) =
          let g = body_bound s (fork_of_two_places s (omega (arith, i.lawful.several, ap size i.shows, size-piece i.view i.lawful))) trie built in
          omega arith
      bound (inr e) =
          let g : first_position (piece old) ≡ first_position (subtrie s) = sym e.1 ∙ ap first_position i.shows in
          omega (arith, bounded)

  for_around : (e : Entry) (s : Tree) → StandsForSubtrie ms old e (subtrie s) → IsTrie s → IsBuilt s → ShowsTree ms ls s → IsLower old.height s → IsAround ms ls old.height (Place e) s
  for_around e s (inl is) trie built shown low =
      record { tree = s; begins = is; same = refl; built = built; lower = lower_more ms old.height (suc old.height) s low (omega arith); shown = shown }
  for_around e s (inr i) trie built shown low = named_around e s i trie built shown low

  -- what takes the node's place, where the node is to show this body
  pub risen_around : (risen : Risen) (b : Tree) → RisenShows ms old risen (subtrie b) → IsTrie b → IsBuilt b → ShowsTree ms ls b → IsLower old.height b →
      IsAround ms ls old.height (subtrie_of risen) b
  risen_around (Whole e) b i trie built shown low = named_around e b i trie built shown low
  risen_around (Split p z o) (leaf n k v) i trie built shown low = elim i [ ]
  risen_around (Split p z o) (node n x d) i trie built shown low = elim i [ ]
  risen_around (Split p z o) (fork q a c) i trie built shown low =
      let x = for_around z a i.1 trie.0 built.0 shown.0 low.0 in
      let y = for_around o c i.2 trie.1 built.1 shown.1 low.1 in
      record {
        tree = fork q x.tree y.tree;
        begins = ap₂ (Fork q) x.begins y.begins ∙ ap (λ r. Fork r (Place z) (Place o)) (sym i.0);
        same = ap₂ (fork q) x.same y.same;
        built = (x.built, y.built);
        lower = (x.lower, y.lower);
        shown = (x.shown, y.shown);
      }

-- ---- a tree in the place of an entry
-- the place in a body to which a key's search leads
pub record IsSpot (k : Key) (b s : Tree) : Type 0 where
  pub place : Within s b
  pub flat : IsInOwnSubtrie place
  pub shows : (r : Tree) → subtrie (put place r) ≡ grafted (spot k (subtrie b)) (subtrie r) (subtrie b)
  pub path : (p : ℕ) → WayBelow p k b → IsPathBelow p place
  pub above : (p : ℕ) → IsPathBelow p place → IsAbovePath p (spot k (subtrie b)) (subtrie b)

-- forks below the position alone on the way: there is but an entry after the forks below it
way_tip : (p : ℕ) (k : Key) (b : Tree) → WayBelow p k b → IsTip (affected p k b)
way_tip p k (leaf n l v) w = tt
way_tip p k (node n x d) w = tt
way_tip p k (fork q a c) w = rw (lt-ltb q p w.0) (go (bit k q) (way_tip p k a) (way_tip p k c) w.1)
  where
    go : (o : Bool) → (WayBelow p k a → IsTip (affected p k a)) → (WayBelow p k c → IsTip (affected p k c)) →
        MatchBool o (WayBelow p k c) (WayBelow p k a) → IsTip (if o then affected p k c else affected p k a)
    go true f g w = g w
    go false f g w = f w

pub child_spot : (k : Key) (b : Tree) → IsSpot k b (child k b)
child_spot k b =
    let ((place, flat, subtries, path), above) = path_spot k b in
    record {
      place = place;
      flat = flat;
      shows = λ r. subtries r ∙ sym (grafted_spot k (subtrie r) (subtrie b));
      path = λ p w. path p (way_tip p k b w);
      above = above;
    }

-- another tree in one place of a shown one, whose other parts stay shown
pub put_kept : (ns ms : List NodeView) (ls : List LeafRecord) {s b : Tree} (w : Within s b) → IsInOwnSubtrie w → (r : Tree) → IsTrie b → ShowsTree ns ls b → ShowsTree ns ls s →
    StaysStored ns ms s → ShowsTree ms ls r → ShowsTree ms ls (put w r)
put_kept ns ms ls here f r t i j c h = h
put_kept ns ms ls (inside w) f r t i j c h = elim f [ ]
put_kept ns ms ls {s} (zero_side {p = p} {a = a} {b = d} w) f r t i j c h = (
  put_kept ns ms ls w f r t.0 i.0 j c h,
  shown_kept ns ms ls s d c j i.1 (λ k x y. false≢true (sym (t.3 k (has_within w k y)) ∙ t.4 k x)),
)
put_kept ns ms ls {s} (one_side {p = p} {a = a} {b = d} w) f r t i j c h = (
  shown_kept ns ms ls s a c j i.0 (λ k x y. false≢true (sym (t.3 k x) ∙ t.4 k (has_within w k y))),
  put_kept ns ms ls w f r t.1 i.1 j c h,
)

-- ---- one entry more below a node
-- one leaf more in a node's body is one more in the node
pub added_node : (n : ℕ) (y : Fixed) (b r : Tree) (x : Item) (p : ℕ) → IsAdded x p b r → IsAdded x p (node n y b) r
added_node n y b r x p a = record { trie = a.trie; more = a.more; keys = a.keys; like = a.like; has_like = a.has_like; agree = a.agree }
