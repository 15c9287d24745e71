-- A locked node above another one: what an insertion affects there is so upwards.
use Rattle.version_laws.proofs.Common.{◌≡◌, inl, inr, ℕ, ◌<◌, ◌≤◌, ap, sym, subst, arith, Some, cases_lt, le-ltb, Key, Node, Fork, Fixed, Subtrie, Tree, leaf, node, fork, subtrie, IsTrie, IsFork, Within, here, inside, zero_side, one_side, seek, IsPathBelow, subtrie_affected, FirstForkIsBefore, IsTipSubtrie, NodeWords, IsLawfulState, BareCore, view, trie_within, built_within, within_trans, IsSpot, subtrie_spot}
use Rattle.version_laws.specs.Spots.{IsLockedNode}
use Rattle.version_laws.specs.Statements.{UpperGoesOn}
use Rattle.version_laws.proofs.Now.{built_now, trie_now}
use Rattle.version_laws.proofs.Paths.{path_rises_node}
use Rattle.version_laws.proofs.Standing.{stands_now, entry_node, newest_tree_if_node}

-- where the affected part of a subtrie is one entry, the subtrie's first fork is before p
first_below : (p q : ℕ) (k : Key) (x y : Subtrie) → IsTipSubtrie (subtrie_affected p k (Fork q x y)) → q < p
first_below p q k x y tip = elim (cases_lt q p) [ inl h ↦ h | inr h ↦ absurd (let z : IsTipSubtrie (Fork q x y) = rw (le-ltb q p h) at tip in z) ]

module _ (c : BareCore) (q : ℕ) (law : IsLawfulState (view c)) (t : Tree) (now : c.past.version c.past.now ≡ Some t) (k : Key) (p : ℕ) where
  -- what is below p in a node is so in the one above it
  upper_below : (o n h : ℕ) → IsLockedNode c q o → seek k (c.heap.nodes o).subtrie ≡ Node n h → FirstForkIsBefore p (c.heap.nodes n).subtrie → FirstForkIsBefore p (c.heap.nodes o).subtrie
  upper_below o n h locked names low = go (stands_now c law t now o locked.linked locked.fate)
    where
      first : (f : ℕ) (y : Fixed) (b d : Tree) (w : Within (node n y b) d) → IsPathBelow f w → f ≤ p → IsFork d → FirstForkIsBefore p (subtrie d)
      first f y b (leaf a l v) w h le two = absurd two
      first f y b (node a l v) w h le two = absurd two
      first f y b (fork a l v) (zero_side w) h le two = let z = h.0 in omega arith
      first f y b (fork a l v) (one_side w) h le two = let z = h.0 in omega arith

      rises_on : (y : Fixed) (b d : Tree) (w : Within (node n y b) d) → IsTrie d → IsFork d → FirstForkIsBefore p (subtrie b) → FirstForkIsBefore p (subtrie d)
      rises_on y (leaf a l v) d w i two h = absurd h
      rises_on y (node a l v) d w i two h = absurd h
      rises_on y (fork a l v) d w i two h = first a y (fork a l v) d w (path_rises_node w i (omega arith)) (omega (arith, h)) two

      go : (d : Tree) × Within (node o (c.heap.nodes o).fixed d) t × (subtrie d ≡ (c.heap.nodes o).subtrie) → FirstForkIsBefore p (c.heap.nodes o).subtrie
      go (d, v, pg) =
          let (y, b, is, words) = entry_node c law t now v k n h names in
          let (w, flat, subtries, path) = subst (IsSpot k d) is (subtrie_spot k d) in
          subst (FirstForkIsBefore p) pg (rises_on y b d w (trie_within (within_trans (inside here) v) (trie_now c law t now)) (built_within v (built_now c law t now)).0 (subst (FirstForkIsBefore p) (ap (λ (z : NodeWords). z.subtrie) words) low))

  tip_below : (o : ℕ) → IsLockedNode c q o → IsTipSubtrie (subtrie_affected p k (c.heap.nodes o).subtrie) → FirstForkIsBefore p (c.heap.nodes o).subtrie
  tip_below o locked tip = go (stands_now c law t now o locked.linked locked.fate)
    where
      of_body : (d : Tree) → IsFork d → IsTipSubtrie (subtrie_affected p k (subtrie d)) → FirstForkIsBefore p (subtrie d)
      of_body (leaf a l v) two h = absurd two
      of_body (node a l v) two h = absurd two
      of_body (fork a l v) two h = first_below p a k (subtrie l) (subtrie v) h

      go : (d : Tree) × Within (node o (c.heap.nodes o).fixed d) t × (subtrie d ≡ (c.heap.nodes o).subtrie) → FirstForkIsBefore p (c.heap.nodes o).subtrie
      go (d, v, pg) =
          subst (FirstForkIsBefore p) pg (of_body d (built_within v (built_now c law t now)).0 (subst (λ z. IsTipSubtrie (subtrie_affected p k z)) (sym pg) tip))

pub upper_goes_on : UpperGoesOn
upper_goes_on c q law k p o n u =
    let (t, now) = newest_tree_if_node c law o u.locked.linked u.locked.fate in
    elim u.path [ inl h ↦ upper_below c q law t now k p o n u.height u.locked u.entry h | inr h ↦ tip_below c q law t now k p o u.locked h ]
