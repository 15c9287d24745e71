-- The insertion cases.
use Rattle.version_laws.proofs.Common.{◌≡◌, inr, ℕ, refl, ap, sym, ◌∙◌, subst, Some, None, Key, bit, Fixed, Tree, leaf, node, fork, Has, IsTrie, IsFork, IsBuilt, Within, here, inside, Leaf, Follows, child, IsLawfulState, BareCore, view, IsVersionPublish, Item, added, IsAdded, put, IsChange, affected, IsLeafOrFork, trie_within, built_within, within_trans, shown_within, grown, without_marks, in_tree_now, added_at, DifferFirstAt, part_differs_first, part_place, some_same, none-some}
use Rattle.version_laws.specs.Writer.{added_change, IsNewLeaf, IsFoundBelow, Newcomer}
use Rattle.version_laws.proofs.Now.{built_now, shown_now, trie_now}
use Rattle.version_laws.proofs.Ways.Descent.{way_follows}
use Rattle.version_laws.proofs.Writer.Hands.{hand_stay, hand_put, hand_grown}
use Rattle.version_laws.proofs.Writer.AtHand.{IsAtHand}
use Rattle.version_laws.proofs.Replaced.{root_publish}

-- The body with the new leaf at the affected part.
abbrev pub with_leaf : Item → ℕ → Tree → Tree
with_leaf x p b = put (part_place p x.key b).0 (grown (bit x.key p) p (affected p x.key b) x)

pub part_of : (b : Tree) → IsFork b → IsLeafOrFork b
part_of (leaf n k v) f = tt
part_of (node n k v) f = elim f [ ]
part_of (fork n k v) f = tt

module _ (c : BareCore) (q : ℕ) (law : IsLawfulState (view c)) (t : Tree) (now : c.past.version c.past.now ≡ Some t) where
  -- What a writer that has found a leaf below its lowest locked node knows of the present.
  pub found_follows : {n : ℕ} {y : Fixed} {b : Tree} → Within (node n y b) t → (x : Newcomer) → IsFoundBelow c q x n → Follows x.like (child x.item.key b)
  found_follows v x f = way_follows c law x.since f.reach t now v x.item.key x.like f.way

  -- All keys of the affected part agree with the new key before `p` and have the other bit there.
  pub found_away : {n : ℕ} {y : Fixed} {b : Tree} → Within (node n y b) t → (x : Newcomer) → IsFoundBelow c q x n →
      IsLeafOrFork (affected x.mismatch x.item.key b) → (k : Key) → Has (affected x.mismatch x.item.key b) k → DifferFirstAt x.mismatch x.item.key k
  found_away {b = b} v x f is_part =
      part_differs_first x.mismatch x.item.key x.like f.agree f.differ b (trie_within (within_trans (inside here) v) (trie_now c law t now)) is_part (found_follows v x f)

  -- So the node's body with the new leaf has one leaf more.
  pub found_added : {n : ℕ} {y : Fixed} {b : Tree} → Within (node n y b) t → (x : Newcomer) → IsFoundBelow c q x n →
      IsLeafOrFork (affected x.mismatch x.item.key b) → (r : Tree) → without_marks r ≡ without_marks (with_leaf x.item x.mismatch b) → IsAdded x.item x.mismatch b r
  found_added {b = b} v x f is_part r e =
      added_at (part_place x.mismatch x.item.key b).0 x.item x.mismatch r (trie_within (within_trans (inside here) v) (trie_now c law t now)) f.key (part_place x.mismatch x.item.key b).2 (found_away v x f is_part) e

  -- The new leaf in a locked node's body is at hand.
  pub hand_leaf_in : {n : ℕ} {y : Fixed} {b : Tree} → Within (node n y b) t → (p : ℕ) (x : Item) → IsNewLeaf c q x → IsAtHand c q b (with_leaf x p b)
  hand_leaf_in {b = b} v p x new =
      let place = part_place p x.key b in
      let d = affected p x.key b in
      let i = built_within (within_trans (inside here) v) (built_now c law t now) in
      let j = shown_within c.heap (within_trans (inside here) v) (shown_now c law t now) in
      hand_put c q place.0 place.1 (grown (bit x.key p) p d x) i j
      (hand_grown c q (bit x.key p) p d d x (hand_stay c q d (built_within place.0 i) (shown_within c.heap place.0 j)) new.fate new.words)

-- The first key.
pub first_key : (c : BareCore) (q : ℕ) → IsLawfulState (view c) → c.past.version c.past.now ≡ None → (x : Item) → c.anchor ≡ Some q → IsNewLeaf c q x →
    IsVersionPublish c q c.heap (Some (Leaf x.number)) (Some (leaf x.number x.key x.value)) (added_change q x)
first_key c q law now x lock new = root_publish c q lock (Some (Leaf x.number)) (Some (leaf x.number x.key x.value)) (added_change q x) refl (record {
  top = (refl, new.words);
  tree = λ u y. subst (λ o. IsTrie o × IsBuilt o) (some_same y) (new.key, tt);
  comes = λ r h. inr (ap c.fate h ∙ new.fate);
  goes = λ n f e g. let u = (in_tree_now c law n f e).1 in absurd (none-some u.tree (sym now ∙ u.is_version));
  change = subst (λ z. IsChange z (added_change q x) (Some (leaf x.number x.key x.value))) (sym now) (x.number, added);
})
