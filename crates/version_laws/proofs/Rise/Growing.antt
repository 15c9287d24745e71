-- Each insertion is a chain of a few steps, from the lowest locked node up to the entry that is stored.
use Rattle.version_laws.proofs.Common.{◌≡◌, ◌⊎◌, inl, inr, ℕ, refl, ap, ap₂, ◌∙◌, Some, Key, bit, Fixed, Tree, node, fork, Has, IsTrie, IsBuilt, Within, here, inside, IsShown, Links, IsLawfulState, Rec, a_node, Ready, BareCore, view, Item, put, IsPathBelow, IsInOwnSubtrie, affected, IsLeafOrFork, trie_within, built_within, within_trans, shown_within, grown, without_marks, added_in_whole, added_without_marks, added_here}
use Rattle.version_laws.specs.Writer.{IsNewLeaf, IsFoundBelow, Newcomer}
use Rattle.version_laws.proofs.Now.{built_now, shown_now, trie_now}
use Rattle.version_laws.proofs.Writer.Hands.{hand_stay, hand_around, hand_open, hand_put, hand_grown, added_around, added_open}
use Rattle.version_laws.proofs.Rise.Insertions.{found_added, found_away, hand_leaf_in, with_leaf}
use Rattle.version_laws.proofs.Writer.AtHand.{IsNewNode, IsHalf, one, many, IsGrowth}

half_bare : (c : BareCore) (q : ℕ) (r s : Tree) → IsHalf c q r s → without_marks s ≡ without_marks r
half_bare c q r s (one i) = refl
half_bare c q r s (many m g new) = refl

half_built : (c : BareCore) (q : ℕ) (r s : Tree) → IsHalf c q r s → IsBuilt r → IsBuilt s
half_built c q r s (one i) b = b
half_built c q r s (many m g new) b = (new.two, new.lower, b, new.fit)

half_shown : (c : BareCore) (q : ℕ) (r s : Tree) → IsHalf c q r s → IsShown c.heap r → IsShown c.heap s
half_shown c q r s (one i) b = b
half_shown c q r s (many m g new) b = (new.words, b)

half_comes : (c : BareCore) (q : ℕ) (r s : Tree) → IsHalf c q r s → (i : Rec) → Links s i → Links r i ⊎ (c.fate i ≡ Ready q)
half_comes c q r s (one z) i h = inl h
half_comes c q r s (many m g new) i (inl e) = inr (ap c.fate e ∙ new.fate)
half_comes c q r s (many m g new) i (inr h) = inl h

half_links : (c : BareCore) (q : ℕ) (r s : Tree) → IsHalf c q r s → (i : Rec) → Links r i → Links s i
half_links c q r s (one z) i h = h
half_links c q r s (many m g new) i h = inr h

module _ (c : BareCore) (q : ℕ) (x : Item) (p : ℕ) where
  -- Around a body: a copy of a node, an intermediate node, a new root.
  pub growth_around : (s r : Tree) (m : ℕ) (g : Fixed) → IsGrowth c q x p s r → IsNewNode c q m g r → IsGrowth c q x p s (node m g r)
  growth_around s r m g a new = record {
    hand = hand_around c q s r m g a.hand new;
    adds = added_around s r m g x p a.adds;
  }

  -- The old node goes, where it is locked.
  pub growth_open : (b r : Tree) (n : ℕ) (y : Fixed) → IsGrowth c q x p b r → c.lock n ≡ Some q → IsGrowth c q x p (node n y b) r
  growth_open b r n y a lock = record { hand = hand_open c q b r n y a.hand lock; adds = added_open b r n y x p a.adds }

  -- A cut: the body's two sides get nodes of their own, or stay the one entry that they are.
  pub growth_cut : (s : Tree) (f : ℕ) (d e a b : Tree) → IsGrowth c q x p s (fork f d e) → IsHalf c q d a → IsHalf c q e b → IsGrowth c q x p s (fork f a b)
  growth_cut s f d e a b z u v = record {
    hand = record {
      built = (half_built c q d a u z.hand.built.0, half_built c q e b v z.hand.built.1);
      shown = (half_shown c q d a u z.hand.shown.0, half_shown c q e b v z.hand.shown.1);
      comes = comes;
      goes = goes;
    };
    adds = added_without_marks s (fork f a b) (fork f d e) x p (ap₂ (fork f) (half_bare c q d a u) (half_bare c q e b v)) z.adds;
  }
    where
      comes : (i : Rec) → Links a i ⊎ Links b i → Links s i ⊎ (c.fate i ≡ Ready q)
      comes i (inl h) = elim (half_comes c q d a u i h) [ inl y ↦ z.hand.comes i (inl y) | inr y ↦ inr y ]
      comes i (inr h) = elim (half_comes c q e b v i h) [ inl y ↦ z.hand.comes i (inr y) | inr y ↦ inr y ]

      linked : (i : Rec) → Links d i ⊎ Links e i → Links a i ⊎ Links b i
      linked i (inl y) = inl (half_links c q d a u i y)
      linked i (inr y) = inr (half_links c q e b v i y)

      goes : (n : ℕ) → Links s (a_node n) → (Links a (a_node n) ⊎ Links b (a_node n)) ⊎ (c.lock n ≡ Some q)
      goes n h = elim (z.hand.goes n h) [ inl y ↦ inl (linked (a_node n) y) | inr y ↦ inr y ]

  -- In the subtrie above: a pull up, where the new tree is a fork; else one entry in another's place.
  pub growth_put : {s t : Tree} (w : Within s t) → IsInOwnSubtrie w → (r : Tree) → IsTrie t → IsBuilt t → IsShown c.heap t → IsPathBelow p w →
      IsGrowth c q x p s r → IsGrowth c q x p t (put w r)
  growth_put w f r i b s path a = record { hand = hand_put c q w f r b s a.hand; adds = added_in_whole w r x p i path a.adds }

module _ (c : BareCore) (q : ℕ) (law : IsLawfulState (view c)) (t : Tree) (now : c.past.version c.past.now ≡ Some t) (x : Newcomer)
    (new : IsNewLeaf c q x.item) where
  -- The start: the lowest locked node's body with the new leaf.
  pub growth_leaf : {n : ℕ} {y : Fixed} {b : Tree} → Within (node n y b) t → IsFoundBelow c q x n → IsLeafOrFork (affected x.mismatch x.item.key b) →
      IsGrowth c q x.item x.mismatch b (with_leaf x.item x.mismatch b)
  growth_leaf {b = b} v f is_part = record {
    hand = hand_leaf_in c q law t now v x.mismatch x.item new;
    adds = found_added c q law t now v x f is_part (with_leaf x.item x.mismatch b) refl;
  }

  -- Or the affected part alone with the new leaf beside it: of a full node that stays whole.
  pub growth_beside : {n : ℕ} {y : Fixed} {b s : Tree} → Within (node n y b) t → IsFoundBelow c q x n → IsLeafOrFork (affected x.mismatch x.item.key b) →
      Within s t → ((k : Key) → Has s k → Has (affected x.mismatch x.item.key b) k) → IsGrowth c q x.item x.mismatch s (grown (bit x.item.key x.mismatch) x.mismatch s x.item)
  growth_beside {b = b} {s = s} v f is_part w keys = record {
    hand = hand_grown c q (bit x.item.key x.mismatch) x.mismatch s s x.item (hand_stay c q s (built_within w (built_now c law t now)) (shown_within c.heap w (shown_now c law t now))) new.fate new.words;
    adds = added_here s x.item x.mismatch (trie_within w (trie_now c law t now)) f.key (λ k h. found_away c q law t now v x f is_part k (keys k h));
  }

  -- What the next node's body becomes.
  pub pulled : {o n : ℕ} {z y : Fixed} {d b : Tree} → Within (node o z d) t → (u : Within (node n y b) d) → IsInOwnSubtrie u → IsPathBelow x.mismatch u → (r : Tree) →
      IsGrowth c q x.item x.mismatch (node n y b) r → IsGrowth c q x.item x.mismatch d (put u r)
  pulled v u flat path r a =
      let i = within_trans (inside here) v in
      growth_put c q x.item x.mismatch u flat r (trie_within i (trie_now c law t now)) (built_within i (built_now c law t now)) (shown_within c.heap i (shown_now c law t now)) path a
