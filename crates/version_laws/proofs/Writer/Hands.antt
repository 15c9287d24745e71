-- What a writer has at hand, built up step by step.
use Rattle.version_laws.proofs.Common.{◌≡◌, ◌⊎◌, inl, inr, ℕ, Bool, true, false, ap, ◌∙◌, Some, Key, Fixed, Tree, leaf, node, IsBuilt, Within, IsShown, Links, Rec, a_node, a_leaf, Ready, BareCore, Item, IsAdded, put, IsInOwnSubtrie, grown, built_in_own_subtrie, node_number, leaf_node}
use Rattle.version_laws.proofs.Replaced.{linked_after_put, linked_before_put, links_new, links_old, shown_in_own_subtrie}
use Rattle.version_laws.proofs.Writer.AtHand.{IsAtHand, IsNewNode}

module _ (c : BareCore) (q : ℕ) where
  -- what stays
  pub hand_stay : (s : Tree) → IsBuilt s → IsShown c.heap s → IsAtHand c q s s
  hand_stay s b i = record { built = b; shown = i; comes = λ i h. inl h; goes = λ n h. inl h }

  -- a new node around
  pub hand_around : (s r : Tree) (m : ℕ) (x : Fixed) → IsAtHand c q s r → IsNewNode c q m x r → IsAtHand c q s (node m x r)
  hand_around s r m x h new = record {
    built = (new.two, new.lower, h.built, new.fit);
    shown = (new.words, h.shown);
    comes = comes;
    goes = λ n z. elim (h.goes n z) [ inl y ↦ inl (inr y) | inr y ↦ inr y ];
  }
    where
      comes : (i : Rec) → (i ≡ a_node m) ⊎ Links r i → Links s i ⊎ (c.fate i ≡ Ready q)
      comes i (inl e) = inr (ap c.fate e ∙ new.fate)
      comes i (inr z) = h.comes i z

  -- a locked node dissolved
  pub hand_open : (b r : Tree) (n : ℕ) (x : Fixed) → IsAtHand c q b r → c.lock n ≡ Some q → IsAtHand c q (node n x b) r
  hand_open b r n x h l = record {
    built = h.built;
    shown = h.shown;
    comes = λ i z. elim (h.comes i z) [ inl y ↦ inl (inr y) | inr y ↦ inr y ];
    goes = goes;
  }
    where
      goes : (o : ℕ) → (a_node o ≡ a_node n) ⊎ Links b (a_node o) → Links r (a_node o) ⊎ (c.lock o ≡ Some q)
      goes o (inl e) = inr (ap c.lock (node_number e) ∙ l)
      goes o (inr z) = h.goes o z

  -- a change at one place of a subtrie
  pub hand_put : {s t : Tree} (w : Within s t) → IsInOwnSubtrie w → (r : Tree) → IsBuilt t → IsShown c.heap t → IsAtHand c q s r → IsAtHand c q t (put w r)
  hand_put w f r b i h = record {
    built = built_in_own_subtrie w f r b h.built;
    shown = shown_in_own_subtrie c.heap w f r i h.shown;
    comes = λ i z. elim (linked_after_put w r i z) [
      | inl y ↦ inl y
      | inr y ↦ elim (h.comes i y) [ inl e ↦ inl (links_old w i e) | inr e ↦ inr e ]
    ];
    goes = λ n z. elim (linked_before_put w r (a_node n) z) [
      | inl y ↦ inl y
      | inr y ↦ elim (h.goes n y) [ inl e ↦ inl (links_new w r (a_node n) e) | inr e ↦ inr e ]
    ];
  }

  -- a leaf that is the pass's and ready, for another leaf, or for none
  pub hand_leaf : (n m : ℕ) (k l : Key) (v u : ℕ) → c.fate (a_leaf m) ≡ Ready q → c.heap.leaves m ≡ record { key = l; value = u } →
      IsAtHand c q (leaf n k v) (leaf m l u)
  hand_leaf n m k l v u f w = record {
    built = tt;
    shown = w;
    comes = λ i e. inr (ap c.fate e ∙ f);
    goes = λ o e. absurd (leaf_node e);
  }

  -- the new leaf beside the part
  pub hand_grown : (u : Bool) (p : ℕ) (s r : Tree) (x : Item) → IsAtHand c q s r → c.fate (a_leaf x.number) ≡ Ready q →
      c.heap.leaves x.number ≡ record { key = x.key; value = x.value } → IsAtHand c q s (grown u p r x)
  hand_grown false p s r x h f w = record {
    built = (tt, h.built);
    shown = (w, h.shown);
    comes = λ i z. elim z [ inl e ↦ inr (ap c.fate e ∙ f) | inr y ↦ h.comes i y ];
    goes = λ n z. elim (h.goes n z) [ inl y ↦ inl (inr y) | inr y ↦ inr y ];
  }
  hand_grown true p s r x h f w = record {
    built = (h.built, tt);
    shown = (h.shown, w);
    comes = λ i z. elim z [ inr e ↦ inr (ap c.fate e ∙ f) | inl y ↦ h.comes i y ];
    goes = λ n z. elim (h.goes n z) [ inl y ↦ inl (inl y) | inr y ↦ inr y ];
  }

-- A node around, and a node dissolved, change no key.
pub added_around : (s r : Tree) (m : ℕ) (y : Fixed) (x : Item) (p : ℕ) → IsAdded x p s r → IsAdded x p s (node m y r)
added_around s r m y x p a = record { trie = a.trie; more = a.more; keys = a.keys; like = a.like; has_like = a.has_like; agree = a.agree }

pub added_open : (b r : Tree) (n : ℕ) (y : Fixed) (x : Item) (p : ℕ) → IsAdded x p b r → IsAdded x p (node n y b) r
added_open b r n y x p a = record { trie = a.trie; more = a.more; keys = a.keys; like = a.like; has_like = a.has_like; agree = a.agree }
