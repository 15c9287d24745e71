-- Removal of one entry.
use Rattle.version_laws.proofs.Common.{IsChange, ◌≡◌, inl, inr, ℕ, [], refl, sym, subst, Some, None, Key, Fixed, Tree, leaf, node, fork, IsTrie, IsBuilt, Within, here, inside, zero_side, one_side, IsShown, Links, IsLawfulState, a_node, BareCore, view, IsVersionPublish, Item, items, IsMore, added, item, put, IsRemoved, leaf_node, more_left, more_right, put_less, has_less, more_after, none-some}
use Rattle.version_laws.specs.Writer.{removed_change}
use Rattle.version_laws.proofs.Replaced.{fate_linked, root_publish}
use Rattle.version_laws.proofs.Writer.AtHand.{IsAtHand}

-- A fork loses the leaf on one of its sides, and the other side is left.
pub removed_zero : (p n : ℕ) (k : Key) (v : ℕ) (b : Tree) → IsTrie b → IsRemoved (item n k v) (fork p (leaf n k v) b) b
removed_zero p n k v b i = record { trie = i; less = added; keys = λ l h. inr h }

pub removed_one : (p n : ℕ) (k : Key) (v : ℕ) (a : Tree) → IsTrie a → IsRemoved (item n k v) (fork p a (leaf n k v)) a
removed_one p n k v a i = record { trie = i; less = more_after (item n k v) (items a); keys = λ l h. inl h }

pub less_in_whole : {s t : Tree} (w : Within s t) (r : Tree) (x : Item) → IsMore x (items r) (items s) → IsMore x (items (put w r)) (items t)
less_in_whole here r x m = m
less_in_whole (inside w) r x m = less_in_whole w r x m
less_in_whole (zero_side {a = a} {b = b} w) r x m = more_left x (items (put w r)) (items a) (items b) (less_in_whole w r x m)
less_in_whole (one_side {a = a} {b = b} w) r x m = more_right x (items (put w r)) (items b) (items a) (less_in_whole w r x m)

pub removed_in_whole : {s t : Tree} (w : Within s t) (r : Tree) (x : Item) → IsTrie t → IsRemoved x s r → IsRemoved x t (put w r)
removed_in_whole w r x i a = record { trie = put_less w r i a.trie a.keys; less = less_in_whole w r x a.less; keys = has_less w r a.keys }

pub removed_marks : (b r : Tree) (n m : ℕ) (y g : Fixed) (x : Item) → IsRemoved x b r → IsRemoved x (node n y b) (node m g r)
removed_marks b r n m y g x a = record { trie = a.trie; less = a.less; keys = a.keys }

pub removed_open : (b r : Tree) (n : ℕ) (y : Fixed) (x : Item) → IsRemoved x b r → IsRemoved x (node n y b) r
removed_open b r n y x a = record { trie = a.trie; less = a.less; keys = a.keys }

module _ (c : BareCore) (q : ℕ) where
  pub hand_zero : (p n : ℕ) (k : Key) (v : ℕ) (b : Tree) → IsBuilt b → IsShown c.heap b → IsAtHand c q (fork p (leaf n k v) b) b
  hand_zero p n k v b i j = record {
    built = i;
    shown = j;
    comes = λ r h. inl (inr h);
    goes = λ o h. elim h [ inl e ↦ absurd (leaf_node e) | inr z ↦ inl z ];
  }

  pub hand_one : (p n : ℕ) (k : Key) (v : ℕ) (a : Tree) → IsBuilt a → IsShown c.heap a → IsAtHand c q (fork p a (leaf n k v)) a
  hand_one p n k v a i j = record {
    built = i;
    shown = j;
    comes = λ r h. inl (inl h);
    goes = λ o h. elim h [ inl z ↦ inl z | inr e ↦ absurd (leaf_node e) ];
  }

module _ (c : BareCore) (q : ℕ) (law : IsLawfulState (view c)) (t : Tree) (now : c.past.version c.past.now ≡ Some t) where
  -- The one leaf: the index is empty then.
  pub remove_last : (n : ℕ) (k : Key) (a : ℕ) → t ≡ leaf n k a → c.anchor ≡ Some q → IsVersionPublish c q c.heap None None (removed_change q (item n k a))
  remove_last n k a e lock = root_publish c q lock None None (removed_change q (item n k a)) refl (record {
    top = tt;
    tree = λ u y. absurd (none-some u y);
    comes = λ r h. elim h [ ];
    goes = λ m f i g. absurd (leaf_node (subst (λ s. Links s (a_node m)) e (fate_linked c law t now m f i)));
    change = subst (λ z. IsChange z (removed_change q (item n k a)) None) (sym now) (n, subst (λ s. IsMore (item n k a) [] (items s)) (sym e) added);
  })
