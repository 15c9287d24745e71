-- The order of keys by bits is the order by bytes, and what stays of a map under a change.
use Rattle.tries.proofs.Common.{◌≡◌, ◌≢◌, ◌⊎◌, inl, inr, ℕ, List, [], ◌∷◌, Bool, true, false, cond, refl, sym, ◌∙◌, subst, Option, Some, None, false≢true, tied_itself, exact_bytes, slice_cmp, nat_list_cmp_total, nat_cmp, is_le, is_lt, match_ordering, Ordering, Less, Equal, Greater, lookup, remove_entry, insert_entry, is_at, IsKey, bit_of, IsFirstDifference, first_difference}
use Rattle.tries.specs.Keys.{Key, bit, IsBefore, IsAtMost}
use Rattle.tries.specs.Tree.{Tree, leaf, node, fork, Has, IsTrie}
use Rattle.tries.proofs.Tree.{same_key}
use Rattle.tries.proofs.Content.Maps.{before_less, before_greater}

abbrev order : Key → Key → Ordering
order = slice_cmp nat_cmp

-- The keys of a bit trie are keys.
pub has_key : (t : Tree) → IsTrie t → (k : Key) → Has t k → IsKey k
has_key (leaf n l v) i k h = subst IsKey (sym h) i
has_key (node n x b) i k h = has_key b i k h
has_key (fork p a b) i k (inl h) = has_key a i.0 k h
has_key (fork p a b) i k (inr h) = has_key b i.1 k h

-- Of two keys the one is before the other, or they are equal.
pub compared : (k l : Key) → IsKey k → IsKey l → (k ≡ l) ⊎ (IsBefore k l ⊎ IsBefore l k)
unfolding bit
compared k l a b = elim (same_key k l) [ yes e ↦ inl e | no n ↦ inr (apart (first_difference k l a b n)) ]
  where
    apart : (p : ℕ) × IsFirstDifference k l p → IsBefore k l ⊎ IsBefore l k
    apart (p, d) = go (bit_of k p) (bit_of l p) refl refl
      where
        go : (x y : Bool) → bit_of k p ≡ x → bit_of l p ≡ y → IsBefore k l ⊎ IsBefore l k
        go false false e f = absurd (d.differ (e ∙ sym f))
        go true true e f = absurd (d.differ (e ∙ sym f))
        go false true e f = inl (p, (d.agree, e, f))
        go true false e f = inr (p, ((λ q h. sym (d.agree q h)), f, e))

pub at_most_le : (k l : Key) → IsKey k → IsKey l → IsAtMost k l → is_le (order k l) ≡ true
at_most_le k l a b (inl e) = rw e (rw (tied_itself nat_list_cmp_total l) refl)
at_most_le k l a b (inr h) = rw (before_less k l a b h) refl

pub at_most_not_lt : (k l : Key) → IsKey k → IsKey l → IsAtMost k l → is_lt (order l k) ≡ false
at_most_not_lt k l a b (inl e) = rw e (rw (tied_itself nat_list_cmp_total l) refl)
at_most_not_lt k l a b (inr h) = rw (before_greater k l a b h) refl

pub le_at_most : (k l : Key) → IsKey k → IsKey l → is_le (order k l) ≡ true → IsAtMost k l
le_at_most k l a b h = elim (compared k l a b) [
  | inl e ↦ inl e
  | inr y ↦ elim y [ inl z ↦ inr z | inr z ↦ absurd (false≢true (let r : is_le (order k l) ≡ true = h in rw (before_greater l k b a z) at r)) ]
]

pub not_lt_at_most : (k l : Key) → IsKey k → IsKey l → is_lt (order l k) ≡ false → IsAtMost k l
not_lt_at_most k l a b h = elim (compared k l a b) [
  | inl e ↦ inl e
  | inr y ↦ elim y [ inl z ↦ inr z | inr z ↦ absurd (false≢true (sym (let r : is_lt (order l k) ≡ false = h in rw (before_less l k b a z) at r))) ]
]

-- A map holds a key.
abbrev pub HoldsKey : Key → List (Key × ℕ) → Type 0
HoldsKey k m = (v : ℕ) × (lookup (is_at (order k)) m ≡ Some v)

cons_held : (b : Bool) (a : ℕ) (o : Option ℕ) → (v : ℕ) × (o ≡ Some v) → (v : ℕ) × (cond b (Some a) o ≡ Some v)
cons_held true a o h = (a, refl)
cons_held false a o h = h

head_or : (b : Bool) (a v : ℕ) (o : Option ℕ) → cond b (Some a) o ≡ Some v → (b ≡ true) ⊎ ((v : ℕ) × (o ≡ Some v))
head_or true a v o h = inl refl
head_or false a v o h = inr (v, h)

same_at : (k l : Key) → is_at (order k) l ≡ true → k ≡ l
same_at k l h = exact_bytes k l (go (order k l) h)
  where
    go : (o : Ordering) → is_at (λ _. o) l ≡ true → o ≡ Equal
    go Equal h = refl
    go Less h = absurd (false≢true h)
    go Greater h = absurd (false≢true h)

-- A held key is held after another key, or itself, got a value.
pub held_inserted : (k l : Key) (w : ℕ) (m : List (Key × ℕ)) → HoldsKey k m → HoldsKey k (insert_entry order m l w)
held_inserted k l w [] (v, e) = absurd (let z : None ≡ Some v = e in cc)
held_inserted k l w (x ∷ xs) (v, e) = go (order l x.0) (head_or (is_at (order k) x.0) x.1 v (lookup (is_at (order k)) xs) e) (held_inserted k l w xs)
  where
    go : (o : Ordering) → (is_at (order k) x.0 ≡ true) ⊎ HoldsKey k xs → (HoldsKey k xs → HoldsKey k (insert_entry order xs l w)) →
        HoldsKey k (match_ordering o ((l, w) ∷ x ∷ xs) ((x.0, w) ∷ xs) (x ∷ insert_entry order xs l w))
    go Less h f = cons_held (is_at (order k) l) w _ (v, e)
    go Equal (inl h) f = (w, rw h refl)
    go Equal (inr h) f = cons_held (is_at (order k) x.0) w _ h
    go Greater (inl h) f = (x.1, rw h refl)
    go Greater (inr h) f = cons_held (is_at (order k) x.0) x.1 _ (f h)

-- And after another key was taken away.
pub held_removed : (k l : Key) (m : List (Key × ℕ)) → l ≢ k → HoldsKey k m → HoldsKey k (remove_entry (is_at (order l)) m)
held_removed k l [] n h = h
held_removed k l (x ∷ xs) n (v, e) =
    go (is_at (order l) x.0) refl (head_or (is_at (order k) x.0) x.1 v (lookup (is_at (order k)) xs) e) (held_removed k l xs n)
  where
    go : (b : Bool) → is_at (order l) x.0 ≡ b → (is_at (order k) x.0 ≡ true) ⊎ HoldsKey k xs → (HoldsKey k xs → HoldsKey k (remove_entry (is_at (order l)) xs)) →
        HoldsKey k (cond b xs (x ∷ remove_entry (is_at (order l)) xs))
    go true q (inl h) f = absurd (n (same_at l x.0 q ∙ sym (same_at k x.0 h)))
    go true q (inr h) f = h
    go false q (inl h) f = (x.1, rw h refl)
    go false q (inr h) f = cons_held (is_at (order k) x.0) x.1 _ (f h)
