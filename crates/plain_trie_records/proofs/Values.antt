-- What a search tells of the map.
use Rattle.plain_trie_records.proofs.Common.{◌≡◌, ◌≢◌, inl, inr, ℕ, ◌++◌, true, false, if◌then◌else◌, refl, ap, sym, ◌∙◌, subst, Option, Some, None, value_at, Key, bit, Tree, leaf, node, fork, Has, IsTrie, items, pairs, IsIn, content_rises, in_append_left, in_append_right, holds_has, found}
use Rattle.tries.proofs.Content.Maps.{are_keys, lookup_in, value_holds}

-- a search ends at a leaf of the tree
pub found_in : (k : Key) (t : Tree) → IsIn (found k t) (items t)
found_in k (leaf n l v) = inl refl
found_in k (node n x b) = found_in k b
found_in k (fork p a b) =
    elim (bit k p) as (λ u. IsIn (if u then found k b else found k a) (items a ++ items b)) [
      | true ↦ in_append_right (found k b) (items a) (items b) (found_in k b)
      | false ↦ in_append_left (found k a) (items a) (items b) (found_in k a)
    ]

-- and at the key's own leaf, where the tree has the key
pub found_key : (k : Key) (t : Tree) → IsTrie t → Has t k → (found k t).key ≡ k
found_key k (leaf n l v) i h = sym h
found_key k (node n x b) i h = found_key k b i h
found_key k (fork p a b) i (inl h) = ap (λ u. (if u then found k b else found k a).key) (i.3 k h) ∙ found_key k a i.0 h
found_key k (fork p a b) i (inr h) = ap (λ u. (if u then found k b else found k a).key) (i.4 k h) ∙ found_key k b i.1 h

-- so the search decides what the map has for the key
pub value_found : (k : Key) (t : Tree) → IsTrie t → (found k t).key ≡ k → value_at (pairs (items t)) k ≡ Some (found k t).value
value_found k t i e =
    subst (λ l. value_at (pairs (items t)) l ≡ Some (found k t).value) e
    (lookup_in (found k t) (items t) (found_in k t) (content_rises t i) (are_keys t i))

pub value_missed : (k : Key) (t : Tree) → IsTrie t → (found k t).key ≢ k → value_at (pairs (items t)) k ≡ None
value_missed k t i ne = go (value_at (pairs (items t)) k) refl
  where
    go : (o : Option ℕ) → value_at (pairs (items t)) k ≡ o → o ≡ None
    go None e = refl
    go (Some v) e = absurd (ne (found_key k t i (holds_has t k v (value_holds t k v e))))
