-- The content of a bit trie as a finite map: a list of pairs in the byte order of the keys.
use Rattle.tries.proofs.Common.{◌≡◌, inl, inr, ℕ, List, [], ◌∷◌, refl, ap, sym, ◌∙◌, subst, Some, None, false≢true, tied_itself, exact_bytes, slice_cmp, nat_list_cmp_total, nat_cmp, Ordering, Less, Equal, Greater, keys_of, lookup, remove_entry, insert_entry, is_at, IsKey, less_by_first, greater_by_first}
use Rattle.std.specs.List.{AllByRecursion}
use Rattle.std.specs.List.Sorted.{IsStrictlySortedBy}
use Rattle.tries.specs.Keys.{Key, bit, IsBefore}
use Rattle.tries.specs.Tree.{Tree, leaf, node, fork, Holds, IsTrie}
use Rattle.tries.specs.Content.{Item, items, pairs, Each, IsIn, IsMore, added, behind, IsExchange, exchanged, past_one}
use Rattle.tries.proofs.Content.{each_append, each_in, content_rises, in_if_holds, holds_if_in, more_here, IsRising}
use Rattle.tries.specs.Statements.{ContentRises, AddingInserts, ExchangeReplaces, TakingRemoves}

abbrev order : Key → Key → Ordering
order = slice_cmp nat_cmp

-- Bit order is byte order.
pub before_less : (k l : Key) → IsKey k → IsKey l → IsBefore k l → order k l ≡ Less
unfolding bit
before_less k l a b (p, x) =
    (less_by_first k l a b p (record { differ = λ e. false≢true (sym x.1 ∙ e ∙ x.2); agree = x.0 })).1 x.1

pub before_greater : (k l : Key) → IsKey k → IsKey l → IsBefore k l → order l k ≡ Greater
unfolding bit
before_greater k l a b (p, x) =
    (greater_by_first l k b a p (record { differ = λ e. false≢true (sym x.1 ∙ sym e ∙ x.2); agree = λ q h. sym (x.0 q h) })).1 x.2

pub same_order : (k : Key) → order k k ≡ Equal
same_order k = tied_itself nat_list_cmp_total k

-- Each item has a key.
abbrev pub AreKeys : List Item → Type 0
AreKeys xs = Each (λ x. IsKey x.key) xs

pub are_keys : (t : Tree) → IsTrie t → AreKeys (items t)
are_keys (leaf n k v) i = (i, tt)
are_keys (node n h b) i = are_keys b i
are_keys (fork p a b) i = each_append (λ x. IsKey x.key) (items a) (items b) (are_keys a i.0) (are_keys b i.1)

below_all : (k : Key) (xs : List Item) → IsKey k → AreKeys xs → Each (λ y. IsBefore k y.key) xs → AllByRecursion (λ l. order k l ≡ Less) (keys_of (pairs xs))
below_all k [] a b e = tt
below_all k (x ∷ xs) a b e = (before_less k x.key a b.0 e.0, below_all k xs a b.1 e.1)

-- The keys rise in byte order.
pub pairs_rise : (xs : List Item) → IsRising xs → AreKeys xs → IsStrictlySortedBy order (keys_of (pairs xs))
unfolding IsStrictlySortedBy
pairs_rise [] r a = tt
pairs_rise (x ∷ xs) r a = (below_all x.key xs a.0 a.1 r.0, pairs_rise xs r.1 a.1)

-- A key that is before all items is looked up in vain.
lookup_below : (k : Key) (xs : List Item) → IsKey k → AreKeys xs → Each (λ y. IsBefore k y.key) xs → lookup (is_at (order k)) (pairs xs) ≡ None
lookup_below k [] a b e = refl
lookup_below k (x ∷ xs) a b e = rw (before_less k x.key a b.0 e.0) (lookup_below k xs a b.1 e.1)

-- The item that comes behind another one is after it.
after : (x y : Item) (ys : List Item) → IsIn x ys → Each (λ z. IsBefore y.key z.key) ys → IsKey y.key → AreKeys ys → order x.key y.key ≡ Greater
after x y ys i e a b = before_greater y.key x.key a (each_in (λ z. IsKey z.key) ys x b i) (each_in (λ z. IsBefore y.key z.key) ys x e i)

-- One item more is the map with that key.
pub more_inserts : (x : Item) (xs ys : List Item) → IsMore x xs ys → IsRising ys → AreKeys ys → insert_entry order (pairs xs) x.key x.value ≡ pairs ys
more_inserts x [] ys added r a = refl
more_inserts x (y ∷ xs) ys added r a = rw (before_less x.key y.key a.0 a.1.0 r.0.0) refl
more_inserts x xs ys (behind {y = y} {xs = us} {ys = vs} m) r a =
    rw (after x y vs (more_here x us vs m) r.0 a.0 a.1) (ap (λ z. (y.key, y.value) ∷ z) (more_inserts x us vs m r.1 a.1))

-- The key was absent.
pub more_was_absent : (x : Item) (xs ys : List Item) → IsMore x xs ys → IsRising ys → AreKeys ys → lookup (is_at (order x.key)) (pairs xs) ≡ None
more_was_absent x xs ys added r a = lookup_below x.key xs a.0 a.1 r.0
more_was_absent x xs ys (behind {y = y} {xs = us} {ys = vs} m) r a =
    rw (after x y vs (more_here x us vs m) r.0 a.0 a.1) (more_was_absent x us vs m r.1 a.1)

-- Its key taken away from the map with one item more, the others are left.
pub more_removes : (x : Item) (xs ys : List Item) → IsMore x xs ys → IsRising ys → AreKeys ys → remove_entry (is_at (order x.key)) (pairs ys) ≡ pairs xs
more_removes x xs ys added r a = rw (same_order x.key) refl
more_removes x xs ys (behind {y = y} {xs = us} {ys = vs} m) r a =
    rw (after x y vs (more_here x us vs m) r.0 a.0 a.1) (ap (λ z. (y.key, y.value) ∷ z) (more_removes x us vs m r.1 a.1))

-- A map has each of its items.
pub lookup_in : (x : Item) (xs : List Item) → IsIn x xs → IsRising xs → AreKeys xs → lookup (is_at (order x.key)) (pairs xs) ≡ Some x.value
lookup_in x (y ∷ ys) (inl e) r a = rw e (rw (same_order y.key) refl)
lookup_in x (y ∷ ys) (inr i) r a = rw (after x y ys i r.0 a.0 a.1) (lookup_in x ys i r.1 a.1)
lookup_in x [] i r a = absurd i

pub more_was_held : (x : Item) (xs ys : List Item) → IsMore x xs ys → IsRising ys → AreKeys ys → lookup (is_at (order x.key)) (pairs ys) ≡ Some x.value
more_was_held x xs ys m = lookup_in x ys (more_here x xs ys m)

exchange_here : (x y : Item) (xs ys : List Item) → IsExchange y x xs ys → IsIn y xs
exchange_here x y xs ys exchanged = inl refl
exchange_here x y xs ys (past_one {xs = us} {ys = vs} m) = inr (exchange_here x y us vs m)

-- One item for another of the same key is the map with another value there.
pub exchange_inserts : (y x : Item) (xs ys : List Item) → IsExchange y x xs ys → y.key ≡ x.key → IsRising xs → AreKeys xs → insert_entry order (pairs xs) x.key x.value ≡ pairs ys
exchange_inserts y x xs ys (exchanged {xs = us}) e r a = rw (e, same_order x.key) refl
exchange_inserts y x xs ys (past_one {z = z} {xs = us} {ys = vs} m) e r a =
    rw (subst (λ k. order k z.key ≡ Greater) e (after y z us (exchange_here x y us vs m) r.0 a.0 a.1))
    (ap (λ w. (z.key, z.value) ∷ w) (exchange_inserts y x us vs m e r.1 a.1))

pub exchange_was_held : (y x : Item) (xs ys : List Item) → IsExchange y x xs ys → y.key ≡ x.key → IsRising xs → AreKeys xs → lookup (is_at (order x.key)) (pairs xs) ≡ Some y.value
exchange_was_held y x xs ys m e r a = subst (λ k. lookup (is_at (order k)) (pairs xs) ≡ Some y.value) e (lookup_in y xs (exchange_here x y xs ys m) r a)

-- What a bit trie holds is what its pairs have.
pub holds_value : (t : Tree) → IsTrie t → (k : Key) (v : ℕ) → Holds t k v → lookup (is_at (order k)) (pairs (items t)) ≡ Some v
holds_value t i k v h =
    let x = in_if_holds t k v h in
    subst (λ l. lookup (is_at (order l)) (pairs (items t)) ≡ Some v) x.2 (lookup_in x.0 (items t) x.1 (content_rises t i) (are_keys t i) ∙ ap Some x.3)

some_value : {a b : ℕ} → Some a ≡ Some b → a ≡ b
some_value e = cc

in_if_lookup : (xs : List Item) (k : Key) (v : ℕ) → lookup (is_at (order k)) (pairs xs) ≡ Some v → (x : Item) × IsIn x xs × (x.key ≡ k) × (x.value ≡ v)
in_if_lookup [] k v e = absurd (let z : None ≡ Some v = e in cc)
in_if_lookup (x ∷ xs) k v e = go (order k x.key) refl (in_if_lookup xs k v)
  where
    go : (o : Ordering) → order k x.key ≡ o → (lookup (is_at (order k)) (pairs xs) ≡ Some v → (y : Item) × IsIn y xs × (y.key ≡ k) × (y.value ≡ v)) →
        (y : Item) × IsIn y (x ∷ xs) × (y.key ≡ k) × (y.value ≡ v)
    go Equal h f = (x, inl refl, sym (exact_bytes k x.key h), some_value (rw h at e))
    go Less h f = let y = f (rw h at e) in (y.0, inr y.1, y.2, y.3)
    go Greater h f = let y = f (rw h at e) in (y.0, inr y.1, y.2, y.3)

pub value_holds : (t : Tree) (k : Key) (v : ℕ) → lookup (is_at (order k)) (pairs (items t)) ≡ Some v → Holds t k v
value_holds t k v e =
    let x = in_if_lookup (items t) k v e in
    subst (λ z. Holds t z v) x.2 (subst (λ z. Holds t x.0.key z) x.3 (holds_if_in t x.0 x.1))

-- The laws of bit tries on maps.
pub trie_rises : ContentRises
trie_rises t i = pairs_rise (items t) (content_rises t i) (are_keys t i)

pub adding_inserts : AddingInserts
adding_inserts s t x i m =
    (more_was_absent x (items s) (items t) m (content_rises t i) (are_keys t i), more_inserts x (items s) (items t) m (content_rises t i) (are_keys t i))

pub exchange_replaces : ExchangeReplaces
exchange_replaces s t y x i m e =
    (exchange_was_held y x (items s) (items t) m e (content_rises s i) (are_keys s i), exchange_inserts y x (items s) (items t) m e (content_rises s i) (are_keys s i))

pub taking_removes : TakingRemoves
taking_removes s t x i m =
    (more_was_held x (items t) (items s) m (content_rises s i) (are_keys s i), more_removes x (items t) (items s) m (content_rises s i) (are_keys s i))
