-- What a tree holds is a finite map in strict order; a change at one place.
pub mod Maps
use Rattle.tries.proofs.Common.{◌≡◌, ◌⊎◌, inl, inr, ℕ, suc, List, [], ◌∷◌, ◌++◌, Bool, true, false, refl, ap, sym, ◌∙◌, subst, arith, lt_trans, if◌then◌else◌, false≢true}
use Rattle.tries.specs.Keys.{Key, bit, AgreeBelow, IsParted, IsBefore}
use Rattle.tries.specs.Tree.{Tree, leaf, node, fork, Has, Holds, IsTrie, Within, here, inside, zero_side, one_side}
use Rattle.tries.specs.Content.{Item, items, Each, IsIn, IsMore, added, behind, IsExchange, exchanged, past_one, IsAbove, first, IsLocal}
use Rattle.tries.proofs.Changes.{put, IsPathBelow}
use Rattle.tries.proofs.Tree.{rises, has_first}
use Rattle.tries.specs.Statements.{LocalIsTrie}
use Rattle.tries.specs.Search.{child, found}

-- The keys rise strictly.
abbrev pub IsRising : List Item → Type 0
IsRising [] = Unit {0}
IsRising (x ∷ xs) = Each (λ y. IsBefore x.key y.key) xs × IsRising xs

pub each_append : (P : Item → Type 0) (xs ys : List Item) → Each P xs → Each P ys → Each P (xs ++ ys)
each_append P [] ys e f = f
each_append P (x ∷ xs) ys e f = (e.0, each_append P xs ys e.1 f)

each_map : (P Q : Item → Type 0) (xs : List Item) → ((x : Item) → P x → Q x) → Each P xs → Each Q xs
each_map P Q [] f e = tt
each_map P Q (x ∷ xs) f e = (f x e.0, each_map P Q xs f e.1)

rising_append : (xs ys : List Item) → IsRising xs → IsRising ys → Each (λ x. Each (λ y. IsBefore x.key y.key) ys) xs → IsRising (xs ++ ys)
rising_append [] ys r s e = s
rising_append (x ∷ xs) ys r s e = (each_append (λ y. IsBefore x.key y.key) xs ys r.0 e.0, rising_append xs ys r.1 s e.1)

-- Each item's key is in the tree.
each_has : (t : Tree) → Each (λ x. Has t x.key) (items t)
each_has (leaf n k v) = (refl, tt)
each_has (node n h b) = each_has b
each_has (fork p a b) =
    each_append (λ x. Has a x.key ⊎ Has b x.key) (items a) (items b)
    (each_map (λ x. Has a x.key) (λ x. Has a x.key ⊎ Has b x.key) (items a) (λ x h. inl h) (each_has a))
    (each_map (λ x. Has b x.key) (λ x. Has a x.key ⊎ Has b x.key) (items b) (λ x h. inr h) (each_has b))

-- The content of a bit trie is in strict order.
pub content_rises : (t : Tree) → IsTrie t → IsRising (items t)
content_rises (leaf n k v) i = (tt, tt)
content_rises (node n h b) i = content_rises b i
content_rises (fork p a b) i =
    rising_append (items a) (items b) (content_rises a i.0) (content_rises b i.1)
    (each_map (λ x. Has a x.key) (λ x. Each (λ y. IsBefore x.key y.key) (items b)) (items a)
    (λ x h. each_map (λ y. Has b y.key) (λ y. IsBefore x.key y.key) (items b)
    (λ y g. (p, (i.2 x.key y.key (inl h) (inr g), i.3 x.key h, i.4 y.key g))) (each_has b))
    (each_has a))

-- No key is before itself, so the keys are distinct.
pub before_irrefl : (k : Key) → IsBefore k k → ⊥
before_irrefl k (p, x) = false≢true (sym x.1 ∙ x.2)

pub holds_has : (t : Tree) (k : Key) (v : ℕ) → Holds t k v → Has t k
holds_has (leaf n l w) k v h = h.0
holds_has (node n g b) k v h = holds_has b k v h
holds_has (fork p a b) k v (inl h) = inl (holds_has a k v h)
holds_has (fork p a b) k v (inr h) = inr (holds_has b k v h)

pub more_left : (x : Item) (xs ys zs : List Item) → IsMore x xs ys → IsMore x (xs ++ zs) (ys ++ zs)
more_left x xs ys zs added = added
more_left x xs ys zs (behind {xs = us} {ys = vs} m) = behind (more_left x us vs zs m)

pub more_right : (x : Item) (xs ys zs : List Item) → IsMore x xs ys → IsMore x (zs ++ xs) (zs ++ ys)
more_right x xs ys [] m = m
more_right x xs ys (z ∷ zs) m = behind (more_right x xs ys zs m)

exchange_left : (x y : Item) (xs ys zs : List Item) → IsExchange x y xs ys → IsExchange x y (xs ++ zs) (ys ++ zs)
exchange_left x y xs ys zs exchanged = exchanged
exchange_left x y xs ys zs (past_one {xs = us} {ys = vs} m) = past_one (exchange_left x y us vs zs m)

exchange_right : (x y : Item) (xs ys zs : List Item) → IsExchange x y xs ys → IsExchange x y (zs ++ xs) (zs ++ ys)
exchange_right x y xs ys [] m = m
exchange_right x y xs ys (z ∷ zs) m = past_one (exchange_right x y xs ys zs m)

-- One leaf more at one place is one leaf more in the whole tree.
pub put_more : {s t : Tree} (w : Within s t) (r : Tree) (x : Item) → IsMore x (items s) (items r) → IsMore x (items t) (items (put w r))
put_more here r x m = m
put_more (inside w) r x m = put_more w r x m
put_more (zero_side {a = a} {b = b} w) r x m = more_left x (items a) (items (put w r)) (items b) (put_more w r x m)
put_more (one_side {a = a} {b = b} w) r x m = more_right x (items b) (items (put w r)) (items a) (put_more w r x m)

pub put_exchange : {s t : Tree} (w : Within s t) (r : Tree) (x y : Item) → IsExchange x y (items s) (items r) → IsExchange x y (items t) (items (put w r))
put_exchange here r x y m = m
put_exchange (inside w) r x y m = put_exchange w r x y m
put_exchange (zero_side {a = a} {b = b} w) r x y m = exchange_left x y (items a) (items (put w r)) (items b) (put_exchange w r x y m)
put_exchange (one_side {a = a} {b = b} w) r x y m = exchange_right x y (items b) (items (put w r)) (items a) (put_exchange w r x y m)

-- The keys of a tree after a change at one place.
pub put_has : {s t : Tree} (w : Within s t) (r : Tree) (k : Key) → ((x : Key) → Has r x → (x ≡ k) ⊎ Has s x) → (x : Key) → Has (put w r) x → (x ≡ k) ⊎ Has t x
put_has here r k f x h = f x h
put_has (inside w) r k f x h = put_has w r k f x h
put_has (zero_side w) r k f x (inl h) = elim (put_has w r k f x h) [ inl e ↦ inl e | inr e ↦ inr (inl e) ]
put_has (zero_side w) r k f x (inr h) = inr (inr h)
put_has (one_side w) r k f x (inr h) = elim (put_has w r k f x h) [ inl e ↦ inl e | inr e ↦ inr (inr e) ]
put_has (one_side w) r k f x (inl h) = inr (inl h)

pub within_has : {s t : Tree} (w : Within s t) (k : Key) → Has s k → Has t k
within_has here k h = h
within_has (inside w) k h = within_has w k h
within_has (zero_side w) k h = inl (within_has w k h)
within_has (one_side w) k h = inr (within_has w k h)

-- A bit trie with another one in the place of a part, which shows at most the key `k` besides, is a bit trie where `k`
-- agrees with a key of the part up to the forks above it.
pub put_trie : {s t : Tree} (w : Within s t) (r : Tree) → IsTrie t → IsTrie r → (m : ℕ) (k l : Key) → Has s l → IsPathBelow m w →
    AgreeBelow m k l → ((x : Key) → Has r x → (x ≡ k) ⊎ Has s x) → IsTrie (put w r)
put_trie here r i j m k l h b g f = j
put_trie (inside w) r i j m k l h b g f = put_trie w r i j m k l h b g f
put_trie {s} (zero_side {p = p} {a = a} {b = c} w) r i j m k l h b g f =
    (put_trie w r i.0 j m k l h b.1 g f, i.1, λ x y hx hy q z. near x hx q z ∙ sym (near y hy q z), λ x hx. side x (put_has w r k f x hx), i.4)
  where
    of_old : (x : Key) → (x ≡ k) ⊎ Has a x → AgreeBelow p x l
    of_old x (inl e) q z = ap (λ y. bit y q) e ∙ g q (lt_trans z b.0)
    of_old x (inr y) q z = i.2 x l (inl y) (inl (within_has w l h)) q z

    near : (x : Key) → Has (put w r) x ⊎ Has c x → AgreeBelow p x l
    near x (inl y) = of_old x (put_has w r k f x y)
    near x (inr y) = i.2 x l (inr y) (inl (within_has w l h))

    side : (x : Key) → (x ≡ k) ⊎ Has a x → bit x p ≡ false
    side x (inl e) = ap (λ y. bit y p) e ∙ (g p b.0 ∙ i.3 l (within_has w l h))
    side x (inr y) = i.3 x y
put_trie {s} (one_side {p = p} {a = a} {b = c} w) r i j m k l h b g f =
    (i.0, put_trie w r i.1 j m k l h b.1 g f, λ x y hx hy q z. near x hx q z ∙ sym (near y hy q z), i.3, λ x hx. side x (put_has w r k f x hx))
  where
    of_old : (x : Key) → (x ≡ k) ⊎ Has c x → AgreeBelow p x l
    of_old x (inl e) q z = ap (λ y. bit y q) e ∙ g q (lt_trans z b.0)
    of_old x (inr y) q z = i.2 x l (inr y) (inr (within_has w l h)) q z

    near : (x : Key) → Has a x ⊎ Has (put w r) x → AgreeBelow p x l
    near x (inr y) = of_old x (put_has w r k f x y)
    near x (inl y) = i.2 x l (inl y) (inr (within_has w l h))

    side : (x : Key) → (x ≡ k) ⊎ Has c x → bit x p ≡ true
    side x (inl e) = ap (λ y. bit y p) e ∙ (g p b.0 ∙ i.4 l (within_has w l h))
    side x (inr y) = i.4 x y

-- All keys of a bit trie agree with its first key up to its first fork.
agree_above : (p : ℕ) (t : Tree) → IsTrie t → IsAbove p t → (k : Key) → Has t k → AgreeBelow (suc p) k (first t)
agree_above p (leaf n l v) i a k h = λ q z. ap (λ y. bit y q) h
agree_above p (node n g b) i a k h = agree_above p b i a k h
agree_above p (fork r x y) i a k h = λ q z. i.2 k (first x) h (inl (has_first x)) q (omega arith)

fork_trie : (p : ℕ) (a b : Tree) → IsTrie a → IsTrie b → IsAbove p a → IsAbove p b → IsParted p (first a) (first b) → IsTrie (fork p a b)
fork_trie p a b ta tb x y i = (
  ta,
  tb,
  λ k l hk hl q z. near k hk q z ∙ sym (near l hl q z),
  λ k h. agree_above p a ta x k h p (omega arith) ∙ i.1,
  λ k h. agree_above p b tb y k h p (omega arith) ∙ i.2,
)
  where
    near : (k : Key) → Has a k ⊎ Has b k → AgreeBelow p k (first a)
    near k (inl h) q z = agree_above p a ta x k h q (omega arith)
    near k (inr h) q z = agree_above p b tb y k h q (omega arith) ∙ sym (i.0 q z)

-- The quick form decides the other.
pub trie_if_local : (t : Tree) → IsLocal t → IsTrie t
trie_if_local (leaf n k v) i = i
trie_if_local (node n h b) i = trie_if_local b i
trie_if_local (fork p a b) i = fork_trie p a b (trie_if_local a i.0) (trie_if_local b i.1) i.2 i.3 i.4

above : (p : ℕ) (u : Bool) (t : Tree) → IsTrie t → ((k l : Key) → Has t k → Has t l → AgreeBelow p k l) → ((k : Key) → Has t k → bit k p ≡ u) → IsAbove p t
above p u (leaf n k v) i f g = tt
above p u (node n h b) i f g = above p u b i f g
above p u (fork q a b) i f g = rises {c = a} {d = b} u here i f g

pub local_if_trie : (t : Tree) → IsTrie t → IsLocal t
local_if_trie (leaf n k v) i = i
local_if_trie (node n h b) i = local_if_trie b i
local_if_trie (fork p a b) i = (
  local_if_trie a i.0,
  local_if_trie b i.1,
  above p false a i.0 (λ k l x y. i.2 k l (inl x) (inl y)) i.3,
  above p true b i.1 (λ k l x y. i.2 k l (inr x) (inr y)) i.4,
  (i.2 (first a) (first b) (inl (has_first a)) (inr (has_first b)), i.3 (first a) (has_first a), i.4 (first b) (has_first b)),
)

pub in_append_left : (x : Item) (xs ys : List Item) → IsIn x xs → IsIn x (xs ++ ys)
in_append_left x (y ∷ xs) ys (inl e) = inl e
in_append_left x (y ∷ xs) ys (inr h) = inr (in_append_left x xs ys h)
in_append_left x [] ys h = elim h [ ]

pub in_append_right : (x : Item) (xs ys : List Item) → IsIn x ys → IsIn x (xs ++ ys)
in_append_right x [] ys h = h
in_append_right x (y ∷ xs) ys h = inr (in_append_right x xs ys h)

in_append : (x : Item) (xs ys : List Item) → IsIn x (xs ++ ys) → IsIn x xs ⊎ IsIn x ys
in_append x [] ys h = inr h
in_append x (y ∷ xs) ys (inl e) = inl (inl e)
in_append x (y ∷ xs) ys (inr h) = elim (in_append x xs ys h) [ inl g ↦ inl (inr g) | inr g ↦ inr g ]

-- What a tree holds are its items' keys and values.
pub in_if_holds : (t : Tree) (k : Key) (v : ℕ) → Holds t k v → (x : Item) × IsIn x (items t) × (x.key ≡ k) × (x.value ≡ v)
in_if_holds (leaf n l w) k v h = (record { number = n; key = l; value = w }, inl refl, sym h.0, sym h.1)
in_if_holds (node n g b) k v h = in_if_holds b k v h
in_if_holds (fork p a b) k v (inl h) = let x = in_if_holds a k v h in (x.0, in_append_left x.0 (items a) (items b) x.1, x.2, x.3)
in_if_holds (fork p a b) k v (inr h) = let x = in_if_holds b k v h in (x.0, in_append_right x.0 (items a) (items b) x.1, x.2, x.3)

pub holds_if_in : (t : Tree) (x : Item) → IsIn x (items t) → Holds t x.key x.value
holds_if_in (leaf n l w) x (inl e) = (ap (λ (y : Item). y.key) e, ap (λ (y : Item). y.value) e)
holds_if_in (leaf n l w) x (inr e) = elim e [ ]
holds_if_in (node n g b) x h = holds_if_in b x h
holds_if_in (fork p a b) x h = elim (in_append x (items a) (items b) h) [ inl y ↦ inl (holds_if_in a x y) | inr y ↦ inr (holds_if_in b x y) ]

pub more_here : (x : Item) (xs ys : List Item) → IsMore x xs ys → IsIn x ys
more_here x xs ys added = inl refl
more_here x xs ys (behind {xs = us} {ys = vs} m) = inr (more_here x us vs m)

pub each_in : (P : Item → Type 0) (xs : List Item) (z : Item) → Each P xs → IsIn z xs → P z
each_in P (x ∷ xs) z e (inl h) = subst P (sym h) e.0
each_in P (x ∷ xs) z e (inr h) = each_in P xs z e.1 h
each_in P [] z e h = elim h [ ]

pub local_is_trie : LocalIsTrie
local_is_trie t = (trie_if_local t, local_if_trie t)

-- a search goes on where its entry is
pub found_child : (k : Key) (b : Tree) → found k (child k b) ≡ found k b
found_child k (leaf n l v) = refl
found_child k (node n x b) = refl
found_child k (fork p a b) =
    elim (bit k p) as (λ u. found k (if u then child k b else child k a) ≡ (if u then found k b else found k a)) [ true ↦ found_child k b | false ↦ found_child k a ]
