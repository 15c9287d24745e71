-- The places of a subtrie; the bit trie without marks; one key more.
pub mod Spots
use Rattle.tries.proofs.Common.{IsKey, bit_of, ◌≡◌, ◌⊎◌, inl, inr, ℕ, ◌+◌, ◌-◌, ◌<◌, List, [], ◌∷◌, ◌++◌, Bool, true, false, refl, ap, ap₂, sym, ◌∙◌, subst, arith, if◌then◌else◌, ltb, cond-true, cond-false, lt-ltb, le-ltb, Place, Fork, size, leads_to}
use Rattle.tries.specs.Keys.{Key, bit, AgreeBelow}
use Rattle.tries.specs.Tree.{Subtrie, Tree, leaf, node, fork, Has, IsTrie}
use Rattle.tries.specs.Search.{seek}
use Rattle.tries.specs.Place.{spot, entry_at, shape}
use Rattle.tries.specs.Content.{Item, items, IsMore, added, behind}

-- The tree without the marks of its nodes: the bit trie alone.
abbrev pub without_marks : Tree → Tree
without_marks (leaf n k v) = leaf n k v
without_marks (node n x b) = without_marks b
without_marks (fork p a b) = fork p (without_marks a) (without_marks b)

pub spot_below : (k : Key) (x : Subtrie) → spot k x < size x
spot_below k (Place e) = omega arith
spot_below k (Fork p x y) =
    let l = spot_below k x in let r = spot_below k y in
    elim (bit k p) as (λ u. (if u then size x + spot k y else spot k x) < size x + size y) [ true ↦ omega arith | false ↦ omega arith ]

-- The search of pieces leads to that place.
pub leads_spot : (k : Key) (x : Subtrie) → leads_to (bit_of k) x ≡ spot k x
unfolding bit
leads_spot k (Place e) = refl
leads_spot k (Fork p x y) =
    elim (bit_of k p) as (λ u. (if u then size x + leads_to (bit_of k) y else leads_to (bit_of k) x) ≡ (if u then size x + spot k y else spot k x)) [
      | true ↦ ap (λ n. size x + n) (leads_spot k y)
      | false ↦ leads_spot k x
    ]

low_entry : (p : ℕ) (x y : Subtrie) (i : ℕ) → i < size x → entry_at (Fork p x y) i ≡ entry_at x i
low_entry p x y i h = cond-true (ltb i (size x)) _ _ (lt-ltb i (size x) h)

high_entry : (p : ℕ) (x y : Subtrie) (i j : ℕ) → i ≡ size x + j → entry_at (Fork p x y) i ≡ entry_at y j
high_entry p x y i j e =
    let d : i - size x ≡ j = omega arith in
    cond-false (ltb i (size x)) _ _ (le-ltb i (size x) (omega arith)) ∙ ap (entry_at y) d

-- A search takes the entry at the place to which the forks lead.
pub seek_spot : (k : Key) (x : Subtrie) → seek k x ≡ entry_at x (spot k x)
seek_spot k (Place e) = refl
seek_spot k (Fork p x y) =
    elim (bit k p) as (λ u. (if u then seek k y else seek k x) ≡ entry_at (Fork p x y) (if u then size x + spot k y else spot k x)) [
      | true ↦ seek_spot k y ∙ sym (high_entry p x y (size x + spot k y) (spot k y) refl)
      | false ↦ seek_spot k x ∙ sym (low_entry p x y (spot k x) (spot_below k x))
    ]

pub shape_tips : (x : Subtrie) → size (shape x) ≡ size x
shape_tips (Place e) = refl
shape_tips (Fork p x y) = ap₂ (λ a b. a + b) (shape_tips x) (shape_tips y)

pub spot_shape : (k : Key) (x : Subtrie) → spot k (shape x) ≡ spot k x
spot_shape k (Place e) = refl
spot_shape k (Fork p x y) =
    let f = spot_shape k x in let g = spot_shape k y in let t = shape_tips x in
    elim (bit k p) as (λ u. (if u then size (shape x) + spot k (shape y) else spot k (shape x)) ≡ (if u then size x + spot k y else spot k x)) [
      | true ↦ ap₂ (λ a b. a + b) t g
      | false ↦ f
    ]

-- The marks change neither keys nor order.
pub has_bare : (t : Tree) → Has (without_marks t) ≡ Has t
has_bare (leaf n k v) = refl
has_bare (node n x b) = has_bare b
has_bare (fork p a b) = ap₂ (λ (f g : Key → Type 0). λ l. f l ⊎ g l) (has_bare a) (has_bare b)

pub items_bare : (t : Tree) → items (without_marks t) ≡ items t
items_bare (leaf n k v) = refl
items_bare (node n x b) = items_bare b
items_bare (fork p a b) = ap₂ (λ x y. x ++ y) (items_bare a) (items_bare b)

pub trie_bare : (t : Tree) → IsTrie t → IsTrie (without_marks t)
trie_bare (leaf n k v) i = i
trie_bare (node n x b) i = trie_bare b i
trie_bare (fork p a b) i = (
  trie_bare a i.0,
  trie_bare b i.1,
  subst (λ (f : Key → Type 0). (k l : Key) → f k ⊎ Has (without_marks b) k → f l ⊎ Has (without_marks b) l → AgreeBelow p k l) (sym (has_bare a))
      (subst (λ (f : Key → Type 0). (k l : Key) → Has a k ⊎ f k → Has a l ⊎ f l → AgreeBelow p k l) (sym (has_bare b)) i.2),
  subst (λ (f : Key → Type 0). (k : Key) → f k → bit k p ≡ false) (sym (has_bare a)) i.3,
  subst (λ (f : Key → Type 0). (k : Key) → f k → bit k p ≡ true) (sym (has_bare b)) i.4,
)

pub bare_trie : (t : Tree) → IsTrie (without_marks t) → IsTrie t
bare_trie (leaf n k v) i = i
bare_trie (node n x b) i = bare_trie b i
bare_trie (fork p a b) i = (
  bare_trie a i.0,
  bare_trie b i.1,
  subst (λ (f : Key → Type 0). (k l : Key) → f k ⊎ Has b k → f l ⊎ Has b l → AgreeBelow p k l) (has_bare a)
      (subst (λ (f : Key → Type 0). (k l : Key) → Has (without_marks a) k ⊎ f k → Has (without_marks a) l ⊎ f l → AgreeBelow p k l) (has_bare b) i.2),
  subst (λ (f : Key → Type 0). (k : Key) → f k → bit k p ≡ false) (has_bare a) i.3,
  subst (λ (f : Key → Type 0). (k : Key) → f k → bit k p ≡ true) (has_bare b) i.4,
)

-- The part of a bit trie below one place, with a new leaf before it or after it, by the new key's bit.
abbrev pub grown : Bool → ℕ → Tree → Item → Tree
grown false p s x = fork p (leaf x.number x.key x.value) s
grown true p s x = fork p s (leaf x.number x.key x.value)

pub more_after : (x : Item) (xs : List Item) → IsMore x xs (xs ++ x ∷ [])
more_after x [] = added
more_after x (y ∷ xs) = behind (more_after x xs)

pub grown_more : (u : Bool) (p : ℕ) (s : Tree) (x : Item) → IsMore x (items s) (items (grown u p s x))
grown_more false p s x = added
grown_more true p s x = more_after x (items s)

-- It is a bit trie, where the new key leaves all keys of the part at `p` first.
pub grown_trie : (u : Bool) (p : ℕ) (s : Tree) (x : Item) → IsTrie s → IsKey x.key → bit x.key p ≡ u →
    ((k : Key) → Has s k → AgreeBelow p x.key k × (bit k p ≡ (if u then false else true))) → IsTrie (grown u p s x)
grown_trie false p s x i g b f = (g, i, same, λ k h. ap (λ z. bit z p) h ∙ b, λ k h. (f k h).1)
  where
    to : (k : Key) → (k ≡ x.key) ⊎ Has s k → AgreeBelow p x.key k
    to k (inl e) q z = ap (λ y. bit y q) (sym e)
    to k (inr h) q z = (f k h).0 q z

    same : (k l : Key) → (k ≡ x.key) ⊎ Has s k → (l ≡ x.key) ⊎ Has s l → AgreeBelow p k l
    same k l h g q z = sym (to k h q z) ∙ to l g q z
grown_trie true p s x i g b f = (i, g, same, λ k h. (f k h).1, λ k h. ap (λ z. bit z p) h ∙ b)
  where
    to : (k : Key) → Has s k ⊎ (k ≡ x.key) → AgreeBelow p x.key k
    to k (inr e) q z = ap (λ y. bit y q) (sym e)
    to k (inl h) q z = (f k h).0 q z

    same : (k l : Key) → Has s k ⊎ (k ≡ x.key) → Has s l ⊎ (l ≡ x.key) → AgreeBelow p k l
    same k l h g q z = sym (to k h q z) ∙ to l g q z
