-- How many records of a lawful core stand in the tree: a leaf record for each key, and fewer node records.
use Rattle.index_laws.proofs.Common.{◌≡◌, ◌≢◌, inl, inr, ⊎_elim, ℕ, zero, suc, ◌+◌, ◌-◌, ◌<◌, ◌≤◌, List, [], ◌∷◌, ◌++◌, Bool, true, false, cond, nat_eq, length, Option, Some, None, refl, sym, ap, ◌∙◌, arith, le_refl, length-append, take_all, sum_by, count_by, range_with_len, cases_eq, eq-eqb, ne_eqb, length-filter, sum_by-append, sum_by-cons, map_of, Rec, a_node, a_leaf, Item, items, pairs, Tree, leaf, node, fork, Free, InTree, IsLinked, Links, same_rec, content, items_of, IsOneOf, Core, HasRecord, IsLawful, records_in, records_of, is_in_tree, linked_now, listed_once, once}
use Rattle.tries.specs.Counts.{node_numbers}
use Rattle.tries.proofs.Counts.{nodes_are_fewer}
use Rattle.versions.proofs.Trades.{of_append}

-- ---- numbers, counted by how often each stands in a list
abbrev pub one_if : Bool → ℕ
one_if b = cond b 1 0

-- how often the number stands there
abbrev times : ℕ → List ℕ → ℕ
times i xs = count_by (λ x. nat_eq i x) xs

none_below : (a n m : ℕ) → m < a → count_by (λ i. nat_eq i m) (range_with_len a n) ≡ 0
none_below a zero m low = refl
none_below a (suc n) m low =
    let first : one_if (nat_eq a m) ≡ 0 = ap one_if (ne_eqb a m (λ e. omega (arith, e, low))) in
    let all = sum_by-cons (λ i. cond (nat_eq i m) 1 0) a (range_with_len (a + 1) n) in
    omega (arith, first, all, none_below (a + 1) n m (omega (arith, low)))

one_there : (a n m : ℕ) → a ≤ m → m < a + n → count_by (λ i. nat_eq i m) (range_with_len a n) ≡ 1
one_there a zero m low high = absurd (omega (arith, low, high))
one_there a (suc n) m low high =
    let all = sum_by-cons (λ i. cond (nat_eq i m) 1 0) a (range_with_len (a + 1) n) in
    ⊎_elim
    (λ (e : a ≡ m).
    let first : one_if (nat_eq a m) ≡ 1 = ap one_if (eq-eqb a m e) in omega (arith, first, all, none_below (a + 1) n m (omega (arith, e))))
    (λ (ne : a ≢ m).
    let first : one_if (nat_eq a m) ≡ 0 = ap one_if (ne_eqb a m ne) in
    omega (arith, first, all, one_there (a + 1) n m (omega (arith, low, ne)) (omega (arith, high))))
    (cases_eq a m)

no_times : (rs : List ℕ) → sum_by (λ i. times i []) rs ≡ 0
no_times [] = refl
no_times (r ∷ rs) = let all = sum_by-cons (λ i. times i []) r rs in omega (arith, all, no_times rs)

more_times : (x : ℕ) (xs rs : List ℕ) → sum_by (λ i. times i (x ∷ xs)) rs ≡ count_by (λ i. nat_eq i x) rs + sum_by (λ i. times i xs) rs
more_times x xs [] = refl
more_times x xs (r ∷ rs) =
    let all = sum_by-cons (λ i. times i (x ∷ xs)) r rs in
    let here = sum_by-cons (λ y. cond (nat_eq r y) 1 0) x xs in
    let one = sum_by-cons (λ i. cond (nat_eq i x) 1 0) r rs in
    let rest = sum_by-cons (λ i. times i xs) r rs in
    omega (arith, all, here, one, rest, more_times x xs rs)

-- numbers below n
all_times : (xs : List ℕ) (n : ℕ) → ((x : ℕ) → IsOneOf x xs → x < n) → sum_by (λ i. times i xs) (range_with_len 0 n) ≡ length xs
all_times [] n low = no_times (range_with_len 0 n)
all_times (x ∷ xs) n low =
    let high = low x (inl refl) in
    omega (arith, more_times x xs (range_with_len 0 n), one_there 0 n x (omega arith) (omega (arith, high)), all_times xs n (λ y h. low y (inr h)))

-- ---- the records of a tree
abbrev leaf_numbers : Tree → List ℕ
leaf_numbers (leaf n k v) = n ∷ []
leaf_numbers (node n x b) = leaf_numbers b
leaf_numbers (fork p a b) = leaf_numbers a ++ leaf_numbers b

as_many_leaves : (t : Tree) → length (leaf_numbers t) ≡ length (items t)
as_many_leaves (leaf n k v) = refl
as_many_leaves (node n x b) = as_many_leaves b
as_many_leaves (fork p a b) =
    omega (arith, as_many_leaves a, as_many_leaves b, length-append (leaf_numbers a) (leaf_numbers b), length-append (items a) (items b))

leaf_linked : (t : Tree) (n : ℕ) → IsOneOf n (leaf_numbers t) → Links t (a_leaf n)
leaf_linked (leaf m k v) n (inl e) = ap a_leaf e
leaf_linked (leaf m k v) n (inr h) = absurd h
leaf_linked (node m x b) n h = inr (leaf_linked b n h)
leaf_linked (fork p a b) n h = elim (of_append n (leaf_numbers a) (leaf_numbers b) h) [ inl i ↦ inl (leaf_linked a n i) | inr i ↦ inr (leaf_linked b n i) ]

node_linked : (t : Tree) (n : ℕ) → IsOneOf n (node_numbers t) → Links t (a_node n)
node_linked (leaf m k v) n h = absurd h
node_linked (node m x b) n (inl e) = inl (ap a_node e)
node_linked (node m x b) n (inr h) = inr (node_linked b n h)
node_linked (fork p a b) n h = elim (of_append n (node_numbers a) (node_numbers b) h) [ inl i ↦ inl (node_linked a n i) | inr i ↦ inr (node_linked b n i) ]

-- A record is among them as often as its number is among those of its kind.
leaf_times : (t : Tree) (i : ℕ) → count_by (same_rec (a_leaf i)) (records_of t) ≡ times i (leaf_numbers t)
leaf_times (leaf n k v) i = refl
leaf_times (node n x b) i =
    let all = sum_by-cons (λ r. cond (same_rec (a_leaf i) r) 1 0) (a_node n) (records_of b) in omega (arith, all, leaf_times b i)
leaf_times (fork p a b) i =
    let all = sum_by-append (λ r. cond (same_rec (a_leaf i) r) 1 0) (records_of a) (records_of b) in
    let numbers = sum_by-append (λ x. cond (nat_eq i x) 1 0) (leaf_numbers a) (leaf_numbers b) in
    omega (arith, all, numbers, leaf_times a i, leaf_times b i)

node_times : (t : Tree) (i : ℕ) → count_by (same_rec (a_node i)) (records_of t) ≡ times i (node_numbers t)
node_times (leaf n k v) i = refl
node_times (node n x b) i =
    let all = sum_by-cons (λ r. cond (same_rec (a_node i) r) 1 0) (a_node n) (records_of b) in
    let numbers = sum_by-cons (λ y. cond (nat_eq i y) 1 0) n (node_numbers b) in
    omega (arith, all, numbers, node_times b i)
node_times (fork p a b) i =
    let all = sum_by-append (λ r. cond (same_rec (a_node i) r) 1 0) (records_of a) (records_of b) in
    let numbers = sum_by-append (λ x. cond (nat_eq i x) 1 0) (node_numbers a) (node_numbers b) in
    omega (arith, all, numbers, node_times a i, node_times b i)

-- ---- the records of a core's tree
as_many_pairs : (xs : List Item) → length (pairs xs) ≡ length xs
as_many_pairs [] = refl
as_many_pairs (x ∷ xs) = ap suc (as_many_pairs xs)

-- the numbers of its records of one kind, where `of` lists those of a tree
abbrev numbers_in : (Tree → List ℕ) → Option Tree → List ℕ
numbers_in of None = []
numbers_in of (Some t) = of t

module _ (c : Core) (law : IsLawful c) where
  abbrev now : Option Tree
  now = c.past.version c.past.now

  as_many_keys : length (map_of c.changes) ≡ length (items_of now)
  as_many_keys =
      let is : content now ≡ map_of c.changes =
      law.core.told.content_is c.past.now (le_refl c.past.now) ∙ ap map_of (take_all c.past.now c.changes (let e = law.core.told.count in omega (arith, e))) in
      ap length (sym is) ∙ as_many_pairs (items_of now)

  once_is : (r : Rec) (b : Bool) → length (once r b) ≡ cond b 1 0
  once_is r true = refl
  once_is r false = refl

  -- a record in the tree is listed once, and another never
  listed : (r : Rec) → count_by (same_rec r) (records_in now) ≡ cond (is_in_tree (c.fate r)) 1 0
  listed r = sym (length-filter (same_rec r) (records_in now)) ∙ (ap length (listed_once c law r) ∙ once_is r (is_in_tree (c.fate r)))

  used : (r : Rec) → IsLinked now r → HasRecord c.layout r
  used r h = let (since, is) = linked_now c law r h in ⊎_elim (λ (e : c.fate r ≡ Free). let z : Free ≡ InTree since = sym e ∙
      is in absurd cc) (λ has. has) (law.records.used r)

  module _ (kind : ℕ → Rec) (of : Tree → List ℕ) (count : ℕ) (same : (t : Tree) (i : ℕ) → count_by (same_rec (kind i)) (records_of t) ≡ times i (of t))
      (linked : (t : Tree) (n : ℕ) → IsOneOf n (of t) → Links t (kind n)) (low : (n : ℕ) → HasRecord c.layout (kind n) → n < count) where
    times_now : (t : Option Tree) (i : ℕ) → count_by (same_rec (kind i)) (records_in t) ≡ times i (numbers_in of t)
    times_now None i = refl
    times_now (Some t) i = same t i

    linked_in : (t : Option Tree) (n : ℕ) → IsOneOf n (numbers_in of t) → IsLinked t (kind n)
    linked_in None n h = absurd h
    linked_in (Some t) n h = linked t n h

    counted : count_by (λ i. is_in_tree (c.fate (kind i))) (range_with_len 0 count) ≡ length (numbers_in of now)
    counted =
        ap (λ (f : ℕ → ℕ). sum_by f (range_with_len 0 count)) (λ j i. (sym (listed (kind i)) ∙ times_now now i) j) ∙
        all_times (numbers_in of now) count (λ n h. low n (used (kind n) (linked_in now n h)))

  -- as many leaf records as keys
  pub leaves_in_tree : count_by (λ i. is_in_tree (c.fate (a_leaf i))) (range_with_len 0 c.layout.leaves) ≡ length (map_of c.changes)
  leaves_in_tree = counted a_leaf leaf_numbers c.layout.leaves leaf_times leaf_linked (λ n h. h) ∙ (all now ∙ sym as_many_keys)
    where
      all : (t : Option Tree) → length (numbers_in leaf_numbers t) ≡ length (items_of t)
      all None = refl
      all (Some t) = as_many_leaves t

  -- and fewer node records, if there is a key
  pub nodes_in_tree : count_by (λ i. is_in_tree (c.fate (a_node i))) (range_with_len 0 c.layout.nodes) ≤ length (map_of c.changes) - 1
  nodes_in_tree =
      let few = fewer now (λ t e. (law.core.state.trees c.past.now t (le_refl c.past.now) e).1) in
      omega (arith, counted a_node node_numbers c.layout.nodes node_times node_linked (λ n h. h), few, as_many_keys)
    where
      fewer : (t : Option Tree) → ((u : Tree) → t ≡ Some u → Rattle.tries.specs.Tree.IsBuilt u) → length (numbers_in node_numbers t) ≤ length (items_of t) - 1
      fewer None built = omega arith
      fewer (Some t) built = let low = nodes_are_fewer t (built t refl) in omega (arith, low)
