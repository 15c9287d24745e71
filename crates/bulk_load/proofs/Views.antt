-- The leaves that the tips show are those of the tree.
use Rattle.bulk_load.proofs.Common.{◌≡◌, ◌≢◌, ◌⊎◌, ◌↔◌, inl, inr, ℕ, ◌<◌, ◌≤◌, List, [], ◌∷◌, ◌++◌, Some, length, refl, ap, sym, subst, ◌∙◌, arith, cases_lt, get_or, append-nil, append_assoc, Less, Entry, Leaf, Node, key_order, Place, Free, state_word, Item, items, Key, Tree, leaf, node, fork, subtrie, IsBuilt, a_leaf, Heap, IsShown, Links, items_of, leaf_number, leaf_node, linked_cases, some_items, heap_of, fields_in, tree_of}
use Rattle.versions.proofs.Read.{read_exact}
use Rattle.bulk_load.specs.declared.builder.Builder.{Builder}
use Rattle.bulk_load.specs.declared.tips.Tip.{Tip}
use Rattle.bulk_load.specs.Loading.{EndsInLeaf, HasTakenNone, IsLoading, greatest_key, items_in, items_under}
use Rattle.bulk_load.specs.Tips.{tip, tips_of}
use Rattle.bulk_load.specs.Stacks.{whole_of}
use Rattle.bulk_load.specs.Tables.{leaf_class, state_in}
use Rattle.bulk_load.specs.Views.{IsAboveLast, IsTakenLeaf}

under_append : (heap : Heap) (ss ts : List Tip) → items_under heap (ss ++ ts) ≡ items_under heap ss ++ items_under heap ts
under_append heap [] ts = refl
under_append heap (s ∷ ss) ts =
    ap (λ xs. items_of (tree_of heap (Some s.entry)) ++ xs) (under_append heap ss ts) ∙
    sym (append_assoc (items_of (tree_of heap (Some s.entry))) (items_under heap ss) (items_under heap ts))

-- the one tree below an entry
under_one : (heap : Heap) (p : ℕ) (e : Entry) (t : Tree) → IsBuilt t → IsShown heap t → subtrie t ≡ Place e → items_under heap (tip p e ∷ []) ≡ items t
under_one heap p e t b s h = append-nil (items_of (tree_of heap (Some e))) ∙ ap items_of (read_exact heap e t b s h)

pub under_tips : (heap : Heap) (p : ℕ) (t : Tree) → IsBuilt t → IsShown heap t → items_under heap (tips_of p (subtrie t)) ≡ items t
under_tips heap p (leaf n k v) b s = under_one heap p (Leaf n) (leaf n k v) b s refl
under_tips heap p (node n x c) b s = under_one heap p (Node n x.height) (node n x c) b s refl
under_tips heap p (fork q a c) b s =
    under_append heap (tips_of p (subtrie a)) (tips_of q (subtrie c)) ∙
    (ap (λ xs. xs ++ items_under heap (tips_of q (subtrie c))) (under_tips heap p a b.0 s.0) ∙ ap (λ xs. items a ++ xs) (under_tips heap q c b.1 s.1))

-- what the loader's words and tips show are the leaves that were taken
pub items_are : (l : Builder) (xs : List Item) → IsLoading l xs → items_in l ≡ xs
items_are l xs (c, inl e) = ap (items_under (heap_of (fields_in l.layout l.words.items))) e.no_tips ∙ sym e.none
items_are l xs (c, inr r) =
    let s = r.stack in let t = s.tree in let heap = heap_of (fields_in l.layout l.words.items) in
    ap (items_under heap) t.tips_are ∙ (under_tips heap 0 (whole_of s.levels s.top) t.built (t.table.shows (whole_of s.levels s.top) refl) ∙ s.content)

-- ---- leaf records that were taken
taken_left : (n : ℕ) (xs ys : List Item) → IsTakenLeaf xs n → IsTakenLeaf (xs ++ ys) n
taken_left n [] ys h = absurd h
taken_left n (x ∷ xs) ys (inl e) = inl e
taken_left n (x ∷ xs) ys (inr h) = inr (taken_left n xs ys h)

taken_right : (n : ℕ) (xs ys : List Item) → IsTakenLeaf ys n → IsTakenLeaf (xs ++ ys) n
taken_right n [] ys h = h
taken_right n (x ∷ xs) ys h = inr (taken_right n xs ys h)

pub taken_if_linked : (t : Tree) (n : ℕ) → Links t (a_leaf n) → IsTakenLeaf (items t) n
taken_if_linked (leaf m k v) n e = inl (leaf_number e)
taken_if_linked (node m x b) n (inl e) = absurd (leaf_node e)
taken_if_linked (node m x b) n (inr h) = taken_if_linked b n h
taken_if_linked (fork p a b) n (inl h) = taken_left n (items a) (items b) (taken_if_linked a n h)
taken_if_linked (fork p a b) n (inr h) = taken_right n (items a) (items b) (taken_if_linked b n h)

-- a record that is not free is in the tree
pub taken_if_used : (l : Builder) (xs : List Item) (n : ℕ) → HasTakenNone l xs ⊎ EndsInLeaf l xs → n < l.layout.leaves → state_in l.layout l.words.items (a_leaf n) ≢ state_word Free → IsTakenLeaf xs n
taken_if_used l xs n (inl e) low used = absurd (used (e.table.free (a_leaf n) low (λ h. h)))
taken_if_used l xs n (inr r) low used =
    let t = whole_of r.stack.levels r.stack.top in
    elim (linked_cases (Some t) (a_leaf n)) [
      | inl h ↦ subst (λ ys. IsTakenLeaf ys n) r.stack.content (taken_if_linked t n h.0)
      | inr h ↦ absurd (used (r.stack.tree.table.free (a_leaf n) low h.0))
    ]

taken_cases : (n : ℕ) (xs ys : List Item) → IsTakenLeaf (xs ++ ys) n → IsTakenLeaf xs n ⊎ IsTakenLeaf ys n
taken_cases n [] ys h = inr h
taken_cases n (x ∷ xs) ys (inl e) = inl (inl e)
taken_cases n (x ∷ xs) ys (inr h) = elim (taken_cases n xs ys h) [ inl l ↦ inl (inr l) | inr r ↦ inr r ]

linked_if_taken : (t : Tree) (n : ℕ) → IsTakenLeaf (items t) n → Links t (a_leaf n)
linked_if_taken (leaf m k v) n (inl e) = ap (λ i. a_leaf i) e
linked_if_taken (leaf m k v) n (inr h) = absurd h
linked_if_taken (node m x b) n h = inr (linked_if_taken b n h)
linked_if_taken (fork p a b) n h = elim (taken_cases n (items a) (items b) h) [ inl l ↦ inl (linked_if_taken a n l) | inr r ↦ inr (linked_if_taken b n r) ]

-- a record that was taken is not free
used_if_taken : (l : Builder) (xs : List Item) (n : ℕ) → HasTakenNone l xs ⊎ EndsInLeaf l xs → IsTakenLeaf xs n → state_in l.layout l.words.items (a_leaf n) ≢ state_word Free
used_if_taken l xs n (inl e) h free = subst (λ ys. IsTakenLeaf ys n) e.none h
used_if_taken l xs n (inr r) h free =
    let t = whole_of r.stack.levels r.stack.top in
    let live = r.stack.tree.table.live (a_leaf n) (linked_if_taken t n (subst (λ ys. IsTakenLeaf ys n) (sym r.stack.content) h)) in omega (arith, live, free)

-- the records below the cursor of their class are those that were taken
pub taken_below : (l : Builder) (xs : List Item) → IsLoading l xs → (n : ℕ) → n < l.layout.leaves → IsTakenLeaf xs n ↔ (n < get_or l.leaves (leaf_class l.layout n) 0)
taken_below l xs (c, some) n low =
    let at = c.1 n low in let next = get_or l.leaves (leaf_class l.layout n) 0 in (
      λ h. elim (cases_lt n next) [
        | inl below ↦ below
        | inr above ↦ absurd (used_if_taken l xs n some h (at.free above).0)
      ],
      λ below. taken_if_used l xs n some low (λ free. let above = at.taken free in omega (arith, below, above)),
    )

-- no more nodes were taken than leaves
pub nodes_few : (l : Builder) (xs : List Item) → IsLoading l xs → l.nodes ≤ length xs
nodes_few l xs (c, inl e) = omega (arith, e.no_nodes)
nodes_few l xs (c, inr r) = omega (arith, r.stack.few)

-- ---- the last key
above_append : (xs ys : List Item) (k : Key) → 0 < length ys → (IsAboveLast ys k → IsAboveLast (xs ++ ys) k) × (IsAboveLast (xs ++ ys) k → IsAboveLast ys k)
above_append [] ys k h = (λ a. a, λ a. a)
above_append (x ∷ []) [] k h = absurd (omega (arith, h))
above_append (x ∷ []) (y ∷ ys) k h = (λ a. a, λ a. a)
above_append (x ∷ (z ∷ zs)) ys k h = above_append (z ∷ zs) ys k h

above_tree : (t : Tree) (k : Key) → (key_order (greatest_key t) k ≡ Less → IsAboveLast (items t) k) × (IsAboveLast (items t) k → key_order (greatest_key t) k ≡ Less)
above_tree (leaf n m v) k = (λ a. a, λ a. a)
above_tree (node n x b) k = above_tree b k
above_tree (fork p a b) k =
    let i = above_append (items a) (items b) k (some_items b) in let j = above_tree b k in
    (λ h. i.0 (j.0 h), λ h. j.1 (i.1 h))

-- a key is above the last leaf where it is above the last key
pub above_last : (l : Builder) (xs : List Item) (k : Key) → EndsInLeaf l xs → (key_order l.last k ≡ Less → IsAboveLast xs k) × (IsAboveLast xs k → key_order l.last k ≡ Less)
above_last l xs k r =
    let s = r.stack in let both = above_tree (whole_of s.levels s.top) k in
    (λ h. subst (λ ys. IsAboveLast ys k) s.content (both.0 (subst (λ m. key_order m k ≡ Less) s.last h)), λ h. subst (λ m. key_order m k ≡ Less) (sym s.last) (both.1 (subst (λ ys. IsAboveLast ys k) (sym s.content) h)))
