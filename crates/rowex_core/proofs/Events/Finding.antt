-- The change that a publish makes is found from its leaves before and after.
use Rattle.rowex_core.proofs.Common.{◌≡◌, ◌≢◌, inl, inr, ℕ, List, [], ◌∷◌, false, eqb, Option, Some, None, refl, sym, ap, ◌∙◌, subst, arith, eq-eqb, eqb-true, cases_Bool, Entry, Change, Kind, Added, Replaced, Removed, Tree, leaf, node, fork, IsTrie, IsBuilt, Item, items, Each, IsIn, IsMore, added, behind, IsExchange, exchanged, past_one, IsBefore, content_rises, before_irrefl, each_append, each_in, IsRising, Heap, LeafWords, IsShown, IsTop, items_of, item_of, IsChanged, added_change, replaced_change, removed_change}
use Rattle.tries.proofs.Content.Maps.{AreKeys, are_keys, before_less, before_greater, same_order}
use Rattle.rowex_core.specs.declared.event.Spot.{Spot}
use Rattle.rowex_core.specs.declared.event.Spot.TheVariants.{Root, Slot, Value}
use Rattle.rowex_core.specs.Cores.{Core, heap_of}
use Rattle.rowex_core.specs.Events.{AgreeByNumber, IsOfEntry, change_between, stored_words, stored_root, next_tree, next_change}
use Rattle.rowex_core.specs.Statements.{FindsChange}

-- ---- The number determines the leaf

-- the words of the item's record
abbrev pub words_are : Heap → Item → Type 0
words_are m x = m.leaves x.number ≡ record { key = x.key; value = x.value }

shown_items : (m : Heap) (t : Tree) → IsShown m t → Each (words_are m) (items t)
shown_items m (leaf n k v) h = (h, tt)
shown_items m (node n x b) h = shown_items m b h.1
shown_items m (fork p a b) h = each_append (words_are m) (items a) (items b) (shown_items m a h.0) (shown_items m b h.1)

pub top_items : (m : Heap) (e : Option Entry) (t : Option Tree) → IsTop m e t → Each (words_are m) (items_of t)
top_items m None None h = tt
top_items m None (Some t) h = absurd h
top_items m (Some e) None h = absurd h
top_items m (Some e) (Some t) h = shown_items m t h.1

pub by_number : (m o : Heap) (xs ys : List Item) → ((n : ℕ) → m.leaves n ≡ o.leaves n) → Each (words_are m) xs → Each (words_are o) ys → AgreeByNumber xs ys
by_number m o xs ys same f g x y i j e =
    let one = each_in (words_are m) xs x f i in
    let other = each_in (words_are o) ys y g j in
    let words : record { key = x.key; value = x.value } ≡ record { key = y.key; value = y.value } = sym one ∙ (ap m.leaves e ∙ (same y.number ∙ other)) in
    equal x y e (ap (λ (l : LeafWords). l.key) words) (ap (λ (l : LeafWords). l.value) words)
  where
    equal : (x y : Item) → x.number ≡ y.number → x.key ≡ y.key → x.value ≡ y.value → x ≡ record { number = y.number; key = y.key; value = y.value }
    equal x y a b c = rw (← a, ← b, ← c) refl

-- ---- The lists part where the change is

-- past a leaf that stays
past : (q : ℕ) (x : Item) (xs ys : List Item) → change_between q (x ∷ xs) (x ∷ ys) ≡ change_between q xs ys
past q x xs ys = rw (eq-eqb x.number x.number refl) refl

-- of two leaves of one number there is one
apart : (xs ys : List Item) (x y : Item) → AgreeByNumber xs ys → IsIn x xs → IsIn y ys → x ≢ y → eqb x.number y.number ≡ false
apart xs ys x y d i j ne = elim (cases_Bool (eqb x.number y.number)) [
  | inl e ↦ absurd (ne (d x y i j (eqb-true x.number y.number e)))
  | inr e ↦ e
]

behind_one : (x y : Item) (xs ys : List Item) → AgreeByNumber (x ∷ xs) (y ∷ ys) → AgreeByNumber xs ys
behind_one x y xs ys d a b i j = d a b (inr i) (inr j)

before_differ : (x y : Item) → IsBefore x.key y.key → x ≢ y
before_differ x y b e = before_irrefl y.key (subst (λ (z : Item). IsBefore z.key y.key) e b)

pub finds_added : (q : ℕ) (x : Item) (xs ys : List Item) → IsMore x xs ys → IsRising ys → AreKeys ys → AgreeByNumber xs ys → change_between q xs ys ≡ added_change q x
finds_added q x [] _ added r a d = refl
finds_added q x (z ∷ zs) _ added r a d =
    rw (apart (z ∷ zs) (x ∷ z ∷ zs) z x d (inl refl) (inl refl) (λ e. before_differ x z r.0.0 (sym e)), before_greater x.key z.key a.0 a.1.0 r.0.0) refl
finds_added q x _ _ (behind {y = y} {xs = xs} {ys = ys} m) r a d = past q y xs ys ∙ finds_added q x xs ys m r.1 a.1 (behind_one y y xs ys d)

pub finds_removed : (q : ℕ) (x : Item) (xs ys : List Item) → IsMore x ys xs → IsRising xs → AreKeys xs → AgreeByNumber xs ys → change_between q xs ys ≡ removed_change q x
finds_removed q x _ [] added r a d = refl
finds_removed q x _ (z ∷ zs) added r a d =
    rw (apart (x ∷ z ∷ zs) (z ∷ zs) x z d (inl refl) (inl refl) (before_differ x z r.0.0), before_less x.key z.key a.0 a.1.0 r.0.0) refl
finds_removed q x _ _ (behind {y = y} {xs = ys} {ys = xs} m) r a d = past q y xs ys ∙ finds_removed q x xs ys m r.1 a.1 (behind_one y y xs ys d)

pub finds_replaced : (q : ℕ) (y x : Item) (xs ys : List Item) → IsExchange y x xs ys → y.key ≡ x.key → xs ≢ ys → AgreeByNumber xs ys → change_between q xs ys ≡ replaced_change q x
finds_replaced q y x _ _ (exchanged {xs = xs}) e ne d =
    rw (apart (y ∷ xs) (x ∷ xs) y x d (inl refl) (inl refl) (λ s. ne (ap (λ z. z ∷ xs) s)), e, same_order x.key) refl
finds_replaced q y x _ _ (past_one {z = z} {xs = xs} {ys = ys} m) e ne d =
    past q z xs ys ∙ finds_replaced q y x xs ys m e (λ s. ne (ap (λ l. z ∷ l) s)) (behind_one z z xs ys d)

pub finds : (q : ℕ) (x : Change) (n : ℕ) (xs ys : List Item) → IsChanged x.kind (item_of n x) xs ys → x.pass ≡ q → xs ≢ ys →
    IsRising xs → AreKeys xs → IsRising ys → AreKeys ys → AgreeByNumber xs ys → change_between q xs ys ≡ x
finds q x n xs ys m p ne r a s b d = of_kind x.kind refl m
  where
    named : (k : Kind) → x.kind ≡ k → record { pass = q; key = x.key; value = x.value; kind = k } ≡ x
    named k e = rw (← p, ← e) refl

    of_kind : (k : Kind) → x.kind ≡ k → IsChanged k (item_of n x) xs ys → change_between q xs ys ≡ x
    of_kind Added e m = finds_added q (item_of n x) xs ys m s b d ∙ named Added e
    of_kind Removed e m = finds_removed q (item_of n x) xs ys m r a d ∙ named Removed e
    of_kind Replaced e (y, k, m) = finds_replaced q y (item_of n x) xs ys m k ne d ∙ named Replaced e

-- ---- Of versions

rises : (t : Option Tree) → ((u : Tree) → t ≡ Some u → IsTrie u × IsBuilt u) → IsRising (items_of t) × AreKeys (items_of t)
rises None h = (tt, tt)
rises (Some t) h = (content_rises t (h t refl).0, are_keys t (h t refl).0)

-- the store of an entry leaves the words of leaves, and its change is found between the leaves
pub same_leaves : (c : Core) (spot : Spot) (w : ℕ) → IsOfEntry spot → (n : ℕ) → (heap_of c.words).leaves n ≡ (heap_of (stored_words c spot w)).leaves n
same_leaves c Root w o n = refl
same_leaves c (Slot m j) w o n = refl
same_leaves c (Value l) w o n = absurd o

entry_change : (c : Core) (q : ℕ) (spot : Spot) (w : ℕ) → IsOfEntry spot →
    next_change c q spot w ≡ change_between q (items_of (c.past.version c.past.now)) (items_of (next_tree c spot w))
entry_change c q Root w o = refl
entry_change c q (Slot n j) w o = refl
entry_change c q (Value l) w o = absurd o

pub finds_change : FindsChange
finds_change c q spot w of_entry law top trees x (n, m) ne p =
    entry_change c q spot w of_entry ∙
    finds q x n (items_of (c.past.version c.past.now)) (items_of (next_tree c spot w)) m p ne old.0 old.1 new.0 new.1
    (by_number (heap_of c.words) (heap_of (stored_words c spot w)) _ _ (same_leaves c spot w of_entry)
    (top_items (heap_of c.words) c.root (c.past.version c.past.now) law.core.state.top)
    (top_items (heap_of (stored_words c spot w)) (stored_root c spot w) (next_tree c spot w) top))
  where
    old : IsRising (items_of (c.past.version c.past.now)) × AreKeys (items_of (c.past.version c.past.now))
    old = rises (c.past.version c.past.now) (λ t e. law.core.state.trees c.past.now t (omega arith) e)

    new : IsRising (items_of (next_tree c spot w)) × AreKeys (items_of (next_tree c spot w))
    new = rises (next_tree c spot w) trees
