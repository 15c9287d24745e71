-- A publish by which a leaf comes or goes makes the leaves others.
use Rattle.version_laws.proofs.Common.{◌≡◌, ◌⊎◌, inl, inr, ℕ, List, Option, Some, None, refl, sym, ap, subst, Entry, Change, Tree, leaf, node, fork, here, Item, items, Heap, Rec, a_leaf, Links, IsLinked, IsLawfulState, items_of, BareCore, view, IsVersionPublish, IsOneOf, HasTraded, of_append, of_left, of_right, leaf_number}
use Rattle.version_laws.specs.Statements.{IsPublished}
use Rattle.version_laws.proofs.Trading.{IsTrade, old_now}
use Rattle.versions.proofs.Heap.{leaf_node}

-- a leaf is linked where its number is among the leaves
leaf_among : (t : Tree) (n : ℕ) → Links t (a_leaf n) → (x : Item) × IsOneOf x (items t) × (x.number ≡ n)
leaf_among (leaf m k v) n e = (record { number = m; key = k; value = v }, inl refl, sym (leaf_number e))
leaf_among (node m x b) n (inl e) = absurd (leaf_node e)
leaf_among (node m x b) n (inr h) = leaf_among b n h
leaf_among (fork p a b) n (inl h) = let (x, i, e) = leaf_among a n h in (x, of_left x (items a) (items b) i, e)
leaf_among (fork p a b) n (inr h) = let (x, i, e) = leaf_among b n h in (x, of_right x (items a) (items b) i, e)

among_leaf : (t : Tree) (x : Item) → IsOneOf x (items t) → Links t (a_leaf x.number)
among_leaf (leaf m k v) x (inl e) = ap (λ (z : Item). a_leaf z.number) e
among_leaf (leaf m k v) x (inr h) = absurd h
among_leaf (node m y b) x h = inr (among_leaf b x h)
among_leaf (fork p a b) x h = elim (of_append x (items a) (items b) h) [ inl i ↦ inl (among_leaf a x i) | inr i ↦ inr (among_leaf b x i) ]

leaf_of_version : (t : Option Tree) (n : ℕ) → IsLinked t (a_leaf n) → (x : Item) × IsOneOf x (items_of t) × (x.number ≡ n)
leaf_of_version None n h = absurd h
leaf_of_version (Some t) n h = leaf_among t n h

version_leaf : (t : Option Tree) (x : Item) → IsOneOf x (items_of t) → IsLinked t (a_leaf x.number)
version_leaf None x h = absurd h
version_leaf (Some t) x h = among_leaf t x h

-- versions of the same leaves link the same leaves
same_leaves : (s t : Option Tree) (n : ℕ) → items_of s ≡ items_of t → IsLinked s (a_leaf n) → IsLinked t (a_leaf n)
same_leaves s t n e h = let (x, i, is) = leaf_of_version s n h in subst (λ z. IsLinked t (a_leaf z)) is (version_leaf t x (subst (IsOneOf x) e i))

-- a leaf that comes or goes makes the lists differ
pub trade_differs : (s t : Option Tree) (new gone : List Rec) (n : ℕ) → HasTraded s t new gone → IsOneOf (a_leaf n) new ⊎ IsOneOf (a_leaf n) gone → items_of s ≡ items_of t → ⊥
trade_differs s t new gone n trade (inl h) e = let w = trade.came (a_leaf n) h in w.1 (same_leaves t s n (sym e) w.0)
trade_differs s t new gone n trade (inr h) e = let w = trade.went (a_leaf n) h in w.1 (same_leaves s t n e w.0)

-- a legal publish of a tree in the place of another, with its trade
pub published : (c : BareCore) (q : ℕ) → IsLawfulState (view c) → (t : Tree) → c.past.version c.past.now ≡ Some t → (heap : Heap) (root : Option Entry) (x : Change) (r : Tree) (n : ℕ) (new gone : List Rec) →
    IsVersionPublish c q heap root (Some r) x → IsTrade c q t r new gone → IsOneOf (a_leaf n) new ⊎ IsOneOf (a_leaf n) gone → IsPublished c heap root x new gone
published c q law t now heap root x r n new gone legal trade one = record {
  tree = Some r;
  legal = subst (λ p. IsVersionPublish c p heap root (Some r) x) (sym legal.own) legal;
  differs = trade_differs (c.past.version c.past.now) (Some r) new gone n traded one;
  trade = traded;
}
  where
    fresh : (i : Rec) → IsOneOf i new → Links t i → ⊥
    fresh i h l = old_now c q law t now here i l (trade.ready i h)

    traded : HasTraded (c.past.version c.past.now) (Some r) new gone
    traded = subst (λ z. HasTraded z (Some r) new gone) (sym now) (record {
      comes = trade.trade.comes;
      came = λ i h. (trade.trade.came i h, fresh i h);
      goes = trade.trade.goes;
      went = trade.trade.went;
      apart = trade.apart;
    })
