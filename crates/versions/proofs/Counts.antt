-- The node records in the tree are fewer than its keys.
use Rattle.versions.proofs.Common.{◌≡◌, inl, inr, ℕ, suc, ◌-◌, ◌≤◌, List, [], ◌∷◌, ◌++◌, length, Option, Some, None, refl, sym, ap, subst, ◌∙◌, arith, le_refl, All, length-append, take_all, map_of, Tree, leaf, node, fork, Item, items, pairs, Rec, a_node}
use Rattle.tries.specs.Counts.{node_numbers}
use Rattle.tries.proofs.Counts.{nodes_are_fewer}
use Rattle.versions.specs.Core.{BareCore, InTree, life_of}
use Rattle.versions.specs.State.{Links, IsLived, Spans, Stands}
use Rattle.versions.specs.Steps.{IsLawfulCore}
use Rattle.versions.specs.Told.{content}
use Rattle.versions.specs.Trades.{IsOneOf, AreApart}
use Rattle.versions.proofs.Trades.{of_append, of_left, of_right, all_of}
use Rattle.versions.proofs.State.Publish.{within_links}

module _ {X : Type 0} where
  -- what stands before an element and after it
  split : (x : X) (ys : List X) → IsOneOf x ys → (us vs : List X) × (ys ≡ us ++ x ∷ vs)
  split x [] h = absurd h
  split x (y ∷ ys) (inl e) = ([], ys, ap (λ (z : X). z ∷ ys) (sym e))
  split x (y ∷ ys) (inr h) = let (us, vs, e) = split x ys h in (y ∷ us, vs, ap (λ (l : List X). y ∷ l) e)

  -- an element other than the one between is before it or after it
  beside : (x z : X) (us vs : List X) → IsOneOf z (us ++ x ∷ vs) → (z ≡ x → ⊥) → IsOneOf z (us ++ vs)
  beside x z us vs h other =
      elim (of_append z us (x ∷ vs) h) [ inl i ↦ of_left z us vs i | inr j ↦ elim j [ inl e ↦ absurd (other e) | inr k ↦ of_right z us vs k ] ]

  -- elements of a list, each told once, are no more than it has
  no_more : (xs ys : List X) → AreApart xs → ((x : X) → IsOneOf x xs → IsOneOf x ys) → length xs ≤ length ys
  no_more [] ys apart h = omega arith
  no_more (x ∷ xs) ys apart h =
      let (us, vs, e) = split x ys (h x (inl refl)) in
      let rest = no_more xs (us ++ vs) apart.1 (λ z i. beside x z us vs (subst (IsOneOf z) e (h z (inr i))) (λ same. apart.0 (subst (λ (w : X). IsOneOf w xs) same i))) in
      omega (arith, rest, ap length e, length-append us vs, length-append us (x ∷ vs))

-- a node that is linked is one of the tree's
linked_is_counted : (t : Tree) (n : ℕ) → Links t (a_node n) → IsOneOf n (node_numbers t)
linked_is_counted (leaf m k v) n h = cc
linked_is_counted (node m x b) n (inl e) = inl (number_of e)
  where
    number_of : a_node n ≡ a_node m → n ≡ m
    number_of e = cc
linked_is_counted (node m x b) n (inr h) = inr (linked_is_counted b n h)
linked_is_counted (fork p a b) n (inl h) = of_left n (node_numbers a) (node_numbers b) (linked_is_counted a n h)
linked_is_counted (fork p a b) n (inr h) = of_right n (node_numbers a) (node_numbers b) (linked_is_counted b n h)

as_many_pairs : (xs : List Item) → length (pairs xs) ≡ length xs
as_many_pairs [] = refl
as_many_pairs (x ∷ xs) = ap suc (as_many_pairs xs)

module _ (c : BareCore) (law : IsLawfulCore c) where
  -- what is in the tree stands in the newest version
  stands_now : (n since : ℕ) → c.fate (a_node n) ≡ InTree since → (u : Tree) × Stands c.past c.past.now (a_node n) u
  stands_now n since e =
      let is = ap life_of e in
      law.state.alive (a_node n) c.past.now (subst (λ l. Spans c.past.now l c.past.now) (sym is) (lived n since e, le_refl c.past.now))
    where
      lived : (n since : ℕ) → c.fate (a_node n) ≡ InTree since → since ≤ c.past.now
      lived n since e = subst (λ l. IsLived c.past.now l) (ap life_of e) (law.state.lived (a_node n))

  map_is : content (c.past.version c.past.now) ≡ map_of c.changes
  map_is = law.told.content_is c.past.now (le_refl c.past.now) ∙ ap map_of (take_all c.past.now c.changes (let e = law.told.count in omega (arith, e)))

  pub nodes_in_tree_are_fewer : (numbers : List ℕ) → AreApart numbers → All (λ n. (since : ℕ) × (c.fate (a_node n) ≡ InTree since)) numbers →
      length numbers ≤ length (map_of c.changes) - 1
  nodes_in_tree_are_fewer numbers apart live = go (c.past.version c.past.now) refl
    where
      standing : (n : ℕ) → IsOneOf n numbers → (u : Tree) × Stands c.past c.past.now (a_node n) u
      standing n i = let it = all_of (λ n. (since : ℕ) × (c.fate (a_node n) ≡ InTree since)) n numbers live i in stands_now n it.0 it.1

      go : (t : Option Tree) → c.past.version c.past.now ≡ t → length numbers ≤ length (map_of c.changes) - 1
      go None e = let few = no_more numbers [] apart (λ n i. absurd (nothing (standing n i).1)) in omega (arith, few)
        where
          nothing : {r : Rec} {u : Tree} → Stands c.past c.past.now r u → ⊥
          nothing s = let is = sym e ∙ s.is_version in cc
      go (Some t) e =
          let few = no_more numbers (node_numbers t) apart (λ n i. linked_is_counted t n (here n (standing n i).1)) in
          let built = (law.state.trees c.past.now t (le_refl c.past.now) e).1 in
          let many = ap length (sym (ap content e) ∙ map_is) in
          omega (arith, few, nodes_are_fewer t built, as_many_pairs (items t), many)
        where
          same : (x : Tree) → Some x ≡ Some t → x ≡ t
          same x e = cc

          here : (n : ℕ) {u : Tree} → Stands c.past c.past.now (a_node n) u → Links t (a_node n)
          here n s = subst (λ (x : Tree). Links x (a_node n)) (same s.tree (sym s.is_version ∙ e)) (within_links s.within (a_node n) s.is_record)
