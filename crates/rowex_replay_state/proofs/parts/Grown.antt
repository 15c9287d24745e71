-- What is told grows by leaves, nodes and forks.
use Rattle.rowex_replay_state.proofs.Common.{◌≡◌, ◌≢◌, ◌⊎◌, ◌↔◌, inl, inr, ℕ, ◌-◌, ◌<◌, List, [], ◌∷◌, ◌++◌, Bool, true, false, length, get_or, set, map, refl, ap, sym, ◌∙◌, subst, arith, append_assoc, get_or-set_same, get_or-set_other, cases_eq, get_or-map, get_or-append_right, map-append, HeadView, Key, Tree, leaf, node, fork, Item, items, first, a_node, a_leaf, Links, leaf_number, node_number}
use Rattle.rowex_replay_state.specs.declared.linked.Item.{Item as ReadItem}
use Rattle.rowex_replay_state.specs.declared.linked.Linked.{Linked}
use Rattle.rowex_replay_state.specs.Versions.{read_item}
use Rattle.rowex_replay_state.specs.Parts.{GrowsBy}

-- a mark set
marked : (xs : List Bool) (n m : ℕ) → n < length xs → (get_or (set xs n true) m false ≡ true) ↔ ((get_or xs m false ≡ true) ⊎ (m ≡ n))
marked xs n m h = go (cases_eq m n)
  where
    go : (m ≡ n) ⊎ (m ≢ n) → (get_or (set xs n true) m false ≡ true) ↔ ((get_or xs m false ≡ true) ⊎ (m ≡ n))
    go (inl e) = (λ x. inr e, λ x. subst (λ z. get_or (set xs n true) z false ≡ true) (sym e) (get_or-set_same xs n true false h))
    go (inr e) = (λ x. inl (sym (get_or-set_other xs n m true false e) ∙ x), back)
      where
        back : (get_or xs m false ≡ true) ⊎ (m ≡ n) → get_or (set xs n true) m false ≡ true
        back (inl x) = get_or-set_other xs n m true false e ∙ x
        back (inr x) = absurd (e x)

pub leaf_grown : (old new : Linked) (n : ℕ) (k : Key) (v : ℕ) → new.items.items ≡ old.items.items ++ record { number = n; key = k; value = v } ∷ [] → new.nodes ≡ old.nodes →
    new.leaves.items ≡ set old.leaves.items n true → n < length old.leaves.items → GrowsBy (leaf n k v) old new
leaf_grown old new n k v items_are nodes_are leaves_are h = record {
  items_are = ap (map read_item) items_are ∙ map-append read_item old.items.items (record { number = n; key = k; value = v } ∷ []);
  nodes_are = λ m. (λ x. inl (subst (λ z. get_or z.items m false ≡ true) nodes_are x), elim_node m);
  leaves_are = λ m. subst (λ z. (get_or z m false ≡ true) ↔ ((get_or old.leaves.items m false ≡ true) ⊎ (a_leaf m ≡ a_leaf n))) (sym leaves_are) (leaf_mark m);
}
  where
    elim_node : (m : ℕ) → (get_or old.nodes.items m false ≡ true) ⊎ (a_node m ≡ a_leaf n) → get_or new.nodes.items m false ≡ true
    elim_node m (inl x) = subst (λ z. get_or z.items m false ≡ true) (sym nodes_are) x
    elim_node m (inr e) = absurd cc

    leaf_mark : (m : ℕ) → (get_or (set old.leaves.items n true) m false ≡ true) ↔ ((get_or old.leaves.items m false ≡ true) ⊎ (a_leaf m ≡ a_leaf n))
    leaf_mark m = (λ x. elim ((marked old.leaves.items n m h).0 x) [ inl y ↦ inl y | inr e ↦ inr (ap a_leaf e) ], back m)
      where
        back : (m : ℕ) → (get_or old.leaves.items m false ≡ true) ⊎ (a_leaf m ≡ a_leaf n) → get_or (set old.leaves.items n true) m false ≡ true
        back m (inl x) = (marked old.leaves.items n m h).1 (inl x)
        back m (inr e) = (marked old.leaves.items n m h).1 (inr (leaf_number e))

-- The mark of a node, and then what its body links.
pub node_grown : (old mid new : Linked) (n : ℕ) (x : HeadView) (b : Tree) → mid.items ≡ old.items → mid.nodes.items ≡ set old.nodes.items n true → mid.leaves ≡ old.leaves →
    n < length old.nodes.items → GrowsBy b mid new → GrowsBy (node n x b) old new
node_grown old mid new n x b items_are nodes_are leaves_are h g = record {
  items_are = g.items_are ∙ ap (λ z. map read_item z.items ++ items b) items_are;
  nodes_are = λ m. (λ y. into m ((g.nodes_are m).0 y), λ y. (g.nodes_are m).1 (back m y));
  leaves_are = λ m. (λ y. leaf_into m ((g.leaves_are m).0 y), λ y. (g.leaves_are m).1 (leaf_back m y));
}
  where
    into : (m : ℕ) → (get_or mid.nodes.items m false ≡ true) ⊎ Links b (a_node m) → (get_or old.nodes.items m false ≡ true) ⊎ ((a_node m ≡ a_node n) ⊎ Links b (a_node m))
    into m (inl y) = elim ((marked old.nodes.items n m h).0 (subst (λ z. get_or z m false ≡ true) nodes_are y)) [ inl z ↦ inl z | inr e ↦ inr (inl (ap a_node e)) ]
    into m (inr y) = inr (inr y)

    back : (m : ℕ) → (get_or old.nodes.items m false ≡ true) ⊎ ((a_node m ≡ a_node n) ⊎ Links b (a_node m)) → (get_or mid.nodes.items m false ≡ true) ⊎ Links b (a_node m)
    back m (inl y) = inl (subst (λ z. get_or z m false ≡ true) (sym nodes_are) ((marked old.nodes.items n m h).1 (inl y)))
    back m (inr (inl e)) = inl (subst (λ z. get_or z m false ≡ true) (sym nodes_are) ((marked old.nodes.items n m h).1 (inr (node_number e))))
    back m (inr (inr y)) = inr y

    leaf_into : (m : ℕ) → (get_or mid.leaves.items m false ≡ true) ⊎ Links b (a_leaf m) → (get_or old.leaves.items m false ≡ true) ⊎ ((a_leaf m ≡ a_node n) ⊎ Links b (a_leaf m))
    leaf_into m (inl y) = inl (subst (λ z. get_or z.items m false ≡ true) leaves_are y)
    leaf_into m (inr y) = inr (inr y)

    leaf_back : (m : ℕ) → (get_or old.leaves.items m false ≡ true) ⊎ ((a_leaf m ≡ a_node n) ⊎ Links b (a_leaf m)) → (get_or mid.leaves.items m false ≡ true) ⊎ Links b (a_leaf m)
    leaf_back m (inl y) = inl (subst (λ z. get_or z.items m false ≡ true) (sym leaves_are) y)
    leaf_back m (inr (inl e)) = absurd cc
    leaf_back m (inr (inr y)) = inr y

-- What one side links, and then what the other does.
both_ways : {A B C P Q : Type 0} → A ↔ (B ⊎ P) → C ↔ (A ⊎ Q) → C ↔ (B ⊎ (P ⊎ Q))
both_ways {A} {B} {C} {P} {Q} f g = (λ c. into (g.0 c), λ y. g.1 (back y))
  where
    into : A ⊎ Q → B ⊎ (P ⊎ Q)
    into (inl a) = elim (f.0 a) [ inl b ↦ inl b | inr p ↦ inr (inl p) ]
    into (inr q) = inr (inr q)

    back : B ⊎ (P ⊎ Q) → A ⊎ Q
    back (inl b) = inl (f.1 (inl b))
    back (inr (inl p)) = inl (f.1 (inr p))
    back (inr (inr q)) = inr q

pub fork_grown : (old mid new : Linked) (p : ℕ) (a b : Tree) → GrowsBy a old mid → GrowsBy b mid new → GrowsBy (fork p a b) old new
fork_grown old mid new p a b f g = record {
  items_are = g.items_are ∙ (ap (λ z. z ++ items b) f.items_are ∙ append_assoc (map read_item old.items.items) (items a) (items b));
  nodes_are = λ n. both_ways (f.nodes_are n) (g.nodes_are n);
  leaves_are = λ n. both_ways (f.leaves_are n) (g.leaves_are n);
}

-- The first item of a tree has its first key.
starts : (t : Tree) → (x : Item) × (rest : List Item) × (items t ≡ x ∷ rest) × (x.key ≡ first t)
starts (leaf n k v) = (record { number = n; key = k; value = v }, [], refl, refl)
starts (node n x b) = starts b
starts (fork p a b) = let s = starts a in (s.0, s.1 ++ items b, ap (λ z. z ++ items b) s.2, s.3)

-- The item after those of before is the first of the tree.
pub first_read : (t : Tree) (us vs : List Item) (zs : List ReadItem) (n : ℕ) (z : ReadItem) → map read_item zs ≡ us ++ (items t ++ vs) → length us ≡ n → get_or zs n z ≡ z → n < length zs → z.key ≡ first t
first_read t us vs zs n z all long at inside =
    let s = starts t in
    let there : get_or (map read_item zs) n (read_item z) ≡ read_item z = get_or-map read_item zs n z (read_item z) inside ∙ ap read_item at in
    let here : get_or (us ++ (items t ++ vs)) n (read_item z) ≡ s.0 =
    get_or-append_right us (items t ++ vs) n n (read_item z) long (omega arith) ∙ (ap (λ i. get_or (items t ++ vs) i (read_item z)) (let e : n - n ≡ 0 = omega arith in e) ∙ ap (λ y. get_or (y ++ vs) 0 (read_item z)) s.2) in
    ap (λ (y : Item). y.key) (sym there ∙ (ap (λ y. get_or y n (read_item z)) all ∙ here)) ∙ s.3
