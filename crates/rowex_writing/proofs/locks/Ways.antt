-- The nodes on the way of a search are different ones, and the pass was led to each.
use Rattle.rowex_writing.proofs.Common.{◌≡◌, inl, inr, ℕ, suc, ◌+◌, ◌≤◌, List, [], ◌∷◌, get_or, Some, refl, sym, ap, subst, ◌∙◌, arith, slice_get, slice_get-get_or, PathNode, height_of, Entry, Node, Layout, Key, Fixed, node_tree, a_node, Stands, AreApart, IsOneOf, of_map, steady, view, IsPinnedSince, recalls, Known, EntryStoodSince, node_named, IsPossible, Sure, seen, seen_past, seen_stable, IsSure, reach_since, seen_is_sure, IsWayOf, IsWayNode, named, Found}
use Rattle.rowex_writing.specs.locks.Locks.{AreLed, numbers_of}

-- a record to which the pass was led since its pin has one height
one_height : (layout : Layout) (k : Known) (m n g h : ℕ) → IsPossible layout k → IsPinnedSince k m → Sure k (λ past. EntryStoodSince past m (Node n g)) → Sure k (λ past. EntryStoodSince past m (Node n h)) → g ≡ h
one_height layout k m n g h possible since one other =
    let c = possible.core in
    let law = possible.lawful in
    let known = recalls c k possible.knows in
    let grown = seen_past law known in
    let (o, u, lo, hi, stands, subtrie_is) = seen_stable m (Node n g) (seen c k) c.past grown (one c law known) in
    let (p, v, low, high, there, same) = seen_stable m (Node n h) (seen c k) c.past grown (other c law known) in
    let (x, d, is, first) = node_named n g u subtrie_is in
    let (y, e, eq, second) = node_named n h v same in
    let fixed = (steady (view c) law.core.state m (reach_since k m since c law known)).same (a_node n) o p (node_tree n x d) (node_tree n y e) lo hi low high
    (subst (λ z. Stands c.past o (a_node n) z) is stands) (subst (λ z. Stands c.past p (a_node n) z) eq there) in
    sym first ∙ (ap (λ (z : Fixed). z.height) fixed.0 ∙ second)

module _ (layout : Layout) (k : Known) (m : ℕ) (key : Key) (found : Found) where
  -- each node, with the entry that the search took there
  abbrev AreNamed : List PathNode → Type 0
  AreNamed way = (i : ℕ) (s : PathNode) → slice_get way i ≡ Some s → (e : Entry) × (named way found (suc i) ≡ Some e) × IsWayNode layout k m key s e

  named_rest : (s : PathNode) (way : List PathNode) → AreNamed (s ∷ way) → AreNamed way
  named_rest s way nodes i t at = nodes (suc i) t at

  -- below an entry the nodes are no higher than it
  lower : (way : List PathNode) (e : Entry) → AreNamed way → named way found 0 ≡ Some e → (t : PathNode) → IsOneOf t way → (t.height ≤ height_of e) × Sure k (λ past. EntryStoodSince past m (Node t.number t.height))
  lower [] e nodes first t i = absurd i
  lower (s ∷ way) e nodes first t (inl is) =
      let (f, next, node) = nodes 0 s refl in
      let high : s.height ≡ height_of e = cc in
      subst (λ (z : PathNode). (z.height ≤ height_of e) × Sure k (λ past. EntryStoodSince past m (Node z.number z.height))) (sym is) (omega (arith, high), node.seen)
  lower (s ∷ way) e nodes first t (inr i) =
      let (f, next, node) = nodes 0 s refl in
      let high : s.height ≡ height_of e = cc in
      let rest = lower way f (named_rest s way nodes) next t i in
      (omega (arith, rest.0, node.below, high), rest.1)

  way_differs : IsPossible layout k → IsPinnedSince k m → (way : List PathNode) → AreNamed way → AreApart (numbers_of way)
  way_differs possible since [] nodes = tt
  way_differs possible since (s ∷ way) nodes = (new, way_differs possible since way (named_rest s way nodes))
    where
      new : IsOneOf s.number (numbers_of way) → ⊥
      new i =
          let (t, there, same) = of_map (λ (z : PathNode). z.number) s.number way i in
          let (e, next, node) = nodes 0 s refl in
          let below = lower way e (named_rest s way nodes) next t there in
          let high = one_height layout k m s.number t.height s.height possible since (subst (λ n. Sure k (λ past. EntryStoodSince past m (Node n t.height))) (sym same) below.1) node.seen in
          omega (arith, below.0, node.below, high)

  pub way_apart : (way : List PathNode) → IsPossible layout k → IsWayOf layout k m key way found → AreApart (numbers_of way)
  way_apart way possible w = way_differs possible w.since way (λ i s at. subst (λ n. (e : Entry) × (named way found n ≡ Some e) × IsWayNode layout k m key s e) (let q : i + 1 ≡ suc i = omega arith in q) (w.nodes i s at))

-- the pass was led to each node of a way that it has found
pub way_led : (layout : Layout) (k : Known) (m : ℕ) (key : Key) (way : List PathNode) (found : Found) → IsWayOf layout k m key way found → AreLed layout k way
way_led layout k m key way found w i d low =
    let s : PathNode = get_or way i d in let (e, is, node) = w.nodes i s (slice_get-get_or way i d low) in
    let seen : IsSure k (λ past. EntryStoodSince past m (Node s.number s.height)) =
    seen_is_sure k (λ past. EntryStoodSince past m (Node s.number s.height)) (seen_stable m (Node s.number s.height)) node.seen in
    (node.range, (m, s.height, w.since, seen))
