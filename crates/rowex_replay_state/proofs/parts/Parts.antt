-- The parts of a lawful tree: of a leaf, of a node, of a fork.
use Rattle.rowex_replay_state.proofs.Common.{◌≡◌, ◌⊎◌, inl, inr, ℕ, ◌+◌, ◌*◌, ◌<◌, ◌≤◌, List, [], length, get_or, refl, ap, sym, ◌∙◌, subst, arith, All, MAX_BYTES, Place, Fork, places, length-places, NodeView, head_of, piece, height_of, IsLawfulNode, Leaf, Node, up_to_key, HasNodeWords, node_words, IsParted, Subtrie, Tree, leaf, node, fork, subtrie, first_position, IsFork, IsLower, IsFit, IsAbove, first, Rec, a_node, a_leaf, NodeWords, Links, determined, leaf_parts, node_parts, node_words_of, leaf_of, IsPacked, heap_of, node_is, leaf_is}
use Rattle.partial_keys.specs.Shows.{ShowsPiece}
use Rattle.rowex_replay_state.proofs.parts.Lists.{all_parts}
use Rattle.rowex_replay_state.proofs.node.Small.{node_small}
use Rattle.rowex_replay_state.specs.Versions.{AreWordsOf, IsEncoded, Table}
use Rattle.rowex_replay_state.specs.Parts.{IsForkedFrom, ShowsPart, IsLeafAt, EncodesNode}

-- Where a first fork stands
above_from : (p : ℕ) (t : Tree) → IsForkedFrom (p + 1) t → IsAbove p t
above_from p (leaf n k v) h = tt
above_from p (node n x b) h = above_from p b h
above_from p (fork q a b) h = omega (arith, h)

from_above : (p : ℕ) (t : Tree) → IsAbove p t → IsForkedFrom (p + 1) t
from_above p (leaf n k v) h = tt
from_above p (node n x b) h = from_above p b h
from_above p (fork q a b) h = omega (arith, h)

pub from_start : (t : Tree) → IsForkedFrom 0 t
from_start (leaf n k v) = tt
from_start (node n x b) = from_start b
from_start (fork q a b) = omega arith

-- The entries of a body are lower where its places are
lower_from : (h : ℕ) (b : Tree) → All (λ e. height_of e < h) (places (subtrie b)) → IsLower h b
lower_from h (leaf n k v) a = a 0 (Leaf 0) (omega arith)
lower_from h (node n x b) a = a 0 (Leaf 0) (omega arith)
lower_from h (fork p x y) a = let s = all_parts (λ e. height_of e < h) (places (subtrie x)) (places (subtrie y)) a in (lower_from h x s.0, lower_from h y s.1)

module _ (table : Table) (words : Rec → List ℕ) (are : AreWordsOf table words) where
  -- Leaves

  leaf_packed : (n : ℕ) (pair : List ℕ × ℕ) → IsLeafAt table.leaves n pair → IsPacked (a_leaf n) (words (a_leaf n))
  unfolding IsPacked
  leaf_packed n pair at = (pair, at.has, at.spelling ∙ sym (ap up_to_key (are.leaves_are n at.in_table)))

  pub leaf_part : (least n : ℕ) (pair : List ℕ × ℕ) → IsLeafAt table.leaves n pair → ShowsPart table words least (Place (Leaf n)) (leaf n pair.0 pair.1)
  leaf_part least n pair at = record {
    subtrie_is = refl;
    shown = ap leaf_of (are.leaves_are n at.in_table) ∙ leaf_is pair (get_or table.leaves n []) at.has at.spelling;
    local = at.has.key;
    built = tt;
    from = tt;
    spelled = λ r e. subst (IsEncoded table words) (sym e) (at.in_table, leaf_packed n pair at);
  }

  leaf_spelled : (n : ℕ) → IsEncoded table words (a_leaf n) → (pair : List ℕ × ℕ) × IsLeafAt table.leaves n pair
  unfolding IsPacked
  leaf_spelled n s = (s.1.0, record { in_table = s.0; has = s.1.1; spelling = s.1.2 ∙ ap up_to_key (are.leaves_are n s.0) })

  pub no_leaf : (least n : ℕ) (t : Tree) → ((pair : List ℕ × ℕ) → ¬ (IsLeafAt table.leaves n pair)) → ¬ (ShowsPart table words least (Place (Leaf n)) t)
  no_leaf least n (leaf o k v) none part =
      let e : o ≡ n = leaf_parts part.subtrie_is in
      let found = leaf_spelled n (subst (λ z. IsEncoded table words (a_leaf z)) e (part.spelled (a_leaf o) refl)) in
      none found.0 found.1
  no_leaf least n (node o x b) none part = let e = part.subtrie_is in absurd cc
  no_leaf least n (fork p a b) none part = let e = part.subtrie_is in absurd cc

  -- Nodes

  node_packed : (n h : ℕ) (view : NodeView) → EncodesNode table.nodes n h view → IsPacked (a_node n) (words (a_node n))
  unfolding IsPacked
  node_packed n h view at = (view, at.has, at.spelling ∙ sym (are.nodes_are n at.in_table))

  words_are : (n : ℕ) (view : NodeView) → n < length table.nodes → HasNodeWords view → node_words view ≡ get_or table.nodes n [] →
      node_words_of (words (a_node n)) ≡ record { fixed = head_of view; subtrie = piece view }
  words_are n view in_table has spelling = ap node_words_of (are.nodes_are n in_table) ∙ node_is view (get_or table.nodes n []) (node_small view has (get_or table.nodes n []) spelling) has spelling

  fit_of : (view : NodeView) (b : Tree) → IsLawfulNode view → subtrie b ≡ piece view → view.height + first_position (piece view) ≤ 9 * MAX_BYTES → IsFit (head_of view) (subtrie b)
  fit_of view b lawful e bound = subst (IsFit (head_of view)) (sym e) (record {
    positions = lawful.positions;
    shows = subst (λ u. ShowsPiece view.columns view.rows u (piece view)) lawful.shows.entries_are lawful.shows;
    room = let l = length-places (piece view) in let s = ap length lawful.shows.entries_are in omega (arith, lawful.room);
    bound = bound;
  })

  pub node_part : (least n h : ℕ) (view : NodeView) (b : Tree) → EncodesNode table.nodes n h view → h + first_position (piece view) ≤ 9 * MAX_BYTES → IsFork b →
      ShowsPart table words least (piece view) b → ShowsPart table words least (Place (Node n h)) (node n (head_of view) b)
  node_part least n h view b at bound two part = record {
    subtrie_is = ap (λ z. Place (Node n z)) at.height_is;
    shown = (words_are n view at.in_table at.has at.spelling ∙ ap (λ z. let w : NodeWords = record { fixed = head_of view; subtrie = z } in w) (sym part.subtrie_is), part.shown);
    local = part.local;
    built = (
      two,
      lower_from view.height b (subst (All (λ e. height_of e < view.height)) (at.has.lawful.shows.entries_are ∙ ap places (sym part.subtrie_is)) at.has.lawful.above),
      part.built,
      fit_of view b at.has.lawful part.subtrie_is (subst (λ z. z + first_position (piece view) ≤ 9 * MAX_BYTES) (sym at.height_is) bound),
    );
    from = part.from;
    spelled = of;
  }
    where
      of : (r : Rec) → (r ≡ a_node n) ⊎ Links b r → IsEncoded table words r
      of r (inl e) = subst (IsEncoded table words) (sym e) (at.in_table, node_packed n h view at)
      of r (inr l) = part.spelled r l

  node_spelled : (n : ℕ) → IsEncoded table words (a_node n) → (view : NodeView) × (n < length table.nodes) × HasNodeWords view × (node_words view ≡ get_or table.nodes n [])
  unfolding IsPacked
  node_spelled n s = (s.1.0, s.0, s.1.1, s.1.2 ∙ are.nodes_are n s.0)

  pub no_node : (least n h : ℕ) (t : Tree) → ((view : NodeView) → ¬ (EncodesNode table.nodes n h view)) → ¬ (ShowsPart table words least (Place (Node n h)) t)
  no_node least n h (leaf o k v) none part = let e = part.subtrie_is in absurd cc
  no_node least n h (fork p a b) none part = let e = part.subtrie_is in absurd cc
  no_node least n h (node o x b) none part =
      let e = node_parts part.subtrie_is in
      let s = node_spelled n (subst (λ z. IsEncoded table words (a_node z)) e.0 (part.spelled (a_node o) (inl refl))) in
      let w : record { fixed = x; subtrie = subtrie b } ≡ record { fixed = head_of s.0; subtrie = piece s.0 } = sym part.shown.0 ∙ (ap (λ z. node_words_of (words (a_node z))) e.0 ∙ words_are n s.0 s.1 s.2 s.3) in
      none s.0 (record { in_table = s.1; has = s.2; spelling = s.3; height_is = sym (ap (λ (z : NodeWords). z.fixed.height) w) ∙ e.1 })

  pub node_back : (least n h : ℕ) (view : NodeView) (t : Tree) → EncodesNode table.nodes n h view → ShowsPart table words least (Place (Node n h)) t →
      (b : Tree) × ShowsPart table words least (piece view) b × (h + first_position (piece view) ≤ 9 * MAX_BYTES)
  node_back least n h view (leaf o k v) at part = let e = part.subtrie_is in absurd cc
  node_back least n h view (fork p a b) at part = let e = part.subtrie_is in absurd cc
  node_back least n h view (node o x b) at part =
      let e = node_parts part.subtrie_is in
      let w : record { fixed = x; subtrie = subtrie b } ≡ record { fixed = head_of view; subtrie = piece view } = sym part.shown.0 ∙ (ap (λ z. node_words_of (words (a_node z))) e.0 ∙ words_are n view at.in_table at.has at.spelling) in
      let p : subtrie b ≡ piece view = ap (λ (z : NodeWords). z.subtrie) w in (
        b,
        record { subtrie_is = p; shown = part.shown.1; local = part.local; built = part.built.2; from = part.from; spelled = λ r l. part.spelled r (inr l) },
        subst (λ z. z + first_position (piece view) ≤ 9 * MAX_BYTES) e.1 (subst (λ z. x.height + first_position z ≤ 9 * MAX_BYTES) p part.built.3.bound),
      )

  -- Forks

  pub fork_part : (least p : ℕ) (x y : Subtrie) (a b : Tree) → least ≤ p → ShowsPart table words (p + 1) x a → ShowsPart table words (p + 1) y b → IsParted p (first a) (first b) →
      ShowsPart table words least (Fork p x y) (fork p a b)
  fork_part least p x y a b low zero one parted = record {
    subtrie_is = let e = zero.subtrie_is in let f = one.subtrie_is in cc;
    shown = (zero.shown, one.shown);
    local = (zero.local, one.local, above_from p a zero.from, above_from p b one.from, parted);
    built = (zero.built, one.built);
    from = low;
    spelled = of;
  }
    where
      of : (r : Rec) → Links a r ⊎ Links b r → IsEncoded table words r
      of r (inl l) = zero.spelled r l
      of r (inr l) = one.spelled r l

  -- What a lawful fork has.
  pub record IsForkPart (least p : ℕ) (x y : Subtrie) : Type 0 where
    pub low : least ≤ p
    pub zero : Tree
    pub zero_part : ShowsPart table words (p + 1) x zero
    pub one : Tree
    pub one_part : ShowsPart table words (p + 1) y one
    pub parted : IsParted p (first zero) (first one)

  fork_parts : {p q : ℕ} {a b x y : Subtrie} → Fork p a b ≡ Fork q x y → (p ≡ q) × (a ≡ x) × (b ≡ y)
  fork_parts e = (cc, cc, cc)

  pub fork_back : (least p : ℕ) (x y : Subtrie) (t : Tree) → ShowsPart table words least (Fork p x y) t → IsForkPart least p x y
  fork_back least p x y (leaf o k v) part = let e = part.subtrie_is in absurd cc
  fork_back least p x y (node o z b) part = let e = part.subtrie_is in absurd cc
  fork_back least p x y (fork q a b) part =
      let e = fork_parts part.subtrie_is in
      record {
        low = subst (λ z. least ≤ z) e.0 part.from;
        zero = a;
        zero_part = record { subtrie_is = e.1; shown = part.shown.0; local = part.local.0; built = part.built.0; from = subst (λ z. IsForkedFrom (z + 1) a) e.0 (from_above q a part.local.2); spelled = λ r l. part.spelled r (inl l) };
        one = b;
        one_part = record { subtrie_is = e.2; shown = part.shown.1; local = part.local.1; built = part.built.1; from = subst (λ z. IsForkedFrom (z + 1) b) e.0 (from_above q b part.local.3); spelled = λ r l. part.spelled r (inr l) };
        parted = subst (λ z. IsParted z (first a) (first b)) e.0 part.local.4;
      }

  -- A subtrie shows one tree.
  pub one_tree : (least least' : ℕ) (p : Subtrie) (s t : Tree) → ShowsPart table words least p s → ShowsPart table words least' p t → s ≡ t
  one_tree least least' p s t i j = determined (heap_of words) s t i.shown j.shown (i.subtrie_is ∙ sym j.subtrie_is)
