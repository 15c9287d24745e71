-- The chosen node is the affected one.
pub mod Affecting
use Rattle.insert_cases.proofs.Common.{◌≡◌, ◌≢◌, ◌⊎◌, inl, inr, ℕ, zero, suc, ◌+◌, ◌-◌, ◌<◌, ◌≤◌, List, [], ◌∷◌, length, Bool, true, false, if◌then◌else◌, nat_lt, ltb, refl, ap, sym, ◌∙◌, subst, arith, Some, None, MatchBool, slice_get, slice_get_within, ltb-true, le-ltb, false≢true, cases_lt, cases_order, size_pos, affected_first, affected_count, IsAffected, IsFresh, size, affected, IsLeafOrFork, Key, bit, AgreeBelow, spot, Tree, leaf, node, fork, Fixed, subtrie, first_position, Has, IsTrie, IsBuilt, IsTip, IsFork, Within, here, inside, spot_below, first, has_first, within_trans, within_child, trie_within, built_within, follows_if_has, rises, fork_of}
use Rattle.key_bits.specs.Bits.{IsFirstDifference}
use Rattle.node_tries.proofs.Affected.{affected_again}
use Rattle.tries.specs.Search.{child, found}
use Rattle.tries.proofs.Affected.{DifferFirstAt, part_differs_first, part_place, affected_subtrie}
use Rattle.insert_cases.specs.declared.choice.Case.{Case}
use Rattle.insert_cases.specs.declared.choice.Choice.{Choice}
use Rattle.insert_cases.specs.declared.choice.PathNode.{PathNode}
use Rattle.insert_cases.specs.Levels.{IsLevel, IsChosen}
use Rattle.insert_cases.specs.Ways.{below, stage, IsStep, IsStepAtTopNode, IsLeaf, IsWay, WayBelow, body, is_leaf, case_of, IsAffectedNode}
use Rattle.insert_cases.proofs.Ways.Affecting.{FirstForkIsNot, key_part}
use Rattle.tries.proofs.Content.{found_child}

pub some_injective : {A : Type 0} {a b : A} → Some a ≡ Some b → a ≡ b
some_injective e = cc

-- ---- stages of a way
pub some_at : (ss : List PathNode) (l : ℕ) → l < length ss → (s : PathNode) × (slice_get ss l ≡ Some s)
some_at [] l h = absurd (omega arith)
some_at (s ∷ ss) zero h = (s, refl)
some_at (s ∷ ss) (suc l) h = some_at ss l (omega arith)

pub way_at : (k : Key) (t : Tree) (ss : List PathNode) → IsWay k t ss → (l : ℕ) (s : PathNode) → slice_get ss l ≡ Some s → IsStepAtTopNode k s (stage k t l)
way_at k t [] w l s e = absurd (let z : None ≡ Some s = e in cc)
way_at k t (x ∷ ss) w zero s e = subst (λ z. IsStepAtTopNode k z t) (some_injective e) w.0
way_at k t (x ∷ ss) w (suc l) s e = way_at k (below k t) ss w.1 l s e

way_end : (k : Key) (t : Tree) (ss : List PathNode) → IsWay k t ss → IsLeaf (stage k t (length ss))
way_end k t [] w = w
way_end k t (x ∷ ss) w = way_end k (below k t) ss w.1

pub stage_suc : (k : Key) (t : Tree) (l : ℕ) → stage k t (suc l) ≡ below k (stage k t l)
stage_suc k t zero = refl
stage_suc k t (suc l) = stage_suc k (below k t) l

pub below_within : (k : Key) (u : Tree) → Within (below k u) u
below_within k (leaf n l v) = here
below_within k (node n x b) = inside (within_child k b)
below_within k (fork p a b) = here

pub stage_within : (k : Key) (t : Tree) (l : ℕ) → Within (stage k t l) t
stage_within k t zero = here
stage_within k t (suc l) = within_trans (stage_within k (below k t) l) (below_within k t)

found-below : (k : Key) (u : Tree) → found k (below k u) ≡ found k u
found-below k (leaf n l v) = refl
found-below k (node n x b) = found_child k b
found-below k (fork p a b) = refl

found-stage : (k : Key) (t : Tree) (l : ℕ) → found k (stage k t l) ≡ found k t
found-stage k t zero = refl
found-stage k t (suc l) = found-stage k (below k t) l ∙ found-below k t

-- the node at a step
pub record IsNodeAt (k : Key) (s : PathNode) (u : Tree) : Type 0 where
  pub number : ℕ
  pub fixed : Fixed
  pub inner : Tree
  pub is : u ≡ node number fixed inner
  pub step : IsStep k s number fixed inner

pub node_at : (k : Key) (s : PathNode) (u : Tree) → IsStepAtTopNode k s u → IsNodeAt k s u
node_at k s (leaf n l v) i = elim i [ ]
node_at k s (node n x b) i = record { number = n; fixed = x; inner = b; is = refl; step = i }
node_at k s (fork p a b) i = elim i [ ]

-- ---- positions rise along a way
way_below : (k : Key) (q : ℕ) (a c b : Tree) → IsTrie b → Within (fork q a c) (child k b) → WayBelow q k b
way_below k q a c (leaf n l v) i w = tt
way_below k q a c (node n x b) i w = tt
way_below k q a c (fork f d e) i w = go (bit k f) (way_below k q a c d i.0) (way_below k q a c e i.1) w
  where
    go : (o : Bool) → (Within (fork q a c) (child k d) → WayBelow q k d) → (Within (fork q a c) (child k e) → WayBelow q k e) →
        Within (fork q a c) (if o then child k e else child k d) → (f < q) × MatchBool o (WayBelow q k e) (WayBelow q k d)
    go true g h w = (rises true (within_trans w (within_child k e)) i.1 (λ y z u v. i.2 y z (inr u) (inr v)) i.4, h w)
    go false g h w = (rises false (within_trans w (within_child k d)) i.0 (λ y z u v. i.2 y z (inl u) (inl v)) i.3, g w)

way_more : (k : Key) (p q : ℕ) (b : Tree) → p ≤ q → WayBelow p k b → WayBelow q k b
way_more k p q (leaf n l v) h w = tt
way_more k p q (node n x b) h w = tt
way_more k p q (fork f d e) h w = (omega (arith, w.0), go (bit k f) (way_more k p q d h) (way_more k p q e h) w.1)
  where
    go : (o : Bool) → (WayBelow p k d → WayBelow q k d) → (WayBelow p k e → WayBelow q k e) →
        MatchBool o (WayBelow p k e) (WayBelow p k d) → MatchBool o (WayBelow q k e) (WayBelow q k d)
    go true x y w = y w
    go false x y w = x w

below_node : (k : Key) (q : ℕ) (a c u : Tree) → IsTrie u → Within (fork q a c) (below k u) → (n : ℕ) (x : Fixed) (b : Tree) → u ≡ node n x b → WayBelow q k (body u)
below_node k q a c (leaf m l v) i w n x b e = absurd cc
below_node k q a c (node m y d) i w n x b e = way_below k q a c d i w
below_node k q a c (fork p d g) i w n x b e = absurd cc

way_rises : (k : Key) (t : Tree) (ss : List PathNode) → IsWay k t ss → IsTrie t → (l j : ℕ) → l < j → (q : ℕ) (a c : Tree) → Within (fork q a c) (stage k t j) →
    l < length ss → WayBelow q k (body (stage k t l))
way_rises k t [] w i l j h q a c in_j o = absurd (omega arith)
way_rises k t (s ∷ ss) w i zero zero h q a c in_j o = absurd (omega arith)
way_rises k t (s ∷ ss) w i zero (suc j) h q a c in_j o =
    let u = node_at k s t w.0 in
    below_node k q a c t i (within_trans in_j (stage_within k (below k t) j)) u.number u.fixed u.inner u.is
way_rises k t (s ∷ ss) w i (suc l) zero h q a c in_j o = absurd (omega arith)
way_rises k t (s ∷ ss) w i (suc l) (suc j) h q a c in_j o =
    way_rises k (below k t) ss w.1 (trie_within (below_within k t) i) l j (omega arith) q a c in_j (omega arith)

-- ---- the affected part
pub part_of_two : (d : Tree) → 2 ≤ size (subtrie d) → IsLeafOrFork d × (is_leaf d ≡ false)
part_of_two (leaf n l v) h = absurd (omega arith)
part_of_two (node n x b) h = absurd (omega arith)
part_of_two (fork q a b) h = (tt, refl)

pub tip_of_one_place : (d : Tree) → size (subtrie d) ≤ 1 → IsTip d
tip_of_one_place (leaf n l v) h = tt
tip_of_one_place (node n x b) h = tt
tip_of_one_place (fork q a b) h = absurd (omega (arith, size_pos (subtrie a), size_pos (subtrie b)))

leaf_part : (d : Tree) → IsLeaf d → IsLeafOrFork d × (is_leaf d ≡ true)
leaf_part (leaf n l v) h = (tt, refl)
leaf_part (node n x b) h = elim h [ ]
leaf_part (fork q a b) h = elim h [ ]

-- where an entry alone is affected, it is that to which the key's search leads
pub tip_child : (p : ℕ) (k : Key) (b : Tree) → IsTip (affected p k b) → (affected p k b ≡ child k b) × WayBelow p k b
tip_child p k (leaf n l v) i = (refl, tt)
tip_child p k (node n x b) i = (refl, tt)
tip_child p k (fork q a c) i = go (ltb q p) refl (bit k q) (tip_child p k a) (tip_child p k c) i
  where
    go : (u : Bool) → ltb q p ≡ u → (o : Bool) → (IsTip (affected p k a) → (affected p k a ≡ child k a) × WayBelow p k a) →
        (IsTip (affected p k c) → (affected p k c ≡ child k c) × WayBelow p k c) → IsTip (if u then (if o then affected p k c else affected p k a) else fork q a c) →
        ((if u then (if o then affected p k c else affected p k a) else fork q a c) ≡ (if o then child k c else child k a)) ×
        ((q < p) × MatchBool o (WayBelow p k c) (WayBelow p k a))
    go true e true f g i = let r = g i in (r.0, (ltb-true q p e, r.1))
    go true e false f g i = let r = f i in (r.0, (ltb-true q p e, r.1))
    go false e o f g i = elim i [ ]

pub has_found : (k : Key) (u : Tree) → Has u (found k u).key
has_found k (leaf n l v) = refl
has_found k (node n x b) = has_found k b
has_found k (fork p a b) =
    elim (bit k p) as (λ o. Has a (if o then found k b else found k a).key ⊎ Has b (if o then found k b else found k a).key) [ true ↦ inr (has_found k b) | false ↦ inl (has_found k a) ]

pub first_fork_is_not : (p : ℕ) (u : Bool) (d : Tree) → IsTrie d → ((y : Key) → Has d y → bit y p ≡ u) → FirstForkIsNot p (subtrie d)
first_fork_is_not p u (leaf n l v) i h = tt
first_fork_is_not p u (node n x b) i h = tt
first_fork_is_not p u (fork q a c) i h = λ e.
    let zero_bit : bit (first a) p ≡ false = ap (bit (first a)) (sym e) ∙ i.3 (first a) (has_first a) in
    let one_bit : bit (first c) p ≡ true = ap (bit (first c)) (sym e) ∙ i.4 (first c) (has_first c) in
    false≢true (sym zero_bit ∙ (h (first a) (inl (has_first a)) ∙ (sym (h (first c) (inr (has_first c))) ∙ one_bit)))

module _ (k l : Key) (p : ℕ) (d : IsFirstDifference k l p) where
  pub agrees : AgreeBelow p k l
  unfolding bit
  agrees = d.agree

  pub differs : bit k p ≢ bit l p
  unfolding bit
  differs = d.differ

  -- all keys of the affected part part from the new key at p
  pub all_away : (b : Tree) → IsTrie b → Has (child k b) l → IsLeafOrFork (affected p k b) → (y : Key) → Has (affected p k b) y → DifferFirstAt p k y
  all_away b i h part y g =
      part_differs_first p k l agrees differs b i part (follows_if_has (child k b) (trie_within (within_child k b) i) l h) y g

  pub root_fresh : (b : Tree) → IsTrie b → Has (child k b) l → IsLeafOrFork (affected p k b) → FirstForkIsNot p (subtrie (affected p k b))
  root_fresh b i h part =
      first_fork_is_not p (if bit k p then false else true) (affected p k b) (trie_within (part_place p k b).0 i) (λ y g. (all_away b i h part y g).1)

pub size_affected : (k : Key) (p : ℕ) (b : Tree) → affected_count p (spot k (subtrie b)) (subtrie b) ≡ size (subtrie (affected p k b))
size_affected k p b = (key_part k p (subtrie b)).count ∙ ap size (sym (affected_subtrie p k b))

-- the range that a position affects from the key's place on
pub affected_range : (k l : Key) (p : ℕ) → IsFirstDifference k l p → (b : Tree) → IsTrie b → Has (child k b) l → IsLeafOrFork (affected p k b) → (first last : ℕ) →
    affected_first p (spot k (subtrie b)) (subtrie b) ≡ first → affected_count p (spot k (subtrie b)) (subtrie b) + first ≡ last + 1 → IsAffected (subtrie b) p first last
affected_range k l p d b trie has part first last from upto =
    let again = affected_again p (subtrie b) (spot k (subtrie b)) (spot_below k (subtrie b)) in
    let root = root_fresh k l p d b trie has part in
    record {
      from = ap (λ j. affected_first p j (subtrie b)) (sym from) ∙ (again.0 ∙ from);
      upto = ap (λ j. j + first) (ap (λ j. affected_count p j (subtrie b)) (sym from) ∙ again.1) ∙ upto;
      fresh = subst (λ j. IsFresh p j (subtrie b)) from ((key_part k p (subtrie b)).fresh (subst (FirstForkIsNot p) (affected_subtrie p k b) root));
    }

-- a body whose first fork is not before p is affected whole
pub record IsPastFilling (k : Key) (p : ℕ) (b : Tree) : Type 0 where
  pub whole : affected p k b ≡ b
  pub part : IsLeafOrFork b
  pub plain : is_leaf b ≡ false
  pub starts : (i : ℕ) → affected_first p i (subtrie b) ≡ 0
  pub counts : (i : ℕ) → affected_count p i (subtrie b) ≡ size (subtrie b)
  pub fresh : FirstForkIsNot p (subtrie b) → IsFresh p 0 (subtrie b)

is_whole : (k : Key) (p : ℕ) (b : Tree) → IsFork b → p ≤ first_position (subtrie b) → IsPastFilling k p b
is_whole k p (leaf n l v) f h = elim f [ ]
is_whole k p (node n x b) f h = elim f [ ]
is_whole k p (fork q a c) f h =
    let e : nat_lt q p ≡ false = le-ltb q p h in
    record {
      whole = rw e refl;
      part = tt;
      plain = refl;
      starts = λ i. rw e refl;
      counts = λ i. rw e refl;
      fresh = λ n. rw e n;
    }

-- ---- the choice
module _ (k : Key) (t : Tree) (p : ℕ) (way : List PathNode) (trie : IsTrie t) (built : IsBuilt t) (w : IsWay k t way) (d : IsFirstDifference k (found k t).key p)
    (level : ℕ) (at : IsLevel way p level) where
  -- the node at a level of the way
  node_here : (l : ℕ) (s : PathNode) → slice_get way l ≡ Some s → IsNodeAt k s (stage k t l)
  node_here l s e = node_at k s (stage k t l) (way_at k t way w l s e)

  trie_here : (l : ℕ) (n : ℕ) (x : Fixed) (b : Tree) → stage k t l ≡ node n x b → IsTrie b
  trie_here l n x b e = subst IsTrie e (trie_within (stage_within k t l) trie)

  built_here : (l : ℕ) (n : ℕ) (x : Fixed) (b : Tree) → stage k t l ≡ node n x b → IsBuilt (node n x b)
  built_here l n x b e = subst IsBuilt e (built_within (stage_within k t l) built)

  has_here : (l : ℕ) (n : ℕ) (x : Fixed) (b : Tree) → stage k t l ≡ node n x b → Has (child k b) (found k t).key
  has_here l n x b e =
      subst (λ y. Has (child k b) y.key) (found_child k b ∙ (sym (ap (found k) e) ∙ found-stage k t l)) (has_found k (child k b))

  -- the forks above the level are before p
  above_level : (l : ℕ) → l < level → WayBelow p k (body (stage k t l))
  above_level l h =
      let s = some_at way level at.within in
      let u = node_here level s.0 s.1 in
      let low : s.0.first_position < p = at.low (omega arith) s.0 s.1 in
      let f = fork_of u.inner (built_here level u.number u.fixed u.inner u.is).0 in
      let q : first_position (subtrie u.inner) ≡ f.0 = ap (λ z. first_position (subtrie z)) f.3 in
      let in_level : Within (fork f.0 f.1 f.2) (stage k t level) = subst (λ z. Within (fork f.0 f.1 f.2) z) (sym (u.is ∙ ap (node u.number u.fixed) f.3)) (inside here) in
      way_more k f.0 p (body (stage k t l)) (omega (arith, u.step.first)) (way_rises k t way w trie l level h f.0 f.1 f.2 in_level (omega (arith, at.within)))

  module _ (first last : ℕ) (from : affected_first p (spot k (subtrie (body (stage k t level)))) (subtrie (body (stage k t level))) ≡ first)
      (upto : affected_count p (spot k (subtrie (body (stage k t level)))) (subtrie (body (stage k t level))) + first ≡ last + 1) where
    -- the affected node is the one at the level
    at_level : (s : PathNode) → slice_get way level ≡ Some s → (one : Bool) → (IsLeafOrFork (affected p k (body (stage k t level))) × (is_leaf (affected p k (body (stage k t level))) ≡ one)) →
        IsAffectedNode k p t (record { level = level; first = first; last = last; case = case_of s.height s.count one })
    at_level s e one part =
        let u = node_here level s e in
        let inner : body (stage k t level) ≡ u.inner = ap body u.is in
        let from' : affected_first p (spot k (subtrie u.inner)) (subtrie u.inner) ≡ first = subst (λ z. affected_first p (spot k (subtrie z)) (subtrie z) ≡ first) inner from in
        let upto' : affected_count p (spot k (subtrie u.inner)) (subtrie u.inner) + first ≡ last + 1 = subst (λ z. affected_count p (spot k (subtrie z)) (subtrie z) + first ≡ last + 1) inner upto in
        let part' : IsLeafOrFork (affected p k u.inner) = subst (λ z. IsLeafOrFork (affected p k z)) inner part.0 in
        record {
          number = u.number;
          fixed = u.fixed;
          inner = u.inner;
          is = u.is;
          above = above_level;
          part = part';
          first = sym from';
          range = affected_range k (found k t).key p d u.inner (trie_here level u.number u.fixed u.inner u.is) (has_here level u.number u.fixed u.inner u.is) part' first last from' upto';
          case = ap (λ h. case_of h s.count one) u.step.height ∙
              (ap (λ n. case_of u.fixed.height n one) u.step.count ∙ ap (case_of u.fixed.height (size (subtrie u.inner))) (sym part.1 ∙ ap (λ z. is_leaf (affected p k z)) inner));
        }

    -- or the next one, all of it
    at_next : (s : PathNode) → slice_get way (level + 1) ≡ Some s → last ≤ first →
        IsAffectedNode k p t (record { level = level + 1; first = 0; last = s.count - 1; case = case_of s.height s.count false })
    at_next s e small =
        let r = some_at way level at.within in
        let o = node_here level r.0 r.1 in
        let u = node_here (level + 1) s e in
        let tip = tip_child p k (body (stage k t level)) (tip_of_one_place (affected p k (body (stage k t level))) (omega (arith, upto, size_affected k p (body (stage k t level))))) in
        let high : p ≤ s.first_position = at.rest (level + 1) s (omega arith) e in
        let z = is_whole k p u.inner (built_here (level + 1) u.number u.fixed u.inner u.is).0 (omega (arith, u.step.first)) in
        let root = subst (λ y. FirstForkIsNot p (subtrie y)) z.whole
        (root_fresh k (found k t).key p d u.inner (trie_here (level + 1) u.number u.fixed u.inner u.is) (has_here (level + 1) u.number u.fixed u.inner u.is) (subst IsLeafOrFork (sym z.whole) z.part)) in
        record {
          number = u.number;
          fixed = u.fixed;
          inner = u.inner;
          is = u.is;
          above = λ l h. elim (cases_order l level) [
            | inl q ↦ subst (λ j. WayBelow p k (body (stage k t j))) (sym q) tip.1
            | inr q ↦ elim q [ inl y ↦ above_level l y | inr y ↦ absurd (omega arith) ]
          ];
          part = subst IsLeafOrFork (sym z.whole) z.part;
          first = sym (z.starts (spot k (subtrie u.inner)));
          range = record {
            from = z.starts 0;
            upto = omega (arith, z.counts 0, u.step.count, size_pos (subtrie u.inner));
            fresh = z.fresh root;
          };
          case = ap (λ h. case_of h s.count false) u.step.height ∙
              (ap (λ n. case_of u.fixed.height n false) u.step.count ∙ ap (case_of u.fixed.height (size (subtrie u.inner))) (sym z.plain ∙ ap is_leaf (sym z.whole)));
        }

    pub chosen : (c : Choice) → IsChosen way level first last c → IsAffectedNode k p t c
    chosen c is =
        let s = some_at way level at.within in
        let count = size_affected k p (body (stage k t level)) in
        elim (cases_lt first last) [
          | inl h ↦ subst (IsAffectedNode k p t) (sym (is.several h s.0 s.1)) (at_level s.0 s.1 false (part_of_two (affected p k (body (stage k t level))) (omega (arith, upto, count))))
          | inr h ↦ elim (cases_lt (level + 1) (length way)) [
            | inl g ↦ let r = some_at way (level + 1) g in subst (IsAffectedNode k p t) (sym (is.next h r.0 r.1)) (at_next r.0 r.1 h)
            | inr g ↦
                let o = node_here level s.0 s.1 in
                let tip = tip_child p k (body (stage k t level)) (tip_of_one_place (affected p k (body (stage k t level))) (omega (arith, upto, count))) in
                let long : length way ≡ suc level = omega (arith, at.within) in
                let end : IsLeaf (child k o.inner) = subst IsLeaf (ap (stage k t) long ∙ (stage_suc k t level ∙ ap (below k) o.is)) (way_end k t way w) in
                let same : affected p k (body (stage k t level)) ≡ child k o.inner = tip.0 ∙ ap (λ z. child k (body z)) o.is in
                subst (IsAffectedNode k p t) (sym (is.leaf h g s.0 s.1)) (at_level s.0 s.1 true (leaf_part (affected p k (body (stage k t level))) (subst IsLeaf (sym same) end)))
          ]
        ]

-- ---- what the code makes of its steps
pub chosen_several : (way : List PathNode) (level first last : ℕ) (s : PathNode) (r : Case) → first < last → slice_get way level ≡ Some s → r ≡ case_of s.height s.count false →
    IsChosen way level first last (record { level = level; first = first; last = last; case = r })
chosen_several way level first last s r h at e = record {
  several = λ _ z f. let same : s ≡ z = some_injective (sym at ∙ f) in
      ap (λ q. let c : Choice = record { level = level; first = first; last = last; case = q } in c) (e ∙ ap (λ (q : PathNode). case_of q.height q.count false) same);
  next = λ g z f. absurd (omega arith);
  leaf = λ g o z f. absurd (omega arith);
}

pub chosen_next : (way : List PathNode) (level first last : ℕ) (s : PathNode) (r : Case) → last ≤ first → level + 1 < length way → slice_get way (level + 1) ≡ Some s →
    r ≡ case_of s.height s.count false → IsChosen way level first last (record { level = level + 1; first = 0; last = s.count - 1; case = r })
chosen_next way level first last s r h o at e = record {
  several = λ g z f. absurd (omega arith);
  next = λ g z f. let same : s ≡ z = some_injective (sym at ∙ f) in
      ap (λ q. let c : Choice = record { level = level + 1; first = 0; last = s.count - 1; case = q } in c) e ∙
      ap (λ (q : PathNode). let c : Choice = record { level = level + 1; first = 0; last = q.count - 1; case = case_of q.height q.count false } in c) same;
  leaf = λ g q z f. absurd (omega arith);
}

pub chosen_leaf : (way : List PathNode) (level first last : ℕ) (s : PathNode) (r : Case) → last ≤ first → length way ≤ level + 1 → slice_get way level ≡ Some s →
    r ≡ case_of s.height s.count true → IsChosen way level first last (record { level = level; first = first; last = last; case = r })
chosen_leaf way level first last s r h o at e = record {
  several = λ g z f. absurd (omega arith);
  next = λ g z f. absurd (let i = slice_get_within way (level + 1) z f in omega arith);
  leaf = λ g q z f. let same : s ≡ z = some_injective (sym at ∙ f) in
      ap (λ q. let c : Choice = record { level = level; first = first; last = last; case = q } in c) (e ∙ ap (λ (q : PathNode). case_of q.height q.count true) same);
}
