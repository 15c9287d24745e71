-- A comb with one more fork behind is a comb.
use Rattle.std.proofs.Common.{List, [], ap, arith, get_or, length, refl, sym, take, true, ℕ, ◌++◌, ◌+◌, ◌-◌, ◌<◌, ◌≤◌, ◌∙◌, ◌∷◌, ◌≡◌}
use Rattle.std.proofs.lemmas.Bool.{le-ltb, lt-ltb}
use Rattle.std.proofs.lemmas.List.{length-take-le, take_more}
use Rattle.compound_node.specs.Nodes.{IsBuiltFrom, NodeView, piece}
use Rattle.compound_node.specs.declared.entries.Entry.TheVariants.{Leaf}
use Rattle.node_tries.specs.Growth.{IsAffected, IsFresh, affected_count, affected_first, grown}
use Rattle.node_tries.specs.Piece.{Fork, Place, places}
use Rattle.node_tries.specs.Positions.{AllBelow}
use Rattle.value_tests.specs.Combs.{comb}

-- ---- the last place, and a position behind all forks
module _ (p : ℕ) where
  last_is_first : (i leaf : ℕ) (ps : List ℕ) → i ≡ length ps → AllBelow p ps → affected_first p i (comb leaf ps) ≡ i
  last_is_first i leaf [] e below = sym e
  last_is_first i leaf (q ∷ ps) e below =
      let h : affected_first p (i - 1) (comb (leaf + 1) ps) ≡ i - 1 = last_is_first (i - 1) (leaf + 1) ps (omega arith) below.1 in
      rw (lt-ltb q p below.0, le-ltb i 1 (omega arith)) (omega arith)

  last_is_alone : (i leaf : ℕ) (ps : List ℕ) → i ≡ length ps → AllBelow p ps → affected_count p i (comb leaf ps) ≡ 1
  last_is_alone i leaf [] e below = refl
  last_is_alone i leaf (q ∷ ps) e below = rw (lt-ltb q p below.0, le-ltb i 1 (omega arith)) (last_is_alone (i - 1) (leaf + 1) ps (omega arith) below.1)

  last_is_fresh : (i leaf : ℕ) (ps : List ℕ) → i ≡ length ps → AllBelow p ps → IsFresh p i (comb leaf ps)
  last_is_fresh i leaf [] e below = tt
  last_is_fresh i leaf (q ∷ ps) e below = rw (lt-ltb q p below.0, le-ltb i 1 (omega arith)) (last_is_fresh (i - 1) (leaf + 1) ps (omega arith) below.1)

  pub last_of_comb : (i : ℕ) (ps : List ℕ) → i ≡ length ps → AllBelow p ps → IsAffected (comb 0 ps) p i i
  last_of_comb i ps e below =
      let first = last_is_first i 0 ps e below in
      let alone = last_is_alone i 0 ps e below in
      record {
        from = first;
        upto = omega (arith, first, alone);
        fresh = last_is_fresh i 0 ps e below;
      }

  grown_comb : (i leaf next : ℕ) (ps : List ℕ) → i ≡ length ps → next ≡ leaf + i + 1 → AllBelow p ps →
      grown p true (Leaf next) i (comb leaf ps) ≡ comb leaf (ps ++ p ∷ [])
  grown_comb i leaf next [] e is_next below = let h : next ≡ leaf + 1 = omega arith in rw h refl
  grown_comb i leaf next (q ∷ ps) e is_next below =
      let rest : grown p true (Leaf next) (i - 1) (comb (leaf + 1) ps) ≡ comb (leaf + 1) (ps ++ p ∷ []) =
      grown_comb (i - 1) (leaf + 1) next ps (omega arith) (omega arith) below.1 in
      rw (lt-ltb q p below.0, le-ltb i 1 (omega arith)) (ap (Fork q (Place (Leaf leaf))) rest)

length-comb : (leaf : ℕ) (ps : List ℕ) → length (places (comb leaf ps)) ≡ length ps + 1
length-comb leaf [] = refl
length-comb leaf (p ∷ ps) = let h : length (places (comb (leaf + 1) ps)) ≡ length ps + 1 = length-comb (leaf + 1) ps in omega arith

pub below_later : (p q : ℕ) (ps : List ℕ) → p ≤ q → AllBelow p ps → AllBelow q ps
below_later p q [] le below = tt
below_later p q (r ∷ ps) le below = (omega (arith, below.0), below_later p q ps le below.1)

below_last : (p q : ℕ) (ps : List ℕ) → AllBelow q ps → p < q → AllBelow q (ps ++ p ∷ [])
below_last p q [] below le = (le, tt)
below_last p q (r ∷ ps) below le = (below.0, below_last p q ps below.1 le)

-- ---- up to a position of the list
pub record IsCombUpTo (positions : List ℕ) (i : ℕ) (node : NodeView) : Type 0 where
  pub shows_it : piece node ≡ comb 0 (take i positions)
  pub count : length node.entries ≡ i + 1
  pub below : AllBelow (get_or positions (i - 1) 0 + 1) (take i positions)

module _ (ps : List ℕ) (node : NodeView) (i : ℕ) (up : IsCombUpTo ps i node) (some : 1 ≤ i) (more : i < length ps) (rises : get_or ps (i - 1) 0 < get_or ps i 0) where
  counted : i ≡ length (take i ps)
  counted = sym (length-take-le i ps (omega arith))

  before : AllBelow (get_or ps i 0) (take i ps)
  before = below_later _ _ (take i ps) (omega arith) up.below

  pub last_is_affected : IsAffected (piece node) (get_or ps i 0) i i
  last_is_affected = rw up.shows_it (last_of_comb (get_or ps i 0) i (take i ps) counted before)

  pub comb_goes_on : (new : NodeView) (next : ℕ) → next ≡ i + 1 → IsBuiltFrom new (grown (get_or ps i 0) true (Leaf next) i (piece node)) → IsCombUpTo ps (i + 1) new
  comb_goes_on new next is_next built =
      let longer : take (i + 1) ps ≡ take i ps ++ get_or ps i 0 ∷ [] = take_more ps i 0 more in
      let goes_on = grown_comb (get_or ps i 0) i 0 next (take i ps) counted (omega arith) before in
      let is = built.shows_it ∙ ap (grown (get_or ps i 0) true (Leaf next) i) up.shows_it ∙ goes_on ∙ ap (comb 0) (sym longer) in
      let size : length (places (comb 0 (take (i + 1) ps))) ≡ length (take (i + 1) ps) + 1 = length-comb 0 (take (i + 1) ps) in
      let back : i + 1 - 1 ≡ i = omega arith in
      let all : length (take (i + 1) ps) ≡ i + 1 = length-take-le (i + 1) ps (omega arith) in
      record {
        shows_it = is;
        count = ap length built.lawful.shows.entries_are ∙ ap (λ part. length (places part)) is ∙ size ∙ ap (λ n. n + 1) all;
        below = rw (longer, back) (below_last (get_or ps i 0) _ (take i ps) (below_later _ _ (take i ps) (omega arith) before) (omega arith));
      }
