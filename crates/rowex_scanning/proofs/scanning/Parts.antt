-- A scan for which memory was refused, as one that was cut at the number of its pairs.
use Rattle.rowex_scanning.proofs.Common.{◌≡◌, ◌<◌, ◌≤◌, ◌∷◌, refl, sym, subst, arith, true, ℕ, Leaf, PathNode, Key, Known, IsLater, before, Range, seen, since, Direction}
use Rattle.std.specs.Prelude.{List}
use Rattle.rowex_scanning.specs.Scanning.{HasTaken, HasTakenPart, IsLeafRefused, IsLeafJudged, IsPairRefused, limited}
use Rattle.rowex_scanning.specs.Tallies.{IsNone, IsKept, Tally}
use Rattle.rowex_scanning.specs.declared.scan.Verdict.TheVariants.{Full}
use Rattle.rowex_scanning.proofs.direction.Directed.{scan_limited}
use Rattle.rowex_scanning.proofs.Walking.{IsAtEntry, IsBeforeEntry, IsRootRead, leaf_full, walk_full}

-- A walk is one with the limit of its pairs, too.
pub before_limited : {d : Direction} {k : Known} {m : ℕ} {g : Range} {at : PathNode} {frames : List PathNode} {t : Tally} → IsBeforeEntry d k m g at frames t → IsBeforeEntry d k m (limited g t.size) at frames t
before_limited {d} {k} {m} {g} {t = t} w = record {
  stands = w.stands;
  scan = λ c lawful recalls.
      let (taken, tallied, s) = w.scan c lawful recalls in
      (taken, tallied, scan_limited (seen c k) m g d t.size (before d w.stands.stage ∷ w.stands.others) taken (let n = tallied.0 in omega (arith, n)) s);
}

module _ {d : Direction} {k : Known} {g : Range} (t u : Tally) (kept : IsKept t u) (room : t.size < g.limit) where
  pub part_is : HasTaken d k (limited g t.size) u true → HasTakenPart d k g u
  part_is h = (subst (λ z. z < g.limit) (sym kept.0) room, subst (λ z. HasTaken d k (limited g z) u true) (sym kept.0) h)

module _ (g : Range) (key : Key) (t u : Tally) (r : IsPairRefused g t key u) (short : t.size ≤ g.limit) where
  has_room : t.size < g.limit
  has_room = let other = r.1 in omega (arith, other, short)

-- At a leaf of the walk.
pub walk_part : {d : Direction} {k j : Known} {m : ℕ} {g : Range} {at : PathNode} {frames : List PathNode} {t u : Tally} {number : ℕ} → IsLater k j → IsLeafRefused k j g number t u → t.size ≤ g.limit →
    since j ≡ m → IsAtEntry d k m g at frames t (Leaf number) → HasTakenPart d j g u
walk_part {d} {k} {j} {g = g} {t = t} {u = u} {number = number} l r short same a =
    let cut : IsLeafJudged k j (d, (limited g t.size)) number t u Full = record { key = r.key; value = r.value; read = r.read; taken = (r.refused.0, refl, r.refused.2) } in
    part_is t u r.refused.2 (has_room g r.key t u r.refused short) (walk_full (record { walk = before_limited a.walk; placed = a.placed }) l cut same refl)

-- At the leaf that is the root.
pub leaf_part : (d : Direction) {k j : Known} (g : Range) {number : ℕ} {key : Key} {value : ℕ} → IsRootRead k j number key value → (t u : Tally) → IsNone t → IsPairRefused g t key u → HasTakenPart d j g u
leaf_part d g {key = key} of t u none r = part_is t u r.2 (has_room g key t u r (let few = none.0 in omega (arith, few))) (leaf_full d (limited g t.size) of t u none Full (r.0, refl, r.2) refl)
