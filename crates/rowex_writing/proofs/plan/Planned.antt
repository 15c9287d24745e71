-- The entries that a new leaf's position affects, by the forks that were read.
use Rattle.rowex_writing.proofs.Common.{◌≡◌, ℕ, zero, suc, ◌+◌, ◌-◌, ◌<◌, ◌≤◌, List, length, Some, None, refl, sym, ap, subst, ◌∙◌, arith, ⊎_elim, cases_lt, slice_get_within, slice_get, PathNode, IsLevel, some_at, affected_first, affected_count, Layout, Key, spot, Subtrie, Known, HadShapeSince, IsLater, IsPossible, Sure, shaped_stable, since_later, sure_later, IsWayOf, Found, Nothing, Leaf}
use Rattle.node_tries.proofs.Growth.{affected_fits}
use Rattle.rowex_reading.proofs.Possible.Shapes.{same_shape}
use Rattle.rowex_writing.specs.plan.Plans.{DiffersAt, IsPlan}
use Rattle.rowex_writing.specs.declared.plan.Aim.{Aim}
use Rattle.rowex_writing.specs.declared.plan.Plan.{Plan}
use Rattle.rowex_writing.specs.plan.Planned.{AffectsJust, AreAffected, IsPlanned}

-- ---- levels of a way
same_step : (way : List PathNode) (i : ℕ) (s t : PathNode) → slice_get way i ≡ Some s → slice_get way i ≡ Some t → t ≡ s
same_step way i s t e f = let z : Some t ≡ Some s = sym f ∙ e in cc

-- from this step on none is before the position
abbrev IsBeyond : List PathNode → (p k : ℕ) → Type 0
IsBeyond way p k = (j : ℕ) (s : PathNode) → k < j → slice_get way j ≡ Some s → p ≤ s.first_position

level_here : (way : List PathNode) (p k : ℕ) (s : PathNode) → k < length way → IsBeyond way p k → slice_get way k ≡ Some s → s.first_position < p → IsLevel way p k
level_here way p k s within rest at low = record { within = within; low = λ o t e. subst (λ (z : PathNode). z.first_position < p) (sym (same_step way k s t at e)) low; rest = rest }

level_above : (way : List PathNode) (p k : ℕ) (s : PathNode) → IsBeyond way p (suc k) → slice_get way (suc k) ≡ Some s → p ≤ s.first_position → IsBeyond way p k
level_above way p k s rest at high = λ j t o e. ⊎_elim (λ above. rest j t above e) (λ le.
    let same : j ≡ suc k = omega (arith, o, le) in
    subst (λ (z : PathNode). p ≤ z.first_position) (sym (same_step way (suc k) s t at (subst (λ i. slice_get way i ≡ Some t) same e))) high) (cases_lt (suc k) j)

-- a way with a node has a level for each position
level_from : (way : List PathNode) (p k : ℕ) → k < length way → IsBeyond way p k → (level : ℕ) × IsLevel way p level
level_from way p zero within rest = (zero, record { within = within; low = λ o. absurd (omega arith); rest = rest })
level_from way p (suc k) within rest =
    let (s, at) = some_at way (suc k) within in
    ⊎_elim (λ low. (suc k, level_here way p (suc k) s within rest at low)) (λ high. level_from way p k (omega arith) (level_above way p k s rest at high)) (cases_lt s.first_position p)

-- and just one
no_higher : (way : List PathNode) (p a b : ℕ) → IsLevel way p a → IsLevel way p b → b ≤ a
no_higher way p a b x y = ⊎_elim (λ less. let s = some_at way b y.within in let low = y.low (omega (arith, less)) s.0 s.1 in let high = x.rest b s.0 less s.1 in absurd (omega (arith, low, high))) (λ o. o) (cases_lt a b)

pub one_level : (way : List PathNode) (p a b : ℕ) → IsLevel way p a → IsLevel way p b → a ≡ b
one_level way p a b x y = let u = no_higher way p a b x y in let v = no_higher way p b a y x in omega (arith, u, v)

-- ---- the affected entries
some_affected : (key : Key) (p : ℕ) (x : Subtrie) → (first : ℕ) × (last : ℕ) × AffectsJust key p first last x
some_affected key p x =
    let first = affected_first p (spot key x) x in
    let count = affected_count p (spot key x) x in
    let some = (affected_fits p x (spot key x)).1 in
    (first, count + first - 1, record { from = refl; upto = omega (arith, some) })

at_level : (k : Known) (m : ℕ) (key : Key) (way : List PathNode) (n v p first last level : ℕ) (s : PathNode) (x : Subtrie) → IsLevel way p level → slice_get way level ≡ Some s →
    Sure k (λ past. HadShapeSince past m s.number x) → AffectsJust key p first last x → AreAffected k m key way (Leaf n v (Some p)) first last
at_level k m key way n v p first last level s x is at shapes affects = λ other t also there.
    let same : t ≡ s = (let z : Some t ≡ Some s = sym there ∙ (ap (slice_get way) (one_level way p other level also is) ∙ at) in cc) in
    (x, subst (λ (z : PathNode). Sure k (λ past. HadShapeSince past m z.number x)) (sym same) shapes, affects)

-- of whatever was found, there are some
pub are_affected : (layout : Layout) (k : Known) (m : ℕ) (key : Key) (way : List PathNode) (found : Found) → IsWayOf layout k m key way found → (first : ℕ) × (last : ℕ) × AreAffected k m key way found first last
are_affected layout k m key way Nothing w = (0, 0, tt)
are_affected layout k m key way (Leaf n v None) w = (0, 0, tt)
are_affected layout k m key way (Leaf n v (Some p)) w = ⊎_elim some none (cases_lt 0 (length way))
  where
    none : length way ≤ 0 → (first : ℕ) × (last : ℕ) × AreAffected k m key way (Leaf n v (Some p)) first last
    none empty = (0, 0, λ level s is at. absurd (let low = is.within in omega (arith, low, empty)))

    some : 0 < length way → (first : ℕ) × (last : ℕ) × AreAffected k m key way (Leaf n v (Some p)) first last
    some long =
        let l = level_from way p (length way - 1) (omega (arith, long)) (λ j s o e. absurd (let t = within j s e in omega (arith, t, o))) in
        let s = some_at way l.0 l.1.within in
        let node = (w.nodes l.0 s.0 s.1).2 in
        let a = some_affected key p node.forks in
        (a.0, a.1, at_level k m key way n v p a.0 a.1 l.0 s.0 node.forks l.1 s.1 node.shaped a.2)
      where
        within : (j : ℕ) (s : PathNode) → slice_get way j ≡ Some s → j < length way
        within j s e = slice_get_within way j s e

-- by the forks that were loaded at the level
pub affected_there : (layout : Layout) (k j : Known) (m : ℕ) (key : Key) (way : List PathNode) (n v p first last level : ℕ) (s : PathNode) (x : Subtrie) → IsPossible layout j → IsLater k j →
    IsWayOf layout k m key way (Leaf n v (Some p)) → IsLevel way p level → slice_get way level ≡ Some s → Sure j (λ past. HadShapeSince past m s.number x) →
    affected_first p s.slot x ≡ first → affected_count p s.slot x + first ≡ last + 1 → AreAffected j m key way (Leaf n v (Some p)) first last
affected_there layout k j m key way n v p first last level s x possible later w is at shapes from upto =
    let node = (w.nodes level s at).2 in
    let same : node.forks ≡ x = same_shape layout j m s.number node.forks x possible (since_later later w.since) (sure_later (shaped_stable m s.number node.forks) later node.shaped) shapes in
    let place : s.slot ≡ spot key x = node.at ∙ ap (spot key) same in
    at_level j m key way n v p first last level s x is at shapes (record {
      from = subst (λ z. affected_first p z x ≡ first) place from;
      upto = subst (λ z. affected_count p z x + first ≡ last + 1) place upto;
    })

-- ---- the plan that comes of them
module _ (layout : Layout) (k j : Known) (m : ℕ) (key : Key) (way : List PathNode) (aim : Aim) where
  pub known_planned : (found : Found) (plan : Plan) → ((first last : ℕ) → IsPlan way first last aim found plan) → IsWayOf layout k m key way found → IsPlanned k m key way aim found plan
  known_planned found plan is w = let (first, last, are) = are_affected layout k m key way found w in (first, last, is first last, are)

  pub beside_planned : (found : Found) (plan : Plan) (p first last level : ℕ) (s : PathNode) (x : Subtrie) → DiffersAt found p → IsPossible layout j → IsLater k j →
      IsWayOf layout k m key way found → IsLevel way p level → slice_get way level ≡ Some s → Sure j (λ past. HadShapeSince past m s.number x) →
      affected_first p s.slot x ≡ first → affected_count p s.slot x + first ≡ last + 1 → IsPlan way first last aim found plan → IsPlanned j m key way aim found plan
  beside_planned found plan p first last level s x (n, v, differs) possible later w is at shapes from upto planned = (
    first,
    last,
    planned,
    subst (λ f. AreAffected j m key way f first last) (sym differs)
        (affected_there layout k j m key way n v p first last level s x possible later (subst (IsWayOf layout k m key way) differs w) is at shapes from upto),
  )
