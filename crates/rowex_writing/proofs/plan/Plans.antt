-- The span of a plan lies on the way.
use Rattle.rowex_writing.proofs.Common.{◌≡◌, ℕ, ◌+◌, ◌<◌, ◌≤◌, ◌∙◌, Bool, true, false, List, [], ◌∷◌, length, nat_lt, refl, ap, sym, subst, arith, Some, None, ⊎_elim, Option, cases_lt, le-ltb, lt-ltb, slice_get_within, slice_get, Case, LeafPushdown, NormalInsert, Overflow, Choice, PathNode, IsChainEnd, IsChosen, IsLevel, case_of, some_at, some_injective, Found, Nothing, Leaf, Reply, Key, Known}
use Rattle.rowex_writing.specs.plan.Plans.{change, LiesOnWay, IsCase, IsBeside, IsNewLeafPlan, IsPlan, TakesLeaf, removal_deed}
use Rattle.rowex_writing.specs.declared.plan.Aim.{Aim}
use Rattle.rowex_writing.specs.declared.plan.Aim.TheVariants.{Insert, Upsert, Remove, Insert as ToInsert, Upsert as ToUpsert, Remove as ToRemove}
use Rattle.rowex_writing.specs.declared.plan.Deed.{Deed}
use Rattle.rowex_writing.specs.declared.plan.Deed.TheVariants.{Empty, Grow, Put, Take, TakeTop, Value as ValueDeed}
use Rattle.rowex_writing.specs.declared.plan.Plan.{Plan}
use Rattle.rowex_writing.specs.declared.plan.Plan.TheVariants.{Answer, Change, Change as a_change}
use Rattle.rowex_writing.specs.declared.plan.Span.{Span}
use Rattle.rowex_writing.specs.plan.Planned.{IsPlanned}

-- the chosen node is one of the way
pub chosen_within : (way : List PathNode) (level first last : ℕ) (c : Choice) → level < length way → IsChosen way level first last c → c.level < length way
chosen_within way level first last c h is = ⊎_elim several (λ o. ⊎_elim (next o) (leaf o) (cases_lt (level + 1) (length way))) (cases_lt first last)
  where
    here : (s : PathNode) × (slice_get way level ≡ Some s)
    here = some_at way level h

    several : first < last → c.level < length way
    several o = let e = ap (λ (z : Choice). z.level) (is.several o here.0 here.1) in omega arith

    next : last ≤ first → level + 1 < length way → c.level < length way
    next o m = let s = some_at way (level + 1) m in let e = ap (λ (z : Choice). z.level) (is.next o s.0 s.1) in omega arith

    leaf : last ≤ first → length way ≤ level + 1 → c.level < length way
    leaf o m = let e = ap (λ (z : Choice). z.level) (is.leaf o m here.0 here.1) in omega arith

changed : (way : List PathNode) (len end : ℕ) (deed : Deed) (plan : Plan) → end ≤ len → len ≤ length way → plan ≡ change len end deed → LiesOnWay way plan
changed way len end deed plan h l is = subst (LiesOnWay way) (sym is) (h, l)

answered : (way : List PathNode) (plan : Plan) {reply : _} → plan ≡ Answer reply → LiesOnWay way plan
answered way plan is = subst (LiesOnWay way) (sym is) tt

case_within : (way : List PathNode) (position : ℕ) (c : Choice) (case : Case) (plan : Plan) → c.level < length way → IsCase way position c case plan → LiesOnWay way plan
case_within way position c LeafPushdown plan h is = changed way _ _ _ plan (omega arith) (omega arith) is
case_within way position c NormalInsert plan h is = changed way _ _ _ plan (omega arith) (omega arith) is
case_within way position c Overflow plan h is = let u = is.1.upto in changed way _ _ _ plan (omega arith) (omega arith) is.2

pub beside_within : (way : List PathNode) (position level first last : ℕ) (plan : Plan) → level < length way → IsBeside way position level first last plan → LiesOnWay way plan
beside_within way position level first last plan h is = case_within way position is.0 is.0.case plan (chosen_within way level first last is.0 h is.1) is.2

new_within : (way : List PathNode) (position first last : ℕ) (plan : Plan) → IsNewLeafPlan way position first last plan → LiesOnWay way plan
new_within [] position first last plan is = changed [] _ _ _ plan (omega arith) (omega arith) is
new_within (s ∷ ss) position first last plan is = beside_within (s ∷ ss) position is.0 first last plan is.1.within is.2

pub plan_within : (way : List PathNode) (first last : ℕ) (aim : Aim) (found : Found) (plan : Plan) → IsPlan way first last aim found plan → LiesOnWay way plan
plan_within way first last Insert Nothing plan is = changed way _ _ _ plan (omega arith) (omega arith) is
plan_within way first last Upsert Nothing plan is = changed way _ _ _ plan (omega arith) (omega arith) is
plan_within way first last Insert (Leaf n v (Some p)) plan is = new_within way p first last plan is
plan_within way first last Upsert (Leaf n v (Some p)) plan is = new_within way p first last plan is
plan_within way first last Insert (Leaf n v None) plan is = answered way plan is
plan_within way first last Upsert (Leaf n v None) plan is = changed way _ _ _ plan (omega arith) (omega arith) is
plan_within way first last Remove Nothing plan is = answered way plan is
plan_within way first last Remove (Leaf n v (Some p)) plan is = answered way plan is
plan_within way first last Remove (Leaf n v None) plan is = changed way _ _ _ plan (omega arith) (omega arith) is

-- Where the last node of the way has leaves alone, the leaf goes into it, whichever entries are affected.
module _ (way : List PathNode) (position level : ℕ) (s : PathNode) (plan : Plan) (last : level + 1 ≡ length way) (at : slice_get way level ≡ Some s) (low : s.height ≤ 1) (first upto : ℕ) where
  abbrev low_choice : Choice
  low_choice = record { level = level; first = first; last = upto; case = case_of s.height s.count false }

  low_case : (one_leaf : Bool) → case_of s.height s.count false ≡ case_of s.height s.count one_leaf
  low_case true = let e : nat_lt 1 s.height ≡ false = le-ltb 1 s.height low in rw e refl
  low_case false = refl

  same : (t : PathNode) → slice_get way level ≡ Some t → s ≡ t
  same t there = some_injective (sym at ∙ there)

  low_chosen : IsChosen way level first upto low_choice
  low_chosen = record {
    several = λ more t there. subst (λ (z : PathNode). low_choice ≡ record { level = level; first = first; last = upto; case = case_of z.height z.count false }) (same t there) refl;
    next = λ few t there. absurd (let within = slice_get_within way (level + 1) t there in omega (arith, within, last));
    leaf = λ few past t there. subst (λ (z : PathNode). low_choice ≡ record { level = level; first = first; last = upto; case = case_of z.height z.count true }) (same t there)
        (ap (λ case. record { level = level; first = first; last = upto; case = case }) (low_case true));
  }

  pub low_room : s.count < 32 → plan ≡ change (level + 1) level (Grow position) → IsBeside way position level first upto plan
  low_room room is = (low_choice, low_chosen, subst (λ case. IsCase way position low_choice case plan) (sym (case_room room)) is)
    where
      case_room : s.count < 32 → case_of s.height s.count false ≡ NormalInsert
      case_room room = let e : nat_lt s.count 32 ≡ true = lt-ltb s.count 32 room in rw e refl

  pub low_full : 32 ≤ s.count → (end : ℕ) → IsChainEnd way level end → plan ≡ change (level + 1) end (Grow position) → IsBeside way position level first upto plan
  low_full full end chain is = (low_choice, low_chosen, subst (λ case. IsCase way position low_choice case plan) (sym (case_full full)) (end, chain, is))
    where
      case_full : 32 ≤ s.count → case_of s.height s.count false ≡ Overflow
      case_full full = let e : nat_lt s.count 32 ≡ false = le-ltb s.count 32 full in rw e refl

-- a plan at the level is that of the new leaf
pub new_leaf_at : (way : List PathNode) (position level first upto : ℕ) (plan : Plan) → IsLevel way position level → IsBeside way position level first upto plan → IsNewLeafPlan way position first upto plan
new_leaf_at [] position level first upto plan is beside = absurd (let within = is.within in omega (arith, within))
new_leaf_at (s ∷ ss) position level first upto plan is beside = (level, is, beside)

-- the same change is at the same span
abbrev len_of : Plan → ℕ
len_of (Answer reply) = 0
len_of (Change span deed) = span.len

abbrev end_of : Plan → ℕ
end_of (Answer reply) = 0
end_of (Change span deed) = span.end

pub same_span : {l e m f : ℕ} {d o : Deed} → change l e d ≡ change m f o → (l ≡ m) × (e ≡ f)
same_span is = (ap len_of is, ap end_of is)

abbrev deed_of : Plan → Deed
deed_of (Answer reply) = Put
deed_of (Change span deed) = deed

pub same_deed : {l e m f : ℕ} {d o : Deed} → change l e d ≡ change m f o → d ≡ o
same_deed is = ap deed_of is

-- ---- a removal
pub taking_takes : (way : List PathNode) → TakesLeaf (removal_deed way)
taking_takes [] = tt
taking_takes (step ∷ []) = tt
taking_takes (step ∷ next ∷ way) = tt

-- no other deed is one
pub takes_too : {l e m f : ℕ} {d : Deed} (way : List PathNode) → change l e d ≡ change m f (removal_deed way) → TakesLeaf d
takes_too way is = subst TakesLeaf (sym (ap deed_of is)) (taking_takes way)

-- each is that of a way with so many nodes
pub taking_below : (way : List PathNode) → 1 < length way → removal_deed way ≡ Take
taking_below [] some = absurd (omega (arith, some))
taking_below (step ∷ []) some = absurd (omega (arith, some))
taking_below (step ∷ next ∷ way) some = refl

pub taking_top : (way : List PathNode) → length way ≡ 1 → removal_deed way ≡ TakeTop
taking_top [] one = absurd (omega (arith, one))
taking_top (step ∷ []) one = refl
taking_top (step ∷ next ∷ way) one = absurd (omega (arith, one))

pub taking_none : (way : List PathNode) → length way ≡ 0 → removal_deed way ≡ Empty
taking_none [] none = refl
taking_none (step ∷ way) none = absurd (omega (arith, none))

pub below_taking : (way : List PathNode) → Take ≡ removal_deed way → 1 < length way
below_taking [] is = absurd cc
below_taking (step ∷ []) is = absurd cc
below_taking (step ∷ next ∷ way) is = omega arith

pub top_taking : (way : List PathNode) → TakeTop ≡ removal_deed way → length way ≡ 1
top_taking [] is = absurd cc
top_taking (step ∷ []) is = refl
top_taking (step ∷ next ∷ way) is = absurd cc

pub none_taking : (way : List PathNode) → Empty ≡ removal_deed way → length way ≡ 0
none_taking [] is = refl
none_taking (step ∷ []) is = absurd cc
none_taking (step ∷ next ∷ way) is = absurd cc

-- a plan that changes the map is no answer
abbrev is_answer : Plan → Bool
is_answer (Answer reply) = true
is_answer (a_change span deed) = false

pub no_answer : {A : Type 0} (reply : Reply) (span : Span) (deed : Deed) → Answer reply ≡ a_change span deed → A
no_answer reply span deed e = absurd (let z : true ≡ false = ap is_answer e in cc)

-- the span of a plan that changes the map
abbrev span_in : Plan → Span
span_in (Answer reply) = record { len = 0; end = 0 }
span_in (a_change span deed) = span

no_value : (way : List PathNode) (p first last : ℕ) (span : Span) → IsNewLeafPlan way p first last (a_change span ValueDeed) → ⊥
no_value [] p first last span e = cc
no_value (s ∷ way) p first last span (level, at, (chosen, choice, case)) = go chosen.case case
  where
    go : (case : Case) → IsCase (s ∷ way) p chosen case (a_change span ValueDeed) → ⊥
    go LeafPushdown e = cc
    go NormalInsert e = cc
    go Overflow (end, upto, e) = cc

abbrev pub deed_in : Plan → Deed
deed_in (Answer r) = Put
deed_in (a_change span deed) = deed

-- where the leaf has the key
pub found_for_key : (found : Found) (n v o w : ℕ) (mismatch : Option ℕ) → found ≡ Leaf o w None → found ≡ Leaf n v mismatch → found ≡ Leaf n v None
found_for_key found n v o w mismatch a b =
    let both : Leaf n v mismatch ≡ Leaf o w None = sym b ∙ a in let none : mismatch ≡ None = cc in b ∙ ap (λ z. Leaf n v z) none

-- the value deed is done to a leaf that was found for the key
pub value_found : (k : Known) (m : ℕ) (key : Key) (way : List PathNode) (aim : Aim) (found : Found) (span : Span) → IsPlanned k m key way aim found (a_change span ValueDeed) →
    (number : ℕ) × (value : ℕ) × (found ≡ Leaf number value None) × (span.len ≡ length way) × (span.end ≡ length way)
value_found k m key way ToInsert Nothing span (first, last, is, affected) = absurd (cc)
value_found k m key way ToUpsert Nothing span (first, last, is, affected) = absurd (cc)
value_found k m key way ToRemove Nothing span (first, last, is, affected) = no_answer _ span ValueDeed (sym is)
value_found k m key way ToInsert (Leaf n v (Some p)) span (first, last, is, affected) = absurd (no_value way p first last span is)
value_found k m key way ToUpsert (Leaf n v (Some p)) span (first, last, is, affected) = absurd (no_value way p first last span is)
value_found k m key way ToRemove (Leaf n v (Some p)) span (first, last, is, affected) = no_answer _ span ValueDeed (sym is)
value_found k m key way ToInsert (Leaf n v None) span (first, last, is, affected) = no_answer _ span ValueDeed (sym is)
value_found k m key way ToUpsert (Leaf n v None) span (first, last, is, affected) = (n, v, refl, ap (λ (s : Span). s.len) (ap span_in is), ap (λ (s : Span). s.end) (ap span_in is))
value_found k m key way ToRemove (Leaf n v None) span (first, last, is, affected) = absurd (subst TakesLeaf (sym (ap deed_in is)) (taking_takes way))

-- a change to a leaf that was found for the key has a span to the end of the way
pub plan_reaches : (k : Known) (m : ℕ) (key : Key) (way : List PathNode) (aim : Aim) (found : Found) (span : Span) (deed : Deed) → IsPlanned k m key way aim found (a_change span deed) →
    (n v : ℕ) → found ≡ Leaf n v None → span.len ≡ length way
plan_reaches k m key way aim found span deed planned n v is = go aim (subst (λ f. IsPlanned k m key way aim f (a_change span deed)) is planned)
  where
    go : (a : Aim) → IsPlanned k m key way a (Leaf n v None) (a_change span deed) → span.len ≡ length way
    go ToInsert (first, last, plan, affected) = no_answer _ span deed (sym plan)
    go ToUpsert (first, last, plan, affected) = ap (λ (s : Span). s.len) (ap span_in plan)
    go ToRemove (first, last, plan, affected) = ap (λ (s : Span). s.len) (ap span_in plan)
