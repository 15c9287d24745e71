-- What a call does, by what it asks for and where its search ended.
use Rattle.std.specs.Prelude.{◌≡◌, ℕ, ◌+◌, ◌-◌, ◌≤◌, List, [], ◌∷◌, length, Some, None}
use Rattle.finite_map.specs.declared.Reply.TheVariants.{Exists, Absent}
use Rattle.insert_cases.specs.declared.choice.Case.{Case}
use Rattle.insert_cases.specs.declared.choice.Case.TheVariants.{LeafPushdown, NormalInsert, Overflow}
use Rattle.insert_cases.specs.declared.choice.Choice.{Choice}
use Rattle.insert_cases.specs.declared.choice.PathNode.{PathNode}
use Rattle.insert_cases.specs.Levels.{IsLevel, IsChosen, IsChainEnd}
use Rattle.rowex_writing.specs.declared.plan.Aim.{Aim}
use Rattle.rowex_writing.specs.declared.plan.Aim.TheVariants.{Insert, Upsert, Remove}
use Rattle.rowex_writing.specs.declared.plan.Deed.{Deed}
use Rattle.rowex_writing.specs.declared.plan.Deed.TheVariants.{Put, PushDown, Grow, Take, TakeTop, Empty, Value}
use Rattle.rowex_reading.specs.declared.descent.Found.{Found}
use Rattle.rowex_reading.specs.declared.descent.Found.TheVariants.{Nothing, Leaf}
use Rattle.rowex_writing.specs.declared.plan.Outline.{Outline}
use Rattle.rowex_writing.specs.declared.plan.Outline.TheVariants.{Known, Beside}
use Rattle.rowex_writing.specs.declared.plan.Plan.{Plan}
use Rattle.rowex_writing.specs.declared.plan.Plan.TheVariants.{Answer, Change}

-- the plan that remakes the nodes of the path from index `end` to before `len`, and does the deed at their lower end
abbrev pub change : (len end : ℕ) → Deed → Plan
change len end deed = Change (record { len = len; end = end }) deed

-- ---- a removal

-- the deed of a removal, by whether its path has no node, one, or more
abbrev pub removal_deed : List PathNode → Deed
removal_deed [] = Empty
removal_deed (step ∷ []) = TakeTop
removal_deed (step ∷ next ∷ way) = Take

-- the deed is that of a removal: it takes out the leaf that the search found
abbrev pub TakesLeaf : Deed → Type 0
TakesLeaf Take = Unit {0}
TakesLeaf TakeTop = Unit {0}
TakesLeaf Empty = Unit {0}
TakesLeaf deed = ⊥

-- ---- a new leaf beside affected entries

-- The plan for a new leaf in the chosen node, by the case of the insertion. A pushdown remakes no node, and a normal insertion the chosen
-- one. An overflow remakes the nodes up to the end of its chain of pull ups, too.
abbrev pub IsCase : (way : List PathNode) → (position : ℕ) → (chosen : Choice) → (kind : Case) → (plan : Plan) → Type 0
IsCase way position chosen LeafPushdown plan = plan ≡ change (chosen.level + 1) (chosen.level + 1) (PushDown position)
IsCase way position chosen NormalInsert plan = plan ≡ change (chosen.level + 1) chosen.level (Grow position)
IsCase way position chosen Overflow plan = (end : ℕ) × IsChainEnd way chosen.level end × (plan ≡ change (chosen.level + 1) end (Grow position))

-- The plan for a new leaf that affects the entries in slots `first` to `last` of the node at this level of the path. By these the node to
-- change and the case are chosen.
abbrev pub IsBeside : List PathNode → (position level first last : ℕ) → Plan → Type 0
IsBeside way position level first last plan = (chosen : Choice) × IsChosen way level first last chosen × IsCase way position chosen chosen.case plan

-- The plan for a new leaf, whose key first differs from the found one at this position. If the path has no nodes, the found leaf is the
-- root, and is pushed down.
abbrev pub IsNewLeafPlan : List PathNode → (position first last : ℕ) → Plan → Type 0
IsNewLeafPlan [] position first last plan = plan ≡ change 0 0 (PushDown position)
IsNewLeafPlan (step ∷ way) position first last plan =
    (level : ℕ) × IsLevel (step ∷ way) position level × IsBeside (step ∷ way) position level first last plan

-- ---- all calls

-- The plan of a call with this aim, whose search took this path and ended as `found` says. A new leaf affects the entries in slots `first`
-- to `last` of the node at its level. Plans without a new leaf don't depend on these slots.
abbrev pub IsPlan : (way : List PathNode) → (first last : ℕ) → (aim : Aim) → (found : Found) → (plan : Plan) → Type 0
-- the first key
IsPlan way first last Insert Nothing plan = plan ≡ change 0 0 Put
IsPlan way first last Upsert Nothing plan = plan ≡ change 0 0 Put
-- a key that is absent
IsPlan way first last Insert (Leaf number value (Some position)) plan = IsNewLeafPlan way position first last plan
IsPlan way first last Upsert (Leaf number value (Some position)) plan = IsNewLeafPlan way position first last plan
-- a key that has a value
IsPlan way first last Insert (Leaf number value None) plan = plan ≡ Answer (Exists value)
IsPlan way first last Upsert (Leaf number value None) plan = plan ≡ change (length way) (length way) Value
-- a removal
IsPlan way first last Remove Nothing plan = plan ≡ Answer Absent
IsPlan way first last Remove (Leaf number value (Some position)) plan = plan ≡ Answer Absent
IsPlan way first last Remove (Leaf number value None) plan = plan ≡ change (length way) (length way - 1) (removal_deed way)

-- ---- before the affected entries are known

-- The outline for a new leaf. Either it has the plan, which is then right whichever entries are affected. Or it names the level at which
-- the affected entries are to be read, and each plan by these is one for the new leaf.
abbrev pub IsBesideFound : (way : List PathNode) → (position : ℕ) → (outline : Outline) → Type 0
IsBesideFound way position (Known plan) = (first last : ℕ) → IsNewLeafPlan way position first last plan
IsBesideFound way position (Beside at level) = (at ≡ position) × IsLevel way position level ×
    ((first last : ℕ) (plan : Plan) → IsBeside way position level first last plan → IsNewLeafPlan way position first last plan)

-- the search ended at a leaf with another key, and the two keys first differ at this position
abbrev pub DiffersAt : (found : Found) → (position : ℕ) → Type 0
DiffersAt found position = (number : ℕ) × (value : ℕ) × (found ≡ Leaf number value (Some position))

-- The outline of a call on this path. Either it has the plan, which is then right whichever entries are affected. Or a leaf with another
-- key was found, and it names the level at which the affected entries are to be read. Each plan by these is one for the call.
abbrev pub IsOutline : (way : List PathNode) → (aim : Aim) → (found : Found) → (outline : Outline) → Type 0
IsOutline way aim found (Known plan) = (first last : ℕ) → IsPlan way first last aim found plan
IsOutline way aim found (Beside position level) = DiffersAt found position × IsLevel way position level ×
    ((first last : ℕ) (plan : Plan) → IsBeside way position level first last plan → IsPlan way first last aim found plan)

-- the span of the plan is a part of the path; a plan that only replies has none
abbrev pub LiesOnWay : List PathNode → Plan → Type 0
LiesOnWay way (Answer reply) = Unit {0}
LiesOnWay way (Change span deed) = (span.end ≤ span.len) × (span.len ≤ length way)
