-- What a pass has read of the root, and of the nodes that a plan speaks of.
use Rattle.std.specs.Prelude.{◌≡◌, ℕ, ◌+◌, List, slice_get, Some, ◌<◌, ◌≤◌}
use Rattle.node_tries.specs.Growth.{affected_first, affected_count}
use Rattle.tries.specs.Keys.{Key}
use Rattle.tries.specs.Place.{spot}
use Rattle.tries.specs.Tree.{Subtrie}
use Rattle.insert_cases.specs.declared.choice.PathNode.{PathNode}
use Rattle.insert_cases.specs.Levels.{IsLevel}
use Rattle.rowex_core.specs.declared.known.Known.{Known}
use Rattle.version_laws.specs.Scan.{HadShapeSince}
use Rattle.rowex_reading.specs.Seen.{Sure}
use Rattle.rowex_reading.specs.declared.descent.Found.{Found}
use Rattle.rowex_reading.specs.declared.descent.Found.TheVariants.{Leaf}
use Rattle.rowex_writing.specs.plan.Plans.{IsPlan}
use Rattle.rowex_writing.specs.declared.plan.Aim.{Aim}
use Rattle.rowex_writing.specs.declared.plan.Plan.{Plan}
use Rattle.finite_map.specs.Fronts.{BeginsWith}

-- an insertion of the key at the position affects the entries in slots `first` to `last` of the subtrie
pub record AffectsJust (key : Key) (position first last : ℕ) (shown : Subtrie) : Type 0 where
  pub from : affected_first position (spot key shown) shown ≡ first
  pub upto : affected_count position (spot key shown) shown + first ≡ last + 1

-- Let the search have ended at a leaf with another key. Then a new leaf affects the entries in slots `first` to `last` of the node at the
-- level of the first bit that differs. The pass has read the forks of that node, since the root's load at `version`. Of another end nothing
-- is said.
abbrev pub AreAffected : (known : Known) → (version : ℕ) → (key : Key) → (way : List PathNode) → (found : Found) → (first last : ℕ) → Type 0
AreAffected known version key way (Leaf number value (Some position)) first last =
    (level : ℕ) (node : PathNode) → IsLevel way position level → slice_get way level ≡ Some node →
    (forks : Subtrie) × Sure known (λ past. HadShapeSince past version node.number forks) × AffectsJust key position first last forks
AreAffected known version key way found first last = Unit {0}

-- The plan for this aim, by the path and the end of a search for the key. If a new leaf's affected entries matter, it is by the forks that
-- the pass has read since the search loaded the root at `version`.
abbrev pub IsPlanned : (known : Known) → (version : ℕ) → (key : Key) → (way : List PathNode) → (aim : Aim) → (found : Found) →
    (plan : Plan) → Type 0
IsPlanned known version key way aim found plan =
    (first : ℕ) × (last : ℕ) × IsPlan way first last aim found plan × AreAffected known version key way found first last

-- The pass last loaded the root between `before` and `later`. By that load it had seen all changes that it knew at `before`. At `later` it
-- still knows all that it had seen by that load.
pub record HasLoadedRoot (before later : Known) : Type 0 where
  pub from : before.steps ≤ later.fresh.step
  pub upto : later.fresh.step < later.steps
  pub old : BeginsWith later.fresh.front before.front
  pub new : BeginsWith later.front later.fresh.front
