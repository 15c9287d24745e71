-- Reserved and committed records. A table reserves all its records. Of each kind the first ones are committed: passes claim these alone. A
-- word of the table says how many are uncommitted, the last ones. That word only falls, and is 0 in a table whose records are all committed.
use Rattle.std.specs.Prelude.{◌≡◌, ◌⊎◌, ℕ, ◌-◌, ◌<◌, ◌≤◌, nat_lt, if◌then◌else◌, List, [], ◌∷◌}
use Rattle.record_words.specs.declared.layout.Layout.{Layout}
use Rattle.record_words.specs.declared.records.Rec.{Rec}
use Rattle.record_words.specs.declared.records.Rec.TheVariants.{Node as a_node, Leaf as a_leaf}
use Rattle.versions.specs.State.{IsLinked}
use Rattle.rowex_core.specs.declared.event.Act.{Act}
use Rattle.rowex_core.specs.declared.event.Act.TheVariants.{Claim, Load}
use Rattle.rowex_core.specs.declared.event.Event.{Event}
use Rattle.rowex_core.specs.Events.{loaded_tree}

-- the kind of a record, as a number
abbrev pub record_kind : Layout → Rec → ℕ
record_kind layout (a_node number) = 0
record_kind layout (a_leaf number) =
    if nat_lt number layout.medium_from then 1 else (if nat_lt number layout.large_from then 2 else
    (if nat_lt number layout.wide_from then 3 else (if nat_lt number layout.long_from then 4 else 5)))

-- how many records of its kind stand from this one on, itself counted
abbrev pub count_from : Layout → Rec → ℕ
count_from layout (a_node number) = layout.nodes - number
count_from layout (a_leaf number) =
    (if nat_lt number layout.medium_from then layout.medium_from else (if nat_lt number layout.large_from then layout.large_from else
    (if nat_lt number layout.wide_from then layout.wide_from else (if nat_lt number layout.long_from then layout.long_from else layout.leaves)))) - number

-- The record is committed: fewer of its kind are uncommitted than stand from this one on.
abbrev pub IsCommitted : Layout → (uncommitted : ℕ → ℕ) → Rec → Type 0
IsCommitted layout uncommitted rec = uncommitted (record_kind layout rec) < count_from layout rec

-- of each kind the first numbers are no greater than the second
abbrev pub AtMost : (less more : ℕ → ℕ) → Type 0
AtMost less more = (kind : ℕ) → less kind ≤ more kind

-- the act tries to claim the record, or is a bulk load that links it
abbrev pub TakesRecord : Layout → Act → Rec → Type 0
TakesRecord layout (Claim rec found) other = other ≡ rec
TakesRecord layout (Load words) rec = IsLinked (loaded_tree layout words.now) rec
TakesRecord layout act rec = ⊥

-- one of the steps tries to claim the record, or is a bulk load that links it
abbrev pub IsTaken : Layout → List Event → Rec → Type 0
IsTaken layout [] rec = ⊥
IsTaken layout (event ∷ events) rec = TakesRecord layout event.act rec ⊎ IsTaken layout events rec

-- Of the kind, each record that one of the steps takes is committed where `count` are uncommitted.
abbrev pub TakenAreCommitted : Layout → List Event → (kind count : ℕ) → Type 0
TakenAreCommitted layout events kind count = (rec : Rec) → IsTaken layout events rec → record_kind layout rec ≡ kind → count < count_from layout rec

-- A claim is of a committed record. Of other acts nothing is asked.
abbrev pub ClaimsCommitted : Layout → (uncommitted : ℕ → ℕ) → Act → Type 0
ClaimsCommitted layout uncommitted (Claim rec found) = IsCommitted layout uncommitted rec
ClaimsCommitted layout uncommitted act = Unit {0}
