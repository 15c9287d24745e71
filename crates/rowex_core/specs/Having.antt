-- What a pass has, by lists in which nothing is left out.
use Rattle.std.specs.Prelude.{[], ◌∷◌, Bool, true, false, not, filter, if◌then◌else◌, ◌≡◌, ◌⊎◌, ℕ, ◌<◌, List}
use Rattle.record_words.specs.declared.records.Rec.{Rec}
use Rattle.record_words.specs.declared.records.Rec.TheVariants.{Node as a_node}
use Rattle.rowex_core.specs.declared.known.Holding.TheVariants.{Unlinked}
use Rattle.rowex_core.specs.declared.known.Locked.{Locked}
use Rattle.rowex_core.specs.declared.known.Owned.{Owned}
use Rattle.versions.specs.Steps.{same_rec}
use Rattle.versions.specs.Trades.{IsOneOf}

-- The records in the list `own`, a pass's own, are exactly the records `recs`. Each of them has the property P, which may tell how it is
-- held.
pub record OwnsJust (own : List Owned) (P : Owned → Type 0) (recs : List Rec) : Type 0 where
  pub only : (owned : Owned) → IsOneOf owned own → IsOneOf owned.rec recs × P owned
  pub each : (rec : Rec) → IsOneOf rec recs → (owned : Owned) × IsOneOf owned own × (owned.rec ≡ rec)

-- true of every record of a pass's own, however it is held
abbrev pub InAnyWay : Owned → Type 0
InAnyWay owned = Unit {0}

-- the pass has unlinked the record, in some version, and not yet marked it
abbrev pub IsUnlinked : Owned → Type 0
IsUnlinked owned = (since : ℕ) × (last : ℕ) × (owned.holding ≡ Unlinked since last)

-- the pass has unlinked the record, and the last version that links the record is below `version`
abbrev pub IsUnlinkedBefore : (version : ℕ) → (owned : Owned) → Type 0
IsUnlinkedBefore version owned = (since : ℕ) × (last : ℕ) × (owned.holding ≡ Unlinked since last) × (last < version)

-- The nodes of a pass's list `locks` are exactly those of the numbers `nodes`.
pub record LocksJust (locks : List Locked) (nodes : List ℕ) : Type 0 where
  pub only : (lock : Locked) → IsOneOf lock locks → IsOneOf lock.node nodes
  pub each : (number : ℕ) → IsOneOf number nodes → (lock : Locked) × IsOneOf lock locks × (lock.node ≡ number)

-- The nodes `kept` are exactly those of `held` whose records are not among the records `gone`.
pub record AreKept (held : List ℕ) (gone : List Rec) (kept : List ℕ) : Type 0 where
  pub only : (number : ℕ) → IsOneOf number held → IsOneOf number kept ⊎ IsOneOf (a_node number) gone
  pub each : (number : ℕ) → IsOneOf number kept → IsOneOf number held × (IsOneOf (a_node number) gone → ⊥)

-- whether the record is in the list
abbrev pub is_among : Rec → List Rec → Bool
is_among rec [] = false
is_among rec (other ∷ others) = if same_rec rec other then true else is_among rec others

-- the nodes of `held` whose records are not among the records `gone`
abbrev pub kept_locks : List ℕ → List Rec → List ℕ
kept_locks held gone = filter (λ number. not (is_among (a_node number) gone)) held
