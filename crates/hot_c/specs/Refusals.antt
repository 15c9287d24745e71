-- What the status of a refused call tells.
use Rattle.std.specs.Prelude.{◌≡◌, ◌≢◌, ◌+◌, ℕ}
use Rattle.finite_map.specs.declared.Call.{Call}
use Rattle.rowex_writing.specs.declared.attempts.TryFault.TheVariants.{FullLeaves, FullNodes}
use Rattle.rowex_writing.specs.declared.plan.Full.TheVariants.{Nodes, Leaves}
use Rattle.hot_index_calls.specs.Answers.{MayRefuse}
use Rattle.hot_index_calls.specs.Refusals.{OfLeaves}
use Rattle.hot_index_calls.specs.declared.census.RecordCounts.{RecordCounts}
use Rattle.hot_index_calls.specs.declared.census.StateCounts.{StateCounts}
use Rattle.hot_index_calls.specs.declared.refusals.Refusal.{Refusal}
use Rattle.hot_index_calls.specs.declared.refusals.Refusal.TheVariants.{Busy, HeldBack, Full}
use Rattle.hot_c.specs.declared.status.TheConstants.{BUSY, FULL_NODES, FULL_LEAVES, KEY_TOO_LONG, HELD_BACK}

-- Of one kind or class the index has no record, in whatever state, and none that is uncommitted.
abbrev pub HasNoRecord : (counts : StateCounts) → Type 0
HasNoRecord counts = counts.free + counts.held + counts.live + counts.obsolete + counts.uncommitted ≡ 0

-- What the status says of a call that lacks a leaf record. If the index has none with room for a key of this length, in whatever state, the
-- key is too long. Else the leaf records are full.
pub record TellsOfLeaves (length : ℕ) (counts : RecordCounts) (status : ℕ) : Type 0 where
  pub none : OfLeaves HasNoRecord length counts → status ≡ KEY_TOO_LONG
  pub taken : ¬ OfLeaves HasNoRecord length counts → status ≡ FULL_LEAVES

-- The status says why a call for a key of this length was refused. Where leaf records are full, it says so as `TellsOfLeaves` has it.
abbrev pub TellsRefusal : (length : ℕ) (refusal : Refusal) (status : ℕ) → Type 0
TellsRefusal length Busy status = status ≡ BUSY
TellsRefusal length (HeldBack lacks) status = status ≡ HELD_BACK
TellsRefusal length (Full Nodes counts) status = status ≡ FULL_NODES
TellsRefusal length (Full Leaves counts) status = TellsOfLeaves length counts status

-- The status tells a lack only of records that the call may lack: `FULL_NODES` of node records, `FULL_LEAVES` of leaf records, and
-- `HELD_BACK` of either.
pub record TellsWhatMay (call : Call) (status : ℕ) : Type 0 where
  pub nodes : ¬ MayRefuse call FullNodes → status ≢ FULL_NODES
  pub leaves : ¬ MayRefuse call FullLeaves → status ≢ FULL_LEAVES
  pub held : ¬ MayRefuse call FullNodes → ¬ MayRefuse call FullLeaves → status ≢ HELD_BACK

-- the status tells no lack of records: it says neither full nor held back
abbrev pub TellsOfNoLack : (status : ℕ) → Type 0
TellsOfNoLack status = (status ≢ FULL_NODES) × (status ≢ FULL_LEAVES) × (status ≢ HELD_BACK)
