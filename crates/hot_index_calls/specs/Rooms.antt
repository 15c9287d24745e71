-- What an index of one pass has room for: a removal finds a node record, and after a full call no record is retired.
use Rattle.std.specs.Prelude.{◌≡◌, ◌≢◌, ◌+◌, ◌<◌, length, true, Result, Err}
use Rattle.finite_map.specs.declared.Call.{Call}
use Rattle.finite_map.specs.declared.Reply.{Reply}
use Rattle.record_words.specs.declared.TheConstants.{EPOCHS}
use Rattle.record_words.specs.declared.layout.Layout.{Layout}
use Rattle.record_words.specs.declared.records.Rec.{Rec}
use Rattle.versions.specs.Core.{Fate, Unlinked, Marked}
use Rattle.rowex_core.specs.Cores.{Core, HasRecord}
use Rattle.publish_laws.specs.Lone.{HasSpare, IsLone, KeepsSpare}
use Rattle.rowex_table.specs.Seats.{SeatView}
use Rattle.rowex_writing.specs.build.Spare.{IsRemoval}
use Rattle.rowex_writing.specs.declared.attempts.TryFault.{TryFault}
use Rattle.rowex_writing.specs.declared.attempts.TryFault.TheVariants.{FullNodes}
use Rattle.hot_index_calls.specs.Traces.{is_full}

-- The seat knows fewer steps than there are epochs, by more than two. In an index of one pass these are all steps, and each raises the
-- epoch by one at most: so the epochs are not used up.
abbrev pub IsEarly : SeatView → Type 0
IsEarly seat = length seat.trace + 2 < EPOCHS

-- In an index of one pass let a node record be outside the tree before a removal, and let epochs not be used up. Then the removal is not
-- refused for want of a node record. Of other calls nothing is said.
abbrev pub FindsRoom : (layout : Layout) (call : Call) (result : Result Reply TryFault) (old new : SeatView) → Type 0
FindsRoom layout call result old new = IsRemoval call → layout.passes ≡ 1 → HasSpare layout old → IsEarly new → result ≢ Err FullNodes

-- In an index of one pass, if a node record stood outside the tree before the call, one does after it (`spares`). Then a removal is not
-- refused for want of a node record (`finds`), while epochs are not used up.
pub record LeavesRoom (layout : Layout) (call : Call) (result : Result Reply TryFault) (old new : SeatView) : Type 0 where
  pub spares : KeepsSpare layout old new
  pub finds : FindsRoom layout call result old new

-- a record of this fate is not retired, marked or not: it is free, claimed, or in the tree
abbrev pub IsUnretired : Fate → Type 0
IsUnretired (Unlinked since last pass) = ⊥
IsUnretired (Marked since last epoch) = ⊥
IsUnretired fate = Unit {0}

-- If the table has one pass, the record is not retired after that pass's trace.
abbrev pub IsUnretiredAt : (layout : Layout) (seat : SeatView) (rec : Rec) → Type 0
IsUnretiredAt layout seat rec = (core : Core) → IsLone layout seat core → IsUnretired (core.fate rec)

-- If the table has one pass, none of its records is retired after that pass's trace.
abbrev pub HasNoneRetired : (layout : Layout) (seat : SeatView) → Type 0
HasNoneRetired layout seat = (rec : Rec) → HasRecord layout rec → IsUnretiredAt layout seat rec

-- In an index of one pass, no record is retired after a call that was refused as full, if epochs are not used up. Its round of collection
-- has given all back.
abbrev pub LeavesNoneRetired : (layout : Layout) (result : Result Reply TryFault) (seat : SeatView) → Type 0
LeavesNoneRetired layout result seat = layout.passes ≡ 1 → is_full result ≡ true → IsEarly seat → HasNoneRetired layout seat
