-- What a stamp does to the pass that makes it, and to one that follows it.
use Rattle.std.specs.Prelude.{◌≡◌, suc, List}
use Rattle.finite_map.specs.declared.Change.{Change}
use Rattle.finite_map.specs.Fronts.{BeginsWith}
use Rattle.record_words.specs.declared.layout.Layout.{Layout}
use Rattle.rowex_table.specs.Rule.{with_front}
use Rattle.rowex_table.specs.Seats.{IsShownAll, StampView, TableView}
use Rattle.hot_index_calls.specs.Answers.{IsUnnoted}
use Rattle.hot_index_calls.specs.Passes.{PassView, pass_of}

-- a pass of this index made the stamp
abbrev pub IsStampFrom : (index : TableView) (stamp : StampView) → Type 0
IsStampFrom index stamp = stamp.table ≡ index.id

-- The pass has made a stamp. Its seat counts the stamp, and what it knows stays the same.
abbrev pub HasStamped : (old new : PassView) → Type 0
HasStamped old new = new ≡ record old { seat = record old.seat { asides = suc old.seat.asides } }

-- The pass may have seen more changes. All else that it knows stays the same.
abbrev pub HasSeenMore : (old new : PassView) → Type 0
HasSeenMore old new = new.seat.known ≡ with_front new.front old.seat.known

-- The pass has followed the stamp, whose changes are `stamp`. It has seen these changes, beside those that it had seen before, and knows
-- the steps that made them. It has made no step and noted no call. Its seat counts that it followed a stamp, and is the same otherwise.
pub record HasCaughtUp (layout : Layout) (stamp : List Change) (old new : PassView) : Type 0 where
  pub unnoted : IsUnnoted layout old new
  pub told : BeginsWith new.front stamp
  pub shown : IsShownAll layout old.seat new.seat
  pub rest : new ≡ pass_of (record old.seat { known = with_front new.front old.seat.known; trace = new.seat.trace; asides = suc old.seat.asides })
