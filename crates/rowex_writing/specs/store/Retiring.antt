-- The end of a change: what is unlinked is marked, and what stays is unlocked.
use Rattle.std.specs.Prelude.{◌≡◌, ℕ, Bool, true, false, List, Option}
use Rattle.finite_map.specs.declared.Change.{Change}
use Rattle.record_words.specs.declared.records.Rec.{Rec}
use Rattle.versions.specs.Trades.{AreApart}
use Rattle.insert_cases.specs.declared.choice.PathNode.{PathNode}
use Rattle.compound_node.specs.declared.entries.Entry.{Entry}
use Rattle.record_words.specs.Entry.{entry_word}
use Rattle.rowex_core.specs.declared.event.Spot.{Spot}
use Rattle.rowex_core.specs.declared.event.Spot.TheVariants.{Root, Slot, Value}
use Rattle.rowex_core.specs.declared.known.Known.{Known}
use Rattle.rowex_core.specs.Having.{AreKept, OwnsJust, IsUnlinkedBefore}
use Rattle.rowex_table.specs.Made.{nodes_of}
use Rattle.rowex_table.specs.Publishes.{HasPublished}
use Rattle.rowex_table.specs.Rule.{HasSpot}
use Rattle.rowex_table.specs.Seats.{TableView, SeatView}
use Rattle.rowex_writing.specs.build.Changes.{KnowsWas, MayPublishOnceReady}
use Rattle.rowex_writing.specs.locks.Locks.{AreNodes, numbers_of}
use Rattle.rowex_writing.specs.declared.build.kept.Build.{Build}
use Rattle.rowex_core.specs.Events.{IsOfEntry}
use Rattle.rowex_writing.specs.build.Putting.{AreInTable, IsAnchored}

-- The pass has published a change, and made no step since. The publish has unlinked just the records `gone`, which are the pass's own now.
-- The nodes that it has still locked are just `kept`, each listed once.
abbrev pub HasJustPublished : (new : Known) → (gone : List Rec) → (kept : List ℕ) → Type 0
HasJustPublished new gone kept = (old : Known) × (change : Change) × (was : Option ℕ) × HasPublished old new change was gone kept × AreApart kept

-- The pass's own records are just `recs`, each listed once, and are all still to be marked with `epoch`. The pass has loaded that epoch
-- last, when each of the records was unlinked already.
pub record HasToMark (known : Known) (epoch : ℕ) (recs : List Rec) : Type 0 where
  pub own : OwnsJust known.own (IsUnlinkedBefore known.round.version) recs
  pub apart : AreApart recs
  pub epoch_is : epoch ≡ known.round.epoch

-- the pass has the same locks, that of the anchor as well, and has seen the same changes
abbrev pub KeepsLocks : (old new : Known) → Type 0
KeepsLocks old new = (new.locks ≡ old.locks) × (new.anchor ≡ old.anchor) × (new.front ≡ old.front)

-- whether the spot is the root
abbrev pub is_root : Spot → Bool
is_root Root = true
is_root (Slot number slot) = false
is_root (Value leaf) = false

-- Once its new records are ready, the pass may make this change by a store of the entry at the spot, which is the root or a slot. The store
-- unlinks `build.gone`; if a leaf is among these, the pass has loaded its value, which is `was`. `kept` are its other locked nodes, each
-- once. The anchor is locked exactly if the spot is the root. The table has the spot and the records.
pub record MayStore (table : TableView) (seat : SeatView) (build : Build) (kept : List PathNode) (spot : Spot) (entry : Option Entry)
    (change : Change) (was : Option ℕ) : Type 0 where
  pub ready : MayPublishOnceReady table seat build.made.items spot (entry_word entry) change was build.gone.items
  pub of_entry : IsOfEntry spot
  pub told : KnowsWas seat.known build.gone.items was
  pub there : HasSpot table.layout spot
  pub records : AreInTable table.layout build.gone.items
  pub nodes : AreNodes table.layout kept
  pub keeps : AreKept (nodes_of seat.known.locks) build.gone.items (numbers_of kept)
  pub apart : AreApart (numbers_of kept)
  pub anchored : IsAnchored (is_root spot) seat.known
