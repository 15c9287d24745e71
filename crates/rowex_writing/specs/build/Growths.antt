-- What a pass has before it adds a new leaf to the nodes of its span, once the leaf's record is made.
use Rattle.std.specs.Prelude.{◌≡◌, ℕ, ◌*◌, ◌<◌, ◌≤◌, List, length, slice_get, Some}
use Rattle.compound_node.specs.declared.entries.Entry.{Entry}
use Rattle.compound_node.specs.declared.entries.Entry.TheVariants.{Leaf, Node}
use Rattle.insert_cases.specs.declared.choice.PathNode.{PathNode}
use Rattle.key_bits.specs.declared.TheConstants.{MAX_BYTES}
use Rattle.record_words.specs.declared.records.Rec.{Rec}
use Rattle.rowex_core.specs.declared.event.Spot.{Spot}
use Rattle.publish_laws.specs.Spots.{IsSpotOf}
use Rattle.rowex_table.specs.Rule.{HasSpot}
use Rattle.rowex_table.specs.Seats.{TableView, SeatView}
use Rattle.rowex_writing.specs.build.Building.{FitsAbove, IsGrowing}
use Rattle.rowex_writing.specs.locks.Going.{HasLocked}
use Rattle.rowex_writing.specs.locks.Locks.{AreNodes, HasLockedSpan}
use Rattle.rowex_writing.specs.build.Putting.{IsSpotAbove}
use Rattle.rowex_writing.specs.declared.plan.job.Job.{Job}
use Rattle.rowex_writing.specs.declared.build.remaking.NewLeaf.{NewLeaf}
use Rattle.tries.specs.Content.{item}

-- the number of the entry's record fits into 32 bits
abbrev pub HasNumber : Entry → Type 0
HasNumber (Leaf number) = number < 4294967296
HasNumber (Node number height) = number < 4294967296

-- No record is made but the new leaf's. The job's span, at least one node, is locked, and its lowest node may get the leaf (`IsGrowing`).
-- An entry of a height that `FitsAbove` allows may stand in the place of the span's topmost node, at the spot above. The path's nodes are
-- the table's, and no more than a longest key's.
pub record MayGrow (table : TableView) (seat : SeatView) (made : List Rec) (job : Job) (new : NewLeaf) : Type 0 where
  pub within : (job.span.end < job.span.len) × (job.span.len ≤ length job.way.now)
  pub depth : length job.way.now ≤ 9 * MAX_BYTES
  pub nodes : AreNodes table.layout job.way.now
  pub locked : HasLockedSpan seat.known job.way.now job.span
  pub growing : IsGrowing table seat made job.way.now job.span new
  pub item_is : growing.lowest.item ≡ item new.number new.key.now job.value
  pub place : (node : PathNode) (words : List ℕ) (entry : Entry) (spot : Spot) → slice_get job.way.now job.span.end ≡ Some node →
      HasLocked seat.known node.number words → FitsAbove words entry → IsSpotAbove job.way.now job.span.end spot →
      IsSpotOf seat.known seat.known.locks new.key.now new.position node.number entry spot × HasSpot table.layout spot
