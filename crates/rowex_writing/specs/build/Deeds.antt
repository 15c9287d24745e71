-- What a deed has made, before any of it is linked, and what may come of it.
use Rattle.std.specs.Prelude.{◌≡◌, ℕ, ◌+◌, ◌-◌, ◌*◌, ◌≤◌, List, [], ◌∷◌, ◌++◌, map, length, slice_range, Option, Some, None, Result, IfOk, IfErr}
use Rattle.finite_map.specs.declared.Change.{Change}
use Rattle.insert_cases.specs.declared.choice.PathNode.{PathNode}
use Rattle.record_words.specs.declared.records.Rec.{Rec}
use Rattle.record_words.specs.declared.records.Rec.TheVariants.{Node as a_node, Leaf as a_leaf}
use Rattle.record_words.specs.Entry.{entry_word}
use Rattle.rowex_core.specs.declared.event.Event.{Event}
use Rattle.rowex_core.specs.declared.event.Spot.{Spot}
use Rattle.rowex_core.specs.declared.known.Known.{Known}
use Rattle.rowex_table.specs.Seats.{TableView, SeatView}
use Rattle.rowex_reading.specs.declared.descent.Found.TheVariants.{Leaf as FoundLeaf}
use Rattle.rowex_writing.specs.build.Building.{HasNotMade}
use Rattle.rowex_writing.specs.build.Changes.{IsDeedChange, IsFull, MayPublishOnceReady}
use Rattle.rowex_writing.specs.plan.Counts.{deed_steps, spare_steps}
use Rattle.rowex_writing.specs.locks.Going.{WorksOn}
use Rattle.rowex_writing.specs.locks.Locks.{locks_of}
use Rattle.rowex_writing.specs.build.Putting.{IsSpotAbove, AreInTable}
use Rattle.rowex_writing.specs.declared.build.kept.Build.{Build}
use Rattle.rowex_writing.specs.declared.plan.job.Job.{Job}
use Rattle.rowex_writing.specs.declared.plan.job.Raised.{Raised}
use Rattle.rowex_writing.specs.declared.plan.Deed.{Deed}
use Rattle.rowex_writing.specs.declared.plan.Deed.TheVariants.{Empty, Take, TakeTop}
use Rattle.rowex_writing.specs.declared.plan.Full.{Full}
use Rattle.rowex_writing.specs.declared.plan.Span.{Span}

-- the leaf record to unlink, if there is one
abbrev pub leaf_gone : (number : Option ℕ) → List Rec
leaf_gone None = []
leaf_gone (Some number) = a_leaf number ∷ []

-- the records to unlink: the nodes of the span before index `raised.low`, and the leaf of `raised`, if it has one
abbrev pub gone_of_span : (way : List PathNode) → (span : Span) → (raised : Raised) → List Rec
gone_of_span way span raised = map (λ (node : PathNode). a_node node.number) (slice_range way span.end raised.low) ++ leaf_gone raised.leaf

-- the locked nodes that stay: the one above the span, if there is one, and those of the span from index `raised.low` on
abbrev pub kept_of_span : (way : List PathNode) → (span : Span) → (raised : Raised) → List PathNode
kept_of_span way span raised = slice_range way (span.end - 1) span.end ++ slice_range way raised.low span.len

-- What is raised takes the place of the job's span. All nodes of the span are to be unlinked, or all but the lowest. If a leaf is, it is
-- the found one, whose value is `was`. That leaf and the records in `made` are at most two for each lock. Once these records are ready, the
-- pass may make this change by a store of the raised entry above the span.
pub record MayReplace (table : TableView) (seat : SeatView) (made : List Rec) (job : Job) (raised : Raised) (change : Change)
    (was : Option ℕ) : Type 0 where
  pub from : job.span.end ≤ raised.low
  pub upto : raised.low ≤ job.span.len
  pub most : job.span.len ≤ raised.low + 1
  pub leaf : AreInTable table.layout (leaf_gone raised.leaf)
  pub ends : (spot : Spot) → IsSpotAbove job.way.now job.span.end spot →
      MayPublishOnceReady table seat made spot (entry_word raised.entry) change was (gone_of_span job.way.now job.span raised)
  pub few : length made + length (leaf_gone raised.leaf) ≤ 2 * locks_of job.span
  -- the leaf that goes is the found one, and the key had its value
  pub takes : (number : ℕ) → raised.leaf ≡ Some number → (value : ℕ) × (job.found ≡ FoundLeaf number value None) × (was ≡ Some value)

-- The pass has made the records that the deed asks for, and linked none. Once they are ready, it may make the deed's change by a store of
-- the raised entry above the job's span (`MayReplace`).
abbrev pub HasRaised : (table : TableView) → (old : Known) → (seat : SeatView) → (made : List Rec) → (job : Job) → (deed : Deed) →
    (raised : Raised) → Type 0
HasRaised table old seat made job deed raised =
    (change : Change) × (was : Option ℕ) × IsDeedChange old.pass deed job.key.now job.value job.found change was ×
    MayReplace table seat made job raised change was

-- By these bounds those records are committed which a change must find not free before it lacks one, of those that its pass knew to be
-- committed by `bounds`. A deed that takes a leaf away goes on over uncommitted node records, and must find each one not free.
abbrev pub bounds_of_deed : (deed : Deed) → (bounds : List ℕ) → List ℕ
bounds_of_deed Take bounds = []
bounds_of_deed TakeTop bounds = []
bounds_of_deed Empty bounds = []
bounds_of_deed deed bounds = bounds

-- Since `old` the pass wanted a record of the kind `full`, and none was free of those that are committed by these bounds (`IsFull`). That is
-- a node record beside those in `made`, or a leaf record with room for the job's key. Its own records are just those in `made`, at most two
-- for each lock of the span.
pub record HasNoneFree (table : TableView) (bounds : List ℕ) (old : Known) (seat : SeatView) (made : List Rec) (job : Job) (full : Full) : Type 0 where
  pub not_made : HasNotMade table seat made
  pub few : length made ≤ 2 * locks_of job.span
  pub full_of : IsFull table.layout bounds job.key.now old seat.known made full

-- The pass has gone on under its locks. It has made what the deed asks for, and linked none of it, or a record was wanted and none was
-- free, of those that the deed must find not free (`bounds_of_deed`). It has made at most the steps of `deed_steps`, less those that the
-- deed spares. Before and after are the seat, the gate and what is built.
pub record CarriesOut {G : Type 0} (table : TableView) (becomes : G → Event → G → Type 0) (before after : (SeatView × G) × Build) (job : Job) (deed : Deed)
    (answer : Result Raised Full) : Type 0 where
  pub goes : WorksOn table becomes before.0 after.0
  pub raised : IfOk answer (HasRaised table before.0.0.known after.0.0 after.1.made.items job deed)
  pub full : IfErr answer (HasNoneFree table (bounds_of_deed deed before.0.0.bounds) before.0.0.known after.0.0 after.1.made.items job)
  pub few : after.0.0.known.steps + spare_steps deed ≤ before.0.0.known.steps + deed_steps table.layout (locks_of job.span) answer
