-- A removal that makes one node of what is left of the leaf's node and of the node beside it.
use Rattle.std.specs.Prelude.{◌≡◌, ◌≢◌, ◌⊎◌, ℕ, ◌+◌, ◌-◌, ◌*◌, ◌<◌, ◌≤◌, List, [], ◌∷◌, length, slice_get, Bool, true, Option, Some, None}
use Rattle.compound_node.specs.Nodes.{StandsBelow}
use Rattle.compound_node.specs.declared.entries.Entry.{Entry}
use Rattle.compound_node.specs.declared.entries.Entry.TheVariants.{Node}
use Rattle.finite_map.specs.declared.Change.{Change}
use Rattle.insert_cases.specs.declared.choice.PathNode.{PathNode}
use Rattle.node_tries.specs.Piece.{Place, size}
use Rattle.node_tries.specs.Changes.{beside}
use Rattle.record_words.specs.Entry.{entry_word}
use Rattle.tries.specs.Keys.{Key}
use Rattle.tries.specs.Place.{spot, subtrie_sibling}
use Rattle.tries.specs.Search.{seek}
use Rattle.tries.specs.Tree.{Subtrie}
use Rattle.versions.specs.Trades.{IsOneOf}
use Rattle.record_words.specs.declared.records.Rec.{Rec}
use Rattle.record_words.specs.declared.records.Rec.TheVariants.{Node as a_node, Leaf as a_leaf}
use Rattle.rowex_core.specs.Reading.{node_words_of}
use Rattle.rowex_core.specs.declared.event.Event.{Event}
use Rattle.rowex_core.specs.declared.event.Spot.{Spot}
use Rattle.rowex_core.specs.declared.event.Target.{Target}
use Rattle.rowex_core.specs.declared.event.Target.TheVariants.{Anchor, Node as NodeTarget}
use Rattle.rowex_core.specs.declared.known.Known.{Known}
use Rattle.rowex_core.specs.declared.known.Locked.{Locked}
use Rattle.rowex_table.specs.Made.{IsLater, nodes_of}
use Rattle.rowex_table.specs.Seats.{TableView, SeatView, IsSeatOf}
use Rattle.rowex_reading.specs.Possible.{IsPossible}
use Rattle.rowex_reading.specs.Ways.{named}
use Rattle.rowex_reading.specs.declared.descent.Found.{Found}
use Rattle.rowex_reading.specs.declared.descent.Found.TheVariants.{Leaf}
use Rattle.rowex_writing.specs.build.Changes.{IsTakeChange, MayPublishOnceReady}
use Rattle.rowex_writing.specs.plan.Counts.{change_steps, level_steps}
use Rattle.rowex_writing.specs.locks.Going.{HasLocked}
use Rattle.rowex_writing.specs.locks.Locks.{IsOfAttempt, LocksLast, TriesNodesBy, locks_of, span_numbers, HasRun, HasTriedOnce}
use Rattle.rowex_writing.specs.build.Putting.{IsSpotAbove}
use Rattle.rowex_writing.specs.build.Taking.{IsTaking, lower, upper}
use Rattle.rowex_writing.specs.declared.plan.job.Job.{Job}
use Rattle.rowex_writing.specs.declared.merging.ClosedFork.{ClosedFork}
use Rattle.rowex_writing.specs.declared.plan.job.Merge.{Merge}
use Rattle.rowex_writing.specs.declared.plan.Span.{Span}

-- ---- before the change

-- In the upper node, by its words under the lock, the last fork on the key's path is at `merge.position`. It has just slot `merge.slot` on
-- its other side, and the entry there is that of node `merge.number`.
pub record IsNeighbour (known : Known) (job : Job) (merge : Merge) : Type 0 where
  pub words : List ℕ
  pub has : HasLocked known (upper job).number words
  pub forks : beside (spot job.key.now (node_words_of words).subtrie) (node_words_of words).subtrie ≡ Some (merge.slot, merge.position)
  pub height : ℕ
  pub sibling : subtrie_sibling job.key.now (node_words_of words).subtrie ≡ Some (merge.position, Place (Node merge.number height))

-- Let the pass have locked the fork's node; without the lock this says nothing. By the node's words the key's search takes slot
-- `fork.step.slot`. The last fork on that path has just slot `fork.slot` on its other side. `fork.entry`, which is to take the fork's
-- place, is lower than the node.
abbrev pub ClosesFork : (known : Known) → (key : Key) → (fork : ClosedFork) → Type 0
ClosesFork known key fork = (words : List ℕ) → HasLocked known fork.step.number words → (spot key (node_words_of words).subtrie ≡ fork.step.slot) ×
    ((position : ℕ) × (beside fork.step.slot (node_words_of words).subtrie ≡ Some (fork.slot, position))) ×
    StandsBelow (node_words_of words).fixed.height fork.entry

-- What is left of a node and its sibling don't make one node: what is left is a single entry, or the two have more than 32 entries
-- together.
abbrev pub AreNoNode : (left other : Subtrie) → Type 0
AreNoNode left other = ((entry : Entry) × (left ≡ Place entry)) ⊎ (32 < size left + size other)

-- ---- wider locks

-- the number is not that of a node of the span, nor of one of the two nodes above the span
abbrev pub IsFarFromSpan : (way : List PathNode) → (span : Span) → (number : ℕ) → Type 0
IsFarFromSpan way span number =
    (node : PathNode) (index : ℕ) → slice_get way index ≡ Some node → span.end ≤ index + 2 → index < span.len → number ≢ node.number

-- the target to lock is what names the node at index `end` of the path: the anchor, or the node before
abbrev pub IsTargetAbove : (way : List PathNode) → (end : ℕ) → (target : Target) → Type 0
IsTargetAbove way end Anchor = end ≡ 0
IsTargetAbove way end (NodeTarget number) = (node : PathNode) × (0 < end) × (slice_get way (end - 1) ≡ Some node) × (number ≡ node.number)

-- Beside the locks `held` the pass has just one more, of what names the node at index `end` of the path: the anchor, or the node before.
-- The target of that lock still names what the search found there.
pub data LocksAbove (held : List Locked) (key : Key) (way : List PathNode) (found : Found) (end : ℕ) (known : Known) : Type 0 where
  by_anchor : end ≡ 0 → known.locks ≡ held → known.anchor ≡ Some (named way found 0) → LocksAbove held key way found end known
  by_node : (node : PathNode) → 0 < end → slice_get way (end - 1) ≡ Some node → LocksLast node.number held known → known.anchor ≡ None →
      ((words : List ℕ) → HasLocked known node.number words → named way found end ≡ Some (seek key (node_words_of words).subtrie)) →
      LocksAbove held key way found end known

-- The pass has gone on since it locked the job's span. It has the locks that it had then, and just two more: that of another node,
-- `number`, and that of what names the upper node (`LocksAbove`). That `number` is the lower node's sibling is not said here.
pub record HasWiderLocks (table : TableView) (view : SeatView) (job : Job) (number : ℕ) : Type 0 where
  pub taking : IsTaking table job
  pub seat : IsSeatOf table view
  pub possible : IsPossible table.layout view.known
  pub later : IsLater taking.before.known view.known
  pub words : List ℕ
  pub new : ¬ (IsOneOf number (nodes_of taking.before.known.locks))
  pub low : number < table.layout.nodes
  pub above : LocksAbove (record { node = number; words = words } ∷ taking.before.known.locks) job.key.now job.way.now job.found (job.span.end - 1) view.known

-- Let the pass have tried just the locks of these nodes, each once, by steps of an attempt (`IsOfAttempt`) that end at `old`. With the
-- steps up to `new` it has tried at most two more, those of a merge, and none twice. It has tried exactly two more if `both` is true.
abbrev pub HasTriedUpToTwoMore : {G : Type 0} → (table : TableView) → (becomes : G → Event → G → Type 0) → (nodes : List ℕ) →
    (both : Bool) → (old new : SeatView × G) → Type 0
HasTriedUpToTwoMore {G} table becomes nodes both old new = (first : SeatView × G) → TriesNodesBy IsOfAttempt table becomes nodes first old →
    (locks : ℕ) × HasTriedOnce table becomes locks first new × (length nodes ≤ locks) × (locks ≤ length nodes + 2) ×
    (both ≡ true → locks ≡ length nodes + 2)

-- Let the pass have tried just the locks of these nodes, each once, by steps of an attempt (`IsOfAttempt`) that end at `old`. Up to `new`
-- it tries at most two more, those of a merge, and none twice. These later steps are at most two for each of `left` records, `level_steps`
-- for each further lock, and `more`.
abbrev pub HasFewStepsAfterTries : {G : Type 0} → (table : TableView) → (becomes : G → Event → G → Type 0) → (nodes : List ℕ) →
    (left more : ℕ) → (old new : SeatView × G) → Type 0
HasFewStepsAfterTries {G} table becomes nodes left more old new = (first : SeatView × G) → TriesNodesBy IsOfAttempt table becomes nodes first old →
    (locks : ℕ) × HasTriedOnce table becomes locks first new × (length nodes ≤ locks) × (locks ≤ length nodes + 2) ×
    (new.0.known.steps ≤ old.0.known.steps + 2 * left + (locks - length nodes) * level_steps + more)

-- Let the pass have tried just the locks of these nodes, each once, by steps of an attempt (`IsOfAttempt`) that end at `old`. Up to `new`
-- it tries at most two more, those of a merge, and none twice. These later steps are at least `room` fewer than `change_steps` allows for
-- all these locks.
abbrev pub HasChangeStepsAfterTries : {G : Type 0} → (table : TableView) → (becomes : G → Event → G → Type 0) → (nodes : List ℕ) →
    (room : ℕ) → (old new : SeatView × G) → Type 0
HasChangeStepsAfterTries {G} table becomes nodes room old new = (first : SeatView × G) → TriesNodesBy IsOfAttempt table becomes nodes first old →
    (locks : ℕ) × HasTriedOnce table becomes locks first new × (length nodes ≤ locks) × (locks ≤ length nodes + 2) ×
    (new.0.known.steps + room ≤ old.0.known.steps + change_steps table.layout locks)

-- The steps from `old` to `new` are at least `room` fewer than `change_steps` allows. Either no lock is tried, and these are the steps for
-- the span's locks. Or the span is one node with another above, and at most two more locks are tried, each of which adds to the bound.
abbrev pub EndsChange : {G : Type 0} → (table : TableView) → (becomes : G → Event → G → Type 0) → (job : Job) → (room : ℕ) →
    (old new : SeatView × G) → Type 0
EndsChange {G} table becomes job room old new =
    (HasRun table becomes old new × (new.0.known.steps + room ≤ old.0.known.steps + change_steps table.layout (locks_of job.span))) ⊎
    ((0 < job.span.end) × (job.span.end + 1 ≡ job.span.len) × HasChangeStepsAfterTries table becomes (span_numbers job.way.now job.span) room old new)

-- ---- the store

-- the records that a merge unlinks: the upper node, the lower node, the node `number` beside it, and the leaf
abbrev pub merged_gone : Job → (number leaf : ℕ) → List Rec
merged_gone job number leaf = a_node (upper job).number ∷ a_node (lower job).number ∷ a_node number ∷ a_leaf leaf ∷ []

-- if the search found a leaf with the key, `gone` lists just the records that a merge unlinks, in the order of `merged_gone`
abbrev pub HasListed : (gone : List Rec) → (job : Job) → (number : ℕ) → Type 0
HasListed gone job number = (leaf value : ℕ) → job.found ≡ Leaf leaf value None → gone ≡ merged_gone job number leaf

-- The records `made` are at most two. Once they are ready, the pass may make the removal by a store of this entry at the spot above the
-- upper node. The store unlinks the upper node, the lower one, its sibling `number` and the found leaf.
pub record MayMergeInto (table : TableView) (seat : SeatView) (made : List Rec) (job : Job) (number : ℕ) (entry : Entry) : Type 0 where
  pub change : Change
  pub was : Option ℕ
  pub takes : IsTakeChange seat.known.pass job.key.now job.found change was
  pub ends : (leaf : ℕ) (value : ℕ) (spot : Spot) → job.found ≡ Leaf leaf value None → IsSpotAbove job.way.now (job.span.end - 1) spot →
      MayPublishOnceReady table seat made spot (entry_word (Some entry)) change was (merged_gone job number leaf)
  pub few : length made ≤ 2
