-- What a pass knows of the leaf that it removes, and of the nodes above that leaf.
use Rattle.std.specs.Prelude.{◌≡◌, ℕ, ◌+◌, [], length, Some, None, get_or, ◌-◌, ◌<◌, List, ◌∷◌, ◌≤◌}
use Rattle.compound_node.specs.declared.entries.Entry.TheVariants.{Leaf as LeafEntry, Node}
use Rattle.tries.specs.Keys.{Key}
use Rattle.rowex_core.specs.declared.known.Known.{Known}
use Rattle.rowex_core.specs.Knowing.{IsPinnedSince}
use Rattle.rowex_table.specs.Seats.{TableView, SeatView, IsSeatOf}
use Rattle.rowex_reading.specs.Possible.{IsPossible}
use Rattle.rowex_reading.specs.Seen.{Sure}
use Rattle.version_laws.specs.Scan.{IsRead}
use Rattle.rowex_writing.specs.locks.Checks.{HasTakenSpan}
use Rattle.rowex_reading.specs.declared.descent.Found.TheVariants.{Leaf}
use Rattle.rowex_writing.specs.declared.plan.job.Job.{Job}
use Rattle.insert_cases.specs.declared.choice.PathNode.{PathNode}
use Rattle.publish_laws.specs.Loops.{StaysLocked}
use Rattle.rowex_table.specs.Made.{IsLater}
use Rattle.record_words.specs.declared.records.Rec.TheVariants.{Node as a_node}
use Rattle.rowex_core.specs.Cores.{word_count_of}
use Rattle.rowex_core.specs.declared.known.Holding.TheVariants.{Held}
use Rattle.record_words.specs.Node.{SpellBuilt}
use Rattle.tries.specs.Place.{subtrie_without}
use Rattle.rowex_core.specs.Reading.{node_words_of}
use Rattle.rowex_writing.specs.locks.Going.{HasLocked}
use Rattle.compound_node.specs.declared.entries.Entry.{Entry}

-- the pass is sure that the leaf had this key and value in a version since its pin, by loads of the leaf
abbrev pub HasReadLeaf : Known → (number : ℕ) (key : Key) (value : ℕ) → Type 0
HasReadLeaf known number key value = (since : ℕ) × IsPinnedSince known since × Sure known (λ past. IsRead past since number key value)

-- The root is this leaf, which has this key and value. The pass has locked the anchor, and has no other lock and no record.
pub record HasOnlyLeaf (table : TableView) (view : SeatView) (number : ℕ) (key : Key) (value : ℕ) : Type 0 where
  pub seat : IsSeatOf table view
  pub possible : IsPossible table.layout view.known
  pub own : view.known.own ≡ []
  pub locks : view.known.locks ≡ []
  pub anchor : view.known.anchor ≡ Some (Some (LeafEntry number))
  pub read : HasReadLeaf view.known number key value

-- A search that loaded the root at `version` found the leaf `number` with the job's key and this value. The job's span is the last node of
-- its path, and that node names the leaf. The pass has locked the node and what names it, checked both, and has no record of its own.
pub record HasLeafBelow (table : TableView) (seat : SeatView) (version : ℕ) (job : Job) (number value : ℕ) : Type 0 where
  pub taken : HasTakenSpan table seat version job.key.now job.way.now (Leaf number value None) job.span
  pub is_found : job.found ≡ Leaf number value None
  pub len : job.span.len ≡ length job.way.now
  pub last : job.span.end + 1 ≡ job.span.len

-- stands in place of a node where a path has none, with 0 for each part
abbrev pub no_step : PathNode
no_step = record { number = 0; height = 0; first_position = 0; count = 0; slot = 0 }

-- the node at index `span.end` of a job's path; for a removal the last one, which names the leaf to remove
abbrev pub lower : Job → PathNode
lower job = get_or job.way.now job.span.end no_step

-- the node before index `span.end` of a job's path; for a removal the last but one, which names the last
abbrev pub upper : Job → PathNode
upper job = get_or job.way.now (job.span.end - 1) no_step

-- At the view `before` the pass had locked the last two nodes of the job's path. The lower one named the leaf to remove, which has the
-- job's key, and the pass had no record of its own.
pub record IsTaking (table : TableView) (job : Job) : Type 0 where
  pub before : SeatView
  pub since : ℕ
  pub number : ℕ
  pub value : ℕ
  pub found : job.found ≡ Leaf number value None
  pub below : HasLeafBelow table before since job number value
  pub some : 0 < job.span.end

-- The pass has gone on since it locked the last two nodes of the path (`IsTaking`). It has the same pin, facts and locks, and still knows
-- the values that it had loaded.
abbrev pub TakesOn : (table : TableView) → (seat : SeatView) → (job : Job) → Type 0
TakesOn table seat job = (taking : IsTaking table job) × IsSeatOf table seat × IsPossible table.layout seat.known × StaysLocked taking.before.known seat.known

-- The pass has gone on since it locked the last two nodes of the path (`IsTaking`). It has the same pin, facts and locks. The values that
-- it had loaded it may have lost, since it has tried other locks meanwhile.
abbrev pub TakesStill : (table : TableView) → (seat : SeatView) → (job : Job) → Type 0
TakesStill table seat job = (taking : IsTaking table job) × IsSeatOf table seat × IsPossible table.layout seat.known ×
    IsLater taking.before.known seat.known × (seat.known.locks ≡ taking.before.known.locks) × (seat.known.anchor ≡ taking.before.known.anchor)

-- The pass has claimed this node record, one of the table's, and has no other record. Its words, as many as a node record has, are not yet
-- filled.
pub record HasClaimed (table : TableView) (known : Known) (number : ℕ) : Type 0 where
  pub low : number < table.layout.nodes
  pub words : List ℕ
  pub sized : length words ≡ word_count_of (a_node number)
  pub own : known.own ≡ record { rec = a_node number; holding = Held; words = words } ∷ []

-- The lower node is locked. Without the leaf of the job's key, what is left of it is still a node, and `left` are the words of that.
pub record IsLeftOfNode (known : Known) (job : Job) (left : List ℕ) : Type 0 where
  pub words : List ℕ
  pub has : HasLocked known (lower job).number words
  pub built : SpellBuilt left (subtrie_without job.key.now (node_words_of words).subtrie)

-- a leaf, or a node whose height fits into the 16 bits that an entry word has for it
abbrev pub HasHeight : Entry → Type 0
HasHeight (LeafEntry number) = Unit {0}
HasHeight (Node number height) = (1 ≤ height) × (height < 65536)
