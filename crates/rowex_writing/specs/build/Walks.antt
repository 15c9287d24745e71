-- The walk of a change over the node records: each claim goes on where the one before it ended.
use Rattle.std.specs.Prelude.{◌≡◌, ◌⊎◌, ℕ, ◌+◌, ◌-◌, ◌*◌, ◌<◌, ◌≤◌, All, List, [], ◌∷◌, length, Contains, Bool, true, false, if◌then◌else◌, MatchOption, Option, Some, None}
use Rattle.record_words.specs.declared.layout.Layout.{Layout}
use Rattle.record_words.specs.declared.records.Rec.{Rec}
use Rattle.record_words.specs.declared.records.Rec.TheVariants.{Node as a_node, Leaf as a_leaf}
use Rattle.versions.specs.Trades.{AreApart}
use Rattle.rowex_core.specs.declared.event.Event.{Event}
use Rattle.rowex_core.specs.declared.known.Known.{Known}
use Rattle.record_words.specs.Layout.{uncommitted_in}
use Rattle.rowex_records.specs.Claims.{AllCommittedMissed, HasMissedSince, IsAnothersBut, begin_of, records_had, wrapped}
use Rattle.rowex_table.specs.Seats.{TableView, SeatView}
use Rattle.rowex_writing.specs.locks.Going.{WorksOn}
use Rattle.rowex_writing.specs.declared.build.kept.Build.{Build}
use Rattle.rowex_writing.specs.declared.build.kept.NodeWalk.{NodeWalk}

-- the pass has no other records than these
abbrev pub HasNoOther : (known : Known) → (made : List Rec) → Type 0
HasNoOther known made = (rec : Rec) → Contains (records_had known) rec → Contains made rec

-- Since step `since` the pass has tried some of the node records below `end`, each once, from number `begin` on, with 0 after the last. It
-- may try the `left` others, from `next` on. Each that it has tried was found not free, and another pass's or nobody's, or is one that it
-- has made.
pub record IsClaimWalk (layout : Layout) (end since : ℕ) (known : Known) (made : List Rec) (next left : ℕ) : Type 0 where
  pub early : since ≤ known.steps
  pub begin : ℕ
  pub low : begin < end
  pub tried : ℕ
  pub count : tried + left ≡ end
  pub next_is : 0 < left → begin_of end next ≡ wrapped end begin tried
  pub each : (i : ℕ) → i < tried →
      HasMissedSince (IsAnothersBut layout known made) known.failed (a_node (wrapped end begin i)) since ⊎
      Contains made (a_node (wrapped end begin i))

-- how many of the records below its end a walk has left, in a table that has `nodes` node records
abbrev pub left_below : (nodes : ℕ) → NodeWalk → ℕ
left_below nodes walk = walk.left - (nodes - walk.end)

-- A change's claims have walked over node records below `walk.end` since the pass's seat was `first`, and have made those in `made`
-- (`IsClaimWalk`). Below the end are all node records that the pass knew to be committed at first. They are committed, or none was tried.
pub record IsCommittedWalk (layout : Layout) (first seat : SeatView) (made : List Rec) (next : ℕ) (walk : NodeWalk) : Type 0 where
  pub claims : IsClaimWalk layout walk.end first.known.steps seat.known made next (left_below layout.nodes walk)
  pub within : walk.end ≤ layout.nodes
  pub rest : layout.nodes ≤ walk.left + walk.end
  pub falls : uncommitted_in seat.bounds 0 ≤ uncommitted_in first.bounds 0
  pub whole : layout.nodes ≤ walk.end + uncommitted_in first.bounds 0
  pub begun : ((walk.left ≡ layout.nodes) × (walk.end ≡ layout.nodes)) ⊎ (uncommitted_in seat.bounds 0 + walk.end ≤ layout.nodes)

-- the pass is on the walk of its change's claims (`IsCommittedWalk`): it began when the seat was `first`, has made `build.made`, and goes on
-- as the build says
abbrev pub HasWalked : (layout : Layout) → (first seat : SeatView) → (build : Build) → Type 0
HasWalked layout first seat build = IsCommittedWalk layout first seat build.made.items build.nodes.next build.walk

-- How many steps a walk adds at its end. If no record was free, each record made is looked at once more, so that a failed step tells of
-- every record; else none.
abbrev pub looks_for : {X : Type 0} → Build → Option X → ℕ
looks_for after None = length after.made.items
looks_for after (Some result) = 0

-- how many steps a walk adds if its answer is no: a look at each record made, as in `looks_for`
abbrev pub looks_unless : (answer : Bool) → (after : Build) → ℕ
looks_unless false after = length after.made.items
looks_unless true after = 0

-- the node records among these, in their order
abbrev pub nodes_among : (made : List Rec) → List Rec
nodes_among [] = []
nodes_among (a_node number ∷ made) = a_node number ∷ nodes_among made
nodes_among (a_leaf number ∷ made) = nodes_among made

-- the record was found to be this pass's own
abbrev pub IsOwnOf : (pass : ℕ) → (rec : Rec) → (by : Option ℕ) → Type 0
IsOwnOf pass rec by = by ≡ Some pass

-- By these bounds the node records are committed that a walk must find not free before it has no answer. They are those that the pass knew
-- to be committed when its seat was `first`. Of a walk that commits, which goes on over the uncommitted ones, they are all.
abbrev pub bounds_of_walk : (walk : NodeWalk) → (first : SeatView) → List ℕ
bounds_of_walk walk first = if walk.commits then [] else first.bounds

-- By failed steps since step `since` the pass has found each node record not free that is committed by these bounds. Each was another
-- pass's, or nobody's, or one in `made`. Each record in `made` is listed once, and was found to be the pass's own.
pub record HasMissedEach (layout : Layout) (bounds : List ℕ) (since : ℕ) (known : Known) (made : List Rec) : Type 0 where
  pub missed : AllCommittedMissed (IsAnothersBut layout known made) layout bounds a_node layout.nodes known.failed since
  pub own : All (λ rec. HasMissedSince (IsOwnOf known.pass) known.failed rec since) made
  pub apart : AreApart made

-- The walk has a failed step for each node record that it must find not free (`bounds_of_walk`), or has made that record: none of those
-- below its end is left, and those are all.
pub record HasNoneLeft (layout : Layout) (first seat : SeatView) (made : List Rec) (next : ℕ) (walk : NodeWalk) : Type 0 where
  pub none : left_below layout.nodes walk ≡ 0
  pub walked : IsCommittedWalk layout first seat made next walk
  pub all : layout.nodes ≤ walk.end + uncommitted_in (bounds_of_walk walk first) 0

-- 1 if there is no result, so that one record is lacking; else 0
abbrev pub lacking : {X : Type 0} → Option X → ℕ
lacking None = 1
lacking (Some result) = 0

-- The pass goes on under its locks, and makes at most `most` records; a node record that it lacks counts, too. It makes at most `steps`
-- steps, two for each number that it tries on its walk, and the looks of `looks_for`. If there is no answer, each node record that was known
-- to be committed when the walk began was found not free since; and where the walk commits, each of all (`bounds_of_walk`). Before and after
-- are the seat, the gate and what is built.
pub record Makes {G X : Type 0} (most steps : ℕ) (table : TableView) (becomes : G → Event → G → Type 0) (before after : (SeatView × G) × Build)
    (answer : Option X) : Type 0 where
  pub goes : WorksOn table becomes before.0 after.0
  pub more : length after.1.made.items ≤ length before.1.made.items + most
  pub nodes : length (nodes_among after.1.made.items) + lacking answer ≤ length (nodes_among before.1.made.items) + most
  pub walk : (first : SeatView) → HasWalked table.layout first before.0.0 before.1 →
      MatchOption answer (HasMissedEach table.layout (bounds_of_walk after.1.walk first) first.known.steps after.0.0.known after.1.made.items)
      (λ x. HasWalked table.layout first after.0.0 after.1)
  pub commits : after.1.walk.commits ≡ before.1.walk.commits
  pub few : after.0.0.known.steps + 2 * after.1.walk.left ≤ before.0.0.known.steps + 2 * before.1.walk.left + steps + looks_for after.1 answer
