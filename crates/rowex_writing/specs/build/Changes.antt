-- What a call that changes the map knows under its locks, and what its change leaves.
use Rattle.std.specs.Prelude.{◌≡◌, ℕ, ◌+◌, ◌*◌, ◌<◌, ◌≤◌, List, [], ◌∷◌, ◌++◌, length, All, Option, Some, None}
use Rattle.finite_map.specs.declared.Change.{Change}
use Rattle.finite_map.specs.declared.Kind.TheVariants.{Added, Replaced, Removed}
use Rattle.finite_map.specs.Fronts.{BeginsWith, OthersGoOn, map_of, Fits}
use Rattle.finite_map.specs.Maps.{value_at}
use Rattle.record_words.specs.declared.layout.Layout.{Layout}
use Rattle.tries.specs.Keys.{Key}
use Rattle.versions.specs.Trades.{AreApart, IsOneOf}
use Rattle.record_words.specs.declared.records.Rec.{Rec}
use Rattle.record_words.specs.Leaf.{words_for}
use Rattle.record_words.specs.declared.records.Rec.TheVariants.{Node as a_node, Leaf as a_leaf}
use Rattle.rowex_core.specs.declared.event.Spot.{Spot}
use Rattle.rowex_core.specs.declared.known.Failed.{Failed}
use Rattle.rowex_core.specs.declared.known.Known.{Known}
use Rattle.rowex_table.specs.Made.{Made, IsLater}
use Rattle.rowex_table.specs.Publishes.{Publishes}
use Rattle.rowex_table.specs.Seats.{TableView, SeatView}
use Rattle.rowex_records.specs.Claims.{AllCommittedMissed, AllMissedFrom, HasMissedSince, IsAnothers}
use Rattle.publish_laws.specs.Ending.{IsAtRest}
use Rattle.publish_laws.specs.Stages.{HasLoaded, HasReady}
use Rattle.rowex_writing.specs.build.Building.{IsBuilding}
use Rattle.rowex_writing.specs.plan.Counts.{most_nodes}
use Rattle.rowex_writing.specs.locks.Jobs.{IsJobFrom}
use Rattle.rowex_writing.specs.plan.Plans.{change}
use Rattle.rowex_writing.specs.plan.Planned.{IsPlanned}
use Rattle.rowex_writing.specs.build.Walks.{IsOwnOf, nodes_among}
use Rattle.rowex_writing.specs.declared.plan.Aim.{Aim}
use Rattle.rowex_writing.specs.declared.plan.job.Job.{Job}
use Rattle.rowex_writing.specs.declared.plan.Deed.{Deed}
use Rattle.rowex_writing.specs.declared.plan.Deed.TheVariants.{Empty, Take, TakeTop}
use Rattle.rowex_reading.specs.declared.descent.Found.{Found}
use Rattle.rowex_reading.specs.declared.descent.Found.TheVariants.{Leaf}
use Rattle.rowex_writing.specs.declared.plan.Full.{Full}
use Rattle.rowex_writing.specs.declared.plan.Full.TheVariants.{Nodes, Leaves}

-- ---- the plan

-- A search for the job's key took the job's path and ended as the job says. For some aim, what it found plans this deed for the job's span.
abbrev pub HasPlanned : (layout : Layout) → (known : Known) → (job : Job) → (deed : Deed) → Type 0
HasPlanned layout known job deed =
    (version : ℕ) × (aim : Aim) × IsJobFrom layout known version job ×
    IsPlanned known version job.key.now job.way.now aim job.found (change job.span.len job.span.end deed)

-- ---- the store

-- if a leaf is among the records `gone`, the pass has loaded its value, and `was` is that value
abbrev pub KnowsWas : (known : Known) → (gone : List Rec) → (was : Option ℕ) → Type 0
KnowsWas known gone was = (leaf : ℕ) → IsOneOf (a_leaf leaf) gone → (value : ℕ) × (was ≡ Some value) × HasLoaded known leaf value

-- Let the pass go on until the records `made`, all that it has, are ready, with the locks that it has now. Let it have loaded, as `was`,
-- the value of each leaf that is to be unlinked. Then it may make this change by a store of the word at the spot, which unlinks `gone`.
pub record MayPublishOnceReady (table : TableView) (seat : SeatView) (made : List Rec) (spot : Spot) (word : ℕ) (done : Change)
    (was : Option ℕ) (gone : List Rec) : Type 0 where
  pub news : List Made
  pub building : IsBuilding table seat made news
  pub publishes : (known : Known) → IsLater seat.known known → HasReady known seat.known.locks news → known.anchor ≡ seat.known.anchor →
      KnowsWas known gone was →
      Publishes table.layout known spot word done was gone

-- ---- what is left

-- The pass has made this change, which was legal, and `was` is the value that the key had before. In the pass's front the change is the
-- last one, and since `old` only others have made changes before it. The pass's last load of the root was before the change. The pass is at
-- rest.
pub record HasChanged (old new : Known) (done : Change) (was : Option ℕ) : Type 0 where
  pub rest : IsAtRest new
  pub before : List Change
  pub others : OthersGoOn old.pass old.front before
  pub front : new.front ≡ before ++ done ∷ []
  pub fresh : BeginsWith before new.fresh.front
  pub fits : Fits (map_of before) done
  pub was_held : value_at (map_of before) done.key ≡ was

-- By failed steps since step `since` the pass has found each node record not free that is committed by these bounds. Those in `own` were
-- its own, at most two for each node in `locked` and one, as many as a change makes. Those in `locked`, nodes of a path that it had locked,
-- were nobody's. Each other record was another pass's, or nobody's: in the tree or retired.
pub record LacksNodes (layout : Layout) (bounds : List ℕ) (pass : ℕ) (failed : List Failed) (since : ℕ) (own : List Rec) : Type 0 where
  pub locked : List ℕ
  pub few : length own ≤ 2 * length locked + 1
  pub most : length locked ≤ most_nodes
  pub apart : AreApart locked
  pub low : All (λ number. number < layout.nodes) locked
  pub missed : AllCommittedMissed (IsAnothers layout pass own locked) layout bounds a_node layout.nodes failed since
  pub own_is : All (λ rec. HasMissedSince (IsOwnOf pass) failed rec since) own
  pub once : AreApart own

-- By failed steps since step `since` the pass has found leaf records with room for the key not free: each before the first of them that isn't
-- committed by these bounds. None was its own. Each was another pass's, or nobody's: in the tree or retired.
abbrev pub LacksLeaves : (layout : Layout) → (bounds : List ℕ) → (key : Key) → (pass : ℕ) → (failed : List Failed) → (since : ℕ) → Type 0
LacksLeaves layout bounds key pass failed since = AllMissedFrom (IsAnothers layout pass [] []) layout bounds (words_for (length key)) failed since

-- By failed steps since `old` no record of the kind was free when the pass wanted one: a node record beside those in `made`, or a leaf
-- record with room for the key. Of records that aren't committed by these bounds nothing is said.
abbrev pub IsFull : (layout : Layout) → (bounds : List ℕ) → (key : Key) → (old new : Known) → (made : List Rec) → (full : Full) → Type 0
IsFull layout bounds key old new made Nodes = LacksNodes layout bounds new.pass new.failed old.steps (nodes_among made)
IsFull layout bounds key old new made Leaves = LacksLeaves layout bounds key new.pass new.failed old.steps

-- The pass has made no change since `old`, since no record of the kind was free beside those in `made`, which it had made (`IsFull`). It has
-- no records of its own and no locks.
pub record HasNoRoom (layout : Layout) (bounds : List ℕ) (key : Key) (old new : Known) (made : List Rec) (full : Full) : Type 0 where
  pub rest : IsAtRest new
  pub later : IsLater old new
  pub full_of : IsFull layout bounds key old new made full

-- The change that gives the key this value. It replaces the value that the search found, which is `was`. If the search found no leaf with
-- the key, it adds the key, and `was` is none.
abbrev pub IsPutChange : (pass : ℕ) → (key : Key) → (value : ℕ) → (found : Found) → (done : Change) → (was : Option ℕ) → Type 0
IsPutChange pass key value (Leaf number held None) done was = (done ≡ record { pass = pass; key = key; value = value; kind = Replaced }) × (was ≡ Some held)
IsPutChange pass key value found done was = (done ≡ record { pass = pass; key = key; value = value; kind = Added }) × (was ≡ None)

-- The change that removes the key. The search found it with a value, which is `was`, and which the change names.
abbrev pub IsTakeChange : (pass : ℕ) → (key : Key) → (found : Found) → (done : Change) → (was : Option ℕ) → Type 0
IsTakeChange pass key (Leaf number held None) done was = (done ≡ record { pass = pass; key = key; value = held; kind = Removed }) × (was ≡ Some held)
IsTakeChange pass key found done was = ⊥

-- The change that a deed makes. A removal's deed takes the key out, with the value that the search found; any other gives it `value`. `was`
-- is the value before, or none.
abbrev pub IsDeedChange : (pass : ℕ) → (deed : Deed) → (key : Key) → (value : ℕ) → (found : Found) → (done : Change) → (was : Option ℕ) →
    Type 0
IsDeedChange pass Take key value found done was = IsTakeChange pass key found done was
IsDeedChange pass TakeTop key value found done was = IsTakeChange pass key found done was
IsDeedChange pass Empty key value found done was = IsTakeChange pass key found done was
IsDeedChange pass deed key value found done was = IsPutChange pass key value found done was
