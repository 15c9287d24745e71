-- In a table with one pass: why a node record is outside the tree after a change, and when a removal finds one free.
use Rattle.std.specs.Prelude.{◌≡◌, ◌≢◌, ℕ, ◌<◌, ◌≤◌, List, [], Option, None, true}
use Rattle.finite_map.specs.declared.Call.{Call}
use Rattle.finite_map.specs.declared.Call.TheVariants.{Remove, RemoveIf}
use Rattle.record_words.specs.declared.layout.Layout.{Layout}
use Rattle.versions.specs.Trades.{IsOneOf}
use Rattle.record_words.specs.declared.records.Rec.{Rec}
use Rattle.record_words.specs.declared.records.Rec.TheVariants.{Node as a_node}
use Rattle.publish_laws.specs.Lone.{HasFree, HasRoom, HasSpare, IsFreeAt}
use Rattle.rowex_table.specs.Seats.{SeatView}
use Rattle.rowex_writing.specs.build.Deeds.{gone_of_span}
use Rattle.rowex_writing.specs.build.Walks.{nodes_among}
use Rattle.rowex_writing.specs.declared.build.kept.NodeWalk.{NodeWalk}
use Rattle.rowex_writing.specs.declared.plan.job.Job.{Job}
use Rattle.rowex_writing.specs.declared.plan.job.Raised.{Raised}

-- Why a node record is outside the tree after a store that links the records `made` and unlinks the records `gone`. Some node record is
-- free before, so it isn't one of those linked. Or a node is unlinked. Or one is outside the tree before, and no node is linked.
pub data WillSpare (layout : Layout) (seat : SeatView) (made gone : List Rec) : Type 0 where
  by_free : HasFree layout seat → WillSpare layout seat made gone
  by_gone : (number : ℕ) → IsOneOf (a_node number) gone → WillSpare layout seat made gone
  by_kept : HasSpare layout seat → nodes_among made ≡ [] → WillSpare layout seat made gone

-- why some node record is outside the tree after the store of the job's change, by one of the reasons of `WillSpare`
abbrev pub WillSpareOne : (layout : Layout) → (seat : SeatView) → (made : List Rec) → (job : Job) → (raised : Raised) → Type 0
WillSpareOne layout seat made job raised = WillSpare layout seat made (gone_of_span job.way.now job.span raised)

-- A claim that may try each node record, and commit more, returns one. For that the table must have one pass, which has no record of its
-- own, and some node record must be free. Of other claims nothing is said.
abbrev pub FindsOne : {X : Type 0} → (layout : Layout) → (walk : NodeWalk) → (seat : SeatView) → (result : Option X) → Type 0
FindsOne layout walk seat result =
    walk.left ≡ layout.nodes → walk.end ≡ layout.nodes → walk.commits ≡ true → seat.known.own ≡ [] → HasRoom layout seat → result ≢ None

-- Where a claim returned none, no node record from number `from` to before `end` was free before it. For that the table must have one pass,
-- which had no record of its own.
abbrev pub NoneWasFree : {X : Type 0} → (layout : Layout) → (from end : ℕ) → (seat : SeatView) → (result : Option X) → Type 0
NoneWasFree layout from end seat result =
    layout.passes ≡ 1 → seat.known.own ≡ [] → result ≡ None → (number : ℕ) → from ≤ number → number < end → ¬ (IsFreeAt layout seat number)

-- the call removes a key
abbrev pub IsRemoval : Call → Type 0
IsRemoval (Remove key) = Unit {0}
IsRemoval (RemoveIf key expected) = Unit {0}
IsRemoval call = ⊥
