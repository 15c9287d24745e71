-- Changes that a pass makes while all others are idle: where enough records are free, each is answered.
use Rattle.std.specs.Prelude.{◌≡◌, ◌⊎◌, ℕ, ◌+◌, ◌*◌, ◌<◌, ◌≤◌, List, [], length, Result, IsOk}
use Rattle.finite_map.specs.declared.Call.{Call}
use Rattle.finite_map.specs.declared.Reply.{Reply}
use Rattle.finite_map.specs.Maps.{key_of}
use Rattle.record_words.specs.declared.TheConstants.{EPOCHS}
use Rattle.record_words.specs.declared.layout.Layout.{Layout}
use Rattle.record_words.specs.Layout.{leaf_size}
use Rattle.record_words.specs.Leaf.{words_for}
use Rattle.rowex_core.specs.declared.event.Event.{Event}
use Rattle.rowex_table.specs.Seats.{HasAllCommitted, TableView}
use Rattle.rowex_writing.specs.declared.attempts.TryFault.{TryFault}
use Rattle.rowex_writing.specs.declared.plan.Full.{Full}
use Rattle.hot_index_calls.specs.Calls.{IsTried, MakesTries}
use Rattle.hot_index_calls.specs.Passes.{IsSettled, PassView}
use Rattle.hot_index_calls.specs.Traces.{HasCollected}
use Rattle.hot_index.specs.Alone.{HasEnoughFree}
use Rattle.hot_index.specs.Statements.{IsNoRemoval}
use Rattle.index_laws.specs.Rest.{GoesOnAlone, LeadsTo, StepsAlone, number_of_keys}

-- From number `first` on, each leaf record of the table has room for a key of this length. They are more than `keys`.
pub record HasLeavesBeside (layout : Layout) (keys length : ℕ) : Type 0 where
  pub first : ℕ
  pub more : first + keys < layout.leaves
  pub room : (number : ℕ) → first ≤ number → number < layout.leaves → words_for length ≤ leaf_size layout number

-- A table with so many keys, and no other record in use, has enough records free for the call. It has 4,322 node records more than keys, or
-- three for each key and two more. Leaf records with room for the call's key are more than the keys, unless the call is a removal.
pub record HasRoomBeside (layout : Layout) (keys : ℕ) (call : Call) : Type 0 where
  pub nodes : (4322 + keys ≤ layout.nodes) ⊎ (3 * keys + 2 ≤ layout.nodes)
  pub leaves : IsNoRemoval call → HasLeavesBeside layout keys (length (key_of call))

-- Let all passes be idle, and let one go on alone. Its changes are answered, where enough records are free. A change that waits makes one
-- try then.
pub record IdleChangesEnd {G : Type 0} (becomes : G → Event → G → Type 0) : Type 0 where
  -- a change that doesn't wait
  pub reply : (index : TableView) (run : List Event) (call : Call) (result : Result Reply TryFault) (before later : PassView × G) →
      GoesOnAlone index run before.0.seat later.0.seat → LeadsTo index run (HasEnoughFree call before.0.seat.bounds) → IsTried call result index becomes before later →
      IsOk result
  -- a change that waits
  pub once : (index : TableView) (run : List Event) (call : Call) (result : Result Reply Full) (before later : PassView × G) →
      GoesOnAlone index run before.0.seat later.0.seat → LeadsTo index run (HasEnoughFree call before.0.seat.bounds) →
      (tries : MakesTries call result index becomes before later) → (tries.refusals ≡ []) × IsOk result
  -- A change that waits, after a round of collection by the same pass. Few enough keys are held, by the layout (`HasRoomBeside`), and all
  -- records are committed. Fewer steps have been made than there are epochs.
  pub after_round : (index : TableView) (run : List Event) (call : Call) (result : Result Reply Full) (before middle later : PassView × G)
      (nodes leaves : ℕ) → GoesOnAlone index run before.0.seat middle.0.seat → length run + 2 < EPOCHS →
      HasCollected index becomes before middle nodes leaves → IsSettled middle.0.seat.known → HasAllCommitted middle.0.seat →
      LeadsTo index middle.0.seat.trace (λ core. HasRoomBeside index.layout (number_of_keys core) call) →
      StepsAlone middle.0.number middle.0.seat.trace later.0.seat.trace →
      (tries : MakesTries call result index becomes middle later) → (tries.refusals ≡ []) × IsOk result
