-- What contracts say of a call that is alone. When it begins, no other pass holds a lock or a record, and while it runs, no other makes a step.
use Rattle.std.specs.Prelude.{◌≡◌, ◌⊎◌, ℕ, ◌+◌, ◌*◌, ◌<◌, ◌≤◌, List, [], length, All, Result, IsOk}
use Rattle.finite_map.specs.declared.Call.{Call}
use Rattle.finite_map.specs.Calls.{LegalCalls}
use Rattle.finite_map.specs.Maps.{key_of}
use Rattle.finite_map.specs.declared.Reply.{Reply}
use Rattle.finite_map.specs.Fronts.{BeginsWith}
use Rattle.record_words.specs.Layout.{leaf_size, uncommitted_in}
use Rattle.record_words.specs.Leaf.{words_for}
use Rattle.record_words.specs.declared.layout.Layout.{Layout}
use Rattle.record_words.specs.declared.records.Rec.TheVariants.{Node as a_node, Leaf as a_leaf}
use Rattle.tries.specs.Keys.{Key}
use Rattle.versions.specs.Core.{Free}
use Rattle.versions.specs.Trades.{AreApart, IsOneOf}
use Rattle.rowex_core.specs.Cores.{Core}
use Rattle.rowex_core.specs.declared.event.Event.{Event}
use Rattle.rowex_table.specs.Committed.{IsCommitted}
use Rattle.rowex_records.specs.Claims.{AreCommittedUpTo}
use Rattle.rowex_table.specs.Seats.{SeatView, TableView}
use Rattle.rowex_writing.specs.declared.attempts.TryFault.{TryFault}
use Rattle.rowex_writing.specs.declared.attempts.TryFault.TheVariants.{Busy}
use Rattle.rowex_writing.specs.declared.plan.Full.{Full}
use Rattle.hot_index_calls.specs.Alone.{RunsAlone}
use Rattle.hot_index_calls.specs.Answers.{IsCause, MayTake}
use Rattle.hot_index_calls.specs.Calls.{HasCause, IsOutcome, IsTried, MakesTries}
use Rattle.hot_index_calls.specs.Passes.{IsNewPass, PassView}
use Rattle.hot_index.specs.Statements.{IsNoRemoval}

-- No try of a change that waits, from `old` to `new`, may take a record (`MayTake`). `middle` stands for the pass at the end of a try: its
-- front is a beginning of the front of `new`.
abbrev pub TakesNone : (call : Call) (old new : PassView) → Type 0
TakesNone call old new = (middle : PassView) → BeginsWith new.front middle.front → ¬ (MayTake call old middle)

-- What becomes of a call that is alone: it is refused only for want of a record.
pub record AloneCallsEnd {G : Type 0} (becomes : G → Event → G → Type 0) : Type 0 where
  -- a call that is alone is never busy
  pub busy : (layout : Layout) (call : Call) (old new : PassView) → RunsAlone layout new.number old.seat new.seat → ¬ (IsCause layout call old new Busy)
  -- A call that is alone and takes no record is answered. Such are exchanges and additions, a new value of a key held all the while, and a
  -- removal of one absent all the while.
  pub reply : (index : TableView) (call : Call) (result : Result Reply TryFault) (old new : PassView) →
      IsOutcome call result index old new → HasCause call result index old new →
      RunsAlone index.layout new.number old.seat new.seat → ¬ (MayTake call old new) → IsOk result
  -- a change that waits, is alone and takes no record makes one try, and is answered
  pub once : (index : TableView) (call : Call) (result : Result Reply Full) (before later : PassView × G)
      (tries : MakesTries call result index becomes before later) →
      RunsAlone index.layout before.0.number before.0.seat later.0.seat → TakesNone call before.0 later.0 → (tries.refusals ≡ []) × IsOk result
  -- the first call of a new index is alone, if no other pass makes a step
  pub first : (layout : Layout) (number : ℕ) (pass : PassView) (seat : SeatView) → IsNewPass number pass →
      All (λ event. event.pass ≡ number) seat.trace → RunsAlone layout number pass.seat seat

-- More node records are free in the core, and committed by these bounds, than any change claims: 4,322 of them, or so many that
-- `3 * free > 2 * nodes + 1`. `nodes` lists the numbers of such ones, each once.
pub record HasFreeNodes (bounds : List ℕ) (core : Core) : Type 0 where
  pub nodes : List ℕ
  pub apart : AreApart nodes
  pub free : (number : ℕ) → IsOneOf number nodes →
      (number < core.layout.nodes) × (core.fate (a_node number) ≡ Free) × IsCommitted core.layout (uncommitted_in bounds) (a_node number)
  pub enough : (4322 ≤ length nodes) ⊎ (2 * core.layout.nodes + 1 < 3 * length nodes)

-- A leaf record with room for the key is free in the core. It has this number. By these bounds it is committed, with all before it that have
-- room.
pub record HasFreeLeaf (bounds : List ℕ) (core : Core) (key : Key) : Type 0 where
  pub number : ℕ
  pub low : number < core.layout.leaves
  pub room : words_for (length key) ≤ leaf_size core.layout number
  pub free : core.fate (a_leaf number) ≡ Free
  pub committed : AreCommittedUpTo core.layout bounds (words_for (length key)) number

-- In the core enough records are free and committed for the call, whatever it finds. These are node records, and a leaf record for its key.
-- A removal takes no leaf record.
pub record HasEnoughFree (call : Call) (bounds : List ℕ) (core : Core) : Type 0 where
  pub nodes : HasFreeNodes bounds core
  pub leaf : IsNoRemoval call → HasFreeLeaf bounds core (key_of call)

-- A change that is alone is answered, where enough records were free when it began, and its pass knew them to be committed. The premise on
-- the pass's earlier calls, that they are legal, holds between any two calls.
pub record AloneChangesEnd {G : Type 0} (becomes : G → Event → G → Type 0) : Type 0 where
  -- a change that doesn't wait
  pub reply : (index : TableView) (call : Call) (result : Result Reply TryFault) (before later : PassView × G) →
      IsTried call result index becomes before later → LegalCalls before.0.front before.0.number before.0.notes →
      (alone : RunsAlone index.layout before.0.number before.0.seat later.0.seat) → HasEnoughFree call before.0.seat.bounds alone.core → IsOk result
  -- a change that waits makes one try
  pub once : (index : TableView) (call : Call) (result : Result Reply Full) (before later : PassView × G)
      (tries : MakesTries call result index becomes before later) → LegalCalls before.0.front before.0.number before.0.notes →
      (alone : RunsAlone index.layout before.0.number before.0.seat later.0.seat) → HasEnoughFree call before.0.seat.bounds alone.core →
      (tries.refusals ≡ []) × IsOk result
