-- What `hot_see` tells a program in C: one handle sees what another, its leader, has seen.
use Rattle.std.specs.Prelude.{◌≡◌, ◌⊎◌, ℕ, Option, Some, None, IsSome}
use Rattle.rowex_table.specs.Traces.{RunBeginsWith}
use Rattle.hot_index.specs.Stamps.{HasCaughtUp, HasStamped}
use Rattle.hot_index_calls.specs.Passes.{PassView}
use Rattle.hot_c.specs.Calls.{StaysOpen}
use Rattle.hot_c.specs.declared.opened.Opened.{Opened}
use Rattle.hot_c.specs.declared.status.TheConstants.{CLOSED, DONE}

-- if both handles are open, they are at the same index
abbrev pub AreAtOneIndex : (one other : Option Opened) → Type 0
AreAtOneIndex one other = (first second : Opened) → one ≡ Some first → other ≡ Some second → second.handle.index ≡ first.handle.index

-- What calls tell of the pass is as it was: its number, front and last load of the root, its answered calls, its steps and its failures.
-- Its count of asides may have grown.
abbrev pub IsAsTold : (old new : PassView) → Type 0
IsAsTold old new =
    (new.number ≡ old.number) × (new.front ≡ old.front) × (new.fresh ≡ old.fresh) × (new.notes ≡ old.notes) × (new.steps ≡ old.steps) ×
    (new.failed ≡ old.failed)

-- A handle sees what its leader has seen: it has followed a stamp of all changes that the leader has seen. What calls tell of the leader is
-- as it was. If either handle is closed, the status says so, and nothing has changed.
pub record SeesLeader (old new old_leader new_leader : Option Opened) (status : ℕ) : Type 0 where
  pub closed : (old ≡ None) ⊎ (old_leader ≡ None) → (status ≡ CLOSED) × (new ≡ old) × (new_leader ≡ old_leader)
  pub seen : (leader : Opened) → IsSome old → old_leader ≡ Some leader →
      (status ≡ DONE) × StaysOpen (λ index was now. HasCaughtUp index.layout leader.handle.pass.front was now) old new
      × StaysOpen (λ index was now. IsAsTold was now) old_leader new_leader

-- Let a handle have seen what its leader had seen. The steps that the handle then knows begin with those that the leader knew. The leader
-- has made one stamp, and is the same otherwise.
abbrev pub SeesSteps : (old new old_leader new_leader : Option Opened) → Type 0
SeesSteps old new old_leader new_leader =
    (was now led then : Opened) → old ≡ Some was → new ≡ Some now → old_leader ≡ Some led → new_leader ≡ Some then →
    RunBeginsWith now.handle.pass.seat.trace led.handle.pass.seat.trace × HasStamped led.handle.pass then.handle.pass
