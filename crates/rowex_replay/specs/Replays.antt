-- What a replay keeps beside its run, and what a step of it may want.
use Rattle.std.specs.Prelude.{◌≡◌, ℕ}
use Rattle.rowex_core.specs.declared.event.Act.{Act}
use Rattle.rowex_core.specs.declared.event.Act.TheVariants.{Publish}
use Rattle.rowex_core.specs.declared.event.Spot.{Spot}
use Rattle.rowex_core.specs.Cores.{Core}
use Rattle.rowex_core.specs.Events.{IsLockedAt}
use Rattle.rowex_replay_state.specs.States.{StateView, IsStateOf}
use Rattle.rowex_replay.specs.Runs.{Run, HasLegalEvents, core_of}

-- The act is a publish by a pass that has the lock of the word. No other act takes memory.
abbrev pub MayWantMemory : (core : Core) → (pass : ℕ) → (act : Act) → Type 0
MayWantMemory core pass act = (spot : Spot) × (word : ℕ) × (act ≡ Publish spot word) × IsLockedAt core pass spot

-- The events of the run are legal, and the state is that of the core to which they lead.
pub record IsAfter (state : StateView) (run : Run) : Type 0 where
  pub legal : ∥ HasLegalEvents run ∥₁
  pub at : IsStateOf state (core_of run)
