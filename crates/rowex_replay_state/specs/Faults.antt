-- The texts of faults.
use Rattle.std.specs.Prelude.{ℕ, List, codes}
use Rattle.rowex_replay_state.specs.declared.fault.ReplayFault.{ReplayFault}
use Rattle.rowex_replay_state.specs.declared.fault.ReplayFault.TheVariants.{Illegal, Memory, Load}

-- the text as which a fault is written
abbrev pub replay_fault_text : ReplayFault → List ℕ
replay_fault_text Illegal = codes "illegal event"
replay_fault_text Memory = codes "out of memory"
replay_fault_text Load = codes "bulk load"
