use Rattle.rowex_replay_state.proofs.Common.{ℕ, ◌<◌, ◌+◌, a_node}
use Rattle.rowex_replay_state.specs.Records.{HasWordStored}
use Rattle.rowex_replay_state.proofs.records.Records.has_entry.Given as goal

abbrev pub invariant-loop-slot : goal.invariant-loop-slot
invariant-loop-slot l = (k : ℕ) → k < l.slot → ¬ (HasWordStored l.self (a_node l.node) (25 + k) l.word)
