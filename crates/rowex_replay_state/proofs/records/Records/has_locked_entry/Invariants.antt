use Rattle.std.proofs.Common.{ℕ, ◌<◌}
use Rattle.rowex_replay_state.specs.Records.{IsEntryLocked}
use Rattle.rowex_replay_state.proofs.records.Records.has_locked_entry.Given as goal

abbrev pub invariant-loop-node : goal.invariant-loop-node
invariant-loop-node l = (k : ℕ) → k < l.node → ¬ (IsEntryLocked l.self l.pass l.word k)
