-- No node before is locked with such an entry, and this one isn't.
use Rattle.rowex_replay_state.specs.Records.{IsEntryLocked}
use Rattle.rowex_replay_state.proofs.records.Searches.{none_yet}
use Rattle.rowex_replay_state.proofs.records.Records.has_locked_entry.Goals as goal

pub loop-node-preserved : goal.loop-node-preserved
loop-node-preserved c = none_yet (IsEntryLocked c.args.self.now c.args.pass c.args.word) c.is_entry_locked.result c.loop-node.node c.loop-node.invariant c.is_entry_locked.ensures c.if-is_entry_locked.false
