-- The entries so far have the words so far.
use Rattle.rowex_replay_state.proofs.node.Entries.{AreSoFar}
use Rattle.rowex_replay_state.proofs.node.unpack_entries.Given as goal

abbrev pub invariant-loop-i : goal.invariant-loop-i
invariant-loop-i l = AreSoFar l.entries.items l.words l.i
