-- All marks so far are unset.
use Rattle.std.proofs.Common.{◌≡◌, replicate, false}
use Rattle.rowex_replay_state.proofs.trees.make_unset_marks.Given as goal

abbrev pub invariant-loop : goal.invariant-loop
invariant-loop l = l.marks.items ≡ replicate l.counter false
