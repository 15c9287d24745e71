-- The meetings that are left complete those that were made.
use Rattle.script_runs.proofs.Common.{◌++◌, List, drop, take, PassView}
use Rattle.script_runs.specs.declared.answer.Done.{Done}
use Rattle.script_runs.specs.Progress.{AreAt, MeetInTurn}
use Rattle.script_runs.proofs.together.meet_all_passes.Given as goal

abbrev pub invariant-loop-script : goal.invariant-loop-script
invariant-loop-script l = record {
  at : AreAt l.fn.handle.index l.last l.done;
  completes : (j : PassView) (rest : List Done) → MeetInTurn l.fn.handle.index l.last.pass (drop l.script-index l.done) j rest
      → MeetInTurn l.fn.handle.index l.fn.handle.pass l.fn.done j (take l.script-index l.done ++ rest);
}
