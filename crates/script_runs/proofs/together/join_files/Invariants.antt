-- What stays true while threads are joined.
use Rattle.script_runs.proofs.Common.{◌++◌, List, map, AllZip, into_iter_items}
use Rattle.script_runs.specs.declared.answer.Done.{Done}
use Rattle.script_runs.specs.Progress.{HasRunItsOrder}
use Rattle.script_runs.proofs.together.join_files.Given as goal

-- what the threads that are left will have done completes what was done
abbrev pub invariant-loop-thread : goal.invariant-loop-thread
invariant-loop-thread g l =
    (rest : List (Done × _)) → AllZip (HasRunItsOrder g.G.Gate.becomes) (map (λ t. t.promise) (into_iter_items l.thread-iterator)) rest
    → AllZip (HasRunItsOrder g.G.Gate.becomes) (map (λ t. t.promise) l.fn.running.items) (l.done.items ++ rest)
