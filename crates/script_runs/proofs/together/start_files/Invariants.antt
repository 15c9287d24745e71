-- What stays true while threads are started.
use Rattle.script_runs.proofs.Common.{◌≡◌, ◌++◌, List, length, map, zip, into_iter_items, iter_rest, script_commands}
use Rattle.script_runs.specs.declared.together.Order.{Order}
use Rattle.script_runs.specs.Progress.{AllThree, IsOrderOf}
use Rattle.script_runs.proofs.together.start_files.Given as goal

-- there are as many scripts and gates as handles, and the orders of the threads to come complete those of the threads that run
abbrev pub invariant-loop-handle : goal.invariant-loop-handle
invariant-loop-handle g l = record {
  scripts : length (iter_rest l.scripts) ≡ length (into_iter_items l.handle-iterator);
  gates : length (into_iter_items l.gates) ≡ length (into_iter_items l.handle-iterator);
  completes : (rest : List (Order _)) → AllThree IsOrderOf (zip (into_iter_items l.handle-iterator) (into_iter_items l.gates))
      (map script_commands (iter_rest l.scripts)) rest
      → AllThree IsOrderOf (zip l.fn.handles.items l.fn.gates.items) (map script_commands l.fn.scripts) (map (λ t. t.promise) l.running.items ++ rest);
}
