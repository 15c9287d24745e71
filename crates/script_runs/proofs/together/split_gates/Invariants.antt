-- What was taken apart is completed by what is left.
use Rattle.script_runs.proofs.Common.{◌≡◌, ◌++◌, map, into_iter_items}
use Rattle.script_runs.proofs.together.split_gates.Given as goal

abbrev pub invariant-loop-script : goal.invariant-loop-script
invariant-loop-script g l = record {
  scripts : l.scripts.items ++ map (λ r. r.0) (into_iter_items l.script-iterator) ≡ map (λ r. r.0) l.fn.ran.items;
  gates : l.gates.items ++ map (λ r. r.1) (into_iter_items l.script-iterator) ≡ map (λ r. r.1) l.fn.ran.items;
}
