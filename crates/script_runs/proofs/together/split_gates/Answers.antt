-- Why `split_gates` meets its contract.
use Rattle.script_runs.proofs.Common.{◌≡◌, [], ◌∷◌, ◌∙◌, sym, append_assoc, append-nil, arith, into_iter_items, nil_from_length}
use Rattle.script_runs.proofs.together.split_gates.Goals as goal

pub loop-script-preserved : goal.loop-script-preserved
loop-script-preserved g c =
    let left : into_iter_items c.loop-script.script-iterator ≡ (c.in-Some.script, c.in-Some.gate) ∷ into_iter_items c.next.new.self = c.in-Some.ensures.steps.0 in
    record {
      scripts = rw (c.in_ok-push.ensures.items, append_assoc) (rw left at c.loop-script.invariant.scripts);
      gates = rw (c.in_ok-push-2.ensures.items, append_assoc) (rw left at c.loop-script.invariant.gates);
    }

pub returns-clause-scripts : goal.returns-clause-scripts
returns-clause-scripts g c =
    let none : into_iter_items c.loop-script.script-iterator ≡ [] = nil_from_length _ (omega (arith, c.in-None.ensures.steps, c.loop-script.script-iterator.rest.ok)) in
    sym (append-nil c.loop-script.scripts.items) ∙ (rw none at c.loop-script.invariant.scripts)

pub returns-clause-gates : goal.returns-clause-gates
returns-clause-gates g c =
    let none : into_iter_items c.loop-script.script-iterator ≡ [] = nil_from_length _ (omega (arith, c.in-None.ensures.steps, c.loop-script.script-iterator.rest.ok)) in
    sym (append-nil c.loop-script.gates.items) ∙ (rw none at c.loop-script.invariant.gates)
