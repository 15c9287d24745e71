-- Why `start_files` meets its contract.
use Rattle.script_runs.proofs.Common.{◌≡◌, [], ◌∷◌, ◌++◌, length, map, ap, ◌∙◌, append_assoc, append-nil, arith, zip, into_iter_items, map-append, nil_from_length, iter_rest, script_commands}
use Rattle.script_runs.specs.Progress.{AllThree, IsOrderOf}
use Rattle.script_runs.proofs.together.start_files.Goals as goal

pub loop-handle-preserved : goal.loop-handle-preserved
loop-handle-preserved g c =
    let left : into_iter_items c.loop-handle.handle-iterator ≡ c.in-Some.handle ∷ into_iter_items c.next.new.self = c.in-Some.ensures.steps.0 in
    let script = c.in-Some-next.script in
    let scripts : iter_rest c.loop-handle.scripts ≡ script.now ∷ iter_rest c.next-in-loop-handle.new.self = c.in-Some-next.ensures.steps in
    let gates : into_iter_items c.loop-handle.gates ≡ c.in-Some-next-2.gate ∷ into_iter_items c.next-in-loop-handle-2.new.self = c.in-Some-next-2.ensures.items in
    let order = c.in_ok-start_file.field-0.promise in
    let added : map (λ t. t.promise) c.push.new.self.items ≡ map (λ t. t.promise) c.loop-handle.running.items ++ order ∷ [] =
    ap (map (λ t. t.promise)) c.in_ok-push.ensures.items ∙ map-append _ _ _ in
    let was = c.loop-handle.invariant in
    record {
      scripts = omega (arith, was.scripts, ap length left, ap length scripts);
      gates = omega (arith, was.gates, ap length left, ap length gates);
      completes = λ rest others.
          let whole : AllThree IsOrderOf ((c.in-Some.handle, c.in-Some-next-2.gate) ∷ zip (into_iter_items c.next.new.self) (into_iter_items c.next-in-loop-handle-2.new.self))
          (script_commands script.now ∷ map script_commands (iter_rest c.next-in-loop-handle.new.self)) (order ∷ rest) = (c.in_ok-start_file.ensures, others) in
          rw (added, append_assoc) (was.completes (order ∷ rest) (rw (left, scripts, gates) whole));
    }

pub returns : goal.returns
returns g c =
    let was = c.loop-handle.invariant in
    let none : into_iter_items c.loop-handle.handle-iterator ≡ [] = nil_from_length _ (omega (arith, c.in-None.ensures.steps, c.loop-handle.handle-iterator.rest.ok)) in
    let no_script : iter_rest c.loop-handle.scripts ≡ [] = nil_from_length _ (omega (arith, was.scripts, ap length none)) in
    rw append-nil at (was.completes [] (rw (none, no_script) tt))
