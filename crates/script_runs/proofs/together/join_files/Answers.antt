-- Why `join_files` meets its contract.
use Rattle.script_runs.proofs.Common.{◌≡◌, [], ◌∷◌, ◌++◌, map, append_assoc, append-nil, arith, AllZip, into_iter_items, nil_from_length}
use Rattle.script_runs.specs.Progress.{HasRunItsOrder}
use Rattle.script_runs.proofs.together.join_files.Goals as goal

pub loop-thread-preserved : goal.loop-thread-preserved
loop-thread-preserved g c =
    let left : into_iter_items c.loop-thread.thread-iterator ≡ c.in-Some.thread ∷ into_iter_items c.next.new.self = c.in-Some.ensures.steps.0 in
    let ran = c.in_ok-join.field-0 in
    let pushed : c.push.new.self.items ≡ c.loop-thread.done.items ++ ran ∷ [] = c.in_ok-push.ensures.items in
    λ rest others.
    let whole : AllZip (HasRunItsOrder g.G.Gate.becomes) (c.in-Some.thread.promise ∷ map (λ t. t.promise) (into_iter_items c.next.new.self)) (ran ∷ rest) =
    (c.in_ok-join.ensures, others) in
    rw (pushed, append_assoc) (c.loop-thread.invariant (ran ∷ rest) (rw left whole))

pub returns : goal.returns
returns g c =
    let none : into_iter_items c.loop-thread.thread-iterator ≡ [] =
    nil_from_length _ (omega (arith, c.in-None.ensures.steps, c.loop-thread.thread-iterator.rest.ok)) in
    let here : AllZip (HasRunItsOrder g.G.Gate.becomes) [] [] = tt in
    rw append-nil at (c.loop-thread.invariant [] (rw none here))
