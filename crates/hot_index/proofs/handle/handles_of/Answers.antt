-- One handle more.
use Rattle.hot_index.proofs.Common.{◌≡◌, ◌∷◌, [], ◌++◌, append_assoc, subst, into_iter_items, All-rest, Owns}
use Rattle.hot_index.specs.Handles.{HandleView, handle_at}
use Rattle.hot_index.proofs.handle.handles_of.Goals as goal

pub loop-pass-preserved : goal.loop-pass-preserved
loop-pass-preserved c =
    let index = c.args.index.now in
    let handles = c.loop-pass.handles.items in
    let pass = c.in-Some.pass in
    let steps : into_iter_items c.loop-pass.pass-iterator ≡ pass ∷ into_iter_items c.next.new.self = c.in-Some.ensures.steps.0 in
    let pushed : c.push.new.self.items ≡ handles ++ handle_at index pass ∷ [] =
    subst (λ (h : HandleView). c.push.new.self.items ≡ handles ++ h ∷ []) c.new.ensures c.in_ok-push.ensures.items in
    record {
      left = All-rest (Owns index) pass (into_iter_items c.next.new.self) (into_iter_items c.loop-pass.pass-iterator) steps c.loop-pass.invariant.left;
      made = rw (pushed, append_assoc) (rw steps at c.loop-pass.invariant.made);
    }
