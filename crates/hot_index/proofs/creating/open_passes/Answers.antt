-- One pass more is open.
use Rattle.hot_index.proofs.Common.{◌≡◌, ◌∷◌, [], ◌++◌, append_assoc, subst, into_iter_items, PassView}
use Rattle.hot_index.proofs.creating.open_passes.Goals as goal

pub loop-pass-preserved : goal.loop-pass-preserved
loop-pass-preserved c =
    let passes = c.loop-pass.passes.items in
    let steps : into_iter_items c.loop-pass.pass-iterator ≡ c.in-Some.pass ∷ into_iter_items c.next.new.self = c.in-Some.ensures.steps.0 in
    let pushed : c.push.new.self.items ≡ passes ++ c.in-Some.pass ∷ [] =
    subst (λ (p : PassView). c.push.new.self.items ≡ passes ++ p ∷ []) c.in_ok-open.ensures.opened c.in_ok-push.ensures.items in
    record { all = rw (pushed, append_assoc) (rw steps at c.loop-pass.invariant.all) }
