-- One pass more.
use Rattle.hot_index.proofs.Common.{◌≡◌, ◌∷◌, [], ◌++◌, append_assoc, subst, into_iter_items, pass_of}
use Rattle.hot_index.specs.Passes.{AreSettled}
use Rattle.hot_index.proofs.Passes.{none_settled}
use Rattle.hot_index.proofs.creating.make_closed_passes.Goals as goal

pub invariant_of-push : goal.invariant_of-push
invariant_of-push c =
    let steps : into_iter_items c.loop-seat.seat-iterator ≡ c.in-Some.seat ∷ into_iter_items c.next.new.self = c.in-Some.ensures.steps.0 in
    (subst (AreSettled c.loop-seat.count) steps c.loop-seat.invariant.settled).0

pub loop-seat-preserved : goal.loop-seat-preserved
loop-seat-preserved c =
    let rest = into_iter_items c.next.new.self in
    let steps : into_iter_items c.loop-seat.seat-iterator ≡ c.in-Some.seat ∷ rest = c.in-Some.ensures.steps.0 in
    let pushed : c.push.new.self.items ≡ c.loop-seat.passes.items ++ pass_of c.in-Some.seat ∷ [] = c.in_ok-push.ensures.items in
    record {
      settled = none_settled c.new-count.result c.new-count.ensures rest (subst (AreSettled c.loop-seat.count) steps c.loop-seat.invariant.settled).1;
      made = rw (pushed, append_assoc) (rw steps at c.loop-seat.invariant.made);
    }
