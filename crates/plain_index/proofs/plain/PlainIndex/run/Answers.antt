-- One more call was made, or some first calls were.
use Rattle.std.proofs.lemmas.Grind.{common_steps}
use Rattle.plain_index.proofs.Common.{arith, refl, err_from_is_err_and}
use Rattle.plain_index.proofs.plain.Made.{made_one_more, made_some}
use Rattle.plain_index.proofs.plain.PlainIndex.run.Goals as goal

pub loop-call-preserved : goal.loop-call-preserved
loop-call-preserved c = record {
  iterator = (tt, tt);
  made = made_one_more _ _ _ _ _ _ c.loop-call.invariant.made _ _ c.in-Some.ensures.steps.0 _ c.in_ok-apply.ensures.reply _ c.in_ok-apply.ensures.map _ c.in_ok-push.ensures.items;
}

pub returns-in_err-push-clause-err : goal.returns-in_err-push-clause-err
returns-in_err-push-clause-err c = let p = err_from_is_err_and c.from_residual-in_err-push.result c.from_residual-in_err-push.ensures.1 in
    rw p.1 (made_some _ _ _ _ _ _ (made_one_more _ _ _ _ _ _ c.loop-call.invariant.made _ _ c.in-Some.ensures.steps.0 _ c.in_ok-apply.ensures.reply _ c.in_ok-apply.ensures.map _ refl))

pub returns-clause-replies : goal.returns-clause-replies
returns-clause-replies c = grind (arith, common_steps)
