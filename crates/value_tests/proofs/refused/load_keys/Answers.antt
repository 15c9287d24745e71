-- Each pass of a load is one of its index.
use Rattle.std.proofs.lemmas.Result.{IfOk-weaker}
use Rattle.value_tests.proofs.Passes.{own_all}
use Rattle.value_tests.proofs.refused.load_keys.Goals as goal

pub returns : goal.returns
returns g c = IfOk-weaker c.finish.result _ _ (λ made each. own_all made.0 _ _ each) c.finish.ensures.each
