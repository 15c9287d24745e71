-- Each pass of a load is one of its index.
use Rattle.value_tests.proofs.Passes.{own_all}
use Rattle.value_tests.proofs.reserved.finish_load.Goals as goal

pub returns : goal.returns
returns g c = own_all c.in-Ok.made.0 _ _ c.in-Ok.ensures.each
