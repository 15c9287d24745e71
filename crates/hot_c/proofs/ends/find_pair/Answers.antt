-- The pair that the scan found is told.
use Rattle.std.proofs.Common.{refl}
use Rattle.hot_c.proofs.ends.Ends.{found, unfound}
use Rattle.hot_c.proofs.ends.find_pair.Goals as goal

pub returns-in-Ok-clause-call : goal.returns-in-Ok-clause-call
returns-in-Ok-clause-call c = found c.args.query.now.order c.in-Ok.ensures.ok c.lend-opened.result.now c.empty_list.new.self c.lend-opened.ensures.value refl c.empty_list.ensures c.write_first_pair-status.ensures

pub returns-in-Err-clause-call : goal.returns-in-Err-clause-call
returns-in-Err-clause-call c = unfound c.args.query.now.order c.in-Err.ensures.err refl
