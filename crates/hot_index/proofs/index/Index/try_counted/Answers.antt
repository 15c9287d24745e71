-- A change is counted, and a get is never refused.
use Rattle.hot_index.proofs.Common.{may_refuse, unless_get, as_tried}
use Rattle.hot_index.proofs.index.Index.try_counted.Goals as goal

pub returns-in_default : goal.returns-in_default
returns-in_default c = record {
  own = c.try_and_count_with.ensures.own;
  call = c.try_and_count_with.ensures.call;
  cause = c.try_and_count_with.ensures.cause;
  may = may_refuse c.args.self.now.layout c.args.pass.now c.try_and_count_with.new.pass c.args.call.now c.in_default.not-Get (as_tried c.try_and_count_with.result) c.try_and_count_with.ensures.leafless c.try_and_count_with.ensures.call;
  made = unless_get c.args.call.now _ _ c.in_default.not-Get c.try_and_count_with.ensures.made;
}
