-- What the call leaves on the seat, as the pass sees it.
use Rattle.hot_index.proofs.Common.{counted_seen, replied_cause, replied_outcome, replied_own, as_tried}
use Rattle.hot_index.proofs.KeyCounts.Counted.{counted_on}
use Rattle.hot_index.proofs.index.Index.try_and_count_with.Goals as goal

pub invariant_of-pass : goal.invariant_of-pass
invariant_of-pass g c =
    counted_on c.self.inside.table c.args.call.now c.pass.inside.seat c.try_and_count-answer.new.seat c.pass.inside.count c.note_answer.new.self c.try_and_count-answer.result
    c.try_and_count-answer.ensures.replied c.note_answer.ensures c.pass.invariant

pub returns : goal.returns
returns g c =
    let o = c.try_and_count-answer.ensures in
    let tried = as_tried c.try_and_count-answer.result in
    record {
      own = replied_own c.self.view_is c.pass.view_is o.replied;
      call = replied_outcome c.self.view_is c.pass.view_is tried o.replied;
      cause = replied_cause c.self.view_is c.pass.view_is tried o.replied;
      leafless = o.replied.leafless;
      made = counted_seen c.self.view_is c.pass.view_is c.try_and_count-answer.result o.tried;
    }
