-- What the call leaves on the seat, as the pass sees it.
use Rattle.hot_index_calls.proofs.Counts.{made_seen, replied_cause, replied_outcome, replied_own, room_seen}
use Rattle.hot_index.proofs.KeyCounts.Counted.{tried_on}
use Rattle.hot_index.proofs.index.Index.try_change_with.Goals as goal

pub invariant_of-pass : goal.invariant_of-pass
invariant_of-pass g c =
    tried_on c.self.inside.table c.args.call.now c.pass.inside.seat c.try_change-answer.new.seat c.pass.inside.count c.note_answer.new.self c.try_change-answer.result
    c.try_change-answer.ensures.asked.replied c.note_answer.ensures c.pass.invariant

pub returns : goal.returns
returns g c =
    let o = c.try_change-answer.ensures in
    let replied = o.asked.replied in
    record {
      own = replied_own c.self.view_is c.pass.view_is replied;
      call = replied_outcome c.self.view_is c.pass.view_is c.try_change-answer.result replied;
      cause = replied_cause c.self.view_is c.pass.view_is c.try_change-answer.result replied;
      leafless = replied.leafless;
      made = made_seen c.self.view_is c.pass.view_is o.asked o.few;
      room = room_seen c.self.view_is c.pass.view_is c.try_change-answer.result o.spares o.room;
    }
