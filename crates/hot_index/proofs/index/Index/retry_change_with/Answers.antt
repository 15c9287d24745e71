-- What the call leaves on the seat, as the pass sees it.
use Rattle.hot_index.proofs.Common.{replied_cause, replied_outcome, replied_own, room_seen, stepped_told, tries_seen, waited_leafless, subst, sym, TableView, last_try, HasNodeLeft}
use Rattle.hot_index.proofs.KeyCounts.Counted.{waited_on}
use Rattle.hot_index.proofs.index.Index.retry_change_with.Goals as goal

pub invariant_of-pass : goal.invariant_of-pass
invariant_of-pass g c =
    waited_on c.self.inside.table c.args.call.now c.pass.inside.seat c.retry_change-answer.new.seat c.pass.inside.count c.note_answer.new.self c.retry_change-answer.result
    c.retry_change-answer.ensures.replied c.note_answer.ensures c.pass.invariant

pub returns : goal.returns
returns g c =
    let o = c.retry_change-answer.ensures in
    let last = last_try c.retry_change-answer.result in
    record {
      own = replied_own c.self.view_is c.pass.view_is o.replied;
      call = replied_outcome c.self.view_is c.pass.view_is last o.replied;
      cause = replied_cause c.self.view_is c.pass.view_is last o.replied;
      leafless = waited_leafless c.args.call.now c.retry_change-answer.result o.replied.leafless;
      kept = λ left. o.kept (subst (λ (i : TableView). HasNodeLeft i.layout.passes c.args.call.now) (sym c.self.view_is) left);
      tries = tries_seen c.self.view_is c.pass.view_is c.retry_change-answer.result o.tries;
      told = stepped_told c.self.view_is c.pass.view_is o.stepped o.replied.loaded;
      room = room_seen c.self.view_is c.pass.view_is last o.spares o.room;
    }
