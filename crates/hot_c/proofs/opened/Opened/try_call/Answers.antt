-- What the call of the index leaves is told.
use Rattle.std.proofs.Common.{refl}
use Rattle.hot_c.proofs.Statuses.{told_refusal, told_reply}
use Rattle.hot_c.proofs.opened.Opened.try_call.Goals as goal

pub returns-in-Ok : goal.returns-in-Ok
returns-in-Ok c = record {
  call = told_reply c.args.size c.args.call.now c.try_counted.result c.write_reply.result c.args.had.now c.write_reply.new.value c.args.self.now.handle c.try_counted.new.self c.in-Ok.reply c.in-Ok.is (record { call_is = c.try_counted.ensures.call; cause = c.try_counted.ensures.cause; may = c.try_counted.ensures.may; made = c.try_counted.ensures.made }) c.write_reply.ensures.status c.write_reply.ensures.value;
  keeps = refl;
}

pub returns-in-Err : goal.returns-in-Err
returns-in-Err c = record {
  call = told_refusal c.args.size c.args.call.now c.try_counted.result c.tell_refusal.result c.args.had.now c.args.had.now c.args.self.now.handle c.try_counted.new.self c.in-Err.refusal c.in-Err.is (record { call_is = c.try_counted.ensures.call; cause = c.try_counted.ensures.cause; may = c.try_counted.ensures.may; made = c.try_counted.ensures.made }) c.tell_refusal.ensures refl;
  keeps = refl;
}
