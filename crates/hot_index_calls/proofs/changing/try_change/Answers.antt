-- A small round or nothing, and then the tries.
use Rattle.finite_map.specs.Maps.{key_of}
use Rattle.hot_index_calls.proofs.Counts.{tidied_asked, tidied_bounds, tidied_few, tidied_lacks}
use Rattle.hot_index_calls.proofs.Lacked.{used_since}
use Rattle.hot_index_calls.proofs.changing.try_change.Goals as goal

pub returns : goal.returns
returns g c = record {
  asked = tidied_asked _ _ _ c.args.call.now c.try_twice.result c.requires.idle.1 c.try_twice.ensures.asked c.collect_due.ensures.tidied;
  lacks = tidied_lacks _ _ _ c.args.call.now c.try_twice.result c.requires.idle.1 c.try_twice.ensures.asked c.try_twice.new.scratch.build.made.items c.collect_due.ensures.tidied c.try_twice.ensures.lacks;
  few = tidied_few _ _ _ c.args.call.now c.try_twice.result c.requires.idle.1 c.try_twice.ensures.asked c.collect_due.ensures.tidied c.try_twice.ensures.few;
  spares = λ was. c.try_twice.ensures.spares (c.collect_due.ensures.spares was);
  room = λ removal one was early. c.try_twice.ensures.room removal one (c.collect_due.ensures.spares was) early;
  none = c.try_twice.ensures.none;
  used = used_since c.args.table.now.layout (key_of c.args.call.now) _ c.try_twice.result c.args.seat.now c.collect_due.new.seat c.try_twice.new.seat
      (tidied_bounds {table = c.args.table.now} {becomes = g.G.Gate.becomes} (c.args.seat.now, c.args.gate.now) (c.collect_due.new.seat, c.collect_due.new.gate) c.collect_due.ensures.tidied) c.try_twice.ensures.used;
}
