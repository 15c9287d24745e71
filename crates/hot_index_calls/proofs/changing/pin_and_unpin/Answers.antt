-- The pass is as it was.
use Rattle.hot_index_calls.proofs.Common.{silent, ClearPin, ◌∙◌}
use Rattle.hot_index_calls.proofs.Rooms.{noted_spare, pin_spare}
use Rattle.hot_index_calls.proofs.changing.Resting.{rests_ended, rests_failed, rests_fresh, rests_settled, rests_steps, rests_unnoted}
use Rattle.hot_index_calls.proofs.changing.pin_and_unpin.Goals as goal

pub returns : goal.returns
returns g c =
    let settled = c.requires.idle.1 in
    record {
      rested = record {
        idle = (c.unpin.ensures.step.seat.0 ∙ c.pin.ensures.fits.0, rests_settled (c.args.seat.now, c.args.gate.now) (c.pin.new.seat, c.pin.new.gate) (c.unpin.new.seat, c.unpin.new.gate) settled c.pin.ensures.steps c.unpin.ensures.step);
        unnoted = rests_unnoted (c.args.seat.now, c.args.gate.now) (c.pin.new.seat, c.pin.new.gate) (c.unpin.new.seat, c.unpin.new.gate) settled c.pin.ensures.steps c.unpin.ensures.step;
        failed = rests_failed (c.args.seat.now, c.args.gate.now) (c.pin.new.seat, c.pin.new.gate) (c.unpin.new.seat, c.unpin.new.gate) settled c.pin.ensures.steps c.unpin.ensures.step;
        fresh = rests_fresh (c.args.seat.now, c.args.gate.now) (c.pin.new.seat, c.pin.new.gate) (c.unpin.new.seat, c.unpin.new.gate) settled c.pin.ensures.steps c.unpin.ensures.step;
        ended = rests_ended (c.args.seat.now, c.args.gate.now) (c.pin.new.seat, c.pin.new.gate) (c.unpin.new.seat, c.unpin.new.gate) settled c.pin.ensures.steps c.unpin.ensures.step;
        steps = rests_steps (c.args.seat.now, c.args.gate.now) (c.pin.new.seat, c.pin.new.gate) (c.unpin.new.seat, c.unpin.new.gate) settled c.pin.ensures.steps c.unpin.ensures.step;
      };
      spares = λ was. noted_spare c.args.table.now g.G.Gate.becomes ClearPin silent (c.pin.new.seat, c.pin.new.gate) (c.unpin.new.seat, c.unpin.new.gate) tt c.unpin.ensures.step (pin_spare c.args.table.now g.G.Gate.becomes (c.args.seat.now, c.args.gate.now) (c.pin.new.seat, c.pin.new.gate) c.pin.ensures.steps was);
    }
