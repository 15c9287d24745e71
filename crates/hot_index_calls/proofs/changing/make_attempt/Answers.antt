-- An attempt is noted as its pass clears the pin, and has settled then.
use Rattle.hot_index_calls.proofs.Common.{ClearPin, LoadEpoch, SetPin, rules, [], ◌∷◌, ◌≡◌, ◌+◌, ◌∙◌, ap, arith, subst, sym, key_of, nodes_among, Known}
use Rattle.hot_index_calls.proofs.Rooms.{noted_spare, pin_room, pin_spare, runs_longer, step_longer}
use Rattle.hot_index_calls.specs.Asked.{HasLacked}
use Rattle.hot_index_calls.specs.Lacking.{LeavesUsed}
use Rattle.hot_index_calls.proofs.Lacked.{attempt_leaves}
use Rattle.hot_index_calls.specs.Noting.{change_notes}
use Rattle.hot_index_calls.proofs.changing.Conflicts.{no_change_since_pins}
use Rattle.hot_index_calls.proofs.Noting.{fits_then}
use Rattle.hot_index_calls.proofs.Traces.{attempt_ended, attempt_run}
use Rattle.hot_index_calls.proofs.Counts.{run_pinned, run_same, tried, tried_lacks, tried_later, tried_loaded}
use Rattle.hot_index_calls.proofs.changing.make_attempt.Goals as goal

pub attempt-outcome-requires-clause-quiet : goal.attempt-outcome-requires-clause-quiet
attempt-outcome-requires-clause-quiet g c = no_change_since_pins c.pin.ensures.steps

pub end_attempt-requires : goal.end_attempt-requires
end_attempt-requires g c =
    let run = attempt_run c.args.table.now g.G.Gate.becomes (c.pin.new.seat, c.pin.new.gate) (c.attempt-outcome.new.seat, c.attempt-outcome.new.gate) c.attempt-outcome.ensures.run in
    λ κs le. (
      search rules,
      (
        fits_then c.args.table.now c.pin.new.seat c.attempt-outcome.new.seat (run_same c.args.table.now g.G.Gate.becomes (c.pin.new.seat, c.pin.new.gate) (c.attempt-outcome.new.seat, c.attempt-outcome.new.gate) run) c.pin.ensures.fits,
        run_pinned c.args.table.now g.G.Gate.becomes (c.pin.new.seat, c.pin.new.gate) (c.attempt-outcome.new.seat, c.attempt-outcome.new.gate) run c.pin.ensures.pinned,
      ),
    )

pub returns : goal.returns
returns g c =
    let o = c.attempt-outcome.ensures in
    let run = attempt_run c.args.table.now g.G.Gate.becomes (c.pin.new.seat, c.pin.new.gate) (c.attempt-outcome.new.seat, c.attempt-outcome.new.gate) o.run in
    let left = tried _ c.requires.idle.1 c.pin.ensures.steps run o.loaded o.rest c.args.call.now c.attempt-outcome.new.build.made.items c.attempt-outcome.result o.answered o.refused o.full o.hindered c.end_attempt.ensures.step in
    let pinned : c.pin.new.seat.known.steps ≡ c.args.seat.now.known.steps + 2 = ap (λ (z : Known). z.steps) c.pin.ensures.steps.1.rest in
    let cleared : c.end_attempt.new.seat.known.steps ≡ c.attempt-outcome.new.seat.known.steps + 1 = ap (λ (z : Known). z.steps) c.end_attempt.ensures.step.event.learned_is in
    let ended = attempt_ended c.args.table.now g.G.Gate.becomes _ _ _ _ c.pin.ensures.steps o.run c.end_attempt.ensures.step in
    let lacked = tried_lacks _ c.requires.idle.1 c.pin.ensures.steps run o.loaded o.rest c.args.call.now c.attempt-outcome.new.build.made.items c.attempt-outcome.result o.refused c.end_attempt.ensures.step in
    record {
      asked = record {
        replied = record {
          idle = (c.end_attempt.ensures.step.seat.0 ∙ ((run_same c.args.table.now g.G.Gate.becomes _ _ run).0 ∙ c.pin.ensures.fits.0), left.1);
          noted = left.0.0;
          refused = left.0.1;
          leafless = o.leafless;
          loaded = tried_loaded _ c.requires.idle.1 c.pin.ensures.steps run o.loaded o.rest c.end_attempt.ensures.step;
        };
        ended = ended;
        later = tried_later _ c.requires.idle.1 c.pin.ensures.steps run o.loaded o.rest c.end_attempt.ensures.step;
      };
      lacks = subst (λ made. HasLacked c.args.table.now made c.attempt-outcome.result c.args.seat.now c.end_attempt.new.seat) (sym c.move_unlinked_to_limbo.ensures.made) lacked;
      spares = λ was. noted_spare c.args.table.now g.G.Gate.becomes ClearPin (change_notes c.args.call.now c.attempt-outcome.result) (c.attempt-outcome.new.seat, c.attempt-outcome.new.gate) (c.end_attempt.new.seat, c.end_attempt.new.gate) tt c.end_attempt.ensures.step (o.spares (pin_spare c.args.table.now g.G.Gate.becomes (c.args.seat.now, c.args.gate.now) (c.pin.new.seat, c.pin.new.gate) c.pin.ensures.steps was));
      room = λ removal room. o.finds removal (pin_room c.args.table.now g.G.Gate.becomes (c.args.seat.now, c.args.gate.now) (c.pin.new.seat, c.pin.new.gate) c.pin.ensures.steps c.requires.idle.1.own room);
      longer = (
          let first = runs_longer c.args.table.now g.G.Gate.becomes (LoadEpoch c.pin.ensures.steps.0 ∷ SetPin c.pin.ensures.steps.0 ∷ []) (c.args.seat.now, c.args.gate.now) (c.pin.new.seat, c.pin.new.gate) c.pin.ensures.steps.1.steps in
          let on = runs_longer c.args.table.now g.G.Gate.becomes o.run.0 (c.pin.new.seat, c.pin.new.gate) (c.attempt-outcome.new.seat, c.attempt-outcome.new.gate) o.run.2 in
          let last = step_longer c.args.table.now g.G.Gate.becomes ClearPin (change_notes c.args.call.now c.attempt-outcome.result) (c.attempt-outcome.new.seat, c.attempt-outcome.new.gate) (c.end_attempt.new.seat, c.end_attempt.new.gate) c.end_attempt.ensures.step in
          omega (arith, first, on, last)
          );
      few = omega (arith, pinned, o.few, cleared);
      used = subst (λ made. LeavesUsed c.args.table.now.layout (key_of c.args.call.now) (nodes_among made) c.attempt-outcome.result c.args.seat.now c.end_attempt.new.seat) (sym c.move_unlinked_to_limbo.ensures.made)
          (attempt_leaves c.args.table.now g.G.Gate.becomes c.args.call.now c.attempt-outcome.new.build.made.items c.attempt-outcome.result (c.args.seat.now, c.args.gate.now) (c.end_attempt.new.seat, c.end_attempt.new.gate) ended lacked left.0.1);
    }
