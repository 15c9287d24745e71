-- Where the first attempt was refused as full, a round follows; and what the second leaves is what the whole call leaves.
use Rattle.hot_index_calls.proofs.Rooms.{collecting_room, collecting_still, collects_spare, ended_longer, runs_longer}
use Rattle.hot_index_calls.proofs.Common.{◌≤◌, ◌∙◌, ◌∷◌, Result, Err, inl, inr, refl, sym, ap, subst, le_trans, arith, Reply, key_of, begins_on, Fresh, Known, TryFault, false≢true, LacksNodes, nodes_among, run_begins_on, runs_begin}
use Rattle.record_words.specs.Layout.{uncommitted_in}
use Rattle.rowex_table.proofs.Committed.{at_most_trans}
use Rattle.hot_index_calls.specs.Answers.{fault_of}
use Rattle.hot_index_calls.specs.Asked.{HasAsked}
use Rattle.hot_index_calls.specs.Traces.{AreTries, IsOneAttempt, is_full}
use Rattle.hot_index_calls.specs.Passes.{pass_of}
use Rattle.hot_index_calls.proofs.Passes.Collected.{between, does_idle, none_between}
use Rattle.hot_index_calls.proofs.changing.Conflicts.{may_take_from_before, no_further}
use Rattle.hot_index_calls.specs.Lacking.{LeavesUsed}
use Rattle.hot_index_calls.proofs.Lacked.{none_lacked, rested_leaves, used_since}
use Rattle.hot_index_calls.proofs.changing.Resting.{cause_still, lacked_full, lacks_still}
use Rattle.hot_index_calls.proofs.Passes.Settled.{full_unnoted, refused_still}
use Rattle.hot_index_calls.proofs.Traces.{ended_again}
use Rattle.hot_index_calls.proofs.Counts.{full_fault, lacks_from_before, once_asked, once_few, outcome_then, round_later, then_collected, twice_few, unnoted_then}
use Rattle.hot_index_calls.proofs.Hindered.{ended_bounds, ended_begin}
use Rattle.hot_index_calls.proofs.changing.try_twice.Goals as goal

pub make_attempt-requires : goal.make_attempt-requires
make_attempt-requires g c =
    let after = c.collect_between.ensures in record { idle = does_idle (between after.collects).does after.free c.make_attempt-first.ensures.asked.replied.idle }

pub pin_and_unpin-requires : goal.pin_and_unpin-requires
pin_and_unpin-requires g c =
    let after = c.collect_between.ensures in record { idle = does_idle (between after.collects).does after.free c.make_attempt-first.ensures.asked.replied.idle }

pub returns-in_default : goal.returns-in_default
returns-in_default g c = record {
  asked = once_asked c.args.call.now c.make_attempt-first.result (c.full_kind.ensures.none c.in_default.is) c.make_attempt-first.ensures.asked;
  lacks = λ is. absurd (false≢true (sym (c.full_kind.ensures.none c.in_default.is) ∙ ap is_full is));
  few = omega (arith, c.make_attempt-first.ensures.few, once_few c.args.call.now c.args.table.now.layout);
  spares = c.make_attempt-first.ensures.spares;
  room = λ removal one was early is. absurd (false≢true (sym (c.full_kind.ensures.none c.in_default.is) ∙ ap is_full is));
  none = λ one full early. absurd (false≢true (sym (c.full_kind.ensures.none c.in_default.is) ∙ full));
  used = none_lacked c.args.table.now.layout (key_of c.args.call.now) _ c.make_attempt-first.result c.args.seat.now c.make_attempt-first.new.seat (c.full_kind.ensures.none c.in_default.is);
}

pub returns-then-collect_between : goal.returns-then-collect_between
returns-then-collect_between g c =
    let table = c.args.table.now in
    let call = c.args.call.now in
    let k = pass_of c.args.seat.now in
    let first = subst (λ (z : Result Reply TryFault). HasAsked table g.G.Gate.becomes (IsOneAttempt table) call z (c.args.seat.now, c.args.gate.now) (c.make_attempt-first.new.seat, c.make_attempt-first.new.gate)) c.in-Some.ensures.some c.make_attempt-first.ensures.asked in
    let round = between c.collect_between.ensures.collects in
    let again = c.make_attempt.ensures.asked in
    let unnoted = first.replied.refused.refused.unnoted in
    let later = round_later k (c.make_attempt-first.new.seat, c.make_attempt-first.new.gate) (c.collect_between.new.seat, c.collect_between.new.gate) unnoted first.later first.replied.idle.1 round in
    let falls = at_most_trans (uncommitted_in c.collect_between.new.seat.bounds) (uncommitted_in c.make_attempt-first.new.seat.bounds) (uncommitted_in c.args.seat.now.bounds) round.does.seat.4
    (ended_bounds table g.G.Gate.becomes (c.args.seat.now, c.args.gate.now) (c.make_attempt-first.new.seat, c.make_attempt-first.new.gate) first.ended) in
    let both = outcome_then table.layout k (pass_of c.collect_between.new.seat) (pass_of c.make_attempt.new.seat) (then_collected k (c.make_attempt-first.new.seat, c.make_attempt-first.new.gate) (c.collect_between.new.seat, c.collect_between.new.gate) unnoted first.later first.replied.idle.1 round) later falls
    (run_begins_on c.args.seat.now.trace c.make_attempt-first.new.seat.trace c.collect_between.new.seat.trace
    (ended_begin table g.G.Gate.becomes (c.args.seat.now, c.args.gate.now) (c.make_attempt-first.new.seat, c.make_attempt-first.new.gate) first.ended)
    (runs_begin table g.G.Gate.becomes (round.first ∷ round.rest) (c.make_attempt-first.new.seat, c.make_attempt-first.new.gate) (c.collect_between.new.seat, c.collect_between.new.gate) round.does.steps))
    call c.make_attempt.result again.replied.noted again.replied.refused in
    record {
      asked = record {
        replied = record { idle = again.replied.idle; noted = both.0; refused = both.1; leafless = again.replied.leafless; loaded = le_trans later again.replied.loaded };
        ended = ended_again table g.G.Gate.becomes call c.make_attempt.result c.in-Some.lacks (c.args.seat.now, c.args.gate.now) (c.make_attempt-first.new.seat, c.make_attempt-first.new.gate) (c.collect_between.new.seat, c.collect_between.new.gate) _ first.ended first.replied.refused round again.ended (inl (again.replied.noted, again.replied.refused));
        later = le_trans later again.later;
      };
      lacks = λ is. lacks_from_before table.layout c.collect_between.new.seat.bounds c.args.seat.now.bounds c.make_attempt.new.seat.known.pass c.make_attempt.new.seat.known.pass c.make_attempt.new.seat.known.failed c.make_attempt.new.seat.known.failed c.args.seat.now.known.steps c.collect_between.new.seat.known.steps
          (nodes_among c.make_attempt.new.scratch.build.made.items) falls later refl refl (c.make_attempt.ensures.lacks is);
      few = (
          let count = round.few in
          let twice = twice_few call table.layout k (pass_of c.make_attempt-first.new.seat) (first.replied.refused.refused.full (full_fault c.in-Some.lacks)) in
          omega (arith, c.make_attempt-first.ensures.few, count, c.make_attempt.ensures.few, twice)
          );
      spares = λ was. c.make_attempt.ensures.spares (collects_spare c.args.table.now g.G.Gate.becomes (c.make_attempt-first.new.seat, c.make_attempt-first.new.gate) (c.collect_between.new.seat, c.collect_between.new.gate) c.collect_between.ensures.collects (c.make_attempt-first.ensures.spares was));
      room = λ removal one was early.
          let longer = runs_longer c.args.table.now g.G.Gate.becomes (round.first ∷ round.rest) (c.make_attempt-first.new.seat, c.make_attempt-first.new.gate) (c.collect_between.new.seat, c.collect_between.new.gate) round.does.steps in
          let idle = c.make_attempt-first.ensures.asked.replied.idle.1 in
          c.make_attempt.ensures.room removal
          (collecting_room c.args.table.now g.G.Gate.becomes (c.make_attempt-first.new.seat, c.make_attempt-first.new.gate) (c.collect_between.new.seat, c.collect_between.new.gate) c.collect_between.ensures.collects one idle.pin idle.own (omega (arith, early, longer, c.make_attempt.ensures.longer)) (c.make_attempt-first.ensures.spares was));
      used = used_since table.layout (key_of call) _ c.make_attempt.result c.args.seat.now c.collect_between.new.seat c.make_attempt.new.seat falls c.make_attempt.ensures.used;
      none = λ one full early.
          let longer = runs_longer c.args.table.now g.G.Gate.becomes (round.first ∷ round.rest) (c.make_attempt-first.new.seat, c.make_attempt-first.new.gate) (c.collect_between.new.seat, c.collect_between.new.gate) round.does.steps in
          let idle = c.make_attempt-first.ensures.asked.replied.idle in
          refused_still c.args.table.now g.G.Gate.becomes (c.collect_between.new.seat, c.collect_between.new.gate) (c.make_attempt.new.seat, c.make_attempt.new.gate) (does_idle round.does c.collect_between.ensures.free idle).1 again.ended (full_unnoted c.args.table.now.layout c.args.call.now (pass_of c.collect_between.new.seat) (pass_of c.make_attempt.new.seat) c.make_attempt.result full again.replied.refused)
          (collecting_still c.args.table.now g.G.Gate.becomes (c.make_attempt-first.new.seat, c.make_attempt-first.new.gate) (c.collect_between.new.seat, c.collect_between.new.gate) c.collect_between.ensures.collects one idle.1.pin idle.1.own (omega (arith, early, longer, c.make_attempt.ensures.longer)));
    }

pub returns : goal.returns
returns g c =
    let table = c.args.table.now in
    let call = c.args.call.now in
    let k = pass_of c.args.seat.now in
    let fault = fault_of c.in-Some.lacks in
    let first = subst (λ (z : Result Reply TryFault). HasAsked table g.G.Gate.becomes (IsOneAttempt table) call z (c.args.seat.now, c.args.gate.now) (c.make_attempt-first.new.seat, c.make_attempt-first.new.gate)) c.in-Some.ensures.some c.make_attempt-first.ensures.asked in
    let none = none_between c.in-Some.lacks (c.collect_between.ensures.none c.if-collect_between.false) in
    let round = none.0 in
    let again = c.pin_and_unpin.ensures.rested in
    let unnoted = first.replied.refused.refused.unnoted in
    let later = round_later k (c.make_attempt-first.new.seat, c.make_attempt-first.new.gate) (c.collect_between.new.seat, c.collect_between.new.gate) unnoted first.later first.replied.idle.1 round in
    let collected = then_collected k (c.make_attempt-first.new.seat, c.make_attempt-first.new.gate) (c.collect_between.new.seat, c.collect_between.new.gate) unnoted first.later first.replied.idle.1 round in
    let cause = cause_still call k (c.make_attempt-first.new.seat, c.make_attempt-first.new.gate) (c.collect_between.new.seat, c.collect_between.new.gate) (c.pin_and_unpin.new.seat, c.pin_and_unpin.new.gate) round again.failed again.unnoted.number fault (lacked_full c.in-Some.lacks) first.replied.refused.cause in
    let whole : HasAsked table g.G.Gate.becomes (AreTries table g.G.Gate.becomes call (Err fault)) call (Err fault) (c.args.seat.now, c.args.gate.now) (c.pin_and_unpin.new.seat, c.pin_and_unpin.new.gate) = record {
      replied = record {
        idle = again.idle;
        noted = tt;
        refused = record {
          cause = cause;
          refused = record {
            unnoted = unnoted_then table.layout k (pass_of c.collect_between.new.seat) (pass_of c.pin_and_unpin.new.seat) collected later again.unnoted;
            full = λ full. may_take_from_before call k k (pass_of c.make_attempt-first.new.seat) (pass_of c.pin_and_unpin.new.seat) (no_further refl)
                (begins_on c.make_attempt-first.new.seat.known.front c.collect_between.new.seat.known.front c.pin_and_unpin.new.seat.known.front
                (no_further (ap (λ (z : Known). z.front) round.does.rest)) again.unnoted.front)
                (again.fresh ∙ ap (λ (z : Known). z.fresh) round.does.rest) (first.replied.refused.refused.full full);
          };
        };
        leafless = first.replied.leafless;
        loaded = subst (λ (z : Fresh). c.args.seat.now.known.steps ≤ z.step) (sym (again.fresh ∙ ap (λ (z : Known). z.fresh) round.does.rest)) first.replied.loaded;
      };
      ended = ended_again table g.G.Gate.becomes call (Err fault) c.in-Some.lacks (c.args.seat.now, c.args.gate.now) (c.make_attempt-first.new.seat, c.make_attempt-first.new.gate) (c.collect_between.new.seat, c.collect_between.new.gate) _ first.ended first.replied.refused round again.ended (inr none.1);
      later = omega (arith, later, again.steps);
    } in
    record {
      lacks = λ is. subst (λ made. LacksNodes table.layout c.args.seat.now.bounds c.pin_and_unpin.new.seat.known.pass c.pin_and_unpin.new.seat.known.failed c.args.seat.now.known.steps (nodes_among made)) (sym c.collect_between.ensures.made)
          (lacks_still call k (c.make_attempt-first.new.seat, c.make_attempt-first.new.gate) (c.collect_between.new.seat, c.collect_between.new.gate) (c.pin_and_unpin.new.seat, c.pin_and_unpin.new.gate) round again.failed again.unnoted.number c.args.seat.now.bounds _
          (c.make_attempt-first.ensures.lacks is));
      few = (
          let count = round.few in
          let twice = twice_few call table.layout k (pass_of c.make_attempt-first.new.seat) (first.replied.refused.refused.full (full_fault c.in-Some.lacks)) in
          omega (arith, c.make_attempt-first.ensures.few, count, again.steps, twice)
          );
      spares = λ was. c.pin_and_unpin.ensures.spares (collects_spare c.args.table.now g.G.Gate.becomes (c.make_attempt-first.new.seat, c.make_attempt-first.new.gate) (c.collect_between.new.seat, c.collect_between.new.gate) c.collect_between.ensures.collects (c.make_attempt-first.ensures.spares was));
      room = λ removal one was early is. elim (c.collect_between.ensures.not c.if-collect_between.false) [ inl plain ↦ absurd (false≢true (sym plain ∙ c.is_removal.ensures.1 removal)) | inr several ↦ absurd (omega (arith, several, one)) ];
      asked = subst (λ (z : Result Reply TryFault). HasAsked table g.G.Gate.becomes (AreTries table g.G.Gate.becomes call z) call z (c.args.seat.now, c.args.gate.now) (c.pin_and_unpin.new.seat, c.pin_and_unpin.new.gate)) (sym c.in-Some.ensures.some) whole;
      used = subst (λ made. LeavesUsed table.layout (key_of call) (nodes_among made) c.make_attempt-first.result c.args.seat.now c.pin_and_unpin.new.seat) (sym c.collect_between.ensures.made)
          (rested_leaves table g.G.Gate.becomes (key_of call) (nodes_among c.make_attempt-first.new.scratch.build.made.items) c.in-Some.lacks c.make_attempt-first.result c.args.seat.now (c.make_attempt-first.new.seat, c.make_attempt-first.new.gate) (c.collect_between.new.seat, c.collect_between.new.gate) (c.pin_and_unpin.new.seat, c.pin_and_unpin.new.gate)
          c.in-Some.ensures.some (c.collect_between.ensures.none c.if-collect_between.false) again.ended c.make_attempt-first.ensures.used);
      none = λ one full early.
          let longer = runs_longer c.args.table.now g.G.Gate.becomes (round.first ∷ round.rest) (c.make_attempt-first.new.seat, c.make_attempt-first.new.gate) (c.collect_between.new.seat, c.collect_between.new.gate) round.does.steps in
          let later = ended_longer c.args.table.now g.G.Gate.becomes (c.collect_between.new.seat, c.collect_between.new.gate) (c.pin_and_unpin.new.seat, c.pin_and_unpin.new.gate) again.ended in
          let idle = c.make_attempt-first.ensures.asked.replied.idle in
          refused_still c.args.table.now g.G.Gate.becomes (c.collect_between.new.seat, c.collect_between.new.gate) (c.pin_and_unpin.new.seat, c.pin_and_unpin.new.gate) (does_idle round.does c.collect_between.ensures.free idle).1 again.ended again.unnoted
          (collecting_still c.args.table.now g.G.Gate.becomes (c.make_attempt-first.new.seat, c.make_attempt-first.new.gate) (c.collect_between.new.seat, c.collect_between.new.gate) c.collect_between.ensures.collects one idle.1.pin idle.1.own (omega (arith, early, longer, later)));
    }
