-- The tries before were refused; what the last one leaves is what the whole call leaves.
use Rattle.std.proofs.Common.{[], ◌∷◌, ◌++◌, inl, Ok, Err, refl, subst}
use Rattle.hot_index_calls.specs.Answers.{fault_of}
use Rattle.hot_index_calls.specs.Asked.{HasReplied}
use Rattle.hot_index_calls.specs.Calls.{IsTriedAndCounted}
use Rattle.hot_index_calls.specs.Passes.{pass_of}
use Rattle.hot_index_calls.specs.Refusals.{fault_in}
use Rattle.hot_index_calls.specs.Rooms.{FindsRoom}
use Rattle.hot_index_calls.specs.declared.refusals.Refusal.{Refusal}
use Rattle.hot_index_calls.specs.declared.refusals.Refusal.TheVariants.{Full as IsFull}
use Rattle.hot_index_calls.proofs.Refusing.{left_never, passes_never, stepped_out, stepped_then}
use Rattle.hot_index_calls.proofs.Counts.{refused_again, waited_from_before, waited_out}
use Rattle.hot_index_calls.proofs.Hindered.{stepped_begin, stepped_bounds}
use Rattle.hot_index_calls.proofs.changing.retry_change.Goals as goal

pub try_and_count-requires : goal.try_and_count-requires
try_and_count-requires g c = record { idle = c.loop.invariant.idle }

pub loop-init : goal.loop-init
loop-init g c = record { idle = c.requires.idle; spares = λ was. was; waited = inl refl; refused = ([], refl, λ one. refl); ran = ([], refl) }

pub returns-in-Ok : goal.returns-in-Ok
returns-in-Ok g c =
    let (refusals, so_far, alone) = c.loop.invariant.refused in
    record {
      replied = waited_out c.args.table.now c.args.seat.now c.loop.seat c.try_and_count.new.seat c.args.call.now (Ok c.in-Ok.reply) c.loop.invariant.waited c.in-Ok.ensures.replied;
      stepped = stepped_out _ _ _ c.loop.invariant.ran c.in-Ok.ensures.stepped;
      tries = record { refusals = refusals; last = (pass_of c.loop.seat, c.loop.gate); refused = so_far; alone = alone; outcome = Ok c.in-Ok.reply; tried = c.in-Ok.ensures.tried; is_last = refl };
      kept = λ left. refl;
      spares = λ was. c.in-Ok.ensures.spares (c.loop.invariant.spares was);
      room = λ removal one was early is. cc;
    }

pub returns-in-Some-final_refusal : goal.returns-in-Some-final_refusal
returns-in-Some-final_refusal g c =
    let (refusals, so_far, alone) = c.loop.invariant.refused in
    let (counts, is) = c.in-Some-final_refusal.ensures.some in
    let table = c.args.table.now in
    let call = c.args.call.now in
    let full = c.in-Some-final_refusal.full in
    record {
      replied = waited_out table c.args.seat.now c.loop.seat c.try_and_count.new.seat call (Err (fault_of full)) c.loop.invariant.waited
          (subst (λ (r : Refusal). HasReplied table call (Err (fault_in r)) c.loop.seat c.try_and_count.new.seat) is c.in-Err.ensures.replied);
      stepped = stepped_out _ _ _ c.loop.invariant.ran c.in-Err.ensures.stepped;
      tries = record {
        refusals = refusals;
        last = (pass_of c.loop.seat, c.loop.gate);
        refused = so_far;
        alone = alone;
        outcome = Err (IsFull full counts);
        tried = subst (λ (r : Refusal). IsTriedAndCounted call (Err r) table g.G.Gate.becomes (pass_of c.loop.seat, c.loop.gate) (pass_of c.try_and_count.new.seat, c.try_and_count.new.gate)) is c.in-Err.ensures.tried;
        is_last = (counts, refl);
      };
      kept = λ left. absurd (left_never call full counts table g.G.Gate.becomes _ _ left (subst (λ (r : Refusal). IsTriedAndCounted call (Err r) table g.G.Gate.becomes (pass_of c.loop.seat, c.loop.gate) (pass_of c.try_and_count.new.seat, c.try_and_count.new.gate)) is c.in-Err.ensures.tried));
      spares = λ was. c.in-Err.ensures.spares (c.loop.invariant.spares was);
      room = λ removal one was early.
          subst (λ (r : Refusal). FindsRoom table.layout call (Err (fault_in r)) c.loop.seat c.try_and_count.new.seat) is c.in-Err.ensures.room removal one (c.loop.invariant.spares was) early;
    }

pub loop-preserved : goal.loop-preserved
loop-preserved g c =
    let o = c.in-Err.ensures in
    let (refusals, so_far, alone) = c.loop.invariant.refused in
    let passing = c.final_refusal.ensures.none c.in_default.is in
    record {
      idle = o.replied.idle;
      spares = λ was. o.spares (c.loop.invariant.spares was);
      waited = waited_from_before c.args.table.now.layout (pass_of c.args.seat.now) (pass_of c.loop.seat) (pass_of c.try_and_count.new.seat) c.loop.invariant.waited o.replied.refused.refused.unnoted o.later
          (stepped_bounds c.args.table.now g.G.Gate.becomes (c.loop.seat, c.loop.gate) (c.try_and_count.new.seat, c.try_and_count.new.gate) o.stepped)
          (stepped_begin c.args.table.now g.G.Gate.becomes (c.loop.seat, c.loop.gate) (c.try_and_count.new.seat, c.try_and_count.new.gate) o.stepped);
      refused = (
        refusals ++ c.in-Err.refusal ∷ [],
        refused_again _ _ _ refusals c.in-Err.refusal so_far o.tried passing,
        λ one. absurd (passes_never c.args.call.now c.in-Err.refusal c.args.table.now g.G.Gate.becomes _ _ one o.tried passing),
      );
      ran = stepped_then _ _ _ c.loop.invariant.ran o.stepped;
    }
