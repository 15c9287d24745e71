-- A visit, with an exchange or without one.
use Rattle.std.proofs.Common.{Bool, sym, subst}
use Rattle.epochs.specs.Rounds.{VisitsOne}
use Rattle.epochs.proofs.collection.Visiting.{visit_passes, visit_tries}
use Rattle.epochs.proofs.collection.visit_record.Goals as goal

pub returns-in_default-clause-steps : goal.returns-in_default-clause-steps
returns-in_default-clause-steps g c =
    subst (λ (t : Bool). VisitsOne c.args.table.now g.G.Gate.becomes c.args.bound c.args.at.rec t (c.args.seat.now, c.args.gate.now) (c.load_state_at-word.new.seat, c.load_state_at-word.new.gate)) (sym c.outcome_of_state.ensures.given)
    (visit_passes _ _ _ _ _ _ _ c.load_state_at-word.ensures c.requires.bound.least c.in_default.ensures)

pub returns-clause-steps : goal.returns-clause-steps
returns-clause-steps g c =
    subst (λ (t : Bool). VisitsOne c.args.table.now g.G.Gate.becomes c.args.bound c.args.at.rec t (c.args.seat.now, c.args.gate.now) (c.give_back_at-found.new.seat, c.give_back_at-found.new.gate)) (sym c.outcome_of_try.ensures)
    (visit_tries _ _ _ _ _ _ _ _ _ _ c.in-Some.ensures.3 c.in-Some.ensures.0 c.in-Some.ensures.2 c.load_state_at-word.ensures c.give_back_at-found.ensures)
