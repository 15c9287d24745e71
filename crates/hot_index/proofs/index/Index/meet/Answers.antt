-- What the seats have seen, the passes have.
use Rattle.hot_index.proofs.Common.{subst, ap, ◌∙◌, Known, IsShownAll, TableView, HaveMet, Owns, PassView, pass_of}
use Rattle.hot_index.specs.Stamps.{HasSeenMore}
use Rattle.hot_index.proofs.KeyCounts.Counted.{settled_on}
use Rattle.hot_index.proofs.index.Meets.{first_settled, second_settled, passes_met, seen_more}
use Rattle.hot_index.proofs.index.Index.meet.Goals as goal

pub returns-clause-rest : goal.returns-clause-rest
returns-clause-rest c =
    let one = c.meet_seats-first.result.0 in
    let other = c.meet_seats-first.result.1 in
    let met = c.meet_seats-first.ensures.met in (
      subst (λ (z : PassView). HasSeenMore z (pass_of one)) c.first.view_is (seen_more met.0 c.first.inside.seat.known one.known met.1),
      subst (λ (z : PassView). HasSeenMore z (pass_of other)) c.second.view_is (seen_more met.0 c.second.inside.seat.known other.known met.2),
    )

pub invariant_of-result : goal.invariant_of-result
invariant_of-result c =
    let met = c.meet_seats-first.ensures.met in
    let one = c.first.invariant.settled in
    let other = c.second.invariant.settled in
    let both = passes_met c.self.inside.table.layout c.first.inside.seat c.second.inside.seat c.meet_seats-first.result.0 c.meet_seats-first.result.1 met one other in
    settled_on c.self.inside.table.layout c.first.inside.seat c.meet_seats-first.result.0 c.first.inside.count both.first (first_settled c.self.inside.table.layout _ _ _ _ met one) c.first.invariant

pub invariant_of-result-2 : goal.invariant_of-result-2
invariant_of-result-2 c =
    let met = c.meet_seats-first.ensures.met in
    let one = c.first.invariant.settled in
    let other = c.second.invariant.settled in
    let both = passes_met c.self.inside.table.layout c.first.inside.seat c.second.inside.seat c.meet_seats-first.result.0 c.meet_seats-first.result.1 met one other in
    settled_on c.self.inside.table.layout c.second.inside.seat c.meet_seats-first.result.1 c.second.inside.count both.second (second_settled c.self.inside.table.layout _ _ _ _ met other) c.second.invariant

pub returns-clause-met : goal.returns-clause-met
returns-clause-met c =
    let one = c.meet_seats-first.result.0 in
    let other = c.meet_seats-first.result.1 in
    subst (λ (x : TableView). HaveMet x.layout c.args.first c.args.second (pass_of one) (pass_of other)) c.self.view_is
    (subst (λ (z : PassView). HaveMet c.self.inside.table.layout z c.args.second (pass_of one) (pass_of other)) c.first.view_is
    (subst (λ (z : PassView). HaveMet c.self.inside.table.layout (pass_of c.first.inside.seat) z (pass_of one) (pass_of other)) c.second.view_is
    (passes_met c.self.inside.table.layout c.first.inside.seat c.second.inside.seat one other c.meet_seats-first.ensures.met c.first.invariant.settled c.second.invariant.settled)))

pub returns-clause-steps : goal.returns-clause-steps
returns-clause-steps c =
    let met = c.meet_seats-first.ensures.met in
    (ap (λ (z : Known). z.steps) met.1 ∙ ap (λ (z : PassView). z.steps) c.first.view_is, ap (λ (z : Known). z.steps) met.2 ∙ ap (λ (z : PassView). z.steps) c.second.view_is)

pub returns-clause-shown : goal.returns-clause-shown
returns-clause-shown c =
    let one = c.meet_seats-first.result.0 in
    let other = c.meet_seats-first.result.1 in
    let shown = c.meet_seats-first.ensures.shown in
    subst (λ (x : TableView). IsShownAll x.layout c.args.first.seat one × IsShownAll x.layout c.args.second.seat other) c.self.view_is (
      subst (λ (z : PassView). IsShownAll c.self.inside.table.layout z.seat one) c.first.view_is shown.0,
      subst (λ (z : PassView). IsShownAll c.self.inside.table.layout z.seat other) c.second.view_is shown.1,
    )

pub returns-clause-own : goal.returns-clause-own
returns-clause-own c =
    subst (λ (x : TableView). Owns x (pass_of c.meet_seats-first.result.0) × Owns x (pass_of c.meet_seats-first.result.1)) c.self.view_is c.meet_seats-first.ensures.own

pub returns-clause-traces : goal.returns-clause-traces
returns-clause-traces c = assumption
