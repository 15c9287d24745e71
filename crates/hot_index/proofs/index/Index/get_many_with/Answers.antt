-- The gets are noted as their pass clears the pin, and it has settled then.
use Rattle.hot_index.proofs.Common.{rules, ◌∙◌, length, ap, subst, TableView, looks_same, PassView, pass_of, AreNoted, HasMadeGetManySteps, gets, has_got_many}
use Rattle.hot_index.proofs.index.ManyNoted.{gets_counted, gets_noted}
use Rattle.hot_index.proofs.Reading.{still_pinned}
use Rattle.hot_index.proofs.index.Index.get_many_with.Goals as goal

pub end_gets-requires : goal.end_gets-requires
end_gets-requires g c = λ κs le. (search rules, still_pinned c.look_up_all.ensures.searched.looks c.pin.ensures.fits c.pin.ensures.pinned)

pub returns-clause-own : goal.returns-clause-own
returns-clause-own g c =
    let same = looks_same c.look_up_all.ensures.searched.looks in
    c.end_gets.ensures.step.seat.0 ∙ (same.0 ∙ (c.pin.ensures.fits.0 ∙ ap (λ (x : TableView). x.id) c.self.view_is))

pub invariant_of-pass : goal.invariant_of-pass
invariant_of-pass g c =
    let all = c.look_up_all.ensures in
    gets_counted c.args.keys.now c.look_up_all.new.found c.pin.ensures.steps all.searched all.found c.end_gets.ensures.step c.pass.inside.count c.pass.invariant

pub returns-clause-call : goal.returns-clause-call
returns-clause-call g c =
    let all = c.look_up_all.ensures in
    subst (λ (x : TableView). AreNoted x.layout c.args.pass.now (pass_of c.end_gets.new.seat) (gets c.args.keys.now c.look_up_all.new.found)) c.self.view_is
    (subst (λ (z : PassView). AreNoted c.self.inside.table.layout z (pass_of c.end_gets.new.seat) (gets c.args.keys.now c.look_up_all.new.found)) c.pass.view_is
    (gets_noted c.args.keys.now c.look_up_all.new.found c.pin.ensures.steps all.searched all.found c.end_gets.ensures.step c.pass.invariant.settled).0)

pub returns-clause-made : goal.returns-clause-made
returns-clause-made g c =
    subst (λ (x : TableView). HasMadeGetManySteps x g.G.Gate.becomes (length c.args.keys.now) (c.args.pass.now, c.args.gate.now) (pass_of c.end_gets.new.seat, c.end_gets.new.gate)) c.self.view_is
    (subst (λ (z : PassView). HasMadeGetManySteps c.self.inside.table g.G.Gate.becomes (length c.args.keys.now) (z, c.args.gate.now) (pass_of c.end_gets.new.seat, c.end_gets.new.gate)) c.pass.view_is
    (has_got_many c.self.inside.table g.G.Gate.becomes (length c.args.keys.now) c.pin.ensures.steps c.look_up_all.ensures.searched c.end_gets.ensures.step))
