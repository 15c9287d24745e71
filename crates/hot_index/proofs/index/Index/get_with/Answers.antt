-- A get is noted as its pass clears the pin, and has settled then.
use Rattle.hot_index.proofs.Common.{rules, ◌∙◌, ap, subst, Get, TableView, PassView, pass_of, IsNoted, got, HasMadeGetSteps, looks_same, get_noted, has_got}
use Rattle.hot_index.proofs.KeyCounts.Counted.{got_on}
use Rattle.hot_index.proofs.Reading.{still_pinned}
use Rattle.hot_index.proofs.index.Index.get_with.Goals as goal

pub returns-clause-call : goal.returns-clause-call
returns-clause-call g c =
    let s = c.look_up-found.ensures in
    subst (λ (x : TableView). IsNoted x.layout c.args.pass.now (pass_of c.end_get.new.seat) (Get c.args.key.now) (got c.look_up-found.result)) c.self.view_is
    (subst (λ (z : PassView). IsNoted c.self.inside.table.layout z (pass_of c.end_get.new.seat) (Get c.args.key.now) (got c.look_up-found.result)) c.pass.view_is
    (get_noted c.args.key.now c.look_up-found.result c.pin.ensures.steps s.searched c.end_get.ensures.step c.pass.invariant.settled s.found).0)

pub end_get-requires : goal.end_get-requires
end_get-requires g c = λ κs le. (search rules, still_pinned c.look_up-found.ensures.searched.looks c.pin.ensures.fits c.pin.ensures.pinned)

pub returns-clause-own : goal.returns-clause-own
returns-clause-own g c =
    let same = looks_same c.look_up-found.ensures.searched.looks in
    c.end_get.ensures.step.seat.0 ∙ (same.0 ∙ (c.pin.ensures.fits.0 ∙ ap (λ (x : TableView). x.id) c.self.view_is))

pub invariant_of-pass : goal.invariant_of-pass
invariant_of-pass g c =
    let s = c.look_up-found.ensures in
    got_on c.self.inside.table.layout c.pass.inside.seat c.end_get.new.seat c.pass.inside.count c.args.key.now c.look_up-found.result
    (get_noted c.args.key.now c.look_up-found.result c.pin.ensures.steps s.searched c.end_get.ensures.step c.pass.invariant.settled s.found) c.pass.invariant

pub returns-clause-made : goal.returns-clause-made
returns-clause-made g c =
    subst (λ (x : TableView). HasMadeGetSteps x g.G.Gate.becomes (c.args.pass.now, c.args.gate.now) (pass_of c.end_get.new.seat, c.end_get.new.gate)) c.self.view_is
    (subst (λ (z : PassView). HasMadeGetSteps c.self.inside.table g.G.Gate.becomes (z, c.args.gate.now) (pass_of c.end_get.new.seat, c.end_get.new.gate)) c.pass.view_is
    (has_got c.self.inside.table g.G.Gate.becomes c.pin.ensures.steps c.look_up-found.ensures.searched c.end_get.ensures.step))
