-- A round changes nothing that a call tells, and what it gives back is its own.
use Rattle.hot_index.proofs.Common.{refl, ap, subst, Known, TableView, IsUnnoted, PassView, pass_of, HasCollected}
use Rattle.hot_index_calls.proofs.Passes.Collected.{round_few, round_settled, round_unnoted}
use Rattle.hot_index.proofs.KeyCounts.Counted.{settled_on}
use Rattle.hot_index.proofs.index.Index.collect_with.Goals as goal

pub invariant_of-pass : goal.invariant_of-pass
invariant_of-pass g c =
    let r = c.collect_round-round.ensures in
    let settled = c.pass.invariant.settled in
    settled_on c.self.inside.table.layout c.pass.inside.seat c.collect_round-round.new.seat c.pass.inside.count (round_unnoted r.round settled) (round_settled r.round r.free settled) c.pass.invariant

pub returns-clause-call : goal.returns-clause-call
returns-clause-call g c =
    subst (λ (x : TableView). IsUnnoted x.layout c.args.pass.now (pass_of c.collect_round-round.new.seat)) c.self.view_is
    (subst (λ (z : PassView). IsUnnoted c.self.inside.table.layout z (pass_of c.collect_round-round.new.seat)) c.pass.view_is
    (round_unnoted c.collect_round-round.ensures.round c.pass.invariant.settled))

pub returns-clause-made : goal.returns-clause-made
returns-clause-made g c =
    let round = c.collect_round-round.ensures.round in
    subst (λ (x : TableView). HasCollected x g.G.Gate.becomes (c.args.pass.now, c.args.gate.now) (pass_of c.collect_round-round.new.seat, c.collect_round-round.new.gate) c.collect_round-round.result.given.nodes c.collect_round-round.result.given.leaves) c.self.view_is
    (subst (λ (z : PassView). HasCollected c.self.inside.table g.G.Gate.becomes (z, c.args.gate.now) (pass_of c.collect_round-round.new.seat, c.collect_round-round.new.gate) c.collect_round-round.result.given.nodes c.collect_round-round.result.given.leaves) c.pass.view_is
    (record {
      begins = refl;
      ends = refl;
      round = round;
      front = ap (λ (z : Known). z.front) round.does.rest;
      few = round_few round;
    }))
