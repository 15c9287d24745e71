-- A count changes nothing that a call tells.
use Rattle.hot_index.proofs.Common.{subst, ◌∙◌, TableView, IsUnnoted, HasCounted, PassView, pass_of}
use Rattle.hot_index_calls.proofs.Counted.{counts_settled, counts_unnoted, has_counted}
use Rattle.hot_index.proofs.KeyCounts.Counted.{settled_on}
use Rattle.hot_index.proofs.index.Index.census_with.Goals as goal

pub invariant_of-pass : goal.invariant_of-pass
invariant_of-pass g c =
    let counts = c.count_records.ensures in
    let some = c.self.inside.table.layout.nodes_in_range.0 in
    let settled = c.pass.invariant.settled in
    settled_on c.self.inside.table.layout c.pass.inside.seat c.count_records.new.seat c.pass.inside.count (counts_unnoted counts.steps some settled) (counts_settled counts.steps some (counts.pin ∙ settled.pin) settled) c.pass.invariant

pub returns-clause-call : goal.returns-clause-call
returns-clause-call g c =
    subst (λ (x : TableView). IsUnnoted x.layout c.args.pass.now (pass_of c.count_records.new.seat)) c.self.view_is
    (subst (λ (z : PassView). IsUnnoted c.self.inside.table.layout z (pass_of c.count_records.new.seat)) c.pass.view_is
    (counts_unnoted c.count_records.ensures.steps c.self.inside.table.layout.nodes_in_range.0 c.pass.invariant.settled))

pub returns-clause-made : goal.returns-clause-made
returns-clause-made g c =
    subst (λ (x : TableView). HasCounted x g.G.Gate.becomes (c.args.pass.now, c.args.gate.now) (pass_of c.count_records.new.seat, c.count_records.new.gate) c.count_records.result) c.self.view_is
    (subst (λ (z : PassView). HasCounted c.self.inside.table g.G.Gate.becomes (z, c.args.gate.now) (pass_of c.count_records.new.seat, c.count_records.new.gate) c.count_records.result) c.pass.view_is
    (has_counted c.count_records.ensures.steps c.self.inside.table.layout.nodes_in_range.0))
