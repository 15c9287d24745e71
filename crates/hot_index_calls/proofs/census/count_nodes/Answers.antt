-- One record more.
use Rattle.hot_index_calls.proofs.Common.{rules, arith, ◌-◌, a_node}
use Rattle.hot_index_calls.proofs.Counted.{counts_few, counts_more}
use Rattle.hot_index_calls.proofs.census.count_nodes.Goals as goal

pub loop-number-preserved : goal.loop-number-preserved
loop-number-preserved g c = record {
  pin = search rules;
  steps = λ tag has is. counts_more {kind = a_node} (c.loop-number.invariant.steps tag has is) c.load_state-word.ensures c.count_state-counts-in-loop-number.ensures;
}

pub count_state-counts-requires-in-loop-number-clause-few : goal.count_state-counts-requires-in-loop-number-clause-few
count_state-counts-requires-in-loop-number-clause-few g c =
    let (tag, has, is) = c.requires.state in
    let few = counts_few (c.loop-number.invariant.steps tag has is) in
    let nodes = c.layout-nodes.result.nodes_in_range in
    omega (arith, few, c.loop-number-test.true, c.committed_of-behind.ensures, nodes)
