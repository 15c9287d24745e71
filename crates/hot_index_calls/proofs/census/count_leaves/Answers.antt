-- One record more.
use Rattle.hot_index_calls.proofs.Common.{rules, arith, ◌-◌, [], a_leaf}
use Rattle.hot_index_calls.proofs.Counted.{counts_few, counts_more, counts_none, found_tag}
use Rattle.hot_index_calls.proofs.census.count_leaves.Goals as goal

pub loop-number-init : goal.loop-number-init
loop-number-init g c = record { pin = search rules; steps = counts_none [] _ c.zero_counts-counts.ensures }

pub loop-number-preserved : goal.loop-number-preserved
loop-number-preserved g c = record {
  pin = search rules;
  steps = counts_more {kind = a_leaf} c.loop-number.invariant.steps c.load_state-word.ensures c.count_state-counts.ensures;
}

pub count_state-counts-requires-clause-few : goal.count_state-counts-requires-clause-few
count_state-counts-requires-clause-few g c = omega (arith, counts_few c.loop-number.invariant.steps, c.loop-number-test.true)

pub count_state-counts-requires-clause-state : goal.count_state-counts-requires-clause-state
count_state-counts-requires-clause-state g c = found_tag c.load_state-word.ensures
