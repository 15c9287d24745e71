-- No count yet, one more, and all.
use Rattle.std.proofs.Common.{rules, arith}
use Rattle.hot_index.proofs.key_counts.KeyCounts.{all_below, none_below, one_more_below}
use Rattle.hot_index.proofs.key_counts.total.Goals as goal

pub loop-place-init : goal.loop-place-init
loop-place-init c = record { bound = omega arith; told = λ front are. none_below front }

pub loop-place-preserved : goal.loop-place-preserved
loop-place-preserved c = record {
  bound = search rules;
  told = λ front are. one_more_below front c.args.counts.now are c.loop-place.place _ c.loop-place-test.true c.loop-place.total (c.loop-place.invariant.told front are);
}

pub returns : goal.returns
returns c = λ front are small.
    let high = c.loop-place-test.false in let low = c.loop-place.auto.place-end in
    all_below front c.args.counts.now are c.loop-place.place (omega (arith, high, low)) c.loop-place.total (c.loop-place.invariant.told front are) c.loop-place.invariant.bound small
