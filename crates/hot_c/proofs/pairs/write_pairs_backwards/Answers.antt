-- One pair more is written.
use Rattle.hot_c.proofs.Common.{ap, get_or, reverse, subst, length-reverse}
use Rattle.hot_c.proofs.pairs.Pairs.{all_written, is_key, last_first, one_more}
use Rattle.hot_c.specs.Pairs.{HoldsPair}
use Rattle.hot_c.proofs.pairs.write_pairs_backwards.Goals as goal

pub write_pair-requires : goal.write_pair-requires
write_pair-requires c = is_key (reverse c.args.pairs.now) _ _ c.args.room.now c.loop-place.room c.loop-place.invariant.written _ _ (last_first _ _ _ c.in-Some.ensures.steps.0)

pub loop-place-preserved : goal.loop-place-preserved
loop-place-preserved c = record {
  written = rw (c.in-Some.ensures.steps.1, c.in-Some.ensures.steps.2)
      (one_more (reverse c.args.pairs.now) _ _ c.args.room.now c.loop-place.room c.loop-place.invariant.written _ _ (last_first _ _ _ c.in-Some.ensures.steps.0)
      (rw (length-reverse c.args.pairs.now) c.requires) _ c.write_pair.new.pair
      (subst (λ n. HoldsPair (c.in-Some.key.now, c.in-Some.value) (get_or c.loop-place.room n _) c.write_pair.new.pair) c.in-Some.ensures.steps.1 c.write_pair.ensures));
}

pub returns-clause-written : goal.returns-clause-written
returns-clause-written c = all_written (reverse c.args.pairs.now) _ _ _ c.loop-place.room c.loop-place.invariant.written (ap reverse c.in-None.ensures.steps.0.0)
