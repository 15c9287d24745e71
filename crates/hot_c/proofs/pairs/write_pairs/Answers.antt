-- One pair more is written.
use Rattle.hot_c.proofs.pairs.Pairs.{all_written, one_more, others_kept}
use Rattle.hot_c.proofs.pairs.write_pairs.Goals as goal

pub loop-place-preserved : goal.loop-place-preserved
loop-place-preserved c = record {
  written = one_more c.args.pairs.now _ c.loop-place.place c.args.room.now c.loop-place.room c.loop-place.invariant.written _ _ c.in-Some.ensures.steps c.requires _ c.write_pair.new.pair c.write_pair.ensures;
}

pub returns-clause-written : goal.returns-clause-written
returns-clause-written c = all_written c.args.pairs.now _ _ _ c.loop-place.room c.loop-place.invariant.written c.in-None.ensures.steps.0

pub returns-clause-others : goal.returns-clause-others
returns-clause-others c = others_kept c.args.pairs.now _ _ _ c.loop-place.room c.loop-place.invariant.written c.in-None.ensures.steps.0
