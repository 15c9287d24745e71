-- No pin, and one pin more.
use Rattle.std.proofs.Common.{rules}
use Rattle.epochs.proofs.Rounds.Bounding.{bound_none, bound_more, finds_none, finds_more}
use Rattle.epochs.proofs.collection.find_bound.Goals as goal

pub loop-pass-init : goal.loop-pass-init
loop-pass-init g c = record {
  pin = search rules;
  bound = bound_none _ _ _ _ c.load_epoch-bound.ensures.event;
  steps = finds_none _ _ _ _ _ c.load_epoch-bound.ensures;
}

pub loop-pass-preserved : goal.loop-pass-preserved
loop-pass-preserved g c = record {
  pin = search rules;
  bound = bound_more _ _ _ _ _ _ _ c.loop-pass.invariant.bound c.load_pin-word.ensures.event c.bound_with_pin-bound.ensures.none c.bound_with_pin-bound.ensures.pinned;
  steps = finds_more _ _ _ _ _ _ _ c.loop-pass.invariant.steps c.load_pin-word.ensures;
}
