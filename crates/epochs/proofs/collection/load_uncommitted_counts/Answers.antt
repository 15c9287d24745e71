-- One count more.
use Rattle.std.proofs.Common.{rules}
use Rattle.epochs.proofs.collection.Visiting.{loads_more, loads_none}
use Rattle.epochs.proofs.collection.load_uncommitted_counts.Goals as goal

pub loop-kind-init : goal.loop-kind-init
loop-kind-init c = record { own = search rules; long = search rules; loads = loads_none _ _ _ }

pub loop-kind-preserved : goal.loop-kind-preserved
loop-kind-preserved c = record {
  own = search rules;
  long = search rules;
  loads = loads_more _ _ _ _ _ _ _ c.loop-kind-test.true c.loop-kind.invariant.long c.loop-kind.invariant.loads c.load_uncommitted.ensures.seat c.load_uncommitted.ensures.few
      c.load_uncommitted.ensures.committed;
}
