-- None of those before the index has the number.
use Rattle.rowex_writing.proofs.Common.{◌≡◌, ◌≢◌, ◌+◌, ◌<◌, ◌≤◌, ℕ, Some, slice_get, PathNode}
use Rattle.rowex_writing.proofs.merging.widening.is_near_span.Given as goal

abbrev pub invariant-loop-index : goal.invariant-loop-index
invariant-loop-index l = record {
  none : (step : PathNode) (i : ℕ) → slice_get l.job.way.now i ≡ Some step → l.job.span.end ≤ i + 2 → i < l.index → l.number ≢ step.number;
}
