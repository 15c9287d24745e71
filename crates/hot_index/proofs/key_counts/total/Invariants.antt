-- The total is that of the counts of the passes below.
use Rattle.hot_index.proofs.Common.{◌<◌, ◌^◌, List, Change}
use Rattle.hot_index.specs.KeyCounts.{AreCounts, IsDifference, puts, takes}
use Rattle.hot_index.proofs.key_counts.KeyCounts.{of_below}
use Rattle.hot_index.proofs.key_counts.total.Given as goal

abbrev pub invariant-loop-place : goal.invariant-loop-place
invariant-loop-place l = record {
  bound : l.total < 2 ^ 64;
  told : (front : List Change) → AreCounts front l.counts → IsDifference (of_below puts l.place front) (of_below takes l.place front) l.total;
}
