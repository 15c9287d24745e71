-- The columns are the positions of the forks so far.
use Rattle.bulk_load.proofs.Common.{ℕ, ◌≡◌, ◌<◌, length, take, has, IsColumns}
use Rattle.bulk_load.specs.Tips.{forks_between}
use Rattle.bulk_load.proofs.tips.collect_columns.Given as goal

abbrev pub invariant-loop-i : goal.invariant-loop-i
invariant-loop-i l = record {
  columns : IsColumns l.columns;
  few : length l.columns < l.i;
  positions : (q : ℕ) → has l.columns q ≡ has (forks_between (take l.i l.tips)) q;
}
