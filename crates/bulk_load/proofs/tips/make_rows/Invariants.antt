-- The rows so far stand in front of unused ones, and the last of them is at hand.
use Rattle.std.proofs.Common.{◌≡◌, ◌-◌, ◌++◌, ◌∷◌, replicate, take}
use Rattle.bulk_load.proofs.tips.Rows.{last_row}
use Rattle.bulk_load.specs.Tips.{forks_between, rows_behind}
use Rattle.bulk_load.proofs.tips.make_rows.Given as goal

abbrev pub invariant-loop-i : goal.invariant-loop-i
invariant-loop-i l = record {
  rows : l.rows ≡ (0 ∷ rows_behind l.columns 0 (forks_between (take l.i l.tips))) ++ replicate (32 - l.i) 4294967295;
  row : l.row ≡ last_row l.columns 0 (forks_between (take l.i l.tips));
}
