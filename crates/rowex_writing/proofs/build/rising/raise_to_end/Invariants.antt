-- What has risen so far, and the records made for it.
use Rattle.std.proofs.Common.{◌≡◌, ◌≤◌, ◌-◌, ◌*◌, Some}
use Rattle.rowex_writing.specs.build.Building.{Rises}
use Rattle.rowex_writing.specs.plan.Counts.{level_steps}
use Rattle.rowex_writing.specs.build.Walks.{Makes}
use Rattle.rowex_writing.proofs.build.rising.Rising.{RisesOn}
use Rattle.rowex_writing.proofs.build.rising.raise_to_end.Given as goal

abbrev pub invariant-loop-rise : goal.invariant-loop-rise
invariant-loop-rise g l = record {
  low : l.rise.level ≤ l.fn.rise.level;
  end : l.rise.end ≡ l.fn.rise.end;
  on : (b : Rises l.table l.fn.seat l.fn.build.made.items l.way l.fn.rise) → RisesOn b l.seat l.build.made.items l.rise;
  makes : Makes (2 * (l.fn.rise.level - l.rise.level)) ((l.fn.rise.level - l.rise.level) * level_steps) l.table g.G.Gate.becomes
      ((l.fn.seat, l.fn.gate), l.fn.build) ((l.seat, l.gate), l.build) (Some l.rise.level);
}

abbrev pub decreases-loop-rise : goal.decreases-loop-rise
decreases-loop-rise g l = l.rise.level
