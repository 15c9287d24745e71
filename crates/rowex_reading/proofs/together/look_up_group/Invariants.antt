-- The searches have gone down so far.
use Rattle.rowex_reading.proofs.Common.{◌≡◌, ℕ, ◌+◌, ◌*◌, ◌≤◌, length, MAX_BYTES}
use Rattle.rowex_reading.specs.Reads.{IsReader, Reads}
use Rattle.rowex_reading.specs.Together.{HaveComeTo, heights_in}
use Rattle.rowex_reading.proofs.together.look_up_group.Given as goal

abbrev pub invariant-loop : goal.invariant-loop
invariant-loop g l = record {
  reader : IsReader l.table l.seat;
  room : length l.tips ≡ length l.keys;
  ways : HaveComeTo l.seat.known l.keys l.tips;
  reads : (entries loads : ℕ) × (entries + heights_in l.tips ≤ length l.keys * (9 * MAX_BYTES)) × (loads ≤ 26 * entries) × Reads l.table g.G.Gate.becomes entries loads (l.fn.seat, l.fn.gate) (l.seat, l.gate);
}

abbrev pub decreases-loop : goal.decreases-loop
decreases-loop g l = heights_in l.tips
