-- The root was empty, or the keys before the first of the group have been looked up from its entry.
use Rattle.std.proofs.Common.{◌≡◌, ◌-◌, ◌≤◌, length}
use Rattle.rowex_reading.specs.Lookups.{HaveFound, HaveSearched}
use Rattle.rowex_reading.specs.Reads.{IsReader}
use Rattle.rowex_reading.specs.Seen.{IsAtRoot}
use Rattle.rowex_reading.proofs.together.look_up_all.Given as goal

abbrev pub invariant-loop-index : goal.invariant-loop-index
invariant-loop-index g l = record {
  room : length l.found ≡ length l.keys;
  found : HaveFound l.seat.known l.index l.keys l.found;
}

abbrev pub invariant-loop-first : goal.invariant-loop-first
invariant-loop-first g l = record {
  reader : IsReader l.table l.seat;
  room : length l.found ≡ length l.keys;
  range : l.first ≤ length l.keys;
  root : IsAtRoot l.seat.known l.root;
  found : HaveFound l.seat.known l.first l.keys l.found;
  searched : HaveSearched l.table g.G.Gate.becomes l.first (l.fn.seat, l.fn.gate) (l.seat, l.gate);
}

abbrev pub decreases-loop-first : goal.decreases-loop-first
decreases-loop-first g l = length l.keys - l.first
