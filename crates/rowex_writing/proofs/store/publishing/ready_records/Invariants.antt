-- Those that are left are to be made ready.
use Rattle.rowex_writing.proofs.Common.{◌-◌, ◌≡◌, ◌≤◌, List, length, take, drop, ◌+◌, Made, HasReadied, IsSeatOf}
use Rattle.rowex_writing.specs.build.Building.{IsBuilding}
use Rattle.rowex_writing.specs.locks.Going.{WorksOn}
use Rattle.rowex_writing.proofs.store.publishing.ready_records.Given as goal

abbrev pub invariant-loop-rec : goal.invariant-loop-rec
invariant-loop-rec g l =
    let all = l.initial.made.items in
    let left = length l.made.items in
    record {
      own : IsSeatOf l.table l.seat;
      upto : left ≤ length all;
      rest : l.made.items ≡ take left all;
      goes : WorksOn l.table g.G.Gate.becomes (l.fn.seat, l.fn.gate) (l.seat, l.gate);
      ready : (news : List Made) → IsBuilding l.table l.fn.seat all news → HasReadied l.seat.known (take (length all - left) news) (drop (length all - left) news);
      few : l.seat.known.steps + left ≤ l.fn.seat.known.steps + length all;
    }

abbrev pub decreases-loop-rec : goal.decreases-loop-rec
decreases-loop-rec g l = length l.made.items
