-- The used positions so far stand in front; then unused places follow them.
use Rattle.partial_keys.proofs.Common.{◌≡◌, ◌-◌, ◌≤◌, drop, length, replicate, take, kept}
use Rattle.partial_keys.specs.Squeezed.{used_bits}
use lib.Seq.{paste}
use Rattle.partial_keys.proofs.keep_used_positions.Given as goal

abbrev pub invariant-loop-j : goal.invariant-loop-j
invariant-loop-j l = record {
  few : l.found ≤ l.j;
  long : length l.positions ≡ 31;
  front : take l.found l.positions ≡ kept (used_bits l.used) (take l.j l.initial.positions);
  counted : l.found ≡ length (kept (used_bits l.used) (take l.j l.initial.positions));
  behind : drop l.j l.positions ≡ drop l.j l.initial.positions;
}

abbrev pub invariant-loop-j-2 : goal.invariant-loop-j-2
invariant-loop-j-2 l = l.positions ≡ paste l.initial.positions l.found (replicate (l.j - l.found) 65535) (l.j - l.found)
