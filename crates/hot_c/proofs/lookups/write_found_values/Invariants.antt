-- What was found of the first keys is written.
use Rattle.std.specs.Prelude.{◌≡◌, ◌≤◌, length, take}
use Rattle.hot_c.specs.Lookups.{are_answered}
use Rattle.hot_c.proofs.lookups.write_found_values.Given as goal

abbrev pub invariant-loop-place : goal.invariant-loop-place
invariant-loop-place l = record {
  short : l.place ≤ length l.found;
  written : l.lookups ≡ are_answered l.initial.lookups (take l.place l.found);
}
