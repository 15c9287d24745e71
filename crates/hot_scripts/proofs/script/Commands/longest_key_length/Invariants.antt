-- What stays true in the loop of `longest_key_length`: keys that fit in the lines that are left fit in all lines, from the longest so far
-- on.
use Rattle.hot_scripts.proofs.Common.{◌≡◌, ℕ, ◌+◌, ◌^◌, ◌<◌, ◌≤◌, map, All, filter_map}
use Rattle.hot_scripts.specs.Grammar.{HasKeyUpTo, asked, first_bad, reading_of}
use Rattle.hot_scripts.specs.Words.{parts_left, bytes_left}
use Rattle.hot_scripts.proofs.script.Commands.longest_key_length.Given as goal

abbrev pub invariant-loop-left : goal.invariant-loop-left
invariant-loop-left l = record {
  bad : first_bad l.number (map (reading_of l.self.version) (parts_left 10 l.left))
      ≡ first_bad l.fn.first (map (reading_of l.self.version) (parts_left 10 l.self.left));
  small : l.number + bytes_left l.left < 2 ^ 32;
  few : l.longest ≤ 240;
  keys : (most : ℕ) → l.longest ≤ most → All (HasKeyUpTo most) (filter_map asked (map (reading_of l.self.version) (parts_left 10 l.left)))
      → All (HasKeyUpTo most) (filter_map asked (map (reading_of l.self.version) (parts_left 10 l.self.left)));
}

abbrev pub decreases-loop-left : goal.decreases-loop-left
decreases-loop-left l = bytes_left l.left
