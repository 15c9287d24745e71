-- The files that are left complete the scripts.
use Rattle.std.proofs.Common.{◌≡◌, ◌+◌, ◌≤◌, length, map}
use Rattle.std.specs.Vec.Iter.{into_iter_items}
use Rattle.hot_scripts.specs.Parses.{script_commands}
use Rattle.hot_scripts.specs.InFiles.{commands_of_files}
use Rattle.hot_scripts.proofs.in_files.InFiles.{with_scripts}
use Rattle.hot_scripts.proofs.in_files.parse_files.Given as goal

abbrev pub invariant-loop-file : goal.invariant-loop-file
invariant-loop-file l = record {
  small : l.number + length (into_iter_items l.file-iterator) ≤ 64;
  count : length l.scripts.items + length (into_iter_items l.file-iterator) ≡ length l.fn.files.items;
  scripts : with_scripts (map script_commands l.scripts.items) (commands_of_files l.number (map (λ f. f.items) (into_iter_items l.file-iterator)))
      ≡ commands_of_files 1 (map (λ f. f.items) l.fn.files.items);
}
