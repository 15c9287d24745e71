-- Between turns the scripts are the starts of the files whose names were taken.
use Rattle.std.proofs.Common.{◌≡◌, length, map, take}
use Rattle.hot_scripts.specs.Files.{AreFileStarts}
use Rattle.hot_scripts.proofs.files.read_files.Given as goal

abbrev pub invariant-loop-name : goal.invariant-loop-name
invariant-loop-name g l = record {
  count : length l.files.items ≡ l.name-index;
  starts : AreFileStarts g.S.FileSystem.bytes (map (λ name. name.now) (take l.name-index l.names)) (map (λ file. file.items) l.files.items);
}
