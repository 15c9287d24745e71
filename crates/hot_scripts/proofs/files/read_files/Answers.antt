-- The next file's script is pushed.
use Rattle.std.proofs.Common.{arith}
use Rattle.hot_scripts.proofs.files.Files.{AreFileStarts-pushed}
use Rattle.hot_scripts.proofs.files.read_files.Goals as goal

pub loop-name-preserved : goal.loop-name-preserved
loop-name-preserved g c = record {
  count = grind (arith, c.in_ok-push.ensures.len, c.loop-name.invariant.count);
  starts = AreFileStarts-pushed g.S.FileSystem.bytes c.args.names.now c.loop-name.name-index _ c.loop-name.files.items _ c.in_ok-read_file.field-0 c.loop-name-test.true c.in_ok-push.ensures.items
      c.loop-name.invariant.starts c.in_ok-read_file.ensures.start;
}
