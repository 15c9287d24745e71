-- The first is the head that was written.
use Rattle.std.proofs.Common.{take-suc-set}
use Rattle.packed_pairs.specs.declared.head.PairHead.{PairHead}
use Rattle.packed_pairs.proofs.heads.write_first.Goals as goal

pub returns-clause-first : goal.returns-clause-first
returns-clause-first c = let head : PairHead = record { count = c.args.count; value = c.args.value } in take-suc-set c.args.room.now 0 head c.requires
