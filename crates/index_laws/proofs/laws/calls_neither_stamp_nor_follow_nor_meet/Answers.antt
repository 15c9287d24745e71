-- The law calls_neither_stamp_nor_follow_nor_meet.
use Rattle.index_laws.proofs.Traced.{calls_make_no_asides}
use Rattle.index_laws.proofs.laws.calls_neither_stamp_nor_follow_nor_meet.Goals as goal

pub returns : goal.returns
returns c = calls_make_no_asides
