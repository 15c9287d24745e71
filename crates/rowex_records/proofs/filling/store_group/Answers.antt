-- One word more.
use Rattle.std.proofs.Common.{refl}
use Rattle.rowex_records.proofs.filling.SetAll.{more_sets}
use Rattle.rowex_records.proofs.filling.store_group.Goals as goal

pub loop-place-preserved : goal.loop-place-preserved
loop-place-preserved g c = more_sets _ _ c.args.node.rec _ c.args.first c.loop-place.place _ _ _ _ c.loop-place.invariant refl c.store_word.ensures
