-- None yet, one more, and all of them.
use Rattle.std.proofs.Common.{rules}
use Rattle.rowex_records.proofs.claiming.GivenUp.{gives_up_none, gives_up_more, gives_up_all, next_held}
use Rattle.rowex_records.proofs.claiming.give_up_records.Goals as goal

pub loop-index-init : goal.loop-index-init
loop-index-init g c = gives_up_none _ _ _ _ c.requires.held

pub give_up_record-requires-clause-held : goal.give_up_record-requires-clause-held
give_up_record-requires-clause-held g c = next_held _ _ c.args.recs.now c.loop-index.index _ _ _ (search rules) (search rules) c.loop-index.invariant

pub loop-index-preserved : goal.loop-index-preserved
loop-index-preserved g c = gives_up_more _ _ c.args.recs.now c.loop-index.index _ _ _ _ (search rules) (search rules) c.loop-index.invariant c.give_up_record.ensures

pub returns : goal.returns
returns g c = gives_up_all _ _ c.args.recs.now c.loop-index.index _ _ c.loop-index.invariant (search rules)
