-- The handles are open on the new index.
use Rattle.std.proofs.Common.{inl, refl}
use Rattle.hot_c.specs.Calls.{HasCounts}
use Rattle.hot_c.proofs.opening.Shares.{have_opened}
use Rattle.hot_c.proofs.exports.hot_create.Goals as goal

pub returns-in-Ok-clause-made : goal.returns-in-Ok-clause-made
returns-in-Ok-clause-made c = λ closed size. inl (refl, have_opened _ (HasCounts c.args.nodes c.args.leaves) c.open_handles.new.handles c.in-Ok.passes.items c.open_handles.ensures.opened c.in-Ok.ensures.made)
