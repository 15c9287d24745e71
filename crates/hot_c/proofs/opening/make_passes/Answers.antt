-- The passes are those of the new index.
use Rattle.hot_c.specs.Calls.{HasCounts}
use Rattle.hot_c.proofs.opening.Shares.{are_new}
use Rattle.hot_c.proofs.opening.make_passes.Goals as goal

pub returns-clause-made : goal.returns-clause-made
returns-clause-made c = let it = c.in_ok-index.ensures.layout in are_new _ c.in_ok-index.index c.args.passes _ (HasCounts c.args.nodes c.args.leaves) c.share_index.result c.map_err.result c.map_err.ensures.cases
    (it.0, (it.1, it.2, it.3)) c.in_ok-index.ensures.count c.share_index.ensures.count c.share_index.ensures.each
