-- The passes are those of the new index.
use Rattle.hot_c.proofs.Common.{HasStock, kept_stock}
use Rattle.hot_c.proofs.opening.Shares.{are_new}
use Rattle.hot_c.proofs.opening.make_passes_with_stock.Goals as goal

pub returns-clause-made : goal.returns-clause-made
returns-clause-made c = are_new _ c.in_ok-index.index c.args.passes _ (λ layout. HasStock layout (kept_stock c.args.stock)) c.share_index.result c.map_err.result c.map_err.ensures.cases
    c.in_ok-index.ensures.layout c.in_ok-index.ensures.count c.share_index.ensures.count c.share_index.ensures.each
