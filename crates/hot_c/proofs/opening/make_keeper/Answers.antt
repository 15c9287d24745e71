-- The passes are those of the new index.
use Rattle.hot_c.proofs.Common.{HasStock, Layout, kept_stock, IsNewPass, Owns}
use Rattle.hot_c.specs.Calls.{IsKeeper}
use Rattle.hot_c.proofs.opening.Keepers.{all_of, passes_kept, told_as}
use Rattle.hot_c.proofs.opening.make_keeper.Goals as goal

pub keep_passes-requires : goal.keep_passes-requires
keep_passes-requires c = all_of (Owns c.in_ok-index.index) c.in_ok-index.passes.items (λ q p got. (c.in_ok-index.ensures.each q p got).0)

pub returns-clause-made : goal.returns-clause-made
returns-clause-made c =
    let stocked : Layout → Type 0 = λ layout. HasStock layout (kept_stock c.args.stock) in let made = c.in_ok-index.ensures in
    told_as _ (λ b. IsKeeper c.args.passes stocked b.value) c.keep_passes.result c.map_err.result c.map_err.ensures.cases
    (passes_kept (λ index. IsNewPass) c.in_ok-index.index c.args.passes stocked c.in_ok-index.passes.items c.keep_passes.result made.layout made.count made.each c.keep_passes.ensures.all)
