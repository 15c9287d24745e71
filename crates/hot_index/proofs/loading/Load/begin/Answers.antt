-- No pair is counted.
use Rattle.hot_index.proofs.Common.{◌≡◌, refl, sym, subst, LoadView}
use Rattle.hot_index.specs.Loads.{CountsItems}
use Rattle.hot_index.proofs.loading.Load.begin.Goals as goal

pub invariant_of-result : goal.invariant_of-result
invariant_of-result c =
    subst (λ (v : LoadView). (c.args.layout ≡ v.layout) × CountsItems v.items c.new-count.result) (sym c.in_ok-loader.ensures) (refl, c.new-count.ensures)
