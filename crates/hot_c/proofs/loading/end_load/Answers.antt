-- The passes are those of the index that was made.
use Rattle.hot_c.proofs.Common.{◌≡◌, IfOk, ap, subst, Layout, IsPassOfLoad, Owns, OpenLoad}
use Rattle.tries.specs.Content.{pairs}
use Rattle.hot_c.specs.Loads.{KeepsLoadedPasses}
use Rattle.hot_c.proofs.opening.Keepers.{all_of, passes_kept}
use Rattle.hot_c.proofs.loading.end_load.Goals as goal

pub keep_passes-requires : goal.keep_passes-requires
keep_passes-requires c = all_of (Owns c.in_ok-index.index) c.in_ok-index.passes.items (λ q p got. (c.in_ok-index.ensures.each q p got).0)

pub returns : goal.returns
returns c =
    let load = c.into_inner-load.result.load in let made = c.in_ok-index.ensures in
    let same : c.into_inner-load.result ≡ c.args.opened.value = c.into_inner-load.ensures in
    subst (λ (o : OpenLoad). IfOk c.keep_passes.result (λ b. KeepsLoadedPasses o.load b.value)) same
    (passes_kept (λ index. IsPassOfLoad index (pairs load.items)) c.in_ok-index.index load.layout.passes (λ layout. layout ≡ load.layout) c.in_ok-index.passes.items c.keep_passes.result
    (ap (λ (l : Layout). l.passes) made.layout, made.layout) made.count made.each c.keep_passes.ensures.all)
