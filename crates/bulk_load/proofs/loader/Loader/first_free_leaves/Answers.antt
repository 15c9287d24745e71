-- What contracts see is what the builder has loaded.
use Rattle.bulk_load.proofs.Common.{◌↔◌, ℕ, ◌<◌, get_or, subst}
use Rattle.bulk_load.specs.Loading.{items_in}
use Rattle.bulk_load.specs.Tables.{leaf_class}
use Rattle.bulk_load.specs.Views.{IsTakenLeaf, LoadView}
use Rattle.bulk_load.proofs.Views.{taken_below}
use Rattle.bulk_load.proofs.loader.Loader.first_free_leaves.Goals as goal

pub returns : goal.returns
returns c =
    let b = c.self.inside.builder in
    subst (λ (v : LoadView). (n : ℕ) → n < v.layout.leaves → IsTakenLeaf v.items n ↔ (n < get_or b.leaves (leaf_class v.layout n) 0)) c.self.view_is
    (taken_below b (items_in b) c.self.invariant)
