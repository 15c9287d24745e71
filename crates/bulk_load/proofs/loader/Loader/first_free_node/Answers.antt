-- What contracts see is what the builder has loaded.
use Rattle.bulk_load.proofs.Common.{◌≤◌, length, subst}
use Rattle.bulk_load.specs.Loading.{items_in}
use Rattle.bulk_load.specs.Views.{LoadView}
use Rattle.bulk_load.proofs.Views.{nodes_few}
use Rattle.bulk_load.proofs.loader.Loader.first_free_node.Goals as goal

pub returns : goal.returns
returns c =
    let b = c.self.inside.builder in
    subst (λ (v : LoadView). b.nodes ≤ length v.items) c.self.view_is (nodes_few b (items_in b) c.self.invariant)
