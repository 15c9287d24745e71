-- What contracts see is what the builder has loaded.
use Rattle.bulk_load.proofs.Common.{◌++◌, ◌∷◌, [], ap, ◌∙◌, item}
use Rattle.bulk_load.specs.Loading.{items_in}
use Rattle.bulk_load.specs.Views.{LoadView, with_item}
use Rattle.bulk_load.proofs.Loading.{loading_shown, same_loading, same_view}
use Rattle.bulk_load.proofs.loader.Loader.push.Goals as goal

pub invariant_of-self : goal.invariant_of-self
invariant_of-self c =
    let b = c.self.inside.builder in loading_shown c.reserve.new.self (items_in b) (same_loading b c.reserve.new.self c.reserve.ensures.same (items_in b) c.self.invariant)

pub take-requires-clause-loading : goal.take-requires-clause-loading
take-requires-clause-loading c = let b = c.self.inside.builder in (items_in b, same_loading b c.reserve.new.self c.reserve.ensures.same (items_in b) c.self.invariant)

pub invariant_of-self-2 : goal.invariant_of-self-2
invariant_of-self-2 c =
    let b = c.self.inside.builder in
    loading_shown c.take.new.self (items_in b ++ item c.in_ok-next_leaf.next_leaf.record_number c.args.key.now c.args.value ∷ [])
    (c.take.ensures.taken (items_in b) (same_loading b c.reserve.new.self c.reserve.ensures.same (items_in b) c.self.invariant))

pub returns-clause-taken : goal.returns-clause-taken
returns-clause-taken c =
    let b = c.self.inside.builder in let x = item c.in_ok-next_leaf.next_leaf.record_number c.args.key.now c.args.value in (
      c.in_ok-next_leaf.next_leaf.record_number,
      same_view c.take.new.self (with_item c.args.self.now x) b.layout (items_in b ++ x ∷ [])
          (c.take.ensures.taken (items_in b) (same_loading b c.reserve.new.self c.reserve.ensures.same (items_in b) c.self.invariant))
          (c.take.ensures.layout ∙ c.reserve.ensures.same.layout) (ap (λ (v : LoadView). with_item v x) c.self.view_is),
    )
