-- One pair more is taken and counted, or none.
use Rattle.hot_index.proofs.Common.{◌≡◌, sym, subst, item, LoadView}
use Rattle.hot_index.specs.Loads.{CountsItems, HasTakenPair}
use Rattle.hot_index.proofs.Loads.{counts_one_more}
use Rattle.hot_index.proofs.loading.Load.push.Goals as goal

pub invariant_of-self : goal.invariant_of-self
invariant_of-self c =
    let own = c.self.inside in let same : c.push.new.self ≡ own.loader = c.in_err-push.ensures.refused in
    subst (λ (v : LoadView). (own.layout ≡ v.layout) × CountsItems v.items own.count) (sym same) c.self.invariant

pub invariant_of-self-2 : goal.invariant_of-self-2
invariant_of-self-2 c =
    let own = c.self.inside in let took = c.in_ok-push.ensures.taken in
    subst (λ (v : LoadView). (own.layout ≡ v.layout) × CountsItems v.items c.note.new.self) (sym took.1)
    (c.self.invariant.0, counts_one_more own.loader.items (item took.0 c.args.key.now c.args.value) own.count c.note.new.self c.note.ensures c.self.invariant.1)

pub returns-clause-taken : goal.returns-clause-taken
returns-clause-taken c = subst (λ (v : LoadView). HasTakenPair c.args.key.now c.args.value v c.push.new.self) c.self.view_is c.in_ok-push.ensures.taken
