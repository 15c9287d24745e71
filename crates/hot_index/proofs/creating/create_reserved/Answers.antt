-- What is told of the numbers is what was found of them.
use Rattle.hot_index.proofs.Common.{LayoutFault, ◌≡◌, ◌∙◌, HasStock, Layout}
use Rattle.hot_index.specs.Kept.{kept_stock}
use Rattle.hot_index.proofs.Passes.{kept_has, made_kept, told_as_found}
use Rattle.hot_index.proofs.creating.create_reserved.Goals as goal

pub returns-clause-passes : goal.returns-clause-passes
returns-clause-passes c = told_as_found (c.make_index_with_closed_passes.ensures.fault LayoutFault.Passes) c.with_stock.ensures.passes

pub returns-clause-nodes : goal.returns-clause-nodes
returns-clause-nodes c = told_as_found (c.make_index_with_closed_passes.ensures.fault LayoutFault.Nodes) c.with_stock.ensures.nodes

pub returns-clause-leaves : goal.returns-clause-leaves
returns-clause-leaves c = told_as_found (c.make_index_with_closed_passes.ensures.fault LayoutFault.Leaves) c.with_stock.ensures.leaves

pub returns-clause-layout : goal.returns-clause-layout
returns-clause-layout c = made_kept (λ made. made.0.layout) c.with_stock.result c.make_index_with_closed_passes.result (λ (l : Layout). (l.passes ≡ c.args.passes) × HasStock l c.args.stock) (λ (l : Layout). (l.passes ≡ c.args.passes) × HasStock l (kept_stock c.args.stock))
    c.with_stock.ensures.ok c.make_index_with_closed_passes.ensures.layout (λ a b asked kept. (kept.passes ∙ asked.0, kept_has a b c.args.stock kept asked.1))
