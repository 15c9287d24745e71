-- What is told of the numbers is what was found of them.
use Rattle.std.specs.Prelude.{IsOk}
use Rattle.record_words.specs.Limits.{IsLeafCount, IsNodeCount, IsPassCount}
use Rattle.hot_index.proofs.Common.{rules, LayoutFault, ◌≡◌, ◌↔◌, ◌∙◌, ℕ, Err, Result, ap, Layout}
use Rattle.hot_index.specs.Kept.{with_one_kept}
use Rattle.hot_index.proofs.Committed.{passes_all_committed}
use Rattle.hot_index.proofs.Passes.{made_kept, told_as_found}
use Rattle.hot_index.proofs.creating.create.Goals as goal

-- numbers of which none is told as out of range
in_range : (passes nodes leaves : ℕ) (found : Result Layout LayoutFault) → IsOk found → ((found ≡ Err LayoutFault.Passes) ↔ ¬ IsPassCount passes) →
    ((found ≡ Err LayoutFault.Nodes) ↔ (IsPassCount passes × ¬ IsNodeCount nodes)) → ((found ≡ Err LayoutFault.Leaves) ↔ (IsPassCount passes × IsNodeCount nodes × ¬ IsLeafCount leaves)) →
    IsPassCount passes × IsNodeCount nodes × IsLeafCount leaves
in_range passes nodes leaves found ok no_passes no_nodes no_leaves = search rules

pub returns-clause-passes : goal.returns-clause-passes
returns-clause-passes c = told_as_found (c.make_index_with_open_passes.ensures.fault LayoutFault.Passes) c.of.ensures.passes

pub returns-clause-nodes : goal.returns-clause-nodes
returns-clause-nodes c = told_as_found (c.make_index_with_open_passes.ensures.fault LayoutFault.Nodes) c.of.ensures.nodes

pub returns-clause-leaves : goal.returns-clause-leaves
returns-clause-leaves c = told_as_found (c.make_index_with_open_passes.ensures.fault LayoutFault.Leaves) c.of.ensures.leaves

pub returns-clause-layout : goal.returns-clause-layout
returns-clause-layout c = made_kept (λ made. made.0.layout) c.of.result c.make_index_with_open_passes.result
    (λ (l : Layout). (l.passes ≡ c.args.passes) × (l.nodes ≡ c.args.nodes) × (l.leaves ≡ c.args.leaves) × (l.long_from ≡ 0))
    (λ (l : Layout). (l.passes ≡ c.args.passes) × (l.nodes ≡ with_one_kept c.args.nodes) × (l.leaves ≡ c.args.leaves) × (l.long_from ≡ 0))
    c.of.ensures.ok c.make_index_with_open_passes.ensures.layout (λ a b asked kept. (kept.passes ∙ asked.0, kept.nodes ∙ ap with_one_kept asked.1, kept.leaves ∙ asked.2, kept.long ∙ asked.3))

pub returns-clause-memory : goal.returns-clause-memory
returns-clause-memory c = λ refused. let found = c.of.ensures in
    in_range c.args.passes c.args.nodes c.args.leaves c.of.result (c.make_index_with_open_passes.ensures.memory refused) found.passes found.nodes found.leaves

pub returns-clause-committed : goal.returns-clause-committed
returns-clause-committed c = passes_all_committed c.make_index_with_open_passes.result (λ made. made.1.items) c.make_index_with_open_passes.ensures.reserved
