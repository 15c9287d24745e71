-- One entry more that stands below.
use Rattle.compound_node.proofs.Common.{refl, subst, sym, ◌∙◌, false≢true, All-more, take_all, All}
use Rattle.compound_node.specs.Nodes.{StandsBelow}
use Rattle.compound_node.proofs.entries.all_stand_below.Goals as goal

pub loop-entry-preserved : goal.loop-entry-preserved
loop-entry-preserved c = All-more (StandsBelow c.args.height) c.args.entries.now c.loop-entry.entry-index _ c.loop-entry-test.true c.loop-entry.invariant (c.stands_below.ensures.0 c.if-not-stands_below.false)

pub returns-then-not-stands_below : goal.returns-then-not-stands_below
returns-then-not-stands_below c = (
  λ t. absurd (false≢true t),
  λ all. sym c.if-not-stands_below.true ∙ c.stands_below.ensures.1 (all c.loop-entry.entry-index _ c.loop-entry-test.true),
)

pub returns : goal.returns
returns c = (λ t. subst (All (StandsBelow c.args.height)) (take_all c.loop-entry.entry-index c.args.entries.now c.loop-entry-test.false) c.loop-entry.invariant, λ all. refl)
