-- A height above that of each entry fits 16 bits.
use Rattle.bulk_load.proofs.Common.{◌≡◌, ◌∙◌, ap, arith, drop, greatest_height}
use Rattle.bulk_load.proofs.tips.Tips.{entries_fit}
use Rattle.bulk_load.specs.Tips.{entries_in_tips}
use Rattle.compound_node.proofs.Heights.{greatest_height-fits}
use Rattle.bulk_load.proofs.tips.height_over.Goals as goal

pub overflow_add-result : goal.overflow_add-result
overflow_add-result c =
    let z : c.loop-i.i ≡ 0 = omega (arith, c.loop-i-test.false) in
    let whole : c.loop-i.greatest ≡ greatest_height (entries_in_tips c.args.tips.now) = c.loop-i.invariant ∙ ap (λ i. greatest_height (entries_in_tips (drop i c.args.tips.now))) z in
    omega (arith, greatest_height-fits (entries_in_tips c.args.tips.now) (entries_fit c.args.tips.now c.requires))
