-- A height above that of each child fits 16 bits.
use Rattle.std.proofs.Common.{ap, arith, drop, ◌∙◌, ◌≡◌}
use Rattle.compound_node.specs.Nodes.{greatest_height}
use Rattle.compound_node.proofs.Heights.{greatest_height-fits}
use Rattle.compound_node.proofs.entries.height_over_entries.Goals as goal

pub overflow_add-result : goal.overflow_add-result
overflow_add-result c =
    let z : c.loop-i.i ≡ 0 = omega (arith, c.loop-i-test.false) in
    let whole : c.loop-i.greatest ≡ greatest_height c.args.entries.now = c.loop-i.invariant ∙ ap (λ i. greatest_height (drop i c.args.entries.now)) z in
    omega (arith, greatest_height-fits c.args.entries.now c.requires)
