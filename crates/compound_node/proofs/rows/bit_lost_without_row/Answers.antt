-- A row behind the first is not 0.
use Rattle.std.proofs.Common.{arith, get_or, subst, ◌+◌, ◌-◌, ◌<◌, ◌≡◌}
use Rattle.compound_node.specs.Ladders.{IsNextRow}
use Rattle.compound_node.proofs.rows.bit_lost_without_row.Goals as goal

pub lowest_bit-requires : goal.lowest_bit-requires
lowest_bit-requires c =
    let back : c.args.slot - 1 + 1 ≡ c.args.slot = omega (arith, c.if-slot-eq0.false) in
    let next : IsNextRow (get_or c.args.rows.now (c.args.slot - 1) 0) (get_or c.args.rows.now (c.args.slot - 1 + 1) 0) = c.requires.ladder.steps (c.args.slot - 1) (omega (arith, c.requires.in_range, back)) in
    omega (arith, subst (λ i. get_or c.args.rows.now (c.args.slot - 1) 0 < get_or c.args.rows.now i 0) back next.goes_on)
