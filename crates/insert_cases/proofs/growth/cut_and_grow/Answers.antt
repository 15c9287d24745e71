-- The affected entries of a cut node are in one half.
use Rattle.insert_cases.proofs.Common.{arith, ap, size, size_pos, piece, affected_one, affected_rises, size-piece}
use Rattle.insert_cases.specs.Grown.{half_piece}
use Rattle.insert_cases.proofs.NodeFacts.{cut_is}
use Rattle.insert_cases.proofs.growth.cut_and_grow.Goals as goal

pub grow_half-requires-clause-room : goal.grow_half-requires-clause-room
grow_half-requires-clause-room c =
    let k = cut_is c.cut-root.result (piece c.args.node.now) c.cut-root.ensures in
    omega (arith, ap size k.whole, size-piece c.args.node.now c.requires.lawful, c.requires.lawful.room, size_pos (half_piece c.cut-root.result.one))

pub overflow_sub-last : goal.overflow_sub-last
overflow_sub-last c = omega (arith, affected_rises (piece c.args.node.now) c.args.position c.args.first c.args.last c.requires.range)

pub grow_half-requires-else-first-front-clause-room : goal.grow_half-requires-else-first-front-clause-room
grow_half-requires-else-first-front-clause-room c =
    let k = cut_is c.cut-root.result (piece c.args.node.now) c.cut-root.ensures in
    omega (arith, ap size k.whole, size-piece c.args.node.now c.requires.lawful, c.requires.lawful.room, size_pos (half_piece c.cut-root.result.zero))

pub grow_half-requires-else-first-front-clause-range : goal.grow_half-requires-else-first-front-clause-range
grow_half-requires-else-first-front-clause-range c =
    let k = cut_is c.cut-root.result (piece c.args.node.now) c.cut-root.ensures in
    let below = rw k.whole at c.requires.below in
    rw c.half_count-front.ensures
    (affected_one c.cut-root.result.position (half_piece c.cut-root.result.zero) (half_piece c.cut-root.result.one) c.args.position c.args.first c.args.last
    below (omega arith) (rw k.whole at c.requires.range))
