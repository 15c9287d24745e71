-- The fork stands in the half that has the entry.
use Rattle.insert_cases.proofs.Common.{arith, ap, false, ◌||◌, size, size_pos, piece, size-piece}
use Rattle.insert_cases.specs.Grown.{half_piece}
use Rattle.insert_cases.proofs.NodeFacts.{cut_is, half_anew}
use Rattle.insert_cases.proofs.growth.pull_up_full.Goals as goal

pub fork_half-requires-clause-room : goal.fork_half-requires-clause-room
fork_half-requires-clause-room c =
    let k = cut_is c.cut-root.result (piece c.args.node.now) c.cut-root.ensures in
    omega (arith, ap size k.whole, size-piece c.args.node.now c.count.ensures.lawful, c.count.ensures.lawful.room, size_pos (half_piece c.cut-root.result.one))

pub fork_half-requires-else-slot-count-clause-room : goal.fork_half-requires-else-slot-count-clause-room
fork_half-requires-else-slot-count-clause-room c =
    let k = cut_is c.cut-root.result (piece c.args.node.now) c.cut-root.ensures in
    omega (arith, ap size k.whole, size-piece c.args.node.now c.count.ensures.lawful, c.count.ensures.lawful.room, size_pos (half_piece c.cut-root.result.zero))

pub fork_half-requires-else-slot-count-clause-place : goal.fork_half-requires-else-slot-count-clause-place
fork_half-requires-else-slot-count-clause-place c =
    let k = cut_is c.cut-root.result (piece c.args.node.now) c.cut-root.ensures in
    omega (arith, ap size k.whole, size-piece c.args.node.now c.count.ensures.lawful, c.half_count-count.ensures, c.requires.place)

pub returns-then-slot-count-clause-same : goal.returns-then-slot-count-clause-same
returns-then-slot-count-clause-same c =
    let k = cut_is c.cut-root.result (piece c.args.node.now) c.cut-root.ensures in
    half_anew c.cut-root.result.one (half_piece c.cut-root.result.one) k.one

pub returns-else-slot-count-clause-same : goal.returns-else-slot-count-clause-same
returns-else-slot-count-clause-same c =
    let k = cut_is c.cut-root.result (piece c.args.node.now) c.cut-root.ensures in
    ap (λ b. b || false) (half_anew c.cut-root.result.zero (half_piece c.cut-root.result.zero) k.zero)
