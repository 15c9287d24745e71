-- A node with room gets the leaf, and a full one overflows.
use Rattle.rowex_writing.proofs.Common.{◌≡◌, ◌+◌, ℕ, List, arith, get_or, length, Some, slice_get-get_or, slice_get, PathNode}
use Rattle.rowex_writing.proofs.plan.Plans.{low_full, low_room}
use Rattle.rowex_writing.proofs.plan.plan_in_lowest_node.Goals as goal

no_step : PathNode
no_step = record { number = 0; height = 0; first_position = 0; count = 0; slot = 0 }

here : (way : List PathNode) (level : ℕ) → level + 1 ≡ length way → slice_get way level ≡ Some (get_or way level no_step)
here way level last = slice_get-get_or way level no_step (omega arith)

pub returns-then-way-level-lt-MAX_ENTRIES : goal.returns-then-way-level-lt-MAX_ENTRIES
unfolding no_step
returns-then-way-level-lt-MAX_ENTRIES c = λ first upto.
    let way = c.args.way.now in
    let at = here way c.args.level c.requires.last in
    low_room way c.args.position c.args.level (get_or way c.args.level no_step) c.change_plan.result c.requires.last at (c.requires.low (get_or way c.args.level no_step) at) first upto c.if-way-level-lt-MAX_ENTRIES.true c.change_plan.ensures

pub returns-else-way-level-lt-MAX_ENTRIES : goal.returns-else-way-level-lt-MAX_ENTRIES
unfolding no_step
returns-else-way-level-lt-MAX_ENTRIES c = λ first upto.
    let way = c.args.way.now in
    let at = here way c.args.level c.requires.last in
    low_full way c.args.position c.args.level (get_or way c.args.level no_step) c.change_plan-else-way-level-lt-MAX_ENTRIES.result c.requires.last at (c.requires.low (get_or way c.args.level no_step) at) first upto
    (omega (arith, c.if-way-level-lt-MAX_ENTRIES.false)) c.pull_up_chain_end.result c.pull_up_chain_end.ensures c.change_plan-else-way-level-lt-MAX_ENTRIES.ensures
