-- The sibling is read, and joined with what is left.
use Rattle.rowex_writing.proofs.Common.{ℕ, List, ap, arith, refl, subst, sym, ◌∙◌, IsBuiltFrom, piece, RisesFrom, bit, fork_of}
use Rattle.rowex_writing.specs.locks.Going.{HasLocked, IsNodeOf}
use Rattle.rowex_writing.specs.build.Taking.{lower}
use Rattle.rowex_writing.proofs.merging.Leaving.{left_built, lower_node}
use Rattle.rowex_writing.proofs.merging.Merging.{joined_rises, other_wide, same_words, shown_merged, too_many}
use Rattle.rowex_writing.proofs.merging.merge_siblings.Goals as goal

pub read_locked_node-other-requires-clause-own : goal.read_locked_node-other-requires-clause-own
read_locked_node-other-requires-clause-own g c = c.requires.wide.seat

pub read_locked_node-other-requires-clause-range : goal.read_locked_node-other-requires-clause-range
read_locked_node-other-requires-clause-range g c = c.requires.wide.low

pub read_locked_node-other-requires-clause-locked : goal.read_locked_node-other-requires-clause-locked
read_locked_node-other-requires-clause-locked g c = (c.requires.wide.words, other_wide c.args.table.now c.args.seat.now c.args.job.now c.args.merge.now.number c.requires.wide)

pub read_node-left-requires : goal.read_node-left-requires
read_node-left-requires g c = let left = c.requires.left.built in (left.node, left.has, left.spells)

pub returns-then-count-gt-MAX_ENTRIES-clause-none : goal.returns-then-count-gt-MAX_ENTRIES-clause-none
returns-then-count-gt-MAX_ENTRIES-clause-none g c = λ e node other (words, h, is) (also, k, there).
    let left = c.requires.left.built in
    let same = c.read_node-left.ensures.only left.node left.has left.spells in
    let node_is : (ws : List ℕ) → HasLocked c.args.seat.now.known (lower c.args.job.now).number ws → IsNodeOf ws node = λ ws i. subst (λ z. IsNodeOf z node) (same_words c.args.table.now.layout c.args.seat.now.known (lower c.args.job.now).number words ws c.requires.wide.possible h i) is in
    too_many words also node node c.read_locked_node-other.result other c.read_node-left.result (lower c.args.job.now).slot is is (c.read_locked_node-other.ensures.node also k) there
    (left_built c.args.table.now c.args.seat.now c.args.job.now c.args.merge.now.number c.requires.wide c.args.merge.now.left.now.words c.requires.left node node_is c.read_node-left.result same) (omega arith)

pub merge_sides-requires-clause-after : goal.merge_sides-requires-clause-after
unfolding bit
merge_sides-requires-clause-after g c =
    let left = c.requires.left.built in
    let same = c.read_node-left.ensures.only left.node left.has left.spells in
    let (node, node_is) = lower_node c.args.table.now c.args.seat.now c.args.job.now c.args.merge.now.number c.requires.wide in
    let built = left_built c.args.table.now c.args.seat.now c.args.job.now c.args.merge.now.number c.requires.wide c.args.merge.now.left.now.words c.requires.left node node_is c.read_node-left.result same in
    subst (λ u. RisesFrom 0 (fork_of u c.args.merge.now.position (piece c.read_node-left.result) (piece c.read_locked_node-other.result))) (sym c.bit.ensures)
    (joined_rises c.args.table.now c.args.seat.now c.args.job.now c.args.merge.now.number c.requires.wide c.args.merge.now refl c.requires.beside node c.read_node-left.result c.read_locked_node-other.result node_is
    c.read_locked_node-other.ensures.node built.shows_it)

pub returns-clause-joined : goal.returns-clause-joined
unfolding bit
returns-clause-joined g c = λ leaf b at.
    let left = c.requires.left.built in
    let same = c.read_node-left.ensures.only left.node left.has left.spells in
    let (node, node_is) = lower_node c.args.table.now c.args.seat.now c.args.job.now c.args.merge.now.number c.requires.wide in
    let built = left_built c.args.table.now c.args.seat.now c.args.job.now c.args.merge.now.number c.requires.wide c.args.merge.now.left.now.words c.requires.left node node_is c.read_node-left.result same in
    subst (IsBuiltFrom c.merge_sides.result)
    (ap (λ u. fork_of u c.args.merge.now.position (piece c.read_node-left.result) (piece c.read_locked_node-other.result)) c.bit.ensures ∙
    shown_merged c.args.table.now c.args.seat.now c.args.job.now c.args.merge.now.number c.requires.wide c.args.merge.now refl c.requires.beside leaf b at node c.read_node-left.result c.read_locked_node-other.result node_is
    c.read_locked_node-other.ensures.node built.shows_it)
    c.merge_sides.ensures
