-- The choice by steps is the choice of the affected node.
use Rattle.insert_cases.proofs.Common.{◌+◌, get_or, slice_get-get_or}
use Rattle.insert_cases.specs.declared.choice.PathNode.{PathNode}
use Rattle.insert_cases.proofs.Ways.{chosen, chosen_several, chosen_next, chosen_leaf}
use Rattle.insert_cases.proofs.choice.choose_case.Goals as goal

no_step : PathNode
no_step = record { number = 0; height = 0; first_position = 0; count = 0; slot = 0 }

pub returns-then-first-last-clause-affected : goal.returns-then-first-last-clause-affected
unfolding no_step
returns-then-first-last-clause-affected c = λ k t p trie built w d at from upto.
    chosen k t p c.args.way.now trie built w d c.args.level at c.args.first c.args.last from upto _
    (chosen_several c.args.way.now c.args.level c.args.first c.args.last (get_or c.args.way.now c.args.level no_step) c.case_at_node.result c.if-first-last.true
    (slice_get-get_or c.args.way.now c.args.level no_step c.requires) c.case_at_node.ensures)

pub returns-then-level-way-clause-chosen : goal.returns-then-level-way-clause-chosen
unfolding no_step
returns-then-level-way-clause-chosen c =
    rw c.saturating_sub.ensures
    (chosen_next c.args.way.now c.args.level c.args.first c.args.last (get_or c.args.way.now (c.args.level + 1) no_step) c.case_at_node-then-level-way.result c.if-first-last.false c.if-level-way.true
    (slice_get-get_or c.args.way.now (c.args.level + 1) no_step c.if-level-way.true) c.case_at_node-then-level-way.ensures)

pub returns-then-level-way-clause-affected : goal.returns-then-level-way-clause-affected
unfolding no_step
returns-then-level-way-clause-affected c = λ k t p trie built w d at from upto.
    rw c.saturating_sub.ensures
    (chosen k t p c.args.way.now trie built w d c.args.level at c.args.first c.args.last from upto _
    (chosen_next c.args.way.now c.args.level c.args.first c.args.last (get_or c.args.way.now (c.args.level + 1) no_step) c.case_at_node-then-level-way.result c.if-first-last.false c.if-level-way.true
    (slice_get-get_or c.args.way.now (c.args.level + 1) no_step c.if-level-way.true) c.case_at_node-then-level-way.ensures))

pub returns-clause-chosen : goal.returns-clause-chosen
unfolding no_step
returns-clause-chosen c =
    chosen_leaf c.args.way.now c.args.level c.args.first c.args.last (get_or c.args.way.now c.args.level no_step) c.case_at_node-2.result c.if-first-last.false c.if-level-way.false
    (slice_get-get_or c.args.way.now c.args.level no_step c.requires) c.case_at_node-2.ensures

pub returns-clause-affected : goal.returns-clause-affected
unfolding no_step
returns-clause-affected c = λ k t p trie built w d at from upto.
    chosen k t p c.args.way.now trie built w d c.args.level at c.args.first c.args.last from upto _
    (chosen_leaf c.args.way.now c.args.level c.args.first c.args.last (get_or c.args.way.now c.args.level no_step) c.case_at_node-2.result c.if-first-last.false c.if-level-way.false
    (slice_get-get_or c.args.way.now c.args.level no_step c.requires) c.case_at_node-2.ensures)
