-- The four cases.
use Rattle.compound_node.proofs.Common.{◌<◌, ◌≡◌, Option, ap₂, arith, length, subst, sym, ℕ, ◌∙◌, found, beside_by, by_before, by_next, by_several_before, by_several_next}
use Rattle.compound_node.proofs.Beside.{told_beside}
use Rattle.compound_node.specs.Beside.{AreRowsRound, IsBesideIn, column_before}
use Rattle.compound_node.specs.Nodes.{IsLawfulNode, NodeView}
use Rattle.compound_node.proofs.rows.find_sibling.Goals as goal

-- from what the columns tell
told_as : (at before own after after_next : ℕ) (result : Option (ℕ × ℕ)) → beside_by at (column_before before) (column_before own) (column_before after) (column_before after_next) ≡ result →
    (node : NodeView) → IsLawfulNode node → at < length node.entries → AreRowsRound node.rows at before own after after_next → IsBesideIn node at result
told_as at before own after after_next result e = λ node lawful l round. subst (IsBesideIn node at) e (told_beside node lawful at before own after after_next l round)

pub returns-then-after-after_next : goal.returns-then-after-after_next
returns-then-after-after_next c = told_as c.args.slot c.args.before c.args.own c.args.after c.args.after_next _
    (by_several_next c.args.slot (column_before c.args.before) (column_before c.args.own) (column_before c.args.after) (column_before c.args.after_next) (omega arith) (omega arith))

pub returns-else-after-after_next : goal.returns-else-after-after_next
returns-else-after-after_next c = told_as c.args.slot c.args.before c.args.own c.args.after c.args.after_next _
    (rw (← c.fork_column-after.ensures) (by_next c.args.slot (column_before c.args.before) (column_before c.args.own) c.fork_column-after.result (column_before c.args.after_next) (omega arith) (omega arith)))

pub returns-then-own-before : goal.returns-then-own-before
returns-then-own-before c = told_as c.args.slot c.args.before c.args.own c.args.after c.args.after_next _
    (by_several_before c.args.slot (column_before c.args.before) (column_before c.args.own) (column_before c.args.after) (column_before c.args.after_next) (omega arith) (omega arith))

pub returns-else-own-before : goal.returns-else-own-before
returns-else-own-before c = told_as c.args.slot c.args.before c.args.own c.args.after c.args.after_next _
    (by_before c.args.slot (column_before c.args.before) (column_before c.args.own) (column_before c.args.after) (column_before c.args.after_next) (omega arith) (omega arith)
    ∙ ap₂ found (sym c.saturating_sub.ensures) (omega arith))
