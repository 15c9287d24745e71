-- The record is one of the table's, and has these words.
use Rattle.rowex_scanning.proofs.Common.{◌∙◌, ap, arith, subst, sym, a_leaf, IsStartOf, record_number, touched_none, touched_on}
use Rattle.rowex_scanning.proofs.ahead.Begins.{word_there}
use Rattle.rowex_scanning.proofs.ahead.touch_leaf.Goals as goal

pub touch-requires-clause-start : goal.touch-requires-clause-start
touch-requires-clause-start g = let l = g.requires.leaf in subst (λ r. IsStartOf g.args.scan.now.table.now.layout r g.args.leaf.start) (sym l.0) l.1

pub touch-requires-clause-range : goal.touch-requires-clause-range
touch-requires-clause-range g =
    let e = g.leaf_size-last.ensures in
    word_there g.args.scan.now.table.now.layout g.args.scan.now.origins.now.layout g.requires.origins g.number.result _ g.args.leaf (g.requires.leaf.0 ∙ ap a_leaf (sym g.number.ensures)) (omega (arith, e.size, e.few))

pub touch-requires-2-clause-start : goal.touch-requires-2-clause-start
touch-requires-2-clause-start g = let l = g.requires.leaf in subst (λ r. IsStartOf g.args.scan.now.table.now.layout r g.args.leaf.start) (sym l.0) l.1

pub touch-requires-2-clause-range : goal.touch-requires-2-clause-range
touch-requires-2-clause-range g =
    let e = g.leaf_size-last.ensures in
    word_there g.args.scan.now.table.now.layout g.args.scan.now.origins.now.layout g.requires.origins g.number.result _ g.args.leaf (g.requires.leaf.0 ∙ ap a_leaf (sym g.number.ensures)) (omega (arith, e.size, e.few, g.min.ensures))

-- None is touched, or both are.
pub returns-then-not-touches : goal.returns-then-not-touches
returns-then-not-touches g = (0, omega arith, touched_none _)

pub returns : goal.returns
returns g = (2, omega arith, touched_on 1 1 _ _ _ g.touch.ensures g.touch-2.ensures)
