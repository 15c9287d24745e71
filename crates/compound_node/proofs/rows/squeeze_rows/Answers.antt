-- A column that `used` has not got goes.
use Rattle.compound_node.proofs.Common.{ap, arith, map, sym, ◌+◌, ◌-◌, ◌∙◌, ◌≡◌, all-closed, all-end, all-kept, all-start, squeezed_from, closed_row}
use Rattle.compound_node.proofs.rows.squeeze_rows.Goals as goal

pub loop-column-init : goal.loop-column-init
loop-column-init c = sym (all-start c.args.used c.args.columns c.args.rows.now (omega arith) c.requires.used c.requires.rows)

pub loop-column-preserved-then-used-column-eq0 : goal.loop-column-preserved-then-used-column-eq0
loop-column-preserved-then-used-column-eq0 c =
    let back : c.loop-column.column - 1 + 1 ≡ c.loop-column.column = omega arith in
    c.close_column_of_rows.ensures
    ∙ ap (map (closed_row (c.loop-column.column - 1))) (c.loop-column.invariant ∙ ap (λ j. map (squeezed_from c.args.used j) c.args.rows.now) (sym back))
    ∙ all-closed c.args.used (c.loop-column.column - 1) c.args.rows.now (omega arith) c.if-used-column-eq0.true

pub loop-column-preserved : goal.loop-column-preserved
loop-column-preserved c =
    let back : c.loop-column.column - 1 + 1 ≡ c.loop-column.column = omega arith in
    c.loop-column.invariant ∙ ap (λ j. map (squeezed_from c.args.used j) c.args.rows.now) (sym back)
    ∙ all-kept c.args.used (c.loop-column.column - 1) c.args.rows.now (omega arith) c.if-used-column-eq0.false

pub returns : goal.returns
returns c =
    let z : c.loop-column.column ≡ 0 = omega arith in
    c.loop-column.invariant ∙ ap (λ j. map (squeezed_from c.args.used j) c.args.rows.now) z ∙ all-end c.args.used c.args.rows.now
