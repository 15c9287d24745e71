-- A column that `used` has not got goes.
use Rattle.compound_node.proofs.Common.{ap, arith, length, map, sym, take, ◌+◌, ◌-◌, ◌∙◌, ◌≡◌, length-map, take-map, all-closed, all-end, all-kept, all-start, squeezed_from, closed_row}
use Rattle.compound_node.proofs.rows.squeeze_lanes.Goals as goal

pub loop-column-init : goal.loop-column-init
loop-column-init c = record {
  whole = c.fits-rows.0;
  each = λ n over. sym (all-start c.args.used c.args.columns (take n c.args.rows) (omega arith) c.requires.used over);
}

pub loop-column-preserved-then-used-column-eq0 : goal.loop-column-preserved-then-used-column-eq0
loop-column-preserved-then-used-column-eq0 c =
    let back : c.loop-column.column - 1 + 1 ≡ c.loop-column.column = omega arith in
    record {
      whole = ap length c.close_lanes-left.ensures ∙ (length-map c.loop-column.left (closed_row (c.loop-column.column - 1)) ∙ c.loop-column.invariant.whole);
      each = λ n over.
          ap (take n) c.close_lanes-left.ensures
          ∙ (take-map (closed_row (c.loop-column.column - 1)) n c.loop-column.left
          ∙ (ap (map (closed_row (c.loop-column.column - 1))) (c.loop-column.invariant.each n over ∙ ap (λ j. map (squeezed_from c.args.used j) (take n c.args.rows)) (sym back))
          ∙ all-closed c.args.used (c.loop-column.column - 1) (take n c.args.rows) (omega arith) c.if-used-column-eq0.true));
    }

pub loop-column-preserved : goal.loop-column-preserved
loop-column-preserved c =
    let back : c.loop-column.column - 1 + 1 ≡ c.loop-column.column = omega arith in
    record {
      whole = c.loop-column.invariant.whole;
      each = λ n over.
          c.loop-column.invariant.each n over
          ∙ (ap (λ j. map (squeezed_from c.args.used j) (take n c.args.rows)) (sym back) ∙ all-kept c.args.used (c.loop-column.column - 1) (take n c.args.rows) (omega arith) c.if-used-column-eq0.false);
    }

pub returns-clause-whole : goal.returns-clause-whole
returns-clause-whole c = c.loop-column.invariant.whole

pub returns-clause-each : goal.returns-clause-each
returns-clause-each c = λ n over.
    let z : c.loop-column.column ≡ 0 = omega arith in
    c.loop-column.invariant.each n over ∙ (ap (λ j. map (squeezed_from c.args.used j) (take n c.args.rows)) z ∙ all-end c.args.used (take n c.args.rows))
