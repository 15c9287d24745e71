-- The next row goes to the first unused place.
use Rattle.bulk_load.proofs.Common.{◌++◌, ◌∙◌, ap, arith, replicate, sym, Leaf}
use Rattle.bulk_load.proofs.tips.Tips.{next_last, next_rows, rows_end, rows_start}
use Rattle.bulk_load.specs.Tips.{tip}
use Rattle.bulk_load.proofs.tips.make_rows.Goals as goal

pub loop-i-init : goal.loop-i-init
loop-i-init c =
    let start = rows_start c.args.columns.now c.args.tips.now c.requires.few.0 in
    record { rows = ap (λ rs. rs ++ replicate 31 4294967295) (sym start.0); row = start.1 }

pub loop-i-preserved : goal.loop-i-preserved
loop-i-preserved c =
    let k = c.count_columns_below-behind.result in
    record {
      rows = next_rows c.args.columns.now c.args.tips.now c.loop-i.i (tip 0 (Leaf 0)) c.loop-i.row k c.loop-i.rows (omega arith) (omega arith) (omega arith)
          (omega (arith, c.count_columns_below-behind.ensures.within, c.requires.columns.few)) (omega arith) c.count_columns_below-behind.ensures.value c.loop-i.invariant.row c.loop-i.invariant.rows;
      row = next_last c.args.columns.now c.args.tips.now c.loop-i.i (tip 0 (Leaf 0)) c.loop-i.row k c.loop-i.rows (omega arith) (omega arith) (omega arith)
          (omega (arith, c.count_columns_below-behind.ensures.within, c.requires.columns.few)) (omega arith) c.count_columns_below-behind.ensures.value c.loop-i.invariant.row c.loop-i.invariant.rows;
    }

pub returns : goal.returns
returns c = c.loop-i.invariant.rows ∙ rows_end c.args.columns.now c.args.tips.now c.loop-i.i c.requires.few.0 (omega (arith, c.loop-i-test.false))
