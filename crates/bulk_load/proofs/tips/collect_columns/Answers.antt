-- The next position is a column then.
use Rattle.bulk_load.proofs.Common.{ap, arith, get_or, length, subst, sym, ◌∙◌, Leaf, length-with_position, has, IsColumns}
use Rattle.bulk_load.proofs.tips.Tips.{more_columns, same_columns}
use Rattle.bulk_load.specs.Tips.{tip}
use Rattle.partial_keys.proofs.Keeping.{IsColumns-with_position}
use Rattle.bulk_load.proofs.tips.collect_columns.Goals as goal
use Rattle.bulk_load.proofs.tips.collect_columns.Goals.{then-not-is_column_at, else-not-is_column_at}

pub loop-i-preserved : goal.loop-i-preserved
loop-i-preserved c =
    let d = tip 0 (Leaf 0) in
    let p = (get_or c.args.tips.now c.loop-i.i d).fork in
    elim c.if-not-is_column_at.branch [
      | then-not-is_column_at w ↦
          let off = sym c.is_column_at.ensures ∙ w.if-not-is_column_at.true in
          let is = w.columns-is ∙ w.insert_position_at.ensures in
          record {
            columns = subst IsColumns (sym is) (IsColumns-with_position p c.loop-i.columns c.loop-i.invariant.columns (omega (arith, c.loop-i.invariant.few)) (omega (arith, (c.requires.each c.loop-i.i d (omega arith)).1)) off);
            few = omega (arith, ap length is, length-with_position p c.loop-i.columns, c.loop-i.invariant.few);
            positions = λ q. ap (λ cs. has cs q) is ∙ more_columns c.loop-i.columns c.args.tips.now c.loop-i.i d (omega arith) (omega arith) c.loop-i.invariant.positions q;
          }
      | else-not-is_column_at w ↦
          let here = sym c.is_column_at.ensures ∙ w.if-not-is_column_at.false in
          record {
            columns = subst IsColumns (sym w.columns-is) c.loop-i.invariant.columns;
            few = omega (arith, ap length w.columns-is, c.loop-i.invariant.few);
            positions = λ q. ap (λ cs. has cs q) w.columns-is ∙ same_columns c.loop-i.columns c.args.tips.now c.loop-i.i d (omega arith) (omega arith) c.loop-i.invariant.positions here q;
          }
    ]
