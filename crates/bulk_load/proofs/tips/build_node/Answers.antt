-- The columns, rows and entries show the piece of the tips.
use Rattle.bulk_load.proofs.Common.{arith, length, refl, subst, sym, ◌∙◌, ◌≡◌, length-map, IsBuiltFrom}
use Rattle.bulk_load.proofs.tips.Tips.{built, front_rows, node_of_tips}
use Rattle.bulk_load.specs.Tips.{entries_in_tips}
use Rattle.bulk_load.specs.declared.tips.Tip.{Tip}
use Rattle.bulk_load.proofs.tips.build_node.Goals as goal

pub of-head-requires : goal.of-head-requires
of-head-requires c =
    let tips = c.args.tips.now in
    let cs = c.collect_columns-columns.result in
    let (p, x, are) = c.requires.shown in
    let long = length-map tips (λ (s : Tip). s.entry) in
    let front = front_rows cs tips (length (entries_in_tips tips)) (omega arith) long in
    let b = built cs tips c.requires.few.0 c.requires.few.1 c.requires.each c.collect_columns-columns.ensures.columns c.collect_columns-columns.ensures.positions p x are in (
      entries_in_tips tips,
      long,
      record {
        padded = rw (c.make_rows-rows.ensures, front) refl;
        lawful = rw (c.height_over-height.ensures, c.make_rows-rows.ensures, front) b.lawful;
      },
    )

pub of-requires : goal.of-requires
of-requires c =
    let tips = c.args.tips.now in
    let cs = c.collect_columns-columns.result in
    let (p, x, are) = c.requires.shown in
    let front = front_rows cs tips (length tips) (omega arith) refl in
    let b = built cs tips c.requires.few.0 c.requires.few.1 c.requires.each c.collect_columns-columns.ensures.columns c.collect_columns-columns.ensures.positions p x are in
    rw (c.of-head.ensures, c.list_entries.ensures, c.height_over-height.ensures, c.make_rows-rows.ensures, front) b.lawful

pub returns : goal.returns
returns c = λ p x are.
    let tips = c.args.tips.now in
    let cs = c.collect_columns-columns.result in
    let front = front_rows cs tips (length tips) (omega arith) refl in
    let is : c.of.result ≡ node_of_tips cs tips = c.of.ensures ∙ (rw (c.of-head.ensures, c.list_entries.ensures, c.height_over-height.ensures, c.make_rows-rows.ensures, front) refl) in
    subst (λ node. IsBuiltFrom node x) (sym is)
    (built cs tips c.requires.few.0 c.requires.few.1 c.requires.each c.collect_columns-columns.ensures.columns c.collect_columns-columns.ensures.positions p x are)
