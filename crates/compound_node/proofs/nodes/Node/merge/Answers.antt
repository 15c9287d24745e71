-- Both nodes' rows over the columns of both show the two sides of the fork.
use Rattle.compound_node.proofs.Common.{◌≡◌, ◌++◌, ◌∷◌, ap, ap₂, arith, map, take, subst, ◌∙◌, weight, with_unused, front_below}
use Rattle.std.specs.Prelude.{bit_or}
use Rattle.compound_node.proofs.joining.Joining.{join_below, join_columns, join_fits, join_piece, join_place}
use Rattle.compound_node.specs.Joining.{IsWidened}
use Rattle.compound_node.specs.Nodes.{IsBuiltFrom, NodeView}
use Rattle.compound_node.proofs.nodes.Node.merge.Goals as goal
use Rattle.compound_node.proofs.nodes.Node.merge.Goals.{After-as_slice-3, After-count_columns_below}

pub ensure_columns-requires-clause-small : goal.ensure_columns-requires-clause-small
ensure_columns-requires-clause-small c = join_below c.args.position c.args.zero.now c.args.one.now c.count.ensures.lawful c.count-2.ensures.lawful c.requires.after

pub ensure_columns-requires-clause-room : goal.ensure_columns-requires-clause-room
ensure_columns-requires-clause-room c = rw (c.columns.ensures, c.columns-2.ensures) (join_columns c.args.position c.args.zero.now c.args.one.now c.count.ensures.lawful c.count-2.ensures.lawful c.requires.after c.requires.room)

pub ensure_columns-requires-2-clause-small : goal.ensure_columns-requires-2-clause-small
ensure_columns-requires-2-clause-small c = join_below c.args.position c.args.zero.now c.args.one.now c.count.ensures.lawful c.count-2.ensures.lawful c.requires.after

pub ensure_columns-requires-2-clause-room : goal.ensure_columns-requires-2-clause-room
ensure_columns-requires-2-clause-room c = rw (c.columns-3.ensures, c.columns-4.ensures) (omega (arith, join_columns c.args.position c.args.zero.now c.args.one.now c.count.ensures.lawful c.count-2.ensures.lawful c.requires.after c.requires.room))

-- what both nodes' columns and rows are
module _ (c : After-count_columns_below) where
  zero_widened : IsWidened c.count.result (c.args.position ∷ c.args.one.now.columns) c.args.zero.now.columns (with_unused c.args.zero.now.rows) c.ensure_columns.new.columns c.ensure_columns.new.rows
  zero_widened = rw (← c.columns.ensures, ← c.columns-2.ensures, ← c.padded_rows.ensures) (c.ensure_columns.ensures c.count.result)

  one_widened : IsWidened c.count-2.result (c.args.position ∷ c.args.zero.now.columns) c.args.one.now.columns (with_unused c.args.one.now.rows) c.ensure_columns-2.new.columns c.ensure_columns-2.new.rows
  one_widened = rw (← c.columns-3.ensures, ← c.columns-4.ensures, ← c.padded_rows-2.ensures) (c.ensure_columns-2.ensures c.count-2.result)

pub overflow_sub-bit : goal.overflow_sub-bit
overflow_sub-bit c = join_place c.args.position c.args.zero.now c.args.one.now c.count.ensures.lawful c.count-2.ensures.lawful c.requires.after c.requires.room
    c.count.result c.count-2.result c.count.ensures.count c.count-2.ensures.count c.ensure_columns.new.columns c.ensure_columns.new.rows c.ensure_columns-2.new.columns c.ensure_columns-2.new.rows (zero_widened c) (one_widened c) c.count_columns_below.result c.count_columns_below.ensures.within

rows_are : (c : After-as_slice-3) → c.as_slice-3.result.now ≡ take c.count.result c.ensure_columns.new.rows ++ map (λ row. bit_or row (weight (front_below c.args.position c.ensure_columns.new.columns))) (take c.count-2.result c.ensure_columns-2.new.rows)
rows_are c = c.as_slice-3.ensures.value ∙ c.concatenate_rows-rows.ensures ∙ ap (λ k. take c.count.result c.ensure_columns.new.rows ++ map (λ row. bit_or row (weight k)) (take c.count-2.result c.ensure_columns-2.new.rows)) c.count_columns_below.ensures.value

entries_are : (c : After-as_slice-3) → c.concatenate_entries-entries.result.items ≡ c.args.zero.now.entries ++ c.args.one.now.entries
entries_are c = c.concatenate_entries-entries.ensures
    ∙ ap₂ (λ xs ys. xs ++ ys) (c.as_slice.ensures.value ∙ ap (λ (v : NodeView). v.entries) c.zero.view_is) (c.as_slice-2.ensures.value ∙ ap (λ (v : NodeView). v.entries) c.one.view_is)

pub build_node-requires : goal.build_node-requires
build_node-requires c = rw (rows_are c, entries_are c) (join_fits c.args.position c.args.zero.now c.args.one.now c.count.ensures.lawful c.count-2.ensures.lawful c.requires.after c.requires.room
    c.count.result c.count-2.result c.count.ensures.count c.count-2.ensures.count c.ensure_columns.new.columns c.ensure_columns.new.rows c.ensure_columns-2.new.columns c.ensure_columns-2.new.rows
    (zero_widened (goal.at.build_node-requires c).After-count_columns_below) (one_widened (goal.at.build_node-requires c).After-count_columns_below))

pub returns : goal.returns
returns c =
    let at = goal.at.returns c in
    subst (IsBuiltFrom c.build_node.result)
    (rw (rows_are at.After-as_slice-3, entries_are at.After-as_slice-3) (join_piece c.args.position c.args.zero.now c.args.one.now c.count.ensures.lawful c.count-2.ensures.lawful c.requires.after c.requires.room
    c.count.result c.count-2.result c.count.ensures.count c.count-2.ensures.count c.ensure_columns.new.columns c.ensure_columns.new.rows c.ensure_columns-2.new.columns c.ensure_columns-2.new.rows
    (zero_widened at.After-count_columns_below) (one_widened at.After-count_columns_below)))
    c.build_node.ensures
