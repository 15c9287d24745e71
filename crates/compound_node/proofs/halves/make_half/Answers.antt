-- The used columns and the squeezed rows fit together.
use Rattle.compound_node.proofs.Common.{ap, arith, length, map, subst, ◌∙◌, ◌≡◌, length-map, rows_over, used_over, half_shows, piece_of_shown, or_all, squeezed, one_place}
use Rattle.compound_node.proofs.Editing.{refill_same}
use Rattle.compound_node.proofs.halves.Halves.{fit_used, some_used}
use Rattle.compound_node.specs.Nodes.{IsBuiltFrom}
use Rattle.compound_node.specs.declared.entries.Entry.TheVariants.{Leaf}
use Rattle.compound_node.proofs.halves.make_half.Goals as goal
use Rattle.compound_node.proofs.halves.make_half.Goals.{After-as_slice-2}

pub drop_unused-requires : goal.drop_unused-requires
drop_unused-requires c = record {
  some = rw (c.or_rows-used.ensures, c.as_slice.ensures.value) (some_used c.args.columns.now c.args.rows.items c.args.entries.items _ c.requires.covers (omega (arith, c.requires.some, c.if-len-eq1.false, c.len.ensures.value)));
}

pub squeeze_rows-requires-clause-used : goal.squeeze_rows-requires-clause-used
squeeze_rows-requires-clause-used c = rw (c.count.ensures, c.or_rows-used.ensures, c.as_slice.ensures.value) (used_over c.args.columns.now c.args.rows.items c.args.entries.items _ c.requires.covers)

pub squeeze_rows-requires-clause-rows : goal.squeeze_rows-requires-clause-rows
squeeze_rows-requires-clause-rows c = rw (c.count.ensures, c.as_mut_slice.ensures.value) (rows_over c.args.columns.now c.args.rows.items c.args.entries.items _ c.requires.covers)

-- the rows that are left
left : (c : After-as_slice-2) → c.as_slice-2.result.now ≡ map (squeezed (or_all c.args.rows.items)) c.args.rows.items
left c =
    let used : c.or_rows-used.result ≡ or_all c.args.rows.items = c.or_rows-used.ensures ∙ ap or_all c.as_slice.ensures.value in
    let all : c.squeeze_rows.new.rows ≡ map (squeezed c.or_rows-used.result) c.args.rows.items = c.squeeze_rows.ensures ∙ ap (map (squeezed c.or_rows-used.result)) c.as_mut_slice.ensures.value in
    let long : length c.squeeze_rows.new.rows ≡ length c.args.rows.items = ap length all ∙ length-map c.args.rows.items (squeezed c.or_rows-used.result) in
    c.as_slice-2.ensures.value ∙ refill_same c.args.rows.items c.squeeze_rows.new.rows long ∙ all ∙ ap (λ u. map (squeezed u) c.args.rows.items) used

pub build_node-requires : goal.build_node-requires
build_node-requires c = rw (c.drop_unused.ensures, left c, c.or_rows-used.ensures, c.as_slice.ensures.value)
    (fit_used c.args.columns.now c.args.rows.items c.args.entries.items _ c.requires.covers (omega (arith, c.requires.some, c.if-len-eq1.false, c.len.ensures.value)) c.requires.room c.requires.positions c.requires.children)

pub returns-then-len-eq1 : goal.returns-then-len-eq1
returns-then-len-eq1 c = rw c.deref.ensures.0 (
  one_place c.args.entries.items _ (Leaf 0) c.requires.covers.entries_are (omega (arith, c.len.ensures.value, c.if-len-eq1.true)),
  c.requires.children 0 (Leaf 0) (omega (arith, c.len.ensures.value, c.if-len-eq1.true)),
)

pub returns : goal.returns
returns c =
    subst (IsBuiltFrom c.build_node.result)
    (rw (c.drop_unused.ensures, left (goal.at.returns c).After-as_slice-2, c.or_rows-used.ensures, c.as_slice.ensures.value)
    (piece_of_shown (Leaf 0) _ _ _ _ (half_shows c.args.columns.now c.args.rows.items c.args.entries.items _ c.requires.covers)))
    c.build_node.ensures
