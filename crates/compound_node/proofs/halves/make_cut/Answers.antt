-- The two sides of the root fork are covered by their rows.
use Rattle.compound_node.proofs.Common.{arith, subst, sym, ◌^◌, ◌∙◌, length-drop, length-take-le, take_rest, All-drop, All-take, All, piece_of, front_below}
use Rattle.compound_node.proofs.halves.Halves.{Parts, parts}
use Rattle.compound_node.specs.Nodes.{IsEntry}
use Rattle.compound_node.specs.declared.entries.Entry.TheVariants.{Leaf}
use Rattle.compound_node.proofs.halves.make_cut.Goals as goal

pub make_half-zero-requires-clause-some : goal.make_half-zero-requires-clause-some
make_half-zero-requires-clause-some c =
    let p : Parts c.args.columns.now c.args.rows.now c.args.entries.now (piece_of (Leaf 0) c.args.columns.now c.args.rows.now c.args.entries.now) = parts c.args.columns.now c.args.rows.now c.args.entries.now _ c.requires.shows c.requires.several in
    rw (c.list_items-2.ensures, c.count_zero_side-front.ensures.value, length-take-le (front_below (2 ^ 31) c.args.rows.now) c.args.entries.now (omega (arith, p.front_within))) p.front_some

pub make_half-zero-requires-clause-children : goal.make_half-zero-requires-clause-children
make_half-zero-requires-clause-children c = subst (All IsEntry) (sym c.list_items-2.ensures) (All-take IsEntry c.count_zero_side-front.result c.args.entries.now c.requires.children)

pub make_half-zero-requires-clause-covers : goal.make_half-zero-requires-clause-covers
make_half-zero-requires-clause-covers c = rw (c.list_items.ensures, c.list_items-2.ensures, c.count_zero_side-front.ensures.value)
    (parts c.args.columns.now c.args.rows.now c.args.entries.now (piece_of (Leaf 0) c.args.columns.now c.args.rows.now c.args.entries.now) c.requires.shows c.requires.several).zero_covers

pub make_half-one-requires-clause-some : goal.make_half-one-requires-clause-some
make_half-one-requires-clause-some c =
    let p : Parts c.args.columns.now c.args.rows.now c.args.entries.now (piece_of (Leaf 0) c.args.columns.now c.args.rows.now c.args.entries.now) = parts c.args.columns.now c.args.rows.now c.args.entries.now _ c.requires.shows c.requires.several in
    rw (c.list_items-3.ensures, c.count_zero_side-front.ensures.value, take_rest c.args.entries.now (front_below (2 ^ 31) c.args.rows.now), length-drop (front_below (2 ^ 31) c.args.rows.now) c.args.entries.now) (omega (arith, p.front_within))

pub make_half-one-requires-clause-children : goal.make_half-one-requires-clause-children
make_half-one-requires-clause-children c = subst (All IsEntry) (sym (c.list_items-3.ensures ∙ take_rest c.args.entries.now c.count_zero_side-front.result)) (All-drop IsEntry c.count_zero_side-front.result c.args.entries.now c.requires.children)

pub make_half-one-requires-clause-covers : goal.make_half-one-requires-clause-covers
make_half-one-requires-clause-covers c =
    rw (c.clear_first_column-rest.ensures, c.list_items-3.ensures, c.count_zero_side-front.ensures.value, take_rest c.args.entries.now (front_below (2 ^ 31) c.args.rows.now), take_rest c.args.rows.now (front_below (2 ^ 31) c.args.rows.now))
    (parts c.args.columns.now c.args.rows.now c.args.entries.now _ c.requires.shows c.requires.several).one_covers

pub returns : goal.returns
returns c = rw c.first.ensures ((parts c.args.columns.now c.args.rows.now c.args.entries.now (piece_of (Leaf 0) c.args.columns.now c.args.rows.now c.args.entries.now) c.requires.shows c.requires.several).shows c.make_half-zero.result c.make_half-one.result
    (rw (c.list_items.ensures, c.list_items-2.ensures, c.count_zero_side-front.ensures.value) at c.make_half-zero.ensures)
    (rw (c.clear_first_column-rest.ensures, c.list_items-3.ensures, c.count_zero_side-front.ensures.value, take_rest c.args.entries.now (front_below (2 ^ 31) c.args.rows.now), take_rest c.args.rows.now (front_below (2 ^ 31) c.args.rows.now)) at c.make_half-one.ensures))
