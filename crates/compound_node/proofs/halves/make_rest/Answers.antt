-- The rows that are left cover the piece without the place.
use Rattle.compound_node.proofs.Common.{subst, sym, take, drop, suc, All-append, All-drop, All-take, All, covers_self, piece_of_covered}
use Rattle.compound_node.proofs.Ladders.{shown-sparse_keys}
use Rattle.compound_node.proofs.Removal.{covers_without}
use Rattle.compound_node.specs.Halves.{HalfShows}
use Rattle.compound_node.specs.Nodes.{IsEntry}
use Rattle.compound_node.specs.declared.entries.Entry.TheVariants.{Leaf}
use Rattle.compound_node.proofs.halves.make_rest.Goals as goal

pub without_row-rest_rows-requires-clause-ladder : goal.without_row-rest_rows-requires-clause-ladder
without_row-rest_rows-requires-clause-ladder c = (shown-sparse_keys c.args.columns.now c.args.rows.now c.args.entries.now _ c.requires.fit.shows).ladder

pub make_half-requires-clause-children : goal.make_half-requires-clause-children
make_half-requires-clause-children c = subst (All IsEntry) (sym c.list_entries_without-rest_entries.ensures)
    (All-append IsEntry (take c.args.slot c.args.entries.now) (drop (suc c.args.slot) c.args.entries.now) (All-take IsEntry c.args.slot c.args.entries.now c.requires.fit.children)
    (All-drop IsEntry (suc c.args.slot) c.args.entries.now c.requires.fit.children))

pub make_half-requires-clause-covers : goal.make_half-requires-clause-covers
make_half-requires-clause-covers c = rw (c.without_row-rest_rows.ensures, c.list_entries_without-rest_entries.ensures)
    (covers_self (Leaf 0) _ _ _ _ (covers_without c.args.columns.now c.args.rows.now c.args.entries.now _ c.args.slot c.requires.fit.shows c.requires.fit.several c.requires.in_range))

pub returns : goal.returns
returns c = subst (HalfShows c.make_half.result)
    (rw (c.without_row-rest_rows.ensures, c.list_entries_without-rest_entries.ensures)
    (piece_of_covered (Leaf 0) _ _ _ _ (covers_without c.args.columns.now c.args.rows.now c.args.entries.now _ c.args.slot c.requires.fit.shows c.requires.fit.several c.requires.in_range)))
    c.make_half.ensures
