-- The opening of a table that shows loaded pairs.
use Rattle.rowex_table.proofs.Common.{◌∙◌, true, ap, sym, arith, IfOk-weaker, Layout}
use Rattle.rowex_table.specs.Rule.{first_view, loader_of}
use Rattle.rowex_table.proofs.Seats.{both_ok, dealt_bounds, dealt_other, opens_loaded}
use Rattle.rowex_table.proofs.table.HotTable.new_loaded.Goals as goal

pub make_with_seats-requires-clause-count : goal.make_with_seats-requires-clause-count
make_with_seats-requires-clause-count c = c.requires.shows.size

pub make_with_seats-requires-clause-ruled : goal.make_with_seats-requires-clause-ruled
make_with_seats-requires-clause-ruled c = opens_loaded c.args.layout c.args.words.items (let some = c.args.layout.passes_in_range in omega arith) c.requires.load c.requires.shows c.requires.committed

pub returns-clause-first : goal.returns-clause-first
returns-clause-first c =
    both_ok c.make_with_seats.result _ _ _ (λ made same h s e. let x = h 0 s e in (x.0, x.1 ∙ ap (λ (l : Layout). loader_of l c.args.words.items) (sym same), x.2, x.3)) c.make_with_seats.ensures.table c.make_with_seats.ensures.seats

pub returns-clause-others : goal.returns-clause-others
returns-clause-others c = IfOk-weaker c.make_with_seats.result _ _ (λ made h q s low e. dealt_other made.0 (first_view c.args.layout true c.args.words.items) q s low (h q s e)) c.make_with_seats.ensures.seats

pub returns-clause-bounds : goal.returns-clause-bounds
returns-clause-bounds c = IfOk-weaker c.make_with_seats.result _ _ (λ made h q s e. dealt_bounds made.0 c.args.layout true c.args.words.items q s (h q s e)) c.make_with_seats.ensures.seats
