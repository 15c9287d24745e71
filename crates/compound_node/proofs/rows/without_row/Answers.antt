-- The parts before and behind the row, joined.
use Rattle.compound_node.proofs.Common.{refl, ◌+◌, take_rest}
use Rattle.compound_node.proofs.rows.without_row.Goals as goal

pub returns : goal.returns
returns c = rw (c.append_cleared_rows.ensures, c.append_items.ensures, c.new-out.ensures, c.bit_lost_without_row.ensures, take_rest c.args.rows.now (c.args.slot + 1)) refl
