-- The lowest bit is that of the first lane that lacks the bit.
use Rattle.compound_node.proofs.Lowering.{front_end, front_having, front_range, lacking-lt}
use Rattle.compound_node.proofs.rows.first_row_without.Goals as goal

pub overflow_cast-lacking : goal.overflow_cast-lacking
overflow_cast-lacking c = record { fits = lacking-lt c.args.rows c.fits-rows.0 c.args.first c.args.bit }

pub returns-clause-range : goal.returns-clause-range
returns-clause-range c = front_range c.args.rows c.fits-rows.0 c.args.first c.args.bit c.args.end c.min.result c.requires.ordered c.requires.in_range c.min.ensures

pub returns-clause-having : goal.returns-clause-having
returns-clause-having c = front_having c.args.rows c.fits-rows.0 c.args.first c.args.bit c.args.end c.min.result c.requires.ordered c.requires.in_range c.min.ensures

pub returns-clause-stops : goal.returns-clause-stops
returns-clause-stops c = front_end c.args.rows c.fits-rows.0 c.args.first c.args.bit c.args.end c.min.result c.requires.ordered c.requires.in_range c.min.ensures
