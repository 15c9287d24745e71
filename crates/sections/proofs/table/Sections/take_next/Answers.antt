-- One moment more has been taken.
use Rattle.std.proofs.Common.{rules}
use Rattle.sections.proofs.Rule.Stepping.{takes}
use Rattle.sections.proofs.table.Seats.{owns_taken, takes_next}
use Rattle.sections.proofs.table.Sections.take_next.Goals as goal

pub compare_exchange-requires : goal.compare_exchange-requires
compare_exchange-requires c = (search rules, search rules, takes c.self.inside.count _ _ _ c.args.expected _ c.self.invariant.1 c.section.invariant.0 c.requires.fewer.0)

pub invariant_of-section : goal.invariant_of-section
invariant_of-section c = owns_taken _ _ _ _ _ c.section.invariant c.args.expected _ c.compare_exchange.ensures.2

pub returns : goal.returns
returns c = takes_next c.args.expected _ c.args.section.now _ _ _ _ c.section.view_is c.section.invariant.0 c.compare_exchange.ensures.0 c.compare_exchange.ensures.2 c.requires.fewer.1
