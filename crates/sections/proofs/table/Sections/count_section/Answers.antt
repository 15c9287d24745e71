-- The extent takes the section in.
use Rattle.std.proofs.Common.{rules}
use Rattle.sections.proofs.Rule.Stepping.{counts}
use Rattle.sections.proofs.table.Seats.{owns_counted}
use Rattle.sections.proofs.table.Sections.count_section.Goals as goal

pub fetch_max-requires : goal.fetch_max-requires
fetch_max-requires c = (search rules, search rules, counts c.self.inside.count _ _ _ c.section.inside.number _ _ _ c.self.invariant.1 c.section.invariant)

pub invariant_of-section : goal.invariant_of-section
invariant_of-section c = owns_counted _ _ _ _ _ c.section.invariant c.fetch_max.ensures.2
