-- The number of moments, as the run has it.
use Rattle.std.proofs.Common.{rules}
use Rattle.sections.specs.Rule.{found_moments, owner_of}
use Rattle.sections.proofs.Rule.{finds}
use Rattle.sections.proofs.table.Seats.{owns_found, tells_moments}
use Rattle.sections.proofs.table.Sections.load_moments.Goals as goal

pub load-requires : goal.load-requires
load-requires c = (search rules, search rules, finds c.self.inside.count _ _ 0 _ _ (λ n. found_moments 0 n) c.self.invariant.1 c.section.invariant.0 (λ s r same. tells_moments _ (owner_of c.section.inside.seat.me.0) s r))

pub invariant_of-section : goal.invariant_of-section
invariant_of-section c = owns_found _ _ _ _ _ c.section.invariant _ c.load.ensures.2
