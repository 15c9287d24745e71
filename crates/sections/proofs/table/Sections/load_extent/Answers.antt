-- The extent, from which on no section of the run was ever entered.
use Rattle.std.proofs.Common.{rules, arith, ap, sym, ◌∙◌}
use Rattle.sections.specs.Rule.{found_extent, owner_of}
use Rattle.sections.specs.Sections.{SectionView, SectionsView}
use Rattle.sections.proofs.Rule.{finds}
use Rattle.sections.proofs.table.Seats.{found_beyond, owns_found, tells_extent}
use Rattle.sections.proofs.table.Sections.load_extent.Goals as goal

pub load-extent-requires : goal.load-extent-requires
load-extent-requires c = (search rules, search rules, finds c.self.inside.count _ _ 8 _ _ (λ n. found_extent 8 n) c.self.invariant.1 c.section.invariant.0 (λ s r same. tells_extent _ (owner_of c.section.inside.seat.me.0) s r same))

pub invariant_of-section : goal.invariant_of-section
invariant_of-section c = owns_found _ _ _ _ _ c.section.invariant _ c.load-extent.ensures.2

pub returns-clause-beyond : goal.returns-clause-beyond
returns-clause-beyond c q high = found_beyond _ _ 8 c.load-extent.result c.self.inside.count c.section.invariant.0 c.load-extent.ensures.2
    (ap (λ (z : SectionView). z.known.count) c.section.view_is ∙ (c.requires.1 ∙ ap (λ (z : SectionsView). z.count) (sym c.self.view_is))) q (omega arith)
