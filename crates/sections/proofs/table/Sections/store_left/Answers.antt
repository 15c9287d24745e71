-- The section is left.
use Rattle.std.proofs.Common.{rules, ◌+◌, ◌*◌, subst, sym, refl}
use Rattle.sections.specs.Sections.{IsInside, SectionView}
use Rattle.sections.proofs.Rule.Stepping.{leaves}
use Rattle.sections.proofs.table.Seats.{owns_left, owns_open}
use Rattle.sections.proofs.table.Sections.store_left.Goals as goal

pub store-requires : goal.store-requires
store-requires c = (
  search rules,
  search rules,
  leaves c.self.inside.count _ _ _ c.section.inside.number (16 + 8 * c.section.inside.number) _ _ _ c.self.invariant.1 c.section.invariant
      (owns_open _ _ _ _ c.section.invariant (subst (λ (z : SectionView). IsInside z) (sym c.section.view_is) c.requires.inside)) refl,
)

pub invariant_of-section : goal.invariant_of-section
invariant_of-section c = owns_left _ _ _ _ _ c.section.invariant c.store.ensures.2
