-- The section is entered.
use Rattle.std.proofs.Common.{rules, ◌≡◌, ◌≤◌, ◌-◌, ◌+◌, ◌*◌, true, arith, ap, subst, sym, refl}
use Rattle.sections.specs.Rule.{owner_of}
use Rattle.sections.specs.Runs.{moments_in}
use Rattle.sections.specs.Sections.{IsInside, SectionView}
use Rattle.sections.proofs.Rule.Stepping.{enters}
use Rattle.sections.proofs.table.Seats.{owns_closed, owns_entered}
use Rattle.sections.proofs.table.Sections.store_entered.Goals as goal

pub store-requires : goal.store-requires
store-requires c =
    let same : moments_in (owner_of c.section.inside.seat.me.0).run ≡ moments_in c.args.section.now.known.run = ap (λ (z : SectionView). moments_in z.known.run) c.section.view_is in
    let is : c.args.moments ≡ moments_in c.args.section.now.known.run = c.requires.moments.1 in
    let few : c.args.moments + 1 - 1 ≤ moments_in (owner_of c.section.inside.seat.me.0).run = omega arith in
    let own = owns_closed _ _ _ _ c.section.invariant (subst (λ (z : SectionView). z.known.counted ≡ true) (sym c.section.view_is) c.requires.counted) (subst (λ (z : SectionView). ¬ IsInside z) (sym c.section.view_is) c.requires.outside) in
    (search rules, search rules, enters c.self.inside.count _ _ _ c.section.inside.number (16 + 8 * c.section.inside.number) (c.args.moments + 1) _ c.self.invariant.1 own refl (omega arith) few)

pub invariant_of-section : goal.invariant_of-section
invariant_of-section c = owns_entered _ _ _ _ _ c.section.invariant (c.args.moments + 1) (omega arith) c.store.ensures.2
