-- The word of a section, as the run has it.
use Rattle.std.proofs.Common.{rules, ◌≡◌, ◌+◌, ◌*◌, ◌<◌, arith, ap}
use Rattle.sections.specs.Rule.{found_word, owner_of}
use Rattle.sections.specs.Sections.{SectionsView}
use Rattle.sections.proofs.Rule.{finds}
use Rattle.sections.proofs.table.Seats.{owns_found, tells_word}
use Rattle.sections.proofs.table.Sections.load_word.Goals as goal

pub load-requires : goal.load-requires
load-requires c =
    let same : c.self.inside.count ≡ c.args.self.now.count = ap (λ (z : SectionsView). z.count) c.self.view_is in
    let low : c.args.of < c.args.self.now.count = c.requires.range in
    let words = c.self.invariant.0 in
    (search rules, omega arith, finds c.self.inside.count _ _ (16 + 8 * c.args.of) _ _ (λ n. found_word (16 + 8 * c.args.of) n) c.self.invariant.1 c.section.invariant.0 (λ s r same. tells_word _ _ (owner_of c.section.inside.seat.me.0) s r same))

pub invariant_of-section : goal.invariant_of-section
invariant_of-section c = owns_found _ _ _ _ _ c.section.invariant _ c.load.ensures.2
