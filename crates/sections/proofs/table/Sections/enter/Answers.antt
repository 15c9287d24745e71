-- The section stays outside until the store, and then it is entered.
use Rattle.std.proofs.Common.{◌≡◌, true, false, refl}
use Rattle.sections.proofs.table.Entries.{enters_after, still_outside}
use Rattle.sections.proofs.table.Sections.enter.Goals as goal

pub store_entered-requires-clause-outside : goal.store_entered-requires-clause-outside
store_entered-requires-clause-outside c =
    still_outside c.args.section.now c.count_section.new.section c.load_moments-moments.new.section c.count_section.ensures c.load_moments-moments.ensures.looks
    (λ i. let yes : c.is_inside.result ≡ true = c.is_inside.ensures.inside i in let no : c.is_inside.result ≡ false = c.if-is_inside.false in absurd (cc))

pub returns-clause-entered : goal.returns-clause-entered
returns-clause-entered c out = (refl, enters_after c.args.section.now c.count_section.new.section c.load_moments-moments.new.section c.count_section.ensures c.load_moments-moments.ensures.looks c.store_entered.new.section c.store_entered.ensures)

pub store_entered-requires-clause-moments : goal.store_entered-requires-clause-moments
store_entered-requires-clause-moments c = (c.load_moments-moments.ensures.most, c.load_moments-moments.ensures.found)
