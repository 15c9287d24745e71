-- The sections that have been dealt are those below the number.
use Rattle.std.specs.Prelude.{◌≡◌, ℕ, [], length}
use mathlib.Core.Option.{some}
use lib.ListN.{get_elem?}
use Rattle.sections.specs.declared.events.Seated.TheVariants.{Dealer}
use Rattle.sections.specs.Sections.{IsNewSection, SectionsView, SectionView}
use Rattle.sections.proofs.table.Sections.new.Given as goal

abbrev pub invariant-loop-number : goal.invariant-loop-number
invariant-loop-number l = (l.dealer.table_id ≡ l.table.shared.table_id) × (l.dealer.me ≡ (Dealer l.number l.count, [])) × (length l.sections.items ≡ l.number)
    × ((q : ℕ) (s : SectionView) → get_elem? l.sections.items q ≡ some s → let made : SectionsView = record { id = l.table.shared.table_id; count = l.count } in IsNewSection made q s)
