-- What contracts see of tables and of sections, and what calls of a section do.
use Rattle.std.specs.Prelude.{◌≡◌, ◌+◌, ◌<◌, ◌≤◌, ◌⊎◌, ℕ, true, List, ◌∷◌}
use Rattle.atomic_table.specs.Seated.{TableId}
use Rattle.sections.specs.declared.events.SectionEvent.{SectionEvent}
use Rattle.sections.specs.declared.events.SectionEvent.TheVariants.{Entered, Left}
use Rattle.sections.specs.declared.events.SectionKnowledge.{SectionKnowledge}
use Rattle.sections.specs.declared.table.TheConstants.{MOST_MOMENTS}
use Rattle.sections.specs.Rule.{new_section}
use Rattle.sections.specs.Runs.{IsLawfulRun, IsOpen, OthersRunOn, moments_in}

-- What contracts see of a table of sections: which one it is, and how many sections it has.
pub record SectionsView : Type 0 where
  pub id : TableId
  pub count : ℕ

-- What contracts see of a section: its table, and what its owner knows.
pub record SectionView : Type 0 where
  pub table : TableId
  pub known : SectionKnowledge

-- the section is one of this table, and its owner knows how many sections the table has
abbrev pub IsSectionOf : (table : SectionsView) (section : SectionView) → Type 0
IsSectionOf table section = (section.table ≡ table.id) × (section.known.count ≡ table.count)

-- the section has this number in the table, and is new: its owner knows of no event, and the section is not counted yet
abbrev pub IsNewSection : (table : SectionsView) (number : ℕ) (section : SectionView) → Type 0
IsNewSection table number section = (section.table ≡ table.id) × (section.known ≡ new_section number table.count)

-- the section is open, as its owner knows
abbrev pub IsInside : SectionView → Type 0
IsInside section = IsOpen section.known.number section.known.run

-- the two views are of one section of one table
abbrev pub IsOneSection : (old new : SectionView) → Type 0
IsOneSection old new = (new.table ≡ old.table) × (new.known.number ≡ old.known.number) × (new.known.count ≡ old.known.count)

-- The section's owner has made no event, and knows those of others up to now. They make a lawful run. Nothing else has changed.
pub record SeesOthers (old new : SectionView) : Type 0 where
  pub table : new.table ≡ old.table
  pub known : new.known ≡ record old.known { run = new.known.run }
  pub others : OthersRunOn old.known.number old.known.run new.known.run
  pub lawful : IsLawfulRun new.known.run

-- The section is entered, which is the last event of the run; before it only others have made new events. The event has the number of
-- moments that the call has loaded, which is no lower than what the owner knew.
pub record Enters (old new : SectionView) : Type 0 where
  pub one : IsOneSection old new
  pub before : List SectionEvent
  pub others : OthersRunOn old.known.number old.known.run before
  pub moments : ℕ
  pub fresh : moments_in old.known.run ≤ moments
  pub run : new.known.run ≡ Entered old.known.number moments ∷ before

-- The section is left, which is the last event of the run; before it only others have made new events.
pub record Leaves (old new : SectionView) : Type 0 where
  pub one : IsOneSection old new
  pub before : List SectionEvent
  pub others : OthersRunOn old.known.number old.known.run before
  pub run : new.known.run ≡ Left old.known.number ∷ before

-- The call took the moment of this number, and made no event of its section. At some time of the call fewer moments had been taken, and by
-- its end this one has been. Or the table can tell no more moments apart: MOST_MOMENTS have been taken, and the number is one more.
pub record TakesMoment (moment : ℕ) (old new : SectionView) : Type 0 where
  pub one : IsOneSection old new
  pub before : List SectionEvent
  pub others : OthersRunOn old.known.number old.known.run before
  pub fewer : moments_in before < moment
  pub until : OthersRunOn old.known.number before new.known.run
  pub taken : (moment ≤ moments_in new.known.run) ⊎ ((moment ≡ MOST_MOMENTS + 1) × (moments_in new.known.run ≡ MOST_MOMENTS))

-- After the call the section is counted: the extent is above its number. Its owner has made no event, and knows those of others up to now.
pub record StartsCounting (old new : SectionView) : Type 0 where
  pub table : new.table ≡ old.table
  pub known : new.known ≡ record old.known { counted = true; run = new.known.run }
  pub others : OthersRunOn old.known.number old.known.run new.known.run

-- By the end of the call more moments than `expected` have been taken, by this owner or another. The owner has made no event of its
-- section.
pub record TakesNext (expected : ℕ) (old new : SectionView) : Type 0 where
  pub table : new.table ≡ old.table
  pub known : new.known ≡ record old.known { run = new.known.run }
  pub others : OthersRunOn old.known.number old.known.run new.known.run
  pub taken : expected < moments_in new.known.run
