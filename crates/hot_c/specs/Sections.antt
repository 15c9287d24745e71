-- What the calls of sections tell a program in C.
use Rattle.std.specs.Prelude.{◌≡◌, ◌⊎◌, ◌<◌, ℕ, [], Option, Some, None, IsSome}
use Rattle.sections.specs.Runs.{IsHeld, IsPast}
use Rattle.sections.specs.Sections.{Enters, IsInside, Leaves, SeesOthers, SectionView, TakesMoment}
use Rattle.hot_handles.specs.SectionHandles.{HasOpenedSection, KeepsSections, IsUnchangedSection}
use Rattle.hot_handles.specs.declared.section.opened.OpenSection.{OpenSection as OpenSection}
use Rattle.hot_c.specs.declared.status.TheConstants.{CLOSED, DONE, INSIDE, NO_HANDLE, NO_MEMORY, NOT_PAST, OUTSIDE}

-- A section's open handle stays open, at the same table, and keeps the sections that it kept for handles to come. `Became` says what became
-- of its own section.
pub record KeepsSection (Became : SectionView → SectionView → Type 0) (old new : Option OpenSection) : Type 0 where
  pub before : OpenSection
  pub after : OpenSection
  pub was : old ≡ Some before
  pub is : new ≡ Some after
  pub table : after.sections.value ≡ before.sections.value
  pub kept : after.kept.items ≡ before.kept.items
  pub became : Became before.section after.section

-- the handle is open, and its section is entered
abbrev pub HoldsInside : Option OpenSection → Type 0
HoldsInside held = (section : OpenSection) × (held ≡ Some section) × IsInside section.section

-- the handle is open, and its section is not entered
abbrev pub HoldsOutside : Option OpenSection → Type 0
HoldsOutside held = (section : OpenSection) × (held ≡ Some section) × ¬ IsInside section.section

-- The section of a handle is entered. If the handle is closed, or its section is entered already, the status says so, and nothing has
-- changed. Else the status is `DONE`. The handle keeps its table and the sections kept for others.
pub record EntersSection (old new : Option OpenSection) (status : ℕ) : Type 0 where
  pub closed : old ≡ None → (status ≡ CLOSED) × (new ≡ old)
  pub inside : HoldsInside old → (status ≡ INSIDE) × KeepsSection (λ section later. later ≡ section) old new
  pub entered : HoldsOutside old → (status ≡ DONE) × KeepsSection Enters old new

-- The section of a handle is left. If the handle is closed, or its section isn't entered, the status says so, and nothing has changed. Else
-- the status is `DONE`. The handle keeps its table and the sections kept for others.
pub record LeavesSection (old new : Option OpenSection) (status : ℕ) : Type 0 where
  pub closed : old ≡ None → (status ≡ CLOSED) × (new ≡ old)
  pub outside : HoldsOutside old → (status ≡ OUTSIDE) × KeepsSection (λ section later. later ≡ section) old new
  pub left : HoldsInside old → (status ≡ DONE) × KeepsSection Leaves old new

-- The status tells whether the section of a handle is entered, or that the handle is closed. Nothing has changed.
pub record TellsInside (old new : Option OpenSection) (status : ℕ) : Type 0 where
  pub closed : old ≡ None → status ≡ CLOSED
  pub outside : HoldsOutside old → status ≡ OUTSIDE
  pub inside : HoldsInside old → status ≡ INSIDE
  pub same : new ≡ old

-- A moment is taken, and C's word, which was `before`, is now the moment's number `after`. If the handle is closed, the status says so, and
-- nothing has changed.
pub record TellsMoment (old new : Option OpenSection) (before after status : ℕ) : Type 0 where
  pub closed : old ≡ None → (status ≡ CLOSED) × (new ≡ old) × (after ≡ before)
  pub taken : IsSome old → (status ≡ DONE) × KeepsSection (TakesMoment after) old new

-- A look of the section's owner finds that the moment of this number is past: each section that was open before it has been left since.
abbrev pub FindsPast : (moment : ℕ) (old new : SectionView) → Type 0
FindsPast moment old new = SeesOthers old new × IsPast moment new.known.run

-- A look of the section's owner doesn't find that the moment of this number is past. The moment hasn't been taken, or a section is open
-- that may have been entered before it.
abbrev pub FindsNotPast : (moment : ℕ) (old new : SectionView) → Type 0
FindsNotPast moment old new = SeesOthers old new × IsHeld moment new.known.run

-- The status tells whether the moment of this number is past. If the handle is closed, the status says so, and nothing has changed.
pub record TellsPast (moment : ℕ) (old new : Option OpenSection) (status : ℕ) : Type 0 where
  pub closed : old ≡ None → (status ≡ CLOSED) × (new ≡ old)
  pub told : IsSome old →
      ((status ≡ DONE) × KeepsSection (FindsPast moment) old new) ⊎ ((status ≡ NOT_PAST) × KeepsSection (FindsNotPast moment) old new)

-- A handle was opened that has section 0 of a new table, and keeps the `count` others for handles to come.
abbrev pub HasOpenedSections : (count : ℕ) (new : Option OpenSection) → Type 0
HasOpenedSections count new = (opened : OpenSection) × (new ≡ Some opened) × KeepsSections count opened

-- A handle was opened with the next of the sections that the open handle `was` keeps (`DONE`). Or `was` keeps none (`NO_HANDLE`), or memory
-- was refused (`NO_MEMORY`): then `handle` stays closed, and all else stays.
abbrev pub OpensSection : (was : OpenSection) (keeper handle : Option OpenSection) (status : ℕ) → Type 0
OpensSection was keeper handle status = (now : OpenSection) × (keeper ≡ Some now) ×
    (((status ≡ DONE) × (opened : OpenSection) × (handle ≡ Some opened) × HasOpenedSection was now opened)
    ⊎ ((status ≡ NO_HANDLE) × (handle ≡ None) × (was.kept.items ≡ []) × IsUnchangedSection was now)
    ⊎ ((status ≡ NO_MEMORY) × (handle ≡ None) × IsUnchangedSection was now))
