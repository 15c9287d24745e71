-- What an open handle of a section holds, and how handles of sections are opened.
use Rattle.std.specs.Prelude.{◌≡◌, ◌+◌, ◌++◌, ◌∷◌, [], ℕ, length}
use Rattle.sections.specs.Sections.{IsNewSection}
use Rattle.hot_handles.specs.declared.section.opened.OpenSection.{OpenSection}

-- The open handle has section 0, new, of a table of `count + 1` sections. It keeps `count` others for handles to come.
pub record KeepsSections (count : ℕ) (opened : OpenSection) : Type 0 where
  pub count_is : opened.sections.value.count ≡ count + 1
  pub kept : length opened.kept.items ≡ count
  pub new : IsNewSection opened.sections.value 0 opened.section

-- the open handle has the same table and the same section, and keeps the same other sections
abbrev pub IsUnchangedSection : (was now : OpenSection) → Type 0
IsUnchangedSection was now = (now.sections.value ≡ was.sections.value) × (now.section ≡ was.section) × (now.kept.items ≡ was.kept.items)

-- A handle was opened with the next of the sections that `was` keeps, and `now` keeps the others. The new handle keeps none.
pub record HasOpenedSection (was now opened : OpenSection) : Type 0 where
  pub next : was.kept.items ≡ now.kept.items ++ opened.section ∷ []
  pub same : (now.sections.value ≡ was.sections.value) × (now.section ≡ was.section)
  pub table : opened.sections.value ≡ was.sections.value
  pub alone : opened.kept.items ≡ []
