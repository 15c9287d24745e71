-- Runs: what has happened to the sections of a table. The newest event comes first.
use Rattle.std.specs.Prelude.{◌≡◌, ◌≢◌, ◌+◌, ◌<◌, ◌≤◌, ◌⊎◌, ℕ, suc, List, [], ◌∷◌, ◌++◌, Contains, if◌then◌else◌, nat_eq}
use Rattle.sections.specs.declared.events.SectionEvent.{SectionEvent}
use Rattle.sections.specs.declared.events.SectionEvent.TheVariants.{Entered, Left, Taken}
use Rattle.sections.specs.declared.table.TheConstants.{MOST_MOMENTS}

-- how many moments have been taken in the run
abbrev pub moments_in : List SectionEvent → ℕ
moments_in [] = 0
moments_in (Entered section moments ∷ run) = moments_in run
moments_in (Left section ∷ run) = moments_in run
moments_in (Taken ∷ run) = suc (moments_in run)

-- The word of a section after the run. It is 0 if the section isn't open, and else one more than the number of moments with which it was
-- entered.
abbrev pub word_in : (section : ℕ) (run : List SectionEvent) → ℕ
word_in section [] = 0
word_in section (Entered other moments ∷ run) = if nat_eq other section then moments + 1 else word_in section run
word_in section (Left other ∷ run) = if nat_eq other section then 0 else word_in section run
word_in section (Taken ∷ run) = word_in section run

-- the section has been entered in the run, and not been left since
abbrev pub IsOpen : (section : ℕ) (run : List SectionEvent) → Type 0
IsOpen section run = 0 < word_in section run

-- The event may happen after the run. A section that isn't open may be entered, with a number of moments no higher than that of the moments
-- taken. An open one may be left. A moment may be taken while fewer than MOST_MOMENTS have been, so that each section's word fits 64 bits.
abbrev pub MayFollow : (run : List SectionEvent) (event : SectionEvent) → Type 0
MayFollow run (Entered section moments) = (word_in section run ≡ 0) × (moments ≤ moments_in run)
MayFollow run (Left section) = IsOpen section run
MayFollow run Taken = moments_in run < MOST_MOMENTS

-- each event of the run may follow those that happened before it, which stand behind it in the list
abbrev pub IsLawfulRun : List SectionEvent → Type 0
IsLawfulRun [] = Unit {0}
IsLawfulRun (event ∷ run) = MayFollow run event × IsLawfulRun run

-- no event of the run is of this section
abbrev pub HasNoneOf : (section : ℕ) (run : List SectionEvent) → Type 0
HasNoneOf section [] = Unit {0}
HasNoneOf section (Entered other moments ∷ run) = (other ≢ section) × HasNoneOf section run
HasNoneOf section (Left other ∷ run) = (other ≢ section) × HasNoneOf section run
HasNoneOf section (Taken ∷ run) = HasNoneOf section run

-- the later run is the earlier one with further events, which stand in front of it
abbrev pub RunGoesOn : (earlier later : List SectionEvent) → Type 0
RunGoesOn earlier later = (more : List SectionEvent) × (later ≡ more ++ earlier)

-- the later run is the earlier one with further events in front of it, none of which is of this section
abbrev pub OthersRunOn : (section : ℕ) (earlier later : List SectionEvent) → Type 0
OthersRunOn section earlier later = (more : List SectionEvent) × (later ≡ more ++ earlier) × HasNoneOf section more

-- The moment of this number is past. Take any section, and any time before the moment was taken at which the section was open: it has been
-- left since that time. Moments are numbered from 1 on, in the order in which they are taken.
abbrev pub IsPast : (moment : ℕ) (run : List SectionEvent) → Type 0
IsPast moment run =
    (section : ℕ) (before since : List SectionEvent) → run ≡ since ++ before → moments_in before < moment → IsOpen section before →
    Contains since (Left section)

-- A section with this word isn't open, or its owner loaded the number of moments after this one was taken. For the word is one more than
-- that number.
abbrev pub IsNewer : (moment word : ℕ) → Type 0
IsNewer moment word = (word ≡ 0) ⊎ (moment < word)

-- The moment is not past as far as words tell. It has not been taken, or a section is open whose owner loaded the number of moments before
-- it was taken. Such a section may yet have been entered after it.
abbrev pub IsHeld : (moment : ℕ) (run : List SectionEvent) → Type 0
IsHeld moment run = (moments_in run < moment) ⊎ ((section : ℕ) × IsOpen section run × (word_in section run ≤ moment))
