-- The rule of a table of sections, and what its steps tell.
use Rattle.std.specs.Prelude.{◌≡◌, ◌+◌, ◌*◌, ◌-◌, ◌<◌, ◌≤◌, ℕ, Bool, true, false, List, [], ◌∷◌, length, slice_index, if◌then◌else◌, nat_eq}
use mathlib.Core.Option.{some}
use lib.ListN.{get_elem?}
use Rattle.atomic_table.specs.Table.{State, Me, Step}
use Rattle.sections.specs.declared.events.SectionEvent.{SectionEvent}
use Rattle.sections.specs.declared.events.SectionEvent.TheVariants.{Entered, Left, Taken}
use Rattle.sections.specs.declared.events.SectionKnowledge.{SectionKnowledge}
use Rattle.sections.specs.declared.events.Seated.{Seated}
use Rattle.sections.specs.declared.events.Seated.TheVariants.{Dealer, Owner}
use Rattle.sections.specs.declared.table.TheConstants.{MOST_MOMENTS, MOMENTS, EXTENT, FIRST_SECTION}
use Rattle.sections.specs.Runs.{HasNoneOf, IsLawfulRun, OthersRunOn, moments_in, word_in}

-- Words

-- How many words a table of `count` sections has. Each section has eight, so that no two share a line of a processor's cache.
abbrev pub sections_words : (count : ℕ) → ℕ
sections_words count = FIRST_SECTION + 8 * count

-- the index of the word of the section of this number
abbrev pub section_place : (section : ℕ) → ℕ
section_place section = FIRST_SECTION + 8 * section

-- The words show the run: the number of its moments, and the word of each section. The extent is at most `count`, and no section of that
-- number or higher was ever entered. So `is_past` loads the words of sections below it alone.
pub record ShowsRun (count : ℕ) (run : List SectionEvent) (words : List ℕ) : Type 0 where
  pub size : length words ≡ sections_words count
  pub moments : slice_index words MOMENTS ≡ moments_in run
  pub extent : slice_index words EXTENT ≤ count
  pub each : (section : ℕ) → section < count → slice_index words (section_place section) ≡ word_in section run
  pub beyond : (section : ℕ) → slice_index words EXTENT ≤ section → HasNoneOf section run

-- Seats

-- the seat is that of this section's owner, or a dealer's that has still to deal the section
abbrev pub HasSection : (seat : Seated) (section : ℕ) → Type 0
HasSection (Dealer next count) section = next ≤ section
HasSection (Owner known) section = known.number ≡ section

-- What a seat knows is true of the run, in a table of `count` sections. A dealer knows that the sections from `next` on were never entered.
-- An owner knows a beginning of the run, behind which no event is of its section. If it knows that its section is counted, the section is
-- below the extent.
abbrev pub IsTrueOfRun : (count extent : ℕ) (run : List SectionEvent) (seat : Seated) → Type 0
IsTrueOfRun count extent run (Dealer next sections) = (sections ≡ count) × ((section : ℕ) → next ≤ section → HasNoneOf section run)
IsTrueOfRun count extent run (Owner known) =
    (known.count ≡ count) × OthersRunOn known.number known.run run × (known.counted ≡ true → known.number < extent)

-- The rule of a table of `count` sections. The words show a lawful run. What each seat knows is true of this run, and no two seats have one
-- section.
pub record SectionsRuled {S : Type 0} (count : ℕ) (state : State S Seated) : Type 0 where
  pub run : List SectionEvent
  pub lawful : IsLawfulRun run
  pub shows : ShowsRun count run state.words
  pub knows : (seat : ℕ) (view : Seated) → get_elem? state.views seat ≡ some view → IsTrueOfRun count (slice_index state.words EXTENT) run view
  pub apart : (one other section : ℕ) (view another : Seated) → get_elem? state.views one ≡ some view → get_elem? state.views other ≡ some another →
      HasSection view section → HasSection another section → one ≡ other

-- what the owner of a new section knows: no event, and that the section is not counted yet
abbrev pub new_section : (section count : ℕ) → SectionKnowledge
new_section section count = record { number = section; count = count; counted = false; run = [] }

-- what the owner of a section knows; for a dealer's seat, what the owner of a new section 0 would know, so that there always is something
abbrev pub owner_of : Seated → SectionKnowledge
owner_of (Owner known) = known
owner_of (Dealer next count) = new_section 0 0

-- The seat is that of the owner of this section, which its table has, and nothing else is kept with it. By the events that the owner knows,
-- the section's word is `word`. `counted` says whether the owner knows that the extent is above the section's number.
abbrev pub IsOwners : {S : Type 0} → (me : Me S Seated) (section : ℕ) (counted : Bool) (word : ℕ) → Type 0
IsOwners me section counted word = let knowledge : SectionKnowledge = owner_of me.0 in
    (me ≡ (Owner knowledge, [])) × (knowledge.number ≡ section) × (knowledge.counted ≡ counted) ×
    (word_in section knowledge.run ≡ word) × (section < knowledge.count)

-- the seat of a dealer once it has dealt one more section; an owner's seat stays
abbrev pub next_section : Seated → Seated
next_section (Dealer next count) = Dealer (next + 1) count
next_section view = view

-- the seat of the section that a dealer deals next, which is new; an owner's seat stays
abbrev pub section_dealt : Seated → Seated
section_dealt (Dealer next count) = Owner (new_section next count)
section_dealt view = view

-- Steps

-- By a load the owner of a section learns the run so far, which is lawful. It has no new event of the owner's section. `Found` says what
-- the loaded word tells of the run. For a dealer this says nothing.
abbrev pub Finds : (Found : SectionKnowledge → List SectionEvent → Type 0) (old new : Seated) → Type 0
Finds Found (Owner known) new =
    (run : List SectionEvent) × (new ≡ Owner (record known { run = run })) × OthersRunOn known.number known.run run × IsLawfulRun run ×
    Found known run
Finds Found old new = Unit {0}

-- A step that loads a word and changes nothing, in the form in which a shared table asks for it. `Found` tells the meaning by the word's
-- index and by the word, `told`.
abbrev pub finding : {S : Type 0} → (Found : ℕ → ℕ → SectionKnowledge → List SectionEvent → Type 0) (step : Step S) (before : Me S Seated)
    (told : ℕ) (after : Me S Seated) → Type 0
finding Found step before told after = (after.1 ≡ before.1) × Finds (Found step.word told) before.0 after.0

-- the loaded word is the number of moments taken so far, at most MOST_MOMENTS
abbrev pub found_moments : (word told : ℕ) (knowledge : SectionKnowledge) (run : List SectionEvent) → Type 0
found_moments word told knowledge run = (told ≡ moments_in run) × (told ≤ MOST_MOMENTS)

-- the loaded word is the extent, at most the number of sections: no section of that number or a higher one was ever entered
abbrev pub found_extent : (word told : ℕ) (knowledge : SectionKnowledge) (run : List SectionEvent) → Type 0
found_extent word told knowledge run = (told ≤ knowledge.count) × ((section : ℕ) → told ≤ section → HasNoneOf section run)

-- if `word` is the index of a section's word in this table, the loaded word, `told`, is that section's word by the run
abbrev pub found_word : (word told : ℕ) (knowledge : SectionKnowledge) (run : List SectionEvent) → Type 0
found_word word told knowledge run = (section : ℕ) → word ≡ section_place section → section < knowledge.count → told ≡ word_in section run

-- After the step the owner's section is counted: the extent is above its number. The owner learns the run so far, and makes no event. For a
-- dealer this says nothing.
abbrev pub Counted : (old new : Seated) → Type 0
Counted (Owner known) new =
    (run : List SectionEvent) × (new ≡ Owner (record known { counted = true; run = run })) × OthersRunOn known.number known.run run
Counted old new = Unit {0}

-- A step that counts the owner's section, in the form in which a shared table asks for it.
abbrev pub counting : {S : Type 0} → (step : Step S) (before : Me S Seated) (told : ℕ) (after : Me S Seated) → Type 0
counting step before told after = (after.1 ≡ before.1) × Counted before.0 after.0

-- An event of the owner's section is the next one of the run, and the owner then knows the run with the event. `next` adds the event to a
-- run. For a dealer this says nothing.
abbrev pub EventHappens : (next : SectionKnowledge → List SectionEvent → List SectionEvent) (old new : Seated) → Type 0
EventHappens next (Owner known) new =
    (before : List SectionEvent) × (new ≡ Owner (record known { run = next known before })) × OthersRunOn known.number known.run before
EventHappens next old new = Unit {0}

-- A step that enters the owner's section, in the form in which a shared table asks for it. The stored word, `told`, is one more than the
-- number of moments that the event `Entered` names. The owner then knows the run with this event. What else the seat has stays.
abbrev pub entering : {S : Type 0} → (step : Step S) (before : Me S Seated) (told : ℕ) (after : Me S Seated) → Type 0
entering step before told after =
    (after.1 ≡ before.1) × EventHappens (λ known run. Entered known.number (told - 1) ∷ run) before.0 after.0

-- A step that leaves the owner's section, in the form in which a shared table asks for it.
abbrev pub leaving : {S : Type 0} → (step : Step S) (before : Me S Seated) (told : ℕ) (after : Me S Seated) → Type 0
leaving step before told after = (after.1 ≡ before.1) × EventHappens (λ known run. Left known.number ∷ run) before.0 after.0

-- The exchange finds the number of moments taken so far, `told`, and takes one more if that is `expected`. The owner then knows the run up
-- to it. For a dealer this says nothing.
abbrev pub Takes : (expected told : ℕ) (old new : Seated) → Type 0
Takes expected told (Owner known) new =
    (before : List SectionEvent) × (new ≡ Owner (record known { run = if nat_eq told expected then Taken ∷ before else before }))
    × OthersRunOn known.number known.run before × (told ≡ moments_in before)
Takes expected told old new = Unit {0}

-- An exchange that may take a moment, in the form in which a shared table asks for it.
abbrev pub taking : {S : Type 0} → (step : Step S) (before : Me S Seated) (told : ℕ) (after : Me S Seated) → Type 0
taking step before told after = (after.1 ≡ before.1) × Takes step.first told before.0 after.0
