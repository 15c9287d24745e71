-- The laws of sections.
use Rattle.std.specs.Prelude.{◌≡◌, ◌⊎◌, ℕ, List}
use mathlib.Core.Option.{some}
use lib.ListN.{get_elem?}
use Rattle.atomic_table.specs.Table.{State}
use Rattle.sections.specs.declared.events.SectionEvent.{SectionEvent}
use Rattle.sections.specs.declared.events.SectionKnowledge.{SectionKnowledge}
use Rattle.sections.specs.declared.events.Seated.{Seated}
use Rattle.sections.specs.declared.events.Seated.TheVariants.{Owner}
use Rattle.sections.specs.Rule.{SectionsRuled}
use Rattle.sections.specs.Runs.{RunGoesOn}

-- By the rule of the table all runs are one. Take a run that an owner knows or has known, and one of another owner. One of the two goes on
-- from the other.
abbrev pub RunsAreOne : Type 0
RunsAreOne =
    (count : ℕ) (state : State (Unit {0}) Seated) → SectionsRuled count state → (seat other_seat : ℕ) (known other_known : SectionKnowledge) →
    get_elem? state.views seat ≡ some (Owner known) → get_elem? state.views other_seat ≡ some (Owner other_known) →
    (one other : List SectionEvent) → RunGoesOn one known.run → RunGoesOn other other_known.run → RunGoesOn one other ⊎ RunGoesOn other one
