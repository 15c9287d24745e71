-- Claims of leaf records, one class after the other.
use Rattle.std.specs.Prelude.{◌≡◌, ℕ, ◌<◌, ◌≤◌, List, Option}
use Rattle.record_words.specs.Layout.{leaf_size, uncommitted_in}
use Rattle.record_words.specs.declared.layout.Layout.{Layout}
use Rattle.record_words.specs.declared.records.Rec.{Rec}
use Rattle.record_words.specs.declared.records.Rec.TheVariants.{Leaf as a_leaf}
use Rattle.rowex_core.specs.declared.known.Failed.{Failed}
use Rattle.rowex_table.specs.Committed.{IsCommitted}
use Rattle.rowex_records.specs.Claims.{HasMissedSince}

-- By these bounds each leaf record from number `from` up to this number is committed, with the one that has it.
abbrev pub AreCommittedSince : (layout : Layout) → (bounds : List ℕ) → (from number : ℕ) → Type 0
AreCommittedSince layout bounds from number = (other : ℕ) → from ≤ other → other ≤ number → IsCommitted layout (uncommitted_in bounds) (a_leaf other)

-- Failed steps of number `since` or later found leaf records from number `from` to before `upto` not free: each before the first of them that
-- isn't committed by these bounds. `Whose` holds of each record and of the owner that was found, if there is one.
abbrev pub AllMissedBetween : (Whose : Rec → Option ℕ → Type 0) → (layout : Layout) → (bounds : List ℕ) → (from upto : ℕ) →
    (failed : List Failed) → (since : ℕ) → Type 0
AllMissedBetween Whose layout bounds from upto failed since =
    (number : ℕ) → from ≤ number → number < upto → AreCommittedSince layout bounds from number → HasMissedSince Whose failed (a_leaf number) since

-- the leaf records from number `from` to before `upto` are as large as the first of them
abbrev pub AreOfOneClass : Layout → (from upto : ℕ) → Type 0
AreOfOneClass layout from upto = (number : ℕ) → from ≤ number → number < upto → leaf_size layout number ≡ leaf_size layout from
