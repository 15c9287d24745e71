-- A writer's publish: that it may be made, and what it leaves the pass.
use Rattle.std.specs.Prelude.{◌≡◌, ℕ, List, [], ◌∷◌, ◌++◌, Option, None, IsSome}
use Rattle.finite_map.specs.declared.Change.{Change}
use Rattle.finite_map.specs.Maps.{value_at}
use Rattle.finite_map.specs.Fronts.{OthersGoOn, map_of, Fits}
use Rattle.record_words.specs.declared.layout.Layout.{Layout}
use Rattle.record_words.specs.declared.records.Rec.{Rec}
use Rattle.versions.specs.Trades.{AreApart}
use Rattle.rowex_core.specs.declared.event.Act.TheVariants.{Publish}
use Rattle.rowex_core.specs.declared.event.Spot.{Spot}
use Rattle.rowex_core.specs.declared.known.Known.{Known}
use Rattle.rowex_core.specs.Having.{OwnsJust, LocksJust, AreKept, IsUnlinked}
use Rattle.rowex_core.specs.Knowing.{IsEvent}
use Rattle.rowex_table.specs.Rule.{MayStep}
use Rattle.rowex_table.specs.Made.{nodes_of}
use Rattle.rowex_table.specs.Runs.{silent}

-- A pass that knew `earlier` has published the change, and knows `later` now. Its pin is the same. Its front has grown by changes of
-- others, and has this one as the last. The change is legal on the map before it, in which its key has the value `was`. The pass owns just
-- the records `gone`, which it has unlinked. It has locked just the nodes `kept`, and the anchor if it had before.
pub record HasPublished (earlier later : Known) (change : Change) (was : Option ℕ) (gone : List Rec) (kept : List ℕ) : Type 0 where
  pub pass : later.pass ≡ earlier.pass
  pub pin : later.pin ≡ earlier.pin
  pub before : List Change
  pub others : OthersGoOn earlier.pass earlier.front before
  pub front : later.front ≡ before ++ change ∷ []
  pub fits : Fits (map_of before) change
  pub was_held : value_at (map_of before) change.key ≡ was
  pub own : OwnsJust later.own IsUnlinked gone
  pub apart : AreApart gone
  pub locks : LocksJust later.locks kept
  pub anchor : (earlier.anchor ≡ None → later.anchor ≡ None) × (IsSome earlier.anchor → IsSome later.anchor)

-- A pass that knows `known` may publish by a store of the word at the spot (`may`). If it does so as a step without notes, it has published
-- the change, as `HasPublished` says. Of its locked nodes it keeps those that are not among the records `gone`.
pub record Publishes (layout : Layout) (known : Known) (spot : Spot) (word : ℕ) (change : Change) (was : Option ℕ) (gone : List Rec) : Type 0 where
  pub may : MayStep layout (λ found. Publish spot word) known
  pub gives : (later : Known) (kept : List ℕ) → AreKept (nodes_of known.locks) gone kept → IsEvent layout (Publish spot word) silent known later →
      HasPublished known later change was gone kept
