-- What is stored of passes, and their pins and rounds.
use Rattle.std.specs.Prelude.{◌≡◌, ℕ, ◌<◌, ◌≤◌, min, List, length, set, take, replicate, slice_get, All, true, false, Option, Some, None, option_map}
use Rattle.record_words.specs.declared.TheConstants.{MAX_STOCK_PASSES}
use Rattle.record_words.specs.declared.layout.Layout.{Layout}
use Rattle.versions.specs.declared.Pin.{Pin}
use Rattle.versions.specs.declared.Round.{Round}
use Rattle.versions.specs.Core.{has_seen}
use Rattle.rowex_replay_state.specs.declared.passes.PassState.{PassState}

-- the state of a pass that has done nothing yet: without a pin, with no epoch loaded, and with no pin of another seen
abbrev pub fresh_pass : PassState
fresh_pass = record { pin = None; epoch = 0; version = 0; bound = 0; seen = replicate MAX_STOCK_PASSES false }

-- The state of the pass once it has loaded this epoch, when the newest version was `version`. Its round has loaded no pin yet, and its own
-- pin stays.
abbrev pub in_round : PassState → (epoch version : ℕ) → PassState
in_round pass epoch version = record { pin = pass.pin; epoch = epoch; version = version; bound = epoch; seen = replicate MAX_STOCK_PASSES false }

-- a round's bound, lowered to the word of a pin, if the pin is set
abbrev pub lowered_by : (bound : ℕ) → (pin : Option ℕ) → ℕ
lowered_by bound None = bound
lowered_by bound (Some word) = min bound word

-- the state of the pass once its round has loaded the pin of the pass `other`, which is `pin` or none
abbrev pub with_pin_seen : (pass : PassState) → (other : ℕ) → (pin : Option ℕ) → PassState
with_pin_seen pass other pin =
    record { pin = pass.pin; epoch = pass.epoch; version = pass.version; bound = lowered_by pass.bound pin; seen = set pass.seen other true }

-- The pass may set its pin to this epoch: it isn't pinned, and has loaded this epoch last. The epoch is not 0, as it is before the first
-- load.
abbrev pub MayPin : (pass : PassState) → (epoch : ℕ) → Type 0
MayPin pass epoch = (pass.pin ≡ None) × (epoch ≡ pass.epoch) × (1 ≤ epoch)

-- the round of the pass has loaded the pin of each of the first `count` passes
abbrev pub HasLoadedPins : (pass : PassState) → (count : ℕ) → Type 0
HasLoadedPins pass count = All (λ loaded. loaded ≡ true) (take count pass.seen)

-- By the round of the pass, over `count` passes, no pass reaches what was marked with this epoch. The epoch is at least 1 and below the
-- round's bound, and the round has loaded the pin of each pass.
abbrev pub IsOutOfReach : (pass : PassState) → (epoch count : ℕ) → Type 0
IsOutOfReach pass epoch count = (1 ≤ epoch) × (epoch < pass.bound) × HasLoadedPins pass count

-- The state of a replay has for a pass what a core has as its pin and its round. Of a pin it has the epoch alone. Which pins the round has
-- loaded, it says for each pass of the layout.
pub record IsPassStateOf (layout : Layout) (pass : PassState) (pin : Option Pin) (round : Round) : Type 0 where
  pub pin_is : pass.pin ≡ option_map (λ (one : Pin). one.word) pin
  pub epoch_is : round.epoch ≡ pass.epoch
  pub version_is : round.version ≡ pass.version
  pub bound_is : round.bound ≡ pass.bound
  pub seen_are : (other : ℕ) → other < layout.passes → slice_get pass.seen other ≡ Some (has_seen round.seen other)

-- These are the states of all passes of this layout. A core has `pins` and `rounds` for them.
pub record ArePassesOf (passes : List PassState) (layout : Layout) (pins : ℕ → Option Pin) (rounds : ℕ → Round) : Type 0 where
  pub count : length passes ≡ layout.passes
  pub each : (number : ℕ) (pass : PassState) → slice_get passes number ≡ Some pass → IsPassStateOf layout pass (pins number) (rounds number)
