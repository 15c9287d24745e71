-- What the steps of other passes leave to a pass.
use Rattle.std.specs.Prelude.{◌≡◌, ℕ}
use Rattle.finite_map.specs.Fronts.{OthersGoOn}
use Rattle.versions.specs.Frames.{IsGrown}
use Rattle.record_words.specs.declared.TheConstants.{VALUE_OFFSET}
use Rattle.rowex_core.specs.Cores.{Core}
use Rattle.record_words.specs.declared.records.Rec.TheVariants.{Leaf as a_leaf}
use Rattle.rowex_core.specs.declared.event.Spot.TheVariants.{Value}
use Rattle.rowex_core.specs.Words.{record_word}
use Rattle.rowex_core.specs.Events.{IsLockedAt}
use Rattle.rowex_core.specs.Sharing.{share}

-- What the steps of other passes, from `old` to `new`, leave to the pass. The layout stays, and so does what the pass has (`share`).
-- Earlier versions stay, with further ones behind them. Earlier changes stay, and further ones are by other passes.
pub record IsFrame (pass : ℕ) (old new : Core) : Type 0 where
  pub layout : new.layout ≡ old.layout
  pub past : IsGrown old.past new.past
  pub changes : OthersGoOn pass old.changes new.changes
  pub own : share pass new ≡ share pass old
  -- the value of a leaf is as it was if the pass has locked what names the leaf
  pub values : (leaf : ℕ) → IsLockedAt old pass (Value leaf) → record_word new (a_leaf leaf) VALUE_OFFSET ≡ record_word old (a_leaf leaf) VALUE_OFFSET
