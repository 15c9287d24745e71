-- What contracts see of a handle.
use Rattle.std.specs.Prelude.{◌≡◌}
use Rattle.rowex_table.specs.Seats.{TableView}
use Rattle.hot_index_calls.specs.Passes.{PassView}

-- what contracts see of a handle: its index, as a table, and its pass
pub record HandleView : Type 0 where
  pub index : TableView
  pub pass : PassView

-- the handle of this pass at this index
abbrev pub handle_at : (index : TableView) (pass : PassView) → HandleView
handle_at index pass = record { index = index; pass = pass }

-- The handle stays at its index. `Became index old new` says what became of its pass.
pub record Stays (Became : TableView → PassView → PassView → Type 0) (old new : HandleView) : Type 0 where
  pub index : new.index ≡ old.index
  pub pass : Became old.index old.pass new.pass
