-- How many records a call has found uncommitted, or left so.
use Rattle.std.specs.Prelude.{◌≡◌, ℕ}
use Rattle.rowex_table.specs.Seats.{TableView}
use Rattle.hot_index_calls.specs.Passes.{PassView}
use Rattle.hot_index.specs.Committing.{KnowsUncommitted, number_of_kind}
use Rattle.hot_index.specs.declared.committing.Kind.{Kind}

-- the pass has found, or left, this number of records uncommitted, of the kind with this number
abbrev pub TellsUncommitted : (kind count : ℕ) → TableView → (old new : PassView) → Type 0
TellsUncommitted kind count index old new = (of : Kind) × (number_of_kind of ≡ kind) × KnowsUncommitted of count old new
