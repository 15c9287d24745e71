-- The passes of an index, each told of by its place.
use Rattle.std.proofs.Common.{◌≡◌, ℕ, List, Some, All}
use Rattle.std.specs.List.{slice_get}
use Rattle.std.proofs.lemmas.Option.{slice_get-get_or}
use Rattle.rowex_table.specs.Seats.{TableView}
use Rattle.hot_index_calls.specs.Passes.{Owns, PassView}

-- all are passes of the index, where each is one and something besides
pub own_all : (index : TableView) (passes : List PassView) (IsPass : ℕ → PassView → Type 0) → ((q : ℕ) (p : PassView) → slice_get passes q ≡ Some p → Owns index p × IsPass q p)
    → All (Owns index) passes
own_all index passes IsPass each = λ k d within. (each k _ (slice_get-get_or passes k d within)).0
