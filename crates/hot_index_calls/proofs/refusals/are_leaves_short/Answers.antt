-- One class after the other, the largest first.
use Rattle.std.specs.Prelude.{◌↔◌, ℕ, Bool, IsTrue}
use Rattle.hot_index_calls.specs.Refusals.{AreShortFrom}
use Rattle.hot_index_calls.specs.declared.census.StateCounts.{StateCounts}
use Rattle.hot_index_calls.proofs.refusals.are_leaves_short.Goals as goal

-- what is told of the larger classes may be said in other words
so_from : (most length : ℕ) (counts : StateCounts) (told larger : Bool) (Larger : Type 0) → IsTrue larger ↔ Larger → IsTrue told ↔ AreShortFrom most length counts (IsTrue larger) → IsTrue told ↔ AreShortFrom most length counts Larger
so_from most length counts told larger Larger is says = (
  λ yes. (let from = says.0 yes in record { here = from.here; larger = λ none. is.0 (from.larger none) }),
  λ from. says.1 (record { here = from.here; larger = λ none. is.1 (from.larger none) }),
)

pub returns : goal.returns
returns c =
    so_from _ _ _ _ _ _
    (so_from _ _ _ _ _ _ (so_from _ _ _ _ _ _ (so_from _ _ _ _ _ _ c.are_short-long.ensures c.are_short_from-wide.ensures) c.are_short_from-large.ensures) c.are_short_from-medium.ensures) c.are_short_from.ensures
