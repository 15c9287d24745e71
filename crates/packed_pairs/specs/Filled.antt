-- A list that is filled.
use Rattle.std.specs.Prelude.{ℕ, List}

-- What contracts see of a list that is filled: its pairs, and for how many more it has room.
pub record Filled : Type 0 where
  pub pairs : List (List ℕ × ℕ)
  pub room : ℕ
