-- What the columns of a node, its discriminative bits, are.
use Rattle.std.specs.Prelude.{List, length, replicate, take, ℕ, ◌++◌, ◌-◌, ◌<◌, ◌≡◌, ◌≤◌}
use Rattle.node_tries.specs.Positions.{Ascends, AllBelow}

-- The positions are the columns of a node: 1 to 31 of them, which rise strictly and are below 65,535.
pub record IsColumns (positions : List ℕ) : Type 0 where
  pub some : 0 < length positions
  pub few : length positions ≤ 31
  pub rise : Ascends 0 positions
  pub below : AllBelow 65535 positions

-- the positions, filled up to 31 numbers by 65,535, which is no position
abbrev pub with_free : List ℕ → List ℕ
with_free positions = positions ++ replicate (31 - length positions) 65535

-- The first `count` of these 31 numbers are the columns of a node, and all behind them are 65,535.
pub record HoldsColumns (places : List ℕ) (count : ℕ) : Type 0 where
  pub columns : IsColumns (take count places)
  pub counted : length (take count places) ≡ count
  pub filled : with_free (take count places) ≡ places

-- The first `count` of these 32 lanes are the columns of a node, and all behind them are 65,535.
pub record AreColumnLanes (lanes : List ℕ) (count : ℕ) : Type 0 where
  pub columns : IsColumns (take count lanes)
  pub counted : length (take count lanes) ≡ count
  pub unused : take count lanes ++ replicate (32 - count) 65535 ≡ lanes
