-- Rows over columns that show a piece.
use Rattle.std.specs.Prelude.{List, length, true, ℕ, ◌≡◌, ◌≤◌}
use Rattle.partial_keys.specs.Rows.{rows_of}
use Rattle.node_tries.specs.Piece.{Piece, places, RisesFrom, UsesOnly, uses}
use Rattle.node_tries.specs.Positions.{all, Ascends}

-- The rows over these columns show the piece. The columns rise and are at most 31, and they are just the positions of the piece's forks.
-- Positions rise along each path. Each row is that of a place's path, and the entries stand at the places, in order.
pub record ShowsPiece {A : Type 0} (columns rows : List ℕ) (entries : List A) (piece : Piece A) : Type 0 where
  pub few : length columns ≤ 31
  pub columns_rise : Ascends 0 columns
  pub forks_at_columns : UsesOnly columns piece
  pub columns_used : all (uses piece) columns ≡ true
  pub paths_rise : RisesFrom 0 piece
  pub rows_are : rows ≡ rows_of columns piece
  pub entries_are : entries ≡ places piece

-- The rows show the piece, as `ShowsPiece` says, but there may be columns that no fork of the piece has.
pub record Covers {A : Type 0} (columns rows : List ℕ) (entries : List A) (piece : Piece A) : Type 0 where
  pub few : length columns ≤ 31
  pub columns_rise : Ascends 0 columns
  pub forks_at_columns : UsesOnly columns piece
  pub paths_rise : RisesFrom 0 piece
  pub rows_are : rows ≡ rows_of columns piece
  pub entries_are : entries ≡ places piece
