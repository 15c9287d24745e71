-- What more columns do to the rows of a node.
use Rattle.std.specs.Prelude.{ℕ, ◌≡◌, ◌||◌, List, take}
use Rattle.compound_node.specs.declared.entries.Entry.{Entry}
use Rattle.partial_keys.specs.Columns.{IsColumns}
use Rattle.partial_keys.specs.Shows.{Covers}
use Rattle.node_tries.specs.Piece.{Piece}
use Rattle.node_tries.specs.Positions.{has}

-- The new columns are the old ones and those of `further`, and lawful if the old ones were. Whatever piece the first `count` rows show over
-- the old columns, they show it over the new ones.
pub record IsWidened (count : ℕ) (further old old_rows new new_rows : List ℕ) : Type 0 where
  pub columns : (position : ℕ) → has new position ≡ (has old position || has further position)
  pub positions : IsColumns old → IsColumns new
  pub rows : (entries : List Entry) (shown : Piece Entry) → Covers old (take count old_rows) entries shown → Covers new (take count new_rows) entries shown
