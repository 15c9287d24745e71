-- Pieces whose forks stand each on the 1 side of the one before.
use Rattle.std.specs.Prelude.{List, [], ℕ, ◌+◌, ◌∷◌}
use Rattle.compound_node.specs.declared.entries.Entry.{Entry}
use Rattle.compound_node.specs.declared.entries.Entry.TheVariants.{Leaf}
use Rattle.node_tries.specs.Piece.{Piece, Fork, Place}

-- A piece whose forks are at these positions, from the top down, each on the 1 side of the one before. On the 0 side of each is a leaf, and
-- on the last 1 side. The leaves' numbers count up from `leaf`. Without positions it is one leaf.
abbrev pub comb : ℕ → List ℕ → Piece Entry
comb leaf [] = Place (Leaf leaf)
comb leaf (p ∷ ps) = Fork p (Place (Leaf leaf)) (comb (leaf + 1) ps)
