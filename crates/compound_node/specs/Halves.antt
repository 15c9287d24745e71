-- What the halves of a cut show.
use Rattle.std.specs.Prelude.{◌≡◌}
use Rattle.compound_node.specs.Nodes.{IsEntry, IsBuiltFrom}
use Rattle.compound_node.specs.declared.entries.Entry.{Entry}
use Rattle.compound_node.specs.declared.halves.Cut.{Cut}
use Rattle.compound_node.specs.declared.halves.Half.{Half}
use Rattle.compound_node.specs.declared.halves.Half.TheVariants.{One, Many, Same}
use Rattle.node_tries.specs.Piece.{Piece, Place, Fork}

-- The half of a cut node shows this side of the cut: an entry alone, or a node built for it. A half made anew is never `Same`.
abbrev pub HalfShows : Half → Piece Entry → Type 0
HalfShows (One entry) part = (part ≡ Place entry) × IsEntry entry
HalfShows (Many node) part = IsBuiltFrom node part
HalfShows Same part = ⊥

-- the cut node shows this piece, by the position of its root fork and its two halves
abbrev pub CutShows : Cut → Piece Entry → Type 0
CutShows cut (Place entry) = ⊥
CutShows cut (Fork position zero one) = (cut.position ≡ position) × HalfShows cut.zero zero × HalfShows cut.one one
