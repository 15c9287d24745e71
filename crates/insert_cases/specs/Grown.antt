-- What a node shows after it has got a new leaf: as one node, or cut into two halves.
use Rattle.std.specs.Prelude.{◌≡◌, Bool, true, false, ◌||◌}
use Rattle.compound_node.specs.Halves.{HalfShows}
use Rattle.compound_node.specs.Nodes.{NodeView, piece, IsEntry, IsBuiltFrom}
use Rattle.compound_node.specs.declared.entries.Entry.{Entry}
use Rattle.compound_node.specs.declared.entries.Entry.TheVariants.{Leaf}
use Rattle.compound_node.specs.declared.halves.Cut.{Cut}
use Rattle.compound_node.specs.declared.halves.Half.{Half}
use Rattle.compound_node.specs.declared.halves.Half.TheVariants.{One, Many, Same}
use Rattle.node_tries.specs.Piece.{Piece, Place}
use Rattle.node_tries.specs.Changes.{AtRootFork}
use Rattle.insert_cases.specs.declared.growth.Grown.{Grown}
use Rattle.insert_cases.specs.declared.growth.Grown.TheVariants.{One as Whole, Two}

-- The halves of a cut show the pieces `zero` and `one`, those of its two sides. Either half may be the old node as it stands, beside one
-- entry. Otherwise both are made anew.
abbrev pub SidesShow : (old : NodeView) → (first second : Half) → (zero one : Piece Entry) → Type 0
SidesShow old Same (One entry) zero one = (zero ≡ piece old) × (one ≡ Place entry) × IsEntry entry
SidesShow old (One entry) Same zero one = (zero ≡ Place entry) × (one ≡ piece old) × IsEntry entry
SidesShow old first second zero one = HalfShows first zero × HalfShows second one

-- the piece is cut at its root fork: the cut has that fork's position, and its halves show the fork's two sides
abbrev pub IsCutOf : (old : NodeView) → (cut : Cut) → (shown : Piece Entry) → Type 0
IsCutOf old cut shown = AtRootFork (λ position zero one. (cut.position ≡ position) × SidesShow old cut.zero cut.one zero one) shown

-- what a node has grown to shows this piece: it is one node built for the piece, or a cut with two halves
abbrev pub GrownShows : (old : NodeView) → (grown : Grown) → (shown : Piece Entry) → Type 0
GrownShows old (Whole node) shown = IsBuiltFrom node shown
GrownShows old (Two cut) shown = IsCutOf old cut shown

-- whether what a node has grown to is one node, so that no fork rises
abbrev pub is_whole : Grown → Bool
is_whole (Whole node) = true
is_whole (Two cut) = false

-- whether the half is the old node as it stands
abbrev pub is_same : Half → Bool
is_same (One entry) = false
is_same (Many node) = false
is_same Same = true

-- whether one half of the cut is the old node as it stands
abbrev pub keeps_side : Cut → Bool
keeps_side cut = is_same cut.zero || is_same cut.one

-- whether the old node stays in the tree, as one half of a cut
abbrev pub keeps_node : Grown → Bool
keeps_node (Whole node) = false
keeps_node (Two cut) = keeps_side cut

-- the piece that a half made anew shows; leaf 0 for `Same`, which is not made anew
abbrev pub half_piece : Half → Piece Entry
half_piece (One entry) = Place entry
half_piece (Many node) = piece node
half_piece Same = Place (Leaf 0)
