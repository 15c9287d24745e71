-- What takes a node's place when an entry is added below it.
use Rattle.node_tries.specs.Piece.{Place, Fork}
use Rattle.tries.specs.Tree.{Subtrie}
use Rattle.insert_cases.specs.declared.raising.Risen.{Risen}
use Rattle.insert_cases.specs.declared.raising.Risen.TheVariants.{Whole, Split}

-- the subtrie that rises: one entry, or a fork of two
abbrev pub subtrie_of : Risen → Subtrie
subtrie_of (Whole entry) = Place entry
subtrie_of (Split position zero one) = Fork position (Place zero) (Place one)
