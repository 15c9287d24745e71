-- A stack of pieces of a tree.
use Rattle.std.specs.Prelude.{ℕ, List, [], ◌∷◌, ◌++◌, Option, Some, None}
use Rattle.node_tries.specs.Piece.{size}
use Rattle.tries.specs.Tree.{Tree, fork, subtrie}
use Rattle.bulk_load.specs.declared.tips.Tip.{Tip}
use Rattle.bulk_load.specs.Tips.{tips_of}

-- A tree that a loader keeps on its stack, and the position of the fork between it and what stands to its right.
pub record LeftPiece : Type 0 where
  pub tree : Tree
  pub position : ℕ

-- this tree on the stack, with this position of the fork to its right
abbrev pub left_piece : (tree : Tree) → (position : ℕ) → LeftPiece
left_piece tree position = record { tree = tree; position = position }

-- the whole tree: that of the pieces on the stack, the top one first, and the tree to their right
abbrev pub whole_of : List LeftPiece → Tree → Tree
whole_of [] tree = tree
whole_of (left ∷ others) tree = whole_of others (fork left.position left.tree tree)

-- how many entries each piece on the stack has at its top, from the lowest piece on, and last the tree to their right
abbrev pub counts : List LeftPiece → Tree → List ℕ
counts [] tree = size (subtrie tree) ∷ []
counts (left ∷ others) tree = counts others left.tree ++ size (subtrie tree) ∷ []

-- the position of the fork right of the top piece on the stack; 0 where the stack is empty
abbrev pub position_of : List LeftPiece → ℕ
position_of [] = 0
position_of (left ∷ others) = left.position

-- the tips of all pieces on the stack, in the order of their keys
abbrev pub front_tips : List LeftPiece → List Tip
front_tips [] = []
front_tips (left ∷ others) = front_tips others ++ tips_of (position_of others) (subtrie left.tree)

-- the tree, with a piece to its right if there is one
abbrev pub with_right : Tree → Option LeftPiece → Tree
with_right tree None = tree
with_right tree (Some right) = fork right.position tree right.tree
