-- The first column of a node.
use Rattle.compound_node.proofs.Common.{◌∙◌, List, ℕ, [], ◌∷◌, ◌<◌, ◌≤◌, ◌≡◌, ap, arith, get_or, length, sym, true, root_first, ShowsPiece, length-places, AtRootFork, Piece, Place, Fork, size, has, AllBelow}
use Rattle.compound_node.specs.Nodes.{HeadView, IsLawfulNode, NodeView, head_of, piece}
use Rattle.compound_node.specs.declared.entries.Entry.{Entry}

-- the first column is the position of the root fork
root_column : (columns rows : List ℕ) (entries : List Entry) (P : Piece Entry) → 2 ≤ size P → ShowsPiece columns rows entries P →
    (0 < length columns) × AtRootFork (λ p zero one. get_or columns 0 0 ≡ p) P
root_column columns rows entries (Place x) h sh = absurd (omega arith)
root_column [] rows entries (Fork p s t) h sh = let f : has [] p ≡ true = sh.forks_at_columns.0 in absurd cc
root_column (c ∷ cs) rows entries (Fork p s t) h sh = (omega arith, sym (root_first c p cs rows entries s t sh))

pub first_column : (n : NodeView) → IsLawfulNode n → (0 < length n.columns) × AtRootFork (λ p zero one. get_or n.columns 0 0 ≡ p) (piece n)
first_column n l = root_column n.columns n.rows n.entries (piece n) (omega (arith, l.several, ap length l.shows.entries_are, length-places (piece n))) l.shows

pub first_below : (columns : List ℕ) → AllBelow 65535 columns → get_or columns 0 0 < 65535
first_below [] below = omega arith
first_below (c ∷ cs) below = below.0

-- so it is in each node of a head
pub root_of_head : (head : HeadView) (first : ℕ) → first ≡ get_or head.columns 0 0 → (node : NodeView) → IsLawfulNode node → head_of node ≡ head → AtRootFork (λ p zero one. first ≡ p) (piece node)
root_of_head head first is node lawful same =
    let here : get_or node.columns 0 0 ≡ first = ap (λ (h : HeadView). get_or h.columns 0 0) same ∙ sym is in
    rw here at (first_column node lawful).1
