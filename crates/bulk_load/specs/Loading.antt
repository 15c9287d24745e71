-- What a builder has built so far: its words and pieces show a lawful tree of the pairs that it has taken.
use Rattle.std.specs.Prelude.{◌≡◌, ◌⊎◌, ℕ, ◌+◌, ◌*◌, ◌<◌, ◌≤◌, List, [], ◌∷◌, ◌++◌, All, map, length, get_or, Option, Some, None, false}
use Rattle.node_tries.specs.Piece.{size}
use Rattle.std.specs.Vec.{vec_len, vec_capacity}
use Rattle.record_words.specs.declared.state.Tag.TheVariants.{Free}
use Rattle.record_words.specs.declared.TheConstants.{LEAF_CLASSES}
use Rattle.record_words.specs.Layout.{leaf_size}
use Rattle.record_words.specs.Leaf.{words_for}
use Rattle.record_words.specs.State.{state_word}
use Rattle.tries.specs.Keys.{Key, IsParted, bit}
use Rattle.tries.specs.Content.{Item, first, items, IsAbove, IsLocal}
use Rattle.tries.specs.Tree.{Tree, leaf, node, fork, subtrie, IsBuilt}
use Rattle.record_words.specs.declared.records.Rec.TheVariants.{Node as a_node, Leaf as a_leaf}
use Rattle.versions.specs.Heap.{Heap}
use Rattle.versions.specs.State.{Links}
use Rattle.versions.specs.Told.{items_of}
use Rattle.rowex_core.specs.Cores.{heap_of, fields_in}
use Rattle.rowex_core.specs.Events.{tree_of}
use Rattle.bulk_load.specs.declared.builder.Builder.{Builder}
use Rattle.bulk_load.specs.declared.builder.StackedPiece.{StackedPiece}
use Rattle.bulk_load.specs.declared.tips.Tip.{Tip}
use Rattle.bulk_load.specs.Tips.{tips_of}
use Rattle.bulk_load.specs.Stacks.{LeftPiece, whole_of, counts, position_of, with_right}
use Rattle.bulk_load.specs.Tables.{AreCursors, HoldsTree, leaf_class, state_in}

-- the leaves of the trees below the entries of these tips, as the words of records show them; the trees stand one after the other
abbrev pub items_under : Heap → List Tip → List Item
items_under heap [] = []
items_under heap (tip ∷ tips) = items_of (tree_of heap (Some tip.entry)) ++ items_under heap tips

-- the leaves that a builder has taken, as its words and tips show them
abbrev pub items_in : Builder → List Item
items_in builder = items_under (heap_of (fields_in builder.layout builder.words.items)) builder.tips.items

-- the key of a tree's last leaf
abbrev pub greatest_key : Tree → Key
greatest_key (leaf number key value) = key
greatest_key (node number fixed body) = greatest_key body
greatest_key (fork position left right) = greatest_key right

-- The words of the builder hold the tree, which is lawful, and no other record (`table`). Its first entries, with the forks between them,
-- are the builder's tips (`tips_are`). Its nodes stand in records that the builder has taken, which are those with numbers below `nodes`.
pub record IsTreeOf (builder : Builder) (tree : Tree) : Type 0 where
  pub table : HoldsTree builder.layout builder.words.items (Some tree)
  pub ordered : IsLocal tree
  pub built : IsBuilt tree
  pub tips_are : builder.tips.items ≡ tips_of 0 (subtrie tree)
  pub taken : (number : ℕ) → Links tree (a_node number) → number < builder.nodes

-- The builder counts the entries of each piece on its stack, and last those of the tree to their right. Each has at most 32, as many as a
-- node.
pub record HasPieces (builder : Builder) (levels : List LeftPiece) (top : Tree) : Type 0 where
  pub counts_are : map (λ (one : StackedPiece). one.count) builder.pieces.items ≡ counts levels top
  pub few : All (λ count. count ≤ 32) (counts levels top)

-- The builder has taken no node record yet. One node has room for all tips and `more` leaves more. To close the pieces takes one record
-- then, and one is left.
abbrev pub FitsOneNode : (builder : Builder) → (more : ℕ) → Type 0
FitsOneNode builder more = (builder.nodes ≡ 0) × (length builder.tips.items + more ≤ 32) × (2 ≤ builder.layout.nodes)

-- Node records are left to close all pieces, once there are `more` leaves more, and one is left then. There are two for each piece, since a
-- join closes two pieces at most. Or there is one for each tip, since a node takes the place of two or more. Or one node has room for all.
abbrev pub HasNodesFor : (builder : Builder) → (more : ℕ) → Type 0
HasNodesFor builder more =
    (builder.nodes + 2 * (length builder.pieces.items + more) ≤ builder.layout.nodes) ⊎
    ((builder.nodes + length builder.tips.items + more ≤ builder.layout.nodes) ⊎ FitsOneNode builder more)

-- the piece on the stack, by its height and count, is one leaf, or leaves that one node has room for
abbrev pub IsOfLeaves : StackedPiece → Type 0
IsOfLeaves one = (one.height ≤ 1) × (1 < one.count → 1 ≤ one.height)

-- The pieces on the builder's stack are those of the tree of these leaves (`tree`, `pieces`, `content`). The last key is the tree's last,
-- and node records are left to close all pieces (`room`).
pub record IsStackOf (builder : Builder) (taken : List Item) : Type 0 where
  pub levels : List LeftPiece
  pub top : Tree
  pub tree : IsTreeOf builder (whole_of levels top)
  pub pieces : HasPieces builder levels top
  pub content : items (whole_of levels top) ≡ taken
  pub last : builder.last ≡ greatest_key (whole_of levels top)
  pub room : HasNodesFor builder 0
  -- each node record that was taken has taken the place of at least one tip
  pub few : builder.nodes + length builder.tips.items ≤ length taken
  -- while no node record is taken, each piece is of leaves alone; none is taken while one node has room for all leaves
  pub low : builder.nodes ≡ 0 → All IsOfLeaves builder.pieces.items
  pub bare : length taken ≤ 32 → builder.nodes ≡ 0

-- The builder has taken these leaves. A leaf whose key parts from the last one at this position belongs beside the top piece. For the top
-- piece has forks behind the position alone, and the fork before it is before the position.
pub record IsStackBehind (builder : Builder) (taken : List Item) (position : ℕ) : Type 0 where
  pub stack : IsStackOf builder taken
  pub above : IsAbove position stack.top
  pub low : (stack.levels ≡ []) ⊎ (position_of stack.levels < position)

-- the builder has taken no leaf: it has no piece, no tip and no node, and its words are those of a table without keys
pub record HasTakenNone (builder : Builder) (taken : List Item) : Type 0 where
  pub none : taken ≡ []
  pub table : HoldsTree builder.layout builder.words.items None
  pub no_pieces : builder.pieces.items ≡ []
  pub no_tips : builder.tips.items ≡ []
  pub no_nodes : builder.nodes ≡ 0

-- All pieces have become one, which is the tree of these leaves, with at most 32 entries at its top. Two node records are left, or one for
-- each tip. So the piece can be closed, and one is left.
pub record IsOnePiece (builder : Builder) (whole : Tree) (taken : List Item) : Type 0 where
  pub tree : IsTreeOf builder whole
  pub content : items whole ≡ taken
  pub few : size (subtrie whole) ≤ 32
  pub room : (builder.nodes + 2 ≤ builder.layout.nodes) ⊎ (builder.nodes + length builder.tips.items ≤ builder.layout.nodes)

-- The builder has taken these leaves, and its top piece is the last of them alone: it has no fork.
pub record EndsInLeaf (builder : Builder) (taken : List Item) : Type 0 where
  pub stack : IsStackOf builder taken
  pub alone : (position : ℕ) → IsAbove position stack.top

-- each class of leaf records has its cursor in the builder
abbrev pub HasCursors : Builder → Type 0
HasCursors builder = (length builder.leaves ≡ LEAF_CLASSES) × AreCursors builder.layout builder.words.items builder.leaves

-- The builder has taken these leaves, as between two pairs of a load. Each class of leaf records has its cursor.
abbrev pub IsLoading : Builder → List Item → Type 0
IsLoading builder taken = HasCursors builder × (HasTakenNone builder taken ⊎ EndsInLeaf builder taken)

-- the builder has memory for one tip more, and for one piece more
abbrev pub HasSpace : Builder → Type 0
HasSpace builder = (vec_len builder.tips < vec_capacity builder.tips) × (vec_len builder.pieces < vec_capacity builder.pieces)

-- The leaf record of this number is free, the next of its class, and has room for the key. The leaf belongs behind a fork at this position,
-- where its key parts from the last one; for the first leaf it is 0. Node records are left for one leaf more.
pub record IsNextLeaf (builder : Builder) (key : Key) (position number : ℕ) : Type 0 where
  pub inside : number < builder.layout.leaves
  pub room : words_for (length key) ≤ leaf_size builder.layout number
  pub free : state_in builder.layout builder.words.items (a_leaf number) ≡ state_word Free
  pub next : get_or builder.leaves (leaf_class builder.layout number) 0 ≡ number
  pub first : vec_len builder.pieces ≡ 0 → position ≡ 0
  pub parted : 0 < vec_len builder.pieces → IsParted position builder.last key
  pub nodes : HasNodesFor builder 1

-- the two builders differ in nothing but the memory that their lists of tips and of pieces have
pub record HasSameFields (old new : Builder) : Type 0 where
  pub layout : new.layout ≡ old.layout
  pub words : new.words.items ≡ old.words.items
  pub last : new.last ≡ old.last
  pub tips : new.tips.items ≡ old.tips.items
  pub pieces : new.pieces.items ≡ old.pieces.items
  pub nodes : new.nodes ≡ old.nodes
  pub leaves : new.leaves ≡ old.leaves

-- From `old` to `new` the builder's layout, its last key, the cursors and states of its leaf records, and its memory for more stay.
pub record KeepsLeaves (old new : Builder) : Type 0 where
  pub layout : new.layout ≡ old.layout
  pub last : new.last ≡ old.last
  pub cursors : new.leaves ≡ old.leaves
  pub states : (number : ℕ) → number < old.layout.leaves → state_in old.layout new.words.items (a_leaf number) ≡ state_in old.layout old.words.items (a_leaf number)
  pub space : HasSpace old → HasSpace new

-- From `old` to `new` the builder's leaf records stay (`KeepsLeaves`). Node records are left for as many more leaves as before. The taken
-- nodes and the tips together are no more than before.
pub record KeepsNodes (old new : Builder) : Type 0 where
  pub leaves : KeepsLeaves old new
  pub nodes : (more : ℕ) → HasNodesFor old more → HasNodesFor new more
  pub few : (most : ℕ) → old.nodes + length old.tips.items ≤ most → new.nodes + length new.tips.items ≤ most

-- ---- closing a piece

-- the number of entries of the piece to the right; 0 where there is none
abbrev pub size_right : Option LeftPiece → ℕ
size_right None = 0
size_right (Some right) = size (subtrie right.tree)

-- The tree `new` may take the place of the tree `old` in a piece. Both have the same leaves, and so the same first and last key. A fork
-- that may stand above `old` may stand above `new`. `new` has `count` entries at its top.
pub record MayTakePlaceOf (new old : Tree) (count : ℕ) : Type 0 where
  pub count_is : size (subtrie new) ≡ count
  pub same_items : items new ≡ items old
  pub same_first : first new ≡ first old
  pub same_last : greatest_key new ≡ greatest_key old
  pub above : (position : ℕ) → IsAbove position old → IsAbove position new

-- The builder's tree has the piece `part`, of `count` tips, to the right of the pieces `levels`. `behind` tips stand to its right, those of
-- the piece `right`, or none.
pub record IsPiece (builder : Builder) (levels : List LeftPiece) (part : Tree) (right : Option LeftPiece) (count behind : ℕ) : Type 0 where
  pub tree : IsTreeOf builder (whole_of levels (with_right part right))
  pub count_is : count ≡ size (subtrie part)
  pub behind_is : behind ≡ size_right right

-- ---- a new leaf

-- The builder may next take this key, behind a fork at this position. It has taken no leaf yet, and the position is 0. Or the key parts
-- from the last one there, and the new leaf belongs beside the top piece.
abbrev pub MayTakeNext : (builder : Builder) → (taken : List Item) → (position : ℕ) → (key : Key) → Type 0
MayTakeNext builder taken position key =
    (HasTakenNone builder taken × (position ≡ 0)) ⊎ (IsStackBehind builder taken position × IsParted position builder.last key)

-- ---- joining pieces

-- The last two pieces on the builder's stack, which was `before`, have become one at the fork between them, that of `joint`. So no fork of
-- the top piece is before that fork.
pub record IsJoined (builder : Builder) (taken : List Item) (before : List LeftPiece) : Type 0 where
  pub joint : LeftPiece
  pub stack : IsStackOf builder taken
  pub were : before ≡ joint ∷ stack.levels
  pub above : (position : ℕ) → position < joint.position → IsAbove position stack.top

-- The builder's top piece may stand beside a leaf whose key parts from the last one at this position. Its forks are behind the position,
-- and the last key has 0 there, so the leaf comes after it.
pub record MayStandBeside (builder : Builder) (taken : List Item) (position : ℕ) : Type 0 where
  pub stack : IsStackOf builder taken
  pub above : IsAbove position stack.top
  pub zero : bit builder.last position ≡ false

-- the builder has taken no leaf, or the pieces on its stack may be joined at forks behind this position (`MayStandBeside`)
abbrev pub CanJoin : (builder : Builder) → (taken : List Item) → (position : ℕ) → Type 0
CanJoin builder taken position = HasTakenNone builder taken ⊎ MayStandBeside builder taken position

-- The builder has taken no leaf. Or its pieces are joined as far as is needed for a leaf that parts from the last one at this position
-- (`IsStackBehind`).
abbrev pub CanPart : (builder : Builder) → (taken : List Item) → (position : ℕ) → Type 0
CanPart builder taken position = HasTakenNone builder taken ⊎ IsStackBehind builder taken position
