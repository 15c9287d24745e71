-- The leaves of a tree, in order; a list with one leaf more, or with one in place of another; a form of `IsTrie` that is quick to decide.
use Rattle.key_bits.specs.Key.{IsKey}
use Rattle.std.specs.Prelude.{◌≡◌, ◌⊎◌, ℕ, ◌<◌, List, [], ◌∷◌, ◌++◌}
use Rattle.tries.specs.Keys.{Key, IsParted}
use Rattle.tries.specs.Tree.{Tree, leaf, node, fork}

-- A leaf as it stands in a tree: the number of its record, its key and its value.
pub record Item : Type 0 where
  pub number : ℕ
  pub key : Key
  pub value : ℕ

-- the leaf with this record number, key and value
abbrev pub item : (number : ℕ) → (key : Key) → (value : ℕ) → Item
item number key value = record { number = number; key = key; value = value }

-- the leaves of a tree, in the order of its keys: those of a fork's 0 side, then those of its 1 side
abbrev pub items : Tree → List Item
items (leaf number key value) = record { number = number; key = key; value = value } ∷ []
items (node number fixed body) = items body
items (fork position left right) = items left ++ items right

-- The keys and values of leaves, in the same order: a finite map as a list.
abbrev pub pairs : List Item → List (Key × ℕ)
pairs [] = []
pairs (first ∷ others) = (first.key, first.value) ∷ pairs others

-- each leaf of the list has the property
abbrev pub Each : (Item → Type 0) → List Item → Type 0
Each P [] = Unit {0}
Each P (x ∷ xs) = P x × Each P xs

-- the leaf is in the list
abbrev pub IsIn : Item → List Item → Type 0
IsIn x [] = ⊥
IsIn x (y ∷ ys) = (x ≡ y) ⊎ IsIn x ys

-- The second list is the first with one leaf more, `x`, at some place.
pub data IsMore (x : Item) : List Item → List Item → Type 0 where
  added : {xs : List Item} → IsMore x xs (x ∷ xs)
  behind : {y : Item} {xs ys : List Item} → IsMore x xs ys → IsMore x (y ∷ xs) (y ∷ ys)

-- The second list is the first with the leaf `y` in place of the leaf `x`.
pub data IsExchange (x y : Item) : List Item → List Item → Type 0 where
  exchanged : {xs : List Item} → IsExchange x y (x ∷ xs) (y ∷ xs)
  past_one : {z : Item} {xs ys : List Item} → IsExchange x y xs ys → IsExchange x y (z ∷ xs) (z ∷ ys)

-- The tree's first fork is at a later position than this one, or the tree has no fork.
abbrev pub IsAbove : (position : ℕ) → (tree : Tree) → Type 0
IsAbove position (leaf number key value) = Unit {0}
IsAbove position (node number fixed body) = IsAbove position body
IsAbove position (fork fork_position left right) = position < fork_position

-- the key of the first leaf of a tree
abbrev pub first : Tree → Key
first (leaf number key value) = key
first (node number fixed body) = first body
first (fork position left right) = first left

-- A form of `IsTrie` that looks at neighbours alone. Each leaf has a key. Each fork is before the next ones below it, and parts the first
-- keys of its two sides.
abbrev pub IsLocal : Tree → Type 0
IsLocal (leaf number key value) = IsKey key
IsLocal (node number fixed body) = IsLocal body
IsLocal (fork position left right) =
    IsLocal left × IsLocal right × IsAbove position left × IsAbove position right × IsParted position (first left) (first right)
