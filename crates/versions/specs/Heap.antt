-- The words of the records, and the tree that they show.
use Rattle.std.specs.Prelude.{◌≡◌, ◌⊎◌, ℕ}
use Rattle.tries.specs.Keys.{Key}
use Rattle.tries.specs.Tree.{Fixed, Subtrie, Tree, leaf, node, fork, subtrie}
use Rattle.tries.specs.Place.{Swap}

-- what the words of a node record say: its fixed part and its subtrie
pub record NodeWords : Type 0 where
  pub fixed : Fixed
  pub subtrie : Subtrie

-- what the words of a leaf record say: its key and value
pub record LeafWords : Type 0 where
  pub key : Key
  pub value : ℕ

-- what the words of all records say
pub record Heap : Type 0 where
  pub nodes : ℕ → NodeWords
  pub leaves : ℕ → LeafWords

-- The record with which the tree begins has the words that the tree tells. Of a tree that begins with a fork nothing is said.
abbrev pub IsCopied : Heap → Tree → Type 0
IsCopied heap (leaf number key value) = heap.leaves number ≡ record { key = key; value = value }
IsCopied heap (node number fixed body) = heap.nodes number ≡ record { fixed = fixed; subtrie = subtrie body }
IsCopied heap (fork position left right) = Unit {0}

-- Each record of the tree has the words that the tree tells.
abbrev pub IsShown : Heap → Tree → Type 0
IsShown heap (leaf number key value) = heap.leaves number ≡ record { key = key; value = value }
IsShown heap (node number fixed body) = (heap.nodes number ≡ record { fixed = fixed; subtrie = subtrie body }) × IsShown heap body
IsShown heap (fork position left right) = IsShown heap left × IsShown heap right

-- From one heap to the next, each leaf keeps its key, and each node its fixed words. Each subtrie keeps its forks, and all its entries but
-- one at most. Leaves' values may change.
abbrev pub KeepsAllButOneEntry : (old new : Heap) → Type 0
KeepsAllButOneEntry old new =
    ((number : ℕ) → (old.leaves number).key ≡ (new.leaves number).key) × ((number : ℕ) → ((old.nodes number).fixed ≡ (new.nodes number).fixed)) ×
    ((number : ℕ) → ((old.nodes number).subtrie ≡ (new.nodes number).subtrie) ⊎ Swap (old.nodes number).subtrie (new.nodes number).subtrie)
