-- What contracts see of a loader, and what they say of its pairs.
use Rattle.std.specs.declared.cmp.Ordering.TheVariants.{Less}
use Rattle.finite_map.specs.Maps.{key_order}
use Rattle.std.specs.Prelude.{◌≡◌, ◌⊎◌, ℕ, ◌<◌, ◌≤◌, List, [], ◌∷◌, ◌++◌, length}
use Rattle.record_words.specs.declared.layout.Layout.{Layout}
use Rattle.record_words.specs.Layout.{leaf_size}
use Rattle.record_words.specs.Leaf.{words_for}
use Rattle.tries.specs.Keys.{Key}
use Rattle.tries.specs.Content.{Item}
use Rattle.rowex_core.specs.declared.event.Act.{Act}
use Rattle.rowex_core.specs.declared.event.Act.TheVariants.{Load}

-- What contracts see of a load: its layout, and the leaves that it has taken, in the order of their keys.
pub record LoadView : Type 0 where
  pub layout : Layout
  pub items : List Item

-- a load that was given no pair
abbrev pub no_items : Layout → LoadView
no_items layout = record { layout = layout; items = [] }

-- the load once it was given one more pair
abbrev pub with_item : LoadView → Item → LoadView
with_item load item = record { layout = load.layout; items = load.items ++ item ∷ [] }

-- the key is above that of the last leaf, or there is no leaf
abbrev pub IsAboveLast : List Item → Key → Type 0
IsAboveLast [] key = Unit {0}
IsAboveLast (item ∷ []) key = key_order item.key key ≡ Less
IsAboveLast (item ∷ (next ∷ items)) key = IsAboveLast (next ∷ items) key

-- one of these leaves, which a load has taken, stands in the leaf record of this number
abbrev pub IsTakenLeaf : (items : List Item) → (number : ℕ) → Type 0
IsTakenLeaf [] number = ⊥
IsTakenLeaf (item ∷ items) number = (number ≡ item.number) ⊎ IsTakenLeaf items number

-- the load has taken each leaf record of the layout with room for the key
abbrev pub HasNoRoomFor : LoadView → Key → Type 0
HasNoRoomFor load key =
    (number : ℕ) → number < load.layout.leaves → words_for (length key) ≤ leaf_size load.layout number → IsTakenLeaf load.items number

-- The bulk load of these words into a table, as an act. The address of its slice of words is 0, since no contract speaks of it.
abbrev pub load_act : (words : List ℕ) → Act
load_act words = Load (record { ref_ptr = (0, 0); now = words })
