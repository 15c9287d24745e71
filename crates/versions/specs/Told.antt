-- What a version holds, and how the versions tell the changes.
use Rattle.std.specs.Prelude.{◌≡◌, ℕ, suc, ◌≤◌, List, [], ◌∷◌, length, take, Option, Some, None}
use Rattle.finite_map.specs.declared.Call.TheVariants.{Insert}
use Rattle.finite_map.specs.declared.Change.{Change}
use Rattle.finite_map.specs.declared.Kind.{Kind}
use Rattle.finite_map.specs.declared.Kind.TheVariants.{Added, Replaced, Removed}
use Rattle.finite_map.specs.declared.Note.{Note}
use Rattle.finite_map.specs.declared.Reply.TheVariants.{Inserted}
use Rattle.finite_map.specs.Maps.{Map}
use Rattle.finite_map.specs.Fronts.{map_of, LegalFront}
use Rattle.tries.specs.Tree.{Tree}
use Rattle.tries.specs.Content.{Item, items, pairs, IsMore, IsExchange}
use Rattle.versions.specs.State.{Past}

-- the leaves of a version, which may be empty
abbrev pub items_of : Option Tree → List Item
items_of None = []
items_of (Some tree) = items tree

-- The keys and values of the leaves of a version, in key order.
abbrev pub content : Option Tree → Map
content tree = pairs (items_of tree)

-- The leaf with this record number, and with the change's key and value.
abbrev pub item_of : (number : ℕ) → (change : Change) → Item
item_of number change = record { number = number; key = change.key; value = change.value }

-- The change by which the pass adds this leaf.
abbrev pub added_change : (pass : ℕ) → (item : Item) → Change
added_change pass item = record { pass = pass; key = item.key; value = item.value; kind = Added }

-- the change by which the pass gives a key the value of this leaf
abbrev pub replaced_change : (pass : ℕ) → (item : Item) → Change
replaced_change pass item = record { pass = pass; key = item.key; value = item.value; kind = Replaced }

-- the change by which the pass removes this leaf
abbrev pub removed_change : (pass : ℕ) → (item : Item) → Change
removed_change pass item = record { pass = pass; key = item.key; value = item.value; kind = Removed }

-- the notes of insertions of these leaves, one after the other, at places from `place` on; each has the reply `Inserted`
abbrev pub added_notes : (place : ℕ) → (leaves : List Item) → List Note
added_notes place [] = []
added_notes place (first ∷ others) = record { place = place; call = Insert first.key first.value; reply = Inserted } ∷ added_notes (suc place) others

-- What a change of this kind makes of a list of leaves. `Added` adds the leaf at some place. `Replaced` puts it in place of one with the
-- same key. `Removed` takes it out.
abbrev pub IsChanged : (kind : Kind) → (item : Item) → (before after : List Item) → Type 0
IsChanged Added item before after = IsMore item before after
IsChanged Replaced item before after = (other : Item) × (other.key ≡ item.key) × IsExchange other item before after
IsChanged Removed item before after = IsMore item after before

-- From the version `before` to the next one, one leaf with the change's key and value comes, takes another's place, or goes. The change's
-- kind says which. The leaf's record may have any number.
abbrev pub IsChange : (before : Option Tree) → (change : Change) → (after : Option Tree) → Type 0
IsChange before change after = (number : ℕ) × IsChanged change.kind (item_of number change) (items_of before) (items_of after)

-- The versions tell these changes, one for each version after the empty one. The content of version n is the map after the first n changes,
-- and each change is legal on the map before it.
pub record TellChanges (past : Past) (changes : List Change) : Type 0 where
  pub count : length changes ≡ past.now
  pub content_is : (version : ℕ) → version ≤ past.now → content (past.version version) ≡ map_of (take version changes)
  pub legal : LegalFront changes
