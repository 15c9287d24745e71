-- A publish, once its word is stored.
use Rattle.std.specs.Prelude.{◌≡◌, ℕ, List, length, slice_get, Bool, true, false, if◌then◌else◌, nat_eq, Option, Some}
use Rattle.rowex_replay_state.specs.declared.linked.Item.{Item as ReadItem}
use Rattle.rowex_replay_state.specs.Versions.{read_item}
use Rattle.tries.specs.Content.{Item, item}
use Rattle.compound_node.specs.declared.entries.Entry.{Entry}
use Rattle.finite_map.specs.declared.Change.{Change}
use Rattle.record_words.specs.declared.records.Rec.{Rec}
use Rattle.record_words.specs.declared.records.Rec.TheVariants.{Leaf as a_leaf}
use Rattle.versions.specs.Steps.{IsNextVersion, published_by}
use Rattle.versions.specs.Told.{items_of}
use Rattle.rowex_core.specs.Reading.{IsPacked}
use Rattle.rowex_core.specs.Cores.{Core, IsLawful, IsPastFilling, heap_of}
use Rattle.rowex_core.specs.Events.{change_between, tree_of}
use Rattle.rowex_replay_state.specs.States.{StateView, IsStateOf}

-- The state is that of a lawful core, but its records have the words `words`. In leaf records they are the core's. So it is the state
-- between the store of a node's word and the change of fates, or before a store at the root.
pub record IsWordStored (state : StateView) (core : Core) (words : Rec → List ℕ) : Type 0 where
  pub lawful : ∥ IsLawful core ∥₁
  pub at : IsStateOf state (record core { words = words })
  pub leaves : (number : ℕ) → words (a_leaf number) ≡ core.words (a_leaf number)

-- the words of each record that is neither free nor held encode a node or a leaf
abbrev pub AreWordsPacked : Core → (Rec → List ℕ) → Type 0
AreWordsPacked core words = (rec : Rec) → IsPastFilling (core.fate rec) → IsPacked rec (words rec)

-- the change that a publish by the pass makes after which the words show the tree from this root, as the leaves tell it
abbrev pub change_to : (core : Core) → (pass : ℕ) → (words : Rec → List ℕ) → (root : Option Entry) → Change
change_to core pass words root = change_between pass (items_of (core.past.version core.past.now)) (items_of (tree_of (heap_of words) root))

-- The pass may make the tree that the words show from this root the newest version. The lock under which the word is stored is not asked
-- for.
abbrev pub MayMakeVersion : (core : Core) → (pass : ℕ) → (words : Rec → List ℕ) → (root : Option Entry) → Type 0
MayMakeVersion core pass words root = IsNextVersion core.shared pass (heap_of words) root (tree_of (heap_of words) root) (change_to core pass words root)

-- The core once the pass has made the tree that the words show from this root the newest version. The leaves tell the change.
abbrev pub published : (core : Core) → (pass : ℕ) → (words : Rec → List ℕ) → (root : Option Entry) → Core
published core pass words root =
    record { layout = core.layout; words = words; shared = published_by core.shared pass root (tree_of (heap_of words) root) (change_to core pass words root) }

-- Whether a replay has made the tree from this root the newest version, once the word is stored. If so, the pass may make it in each core
-- with the old state (`MayMakeVersion`). The new state is that of the core after it. If not, it may in none whose records are encoded, and
-- the state is as before. The lock of the word and its node's encoding are checked before.
abbrev pub IsPublishJudged : (made : Bool) → (old new : StateView) → (pass : ℕ) → (root : Option Entry) → Type 0
IsPublishJudged true old new pass root =
    (core : Core) (words : Rec → List ℕ) → IsWordStored old core words → MayMakeVersion core pass words root ×
    IsStateOf new (published core pass words root)
IsPublishJudged false old new pass root =
    (new ≡ old) × ((core : Core) (words : Rec → List ℕ) → IsWordStored old core words → AreWordsPacked core words →
    ¬ (MayMakeVersion core pass words root))

-- the leaf `old`, which has the word as its value if its number is `leaf`
abbrev pub revalued_item : (leaf word : ℕ) → (old : Item) → Item
revalued_item leaf word old = item old.number old.key (if nat_eq old.number leaf then word else old.value)

-- The two lists have the same leaves, in the same order, but for one value: in `new` the leaf of the number `leaf` has the value `word`.
pub record AreRevalued (leaf word : ℕ) (old new : List ReadItem) : Type 0 where
  pub count : length new ≡ length old
  pub each : (place : ℕ) (next : ReadItem) → slice_get new place ≡ Some next → (was : ReadItem) × (slice_get old place ≡ Some was) ×
      (read_item next ≡ revalued_item leaf word (read_item was))
