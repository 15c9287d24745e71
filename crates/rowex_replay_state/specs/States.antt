-- When a state is that of a core, and what a step of it comes to.
use Rattle.std.specs.Prelude.{◌≡◌, ◌⊎◌, ℕ, ◌<◌, List, map, Bool, true, false, Option, Some}
use Rattle.compound_node.specs.declared.entries.Entry.{Entry}
use Rattle.compound_node.specs.declared.entries.Entry.TheVariants.{Leaf}
use Rattle.record_words.specs.Entry.{entry_word}
use Rattle.finite_map.specs.declared.Change.{Change}
use Rattle.record_words.specs.declared.records.Rec.TheVariants.{Node as a_node, Leaf as a_leaf}
use Rattle.versions.specs.Told.{items_of}
use Rattle.rowex_core.specs.declared.event.Act.{Act}
use Rattle.rowex_core.specs.declared.event.Act.TheVariants.{Publish}
use Rattle.rowex_core.specs.declared.event.Spot.{Spot}
use Rattle.rowex_core.specs.declared.event.Spot.TheVariants.{Root, Slot, Value}
use Rattle.partial_keys.specs.declared.TheConstants.{MAX_ENTRIES}
use Rattle.rowex_core.specs.Cores.{Core, IsLawful}
use Rattle.rowex_core.specs.Events.{LegalAct, after}
use Rattle.rowex_replay_state.specs.declared.linked.Item.{Item as ReadItem}
use Rattle.rowex_replay_state.specs.Versions.{read_item}
use Rattle.rowex_replay_state.specs.declared.passes.PassState.{PassState}
use Rattle.rowex_replay_state.specs.Passes.{ArePassesOf}
use Rattle.rowex_replay_state.specs.Records.{RecordsView, AreRecordsOf, HasLockedEntry, lock_in, words_in}

-- What contracts see of the state of a replay. `anchor` is the pass that has locked the anchor, if one has, and `root` the root's entry.
-- `items` are the leaves of the newest version, in key order.
pub record StateView : Type 0 where
  pub records : RecordsView
  pub passes : List PassState
  pub anchor : Option ℕ
  pub root : Option Entry
  pub epoch : ℕ
  pub changes : List Change
  pub items : List ReadItem

-- The state is that of this core: with the same records, passes, anchor's lock, root, epoch and changes. Its leaves are those of the core's
-- newest version. Earlier versions are not kept, since no step's legality needs them.
pub record IsStateOf (state : StateView) (core : Core) : Type 0 where
  pub records : AreRecordsOf state.records core.layout core.words core.fate core.lock
  pub passes : ArePassesOf state.passes core.layout core.pins core.rounds
  pub anchor : core.anchor ≡ state.anchor
  pub root : core.root ≡ state.root
  pub epoch : core.epoch ≡ state.epoch
  pub changes : core.changes ≡ state.changes
  pub items : items_of (core.past.version core.past.now) ≡ map read_item state.items

-- Whether a replay has made the pass's act. If so, the act is legal in each lawful core with the old state, and the new state is that of
-- the core after it. If not, the act is legal in none, and the state is as before. That the layout has the pass is checked elsewhere.
abbrev pub IsStepped : (made : Bool) → (old new : StateView) → (pass : ℕ) → (act : Act) → Type 0
IsStepped true old new pass act = (core : Core) → ∥ IsLawful core ∥₁ → IsStateOf old core → LegalAct core pass act × IsStateOf new (after core pass act)
IsStepped false old new pass act = (new ≡ old) × ((core : Core) → IsLawful core → IsStateOf old core → ¬ (LegalAct core pass act))

-- the pass has locked what names the leaf: the anchor if the root does, or else a node with the leaf's entry
abbrev pub HasNamerLocked : (state : StateView) → (pass leaf : ℕ) → Type 0
HasNamerLocked state pass leaf =
    ((state.anchor ≡ Some pass) × (state.root ≡ Some (Leaf leaf))) ⊎ HasLockedEntry state.records pass (entry_word (Some (Leaf leaf)))

-- The table has the spot, and the pass has the lock under which the word of the spot is stored. For a value it is the lock of what names
-- the leaf.
abbrev pub HasLock : (state : StateView) → (pass : ℕ) → (spot : Spot) → Type 0
HasLock state pass Root = state.anchor ≡ Some pass
HasLock state pass (Slot number slot) = (slot < MAX_ENTRIES) × (lock_in state.records (a_node number) ≡ Some (Some pass))
HasLock state pass (Value number) = ((words : List ℕ) × (words_in state.records (a_leaf number) ≡ Some words)) × HasNamerLocked state pass number

-- the act is a publish, and the pass has the lock of its spot
abbrev pub IsLockedPublish : (state : StateView) → (pass : ℕ) → (act : Act) → Type 0
IsLockedPublish state pass act = (spot : Spot) × (word : ℕ) × (act ≡ Publish spot word) × HasLock state pass spot
