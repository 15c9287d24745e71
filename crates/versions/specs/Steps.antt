-- The steps that change the core: what each makes of it, and when a publish is legal.
use Rattle.std.specs.Prelude.{◌<◌, ◌≡◌, ◌⊎◌, ◌≢◌, ◌||◌, ℕ, suc, [], ◌∷◌, ◌++◌, Option, Some, None, Bool, true, false, if◌then◌else◌, nat_eq, min}
use Rattle.compound_node.specs.declared.entries.Entry.{Entry}
use Rattle.compound_node.specs.declared.entries.Entry.TheVariants.{Leaf}
use Rattle.node_tries.specs.Piece.{size}
use Rattle.tries.specs.Place.{entry_at}
use Rattle.tries.specs.Tree.{Tree, leaf, node, fork, IsTrie, IsBuilt}
use Rattle.versions.specs.Heap.{Heap, KeepsAllButOneEntry}
use Rattle.versions.specs.State.{IsLinked, IsTop, with_version, IsLawfulState}
use Rattle.record_words.specs.declared.records.Rec.{Rec}
use Rattle.record_words.specs.declared.records.Rec.TheVariants.{Node as a_node, Leaf as a_leaf}
use Rattle.finite_map.specs.declared.Change.{Change}
use Rattle.versions.specs.Told.{IsChange, TellChanges}
use Rattle.versions.specs.Core.{Fate, Free, Held, Ready, InTree, Unlinked, Marked, has_seen, view, HasLawfulEpochs, Shared, BareCore}
use Rattle.versions.specs.declared.Pin.{Pin}
use Rattle.versions.specs.declared.Round.{Round}

-- whether two records are one
abbrev pub same_rec : (first second : Rec) → Bool
same_rec (a_node number) (a_node other) = nat_eq number other
same_rec (a_node number) (a_leaf other) = false
same_rec (a_leaf number) (a_node other) = false
same_rec (a_leaf number) (a_leaf other) = nat_eq number other

-- whether the tree has this record
abbrev pub links : Tree → Rec → Bool
links (leaf number key value) rec = same_rec rec (a_leaf number)
links (node number fixed body) rec = same_rec rec (a_node number) || links body rec
links (fork position left right) rec = links left rec || links right rec

-- whether the version, which may be empty, has this record
abbrev pub is_linked : Option Tree → Rec → Bool
is_linked None rec = false
is_linked (Some tree) rec = links tree rec

-- What a publish by this pass makes of a record's fate. `linked` says whether the new tree has the record. A ready record that it has is in
-- the tree from the next version on. A record in the tree that it lacks is unlinked by the pass. All other fates stay.
abbrev pub next_fate : (now pass : ℕ) → Bool → Fate → Fate
next_fate now pass linked Free = Free
next_fate now pass linked (Held by) = Held by
next_fate now pass true (Ready by) = InTree (suc now)
next_fate now pass false (Ready by) = Ready by
next_fate now pass true (InTree since) = InTree since
next_fate now pass false (InTree since) = Unlinked since now pass
next_fate now pass linked (Unlinked since last by) = Unlinked since last by
next_fate now pass linked (Marked since last epoch) = Marked since last epoch

-- The pass has locked what names leaf `number`: the anchor if the leaf is the root, else a node in the tree that has the leaf as an entry.
pub data HasLockedNamer (core : BareCore) (pass number : ℕ) : Type 0 where
  in_root : core.anchor ≡ Some pass → core.root ≡ Some (Leaf number) → HasLockedNamer core pass number
  in_node : (namer since slot : ℕ) → core.lock namer ≡ Some pass → core.fate (a_node namer) ≡ InTree since → slot < size (core.heap.nodes namer).subtrie →
      entry_at (core.heap.nodes namer).subtrie slot ≡ Leaf number → HasLockedNamer core pass number

-- What a publish stores, under which lock: the root's entry under the anchor's lock, a node's entry under the node's, or a leaf's value
-- under the lock of what names the leaf. `heap` and `root` are what the words show after the store.
pub data IsStore (core : BareCore) (pass : ℕ) (heap : Heap) (root : Option Entry) : Type 0 where
  at_root : core.anchor ≡ Some pass → heap ≡ core.heap → IsStore core pass heap root
  at_slot : (number : ℕ) → core.lock number ≡ Some pass → ((other : ℕ) → other ≢ number → heap.nodes other ≡ core.heap.nodes other) →
      ((other : ℕ) → heap.leaves other ≡ core.heap.leaves other) → root ≡ core.root → IsStore core pass heap root
  at_value : (number : ℕ) → HasLockedNamer core pass number → ((other : ℕ) → heap.nodes other ≡ core.heap.nodes other) →
      ((other : ℕ) → other ≢ number → heap.leaves other ≡ core.heap.leaves other) → root ≡ core.root → IsStore core pass heap root

-- The publish makes the next version, which is the tree `next`, maybe empty. The words show it, and it is a bit trie of lawful nodes. Its
-- leaves differ from those before as the change `told` says. Each record that it links anew was made ready by the pass, and each node that
-- it unlinks is locked by the pass.
pub record IsNextVersion (shared : Shared) (pass : ℕ) (heap : Heap) (root : Option Entry) (next : Option Tree) (told : Change) : Type 0 where
  pub top : IsTop heap root next
  pub tree : (present : Tree) → next ≡ Some present → IsTrie present × IsBuilt present
  pub comes : (rec : Rec) → IsLinked next rec → ((since : ℕ) × (shared.fate rec ≡ InTree since)) ⊎ (shared.fate rec ≡ Ready pass)
  pub goes : (number since : ℕ) → shared.fate (a_node number) ≡ InTree since → ¬ (IsLinked next (a_node number)) → shared.lock number ≡ Some pass
  pub change : IsChange (shared.past.version shared.past.now) told next

-- The publish is legal. It stores one word under its lock, and makes the next version. No leaf's key and no fixed words change, and of each
-- subtrie one entry at most. A record whose words change is in the new tree. The change is one of this pass.
pub record IsVersionPublish (core : BareCore) (pass : ℕ) (heap : Heap) (root : Option Entry) (tree : Option Tree) (change : Change) : Type 0 where
  pub store : IsStore core pass heap root
  pub near : KeepsAllButOneEntry core.heap heap
  pub kept : (number : ℕ) → IsLinked tree (a_node number) ⊎ (core.heap.nodes number ≡ heap.nodes number)
  pub kept_leaves : (number : ℕ) → IsLinked tree (a_leaf number) ⊎ (core.heap.leaves number ≡ heap.leaves number)
  pub own : change.pass ≡ pass
  pub next : IsNextVersion core.shared pass heap root tree change
  pub open next use *

-- What steps make of what passes share

-- what passes share, but with this fate of this record
abbrev pub with_fate : (shared : Shared) → (rec : Rec) → (fate : Fate) → Shared
with_fate shared rec fate = record shared { fate = λ other. if same_rec other rec then fate else shared.fate other }

-- what passes share, but with the anchor locked by the pass `holder`, or by none
abbrev pub with_anchor : Shared → Option ℕ → Shared
with_anchor shared holder = record shared { anchor = holder }

-- what passes share, but with this node locked by the pass `holder`, or by none
abbrev pub with_lock : (shared : Shared) → (node : ℕ) → (holder : Option ℕ) → Shared
with_lock shared number holder = record shared { lock = λ other. if nat_eq other number then holder else shared.lock other }

-- what passes share, but with the lock of this record released, if the record is a node
abbrev pub unlocked : Shared → Rec → Shared
unlocked shared rec = record shared { lock = λ number. if same_rec (a_node number) rec then None else shared.lock number }

-- what passes share after the pass has marked a retired record with an epoch; the mark also unlocks a node
abbrev pub after_mark : Shared → Rec → (since last epoch : ℕ) → Shared
after_mark shared rec since last epoch = with_fate (unlocked shared rec) rec (Marked since last epoch)

-- what passes share, but with this epoch
abbrev pub with_epoch : (shared : Shared) → (epoch : ℕ) → Shared
with_epoch shared epoch = record shared { epoch = epoch }

-- what passes share, but with this pin of the pass, or with none
abbrev pub with_pin : (shared : Shared) → (pass : ℕ) → (pin : Option Pin) → Shared
with_pin shared pass pin = record shared { pins = λ other. if nat_eq other pass then pin else shared.pins other }

-- what passes share after the pass has set its pin to this word; the pin's version is the newest version, and its floor the epoch
abbrev pub after_set_pin : (shared : Shared) → (pass word : ℕ) → Shared
after_set_pin shared pass word = with_pin shared pass (Some (record { word = word; version = shared.past.now; floor = shared.epoch }))

-- what passes share, but with this round of the pass
abbrev pub with_round : (shared : Shared) → (pass : ℕ) → (round : Round) → Shared
with_round shared pass round = record shared { rounds = λ other. if nat_eq other pass then round else shared.rounds other }

-- the round that a load of the epoch begins: its bound is the epoch at first, and no pin has been loaded
abbrev pub begun_round : (epoch now : ℕ) → Round
begun_round epoch now = record { epoch = epoch; version = now; bound = epoch; seen = [] }

-- what passes share after the pass has loaded the epoch, which begins a round
abbrev pub after_load_epoch : (shared : Shared) → (pass : ℕ) → Shared
after_load_epoch shared pass = with_round shared pass (begun_round shared.epoch shared.past.now)

-- the bound of a round after it has loaded a pin: the lesser of the bound and the pin's word; the bound stays if no pin is set
abbrev pub lowered : (bound : ℕ) → (pin : Option Pin) → ℕ
lowered bound None = bound
lowered bound (Some pin) = min bound pin.word

-- a round after it has loaded the pin of this pass: the pass counts as seen, and the bound is lowered to the pin's word
abbrev pub with_seen : (round : Round) → (pass : ℕ) → (pin : Option Pin) → Round
with_seen round pass pin = record { epoch = round.epoch; version = round.version; bound = lowered round.bound pin; seen = pass ∷ round.seen }

-- what passes share after the pass has loaded the pin of the pass `other` for its round
abbrev pub after_load_pin : (shared : Shared) → (pass other : ℕ) → Shared
after_load_pin shared pass other = with_round shared pass (with_seen (shared.rounds pass) other (shared.pins other))

-- What passes share after a publish by this pass. The root has this entry. The change and the tree are added as the last ones. Records that
-- the tree links anew, or no more, have a new fate.
abbrev pub published_by : (shared : Shared) → (pass : ℕ) → (root : Option Entry) → (tree : Option Tree) → (change : Change) → Shared
published_by shared pass root tree change = record shared {
  root = root;
  past = record { now = suc shared.past.now; version = with_version shared.past.version (suc shared.past.now) tree };
  changes = shared.changes ++ change ∷ [];
  fate = λ rec. next_fate shared.past.now pass (is_linked tree rec) (shared.fate rec);
}

-- The core after a publish: the heap that the words then show, and what passes share then.
abbrev pub after_publish : (core : BareCore) → (pass : ℕ) → (heap : Heap) → (root : Option Entry) → (tree : Option Tree) → (change : Change) → BareCore
after_publish core pass heap root tree change = record { heap = heap; shared = published_by core.shared pass root tree change }

-- From the old heap to the new one, the words of all records but this one stay the same.
pub record ChangesNoOther (old new : Heap) (rec : Rec) : Type 0 where
  pub nodes : (number : ℕ) → rec ≢ a_node number → old.nodes number ≡ new.nodes number
  pub leaves : (number : ℕ) → rec ≢ a_leaf number → old.leaves number ≡ new.leaves number

-- The round has loaded the pin of each pinned pass.
abbrev pub HasSeenAll : BareCore → Round → Type 0
HasSeenAll core round = (pass : ℕ) (pin : Pin) → core.pins pass ≡ Some pin → has_seen round.seen pass ≡ true

-- A legal step of this pass that changes the core, and the core after the step. All other steps are loads and failed exchanges, which
-- change nothing.
pub data IsCoreStep (core : BareCore) (pass : ℕ) : BareCore → Type 0 where
  claims : (rec : Rec) → core.fate rec ≡ Free → IsCoreStep core pass (record core { shared = with_fate core.shared rec (Held pass) })
  fills : (rec : Rec) (heap : Heap) → core.fate rec ≡ Held pass → ChangesNoOther core.heap heap rec →
      IsCoreStep core pass (record core { heap = heap })
  readies : (rec : Rec) → core.fate rec ≡ Held pass → IsCoreStep core pass (record core { shared = with_fate core.shared rec (Ready pass) })
  releases : (rec : Rec) → core.fate rec ≡ Held pass → IsCoreStep core pass (record core { shared = with_fate core.shared rec Free })
  locks_anchor : core.anchor ≡ None → IsCoreStep core pass (record core { shared = with_anchor core.shared (Some pass) })
  unlocks_anchor : core.anchor ≡ Some pass → IsCoreStep core pass (record core { shared = with_anchor core.shared None })
  locks : (number since : ℕ) → core.lock number ≡ None → core.fate (a_node number) ≡ InTree since →
      IsCoreStep core pass (record core { shared = with_lock core.shared number (Some pass) })
  unlocks : (number since : ℕ) → core.lock number ≡ Some pass → core.fate (a_node number) ≡ InTree since →
      IsCoreStep core pass (record core { shared = with_lock core.shared number None })
  publishes : (heap : Heap) (root : Option Entry) (tree : Option Tree) (change : Change) → IsVersionPublish core pass heap root tree change →
      IsCoreStep core pass (after_publish core pass heap root tree change)
  -- the mark is an epoch that the pass loaded after the record was unlinked, so no pass pinned earlier has a higher floor
  marks : (rec : Rec) (since last : ℕ) → core.fate rec ≡ Unlinked since last pass → last < (core.rounds pass).version →
      IsCoreStep core pass (record core { shared = after_mark core.shared rec since last (core.rounds pass).epoch })
  loads_epoch : IsCoreStep core pass (record core { shared = after_load_epoch core.shared pass })
  advances : IsCoreStep core pass (record core { shared = with_epoch core.shared (suc core.epoch) })
  -- the pin's word is the epoch that the pass loaded last
  pins : core.pins pass ≡ None → IsCoreStep core pass (record core { shared = after_set_pin core.shared pass (core.rounds pass).epoch })
  unpins : (pin : Pin) → core.pins pass ≡ Some pin → IsCoreStep core pass (record core { shared = with_pin core.shared pass None })
  loads_pin : (other : ℕ) → IsCoreStep core pass (record core { shared = after_load_pin core.shared pass other })
  -- the round has loaded all pins, and its bound is above the mark, so no pinned pass can reach the record
  gives_back : (rec : Rec) (since last epoch : ℕ) → core.fate rec ≡ Marked since last epoch → epoch < (core.rounds pass).bound →
      HasSeenAll core (core.rounds pass) →
      IsCoreStep core pass (record core { shared = with_fate core.shared rec Free })

-- A node of this fate may be locked by the pass: it is in the tree, or this pass has unlinked it.
abbrev pub IsLockable : (pass : ℕ) → (fate : Fate) → Type 0
IsLockable pass (InTree since) = Unit {0}
IsLockable pass (Unlinked since last by) = by ≡ pass
IsLockable pass fate = ⊥

-- The core is lawful. Its words, versions and lives are lawful together, and so are its epochs. Its versions tell its changes. Each locked
-- node is in the tree, or was unlinked by the pass that has locked it.
pub record IsLawfulCore (core : BareCore) : Type 0 where
  pub state : IsLawfulState (view core)
  pub paced : HasLawfulEpochs core.shared
  pub told : TellChanges core.past core.changes
  pub locked : (number pass : ℕ) → core.lock number ≡ Some pass → IsLockable pass (core.fate (a_node number))

-- What passes share before the first step. The index is empty, no record is claimed, nothing is locked or pinned, and no pass has loaded
-- the epoch. The epoch is 1, since 0 in a pin's word means that it isn't set.
abbrev pub at_first : Shared
at_first = record {
  root = None;
  past = record { now = 0; version = λ number. None };
  changes = [];
  fate = λ rec. Free;
  anchor = None;
  lock = λ number. None;
  epoch = 1;
  pins = λ pass. None;
  rounds = λ pass. record { epoch = 0; version = 0; bound = 0; seen = [] };
}

-- the core of a new table, whose words say what `heap` has
abbrev pub bare_opening : Heap → BareCore
bare_opening heap = record { heap = heap; shared = at_first }
