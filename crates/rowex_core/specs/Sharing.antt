-- What of a core is a pass's own.
use Rattle.std.specs.Prelude.{◌≡◌, ℕ, ◌&&◌, All, Contains, List, [], ◌∷◌, filter, nat_eq, if◌then◌else◌, Bool, true, false, Option, Some, None}
use Rattle.compound_node.specs.declared.entries.Entry.{Entry}
use Rattle.record_words.specs.declared.records.Rec.{Rec}
use Rattle.record_words.specs.declared.records.Rec.TheVariants.{Node as a_node}
use Rattle.versions.specs.declared.Pin.{Pin}
use Rattle.versions.specs.declared.Round.{Round}
use Rattle.versions.specs.Core.{Fate, Free, Held as HeldBy, Ready as ReadyBy, InTree, Unlinked as UnlinkedBy, Marked}
use Rattle.versions.specs.Steps.{same_rec}
use Rattle.rowex_core.specs.declared.known.Holding.{Holding}
use Rattle.rowex_core.specs.declared.known.Holding.TheVariants.{Held, Ready as IsReady, Unlinked}
use Rattle.rowex_core.specs.declared.known.Owned.{Owned}
use Rattle.rowex_core.specs.declared.known.Locked.{Locked}
use Rattle.rowex_core.specs.declared.known.Known.{Known}
use Rattle.rowex_core.specs.Cores.{Core}
use Rattle.rowex_core.specs.Events.{IsInTree}

-- how the pass holds a record of this fate; none if the record is not its own
abbrev pub holding_of : (pass : ℕ) → (fate : Fate) → Option Holding
holding_of pass (HeldBy holder) = if nat_eq holder pass then Some Held else None
holding_of pass (ReadyBy holder) = if nat_eq holder pass then Some IsReady else None
holding_of pass (UnlinkedBy since last holder) = if nat_eq holder pass then Some (Unlinked since last) else None
holding_of pass Free = None
holding_of pass (InTree since) = None
holding_of pass (Marked since last epoch) = None

-- whether the pass has this lock, of which `lock` tells the holder
abbrev pub is_by : (pass : ℕ) → (lock : Option ℕ) → Bool
is_by pass None = false
is_by pass (Some holder) = nat_eq holder pass

-- whether a record of this fate is in the tree
abbrev pub is_in_tree : Fate → Bool
is_in_tree (InTree since) = true
is_in_tree fate = false

-- The record as a list of one, with its words and how it is held. The list is empty if the record is not the pass's own.
abbrev pub owned : (rec : Rec) → (words : List ℕ) → (holding : Option Holding) → List Owned
owned rec words None = []
owned rec words (Some holding) = record { rec = rec; holding = holding; words = words } ∷ []

-- the node as a list of one, with its words; an empty list if it is not locked
abbrev pub locked : (node : ℕ) → (words : List ℕ) → (is_locked : Bool) → List Locked
locked node words true = record { node = node; words = words } ∷ []
locked node words false = []

-- the entry of the root, which may be none, if the pass has locked the anchor; else `None`
abbrev pub anchored_at : Option Entry → Bool → Option (Option Entry)
anchored_at root true = Some root
anchored_at root false = None

-- What a pass has: its own records, the nodes in the tree that it has locked, the anchor's lock, its pin and its round. Each record and
-- each node gives a list of one or none.
pub record Share : Type 0 where
  pub own : Rec → List Owned
  pub locks : ℕ → List Locked
  pub anchor : Option (Option Entry)
  pub pin : Option Pin
  pub round : Round

-- What the pass has in the core. A locked node counts while it is in the tree; an unlinked one counts as a record of its own.
abbrev pub share : (pass : ℕ) → (core : Core) → Share
share pass core = record {
  own = λ rec. owned rec (core.words rec) (holding_of pass (core.fate rec));
  locks = λ number. locked number (core.words (a_node number)) (is_in_tree (core.fate (a_node number)) && is_by pass (core.lock number));
  anchor = anchored_at core.root (is_by pass core.anchor);
  pin = core.pins pass;
  round = core.rounds pass;
}

-- those of a pass's own records that are the record `rec`
abbrev pub of_record : Rec → List Owned → List Owned
of_record rec own = filter (λ owned. same_rec rec owned.rec) own

-- those of a pass's locks that are on the node of this number
abbrev pub of_node : (node : ℕ) → (locks : List Locked) → List Locked
of_node node locks = filter (λ lock. nat_eq node lock.node) locks

-- what a pass has, as far as it knows, in the form of what it has in a core (`share`)
abbrev pub known_share : Known → Share
known_share known = record {
  own = λ rec. of_record rec known.own;
  locks = λ number. of_node number known.locks;
  anchor = known.anchor;
  pin = known.pin;
  round = known.round;
}

-- the share of a pass that has no record, lock or pin, and has loaded no epoch
abbrev pub nothing : Share
nothing = record {
  own = λ rec. [];
  locks = λ number. [];
  anchor = None;
  pin = None;
  round = record { epoch = 0; version = 0; bound = 0; seen = [] };
}

-- In other words: what the pass knows of each record and node by itself

-- the fate of a record that the pass holds in this way
abbrev pub fate_of : (pass : ℕ) → (holding : Holding) → Fate
fate_of pass Held = HeldBy pass
fate_of pass IsReady = ReadyBy pass
fate_of pass (Unlinked since last) = UnlinkedBy since last pass

-- The record is the pass's own, held as the pass knows, and has the words that the pass knows.
abbrev pub IsOwned : (pass : ℕ) → (core : Core) → (owned : Owned) → Type 0
IsOwned pass core owned = (core.fate owned.rec ≡ fate_of pass owned.holding) × (core.words owned.rec ≡ owned.words)

-- The pass has the lock of the node. The node is in the tree, and has the words that the pass knows.
abbrev pub IsLocked : (pass : ℕ) → (core : Core) → (lock : Locked) → Type 0
IsLocked pass core lock = (core.lock lock.node ≡ Some pass) × IsInTree core lock.node × (core.words (a_node lock.node) ≡ lock.words)

-- The pass has what it knows to be its own, and nothing more: records, locks of nodes in the tree, and the lock of the anchor. Each record
-- and node has the words that the pass knows, and the root the entry.
pub record HasAll (core : Core) (known : Known) : Type 0 where
  pub own : All (IsOwned known.pass core) known.own
  pub all_own : (rec : Rec) (holding : Holding) → core.fate rec ≡ fate_of known.pass holding →
      Contains known.own (record { rec = rec; holding = holding; words = core.words rec })
  pub locks : All (IsLocked known.pass core) known.locks
  pub all_locks : (number : ℕ) → core.lock number ≡ Some known.pass → IsInTree core number →
      Contains known.locks (record { node = number; words = core.words (a_node number) })
  pub anchor : (entry : Option Entry) → known.anchor ≡ Some entry → (core.anchor ≡ Some known.pass) × (core.root ≡ entry)
  pub all_anchor : core.anchor ≡ Some known.pass → known.anchor ≡ Some core.root
