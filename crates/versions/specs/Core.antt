-- The whole core: what passes share between two steps, and what holds of epochs.
use Rattle.versions.specs.declared.Pin.{Pin}
use Rattle.versions.specs.declared.Round.{Round}
use Rattle.std.specs.Prelude.{◌≡◌, ◌⊎◌, ℕ, ◌<◌, ◌≤◌, List, [], ◌∷◌, Option, Some, None, Bool, true, false, if◌then◌else◌, nat_eq}
use Rattle.finite_map.specs.declared.Change.{Change}
use Rattle.compound_node.specs.declared.entries.Entry.{Entry}
use Rattle.versions.specs.Heap.{Heap}
use Rattle.versions.specs.State.{Life, Out, Linked, Retired, Past, State}
use Rattle.record_words.specs.declared.records.Rec.{Rec}

-- What has become of a record. It is free, or held by a pass that fills it, or ready for that pass to link it. It is in the tree since a
-- version. Or it was unlinked by a pass, with `last` as its last version. Or it is marked with an epoch, until it is given back.
pub data Fate : Type 0 where
  Free : Fate
  Held : (by : ℕ) → Fate
  Ready : (by : ℕ) → Fate
  InTree : (since : ℕ) → Fate
  Unlinked : (since last by : ℕ) → Fate
  Marked : (since last epoch : ℕ) → Fate

-- the life of a record with this fate
abbrev pub life_of : Fate → Life
life_of Free = Out
life_of (Held by) = Out
life_of (Ready by) = Out
life_of (InTree since) = Linked since
life_of (Unlinked since last by) = Retired since last
life_of (Marked since last epoch) = Retired since last

-- whether the pass is among those whose pins a round has loaded
abbrev pub has_seen : (seen : List ℕ) → (pass : ℕ) → Bool
has_seen [] pass = false
has_seen (first ∷ others) pass = if nat_eq pass first then true else has_seen others pass

-- What passes share, but for the words of records: the root's entry, the versions, the changes, and each record's fate. Further, which pass
-- has locked the anchor, and which each node; the epoch; and each pass's pin and round.
pub record Shared : Type 0 where
  pub root : Option Entry
  pub past : Past
  pub changes : List Change
  pub fate : Rec → Fate
  pub anchor : Option ℕ
  pub lock : ℕ → Option ℕ
  pub epoch : ℕ
  pub pins : ℕ → Option Pin
  pub rounds : ℕ → Round

-- What passes share, with what the words of records say.
pub record BareCore : Type 0 where
  pub heap : Heap
  pub shared : Shared
  pub open shared use *

-- the version in which the pin was set, or none if the pass is not pinned
abbrev pub pin_version : Option Pin → Option ℕ
pin_version None = None
pin_version (Some pin) = Some pin.version

-- The core as the laws of versions see it, without changes, locks, the epoch and rounds. It has a life in place of each fate, and of each
-- pin the version alone.
abbrev pub view : BareCore → State
view core =
    record { heap = core.heap; root = core.root; past = core.past; life = λ r. life_of (core.fate r); pin = λ pass. pin_version (core.pins pass) }

-- What holds of epochs, so that no record that a pinned pass may still reach is given back. A pin has three parts. Its word is an epoch
-- that was loaded before. Its floor and its version are the epoch and the newest version when it was set.
pub record HasLawfulEpochs (shared : Shared) : Type 0 where
  -- the parts of a pin are in order, and none is ahead of the present
  pub floors : (pass : ℕ) (pin : Pin) → shared.pins pass ≡ Some pin → (pin.word ≤ pin.floor) × (pin.floor ≤ shared.epoch) ×
      (pin.version ≤ shared.past.now)
  -- the parts of a round are in order, and none is ahead of the present
  pub loads : (pass : ℕ) → ((shared.rounds pass).epoch ≤ shared.epoch) × ((shared.rounds pass).version ≤ shared.past.now) ×
      ((shared.rounds pass).bound ≤ (shared.rounds pass).epoch)
  -- a pin's floor is no greater than the epoch that a round has loaded, or its version is no earlier than the round's
  pub after : (pass other : ℕ) (pin : Pin) → shared.pins pass ≡ Some pin → (pin.floor ≤ (shared.rounds other).epoch) ⊎
      ((shared.rounds other).version ≤ pin.version)
  -- a marked record's epoch is no less than a pin's floor, or its last version is before the pin's version
  pub marks : (rec : Rec) (since last epoch : ℕ) → shared.fate rec ≡ Marked since last epoch → (pass : ℕ) (pin : Pin) → shared.pins pass ≡ Some pin →
      (pin.floor ≤ epoch) ⊎
      (last < pin.version)
  -- the bound of a round that has loaded a pin is no greater than the pin's floor
  pub bounds : (pass other : ℕ) (pin : Pin) → shared.pins pass ≡ Some pin → has_seen (shared.rounds other).seen pass ≡ true →
      (shared.rounds other).bound ≤ pin.floor
