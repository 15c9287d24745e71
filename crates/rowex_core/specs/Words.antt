-- The words that show a core.
use Rattle.std.specs.Prelude.{◌≡◌, ℕ, List, length, get_or, Option, Some, None, suc, zero}
use Rattle.record_words.specs.declared.TheConstants.{NO_PIN}
use Rattle.record_words.specs.declared.layout.Location.{Location}
use Rattle.record_words.specs.declared.layout.Location.TheVariants.{Epoch, Root, Anchor, Pin as PinOf, NodeWord, LeafWord}
use Rattle.record_words.specs.declared.state.Tag.{Tag}
use Rattle.record_words.specs.declared.state.Tag.TheVariants.{Free as FreeTag, Held as HeldTag, Live, Locked, Obsolete}
use Rattle.record_words.specs.Layout.{address, word_count, IsInTable}
use Rattle.record_words.specs.State.{state_word}
use Rattle.record_words.specs.Entry.{entry_word}
use Rattle.record_words.specs.declared.records.Rec.{Rec}
use Rattle.record_words.specs.declared.records.Rec.TheVariants.{Node as a_node, Leaf as a_leaf}
use Rattle.versions.specs.declared.Pin.{Pin}
use Rattle.versions.specs.Core.{Fate, Free, Held, Ready, InTree, Unlinked, Marked}
use Rattle.rowex_core.specs.Cores.{Core}

-- What a state word says where a lock may be: locked if a pass has the lock, and else live. That is the anchor's word, and that of a record
-- that is ready, linked or unlinked.
abbrev pub lock_tag : Option ℕ → Tag
lock_tag None = Live
lock_tag (Some pass) = Locked

-- What the state word says of a record of this fate. `lock` is the pass that has locked the record, if one has. A record that is ready, in
-- the tree or unlinked is live or locked, since a publish changes no state word.
abbrev pub tag_of : Option ℕ → Fate → Tag
tag_of lock Free = FreeTag
tag_of lock (Held pass) = HeldTag
tag_of lock (Ready pass) = lock_tag lock
tag_of lock (InTree since) = lock_tag lock
tag_of lock (Unlinked since last pass) = lock_tag lock
tag_of lock (Marked since last epoch) = Obsolete epoch

-- The pass that has locked the record, if one has. A leaf is never locked: its value stands under the lock of what names it.
abbrev pub lock_of : Core → Rec → Option ℕ
lock_of core (a_node number) = core.lock number
lock_of core (a_leaf number) = None

-- the state word of a record
abbrev pub state_at : Core → Rec → ℕ
state_at core rec = state_word (tag_of (lock_of core rec) (core.fate rec))

-- the word of a pin; NO_PIN where there is none
abbrev pub pin_word : Option Pin → ℕ
pin_word None = NO_PIN
pin_word (Some pin) = pin.word

-- The word of a record at an offset: its state at offset 0, then the words that the core has. Behind these it is 0.
abbrev pub record_word : (core : Core) → (rec : Rec) → (offset : ℕ) → ℕ
record_word core rec zero = state_at core rec
record_word core rec (suc offset) = get_or (core.words rec) offset 0

-- The word that stands at a location: the epoch, the root's entry, the anchor's state, a pin, or a word of a record.
abbrev pub word_at : Core → Location → ℕ
word_at core Epoch = core.epoch
word_at core Root = entry_word core.root
word_at core Anchor = state_word (lock_tag core.anchor)
word_at core (PinOf pass) = pin_word (core.pins pass)
word_at core (NodeWord number offset) = record_word core (a_node number) offset
word_at core (LeafWord number offset) = record_word core (a_leaf number) offset

-- The table's words show the core. There are as many as the layout asks for. At each location of the table stands the word that the core
-- has there.
pub record Shows (core : Core) (words : List ℕ) : Type 0 where
  pub size : length words ≡ word_count core.layout
  pub each : (location : Location) → IsInTable core.layout location → get_or words (address core.layout location) 0 ≡ word_at core location
