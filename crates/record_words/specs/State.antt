-- State words.
use Rattle.std.specs.Prelude.{ℕ, ◌+◌, ◌*◌, ◌<◌, ◌≤◌}
use Rattle.record_words.specs.declared.state.Tag.{Tag}
use Rattle.record_words.specs.declared.state.Tag.TheVariants.{Free, Held, Live, Locked, Obsolete}
use Rattle.record_words.specs.declared.TheConstants.{EPOCHS}

-- The state has a word. Only an epoch is bounded: it is from 1 to EPOCHS - 1.
abbrev pub HasStateWord : Tag → Type 0
HasStateWord Free = Unit {0}
HasStateWord Held = Unit {0}
HasStateWord Live = Unit {0}
HasStateWord Locked = Unit {0}
HasStateWord (Obsolete epoch) = (1 ≤ epoch) × (epoch < EPOCHS)

-- the word of a state; the lowest three bits tell an epoch from the other states
abbrev pub state_word : Tag → ℕ
state_word Free = 0
state_word Held = 1
state_word Live = 2
state_word Locked = 3
state_word (Obsolete epoch) = 8 * epoch + 4
