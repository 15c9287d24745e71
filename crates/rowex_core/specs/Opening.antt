-- The core of a table that was just made.
use Rattle.std.specs.Prelude.{ℕ, List, set, replicate}
use Rattle.record_words.specs.declared.TheConstants.{EPOCH_WORD, ANCHOR_WORD}
use Rattle.record_words.specs.declared.layout.Layout.{Layout}
use Rattle.record_words.specs.declared.state.Tag.TheVariants.{Live}
use Rattle.record_words.specs.Layout.{word_count}
use Rattle.record_words.specs.State.{state_word}
use Rattle.versions.specs.Steps.{at_first}
use Rattle.rowex_core.specs.Cores.{Core, word_count_of}

-- The core of a new table with this layout. No pass has made a step, the index is empty, and all words of records are 0.
abbrev pub opening : Layout → Core
opening layout = record { layout = layout; words = λ rec. replicate (word_count_of rec) 0; shared = at_first }

-- The words of a new table with this layout. The epoch is 1, the anchor is live, and all other words are 0. So the root has no entry.
abbrev pub opening_words : Layout → List ℕ
opening_words layout = set (set (replicate (word_count layout) 0) EPOCH_WORD 1) ANCHOR_WORD (state_word Live)
