-- What look-ups of many keys by one call say.
use Rattle.std.specs.Prelude.{◌≡◌, ℕ, ◌+◌, ◌*◌, ◌≤◌, All, List, [], ◌∷◌, ◌++◌, length, map, IsPermutation, Option}
use Rattle.key_bits.specs.declared.TheConstants.{MAX_BYTES}
use Rattle.finite_map.specs.declared.Call.{Call}
use Rattle.finite_map.specs.declared.Call.TheVariants.{Get}
use Rattle.finite_map.specs.declared.Note.{Note}
use Rattle.finite_map.specs.declared.Reply.{Reply}
use Rattle.finite_map.specs.Calls.{LegalCalls}
use Rattle.record_words.specs.declared.layout.Layout.{Layout}
use Rattle.rowex_core.specs.declared.event.Event.{Event}
use Rattle.rowex_reading.specs.Reads.{entries_in}
use Rattle.rowex_table.specs.Runs.{entry_touches}
use Rattle.rowex_table.specs.Seats.{TableView}
use Rattle.tries.specs.Keys.{Key}
use Rattle.hot_index_calls.specs.Answers.{GoesOn, got}
use Rattle.hot_index_calls.specs.Passes.{PassView}
use Rattle.hot_index_calls.specs.Traces.{HasRead}

-- the gets of these keys, each with the reply that says what the get found; a key without an answer is left out
abbrev pub gets : (keys : List Key) (found : List (Option ℕ)) → List (Call × Reply)
gets [] found = []
gets (key ∷ keys) [] = []
gets (key ∷ keys) (value ∷ found) = (Get key, got value) ∷ gets keys found

-- The calls were answered with these replies, and each is noted once, in some order, behind the notes from before. All calls of the pass
-- are legal. The place of each new note is no lower than the number of changes that the last load of the root showed.
pub record AreNoted (layout : Layout) (old new : PassView) (calls : List (Call × Reply)) : Type 0 where
  pub on : GoesOn layout old new
  pub added : List Note
  pub notes : new.notes ≡ old.notes ++ added
  pub calls_are : IsPermutation calls (map (λ note. (note.call, note.reply)) added)
  pub low : All (λ note. length new.fresh.front ≤ note.place) added
  pub legal : LegalCalls new.front new.number new.notes

-- The steps of one call that looks up `count` keys. It loads the root once, and one entry in each node on the path of a key, at most 2,160
-- for each key. It makes at most 26 steps for each entry, 32 for each key, and 4 others: two that set the pin, the root, and one that
-- clears the pin. It touches at most eleven words for each entry.
pub record HasMadeGetManySteps {G : Type 0} (index : TableView) (becomes : G → Event → G → Type 0) (count : ℕ) (old new : PassView × G) : Type 0 where
  pub read : HasRead index becomes old new
  pub depth : entries_in read.loads ≤ count * (9 * MAX_BYTES)
  pub few : new.0.steps ≤ old.0.steps + 4 + 32 * count + 26 * entries_in read.loads
  pub touched : new.0.touches ≤ old.0.touches + entry_touches * entries_in read.loads
