-- At which place among the changes that its pass has seen an answered call stands.
use Rattle.std.specs.Prelude.{ℕ, zero, suc, ◌+◌, ◌-◌, List, [], ◌∷◌, length, take, Bool, true, false, is_some, nat_eq, if◌then◌else◌, Result, Ok, Err}
use Rattle.finite_map.specs.declared.Call.{Call}
use Rattle.finite_map.specs.declared.Change.{Change}
use Rattle.finite_map.specs.declared.Note.{Note}
use Rattle.finite_map.specs.declared.Reply.{Reply}
use Rattle.finite_map.specs.declared.Reply.TheVariants.{Inserted, Exists, New, Was, Exchanged, Differs, Value, Absent, Removed}
use Rattle.finite_map.specs.Calls.{effect_of}
use Rattle.finite_map.specs.Maps.{reply_of}
use Rattle.finite_map.specs.Fronts.{map_of}
use Rattle.rowex_core.specs.declared.known.Known.{Known}
use Rattle.rowex_reading.specs.Seen.{since}

-- whether two replies are the same, with the same value if they have one
abbrev pub same_reply : Reply → Reply → Bool
same_reply Inserted Inserted = true
same_reply (Exists value) (Exists other) = nat_eq value other
same_reply New New = true
same_reply (Was value) (Was other) = nat_eq value other
same_reply Exchanged Exchanged = true
same_reply (Differs value) (Differs other) = nat_eq value other
same_reply (Value value) (Value other) = nat_eq value other
same_reply Absent Absent = true
same_reply (Removed value) (Removed other) = nat_eq value other
same_reply _ _ = false

-- The first number that passes the test, from `low` up to, but without, `low + more`. If none does, it is `low + more`, which is not
-- tested.
abbrev pub first_from : (test : ℕ → Bool) (low more : ℕ) → ℕ
first_from test low zero = low
first_from test low (suc more) = if test low then low else first_from test (low + 1) more

-- whether the call has this reply on the map of the first `count` changes of the front
abbrev pub answers_so : (front : List Change) (call : Call) (reply : Reply) (count : ℕ) → Bool
answers_so front call reply count = same_reply (reply_of (map_of (take count front)) call) reply

-- The first place from `low` on at which the front's map has this reply to the call. It is the end of the front if no earlier place has.
unfoldable pub place_of : (front : List Change) (low : ℕ) (call : Call) (reply : Reply) → ℕ
place_of front low call reply = first_from (answers_so front call reply) low (length front - low)

-- The place of an answered call, by what its pass knows at the call's end. A call that changed the map stands at its own change, the last
-- that the pass has seen. Any other stands at the first place at which the map has the reply, from the pass's last load of the root on.
abbrev pub place_by : (changed : Bool) (call : Call) (reply : Reply) (known : Known) → ℕ
place_by true call reply known = length known.front - 1
place_by false call reply known = place_of known.front (since known) call reply

-- the note of a call that may change the map, as a list; none if the call was refused
abbrev pub change_notes : {F : Type 0} → (call : Call) (result : Result Reply F) (known : Known) → List Note
change_notes call (Ok reply) known = record { place = place_by (is_some (effect_of call reply)) call reply known; call = call; reply = reply } ∷ []
change_notes call (Err fault) known = []
