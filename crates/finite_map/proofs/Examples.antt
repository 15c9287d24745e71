-- Worked examples of the definitions, which compute.
use Rattle.finite_map.proofs.Common.{◌≡◌, ℕ, List, [], ◌∷◌, ◌++◌, true, refl, sym, subst, arith, IsTrue, IsStrictlySortedBy}
use Rattle.finite_map.specs.declared.Call.{Call}
use Rattle.finite_map.specs.declared.Call.TheVariants.{Insert, Upsert, Exchange, Add, Get, Remove, RemoveIf}
use Rattle.finite_map.specs.declared.Reply.{Reply}
use Rattle.finite_map.specs.declared.Reply.TheVariants.{Inserted, Exists, New, Was, Exchanged, Differs, Value, Absent, Removed}
use Rattle.finite_map.specs.declared.Kind.TheVariants.{Added, Replaced, Removed as TakenAway}
use Rattle.finite_map.specs.declared.Change.{Change}
use Rattle.finite_map.specs.declared.Note.{Note}
use Rattle.finite_map.specs.declared.Scan.{Scan}
use Rattle.finite_map.specs.Maps.{Map, replies_of, map_after_all}
use Rattle.finite_map.specs.Fronts.{map_of}
use Rattle.finite_map.specs.Calls.{changes_of, own_changes}
use Rattle.finite_map.specs.Weaves.{Event, answered, only, weave}
use Rattle.finite_map.specs.Scans.{range_of}
use Rattle.finite_map.specs.Reverse.{HasFallingKeys, IsReverseScanOf}

abbrev a : List ℕ
a = 97 ∷ []

abbrev b : List ℕ
b = 98 ∷ []

abbrev ab : List ℕ
ab = 97 ∷ 98 ∷ []

abbrev empty : List ℕ
empty = []

-- calls one after the other
abbrev calls : List Call
calls = Insert b 5 ∷ Insert b 6 ∷ Upsert a 7 ∷ Upsert a 8 ∷ Get b ∷ Upsert empty 1 ∷ Remove b ∷ Remove b ∷ Get b ∷ Insert ab 18446744073709551615 ∷ []

their_replies : replies_of [] calls ≡ Inserted ∷ Exists 5 ∷ New ∷ Was 7 ∷ Value 5 ∷ New ∷ Removed 5 ∷ Absent ∷ Absent ∷ Inserted ∷ []
their_replies = refl

-- calls that expect a value
abbrev expecting : List Call
expecting = Exchange a 1 2 ∷ Insert a 1 ∷ Exchange a 1 2 ∷ Exchange a 1 3 ∷ RemoveIf a 1 ∷ Get a ∷ RemoveIf a 2 ∷ RemoveIf a 2 ∷ []

replies_to_expecting : replies_of [] expecting ≡ Absent ∷ Inserted ∷ Exchanged ∷ Differs 2 ∷ Differs 2 ∷ Value 2 ∷ Removed 2 ∷ Absent ∷ []
replies_to_expecting = refl

-- calls that add: 2 ^ 64 - 1 and 2 make 1
abbrev adding : List Call
adding = Add a 1 ∷ Insert a 18446744073709551615 ∷ Add a 2 ∷ Add a 3 ∷ Get a ∷ []

replies_to_adding : replies_of [] adding ≡ Absent ∷ Inserted ∷ Was 18446744073709551615 ∷ Was 1 ∷ Value 4 ∷ []
replies_to_adding = refl

-- the keys are in the order of their bytes, a prefix first
abbrev three : Map
three = (empty, 1) ∷ (a, 8) ∷ (ab, 18446744073709551615) ∷ []

their_map : map_after_all [] calls ≡ three
their_map = refl

from_a : range_of three a b ≡ (a, 8) ∷ (ab, 18446744073709551615) ∷ []
from_a = refl

both_bounds_included : range_of three empty a ≡ (empty, 1) ∷ (a, 8) ∷ []
both_bounds_included = refl

-- the last two of a range, from its end downwards, with one more below
abbrev last_two : Scan → Type 0
last_two scan = (scan.pairs.items ≡ (ab, 18446744073709551615) ∷ (a, 8) ∷ []) × (scan.more ≡ true)

they_are_its_last : (scan : Scan) → last_two scan → IsReverseScanOf three empty ab 2 scan
they_are_its_last scan (pairs, more) = record { pairs = pairs; more = ((λ h. omega arith), (λ h. subst IsTrue (sym more) refl)) }

-- and they fall
they_fall : HasFallingKeys ((ab, 18446744073709551615) ∷ (a, 8) ∷ [])
unfolding IsStrictlySortedBy
they_fall = ((refl, tt), (tt, tt))

lower_above_upper : range_of three b a ≡ []
lower_above_upper = refl

-- pass 1 adds the key, pass 2 replaces its value, and pass 1 takes it away
abbrev front : List Change
front = record { pass = 1; key = a; value = 5; kind = Added } ∷ record { pass = 2; key = a; value = 6; kind = Replaced } ∷ record { pass = 1; key = a; value = 6; kind = TakenAway } ∷ []

its_map : map_of front ≡ []
its_map = refl

abbrev note : ℕ → Call → Reply → Note
note place call reply = record { place = place; call = call; reply = reply }

abbrev notes_of_1 : List Note
notes_of_1 = note 0 (Get a) Absent ∷ note 0 (Insert a 5) Inserted ∷ note 2 (Get a) (Value 6) ∷ note 2 (Remove a) (Removed 6) ∷ []

abbrev notes_of_3 : List Note
notes_of_3 = note 1 (Insert a 9) (Exists 5) ∷ note 2 (Get a) (Value 6) ∷ note 3 (Get a) Absent ∷ []

own_are_noted : own_changes 1 front ≡ changes_of 1 notes_of_1
own_are_noted = refl

-- pass 2's call is none of the notes, so its change stands alone
abbrev woven : List Event
woven = answered (Get a) Absent ∷ answered (Insert a 5) Inserted ∷ answered (Insert a 9) (Exists 5) ∷ only (record { pass = 2; key = a; value = 6; kind = Replaced })
    ∷ answered (Get a) (Value 6) ∷ answered (Get a) (Value 6) ∷ answered (Remove a) (Removed 6) ∷ answered (Get a) Absent ∷ []

their_weave : weave front (notes_of_1 ++ notes_of_3) ≡ woven
their_weave = refl
