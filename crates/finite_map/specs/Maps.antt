-- A finite map from keys to numbers, and what one call makes of it.
use Rattle.std.specs.Prelude.{◌≡◌, ℕ, ◌+◌, ◌%◌, ◌^◌, List, [], ◌∷◌, fold, Bool, true, false, nat_eq, Option, Some, None}
use Rattle.std.specs.declared.cmp.Ordering.{Ordering}
use Rattle.std.specs.Ordering.{nat_cmp}
use Rattle.std.specs.Cmp.Lexicographic.{slice_cmp}
use Rattle.std.specs.List.Sorted.{IsStrictlySortedBy}
use Rattle.std.specs.Map.{keys_of, lookup, remove_entry}
use Rattle.std.specs.BTreeMap.{insert_entry, is_at}
use Rattle.finite_map.specs.declared.Call.{Call}
use Rattle.finite_map.specs.declared.Call.TheVariants.{Insert, Upsert, Exchange, Add, Get, Remove, RemoveIf}
use Rattle.finite_map.specs.declared.Reply.{Reply}
use Rattle.finite_map.specs.declared.Reply.TheVariants.{Inserted, Exists, New, Was, Exchanged, Differs, Value, Absent, Removed}

-- the order of keys: byte by byte as by `memcmp`, where a key that another one begins with comes first
abbrev pub key_order : (first second : List ℕ) → Ordering
key_order = slice_cmp nat_cmp

-- a map as the list of its keys with their values; that they stand in the order of the keys, `IsRising` says
abbrev pub Map : Type 0
Map = List (List ℕ × ℕ)

-- each key is below those after it, as in every map that calls or changes make of the empty map
abbrev pub IsRising : Map → Type 0
IsRising pairs = IsStrictlySortedBy key_order (keys_of pairs)

-- the value that the map holds for the key; none if the key is absent
abbrev pub value_at : Map → List ℕ → Option ℕ
value_at pairs key = lookup (is_at (key_order key)) pairs

-- the map in which the key has the value, and all other keys what they have in `pairs`
abbrev pub with_value : (pairs : Map) → (key : List ℕ) → (value : ℕ) → Map
with_value pairs key value = insert_entry key_order pairs key value

-- the map in which the key is absent, and all other keys have what they have in the map
abbrev pub without : Map → List ℕ → Map
without pairs key = remove_entry (is_at (key_order key)) pairs

-- the key that a call is about
abbrev pub key_of : Call → List ℕ
key_of (Insert key value) = key
key_of (Upsert key value) = key
key_of (Exchange key expected value) = key
key_of (Add key delta) = key
key_of (Get key) = key
key_of (Remove key) = key
key_of (RemoveIf key expected) = key

-- the sum of a held value and the number that is added, modulo 2^64
abbrev pub wrapped_sum : (held delta : ℕ) → ℕ
wrapped_sum held delta = (held + delta) % 2 ^ 64

-- The map after a call that acts only if its key has an expected value, and its reply. If the key has that value (`is_expected`), they are
-- those of the pair `expected`. Else the map stays, and the reply tells the value `held` that the key has.
abbrev pub step_if : (is_expected : Bool) → (pairs : Map) → (held : ℕ) → (expected : Map × Reply) → Map × Reply
step_if true pairs held expected = expected
step_if false pairs held expected = (pairs, Differs held)

-- what a call makes of a map that holds the value `held` for the call's key, or none: the map after it, and the reply
abbrev pub step_where : (held : Option ℕ) → (pairs : Map) → (call : Call) → Map × Reply
step_where None pairs (Insert key value) = (with_value pairs key value, Inserted)
step_where (Some held) pairs (Insert key value) = (pairs, Exists held)
step_where None pairs (Upsert key value) = (with_value pairs key value, New)
step_where (Some held) pairs (Upsert key value) = (with_value pairs key value, Was held)
step_where None pairs (Exchange key expected value) = (pairs, Absent)
step_where (Some held) pairs (Exchange key expected value) = step_if (nat_eq held expected) pairs held (with_value pairs key value, Exchanged)
step_where None pairs (Add key delta) = (pairs, Absent)
step_where (Some held) pairs (Add key delta) = (with_value pairs key (wrapped_sum held delta), Was held)
step_where None pairs (Get key) = (pairs, Absent)
step_where (Some held) pairs (Get key) = (pairs, Value held)
step_where None pairs (Remove key) = (pairs, Absent)
step_where (Some held) pairs (Remove key) = (without pairs key, Removed held)
step_where None pairs (RemoveIf key expected) = (pairs, Absent)
step_where (Some held) pairs (RemoveIf key expected) = step_if (nat_eq held expected) pairs held (without pairs key, Removed held)

-- what one call makes of a map: the map after it, and the reply
abbrev pub step : Map → Call → Map × Reply
step pairs call = step_where (value_at pairs (key_of call)) pairs call

-- the map after a call
abbrev pub map_after : Map → Call → Map
map_after pairs call = (step pairs call).0

-- what a call returns on a map
abbrev pub reply_of : Map → Call → Reply
reply_of pairs call = (step pairs call).1

-- the replies of calls that are made one after the other, the first on the map `pairs`
abbrev pub replies_of : Map → List Call → List Reply
replies_of pairs [] = []
replies_of pairs (call ∷ calls) = reply_of pairs call ∷ replies_of (map_after pairs call) calls

-- the map after calls that are made one after the other, the first on the map `pairs`
abbrev pub map_after_all : Map → List Call → Map
map_after_all pairs calls = fold map_after pairs calls

-- the call adds a key to the map: it is an insertion or an upsert, and its key is absent
abbrev pub AddsKey : Map → Call → Type 0
AddsKey pairs (Insert key value) = value_at pairs key ≡ None
AddsKey pairs (Upsert key value) = value_at pairs key ≡ None
AddsKey pairs (Exchange key expected value) = ⊥
AddsKey pairs (Add key delta) = ⊥
AddsKey pairs (Get key) = ⊥
AddsKey pairs (Remove key) = ⊥
AddsKey pairs (RemoveIf key expected) = ⊥
