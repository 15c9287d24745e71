-- How many keys the calls of passes have put in and taken out.
use Rattle.std.specs.Prelude.{◌≡◌, ℕ, ◌+◌, ◌*◌, ◌-◌, ◌^◌, ◌<◌, List, [], ◌∷◌, ◌++◌, length, slice_get, sum_by, All, Some, Result, MatchResult}
use Rattle.finite_map.specs.declared.Call.{Call}
use Rattle.finite_map.specs.declared.Reply.{Reply}
use Rattle.finite_map.specs.declared.Reply.TheVariants.{Inserted, New, Removed}
use Rattle.finite_map.specs.declared.Kind.{Kind}
use Rattle.finite_map.specs.declared.Kind.TheVariants.{Added, Replaced, Removed as TakenAway}
use Rattle.finite_map.specs.declared.Change.{Change}
use Rattle.finite_map.specs.declared.Note.{Note}
use Rattle.finite_map.specs.Maps.{Map, reply_of}
use Rattle.finite_map.specs.Fronts.{LegalFront}
use Rattle.finite_map.specs.Calls.{LegalCalls, changes_of}
use Rattle.hot_index.specs.declared.key_counts.KeyCount.{KeyCount}

-- how many keys a change of this kind adds to the map: 1 or 0
abbrev pub puts_of : Kind → ℕ
puts_of Added = 1
puts_of Replaced = 0
puts_of TakenAway = 0

-- how many keys a change of this kind takes from the map: 1 or 0
abbrev pub takes_of : Kind → ℕ
takes_of Added = 0
takes_of Replaced = 0
takes_of TakenAway = 1

-- how many keys the change adds to the map: 1 or 0
abbrev pub puts : Change → ℕ
puts change = puts_of change.kind

-- how many keys the change takes from the map: 1 or 0
abbrev pub takes : Change → ℕ
takes change = takes_of change.kind

-- `net` is `more` less `less`, modulo 2^64. A multiple of 2^64 stands on either side, since no number is negative.
abbrev pub IsDifference : (more less net : ℕ) → Type 0
IsDifference more less net = (left : ℕ) × (right : ℕ) × (net + less + left * 2 ^ 64 ≡ more + right * 2 ^ 64)

-- `net` is how many keys these changes add to the map, less how many they take from it, modulo 2^64
abbrev pub IsNet : (changes : List Change) (net : ℕ) → Type 0
IsNet changes net = IsDifference (sum_by puts changes) (sum_by takes changes) net

-- The count is how many keys the changes of the pass add to the map, less how many they take, modulo 2^64. The pass's notes tell these
-- changes.
abbrev pub IsCountOf : (pass : ℕ) (notes : List Note) (count : KeyCount) → Type 0
IsCountOf pass notes count = IsNet (changes_of pass notes) count.keys

-- some map gives this reply to the call
abbrev pub MayReply : (call : Call) (reply : Reply) → Type 0
MayReply call reply = (pairs : Map) × (reply ≡ reply_of pairs call)

-- From `old` to `new` one call with this reply is counted. If `old` was the count of some notes of a pass, `new` is that of these notes and
-- one more. The one more has this reply, any place, and any call to which some map gives this reply.
abbrev pub CountsReply : (reply : Reply) (old new : KeyCount) → Type 0
CountsReply reply old new = (pass place : ℕ) (notes : List Note) (call : Call) → MayReply call reply → IsCountOf pass notes old →
    IsCountOf pass (notes ++ record { place = place; call = call; reply = reply } ∷ []) new

-- From `old` to `new` a call with this result is counted. If the call was answered, its reply is counted. If it was refused, the count
-- stays the same.
abbrev pub CountsAnswer : {F : Type 0} → (answer : Result Reply F) (old new : KeyCount) → Type 0
CountsAnswer answer old new = MatchResult answer (λ reply. CountsReply reply old new) (λ fault. new ≡ old)

-- How many keys a call with this reply adds to the map, less how many it takes, modulo 2^64. One taken counts as 2^64 - 1, which stands for
-- -1.
abbrev pub net_of : Reply → ℕ
net_of Inserted = 1
net_of New = 1
net_of (Removed held) = 2 ^ 64 - 1
net_of _ = 0

-- The counts are those of passes 0, 1 and so on, among which are all that made the changes of the front. The front is legal. Each count is
-- that of some notes of its pass, which are legal in the front. So the counts add up to the number of keys.
pub record AreCounts (front : List Change) (counts : List KeyCount) : Type 0 where
  pub legal : LegalFront front
  pub makers : All (λ change. change.pass < length counts) front
  pub each : (pass : ℕ) (count : KeyCount) → slice_get counts pass ≡ Some count → (notes : List Note) × LegalCalls front pass notes ×
      IsCountOf pass notes count
