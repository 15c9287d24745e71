-- Pairs of a scan as a program in C has them: in an array, or one at a place of its own.
use Rattle.std.specs.Prelude.{◌≡◌, ℕ, List, length, take, drop, slice_get, Option, Some, None}
use Rattle.hot_c.specs.declared.pairs.Pair.{Pair}
use Rattle.hot_c.specs.declared.status.TheConstants.{ABSENT, FOUND}

-- C's pair, which was `before` and is `after`, now holds this key with this value. Its first bytes are the key's. The bytes behind the key
-- are as they were.
pub record HoldsPair (pair : List ℕ × ℕ) (before after : Pair) : Type 0 where
  pub key : take (length pair.0) after.key ≡ pair.0
  pub behind : drop (length pair.0) after.key ≡ drop (length pair.0) before.key
  pub count : after.length ≡ length pair.0
  pub value : after.value ≡ pair.1

-- The pair at this place of C's array, which was `before`, becomes `becomes`: it holds this key with this value.
abbrev pub BecomesAt : (before : List Pair) (place : ℕ) (pair : List ℕ × ℕ) (becomes : Pair) → Type 0
BecomesAt before place pair becomes = (was : Pair) × (slice_get before place ≡ Some was) × HoldsPair pair was becomes

-- C's array, which was `before` and is `after`, now begins with pairs of C that hold these keys and values.
abbrev pub HoldPairs : (pairs : List (List ℕ × ℕ)) (before after : List Pair) → Type 0
HoldPairs pairs before after =
    (place : ℕ) (pair : List ℕ × ℕ) → slice_get pairs place ≡ Some pair →
    (becomes : Pair) × (slice_get after place ≡ Some becomes) × BecomesAt before place pair becomes

-- The status tells whether a pair was found. If one was, C's pair holds it. Else C's pair is as it was.
abbrev pub IsPairTold : (found : Option (List ℕ × ℕ)) (before after : Pair) (status : ℕ) → Type 0
IsPairTold None before after status = (status ≡ ABSENT) × (after ≡ before)
IsPairTold (Some pair) before after status = (status ≡ FOUND) × HoldsPair pair before after
