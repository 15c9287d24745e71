-- What look-ups of many keys by one call tell a program in C.
use Rattle.std.specs.Prelude.{◌≡◌, ◌⊎◌, ℕ, All, List, [], ◌∷◌, length, map, Option, Some, None, IsSome}
use Rattle.hot_index_calls.specs.Many.{AreNoted, HasMadeGetManySteps, gets}
use Rattle.hot_index_calls.specs.Traces.{untold}
use Rattle.hot_c.specs.Calls.{FitsInKey, StaysOpen}
use Rattle.hot_c.specs.declared.lookups.Lookup.{Lookup}
use Rattle.hot_c.specs.declared.opened.Opened.{Opened}
use Rattle.hot_c.specs.declared.status.TheConstants.{ABSENT, CLOSED, DONE, FOUND, KEY_TOO_LONG, NO_MEMORY}

-- the key of the look-up
abbrev pub key_in : Lookup → List ℕ
key_in lookup = lookup.key.now

-- The look-up with what was found for it. Its status and value tell a value that was found. If none was, the status says so, and the value
-- stays.
abbrev pub answer : (lookup : Lookup) (found : Option ℕ) → Lookup
answer lookup None = record lookup { status = ABSENT }
answer lookup (Some value) = record lookup { value = value; status = FOUND }

-- The look-ups, each with what was found for it, which its status and value tell. If fewer were found than looked up, the rest are as they
-- were.
abbrev pub are_answered : (lookups : List Lookup) (found : List (Option ℕ)) → List Lookup
are_answered [] found = []
are_answered (lookup ∷ lookups) [] = lookup ∷ lookups
are_answered (lookup ∷ lookups) (value ∷ found) = answer lookup value ∷ are_answered lookups found

-- Many keys are looked up through a handle. If the handle is closed or a key too long, the status says so, and nothing has changed. Else
-- all keys are looked up by one call of the index, and each look-up tells what was found. Or memory is refused, and nothing has changed.
-- The number of steps is bounded.
pub record LooksUpAll (old new : Option Opened) (before after : List Lookup) (status : ℕ) : Type 0 where
  pub closed : old ≡ None → (status ≡ CLOSED) × (new ≡ old) × (after ≡ before)
  pub long : IsSome old → ¬ All (λ lookup. FitsInKey (key_in lookup)) before → (status ≡ KEY_TOO_LONG) × (new ≡ old) × (after ≡ before)
  pub made : IsSome old → All (λ lookup. FitsInKey (key_in lookup)) before →
      ((status ≡ DONE) × (found : List (Option ℕ)) × (length found ≡ length before) ×
      StaysOpen (λ index was now. AreNoted index.layout was now (gets (map key_in before) found)
      × HasMadeGetManySteps index untold (length before) (was, tt) (now, tt)) old new × (after ≡ are_answered before found))
      ⊎ ((status ≡ NO_MEMORY) × (new ≡ old) × (after ≡ before))
