-- What the calls `hot_after` and `hot_before` tell a program in C: the key after another one, or before it.
use Rattle.std.specs.Prelude.{◌≡◌, ℕ, List, [], take, length, Option, Some, None, IfSome}
use Rattle.key_ranges.specs.Ranges.{IsNextKey, IsPreviousKey, NoKeyAbove}
use Rattle.hot_c.specs.Calls.{FitsInKey}
use Rattle.hot_c.specs.declared.around.KeyRoom.{KeyRoom}
use Rattle.hot_c.specs.declared.status.TheConstants.{ABSENT, DONE, KEY_TOO_LONG}

-- The status tells whether a key was found. If so (`DONE`), C's room begins with the key, and C's number, which was `old`, is the key's
-- length `new`. Else (`ABSENT`) both are as they were.
abbrev pub IsKeyTold : (found : Option (List ℕ)) (before : KeyRoom) (old : ℕ) (after : KeyRoom) (new status : ℕ) → Type 0
IsKeyTold None before old after new status = (status ≡ ABSENT) × (after ≡ before) × (new ≡ old)
IsKeyTold (Some key) before old after new status = (status ≡ DONE) × (take new after.bytes ≡ key) × (new ≡ length key)

-- The call tells the least key above `key`, or that there is none: that is only so of the greatest key. If `key` is too long, the status
-- says so, and nothing has changed.
pub record TellsAfter (key : List ℕ) (before : KeyRoom) (old : ℕ) (after : KeyRoom) (new status : ℕ) : Type 0 where
  pub long : ¬ FitsInKey key → (status ≡ KEY_TOO_LONG) × (after ≡ before) × (new ≡ old)
  pub told : FitsInKey key → (found : Option (List ℕ)) × IsKeyTold found before old after new status ×
      IfSome found (IsNextKey key) × (found ≡ None → NoKeyAbove key)

-- The call tells the greatest key below `key`, or that there is none: that is only so of the empty key. If `key` is too long, the status
-- says so, and nothing has changed.
pub record TellsBefore (key : List ℕ) (before : KeyRoom) (old : ℕ) (after : KeyRoom) (new status : ℕ) : Type 0 where
  pub long : ¬ FitsInKey key → (status ≡ KEY_TOO_LONG) × (after ≡ before) × (new ≡ old)
  pub told : FitsInKey key → (found : Option (List ℕ)) × IsKeyTold found before old after new status ×
      IfSome found (IsPreviousKey key) × (found ≡ None → key ≡ [])
