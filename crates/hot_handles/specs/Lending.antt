-- What becomes of a holder while its value is lent, and after.
use Rattle.std.specs.Prelude.{Some}
use Rattle.std.specs.Borrow.{Lends, MutBor, Fml}
use denote.RattleType.{RattleType}
use Rattle.hot_handles.specs.declared.held.Held.{Held}
use Rattle.hot_handles.specs.contracts.held.Held.{the_row}

-- the holder, with this value in it
abbrev pub with_held : {T : Type 0} → (held : Held T) (value : T) → Held T
with_held held value = record held { value = Some value }

-- The value of a holder was lent. The holder ends with the last value behind the reference `value`.
abbrev pub LendsHeld : (R : RattleType) (held : MutBor (Held R.Denot)) (value : MutBor R.Denot) → Fml
LendsHeld R held value = Lends (the_row R) R held value (with_held held.now)
