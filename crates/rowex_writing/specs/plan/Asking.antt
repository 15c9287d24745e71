-- What a call asks for, by the value that its key was found to have.
use Rattle.std.specs.Prelude.{◌≡◌, ℕ, [], Option, Some, None, nat_eq, if◌then◌else◌}
use Rattle.finite_map.specs.declared.Call.{Call}
use Rattle.finite_map.specs.declared.Call.TheVariants.{Insert, Upsert, Exchange, Add, Get, Remove, RemoveIf}
use Rattle.finite_map.specs.declared.Reply.{Reply}
use Rattle.finite_map.specs.Maps.{step_where, wrapped_sum}
use Rattle.rowex_writing.specs.declared.plan.asking.Request.{Request}
use Rattle.rowex_writing.specs.declared.plan.Aim.{Aim}
use Rattle.rowex_writing.specs.declared.plan.Aim.TheVariants as aim

-- The value that a call gives its key, where `held` is the value that the key has, or none. If the call gives the key no value, this is 0.
abbrev pub value_in : (call : Call) → (held : Option ℕ) → ℕ
value_in (Insert key value) held = value
value_in (Upsert key value) held = value
value_in (Exchange key expected value) held = value
value_in (Add key delta) (Some had) = wrapped_sum had delta
value_in call held = 0

-- the aim, if the key was found with the expected value; else none, also if it was found absent
abbrev pub aim_where : (expected : ℕ) → (found : Option ℕ) → (aim : Aim) → Option Aim
aim_where expected None aim = None
aim_where expected (Some held) aim = if nat_eq held expected then Some aim else None

-- What a call aims at, where `held` is the value that its key has, or none. An exchange and an addition aim at an upsert, and a conditional
-- removal at a removal. A get has no aim, nor an addition to an absent key, nor a call whose expected value isn't `held`.
abbrev pub aim_of : (call : Call) → (held : Option ℕ) → Option Aim
aim_of (Insert key value) held = Some aim.Insert
aim_of (Upsert key value) held = Some aim.Upsert
aim_of (Exchange key expected value) held = aim_where expected held aim.Upsert
aim_of (Add key delta) None = None
aim_of (Add key delta) (Some had) = Some aim.Upsert
aim_of (Get key) held = None
aim_of (Remove key) held = Some aim.Remove
aim_of (RemoveIf key expected) held = aim_where expected held aim.Remove

-- The request has the call's aim, which isn't none, and the value that the call gives its key. `held` is the value that the key has, or
-- none.
abbrev pub IsRequest : (call : Call) → (held : Option ℕ) → (request : Request) → Type 0
IsRequest call held request = (aim_of call held ≡ Some request.aim) × (request.value ≡ value_in call held)

-- the map's reply to a call, by the value that its key has, or none
abbrev pub reply_to : (call : Call) → (held : Option ℕ) → Reply
reply_to call held = (step_where held [] call).1
