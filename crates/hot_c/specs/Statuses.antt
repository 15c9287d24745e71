-- Which status tells a reply, and what becomes of C's value.
use Rattle.std.specs.Prelude.{ℕ, Result, Ok}
use Rattle.finite_map.specs.declared.Reply.{Reply}
use Rattle.finite_map.specs.declared.Reply.TheVariants.{Inserted, Exists, New, Was, Exchanged, Differs, Value, Absent, Removed}
use Rattle.hot_index_calls.specs.declared.refusals.Refusal.{Refusal}
use Rattle.hot_c.specs.declared.status.TheConstants.{FOUND, ABSENT, INSERTED, EXISTS, NEW, WAS, EXCHANGED, DIFFERS, REMOVED}

-- the status that tells this reply
abbrev pub reply_status : Reply → ℕ
reply_status (Value value) = FOUND
reply_status Absent = ABSENT
reply_status Inserted = INSERTED
reply_status (Exists value) = EXISTS
reply_status New = NEW
reply_status (Was value) = WAS
reply_status Exchanged = EXCHANGED
reply_status (Differs value) = DIFFERS
reply_status (Removed value) = REMOVED

-- C's value after the call. If the outcome is a reply with a value, it is that value. Else it is the value `before` the call.
abbrev pub value_after : (before : ℕ) (outcome : Result Reply Refusal) → ℕ
value_after before (Ok (Value value)) = value
value_after before (Ok (Exists value)) = value
value_after before (Ok (Was value)) = value
value_after before (Ok (Differs value)) = value
value_after before (Ok (Removed value)) = value
value_after before _ = before
