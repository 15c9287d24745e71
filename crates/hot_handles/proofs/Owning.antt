-- What is owned of a value in a box of C's heap names no thread, if the value may go to another thread.
pub mod Recasting
use mir.Raw.{raw as bare}
use base.Shift.{Keyless}
use denote.Memory.{lone}
use denote.Param.Send.{IsSend}
use denote.RattleType.{RattleType}
use denote.RawPtr.{Ptr}
use Rattle.std.proofs.Crossing.{frees}
use Rattle.std.specs.Prelude.{Option, None, Some}
use Rattle.std_alloc.proofs.SendSync.{lies}
use Rattle.hot_handles.specs.Owning.{heap, owns_held}

pub content : (R : RattleType) → IsSend R → (at : Ptr) (value : Option R.Denot) → Keyless (owns_held R at value)
content R sends at None = tt
content R sends at (Some x) = (lies R sends at x, frees.frees heap (bare (lone R.mir)) at)
