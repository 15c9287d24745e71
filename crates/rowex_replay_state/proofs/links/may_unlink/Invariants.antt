use Rattle.std.proofs.Common.{◌≡◌, ℕ, ◌<◌, get_or, slice_get, false, Some, None}
use Rattle.rowex_replay_state.specs.declared.fate.Fate.{Fate}
use Rattle.rowex_replay_state.specs.Links.{MayBeUnlinked}
use Rattle.rowex_replay_state.proofs.links.may_unlink.Given as goal

abbrev pub invariant-loop-i : goal.invariant-loop-i
invariant-loop-i l = (k : ℕ) → k < l.i → (f : Fate) → slice_get l.fates k ≡ Some f → MayBeUnlinked l.pass (get_or l.linked k false) (get_or l.locks k None) f
