use Rattle.rowex_replay_state.proofs.Common.{◌≡◌, ℕ, ◌<◌, ◌≤◌, get_or, slice_get, false, Some, next_fate}
use Rattle.rowex_replay_state.specs.declared.fate.Fate.{Fate}
use Rattle.rowex_replay_state.specs.Fates.{stored_fate}
use Rattle.rowex_replay_state.proofs.links.update_each_fate.Given as goal

abbrev pub invariant-loop-i : goal.invariant-loop-i
invariant-loop-i l = record {
  made : (k : ℕ) → k < l.i → (f : Fate) → slice_get l.fates k ≡ Some f → (e : Fate) × (slice_get l.fn.fates k ≡ Some e) × (stored_fate f ≡ next_fate l.now l.pass (get_or l.linked k false) (stored_fate e));
  left : (k : ℕ) → l.i ≤ k → slice_get l.fates k ≡ slice_get l.fn.fates k;
}
