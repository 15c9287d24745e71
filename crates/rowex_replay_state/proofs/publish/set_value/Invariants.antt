use Rattle.std.proofs.Common.{◌≡◌, ℕ, ◌<◌, ◌≤◌, length, slice_get, Some}
use Rattle.rowex_replay_state.specs.declared.linked.Item.{Item}
use Rattle.rowex_replay_state.specs.Versions.{read_item}
use Rattle.rowex_replay_state.specs.Publishing.{revalued_item}
use Rattle.rowex_replay_state.proofs.publish.set_value.Given as goal

abbrev pub invariant-loop-i : goal.invariant-loop-i
invariant-loop-i l = record {
  count : length l.items.items ≡ length l.fn.items.items;
  made : (k : ℕ) → k < l.i → (x : Item) → slice_get l.items.items k ≡ Some x → (y : Item) × (slice_get l.fn.items.items k ≡ Some y) × (read_item x ≡ revalued_item l.leaf l.value (read_item y));
  left : (k : ℕ) → l.i ≤ k → slice_get l.items.items k ≡ slice_get l.fn.items.items k;
}
