-- The passes that have a share are those of the numbers below, and the others are left.
use Rattle.std.specs.Prelude.{◌≡◌, [], ℕ, ◌+◌, Box, Some, length, slice_get}
use Rattle.hot_c.proofs.Common.{Global, into_iter_items, into_iter_len, PassView, Owns, IsNewPass}
use Rattle.hot_c.specs.declared.opened.Opened.{Opened}
use Rattle.hot_c.proofs.opening.Places.{AreFrom}
use Rattle.hot_c.proofs.opening.share_index.Given as goal

abbrev pub invariant-loop-pass : goal.invariant-loop-pass
invariant-loop-pass l = record {
  long : into_iter_len l.pass-iterator ≡ length (into_iter_items l.pass-iterator);
  count : length l.shared.items + length (into_iter_items l.pass-iterator) ≡ length l.fn.passes.items;
  left : AreFrom (λ q (p : PassView). Owns l.index.value p × IsNewPass q p) (length l.shared.items) (into_iter_items l.pass-iterator);
  each : (q : ℕ) (b : Box Opened Global) → slice_get l.shared.items q ≡ Some b → (b.value.handle.index ≡ l.index.value) × IsNewPass q b.value.handle.pass × (b.value.kept.items ≡ []);
}
