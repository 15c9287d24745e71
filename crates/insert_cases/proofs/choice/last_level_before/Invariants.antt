-- What stays true in the loop of `last_level_before`.
use Rattle.insert_cases.proofs.Common.{◌≡◌, ℕ, ◌<◌, ◌≤◌, Some, length, slice_get}
use Rattle.insert_cases.specs.declared.choice.PathNode.{PathNode}
use Rattle.insert_cases.proofs.choice.last_level_before.Given as goal

abbrev pub invariant-loop-i : goal.invariant-loop-i
invariant-loop-i l =
    (l.level < length l.way) × (0 < l.level → (s : PathNode) → slice_get l.way l.level ≡ Some s → s.first_position < l.position) ×
    ((k : ℕ) (s : PathNode) → l.level < k → k < l.i → slice_get l.way k ≡ Some s → l.position ≤ s.first_position)
