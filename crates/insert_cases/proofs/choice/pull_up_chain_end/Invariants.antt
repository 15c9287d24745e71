-- What stays true in the loop of `pull_up_chain_end`.
use Rattle.insert_cases.proofs.Common.{◌≡◌, ℕ, ◌+◌, ◌<◌, ◌≤◌, Some, slice_get}
use Rattle.insert_cases.specs.declared.choice.PathNode.{PathNode}
use Rattle.insert_cases.proofs.choice.pull_up_chain_end.Given as goal

abbrev pub decreases-loop-end : goal.decreases-loop-end
decreases-loop-end l = l.end

abbrev pub invariant-loop-end : goal.invariant-loop-end
invariant-loop-end l = (l.end ≤ l.level) × ((i : ℕ) (s u : PathNode) → l.end ≤ i → i < l.level → slice_get l.way (i + 1) ≡ Some s → slice_get l.way i ≡ Some u → (s.count ≡ 32) × (u.height ≡ s.height + 1))
