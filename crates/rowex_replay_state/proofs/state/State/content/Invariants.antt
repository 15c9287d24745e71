use Rattle.std.proofs.Common.{◌≡◌, map, take}
use Rattle.rowex_replay_state.proofs.state.State.content.Given as goal

abbrev pub invariant-loop-item : goal.invariant-loop-item
invariant-loop-item l = l.pairs.items ≡ map (λ x. (x.key, x.value)) (take l.item-index l.item-items)
