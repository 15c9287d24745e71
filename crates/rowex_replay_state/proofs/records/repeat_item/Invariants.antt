use Rattle.std.proofs.Common.{◌≡◌, replicate}
use Rattle.rowex_replay_state.proofs.records.repeat_item.Given as goal

abbrev pub invariant-loop : goal.invariant-loop
invariant-loop g l = l.copies.items ≡ replicate l.counter l.item
