-- No entry before has the word, and this one hasn't.
use Rattle.rowex_replay_state.proofs.Common.{◌+◌, arith, false≢true, a_node}
use Rattle.rowex_replay_state.specs.Records.{HasWordStored}
use Rattle.rowex_replay_state.proofs.records.Searches.{none_yet}
use Rattle.rowex_replay_state.proofs.records.Records.has_entry.Goals as goal

pub loop-slot-preserved : goal.loop-slot-preserved
loop-slot-preserved c = none_yet (λ k. HasWordStored c.args.self.now (a_node c.args.node) (25 + k) c.args.word) c.has_word.result c.loop-slot.slot c.loop-slot.invariant c.has_word.ensures c.if-has_word.false

pub returns : goal.returns
returns c = ((λ t. absurd (false≢true t)), λ (j, low, h). absurd (c.loop-slot.invariant j (omega (arith, low, c.loop-slot-test.false)) h))
