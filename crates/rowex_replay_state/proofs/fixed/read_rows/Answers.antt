-- Each row is the one at its place.
use Rattle.std.proofs.Common.{arith}
use Rattle.rowex_replay_state.proofs.node.Heads.{all_rows}
use Rattle.rowex_replay_state.proofs.fixed.read_rows.Goals as goal

pub returns : goal.returns
returns c = all_rows c.args.words.now c.args.numbers c.loop-slot.rows c.loop-slot.slot (omega (arith, c.loop-slot-test.false, c.loop-slot.auto.slot-end)) c.loop-slot.invariant
