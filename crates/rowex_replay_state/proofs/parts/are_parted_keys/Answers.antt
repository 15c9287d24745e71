-- The keys part at the position where that is their first difference, and the first has 0 there.
use Rattle.rowex_replay_state.proofs.parts.Keys.{parts_here, parts_elsewhere}
use Rattle.rowex_replay_state.proofs.parts.are_parted_keys.Goals as goal

pub returns-then-first-position : goal.returns-then-first-position
returns-then-first-position c = parts_here c.args.zero.now c.args.one.now c.in-Some.first c.args.position c.bit.result c.in-Some.ensures.first c.if-first-position.true c.bit.ensures

pub returns-else-first-position : goal.returns-else-first-position
returns-else-first-position c = parts_elsewhere c.args.zero.now c.args.one.now c.in-Some.first c.args.position c.in-Some.ensures.first c.if-first-position.false
