-- A round, or one that is spared.
use Rattle.hot_index_calls.proofs.changing.collect_between.Goals as goal

pub collect_if_risen-collected-requires-clause-own : goal.collect_if_risen-collected-requires-clause-own
collect_if_risen-collected-requires-clause-own g c = c.requires.idle.0

pub collect_if_risen-collected-requires-clause-free : goal.collect_if_risen-collected-requires-clause-free
collect_if_risen-collected-requires-clause-free g c = c.requires.idle.1.pin
