-- The law weave_puts_returned_calls_first.
use Rattle.plain_index.proofs.Times.{woven-in_time}
use Rattle.plain_index.proofs.laws.weave_puts_returned_calls_first.Goals as goal

pub returns : goal.returns
returns c = woven-in_time
