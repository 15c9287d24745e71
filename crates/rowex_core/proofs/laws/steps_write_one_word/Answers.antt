use Rattle.rowex_core.proofs.Events.{writes_one}
use Rattle.rowex_core.proofs.laws.steps_write_one_word.Goals as goal

pub returns : goal.returns
returns c = writes_one
