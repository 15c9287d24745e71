use Rattle.rowex_core.proofs.Statements.Promises.{in_reach}
use Rattle.rowex_core.proofs.laws.reach_keeps_its_words.Goals as goal

pub returns : goal.returns
returns c = in_reach
