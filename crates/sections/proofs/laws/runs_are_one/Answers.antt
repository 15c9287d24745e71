-- The law runs_are_one.
use Rattle.sections.proofs.Rule.Dealing.{runs_are_one}
use Rattle.sections.proofs.laws.runs_are_one.Goals as goal

pub returns : goal.returns
returns c = runs_are_one
