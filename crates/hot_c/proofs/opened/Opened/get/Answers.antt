-- The closed handles that it keeps are as they were.
use Rattle.std.proofs.Common.{refl}
use Rattle.hot_c.proofs.opened.Opened.get.Goals as goal

pub returns-in-Some-clause-keeps : goal.returns-in-Some-clause-keeps
returns-in-Some-clause-keeps c = refl

pub returns-in-None-clause-keeps : goal.returns-in-None-clause-keeps
returns-in-None-clause-keeps c = refl
