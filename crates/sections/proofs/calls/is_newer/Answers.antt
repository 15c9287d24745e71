-- The test is whether the word is above the moment.
use Rattle.std.proofs.Common.{inr}
use Rattle.std.proofs.lemmas.Bool.{ltb-true}
use Rattle.sections.proofs.calls.is_newer.Goals as goal

pub returns-else-word-eq0-clause-newer : goal.returns-else-word-eq0-clause-newer
returns-else-word-eq0-clause-newer c newer = inr (ltb-true c.args.moment c.args.word newer)
