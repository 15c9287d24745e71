-- Why `split_once` meets its contract.
use Rattle.std.proofs.Common.{◌==◌, rules}
use Rattle.hot_scripts.proofs.line.Cuts.{slice_split-Some, slice_split-None}
use Rattle.hot_scripts.proofs.line.split_once.Goals as goal

pub returns-in-Some-clause-parts : goal.returns-in-Some-clause-parts
returns-in-Some-clause-parts c = slice_split-Some (λ b. b == c.args.separator) c.args.text.now c.in-Some.at (search rules)

pub returns-in-None-clause-parts : goal.returns-in-None-clause-parts
returns-in-None-clause-parts c = slice_split-None (λ b. b == c.args.separator) c.args.text.now (search rules)
