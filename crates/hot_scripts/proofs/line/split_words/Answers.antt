-- Why `split_words` meets its contract.
use Rattle.hot_scripts.proofs.Common.{◌≡◌, ◌==◌, ◌<◌, ◌∷◌, length, ap, arith, rules, slice_split}
use Rattle.hot_scripts.specs.Grammar.{line_words}
use Rattle.hot_scripts.proofs.line.Cuts.{some_part}
use Rattle.hot_scripts.proofs.line.split_words.Goals as goal

pub returns-in-Some-rest-3 : goal.returns-in-Some-rest-3
returns-in-Some-rest-3 c =
    let last = slice_split (λ b. b == 32) c.in-Some-rest-3.field-0.now in
    let parts : line_words c.args.line.now ≡ c.split_once.result.0.now ∷ c.split_once-2.result.0.now ∷ c.split_once-3.result.0.now ∷ c.split_once-4.result.0.now ∷ last = search rules in
    let more = some_part (λ b. b == 32) c.in-Some-rest-3.field-0.now in
    let many : 4 < length (line_words c.args.line.now) = omega (arith, ap length parts) in
    (λ e. omega arith, λ e. omega arith, λ e. omega arith)
