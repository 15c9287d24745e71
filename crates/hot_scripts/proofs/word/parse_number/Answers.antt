-- Why `parse_number` meets its contract.
use Rattle.std.proofs.Common.{◌≡◌, true, rules, ◌∙◌}
use Rattle.hot_scripts.specs.Grammar.{is_number}
use Rattle.hot_scripts.proofs.Grammar.{IsUtf8-number, parsed_number}
use Rattle.hot_scripts.proofs.word.parse_number.Goals as goal

pub returns-in-Err : goal.returns-in-Err
returns-in-Err c =
    let yes : is_number c.args.word.now ≡ true = search rules in
    absurd (c.in-Err.ensures.cases.0 (IsUtf8-number c.args.word.now yes))

pub returns-in-Ok : goal.returns-in-Ok
returns-in-Ok c =
    let yes : is_number c.args.word.now ≡ true = search rules in
    let same = c.in-Ok.ensures.cases.0 in
    c.ok.ensures.value ∙ parsed_number c.args.word.now c.parse.result yes (rw same at c.parse.ensures.value.0)
