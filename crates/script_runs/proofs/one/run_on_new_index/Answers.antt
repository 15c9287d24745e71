-- Why `run_on_new_index` meets its contract.
use Rattle.script_runs.proofs.Common.{refl, ap, ◌∙◌, IfOk-weaker, map_of}
use Rattle.script_runs.specs.Runs.{text_told}
use Rattle.script_runs.proofs.one.Alone.{alone_at_first, told_alone}
use Rattle.script_runs.proofs.one.run_on_new_index.Goals as goal

pub returns : goal.returns
returns c =
    let index = c.in_ok-index.index in
    let pass = c.in_ok-index.pass in
    let made = c.in_ok-index.ensures in
    let alone = alone_at_first index pass made.sized.passes_are made.pass.1 in
    IfOk-weaker c.run_script_alone.result _ _
    (λ text (after, ran). record {
      index = index;
      sized = made.sized;
      answers = ran.answers;
      front = after.front;
      told = record {
        told = record {
          first = pass;
          last = after;
          own = made.pass.0;
          number = made.pass.1.0;
          begins = made.pass.1.1;
          ends = refl;
          told = ran.told;
        };
        new = made.pass.1;
      };
      commands_are = ran.commands_are;
      text_is = ran.text_is ∙ told_alone index _ _ _ alone ran.answers ran.told ∙ ap (λ f. text_told (map_of f) ran.answers) made.pass.1.1;
    }) c.run_script_alone.ensures
