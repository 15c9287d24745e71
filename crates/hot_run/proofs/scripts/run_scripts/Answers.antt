-- The gates are those that do nothing.
use Rattle.std.proofs.Common.{◌≡◌, length, map, arith}
use Rattle.std.specs.List.{zip}
use Rattle.std.proofs.lemmas.Slice.Zip.{length-zip}
use Rattle.script_runs.proofs.Scripts.{scripts_untold}
use Rattle.hot_run.proofs.scripts.run_scripts.Goals as goal

pub returns-clause-ok : goal.returns-clause-ok
returns-clause-ok g c =
    let files = c.args.files.items in
    let gates = c.in_ok-gates.gates.items in
    let told = c.in_ok-run_scripts_with.field-0.items in
    let long : length (zip gates told) ≡ length files = grind (arith, length-zip gates told, c.in_ok-gates.ensures.len, c.len.ensures, c.in_ok-run_scripts_with.ensures.each) in
    let (script, text, reads, lawful, appends) = c.in_ok-run_scripts_with.ensures.ok in (
      script,
      text,
      reads,
      scripts_untold c.args.nodes c.args.leaves _ (zip gates told) files (map (λ f. f.items) files) script text long lawful,
      appends,
    )
