-- Why `run_last_script` meets its contract.
use Rattle.script_runs.proofs.Common.{subst, arith, IfOk-weaker, HandleView, Owns, script_commands}
use Rattle.script_runs.proofs.Scripts.{met_long}
use Rattle.script_runs.proofs.together.Numbered.{at_own}
use Rattle.script_runs.proofs.Progress.{HasRunCommands-untold}
use Rattle.script_runs.proofs.together.run_last_script.Goals as goal

pub meet_all_passes-requires : goal.meet_all_passes-requires
meet_all_passes-requires g c = at_own c.args.handle.index c.in_ok-done.done.handle c.args.met.now (c.in_ok-done.ensures.0, c.requires.index.1)

pub make_sections-requires : goal.make_sections-requires
make_sections-requires g c =
    let same = met_long c.in_ok-done.done.handle.index c.in_ok-done.done.handle.pass c.meet_all_passes.result.pass c.args.met.now c.meet_all_passes.new.done c.meet_all_passes.ensures.met in
    omega (arith, same, c.requires.few)

pub returns : goal.returns
returns g c =
    IfOk-weaker c.make_sections.result _ _
    (λ texts text_is. record {
      after = c.in_ok-done.done.handle.pass;
      last = c.meet_all_passes.result.pass;
      again = c.meet_all_passes.new.done;
      answers = c.in_ok-done.done.text.items;
      own = subst (λ (h : HandleView). Owns h.index h.pass) c.handle.view_is c.handle.invariant;
      ran = HasRunCommands-untold c.args.handle.index _ _ _ (script_commands c.args.last.now) c.in_ok-done.done.text.items c.in_ok-done.ensures.1;
      meet = rw c.in_ok-done.ensures.0 at c.meet_all_passes.ensures.met;
      text_is = text_is;
    }) c.make_sections.ensures
