-- Why `end_run` meets its contract.
use Rattle.script_runs.proofs.Common.{ap, length, arith, length-map}
use Rattle.script_runs.proofs.Scripts.{met_long}
use Rattle.script_runs.proofs.together.Numbered.{at_own}
use Rattle.script_runs.proofs.together.end_run.Goals as goal

pub meet_all_passes-handle-requires : goal.meet_all_passes-handle-requires
meet_all_passes-handle-requires g c = rw (c.deref_mut-met.ensures.value, c.in_ok-done.ensures.scripts) c.requires.index

pub run_last_script-requires-clause-index : goal.run_last_script-requires-clause-index
run_last_script-requires-clause-index g c =
    at_own c.args.handle.index c.meet_all_passes-handle.result c.meet_all_passes-handle.new.done c.meet_all_passes-handle.ensures.index

pub run_last_script-requires-clause-few : goal.run_last_script-requires-clause-few
run_last_script-requires-clause-few g c =
    let k = c.args.handle in
    let j = c.meet_all_passes-handle.result in
    let long = met_long k.index k.pass j.pass c.deref_mut-met.result.now c.meet_all_passes-handle.new.done c.meet_all_passes-handle.ensures.met in
    omega (
      arith,
      long,
      ap length c.deref_mut-met.ensures.value,
      ap length c.in_ok-done.ensures.scripts,
      length-map c.args.ran.items (λ r. r.0),
      c.requires.few,
    )

pub returns : goal.returns
returns g c = record {
  met = c.meet_all_passes-handle.new.done;
  after = c.meet_all_passes-handle.result.pass;
  gates_are = c.in_ok-done.ensures.gates;
  meet = rw (c.deref_mut-met.ensures.value, c.in_ok-done.ensures.scripts) at c.meet_all_passes-handle.ensures.met;
  answered = rw c.meet_all_passes-handle.ensures.index.0 at c.in_ok-texts.ensures;
}
