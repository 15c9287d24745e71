-- Why `run_files_in_scope` meets its contract.
use Rattle.script_runs.proofs.Common.{map, AllZip, zip, IfOk-weaker, script_commands}
use Rattle.script_runs.specs.Progress.{AllThree, HasRunItsOrder, IsDone}
use Rattle.script_runs.proofs.together.Numbered.{all_joined}
use Rattle.script_runs.proofs.together.run_files_in_scope.Goals as goal

pub returns : goal.returns
returns g c =
    let becomes = g.G.Gate.becomes in
    let seats = zip c.args.handles.items c.args.gates.items in
    let scripts = map script_commands c.args.scripts.now in
    let orders = map (λ t. t.promise) c.in_ok-running.running.items in
    IfOk-weaker c.join_files.result (λ (done : _). AllZip (HasRunItsOrder becomes) orders done.items) (λ (done : _). AllThree (IsDone becomes) seats scripts done.items)
    (λ done kept. all_joined becomes seats scripts orders done.items c.in_ok-running.ensures kept) c.join_files.ensures
