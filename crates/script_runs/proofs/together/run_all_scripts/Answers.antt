-- Why `run_all_scripts` meets its contract.
use Rattle.script_runs.proofs.Common.{◌≡◌, ◌+◌, length, map, refl, sym, subst, ap, arith, ◌∙◌, zip, IfOk-weaker, length-map, handle_at, script_commands}
use Rattle.std.specs.List.{flat_map}
use Rattle.script_runs.specs.Progress.{IsNewPassOf}
use Rattle.script_runs.specs.Told.{IsOfSize}
use Rattle.script_runs.proofs.Scripts.{lawful_together}
use Rattle.script_runs.proofs.together.Numbered.{all_at, done_at, done_long, owns_first}
use Rattle.script_runs.proofs.together.run_all_scripts.Goals as goal

pub handles_of-requires : goal.handles_of-requires
handles_of-requires g c = owns_first c.in_ok-index.index 0 c.in_ok-index.passes.items c.in_ok-index.ensures.each

pub run_files-requires-clause-ready : goal.run_files-requires-clause-ready
run_files-requires-clause-ready g c κs within =
    let long = ap length c.in_ok-handles.ensures ∙ length-map c.in_ok-index.passes.items (handle_at c.in_ok-index.index) in
    let made = c.in_ok-index.ensures.count in
    (omega (arith, long, made), omega (arith, long, made, c.requires.gates))

pub end_run-requires-clause-index : goal.end_run-requires-clause-index
end_run-requires-clause-index g c =
    let index = c.in_ok-index.index in
    let passes = c.in_ok-index.passes.items in
    let scripts = map script_commands c.args.scripts.now in
    rw c.new.ensures (
      refl,
      done_at g.G.Gate.becomes index (map (handle_at index) passes) c.args.gates.items scripts c.in_ok-ran.ran.items (all_at index passes)
          (rw c.in_ok-handles.ensures at c.in_ok-ran.ensures),
    )

pub end_run-requires-clause-few : goal.end_run-requires-clause-few
end_run-requires-clause-few g c =
    let seats = zip c.in_ok-handles.handles.items c.args.gates.items in
    let ran = done_long g.G.Gate.becomes seats (map script_commands c.args.scripts.now) c.in_ok-ran.ran.items c.in_ok-ran.ensures in
    omega (arith, ran, length-map c.args.scripts.now script_commands, c.requires.few)

pub returns-clause-each : goal.returns-clause-each
returns-clause-each g c =
    let seats = zip c.in_ok-handles.handles.items c.args.gates.items in
    let ran = c.in_ok-ran.ran.items in
    let long = done_long g.G.Gate.becomes seats (map script_commands c.args.scripts.now) ran c.in_ok-ran.ensures in
    IfOk-weaker c.end_run.result _ _
    (λ results all. omega (arith, ap length all.gates_are, length-map ran (λ r. r.1), long, length-map c.args.scripts.now script_commands, c.requires.gates))
    c.end_run.ensures

pub returns-clause-answered : goal.returns-clause-answered
returns-clause-answered g c =
    let index = c.in_ok-index.index in
    let passes = c.in_ok-index.passes.items in
    let made = c.in_ok-index.ensures in
    let gates = c.args.gates.items in
    let scripts = map script_commands c.args.scripts.now in
    let commands = script_commands c.args.last.now in
    let number : length c.args.scripts.now ≡ length scripts = sym (length-map c.args.scripts.now script_commands) in
    let many : length gates ≡ length passes = c.requires.gates ∙ sym made.count in
    let sized = subst (λ n. IsOfSize (n + 1) c.args.records.nodes c.args.records.leaves index) number made.sized in
    let last = subst (λ n. IsNewPassOf index n c.in_ok-index.pass) number made.last in
    IfOk-weaker c.end_run.result _ _
    (λ results all. rw all.gates_are (lawful_together index g.G.Gate.becomes passes gates scripts commands c.in_ok-ran.ran.items all.met c.in_ok-index.pass all.after
    (flat_map (λ t. t.items) results.texts.items) c.args.records.nodes c.args.records.leaves sized many made.each last
    (rw c.in_ok-handles.ensures at c.in_ok-ran.ensures) all.meet all.answered))
    (rw c.new.ensures at c.end_run.ensures)
