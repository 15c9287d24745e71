-- Why `run_scripts_with` meets its contract.
use Rattle.std.proofs.Common.{Vec, ap, arith, length, map}
use Rattle.std.specs.Global.{Global}
use Rattle.std.specs.List.{flat_map}
use Rattle.std.proofs.lemmas.Result.{err_from_is_err_and}
use Rattle.hot_scripts.specs.declared.script.Script.{Script}
use Rattle.hot_scripts.specs.Parses.{script_commands}
use Rattle.hot_run.proofs.asked.Asked.{parse_ended, read_ended}
use Rattle.script_runs.proofs.Scripts.{each_told}
use Rattle.hot_run.proofs.scripts.run_scripts_with.Goals as goal

pub returns-in_err-scripts-clause-fault : goal.returns-in_err-scripts-clause-fault
returns-in_err-scripts-clause-fault g c =
    let p = err_from_is_err_and c.from_residual.result c.from_residual.ensures.1 in
    let left = g.R.Read.remaining c.args.reader.now in
    rw (p.1, p.2) (parse_ended (map (λ f. f.items) c.args.files.items) left left (λ (v : Vec Script Global). map script_commands v.items) c.in_err-scripts.field-0.0 c.in_err-scripts.ensures.parsed)

pub returns-in_err-bytes-clause-fault : goal.returns-in_err-bytes-clause-fault
returns-in_err-bytes-clause-fault g c =
    let p = err_from_is_err_and c.from_residual-in_err-bytes.result c.from_residual-in_err-bytes.ensures.1 in
    rw (p.1, p.2) (read_ended (map (λ f. f.items) c.args.files.items) (g.R.Read.remaining c.args.reader.now) (g.R.Read.remaining c.read_script.new.reader)
    (map script_commands c.in_ok-scripts.scripts.items) c.in_ok-scripts.ensures.parsed c.in_err-bytes.field-0.0 c.in_err-bytes.ensures.fault)

pub run_all_scripts-requires-clause-few : goal.run_all_scripts-requires-clause-few
run_all_scripts-requires-clause-few g c κs within = omega (arith, c.requires.few, c.in_ok-scripts.ensures.count, ap length c.deref.ensures.value)

pub run_all_scripts-requires-clause-gates : goal.run_all_scripts-requires-clause-gates
run_all_scripts-requires-clause-gates g c κs within = omega (arith, c.requires.gates, c.in_ok-scripts.ensures.count, ap length c.deref.ensures.value)

pub returns-in_err-results-clause-fault : goal.returns-in_err-results-clause-fault
returns-in_err-results-clause-fault g c =
    let p = err_from_is_err_and c.from_residual-in_err-results.result c.from_residual-in_err-results.ensures.1 in
    rw (p.1, p.2) tt

pub returns-clause-ok : goal.returns-clause-ok
returns-clause-ok g c = (
  c.in_ok-bytes.bytes.items,
  flat_map (λ t. t.items) c.in_ok-results.results.texts.items,
  c.in_ok-bytes.ensures.whole,
  record {
    scripts = map script_commands c.in_ok-scripts.scripts.items;
    last = script_commands c.in_ok-last.last;
    files_are = c.in_ok-scripts.ensures.parsed;
    short = omega (arith, c.in_ok-bytes.ensures.short, c.in_ok-bytes.bytes.ok);
    last_is = c.in_ok-last.ensures;
    answers = rw c.deref.ensures.value at c.in_ok-results.ensures.answered;
  },
  rw c.deref-2.ensures.value at c.in_ok-write_sections.ensures.ok,
)

pub returns-clause-told : goal.returns-clause-told
returns-clause-told g c =
    let all = c.in_ok-results.ensures.answered in
    each_told all.index g.G.Gate.becomes 0 _ all.lawful.files_ran all.files_told
