-- Why `run_scan` meets its contract.
use Rattle.std.proofs.lemmas.Result.{on_ok_weaker}
use Rattle.script_runs.proofs.Progress.{HasAnsweredCommand-list}
use Rattle.script_runs.proofs.engine.run_scan.Goals as goal

pub returns-clause-answered : goal.returns-clause-answered
returns-clause-answered g c =
    let list = c.push_scan.ensures in
    rw (← c.handle.view_is)
    (on_ok_weaker c.push_scan.result
    (λ text. HasAnsweredCommand-list c.handle.inside.index.now _ c.args.output.now.text.alloc _ _ c.args.range.now _ list.short c.in_ok-more.more _ _ c.in_ok-more.ensures.ok c.in_ok-more.ensures.read.read text) list.lines)
