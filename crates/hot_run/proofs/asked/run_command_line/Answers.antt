-- By what the run that was asked for has ended.
use Rattle.std.proofs.lemmas.Result.{err_from_is_err_and}
use Rattle.hot_run.proofs.asked.Asked.{asked_ended, words_ended}
use Rattle.hot_run.proofs.asked.run_command_line.Goals as goal

pub returns-in_err-request-clause-fault : goal.returns-in_err-request-clause-fault
returns-in_err-request-clause-fault g c =
    let p = err_from_is_err_and c.from_residual.result c.from_residual.ensures.1 in
    rw (p.1, p.2) (words_ended g.S.FileSystem.bytes _ _ _ _ c.in_err-request.ensures.refused)

pub returns-in_err-run_request-clause-fault : goal.returns-in_err-run_request-clause-fault
returns-in_err-run_request-clause-fault g c =
    let request = c.in_ok-request.request in
    let p = err_from_is_err_and c.from_residual-in_err-run_request.result c.from_residual-in_err-run_request.ensures.1 in
    rw (p.1, p.2) (asked_ended g.S.FileSystem.bytes _ request.nodes request.leaves _ _ _ _ c.in_ok-request.ensures.asked c.in_err-run_request.ensures.fault)

pub returns-clause-ok : goal.returns-clause-ok
returns-clause-ok g c =
    let request = c.in_ok-request.request in
    let (script, text, taken, answered, written) = c.in_ok-run_request.ensures.ok in
    record {
      nodes = request.nodes;
      leaves = request.leaves;
      names = _;
      asked = c.in_ok-request.ensures.asked;
      script = script;
      text = text;
      taken = taken;
      answered = answered;
      written = written;
    }
