-- Why `make_call` meets its contract.
use Rattle.script_runs.proofs.Progress.{called_of}
use Rattle.script_runs.proofs.engine.make_call.Goals as goal

pub returns-in-Ok-clause-told : goal.returns-in-Ok-clause-told
returns-in-Ok-clause-told g c =
    let call = c.in-Ok.ensures.call in
    record { index = call.index; pass = called_of c.args.handle.now.index.layout _ _ _ _ call.pass }

pub returns-in-Err-clause-told : goal.returns-in-Err-clause-told
returns-in-Err-clause-told g c =
    let call = c.in-Err.ensures.call in
    record { index = call.index; pass = (0, (c.in-Err.ensures.lacks, record { refused = call.pass; cause = c.in-Err.ensures.cause.pass })) }
