-- What a run with files has answered, or by what it has ended.
use Rattle.std.proofs.Common.{inl, inr}
use Rattle.std.proofs.lemmas.Result.{IfErr-weaker, err_from_is_err_and, on_ok_weaker}
use Rattle.hot_run.proofs.asked.Asked.{files_answered, no_items, not_empty, run_ended}
use Rattle.hot_run.proofs.asked.run_request.Goals as goal

pub returns-then-is_empty-clause-ok : goal.returns-then-is_empty-clause-ok
returns-then-is_empty-clause-ok g c =
    let none = no_items c.args.request.now.files c.is_empty.result c.is_empty.ensures c.if-is_empty.true in
    rw none c.run_one.ensures.ok

pub returns-then-is_empty-clause-fault : goal.returns-then-is_empty-clause-fault
returns-then-is_empty-clause-fault g c =
    let none = no_items c.args.request.now.files c.is_empty.result c.is_empty.ensures c.if-is_empty.true in
    rw none (IfErr-weaker c.run_one.result _ _ (λ fault ended. inr ended) c.run_one.ensures.fault)

pub returns-in_err-files-clause-fault : goal.returns-in_err-files-clause-fault
returns-in_err-files-clause-fault g c =
    let p = err_from_is_err_and c.from_residual.result c.from_residual.ensures.1 in
    rw (p.1, p.2) (inl c.in_err-files.ensures.fault)

pub returns-clause-ok : goal.returns-clause-ok
returns-clause-ok g c =
    let request = c.args.request.now in
    let some = not_empty request.files c.is_empty.result c.is_empty.ensures c.if-is_empty.false in
    on_ok_weaker c.run_scripts.result
    (λ (script, text, taken, lawful, written). (
      script,
      text,
      taken,
      files_answered g.S.FileSystem.bytes request.files.items c.in_ok-files.files.items some (rw c.deref.ensures.value at c.in_ok-files.ensures.starts) request.nodes request.leaves script text lawful,
      written,
    )) c.run_scripts.ensures.ok

pub returns-clause-fault : goal.returns-clause-fault
returns-clause-fault g c =
    let request = c.args.request.now in
    let some = not_empty request.files c.is_empty.result c.is_empty.ensures c.if-is_empty.false in
    IfErr-weaker c.run_scripts.result _ _
    (λ fault ended. inr (run_ended g.S.FileSystem.bytes request.files.items c.in_ok-files.files.items some (rw c.deref.ensures.value at c.in_ok-files.ensures.starts) _ _ fault ended)) c.run_scripts.ensures.fault
