-- A refusal of a call that doesn't wait is one of a call that does, by the same cause.
use Rattle.script_runs.proofs.Common.{rules, ◌≡◌, refl, subst, Reply}
use Rattle.core.specs.declared.result.Result.{Result}
use Rattle.rowex_writing.specs.declared.attempts.TryFault.{TryFault}
use Rattle.hot_index_calls.specs.Asked.{last_try}
use Rattle.hot_index_calls.specs.Calls.{HasCause}
use Rattle.hot_index.proofs.Handles.{stays}
use Rattle.script_runs.proofs.callers.AloneCaller.call.Goals as goal
use Rattle.script_runs.proofs.callers.AloneCaller.call.Goals.{in-Ok, in-Err-FullNodes, in-Err-FullLeaves}

pub returns-clause-cause : goal.returns-clause-cause
returns-clause-cause g c =
    let same : c.try_call_with.result ≡ last_try c.match-try_call_with.result = elim c.match-try_call_with.branch [
      | in-Ok w ↦ search rules
      | in-Err-FullNodes w ↦ search rules
      | in-Err-FullLeaves w ↦ search rules
    ] in
    stays (HasCause c.args.call.now (last_try c.match-try_call_with.result)) _ _ _ _ _ refl c.handle.view_is
    (subst (λ (r : Result Reply TryFault). HasCause c.args.call.now r c.handle.inside.index.now c.handle.inside.pass c.try_call_with.new.pass) same c.try_call_with.ensures.cause)
