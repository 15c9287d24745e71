-- One node more.
use Rattle.rowex_writing.proofs.Common.{◌≡◌, ◌<◌, ◌≤◌, ⊎_elim, arith, sym, ap, ◌∙◌, get_or, cases_lt, get_or_from_slice_get, slice_get-get_or, PathNode}
use Rattle.rowex_writing.specs.build.Taking.{no_step}
use Rattle.rowex_writing.proofs.merging.widening.is_near_span.Goals as goal

pub loop-index-init : goal.loop-index-init
loop-index-init c = record { none = λ step i at from low. absurd (omega (arith, from, low)) }

pub loop-index-preserved : goal.loop-index-preserved
loop-index-preserved c = record {
  none = λ step i at from low.
      ⊎_elim (λ (before : i < c.loop-index.index). c.loop-index.invariant.none step i at from before)
      (λ (here : c.loop-index.index ≤ i).
      let same : i ≡ c.loop-index.index = omega (arith, low, here) in
      let is = get_or_from_slice_get c.args.job.now.way.now i step no_step at in
      λ e. c.if-job-index.false (sym (e ∙ (ap (λ (s : PathNode). s.number) (sym is) ∙ ap (λ n. (get_or c.args.job.now.way.now n no_step).number) same))))
      (cases_lt i c.loop-index.index);
}

pub returns-then-job-index-clause-near : goal.returns-then-job-index-clause-near
returns-then-job-index-clause-near c = λ e far. far _ c.loop-index.index (slice_get-get_or c.args.job.now.way.now c.loop-index.index no_step (omega arith)) (omega arith) (omega arith) (sym c.if-job-index.true)
