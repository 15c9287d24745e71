-- The change is of the key, or of another.
use Rattle.plain_index.proofs.Common.{◌∙◌, refl, ⊎_elim, Added, Replaced, Removed}
use Rattle.plain_index.proofs.histories.Histories.{value_after_same, value_after_other}
use Rattle.plain_index.proofs.histories.held_value.Goals as goal
use Rattle.plain_index.proofs.histories.held_value.Goals.{then-eq+in-Added, then-eq+in-Removed, else-eq}

pub loop-change-preserved : goal.loop-change-preserved
loop-change-preserved c = elim c.if-eq.branch [
  | then-eq+in-Added w ↦ w.held-is ∙ ⊎_elim
      (λ kind. value_after_same _ _ _ Added _ c.loop-change-test.true c.change-item.is kind (w.if-eq.ensures.same.0 refl))
      (λ kind. value_after_same _ _ _ Replaced _ c.loop-change-test.true c.change-item.is kind (w.if-eq.ensures.same.0 refl)) w.in-Added.is
  | then-eq+in-Removed w ↦ w.held-is ∙ value_after_same _ _ _ Removed _ c.loop-change-test.true c.change-item.is w.in-Removed.is (w.if-eq.ensures.same.0 refl)
  | else-eq w ↦ w.held-is ∙ c.loop-change.invariant ∙ value_after_other _ _ _ _ c.loop-change-test.true c.change-item.is (λ e. let no = w.if-eq.ensures.same.1 e in cc)
]
