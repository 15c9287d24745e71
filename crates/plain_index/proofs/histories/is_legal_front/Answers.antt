-- The change at `i` fits the map of those before it, or the front is not legal.
use Rattle.plain_index.proofs.Common.{true, sym, subst, ◌≡◌, FitsKind}
use Rattle.plain_index.proofs.histories.Histories.{legal_take_more, legal_front-fits}
use Rattle.plain_index.proofs.histories.is_legal_front.Goals as goal

pub returns-then-not-is_legal_change : goal.returns-then-not-is_legal_change
returns-then-not-is_legal_change c = (
  (λ h. cc),
  (λ legal.
      let fits = legal_front-fits _ _ _ c.loop-i-test.true c.index-front-i.is legal in
      let yes : c.is_legal_change.result ≡ true = c.is_legal_change.ensures.1 (subst (λ o. FitsKind c.index-front-i.result.kind o c.index-front-i.result.value) (sym c.held_value.ensures) fits) in
      let no = c.if-not-is_legal_change.true in cc),
)

pub loop-i-preserved : goal.loop-i-preserved
loop-i-preserved c = legal_take_more _ _ _ c.loop-i-test.true c.index-front-i.is c.loop-i.invariant
    (subst (λ o. FitsKind c.index-front-i.result.kind o c.index-front-i.result.value) c.held_value.ensures (c.is_legal_change.ensures.0 c.if-not-is_legal_change.false))
