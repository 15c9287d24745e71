-- What was lent is what the keeper held.
use Rattle.std.proofs.Common.{◌≡◌, [], Some, MatchOption, inl, inr, refl, sym, ◌∙◌, subst}
use Rattle.hot_c.specs.declared.opened.Opened.{Opened}
use Rattle.hot_c.specs.Calls.{HasOpenedNext, KeepsAll}
use Rattle.hot_c.proofs.opening.Places.{same}
use Rattle.hot_c.proofs.exports.hot_open_kept.Goals as goal

pub returns-in-Ok-Some-clause-opened : goal.returns-in-Ok-Some-clause-opened
returns-in-Ok-Some-clause-opened c = λ was held closed. let now = c.open_next_handle.new.self in let opened = c.in-Ok-Some.opened.value in
    let lent = same c.lend.result.now was (sym c.lend.ensures.value ∙ held) in
    let next : HasOpenedNext c.lend.result.now now opened = subst (λ found. MatchOption found ((c.lend.result.now.kept.items ≡ []) × KeepsAll c.lend.result.now now)
    (λ b. HasOpenedNext c.lend.result.now now b.value)) c.in-Ok-Some.field-0-is c.in-Ok-Some.ensures.opened in
    (now, refl, inl (refl, opened, c.open.ensures.opened, subst (λ (o : Opened). HasOpenedNext o now opened) lent next))

pub returns-in-Ok-None-clause-opened : goal.returns-in-Ok-None-clause-opened
returns-in-Ok-None-clause-opened c = λ was held closed. let now = c.open_next_handle.new.self in
    let lent = same c.lend.result.now was (sym c.lend.ensures.value ∙ held) in
    let none : (c.lend.result.now.kept.items ≡ []) × KeepsAll c.lend.result.now now = subst (λ found. MatchOption found ((c.lend.result.now.kept.items ≡ []) × KeepsAll c.lend.result.now now)
    (λ b. HasOpenedNext c.lend.result.now now b.value)) c.in-Ok-None.field-0-is c.in-Ok-None.ensures.opened in
    let it = subst (λ (o : Opened). (o.kept.items ≡ []) × KeepsAll o now) lent none in
    (now, refl, inr (inl (refl, closed, it.0, it.1)))

pub returns-in-Err-clause-opened : goal.returns-in-Err-clause-opened
returns-in-Err-clause-opened c = λ was held closed. let now = c.open_next_handle.new.self in
    let lent = same c.lend.result.now was (sym c.lend.ensures.value ∙ held) in
    (now, refl, inr (inr (refl, closed, subst (λ (o : Opened). KeepsAll o now) lent c.in-Err.ensures.refused)))
