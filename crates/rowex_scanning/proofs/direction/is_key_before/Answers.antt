-- The order of the bytes is that of the first different bit.
use Rattle.rowex_scanning.proofs.Common.{◌≡◌, true, false, ap, sym, subst, ◌∙◌, IsTrue, is_lt}
use Rattle.rowex_scanning.proofs.Walking.{is_less, less_before, not_less_after}
use Rattle.rowex_scanning.proofs.direction.is_key_before.Goals as goal

pub returns-clause-before : goal.returns-clause-before
returns-clause-before c h = less_before c.args.first.now c.args.second.now c.requires.keys.0 c.requires.keys.1 (sym c.cmp.ensures ∙ is_less c.cmp.result (subst IsTrue c.is_lt.ensures h))

pub returns-clause-at_most : goal.returns-clause-at_most
returns-clause-at_most c h =
    not_less_after c.args.first.now c.args.second.now c.requires.keys.0 c.requires.keys.1
    (λ less. let x : true ≡ false = sym (ap is_lt (c.cmp.ensures ∙ less)) ∙ (sym c.is_lt.ensures ∙ h) in cc)
