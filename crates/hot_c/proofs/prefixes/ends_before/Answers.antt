-- The range ends at the key before the other one, or at the last key with the prefix.
use Rattle.std.proofs.Common.{rules, refl, sym, ◌∙◌}
use Rattle.hot_c.proofs.prefixes.Prefixes.{none_before, up_to_end, up_to_previous}
use Rattle.hot_c.proofs.prefixes.ends_before.Goals as goal

pub returns-in-Greater-clause-range : goal.returns-in-Greater-clause-range
returns-in-Greater-clause-range c = rw (c.copy.ensures.same, c.last_with_prefix-last.ensures)
    (up_to_end c.args.prefix.now c.args.before.now c.in-Some.previous c.in-Some.ensures.some
    (rw (← c.last_with_prefix-last.ensures) (sym c.cmp.ensures.bytes ∙ c.in-Greater.is)))

pub returns-in_default : goal.returns-in_default
returns-in_default c = record {
  range = rw c.copy-in_default.ensures.same (up_to_previous c.args.prefix.now c.args.before.now c.in-Some.previous c.in-Some.ensures.some
      (rw (← c.last_with_prefix-last.ensures) (λ greater. c.in_default.not-Greater (c.cmp.ensures.bytes ∙ greater))));
  fit = (search rules, c.in-Some.ensures.some.is_key.short);
}

pub returns-in-None-clause-range : goal.returns-in-None-clause-range
returns-in-None-clause-range c = rw (c.empty.ensures, c.last_with_prefix-last.ensures) (none_before c.args.prefix.now c.args.before.now (c.in-None.ensures.none refl))
