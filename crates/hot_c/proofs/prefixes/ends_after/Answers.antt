-- The range begins at the key after the other one, or at the prefix.
use Rattle.std.proofs.Common.{rules, refl, sym, ◌∙◌}
use Rattle.hot_c.proofs.prefixes.Prefixes.{from_next, from_start, none_after}
use Rattle.hot_c.proofs.prefixes.ends_after.Goals as goal

pub returns-in-Less-clause-range : goal.returns-in-Less-clause-range
returns-in-Less-clause-range c = rw (c.copy.ensures.same, c.last_with_prefix-last.ensures)
    (from_start c.args.prefix.now c.args.after.now c.in-Some.next c.in-Some.ensures.some (sym c.cmp.ensures.bytes ∙ c.in-Less.is))

pub returns-in_default : goal.returns-in_default
returns-in_default c = record {
  range = rw c.last_with_prefix-last.ensures
      (from_next c.args.prefix.now c.args.after.now c.in-Some.next c.in-Some.ensures.some (λ less. c.in_default.not-Less (c.cmp.ensures.bytes ∙ less)));
  fit = (c.in-Some.ensures.some.is_key.short, search rules);
}

pub returns-in-None-clause-range : goal.returns-in-None-clause-range
returns-in-None-clause-range c = rw (c.empty.ensures, c.last_with_prefix-last.ensures) (none_after c.args.prefix.now c.args.after.now (c.in-None.ensures.none refl))
