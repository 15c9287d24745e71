-- The handle has the first section, and keeps the others.
use Rattle.std.proofs.Common.{inl, refl}
use Rattle.hot_c.proofs.sectioning.hot_make_sections.Goals as goal

pub returns-in-Ok-clause-made : goal.returns-in-Ok-clause-made
returns-in-Ok-clause-made c small none = inl (refl, (c.in-Ok.keeper.value, c.open.ensures, c.in-Ok.ensures))
