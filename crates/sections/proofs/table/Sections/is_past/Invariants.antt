-- The words below `of` have been looked at.
use Rattle.sections.proofs.Runs.Past.{HasLooked}
use Rattle.sections.proofs.table.Sections.is_past.Given as goal

abbrev pub invariant-loop-of : goal.invariant-loop-of
invariant-loop-of l = HasLooked l.moment l.of l.extent l.fn.section l.section
