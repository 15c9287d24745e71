-- The moment is the next one after those that had been taken at the load.
use Rattle.sections.proofs.table.Entries.{takes_moment, takes_none}
use Rattle.sections.proofs.table.Sections.take_moment.Goals as goal
use Rattle.sections.proofs.table.Sections.take_moment.Goals.{then-taken-lt-MOST_MOMENTS, else-taken-lt-MOST_MOMENTS}

pub returns : goal.returns
returns c =
    let s = c.args.section.now in
    let t = c.load_moments-taken in
    elim c.if-taken-lt-MOST_MOMENTS.branch [
      | then-taken-lt-MOST_MOMENTS w ↦ rw w.section-is (takes_moment s t.new.section t.result t.ensures.looks t.ensures.found w.take_next.new.section w.take_next.ensures)
      | else-taken-lt-MOST_MOMENTS w ↦ rw w.section-is (takes_none s t.new.section t.result t.ensures.looks t.ensures.found w.if-taken-lt-MOST_MOMENTS.false t.ensures.most)
    ]
