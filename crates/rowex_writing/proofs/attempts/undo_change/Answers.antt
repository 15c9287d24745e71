-- The records that were made are those that the pass has.
use Rattle.rowex_writing.proofs.Common.{ap, arith, length, subst, sym, HoldsJust}
use Rattle.rowex_writing.specs.build.Putting.{AreInTable}
use Rattle.rowex_writing.proofs.build.Changes.{made_held, made_records}
use Rattle.rowex_writing.proofs.attempts.undo_change.Goals as goal

pub release_records_and_locks-requires-clause-records : goal.release_records_and_locks-requires-clause-records
release_records_and_locks-requires-clause-records g c =
    let m = c.requires.made in
    subst (AreInTable c.args.table.now.layout) (sym c.as_slice.ensures.value) (made_records c.args.table.now c.args.seat.now c.args.build.now.made.items m.news m.building)

pub release_records_and_locks-requires-clause-held : goal.release_records_and_locks-requires-clause-held
release_records_and_locks-requires-clause-held g c =
    let m = c.requires.made in
    subst (HoldsJust c.args.seat.now.known) (sym c.as_slice.ensures.value) (made_held c.args.table.now c.args.seat.now c.args.build.now.made.items m.news m.building)

pub returns-clause-few : goal.returns-clause-few
returns-clause-few g c = omega (arith, c.release_records_and_locks.ensures.few, ap length c.as_slice.ensures.value)
