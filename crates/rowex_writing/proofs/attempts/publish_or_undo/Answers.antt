-- The value is as it was found, and the change is published; or all is given back.
use Rattle.rowex_writing.specs.build.Spare.{by_gone}
use Rattle.rowex_writing.proofs.build.Spare.{goes_spare, gone_node, works_spare}
use Rattle.rowex_writing.proofs.Common.{refl, arith, later_trans}
use Rattle.rowex_writing.proofs.build.Changes.{changed_since}
use Rattle.rowex_writing.proofs.build.Building.{building_on}
use Rattle.rowex_writing.proofs.build.deeds.Deeds.{replace_later}
use Rattle.rowex_writing.proofs.locks.Runs.{goes_run, runs_trans, works_run}
use Rattle.rowex_writing.proofs.store.Values.{front_grown, holds_reads, replaced_made}
use Rattle.rowex_writing.proofs.locks.Locks.{works_later}
use Rattle.rowex_writing.proofs.attempts.publish_or_undo.Goals as goal

pub undo_change-requires : goal.undo_change-requires
undo_change-requires g c =
    let table = c.args.table.now in
    let reads = c.is_unchanged.ensures.reads in
    let (x, was, may) = c.requires.may in
    let (news, made) = replaced_made table c.args.seat.now c.args.build.now.made.items c.args.job.now c.args.raised x was (let w = c.requires.held.within in omega (arith, w)) may in
    record {
      held = holds_reads table g.G.Gate.becomes (c.args.seat.now, c.args.gate.now) (c.is_unchanged.new.seat, c.is_unchanged.new.gate) c.args.job.now reads c.requires.held;
      made = record {
        news = news;
        building = building_on table g.G.Gate.becomes (c.args.seat.now, c.args.gate.now) (c.is_unchanged.new.seat, c.is_unchanged.new.gate) c.args.build.now.made.items news reads.goes reads.own made;
      };
    }

pub returns-then-not-is_unchanged-clause-run : goal.returns-then-not-is_unchanged-clause-run
returns-then-not-is_unchanged-clause-run g c =
    runs_trans c.args.table.now g.G.Gate.becomes (c.args.seat.now, c.args.gate.now) (c.is_unchanged.new.seat, c.is_unchanged.new.gate) (c.undo_change.new.seat, c.undo_change.new.gate)
    (goes_run c.args.table.now g.G.Gate.becomes (c.args.seat.now, c.args.gate.now) (c.is_unchanged.new.seat, c.is_unchanged.new.gate) c.is_unchanged.ensures.reads.goes)
    (works_run c.args.table.now g.G.Gate.becomes (c.is_unchanged.new.seat, c.is_unchanged.new.gate) (c.undo_change.new.seat, c.undo_change.new.gate) c.undo_change.ensures.works)

pub returns-then-not-is_unchanged-clause-failed : goal.returns-then-not-is_unchanged-clause-failed
returns-then-not-is_unchanged-clause-failed g c =
    let after = works_later c.args.table.now g.G.Gate.becomes (c.is_unchanged.new.seat, c.is_unchanged.new.gate) (c.undo_change.new.seat, c.undo_change.new.gate) c.undo_change.ensures.works in
    let grown = front_grown after in (
      refl,
      (
        c.undo_change.ensures.rest,
        later_trans c.is_unchanged.ensures.reads.goes.stays.0 after,
        λ m from. let moved = c.is_unchanged.ensures.moved c.if-not-is_unchanged.true m from in omega (arith, moved, grown),
      ),
    )

pub returns-then-not-is_unchanged-clause-few : goal.returns-then-not-is_unchanged-clause-few
returns-then-not-is_unchanged-clause-few g c = omega (arith, c.is_unchanged.ensures.few, c.undo_change.ensures.few)

pub publish_change-requires : goal.publish_change-requires
publish_change-requires g c =
    let table = c.args.table.now in
    let reads = c.is_unchanged.ensures.reads in
    let (x, was, may) = c.requires.may in
    let held = holds_reads table g.G.Gate.becomes (c.args.seat.now, c.args.gate.now) (c.is_unchanged.new.seat, c.is_unchanged.new.gate) c.args.job.now reads c.requires.held in
    record {
      held = held;
      may = (x, was, replace_later table c.args.seat.now c.is_unchanged.new.seat c.args.build.now.made.items c.args.build.now.made.items c.args.job.now c.args.raised x was held.seat held.possible reads.goes.stays.0 (reads.goes.stays.1, reads.goes.stays.2, reads.own) refl may);
      loaded = c.is_unchanged.ensures.same c.if-not-is_unchanged.false;
    }

pub returns-clause-run : goal.returns-clause-run
returns-clause-run g c =
    runs_trans c.args.table.now g.G.Gate.becomes (c.args.seat.now, c.args.gate.now) (c.is_unchanged.new.seat, c.is_unchanged.new.gate) (c.publish_change.new.seat, c.publish_change.new.gate)
    (goes_run c.args.table.now g.G.Gate.becomes (c.args.seat.now, c.args.gate.now) (c.is_unchanged.new.seat, c.is_unchanged.new.gate) c.is_unchanged.ensures.reads.goes) c.publish_change.ensures.run

pub returns-clause-changed : goal.returns-clause-changed
returns-clause-changed g c = λ ok x was may.
    let table = c.args.table.now in
    let reads = c.is_unchanged.ensures.reads in
    let held = holds_reads table g.G.Gate.becomes (c.args.seat.now, c.args.gate.now) (c.is_unchanged.new.seat, c.is_unchanged.new.gate) c.args.job.now reads c.requires.held in
    changed_since c.args.seat.now.known c.is_unchanged.new.seat.known c.publish_change.new.seat.known x was reads.goes.stays.0
    (c.publish_change.ensures.changed x was
    (replace_later table c.args.seat.now c.is_unchanged.new.seat c.args.build.now.made.items c.args.build.now.made.items c.args.job.now c.args.raised x was held.seat held.possible reads.goes.stays.0 (reads.goes.stays.1, reads.goes.stays.2, reads.own) refl may))

pub returns-clause-few : goal.returns-clause-few
returns-clause-few g c = omega (arith, c.is_unchanged.ensures.few, c.publish_change.ensures.few)

-- ---- a record that stands in no tree
pub returns-then-not-is_unchanged-clause-spares : goal.returns-then-not-is_unchanged-clause-spares
returns-then-not-is_unchanged-clause-spares g c = λ some was.
    works_spare c.args.table.now g.G.Gate.becomes (c.is_unchanged.new.seat, c.is_unchanged.new.gate) (c.undo_change.new.seat, c.undo_change.new.gate) c.undo_change.ensures.works (goes_spare c.args.table.now g.G.Gate.becomes (c.args.seat.now, c.args.gate.now) (c.is_unchanged.new.seat, c.is_unchanged.new.gate) c.is_unchanged.ensures.reads.goes was)

pub returns-clause-spares : goal.returns-clause-spares
returns-clause-spares g c = λ some was.
    let (x, held, may) = c.requires.may in
    let (n, at) = gone_node c.args.job.now.way.now c.args.job.now.span c.args.raised some may.upto c.requires.held.within.1 in c.publish_change.ensures.spares (by_gone n at)
