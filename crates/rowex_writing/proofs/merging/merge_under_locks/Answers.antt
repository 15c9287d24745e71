-- The store, or the wider locks are given back.
use Rattle.rowex_writing.proofs.build.Spare.{goes_spare}
use Rattle.rowex_writing.proofs.Common.{refl, sym, subst, later_trans}
use Rattle.rowex_writing.specs.build.Changes.{IsDeedChange}
use Rattle.rowex_writing.specs.merging.Merging.{MayMergeInto}
use Rattle.rowex_writing.specs.declared.plan.Deed.TheVariants.{Take}
use Rattle.rowex_writing.proofs.build.Changes.{changed_since}
use Rattle.rowex_writing.proofs.merging.Leaving.{claimed_same}
use Rattle.rowex_writing.proofs.merging.Merging.{wide_on}
use Rattle.rowex_writing.proofs.locks.Runs.{goes_run, runs_trans}
use Rattle.rowex_writing.proofs.merging.merge_under_locks.Goals as goal

pub publish_merge-requires : goal.publish_merge-requires
publish_merge-requires g c =
    let number = c.args.merge.now.number in
    record {
      may = (
        number,
        wide_on c.args.table.now g.G.Gate.becomes (c.args.seat.now, c.args.gate.now) (c.make_merge_records.new.seat, c.make_merge_records.new.gate) c.args.job.now number c.make_merge_records.ensures.goes c.requires.wide,
        subst (λ made. MayMergeInto c.args.table.now c.make_merge_records.new.seat made c.args.job.now number c.in-Some.entry) (sym c.list_merged_records.ensures.made) c.in-Some.ensures.may,
        c.list_merged_records.ensures.gone,
      );
      loaded = λ number value is. c.make_merge_records.ensures.goes.stays.3 number value (c.requires.loaded number value is);
    }

pub returns-in-Some-clause-run : goal.returns-in-Some-clause-run
returns-in-Some-clause-run g c =
    runs_trans c.args.table.now g.G.Gate.becomes (c.args.seat.now, c.args.gate.now) (c.make_merge_records.new.seat, c.make_merge_records.new.gate) (c.publish_merge.new.seat, c.publish_merge.new.gate)
    (goes_run c.args.table.now g.G.Gate.becomes (c.args.seat.now, c.args.gate.now) (c.make_merge_records.new.seat, c.make_merge_records.new.gate) c.make_merge_records.ensures.goes) c.publish_merge.ensures.run

pub returns-in-Some-clause-done : goal.returns-in-Some-clause-done
returns-in-Some-clause-done g c = λ e.
    let job = c.args.job.now in
    let (x, was, is, changed) = c.publish_merge.ensures.done in
    let later = c.make_merge_records.ensures.goes.stays.0 in
    (x, was, subst (λ q. IsDeedChange q Take job.key.now job.value job.found x was) later.pass is, changed_since c.args.seat.now.known c.make_merge_records.new.seat.known c.publish_merge.new.seat.known x was later changed)

pub release_merge_locks-requires : goal.release_merge_locks-requires
release_merge_locks-requires g c = record { wide = wide_on c.args.table.now g.G.Gate.becomes (c.args.seat.now, c.args.gate.now) (c.make_merge_records.new.seat, c.make_merge_records.new.gate) c.args.job.now c.args.merge.now.number c.make_merge_records.ensures.goes c.requires.wide }

pub returns-clause-run : goal.returns-clause-run
returns-clause-run g c =
    runs_trans c.args.table.now g.G.Gate.becomes (c.args.seat.now, c.args.gate.now) (c.make_merge_records.new.seat, c.make_merge_records.new.gate) (c.release_merge_locks.new.seat, c.release_merge_locks.new.gate)
    (goes_run c.args.table.now g.G.Gate.becomes (c.args.seat.now, c.args.gate.now) (c.make_merge_records.new.seat, c.make_merge_records.new.gate) c.make_merge_records.ensures.goes) c.release_merge_locks.ensures.run

pub returns-clause-later : goal.returns-clause-later
returns-clause-later g c = λ e. later_trans c.make_merge_records.ensures.goes.stays.0 c.release_merge_locks.ensures.later

pub returns-clause-same : goal.returns-clause-same
returns-clause-same g c = λ e w.
    let kept = c.in_default.ensures.same refl in
    let s = c.release_merge_locks.ensures.same (wide_on c.args.table.now g.G.Gate.becomes (c.args.seat.now, c.args.gate.now) (c.make_merge_records.new.seat, c.make_merge_records.new.gate) c.args.job.now c.args.merge.now.number c.make_merge_records.ensures.goes w) in
    (s.0, s.1, claimed_same kept s.2)

pub returns-in-Some-clause-spares : goal.returns-in-Some-clause-spares
returns-in-Some-clause-spares g c = λ was. c.publish_merge.ensures.spares

pub returns-clause-spares : goal.returns-clause-spares
returns-clause-spares g c = λ was. c.release_merge_locks.ensures.spares (goes_spare c.args.table.now g.G.Gate.becomes (c.args.seat.now, c.args.gate.now) (c.make_merge_records.new.seat, c.make_merge_records.new.gate) c.make_merge_records.ensures.goes was)
