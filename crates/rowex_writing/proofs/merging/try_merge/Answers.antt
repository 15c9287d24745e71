-- The node beside, the wider locks, and the store under them.
use Rattle.rowex_writing.proofs.build.Spare.{goes_spare}
use Rattle.rowex_writing.proofs.Common.{sym, ◌∙◌, subst, arith, later_trans, IsWayOf}
use Rattle.rowex_writing.specs.build.Changes.{IsDeedChange}
use Rattle.rowex_writing.specs.locks.Locks.{span_numbers}
use Rattle.rowex_writing.specs.merging.Merging.{HasTriedUpToTwoMore}
use Rattle.rowex_writing.specs.declared.plan.Deed.TheVariants.{Take}
use Rattle.rowex_writing.proofs.build.Changes.{changed_since}
use Rattle.rowex_writing.proofs.merging.Leaving.{claimed_same, left_on, left_wider}
use Rattle.rowex_writing.proofs.merging.Merging.{beside_wider, beside_on, way_wide, wide_on}
use Rattle.rowex_writing.proofs.locks.Onward.{run_possible, run_seat}
use Rattle.rowex_writing.proofs.locks.Runs.{goes_run, run_none, runs_trans}
use Rattle.rowex_writing.proofs.merging.widening.Widening.{few_both, few_more}
use Rattle.rowex_writing.proofs.merging.try_merge.Goals as goal
use Rattle.rowex_writing.proofs.locks.Going.{seat_of}
use Rattle.rowex_writing.proofs.build.Building.{goes_possible}
use Rattle.rowex_writing.proofs.store.Values.{held_few}

pub returns-then-not-lock_for_merge-clause-tries : goal.returns-then-not-lock_for_merge-clause-tries
returns-then-not-lock_for_merge-clause-tries g c =
    few_more c.args.table.now g.G.Gate.becomes (span_numbers c.args.job.now.way.now c.args.job.now.span) c.args.build.now.walk.left 53 c.lock_for_merge.result (c.args.seat.now, c.args.gate.now) (c.args.seat.now, c.args.gate.now) (c.lock_for_merge.new.seat, c.lock_for_merge.new.gate)
    (run_none c.args.table.now g.G.Gate.becomes (c.args.seat.now, c.args.gate.now)) c.lock_for_merge.ensures.tries (omega (arith, c.lock_for_merge.ensures.few))

pub returns-then-not-lock_for_merge-clause-later : goal.returns-then-not-lock_for_merge-clause-later
returns-then-not-lock_for_merge-clause-later g c = λ e. (c.lock_for_merge.ensures.later.0, c.lock_for_merge.ensures.later.1, c.lock_for_merge.ensures.later.2)

pub returns-then-not-lock_for_merge-clause-same : goal.returns-then-not-lock_for_merge-clause-same
returns-then-not-lock_for_merge-clause-same g c = λ e. let s = c.lock_for_merge.ensures.same c.if-not-lock_for_merge.true in (s.0, s.1, claimed_same c.requires.claimed s.2)

-- the value is loaded once more
pub is_unchanged-requires-clause-own : goal.is_unchanged-requires-clause-own
is_unchanged-requires-clause-own g c = c.lock_for_merge.ensures.later.1

pub is_unchanged-requires-clause-possible : goal.is_unchanged-requires-clause-possible
is_unchanged-requires-clause-possible g c = c.lock_for_merge.ensures.later.2

pub is_unchanged-requires-clause-from : goal.is_unchanged-requires-clause-from
is_unchanged-requires-clause-from g c =
    let job = c.args.job.now in
    let (w, locks, anchor) = c.lock_for_merge.ensures.wide c.if-not-lock_for_merge.false in
    (w.taking.since, subst (IsWayOf c.args.table.now.layout c.lock_for_merge.new.seat.known w.taking.since job.key.now job.way.now) (sym w.taking.found) (way_wide c.args.table.now c.lock_for_merge.new.seat job c.args.merge.now.number w))

-- it is another: the wider locks are given back
pub release_merge_locks-requires : goal.release_merge_locks-requires
release_merge_locks-requires g c =
    let (w, locks, anchor) = c.lock_for_merge.ensures.wide c.if-not-lock_for_merge.false in
    record { wide = wide_on c.args.table.now g.G.Gate.becomes (c.lock_for_merge.new.seat, c.lock_for_merge.new.gate) (c.is_unchanged.new.seat, c.is_unchanged.new.gate) c.args.job.now c.args.merge.now.number c.is_unchanged.ensures.reads.goes w }

pub returns-then-not-is_unchanged-clause-tries : goal.returns-then-not-is_unchanged-clause-tries
returns-then-not-is_unchanged-clause-tries g c =
    let table = c.args.table.now in
    few_both table g.G.Gate.becomes (span_numbers c.args.job.now.way.now c.args.job.now.span) c.args.build.now.walk.left (c.args.seat.now, c.args.gate.now) (c.args.seat.now, c.args.gate.now) (c.lock_for_merge.new.seat, c.lock_for_merge.new.gate) (c.release_merge_locks.new.seat, c.release_merge_locks.new.gate)
    (run_none table g.G.Gate.becomes (c.args.seat.now, c.args.gate.now))
    (subst (λ both. HasTriedUpToTwoMore table g.G.Gate.becomes (span_numbers c.args.job.now.way.now c.args.job.now.span) both (c.args.seat.now, c.args.gate.now) (c.lock_for_merge.new.seat, c.lock_for_merge.new.gate)) c.if-not-lock_for_merge.false c.lock_for_merge.ensures.tries)
    (runs_trans table g.G.Gate.becomes (c.lock_for_merge.new.seat, c.lock_for_merge.new.gate) (c.is_unchanged.new.seat, c.is_unchanged.new.gate) (c.release_merge_locks.new.seat, c.release_merge_locks.new.gate)
    (goes_run table g.G.Gate.becomes (c.lock_for_merge.new.seat, c.lock_for_merge.new.gate) (c.is_unchanged.new.seat, c.is_unchanged.new.gate) c.is_unchanged.ensures.reads.goes) c.release_merge_locks.ensures.run)
    (omega (arith, c.lock_for_merge.ensures.few, c.is_unchanged.ensures.few, held_few c.args.job.now.found, c.release_merge_locks.ensures.few))

pub returns-then-not-is_unchanged-clause-later : goal.returns-then-not-is_unchanged-clause-later
returns-then-not-is_unchanged-clause-later g c = λ e.
    let table = c.args.table.now in
    let l = c.lock_for_merge.ensures.later in
    let reads = c.is_unchanged.ensures.reads in
    let own = seat_of table g.G.Gate.becomes (c.lock_for_merge.new.seat, c.lock_for_merge.new.gate) (c.is_unchanged.new.seat, c.is_unchanged.new.gate) reads.goes l.1 in
    let possible = goes_possible table g.G.Gate.becomes (c.lock_for_merge.new.seat, c.lock_for_merge.new.gate) (c.is_unchanged.new.seat, c.is_unchanged.new.gate) reads.goes l.2 in (
      later_trans l.0 (later_trans reads.goes.stays.0 c.release_merge_locks.ensures.later),
      run_seat table g.G.Gate.becomes (c.is_unchanged.new.seat, c.is_unchanged.new.gate) (c.release_merge_locks.new.seat, c.release_merge_locks.new.gate) c.release_merge_locks.ensures.run own,
      run_possible table g.G.Gate.becomes (c.is_unchanged.new.seat, c.is_unchanged.new.gate) (c.release_merge_locks.new.seat, c.release_merge_locks.new.gate) c.release_merge_locks.ensures.run possible,
    )

pub returns-then-not-is_unchanged-clause-same : goal.returns-then-not-is_unchanged-clause-same
returns-then-not-is_unchanged-clause-same g c = λ e.
    let (w, locks, anchor) = c.lock_for_merge.ensures.wide c.if-not-lock_for_merge.false in
    let s = c.release_merge_locks.ensures.same
    (wide_on c.args.table.now g.G.Gate.becomes (c.lock_for_merge.new.seat, c.lock_for_merge.new.gate) (c.is_unchanged.new.seat, c.is_unchanged.new.gate) c.args.job.now c.args.merge.now.number c.is_unchanged.ensures.reads.goes w) in
    (s.0 ∙ locks, s.1 ∙ anchor, claimed_same c.requires.claimed (s.2 ∙ (c.is_unchanged.ensures.reads.own ∙ c.lock_for_merge.ensures.later.3)))

-- it is the same
pub merge_under_locks-requires-clause-wide : goal.merge_under_locks-requires-clause-wide
merge_under_locks-requires-clause-wide g c =
    let (w, locks, anchor) = c.lock_for_merge.ensures.wide c.if-not-lock_for_merge.false in
    wide_on c.args.table.now g.G.Gate.becomes (c.lock_for_merge.new.seat, c.lock_for_merge.new.gate) (c.is_unchanged.new.seat, c.is_unchanged.new.gate) c.args.job.now c.args.merge.now.number c.is_unchanged.ensures.reads.goes w

pub merge_under_locks-requires-clause-beside : goal.merge_under_locks-requires-clause-beside
merge_under_locks-requires-clause-beside g c =
    let (w, locks, anchor) = c.lock_for_merge.ensures.wide c.if-not-lock_for_merge.false in
    beside_on c.lock_for_merge.new.seat.known c.is_unchanged.new.seat.known c.args.job.now c.args.merge.now c.is_unchanged.ensures.reads.goes.stays.1
    (beside_wider c.args.table.now c.args.seat.now.known c.lock_for_merge.new.seat c.args.job.now c.args.merge.now w locks c.requires.beside)

pub merge_under_locks-requires-clause-claimed : goal.merge_under_locks-requires-clause-claimed
merge_under_locks-requires-clause-claimed g c = claimed_same c.requires.claimed (c.is_unchanged.ensures.reads.own ∙ c.lock_for_merge.ensures.later.3)

pub merge_under_locks-requires-clause-left : goal.merge_under_locks-requires-clause-left
merge_under_locks-requires-clause-left g c =
    let (w, locks, anchor) = c.lock_for_merge.ensures.wide c.if-not-lock_for_merge.false in
    left_on c.lock_for_merge.new.seat.known c.is_unchanged.new.seat.known c.args.job.now c.args.merge.now.left.now.words c.is_unchanged.ensures.reads.goes.stays.1
    (left_wider c.args.table.now c.lock_for_merge.new.seat c.args.job.now c.args.merge.now.number w c.args.seat.now.known c.args.merge.now.left.now.words locks c.requires.left)

pub merge_under_locks-requires-clause-loaded : goal.merge_under_locks-requires-clause-loaded
merge_under_locks-requires-clause-loaded g c = c.is_unchanged.ensures.same c.if-not-is_unchanged.false

pub returns-clause-tries : goal.returns-clause-tries
returns-clause-tries g c =
    let table = c.args.table.now in
    few_both table g.G.Gate.becomes (span_numbers c.args.job.now.way.now c.args.job.now.span) c.args.build.now.walk.left (c.args.seat.now, c.args.gate.now) (c.args.seat.now, c.args.gate.now) (c.lock_for_merge.new.seat, c.lock_for_merge.new.gate) (c.merge_under_locks.new.seat, c.merge_under_locks.new.gate)
    (run_none table g.G.Gate.becomes (c.args.seat.now, c.args.gate.now))
    (subst (λ both. HasTriedUpToTwoMore table g.G.Gate.becomes (span_numbers c.args.job.now.way.now c.args.job.now.span) both (c.args.seat.now, c.args.gate.now) (c.lock_for_merge.new.seat, c.lock_for_merge.new.gate)) c.if-not-lock_for_merge.false c.lock_for_merge.ensures.tries)
    (runs_trans table g.G.Gate.becomes (c.lock_for_merge.new.seat, c.lock_for_merge.new.gate) (c.is_unchanged.new.seat, c.is_unchanged.new.gate) (c.merge_under_locks.new.seat, c.merge_under_locks.new.gate)
    (goes_run table g.G.Gate.becomes (c.lock_for_merge.new.seat, c.lock_for_merge.new.gate) (c.is_unchanged.new.seat, c.is_unchanged.new.gate) c.is_unchanged.ensures.reads.goes) c.merge_under_locks.ensures.run)
    (omega (arith, c.lock_for_merge.ensures.few, c.is_unchanged.ensures.few, held_few c.args.job.now.found, c.merge_under_locks.ensures.few))

pub returns-clause-done : goal.returns-clause-done
returns-clause-done g c = λ e.
    let job = c.args.job.now in
    let (x, was, is, changed) = c.merge_under_locks.ensures.done e in
    let later = later_trans c.lock_for_merge.ensures.later.0 c.is_unchanged.ensures.reads.goes.stays.0 in
    (x, was, subst (λ q. IsDeedChange q Take job.key.now job.value job.found x was) later.pass is, changed_since c.args.seat.now.known c.is_unchanged.new.seat.known c.merge_under_locks.new.seat.known x was later changed)

pub returns-clause-later : goal.returns-clause-later
returns-clause-later g c = λ e.
    let table = c.args.table.now in
    let l = c.lock_for_merge.ensures.later in
    let reads = c.is_unchanged.ensures.reads in
    let own = seat_of table g.G.Gate.becomes (c.lock_for_merge.new.seat, c.lock_for_merge.new.gate) (c.is_unchanged.new.seat, c.is_unchanged.new.gate) reads.goes l.1 in
    let possible = goes_possible table g.G.Gate.becomes (c.lock_for_merge.new.seat, c.lock_for_merge.new.gate) (c.is_unchanged.new.seat, c.is_unchanged.new.gate) reads.goes l.2 in (
      later_trans l.0 (later_trans reads.goes.stays.0 (c.merge_under_locks.ensures.later e)),
      run_seat table g.G.Gate.becomes (c.is_unchanged.new.seat, c.is_unchanged.new.gate) (c.merge_under_locks.new.seat, c.merge_under_locks.new.gate) c.merge_under_locks.ensures.run own,
      run_possible table g.G.Gate.becomes (c.is_unchanged.new.seat, c.is_unchanged.new.gate) (c.merge_under_locks.new.seat, c.merge_under_locks.new.gate) c.merge_under_locks.ensures.run possible,
    )

pub returns-clause-same : goal.returns-clause-same
returns-clause-same g c = λ e.
    let (w, locks, anchor) = c.lock_for_merge.ensures.wide c.if-not-lock_for_merge.false in
    let s = c.merge_under_locks.ensures.same e
    (wide_on c.args.table.now g.G.Gate.becomes (c.lock_for_merge.new.seat, c.lock_for_merge.new.gate) (c.is_unchanged.new.seat, c.is_unchanged.new.gate) c.args.job.now c.args.merge.now.number c.is_unchanged.ensures.reads.goes w) in
    (s.0 ∙ locks, s.1 ∙ anchor, s.2)

pub returns-then-not-is_unchanged-clause-spares : goal.returns-then-not-is_unchanged-clause-spares
returns-then-not-is_unchanged-clause-spares g c = λ was.
    c.release_merge_locks.ensures.spares (goes_spare c.args.table.now g.G.Gate.becomes (c.lock_for_merge.new.seat, c.lock_for_merge.new.gate) (c.is_unchanged.new.seat, c.is_unchanged.new.gate) c.is_unchanged.ensures.reads.goes (c.lock_for_merge.ensures.spares was))

pub returns-clause-spares : goal.returns-clause-spares
returns-clause-spares g c = λ was.
    c.merge_under_locks.ensures.spares (goes_spare c.args.table.now g.G.Gate.becomes (c.lock_for_merge.new.seat, c.lock_for_merge.new.gate) (c.is_unchanged.new.seat, c.is_unchanged.new.gate) c.is_unchanged.ensures.reads.goes (c.lock_for_merge.ensures.spares was))
