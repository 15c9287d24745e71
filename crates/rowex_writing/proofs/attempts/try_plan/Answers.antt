-- A refusal, or the change.
use Rattle.rowex_writing.proofs.build.Spare.{goes_room, goes_spare, works_spare}
use Rattle.rowex_writing.proofs.Common.{◌≡◌, inl, inr, ap, refl, sym, subst, ◌∙◌, arith, Err, [], IsSome, length, Fresh, IsFoundAt, value_of, later_trans}
use Rattle.rowex_writing.specs.plan.Asking.{value_in}
use Rattle.rowex_writing.specs.build.Changes.{IsDeedChange}
use Rattle.rowex_writing.specs.build.Deeds.{bounds_of_deed}
use Rattle.rowex_writing.specs.locks.Checks.{HasTakenSpan}
use Rattle.rowex_writing.specs.plan.Planned.{IsPlanned}
use Rattle.rowex_writing.proofs.attempts.Attempted.{ended_run, ends_after}
use Rattle.rowex_writing.proofs.attempts.Attempts.{deed_bounds_fall, one_lock, planned_again, planned_later, refused_busy, refused_failed, failed_later, failed_moved}
use Rattle.rowex_writing.proofs.build.Changes.{changed_since, made_held}
use Rattle.record_words.specs.Layout.{uncommitted_in}
use Rattle.rowex_table.proofs.Committed.{at_most_trans}
use Rattle.rowex_writing.proofs.locks.Going.{goes_bounds}
use Rattle.rowex_writing.proofs.locks.Runs.{goes_run, run_bounds, run_loaded, runs_trans, works_fresh, works_run}
use Rattle.rowex_writing.proofs.store.Values.{held_again, held_few, holds_reads, holds_taken, taken_again}
use Rattle.rowex_writing.proofs.locks.Locks.{works_later}
use Rattle.rowex_writing.proofs.locks.Others.{blocked_hindered, met_or_moved, seen_since}
use Rattle.rowex_writing.proofs.attempts.try_plan.Given as given
use Rattle.rowex_writing.proofs.attempts.try_plan.Goals as goal
use Rattle.rowex_writing.proofs.attempts.try_plan.Goals.{In-Some}
use Rattle.rowex_writing.specs.plan.Counts.{held_loads}
use Rattle.rowex_writing.specs.plan.Plans.{change}
use Rattle.rowex_writing.specs.declared.plan.job.Job.{Job}
use Rattle.rowex_writing.specs.declared.attempts.TryFault.TheVariants.{FullLeaves, FullNodes}
use Rattle.rowex_writing.proofs.build.Building.{building_none, goes_possible}
use Rattle.rowex_writing.proofs.attempts.Named.{found_again, found_other}

-- ---- another pass is at work there
pub returns-then-not-lock_and_check_span-clause-refused : goal.returns-then-not-lock_and_check_span-clause-refused
returns-then-not-lock_and_check_span-clause-refused g c k loaded later =
    let (m, aim, way, planned) = c.requires.planned in
    refused_busy c.args.table.now.layout (bounds_of_deed c.args.job.now.deed c.args.seat.now.bounds) c.args.job.now.key.now k _ _ m _ way.since loaded later c.lock_and_check_span.ensures.later
    (met_or_moved c.args.table.now.layout c.args.seat.now c.lock_and_check_span.new.seat m (c.lock_and_check_span.ensures.busy c.if-not-lock_and_check_span.true m way))

-- ---- what was found is loaded again
pub load_found_again-found-requires : goal.load_found_again-found-requires
load_found_again-found-requires g c =
    let (m, aim, way, planned) = c.requires.planned in
    record { taken = (c.args.job.now.deed, (m, aim, c.lock_and_check_span.ensures.taken c.if-not-lock_and_check_span.false m way, planned_later _ _ _ _ _ _ _ _ c.lock_and_check_span.ensures.later planned)) }

-- ---- the call has nothing to change then
pub release_records_and_locks-requires-clause-span : goal.release_records_and_locks-requires-clause-span
release_records_and_locks-requires-clause-span g c =
    let (m, aim, way, planned) = c.requires.planned in
    holds_reads c.args.table.now g.G.Gate.becomes (c.lock_and_check_span.new.seat, c.lock_and_check_span.new.gate) (c.load_found_again-found.new.seat, c.load_found_again-found.new.gate) c.args.job.now c.load_found_again-found.ensures.reads
    (holds_taken c.args.table.now c.lock_and_check_span.new.seat m c.args.job.now (c.lock_and_check_span.ensures.taken c.if-not-lock_and_check_span.false m way))

pub release_records_and_locks-requires-clause-held : goal.release_records_and_locks-requires-clause-held
release_records_and_locks-requires-clause-held g c =
    let (m, aim, way, planned) = c.requires.planned in
    let taken = c.lock_and_check_span.ensures.taken c.if-not-lock_and_check_span.false m way in
    let held = holds_reads c.args.table.now g.G.Gate.becomes (c.lock_and_check_span.new.seat, c.lock_and_check_span.new.gate) (c.load_found_again-found.new.seat, c.load_found_again-found.new.gate) c.args.job.now c.load_found_again-found.ensures.reads
    (holds_taken c.args.table.now c.lock_and_check_span.new.seat m c.args.job.now taken) in
    made_held c.args.table.now c.load_found_again-found.new.seat [] [] (building_none c.args.table.now c.load_found_again-found.new.seat held.seat held.possible (c.load_found_again-found.ensures.reads.own ∙ taken.own))

pub returns-in_default-clause-run : goal.returns-in_default-clause-run
returns-in_default-clause-run g c =
    let table = c.args.table.now in
    ended_run table g.G.Gate.becomes c.args.job.now (c.args.seat.now, c.args.gate.now) (c.lock_and_check_span.new.seat, c.lock_and_check_span.new.gate) (c.release_records_and_locks.new.seat, c.release_records_and_locks.new.gate) _ c.lock_and_check_span.ensures.run
    (c.lock_and_check_span.ensures.nodes c.if-not-lock_and_check_span.false) c.if-not-lock_and_check_span.false c.requires.within c.requires.planned.2.depth
    (inl (
      runs_trans table g.G.Gate.becomes (c.lock_and_check_span.new.seat, c.lock_and_check_span.new.gate) (c.load_found_again-found.new.seat, c.load_found_again-found.new.gate) (c.release_records_and_locks.new.seat, c.release_records_and_locks.new.gate)
          (goes_run table g.G.Gate.becomes (c.lock_and_check_span.new.seat, c.lock_and_check_span.new.gate) (c.load_found_again-found.new.seat, c.load_found_again-found.new.gate) c.load_found_again-found.ensures.reads.goes)
          (works_run table g.G.Gate.becomes (c.load_found_again-found.new.seat, c.load_found_again-found.new.gate) (c.release_records_and_locks.new.seat, c.release_records_and_locks.new.gate) c.release_records_and_locks.ensures.works),
      omega (arith, c.load_found_again-found.ensures.few, held_few c.args.job.now.found, c.release_records_and_locks.ensures.few),
    ))

pub returns-in_default-clause-done : goal.returns-in_default-clause-done
returns-in_default-clause-done g c =
    let table = c.args.table.now in
    let (m, aim, way, planned) = c.requires.planned in
    let taken = c.lock_and_check_span.ensures.taken c.if-not-lock_and_check_span.false m way in
    let reads = c.load_found_again-found.ensures.reads in
    let (value, again) = c.load_found_again-found.ensures.again in
    inl (found_other table.layout c.args.seat.now.known c.load_found_again-found.new.seat.known c.release_records_and_locks.new.seat.known c.args.call.now c.args.job.now.key.now c.args.job.now.found c.load_found_again-found.result value again
    c.requires.aims c.in_default.ensures
    (goes_possible table g.G.Gate.becomes (c.lock_and_check_span.new.seat, c.lock_and_check_span.new.gate) (c.load_found_again-found.new.seat, c.load_found_again-found.new.gate) reads.goes taken.possible) c.load_found_again-found.ensures.held
    (later_trans c.lock_and_check_span.ensures.later reads.goes.stays.0)
    (works_later table g.G.Gate.becomes (c.load_found_again-found.new.seat, c.load_found_again-found.new.gate) (c.release_records_and_locks.new.seat, c.release_records_and_locks.new.gate) c.release_records_and_locks.ensures.works)
    (ap (λ (z : Fresh). length z.front)
    (works_fresh table g.G.Gate.becomes (c.load_found_again-found.new.seat, c.load_found_again-found.new.gate) (c.release_records_and_locks.new.seat, c.release_records_and_locks.new.gate) c.release_records_and_locks.ensures.works)))

-- ---- the change
again_taken : (g : given.Over) (c : In-Some g) → (m : _) →
    HasTakenSpan c.args.table.now c.lock_and_check_span.new.seat m c.args.job.now.key.now c.args.job.now.way.now c.args.job.now.found c.args.job.now.span →
    HasTakenSpan c.args.table.now c.load_found_again-found.new.seat m c.args.job.now.key.now c.args.job.now.way.now c.load_found_again-found.result c.args.job.now.span
again_taken g c m taken =
    let job = c.args.job.now in
    let (value, again) = c.load_found_again-found.ensures.again in
    subst (λ f. HasTakenSpan c.args.table.now c.load_found_again-found.new.seat m job.key.now job.way.now f job.span) (sym again)
    (taken_again c.args.table.now g.G.Gate.becomes (c.lock_and_check_span.new.seat, c.lock_and_check_span.new.gate) (c.load_found_again-found.new.seat, c.load_found_again-found.new.gate) m job.key.now job.way.now job.found value job.span taken c.load_found_again-found.ensures.reads
    (subst (IsFoundAt c.load_found_again-found.new.seat.known m job.key.now) again (c.load_found_again-found.ensures.found m taken.way_of)))

pub change_span-requires : goal.change_span-requires
change_span-requires g c =
    let at = (goal.at.change_span-requires g c).In-Some in
    let job = c.args.job.now in
    let (m, aim, way, planned) = c.requires.planned in
    let (value, again) = c.load_found_again-found.ensures.again in
    let later = later_trans c.lock_and_check_span.ensures.later c.load_found_again-found.ensures.reads.goes.stays.0 in
    record {
      taken = (
        m,
        aim,
        again_taken g at m (c.lock_and_check_span.ensures.taken c.if-not-lock_and_check_span.false m way),
        subst (λ f. IsPlanned c.load_found_again-found.new.seat.known m job.key.now job.way.now aim f (change job.span.len job.span.end c.args.job.now.deed)) (sym again)
            (planned_again c.load_found_again-found.new.seat.known m job.key.now job.way.now aim job.found value job.span c.args.job.now.deed (planned_later _ _ _ _ _ _ _ _ later planned)),
      );
      loaded = c.load_found_again-found.ensures.loaded;
    }

pub returns-in-Ok-clause-run : goal.returns-in-Ok-clause-run
returns-in-Ok-clause-run g c =
    let table = c.args.table.now in
    let (value, again) = c.load_found_again-found.ensures.again in
    ended_run table g.G.Gate.becomes c.args.job.now (c.args.seat.now, c.args.gate.now) (c.lock_and_check_span.new.seat, c.lock_and_check_span.new.gate) (c.change_span.new.seat, c.change_span.new.gate) _ c.lock_and_check_span.ensures.run
    (c.lock_and_check_span.ensures.nodes c.if-not-lock_and_check_span.false) c.if-not-lock_and_check_span.false c.requires.within c.requires.planned.2.depth
    (ends_after table g.G.Gate.becomes c.args.job.now _ (c.lock_and_check_span.new.seat, c.lock_and_check_span.new.gate) (c.load_found_again-found.new.seat, c.load_found_again-found.new.gate) (c.change_span.new.seat, c.change_span.new.gate) c.load_found_again-found.ensures.reads
    (omega (arith, c.load_found_again-found.ensures.few, held_again c.args.job.now.found value, ap held_loads again)) c.change_span.ensures.run)

pub returns-in-Ok-clause-done : goal.returns-in-Ok-clause-done
returns-in-Ok-clause-done g c =
    let job = c.args.job.now in
    let later = later_trans c.lock_and_check_span.ensures.later c.load_found_again-found.ensures.reads.goes.stays.0 in
    let (value, again) = c.load_found_again-found.ensures.again in
    let (aim, value_is) = c.in-Some.ensures in
    let (x, was, is, changed) = c.change_span.ensures.done c.in-Ok.is in inr (
      found_again c.args.call.now job.found c.load_found_again-found.result value again (subst IsSome (sym aim) refl),
      (
        x,
        was,
        subst (λ q. IsDeedChange q c.args.job.now.deed job.key.now (value_in c.args.call.now (value_of c.load_found_again-found.result)) c.load_found_again-found.result x was) later.pass (subst (λ v. IsDeedChange c.load_found_again-found.new.seat.known.pass c.args.job.now.deed job.key.now v c.load_found_again-found.result x was) value_is is),
        changed_since c.args.seat.now.known c.load_found_again-found.new.seat.known c.change_span.new.seat.known x was later changed,
      ),
    )

-- ---- it failed
pub returns-in-Err-clause-run : goal.returns-in-Err-clause-run
returns-in-Err-clause-run g c =
    let table = c.args.table.now in
    let (value, again) = c.load_found_again-found.ensures.again in
    ended_run table g.G.Gate.becomes c.args.job.now (c.args.seat.now, c.args.gate.now) (c.lock_and_check_span.new.seat, c.lock_and_check_span.new.gate) (c.change_span.new.seat, c.change_span.new.gate) _ c.lock_and_check_span.ensures.run
    (c.lock_and_check_span.ensures.nodes c.if-not-lock_and_check_span.false) c.if-not-lock_and_check_span.false c.requires.within c.requires.planned.2.depth
    (ends_after table g.G.Gate.becomes c.args.job.now _ (c.lock_and_check_span.new.seat, c.lock_and_check_span.new.gate) (c.load_found_again-found.new.seat, c.load_found_again-found.new.gate) (c.change_span.new.seat, c.change_span.new.gate) c.load_found_again-found.ensures.reads
    (omega (arith, c.load_found_again-found.ensures.few, held_again c.args.job.now.found value, ap held_loads again)) c.change_span.ensures.run)

pub returns-in-Err-clause-refused : goal.returns-in-Err-clause-refused
returns-in-Err-clause-refused g c k loaded later =
    let at = (goal.at.returns-in-Err-clause-refused g c).In-Some in
    let table = c.args.table.now in
    let (m, aim, way, planned) = c.requires.planned in
    let taken = again_taken g at m (c.lock_and_check_span.ensures.taken c.if-not-lock_and_check_span.false m way) in
    let locked = run_loaded table g.G.Gate.becomes k (c.args.seat.now, c.args.gate.now) (c.lock_and_check_span.new.seat, c.lock_and_check_span.new.gate) loaded c.lock_and_check_span.ensures.run.1.1 in
    let there = run_loaded table g.G.Gate.becomes k (c.lock_and_check_span.new.seat, c.lock_and_check_span.new.gate) (c.load_found_again-found.new.seat, c.load_found_again-found.new.gate) locked
    (goes_run table g.G.Gate.becomes (c.lock_and_check_span.new.seat, c.lock_and_check_span.new.gate) (c.load_found_again-found.new.seat, c.load_found_again-found.new.gate) c.load_found_again-found.ensures.reads.goes) in
    let now : Job = record { way = c.args.job.now.way; key = c.args.job.now.key; value = c.in-Some.request.value; found = c.load_found_again-found.result; span = c.args.job.now.span; deed = c.args.job.now.deed } in
    let falls = at_most_trans (uncommitted_in c.load_found_again-found.new.seat.bounds) (uncommitted_in c.lock_and_check_span.new.seat.bounds) (uncommitted_in c.args.seat.now.bounds)
    (goes_bounds table g.G.Gate.becomes (c.lock_and_check_span.new.seat, c.lock_and_check_span.new.gate) (c.load_found_again-found.new.seat, c.load_found_again-found.new.gate) c.load_found_again-found.ensures.reads.goes)
    (run_bounds table g.G.Gate.becomes (c.args.seat.now, c.args.gate.now) (c.lock_and_check_span.new.seat, c.lock_and_check_span.new.gate) c.lock_and_check_span.ensures.run.1.1) in
    refused_failed table.layout (bounds_of_deed c.args.job.now.deed c.load_found_again-found.new.seat.bounds) (bounds_of_deed c.args.job.now.deed c.args.seat.now.bounds)
    (deed_bounds_fall c.args.job.now.deed c.load_found_again-found.new.seat.bounds c.args.seat.now.bounds falls) now k c.load_found_again-found.new.seat.known _ _ c.in-Err.fault m taken.way_of there
    (later_trans later (later_trans c.lock_and_check_span.ensures.later c.load_found_again-found.ensures.reads.goes.stays.0)) c.in-Err.ensures.failed

pub returns-in-Err-clause-leafless : goal.returns-in-Err-clause-leafless
returns-in-Err-clause-leafless g c take is = let same : c.in-Err.fault ≡ FullLeaves = cc in c.change_span.ensures.leafless take (c.in-Err.is ∙ ap Err same)

-- ---- what it leaves
pub returns-in-Err-clause-later : goal.returns-in-Err-clause-later
returns-in-Err-clause-later g c =
    let now : Job = record { way = c.args.job.now.way; key = c.args.job.now.key; value = c.in-Some.request.value; found = c.load_found_again-found.result; span = c.args.job.now.span; deed = c.args.job.now.deed } in
    later_trans c.lock_and_check_span.ensures.later (later_trans c.load_found_again-found.ensures.reads.goes.stays.0 (failed_later c.args.table.now.layout (bounds_of_deed c.args.job.now.deed c.load_found_again-found.new.seat.bounds) now c.load_found_again-found.new.seat.known c.change_span.new.seat.known _ c.in-Err.fault c.in-Err.ensures.failed))

pub returns-in-Err-clause-whole : goal.returns-in-Err-clause-whole
returns-in-Err-clause-whole g c e = let ok = sym c.in-Err.is ∙ c.change_span.ensures.whole e in absurd cc

-- ---- how many steps a new value takes
pub returns-then-not-lock_and_check_span-clause-short : goal.returns-then-not-lock_and_check_span-clause-short
returns-then-not-lock_and_check_span-clause-short g c e =
    let (m, aim, way, planned) = c.requires.planned in
    let one = one_lock c.args.seat.now.known m c.args.job.now.key.now c.args.job.now.way.now aim c.args.job.now.found c.args.job.now.span c.args.job.now.deed planned e in
    let (locks, tried, some, upto, each, few) = c.lock_and_check_span.ensures.run in
    omega (arith, one, upto, few)

pub returns-in_default-clause-short : goal.returns-in_default-clause-short
returns-in_default-clause-short g c e =
    let (m, aim, way, planned) = c.requires.planned in
    let one = one_lock c.args.seat.now.known m c.args.job.now.key.now c.args.job.now.way.now aim c.args.job.now.found c.args.job.now.span c.args.job.now.deed planned e in
    let (locks, tried, some, upto, each, few) = c.lock_and_check_span.ensures.run in
    omega (arith, one, upto, few, c.load_found_again-found.ensures.few, held_few c.args.job.now.found, c.release_records_and_locks.ensures.few)

pub returns-in-Ok-clause-short : goal.returns-in-Ok-clause-short
returns-in-Ok-clause-short g c e =
    let (m, aim, way, planned) = c.requires.planned in
    let one = one_lock c.args.seat.now.known m c.args.job.now.key.now c.args.job.now.way.now aim c.args.job.now.found c.args.job.now.span c.args.job.now.deed planned e in
    let (locks, tried, some, upto, each, few) = c.lock_and_check_span.ensures.run in
    omega (arith, one, upto, few, c.load_found_again-found.ensures.few, held_few c.args.job.now.found, c.change_span.ensures.short e)

pub returns-in-Err-clause-short : goal.returns-in-Err-clause-short
returns-in-Err-clause-short g c e = let ok = sym c.in-Err.is ∙ c.change_span.ensures.whole e in absurd cc

-- ---- a record that stands in no tree
pub returns-in_default-clause-spares : goal.returns-in_default-clause-spares
returns-in_default-clause-spares g c = λ was.
    works_spare c.args.table.now g.G.Gate.becomes (c.load_found_again-found.new.seat, c.load_found_again-found.new.gate) (c.release_records_and_locks.new.seat, c.release_records_and_locks.new.gate) c.release_records_and_locks.ensures.works
    (goes_spare c.args.table.now g.G.Gate.becomes (c.lock_and_check_span.new.seat, c.lock_and_check_span.new.gate) (c.load_found_again-found.new.seat, c.load_found_again-found.new.gate) c.load_found_again-found.ensures.reads.goes (c.lock_and_check_span.ensures.spares was))

pub returns-in-Ok-clause-spares : goal.returns-in-Ok-clause-spares
returns-in-Ok-clause-spares g c = λ was. c.change_span.ensures.spares (goes_spare c.args.table.now g.G.Gate.becomes (c.lock_and_check_span.new.seat, c.lock_and_check_span.new.gate) (c.load_found_again-found.new.seat, c.load_found_again-found.new.gate) c.load_found_again-found.ensures.reads.goes (c.lock_and_check_span.ensures.spares was))

pub returns-in-Err-clause-spares : goal.returns-in-Err-clause-spares
returns-in-Err-clause-spares g c = λ was. c.change_span.ensures.spares (goes_spare c.args.table.now g.G.Gate.becomes (c.lock_and_check_span.new.seat, c.lock_and_check_span.new.gate) (c.load_found_again-found.new.seat, c.load_found_again-found.new.gate) c.load_found_again-found.ensures.reads.goes (c.lock_and_check_span.ensures.spares was))

-- ---- and one is found
pub returns-in-Err-clause-finds : goal.returns-in-Err-clause-finds
returns-in-Err-clause-finds g c = λ take room is.
    let same : c.in-Err.fault ≡ FullNodes = cc in
    let (m, aim, way, planned) = c.requires.planned in
    let taken = c.lock_and_check_span.ensures.taken c.if-not-lock_and_check_span.false m way in
    let reads = c.load_found_again-found.ensures.reads in
    c.change_span.ensures.finds take
    (goes_room c.args.table.now g.G.Gate.becomes (c.lock_and_check_span.new.seat, c.lock_and_check_span.new.gate) (c.load_found_again-found.new.seat, c.load_found_again-found.new.gate) reads.goes (reads.own ∙ taken.own) (c.lock_and_check_span.ensures.room c.if-not-lock_and_check_span.false room)) (c.in-Err.is ∙ ap Err same)

-- ---- what was in the way
pub returns-then-not-lock_and_check_span-clause-hindered : goal.returns-then-not-lock_and_check_span-clause-hindered
returns-then-not-lock_and_check_span-clause-hindered g c = λ is.
    let (m, aim, way, planned) = c.requires.planned in
    blocked_hindered c.args.table.now.layout c.args.seat.now c.lock_and_check_span.new.seat m way.since (c.lock_and_check_span.ensures.busy c.if-not-lock_and_check_span.true m way)

pub returns-in-Err-clause-hindered : goal.returns-in-Err-clause-hindered
returns-in-Err-clause-hindered g c = λ is.
    let at = (goal.at.returns-in-Err-clause-hindered g c).In-Some in
    let (m, aim, way, planned) = c.requires.planned in
    let taken = again_taken g at m (c.lock_and_check_span.ensures.taken c.if-not-lock_and_check_span.false m way) in
    let now : Job = record { way = c.args.job.now.way; key = c.args.job.now.key; value = c.in-Some.request.value; found = c.load_found_again-found.result; span = c.args.job.now.span; deed = c.args.job.now.deed } in
    seen_since c.args.table.now.layout c.args.seat.now c.change_span.new.seat m way.since
    (failed_moved c.args.table.now.layout (bounds_of_deed c.args.job.now.deed c.load_found_again-found.new.seat.bounds) now c.load_found_again-found.new.seat.known c.change_span.new.seat.known _ c.in-Err.fault m taken.way_of c.in-Err.ensures.failed is)
