-- The locks are taken, and what is found under them is what the search found; or all are given back.
use Rattle.rowex_writing.proofs.build.Spare.{goes_room, goes_spare, works_room, works_spare}
use Rattle.rowex_writing.proofs.Common.{◌≡◌, true, false, inl, inr, ◌∙◌, arith, later_trans, way_later}
use Rattle.rowex_writing.proofs.locks.Onward.{longer, run_possible, run_seat}
use Rattle.rowex_writing.proofs.locks.Checks.{span_later}
use Rattle.rowex_writing.specs.locks.Locks.{span_numbers}
use Rattle.rowex_writing.proofs.locks.Tried.{nodes_then}
use Rattle.rowex_writing.proofs.locks.Runs.{goes_run, nodes_run, once_run, tries_once, works_run}
use Rattle.rowex_writing.proofs.locks.Ways.{way_apart, way_led}
use Rattle.rowex_writing.proofs.locks.Locks.{works_count, works_later, works_seat}
use Rattle.rowex_writing.proofs.attempts.lock_and_check_span.Goals as goal

not_taken : {A : Type 0} → false ≡ true → A
not_taken e = absurd (cc)

pub lock_span-requires-clause-led : goal.lock_span-requires-clause-led
lock_span-requires-clause-led g c = way_led c.args.table.now.layout c.args.seat.now.known c.requires.way.0 c.args.job.now.key.now c.args.job.now.way.now c.args.job.now.found c.requires.way.1

pub lock_span-requires-clause-apart : goal.lock_span-requires-clause-apart
lock_span-requires-clause-apart g c = way_apart c.args.table.now.layout c.args.seat.now.known c.requires.way.0 c.args.job.now.key.now c.args.job.now.found c.args.job.now.way.now c.requires.possible c.requires.way.1

pub returns-then-not-lock_span-clause-run : goal.returns-then-not-lock_span-clause-run
returns-then-not-lock_span-clause-run g c =
    let (locks, tries, low, all, few) = c.lock_span.ensures.tries in
    let on = works_count c.args.table.now g.G.Gate.becomes (c.args.seat.now, c.args.gate.now) (c.lock_span.new.seat, c.lock_span.new.gate) tries.1 in (locks, tries_once c.args.table.now g.G.Gate.becomes (c.args.seat.now, c.args.gate.now) (c.lock_span.new.seat, c.lock_span.new.gate) tries, omega (arith, few, on), low, λ e. not_taken e, omega (arith, few))

pub returns-then-not-lock_span-clause-later : goal.returns-then-not-lock_span-clause-later
returns-then-not-lock_span-clause-later g c = works_later c.args.table.now g.G.Gate.becomes (c.args.seat.now, c.args.gate.now) (c.lock_span.new.seat, c.lock_span.new.gate) c.lock_span.ensures.tries.1.1

pub check_span-requires : goal.check_span-requires
check_span-requires g c =
    let tries = c.lock_span.ensures.tries.1.1 in
    let (m, w) = c.requires.way in
    record {
      held = record {
        seat = works_seat c.args.table.now g.G.Gate.becomes (c.args.seat.now, c.args.gate.now) (c.lock_span.new.seat, c.lock_span.new.gate) tries c.requires.own;
        possible = run_possible c.args.table.now g.G.Gate.becomes (c.args.seat.now, c.args.gate.now) (c.lock_span.new.seat, c.lock_span.new.gate) (works_run c.args.table.now g.G.Gate.becomes (c.args.seat.now, c.args.gate.now) (c.lock_span.new.seat, c.lock_span.new.gate) tries) c.requires.possible;
        within = c.requires.within;
        from = (m, way_later c.args.table.now.layout c.args.seat.now.known c.lock_span.new.seat.known m c.args.job.now.key.now c.args.job.now.way.now c.args.job.now.found (works_later c.args.table.now g.G.Gate.becomes (c.args.seat.now, c.args.gate.now) (c.lock_span.new.seat, c.lock_span.new.gate) tries) w);
        locked = c.lock_span.ensures.locked c.if-not-lock_span.false;
      };
    }

pub returns-then-check_span-clause-run : goal.returns-then-check_span-clause-run
returns-then-check_span-clause-run g c =
    let table = c.args.table.now in
    let (locks, tries, low, all, steps) = c.lock_span.ensures.tries in
    let whole = all c.if-not-lock_span.false in (
      locks,
      once_run table g.G.Gate.becomes (c.args.seat.now, c.args.gate.now) (c.lock_span.new.seat, c.lock_span.new.gate) (c.check_span.new.seat, c.check_span.new.gate) (tries_once table g.G.Gate.becomes (c.args.seat.now, c.args.gate.now) (c.lock_span.new.seat, c.lock_span.new.gate) tries) (goes_run table g.G.Gate.becomes (c.lock_span.new.seat, c.lock_span.new.gate) (c.check_span.new.seat, c.check_span.new.gate) c.check_span.ensures.reads.goes),
      omega (arith, whole),
      low,
      λ e. whole,
      omega (arith, whole, steps, c.check_span.ensures.few),
    )

pub returns-then-check_span-clause-later : goal.returns-then-check_span-clause-later
returns-then-check_span-clause-later g c =
    later_trans (works_later c.args.table.now g.G.Gate.becomes (c.args.seat.now, c.args.gate.now) (c.lock_span.new.seat, c.lock_span.new.gate) c.lock_span.ensures.tries.1.1)
    c.check_span.ensures.reads.goes.stays.0

pub returns-then-check_span-clause-taken : goal.returns-then-check_span-clause-taken
returns-then-check_span-clause-taken g c e m w =
    let table = c.args.table.now in
    record {
      seat = run_seat table g.G.Gate.becomes (c.lock_span.new.seat, c.lock_span.new.gate) (c.check_span.new.seat, c.check_span.new.gate) (goes_run table g.G.Gate.becomes (c.lock_span.new.seat, c.lock_span.new.gate) (c.check_span.new.seat, c.check_span.new.gate) c.check_span.ensures.reads.goes) (works_seat table g.G.Gate.becomes (c.args.seat.now, c.args.gate.now) (c.lock_span.new.seat, c.lock_span.new.gate) c.lock_span.ensures.tries.1.1 c.requires.own);
      possible = c.check_span.ensures.possible;
      own = c.check_span.ensures.reads.own ∙ (c.lock_span.ensures.same ∙ c.requires.rest.own);
      within = c.requires.within;
      way_of = way_later table.layout c.args.seat.now.known c.check_span.new.seat.known m c.args.job.now.key.now c.args.job.now.way.now c.args.job.now.found
          (later_trans (works_later table g.G.Gate.becomes (c.args.seat.now, c.args.gate.now) (c.lock_span.new.seat, c.lock_span.new.gate) c.lock_span.ensures.tries.1.1) c.check_span.ensures.reads.goes.stays.0) w;
      locked = span_later _ _ c.args.job.now.way.now c.args.job.now.span c.check_span.ensures.reads.goes.stays.1 c.check_span.ensures.reads.goes.stays.2 (c.lock_span.ensures.locked c.if-not-lock_span.false);
      checked = c.check_span.ensures.checked c.if-check_span.true;
    }

pub release_records_and_locks-requires-clause-span : goal.release_records_and_locks-requires-clause-span
release_records_and_locks-requires-clause-span g c =
    let table = c.args.table.now in
    let job = c.args.job.now in
    let tries = c.lock_span.ensures.tries.1.1 in
    let goes = c.check_span.ensures.reads.goes in
    let (m, w) = c.requires.way in
    record {
      seat = run_seat table g.G.Gate.becomes (c.lock_span.new.seat, c.lock_span.new.gate) (c.check_span.new.seat, c.check_span.new.gate) (goes_run table g.G.Gate.becomes (c.lock_span.new.seat, c.lock_span.new.gate) (c.check_span.new.seat, c.check_span.new.gate) goes) (works_seat table g.G.Gate.becomes (c.args.seat.now, c.args.gate.now) (c.lock_span.new.seat, c.lock_span.new.gate) tries c.requires.own);
      possible = c.check_span.ensures.possible;
      within = c.requires.within;
      from = (m, way_later table.layout c.args.seat.now.known c.check_span.new.seat.known m job.key.now job.way.now job.found (later_trans (works_later table g.G.Gate.becomes (c.args.seat.now, c.args.gate.now) (c.lock_span.new.seat, c.lock_span.new.gate) tries) goes.stays.0) w);
      locked = span_later _ _ job.way.now job.span goes.stays.1 goes.stays.2 (c.lock_span.ensures.locked c.if-not-lock_span.false);
    }

pub returns-clause-run : goal.returns-clause-run
returns-clause-run g c =
    let table = c.args.table.now in
    let (locks, tries, low, all, steps) = c.lock_span.ensures.tries in
    let whole = all c.if-not-lock_span.false in (
      locks,
      once_run table g.G.Gate.becomes (c.args.seat.now, c.args.gate.now) (c.check_span.new.seat, c.check_span.new.gate) (c.release_records_and_locks.new.seat, c.release_records_and_locks.new.gate)
          (once_run table g.G.Gate.becomes (c.args.seat.now, c.args.gate.now) (c.lock_span.new.seat, c.lock_span.new.gate) (c.check_span.new.seat, c.check_span.new.gate) (tries_once table g.G.Gate.becomes (c.args.seat.now, c.args.gate.now) (c.lock_span.new.seat, c.lock_span.new.gate) tries) (goes_run table g.G.Gate.becomes (c.lock_span.new.seat, c.lock_span.new.gate) (c.check_span.new.seat, c.check_span.new.gate) c.check_span.ensures.reads.goes))
          (works_run table g.G.Gate.becomes (c.check_span.new.seat, c.check_span.new.gate) (c.release_records_and_locks.new.seat, c.release_records_and_locks.new.gate) c.release_records_and_locks.ensures.works),
      omega (arith, whole),
      low,
      λ e. not_taken e,
      omega (arith, whole, c.lock_span.ensures.few c.if-not-lock_span.false, c.check_span.ensures.few, c.release_records_and_locks.ensures.few, c.requires.within.0),
    )

pub returns-clause-later : goal.returns-clause-later
returns-clause-later g c =
    let table = c.args.table.now in
    later_trans (later_trans (works_later table g.G.Gate.becomes (c.args.seat.now, c.args.gate.now) (c.lock_span.new.seat, c.lock_span.new.gate) c.lock_span.ensures.tries.1.1) c.check_span.ensures.reads.goes.stays.0) (works_later table g.G.Gate.becomes (c.check_span.new.seat, c.check_span.new.gate) (c.release_records_and_locks.new.seat, c.release_records_and_locks.new.gate) c.release_records_and_locks.ensures.works)

pub returns-clause-busy : goal.returns-clause-busy
returns-clause-busy g c t m w =
    let table = c.args.table.now in
    let there = way_later table.layout c.args.seat.now.known c.lock_span.new.seat.known m c.args.job.now.key.now c.args.job.now.way.now c.args.job.now.found
    (works_later table g.G.Gate.becomes (c.args.seat.now, c.args.gate.now) (c.lock_span.new.seat, c.lock_span.new.gate) c.lock_span.ensures.tries.1.1) w in
    let moved = c.check_span.ensures.changed m there c.if-check_span.false in
    let more = longer c.check_span.new.seat.known c.release_records_and_locks.new.seat.known (works_later table g.G.Gate.becomes (c.check_span.new.seat, c.check_span.new.gate) (c.release_records_and_locks.new.seat, c.release_records_and_locks.new.gate) c.release_records_and_locks.ensures.works) in
    inr (omega (arith, moved, more))

pub returns-then-not-lock_span-clause-busy : goal.returns-then-not-lock_span-clause-busy
returns-then-not-lock_span-clause-busy g c = λ e m w. inl (c.lock_span.ensures.refused c.if-not-lock_span.true).1

pub returns-then-not-lock_span-clause-rest : goal.returns-then-not-lock_span-clause-rest
returns-then-not-lock_span-clause-rest g c = λ e.
    let free = (c.lock_span.ensures.refused c.if-not-lock_span.true).0 in record { own = c.lock_span.ensures.same ∙ c.requires.rest.own; locks = free.0; anchor = free.1 }

pub returns-then-check_span-clause-nodes : goal.returns-then-check_span-clause-nodes
returns-then-check_span-clause-nodes g c = λ e some.
    let table = c.args.table.now in
    let numbers = span_numbers c.args.job.now.way.now c.args.job.now.span in (
      nodes_then table g.G.Gate.becomes numbers (c.args.seat.now, c.args.gate.now) (c.lock_span.new.seat, c.lock_span.new.gate) (c.check_span.new.seat, c.check_span.new.gate)
          (nodes_run table g.G.Gate.becomes numbers (c.args.seat.now, c.args.gate.now) (c.lock_span.new.seat, c.lock_span.new.gate) (c.lock_span.ensures.nodes c.if-not-lock_span.false some))
          (goes_run table g.G.Gate.becomes (c.lock_span.new.seat, c.lock_span.new.gate) (c.check_span.new.seat, c.check_span.new.gate) c.check_span.ensures.reads.goes),
      omega (arith, c.lock_span.ensures.few c.if-not-lock_span.false, c.check_span.ensures.few, c.requires.within.0),
    )

-- ---- records of no tree
pub returns-then-not-lock_span-clause-spares : goal.returns-then-not-lock_span-clause-spares
returns-then-not-lock_span-clause-spares g c = works_spare c.args.table.now g.G.Gate.becomes (c.args.seat.now, c.args.gate.now) (c.lock_span.new.seat, c.lock_span.new.gate) c.lock_span.ensures.tries.1.1

pub returns-then-check_span-clause-spares : goal.returns-then-check_span-clause-spares
returns-then-check_span-clause-spares g c = λ was. (goes_spare c.args.table.now g.G.Gate.becomes (c.lock_span.new.seat, c.lock_span.new.gate) (c.check_span.new.seat, c.check_span.new.gate) c.check_span.ensures.reads.goes (works_spare c.args.table.now g.G.Gate.becomes (c.args.seat.now, c.args.gate.now) (c.lock_span.new.seat, c.lock_span.new.gate) c.lock_span.ensures.tries.1.1 was))

pub returns-clause-spares : goal.returns-clause-spares
returns-clause-spares g c = λ was.
    works_spare c.args.table.now g.G.Gate.becomes (c.check_span.new.seat, c.check_span.new.gate) (c.release_records_and_locks.new.seat, c.release_records_and_locks.new.gate) c.release_records_and_locks.ensures.works
    (goes_spare c.args.table.now g.G.Gate.becomes (c.lock_span.new.seat, c.lock_span.new.gate) (c.check_span.new.seat, c.check_span.new.gate) c.check_span.ensures.reads.goes (works_spare c.args.table.now g.G.Gate.becomes (c.args.seat.now, c.args.gate.now) (c.lock_span.new.seat, c.lock_span.new.gate) c.lock_span.ensures.tries.1.1 was))

pub returns-then-check_span-clause-room : goal.returns-then-check_span-clause-room
returns-then-check_span-clause-room g c = λ e room.
    let none = c.lock_span.ensures.same ∙ c.requires.rest.own in
    goes_room c.args.table.now g.G.Gate.becomes (c.lock_span.new.seat, c.lock_span.new.gate) (c.check_span.new.seat, c.check_span.new.gate) c.check_span.ensures.reads.goes (c.check_span.ensures.reads.own ∙ none) (works_room c.args.table.now g.G.Gate.becomes (c.args.seat.now, c.args.gate.now) (c.lock_span.new.seat, c.lock_span.new.gate) c.lock_span.ensures.tries.1.1 none room)
