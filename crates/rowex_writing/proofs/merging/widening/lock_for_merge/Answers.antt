-- The node beside, and then what names the upper one.
use Rattle.rowex_writing.proofs.build.Spare.{works_spare}
use Rattle.rowex_writing.proofs.Common.{◌∷◌, ◌-◌, true, false, refl, sym, ap, subst, ◌∙◌, IsOneOf, IsWayOf, later_trans, way_later, beside_may_lock, later_if_same, NodeTarget, nodes_of, MayLock}
use Rattle.rowex_writing.specs.locks.Locks.{span_numbers}
use Rattle.rowex_writing.specs.merging.Merging.{LocksAbove}
use Rattle.rowex_writing.proofs.merging.Beside.{sibling_range}
use Rattle.rowex_writing.proofs.locks.Onward.{both_possible, both_seat, run_possible}
use Rattle.rowex_writing.proofs.locks.Runs.{run_none, works_run}
use Rattle.rowex_writing.proofs.merging.widening.Widening.{far_none, last_same, more_none, more_one, one_last, two_tried}
use Rattle.rowex_writing.proofs.locks.Locks.{works_later, works_seat}
use Rattle.rowex_writing.proofs.merging.widening.lock_for_merge.Goals as goal

pub returns-then-is_near_span-clause-tries : goal.returns-then-is_near_span-clause-tries
returns-then-is_near_span-clause-tries g c = more_none c.args.table.now g.G.Gate.becomes (span_numbers c.args.job.now.way.now c.args.job.now.span) (c.args.seat.now, c.args.gate.now) (c.args.seat.now, c.args.gate.now) (run_none c.args.table.now g.G.Gate.becomes (c.args.seat.now, c.args.gate.now))

pub returns-then-is_near_span-clause-later : goal.returns-then-is_near_span-clause-later
returns-then-is_near_span-clause-later g c = (later_if_same c.args.seat.now.known c.args.seat.now.known refl, c.requires.takes.1, c.requires.takes.2, refl)

pub lock_node-requires-clause-range : goal.lock_node-requires-clause-range
lock_node-requires-clause-range g c = sibling_range c.args.table.now c.args.seat.now c.args.job.now c.args.number c.requires.takes.2 c.requires.beside

pub lock_node-requires-clause-may : goal.lock_node-requires-clause-may
lock_node-requires-clause-may g c =
    let (b, is, same) = c.requires.beside in
    subst (λ n. MayLock c.args.table.now.layout (NodeTarget n) c.args.seat.now.known) same (beside_may_lock c.args.table.now.layout c.args.seat.now.known c.args.job.now.key.now _ b.number b.position is.height is.words is.has is.sibling)

pub returns-then-not-lock_node-clause-tries : goal.returns-then-not-lock_node-clause-tries
returns-then-not-lock_node-clause-tries g c =
    let table = c.args.table.now in
    more_one table g.G.Gate.becomes (span_numbers c.args.job.now.way.now c.args.job.now.span) c.args.number (c.args.seat.now, c.args.gate.now) (c.lock_node.new.seat, c.lock_node.new.gate) (c.lock_node.new.seat, c.lock_node.new.gate)
    (far_none c.args.job.now.way.now c.args.job.now.span c.args.number (c.is_near_span.ensures.none c.if-is_near_span.false))
    (works_run table g.G.Gate.becomes (c.args.seat.now, c.args.gate.now) (c.lock_node.new.seat, c.lock_node.new.gate) c.lock_node.ensures.tries)
    (run_none table g.G.Gate.becomes (c.lock_node.new.seat, c.lock_node.new.gate))

pub returns-then-not-lock_node-clause-later : goal.returns-then-not-lock_node-clause-later
returns-then-not-lock_node-clause-later g c =
    let table = c.args.table.now in
    let tries = c.lock_node.ensures.tries in (
      works_later table g.G.Gate.becomes (c.args.seat.now, c.args.gate.now) (c.lock_node.new.seat, c.lock_node.new.gate) tries,
      works_seat table g.G.Gate.becomes (c.args.seat.now, c.args.gate.now) (c.lock_node.new.seat, c.lock_node.new.gate) tries c.requires.takes.1,
      run_possible table g.G.Gate.becomes (c.args.seat.now, c.args.gate.now) (c.lock_node.new.seat, c.lock_node.new.gate) (works_run table g.G.Gate.becomes (c.args.seat.now, c.args.gate.now) (c.lock_node.new.seat, c.lock_node.new.gate) tries) c.requires.takes.2,
      (c.lock_node.ensures.same c.if-not-lock_node.true).2,
    )

pub lock_target_above-requires-clause-own : goal.lock_target_above-requires-clause-own
lock_target_above-requires-clause-own g c = works_seat c.args.table.now g.G.Gate.becomes (c.args.seat.now, c.args.gate.now) (c.lock_node.new.seat, c.lock_node.new.gate) c.lock_node.ensures.tries c.requires.takes.1

pub lock_target_above-requires-clause-possible : goal.lock_target_above-requires-clause-possible
lock_target_above-requires-clause-possible g c =
    let table = c.args.table.now in
    run_possible table g.G.Gate.becomes (c.args.seat.now, c.args.gate.now) (c.lock_node.new.seat, c.lock_node.new.gate)
    (works_run table g.G.Gate.becomes (c.args.seat.now, c.args.gate.now) (c.lock_node.new.seat, c.lock_node.new.gate) c.lock_node.ensures.tries) c.requires.takes.2

pub lock_target_above-requires-clause-way : goal.lock_target_above-requires-clause-way
lock_target_above-requires-clause-way g c =
    let (t, seat, possible, stays) = c.requires.takes in
    let later = later_trans stays.0 (works_later c.args.table.now g.G.Gate.becomes (c.args.seat.now, c.args.gate.now) (c.lock_node.new.seat, c.lock_node.new.gate) c.lock_node.ensures.tries) in
    (t.since, subst (λ f. IsWayOf c.args.table.now.layout c.lock_node.new.seat.known t.since c.args.job.now.key.now c.args.job.now.way.now f) (sym t.found) (way_later c.args.table.now.layout t.before.known c.lock_node.new.seat.known t.since c.args.job.now.key.now c.args.job.now.way.now _ later t.below.taken.way_of))

pub returns-then-lock_target_above-clause-tries : goal.returns-then-lock_target_above-clause-tries
returns-then-lock_target_above-clause-tries g c =
    two_tried c.args.table.now g.G.Gate.becomes c.args.job.now c.args.number c.requires.takes.0 true (c.args.seat.now, c.args.gate.now) (c.lock_node.new.seat, c.lock_node.new.gate) (c.lock_target_above.new.seat, c.lock_target_above.new.gate) (c.lock_target_above.new.seat, c.lock_target_above.new.gate) (c.is_near_span.ensures.none c.if-is_near_span.false)
    (works_run c.args.table.now g.G.Gate.becomes (c.args.seat.now, c.args.gate.now) (c.lock_node.new.seat, c.lock_node.new.gate) c.lock_node.ensures.tries) c.lock_target_above.ensures.tries (run_none c.args.table.now g.G.Gate.becomes (c.lock_target_above.new.seat, c.lock_target_above.new.gate))

pub returns-then-lock_target_above-clause-later : goal.returns-then-lock_target_above-clause-later
returns-then-lock_target_above-clause-later g c =
    let table = c.args.table.now in
    let tries = c.lock_node.ensures.tries in
    let (target, above, top) = c.lock_target_above.ensures.tries in (
      later_trans (works_later table g.G.Gate.becomes (c.args.seat.now, c.args.gate.now) (c.lock_node.new.seat, c.lock_node.new.gate) tries) c.lock_target_above.ensures.later.0,
      both_seat table g.G.Gate.becomes (c.args.seat.now, c.args.gate.now) (c.lock_node.new.seat, c.lock_node.new.gate) (c.lock_target_above.new.seat, c.lock_target_above.new.gate) tries above c.requires.takes.1,
      both_possible table g.G.Gate.becomes (c.args.seat.now, c.args.gate.now) (c.lock_node.new.seat, c.lock_node.new.gate) (c.lock_target_above.new.seat, c.lock_target_above.new.gate) tries above c.requires.takes.2,
      c.lock_target_above.ensures.later.1 ∙ (c.lock_node.ensures.locked c.if-not-lock_node.false).2,
    )

pub returns-then-lock_target_above-clause-wide : goal.returns-then-lock_target_above-clause-wide
returns-then-lock_target_above-clause-wide g c = λ e.
    let table = c.args.table.now in
    let (t, seat, possible, stays) = c.requires.takes in
    let tries = c.lock_node.ensures.tries in
    let l = c.lock_node.ensures.locked c.if-not-lock_node.false in
    let (target, above, top) = c.lock_target_above.ensures.tries in (
      record {
        taking = t;
        seat = both_seat table g.G.Gate.becomes (c.args.seat.now, c.args.gate.now) (c.lock_node.new.seat, c.lock_node.new.gate) (c.lock_target_above.new.seat, c.lock_target_above.new.gate) tries above seat;
        possible = both_possible table g.G.Gate.becomes (c.args.seat.now, c.args.gate.now) (c.lock_node.new.seat, c.lock_node.new.gate) (c.lock_target_above.new.seat, c.lock_target_above.new.gate) tries above possible;
        later = later_trans stays.0 (later_trans (works_later table g.G.Gate.becomes (c.args.seat.now, c.args.gate.now) (c.lock_node.new.seat, c.lock_node.new.gate) tries) c.lock_target_above.ensures.later.0);
        words = l.0.0;
        new = subst (λ z. ¬ (IsOneOf c.args.number (nodes_of z))) stays.1 l.1;
        low = sibling_range table c.args.seat.now c.args.job.now c.args.number possible c.requires.beside;
        above = subst (λ z. LocksAbove z c.args.job.now.key.now c.args.job.now.way.now c.args.job.now.found (c.args.job.now.span.end - 1) c.lock_target_above.new.seat.known)
            (l.0.1 ∙ ap (λ z. record { node = c.args.number; words = l.0.0 } ∷ z) stays.1) (c.lock_target_above.ensures.above c.if-lock_target_above.true);
      },
      sym stays.1,
      sym stays.2,
    )

pub unlock_last_node-requires-clause-own : goal.unlock_last_node-requires-clause-own
unlock_last_node-requires-clause-own g c =
    let table = c.args.table.now in
    let (target, above, top) = c.lock_target_above.ensures.tries in
    both_seat table g.G.Gate.becomes (c.args.seat.now, c.args.gate.now) (c.lock_node.new.seat, c.lock_node.new.gate) (c.lock_target_above.new.seat, c.lock_target_above.new.gate) c.lock_node.ensures.tries above c.requires.takes.1

pub unlock_last_node-requires-clause-range : goal.unlock_last_node-requires-clause-range
unlock_last_node-requires-clause-range g c = sibling_range c.args.table.now c.args.seat.now c.args.job.now c.args.number c.requires.takes.2 c.requires.beside

pub unlock_last_node-requires-clause-last : goal.unlock_last_node-requires-clause-last
unlock_last_node-requires-clause-last g c = (
  c.args.seat.now.known.locks,
  last_same c.args.number c.args.seat.now.known.locks c.lock_node.new.seat.known c.lock_target_above.new.seat.known (c.lock_target_above.ensures.same c.if-lock_target_above.false).0
      (one_last c.args.number c.args.seat.now.known c.lock_node.new.seat.known (c.lock_node.ensures.locked c.if-not-lock_node.false)),
)

pub returns-clause-tries : goal.returns-clause-tries
returns-clause-tries g c =
    two_tried c.args.table.now g.G.Gate.becomes c.args.job.now c.args.number c.requires.takes.0 false (c.args.seat.now, c.args.gate.now) (c.lock_node.new.seat, c.lock_node.new.gate) (c.lock_target_above.new.seat, c.lock_target_above.new.gate) (c.unlock_last_node.new.seat, c.unlock_last_node.new.gate) (c.is_near_span.ensures.none c.if-is_near_span.false)
    (works_run c.args.table.now g.G.Gate.becomes (c.args.seat.now, c.args.gate.now) (c.lock_node.new.seat, c.lock_node.new.gate) c.lock_node.ensures.tries) c.lock_target_above.ensures.tries (works_run c.args.table.now g.G.Gate.becomes (c.lock_target_above.new.seat, c.lock_target_above.new.gate) (c.unlock_last_node.new.seat, c.unlock_last_node.new.gate) c.unlock_last_node.ensures.works)

pub returns-clause-later : goal.returns-clause-later
returns-clause-later g c =
    let table = c.args.table.now in
    let tries = c.lock_node.ensures.tries in
    let (target, above, top) = c.lock_target_above.ensures.tries in
    let seat = both_seat table g.G.Gate.becomes (c.args.seat.now, c.args.gate.now) (c.lock_node.new.seat, c.lock_node.new.gate) (c.lock_target_above.new.seat, c.lock_target_above.new.gate) tries above c.requires.takes.1 in
    let possible = both_possible table g.G.Gate.becomes (c.args.seat.now, c.args.gate.now) (c.lock_node.new.seat, c.lock_node.new.gate) (c.lock_target_above.new.seat, c.lock_target_above.new.gate) tries above c.requires.takes.2 in
    let works = c.unlock_last_node.ensures.works in (
      later_trans (later_trans (works_later table g.G.Gate.becomes (c.args.seat.now, c.args.gate.now) (c.lock_node.new.seat, c.lock_node.new.gate) tries) c.lock_target_above.ensures.later.0)
          (works_later table g.G.Gate.becomes (c.lock_target_above.new.seat, c.lock_target_above.new.gate) (c.unlock_last_node.new.seat, c.unlock_last_node.new.gate) works),
      works_seat table g.G.Gate.becomes (c.lock_target_above.new.seat, c.lock_target_above.new.gate) (c.unlock_last_node.new.seat, c.unlock_last_node.new.gate) works seat,
      run_possible table g.G.Gate.becomes (c.lock_target_above.new.seat, c.lock_target_above.new.gate) (c.unlock_last_node.new.seat, c.unlock_last_node.new.gate) (works_run table g.G.Gate.becomes (c.lock_target_above.new.seat, c.lock_target_above.new.gate) (c.unlock_last_node.new.seat, c.unlock_last_node.new.gate) works) possible,
      c.unlock_last_node.ensures.same.1 ∙ (c.lock_target_above.ensures.later.1 ∙ (c.lock_node.ensures.locked c.if-not-lock_node.false).2),
    )

pub returns-clause-same : goal.returns-clause-same
returns-clause-same g c = λ e.
    let l = c.lock_node.ensures.locked c.if-not-lock_node.false in
    let s = c.lock_target_above.ensures.same c.if-lock_target_above.false in (
      c.unlock_last_node.ensures.less c.args.seat.now.known.locks (last_same c.args.number c.args.seat.now.known.locks c.lock_node.new.seat.known c.lock_target_above.new.seat.known s.0 (one_last c.args.number c.args.seat.now.known c.lock_node.new.seat.known l)),
      c.unlock_last_node.ensures.same.0 ∙ (s.1 ∙ l.3),
      c.unlock_last_node.ensures.same.1 ∙ (s.2 ∙ l.2),
    )

pub returns-then-not-lock_node-clause-spares : goal.returns-then-not-lock_node-clause-spares
returns-then-not-lock_node-clause-spares g c = works_spare c.args.table.now g.G.Gate.becomes (c.args.seat.now, c.args.gate.now) (c.lock_node.new.seat, c.lock_node.new.gate) c.lock_node.ensures.tries

pub returns-then-lock_target_above-clause-spares : goal.returns-then-lock_target_above-clause-spares
returns-then-lock_target_above-clause-spares g c = λ was.
    c.lock_target_above.ensures.spares (works_spare c.args.table.now g.G.Gate.becomes (c.args.seat.now, c.args.gate.now) (c.lock_node.new.seat, c.lock_node.new.gate) c.lock_node.ensures.tries was)

pub returns-clause-spares : goal.returns-clause-spares
returns-clause-spares g c = λ was.
    works_spare c.args.table.now g.G.Gate.becomes (c.lock_target_above.new.seat, c.lock_target_above.new.gate) (c.unlock_last_node.new.seat, c.unlock_last_node.new.gate) c.unlock_last_node.ensures.works
    (c.lock_target_above.ensures.spares (works_spare c.args.table.now g.G.Gate.becomes (c.args.seat.now, c.args.gate.now) (c.lock_node.new.seat, c.lock_node.new.gate) c.lock_node.ensures.tries was))
