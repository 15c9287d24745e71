-- A node of the way is locked, and its entry is looked at.
use Rattle.rowex_writing.proofs.build.Spare.{goes_spare, works_spare}
use Rattle.rowex_writing.proofs.Common.{sym, ◌∙◌, led_may_lock}
use Rattle.rowex_writing.proofs.locks.Going.{seat_of}
use Rattle.rowex_writing.proofs.locks.Onward.{back_later, back_tries, locked_later, locked_tries, run_possible}
use Rattle.rowex_writing.proofs.locks.Runs.{works_run}
use Rattle.rowex_writing.proofs.merging.widening.Widening.{last_locked, last_same, one_last, place_later, place_led}
use Rattle.rowex_writing.proofs.locks.Going.{locked_on}
use Rattle.rowex_writing.proofs.locks.Locks.{works_later, works_seat}
use Rattle.rowex_writing.proofs.merging.widening.lock_node_with_entry.Goals as goal

pub lock_node-requires-clause-may : goal.lock_node-requires-clause-may
lock_node-requires-clause-may g c =
    let (m, h, has) = c.requires.place in led_may_lock c.args.table.now.layout c.args.seat.now.known m c.args.step.number h has.0.0 (place_led c.args.seat.now.known m c.args.step.number h c.args.step.slot has)

pub returns-then-not-lock_node-clause-tries : goal.returns-then-not-lock_node-clause-tries
returns-then-not-lock_node-clause-tries g c = works_run c.args.table.now g.G.Gate.becomes (c.args.seat.now, c.args.gate.now) (c.lock_node.new.seat, c.lock_node.new.gate) c.lock_node.ensures.tries

pub returns-then-not-lock_node-clause-later : goal.returns-then-not-lock_node-clause-later
returns-then-not-lock_node-clause-later g c = (
  works_later c.args.table.now g.G.Gate.becomes (c.args.seat.now, c.args.gate.now) (c.lock_node.new.seat, c.lock_node.new.gate) c.lock_node.ensures.tries,
  (c.lock_node.ensures.same c.if-not-lock_node.true).2,
)

pub entry_stands-requires-clause-own : goal.entry_stands-requires-clause-own
entry_stands-requires-clause-own g c = works_seat c.args.table.now g.G.Gate.becomes (c.args.seat.now, c.args.gate.now) (c.lock_node.new.seat, c.lock_node.new.gate) c.lock_node.ensures.tries c.requires.own

pub entry_stands-requires-clause-possible : goal.entry_stands-requires-clause-possible
entry_stands-requires-clause-possible g c =
    run_possible c.args.table.now g.G.Gate.becomes (c.args.seat.now, c.args.gate.now) (c.lock_node.new.seat, c.lock_node.new.gate)
    (works_run c.args.table.now g.G.Gate.becomes (c.args.seat.now, c.args.gate.now) (c.lock_node.new.seat, c.lock_node.new.gate) c.lock_node.ensures.tries) c.requires.possible

pub entry_stands-requires-clause-place : goal.entry_stands-requires-clause-place
entry_stands-requires-clause-place g c =
    let (m, h, has) = c.requires.place in
    (m, h, place_later c.args.seat.now.known c.lock_node.new.seat.known m c.args.step.number h c.args.step.slot (works_later c.args.table.now g.G.Gate.becomes (c.args.seat.now, c.args.gate.now) (c.lock_node.new.seat, c.lock_node.new.gate) c.lock_node.ensures.tries) has)

pub entry_stands-requires-clause-locked : goal.entry_stands-requires-clause-locked
entry_stands-requires-clause-locked g c =
    last_locked c.args.step.number c.args.seat.now.known.locks c.lock_node.new.seat.known (one_last c.args.step.number c.args.seat.now.known c.lock_node.new.seat.known (c.lock_node.ensures.locked c.if-not-lock_node.false))

pub returns-then-entry_stands-clause-tries : goal.returns-then-entry_stands-clause-tries
returns-then-entry_stands-clause-tries g c = locked_tries c.args.table.now g.G.Gate.becomes (c.args.seat.now, c.args.gate.now) (c.lock_node.new.seat, c.lock_node.new.gate) (c.entry_stands.new.seat, c.entry_stands.new.gate) c.lock_node.ensures.tries c.entry_stands.ensures.reads.goes

pub returns-then-entry_stands-clause-later : goal.returns-then-entry_stands-clause-later
returns-then-entry_stands-clause-later g c = (locked_later c.args.table.now g.G.Gate.becomes (c.args.seat.now, c.args.gate.now) (c.lock_node.new.seat, c.lock_node.new.gate) (c.entry_stands.new.seat, c.entry_stands.new.gate) c.lock_node.ensures.tries c.entry_stands.ensures.reads.goes, c.entry_stands.ensures.reads.own ∙ (c.lock_node.ensures.locked c.if-not-lock_node.false).2)

pub returns-then-entry_stands-clause-locked : goal.returns-then-entry_stands-clause-locked
returns-then-entry_stands-clause-locked g c = λ e.
    let l = c.lock_node.ensures.locked c.if-not-lock_node.false in
    let stays = c.entry_stands.ensures.reads.goes.stays in (
      last_same c.args.step.number c.args.seat.now.known.locks c.lock_node.new.seat.known c.entry_stands.new.seat.known stays.1 (one_last c.args.step.number c.args.seat.now.known c.lock_node.new.seat.known l),
      stays.2 ∙ l.3,
      λ words h. c.entry_stands.ensures.same c.if-entry_stands.true words (locked_on c.entry_stands.new.seat.known c.lock_node.new.seat.known c.args.step.number words (sym stays.1) h),
    )

pub unlock_last_node-requires-clause-own : goal.unlock_last_node-requires-clause-own
unlock_last_node-requires-clause-own g c =
    seat_of c.args.table.now g.G.Gate.becomes (c.lock_node.new.seat, c.lock_node.new.gate) (c.entry_stands.new.seat, c.entry_stands.new.gate) c.entry_stands.ensures.reads.goes
    (works_seat c.args.table.now g.G.Gate.becomes (c.args.seat.now, c.args.gate.now) (c.lock_node.new.seat, c.lock_node.new.gate) c.lock_node.ensures.tries c.requires.own)

pub unlock_last_node-requires-clause-last : goal.unlock_last_node-requires-clause-last
unlock_last_node-requires-clause-last g c = (
  c.args.seat.now.known.locks,
  last_same c.args.step.number c.args.seat.now.known.locks c.lock_node.new.seat.known c.entry_stands.new.seat.known c.entry_stands.ensures.reads.goes.stays.1
      (one_last c.args.step.number c.args.seat.now.known c.lock_node.new.seat.known (c.lock_node.ensures.locked c.if-not-lock_node.false)),
)

pub returns-clause-tries : goal.returns-clause-tries
returns-clause-tries g c = back_tries c.args.table.now g.G.Gate.becomes (c.args.seat.now, c.args.gate.now) (c.lock_node.new.seat, c.lock_node.new.gate) (c.entry_stands.new.seat, c.entry_stands.new.gate) c.lock_node.ensures.tries c.entry_stands.ensures.reads.goes (c.unlock_last_node.new.seat, c.unlock_last_node.new.gate) c.unlock_last_node.ensures.works

pub returns-clause-later : goal.returns-clause-later
returns-clause-later g c = (
  back_later c.args.table.now g.G.Gate.becomes (c.args.seat.now, c.args.gate.now) (c.lock_node.new.seat, c.lock_node.new.gate) (c.entry_stands.new.seat, c.entry_stands.new.gate) c.lock_node.ensures.tries c.entry_stands.ensures.reads.goes (c.unlock_last_node.new.seat, c.unlock_last_node.new.gate) c.unlock_last_node.ensures.works,
  c.unlock_last_node.ensures.same.1 ∙ (c.entry_stands.ensures.reads.own ∙ (c.lock_node.ensures.locked c.if-not-lock_node.false).2),
)

pub returns-clause-same : goal.returns-clause-same
returns-clause-same g c = λ e.
    let l = c.lock_node.ensures.locked c.if-not-lock_node.false in
    let reads = c.entry_stands.ensures.reads in (
      c.unlock_last_node.ensures.less c.args.seat.now.known.locks
          (last_same c.args.step.number c.args.seat.now.known.locks c.lock_node.new.seat.known c.entry_stands.new.seat.known reads.goes.stays.1 (one_last c.args.step.number c.args.seat.now.known c.lock_node.new.seat.known l)),
      c.unlock_last_node.ensures.same.0 ∙ (reads.goes.stays.2 ∙ l.3),
      c.unlock_last_node.ensures.same.1 ∙ (reads.own ∙ l.2),
    )

pub returns-then-not-lock_node-clause-spares : goal.returns-then-not-lock_node-clause-spares
returns-then-not-lock_node-clause-spares g c = works_spare c.args.table.now g.G.Gate.becomes (c.args.seat.now, c.args.gate.now) (c.lock_node.new.seat, c.lock_node.new.gate) c.lock_node.ensures.tries

pub returns-then-entry_stands-clause-spares : goal.returns-then-entry_stands-clause-spares
returns-then-entry_stands-clause-spares g c = λ was.
    goes_spare c.args.table.now g.G.Gate.becomes (c.lock_node.new.seat, c.lock_node.new.gate) (c.entry_stands.new.seat, c.entry_stands.new.gate) c.entry_stands.ensures.reads.goes
    (works_spare c.args.table.now g.G.Gate.becomes (c.args.seat.now, c.args.gate.now) (c.lock_node.new.seat, c.lock_node.new.gate) c.lock_node.ensures.tries was)

pub returns-clause-spares : goal.returns-clause-spares
returns-clause-spares g c = λ was.
    works_spare c.args.table.now g.G.Gate.becomes (c.entry_stands.new.seat, c.entry_stands.new.gate) (c.unlock_last_node.new.seat, c.unlock_last_node.new.gate) c.unlock_last_node.ensures.works
    (goes_spare c.args.table.now g.G.Gate.becomes (c.lock_node.new.seat, c.lock_node.new.gate) (c.entry_stands.new.seat, c.entry_stands.new.gate) c.entry_stands.ensures.reads.goes
    (works_spare c.args.table.now g.G.Gate.becomes (c.args.seat.now, c.args.gate.now) (c.lock_node.new.seat, c.lock_node.new.gate) c.lock_node.ensures.tries was))
