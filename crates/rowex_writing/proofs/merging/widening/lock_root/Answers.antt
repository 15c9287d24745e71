-- The anchor is locked, and the root is looked at.
use Rattle.rowex_writing.proofs.build.Spare.{act_spare, goes_spare, works_spare}
use Rattle.rowex_writing.proofs.Common.{sym, subst, ◌∙◌, arith, Unlock, Anchor, silent, unlock_anchor_gives, unlocks_anchor, step_few}
use Rattle.std.specs.Prelude.{IsSome}
use Rattle.rowex_writing.proofs.locks.Going.{seat_of}
use Rattle.rowex_writing.proofs.locks.Onward.{back_later, back_tries, locked_later, locked_tries}
use Rattle.rowex_writing.proofs.locks.Runs.{works_run}
use Rattle.rowex_writing.proofs.locks.Locks.{works_later, works_one, works_seat}
use Rattle.rowex_writing.proofs.merging.widening.lock_root.Goals as goal

pub returns-then-not-lock_anchor-clause-tries : goal.returns-then-not-lock_anchor-clause-tries
returns-then-not-lock_anchor-clause-tries g c = works_run c.args.table.now g.G.Gate.becomes (c.args.seat.now, c.args.gate.now) (c.lock_anchor.new.seat, c.lock_anchor.new.gate) c.lock_anchor.ensures.tries

pub returns-then-not-lock_anchor-clause-later : goal.returns-then-not-lock_anchor-clause-later
returns-then-not-lock_anchor-clause-later g c = (
  works_later c.args.table.now g.G.Gate.becomes (c.args.seat.now, c.args.gate.now) (c.lock_anchor.new.seat, c.lock_anchor.new.gate) c.lock_anchor.ensures.tries,
  (c.lock_anchor.ensures.refused c.if-not-lock_anchor.true).3,
)

pub root_stands-requires-clause-own : goal.root_stands-requires-clause-own
root_stands-requires-clause-own g c = works_seat c.args.table.now g.G.Gate.becomes (c.args.seat.now, c.args.gate.now) (c.lock_anchor.new.seat, c.lock_anchor.new.gate) c.lock_anchor.ensures.tries c.requires.own

pub root_stands-requires-clause-pinned : goal.root_stands-requires-clause-pinned
root_stands-requires-clause-pinned g c =
    subst (λ p. IsSome p) (sym (works_later c.args.table.now g.G.Gate.becomes (c.args.seat.now, c.args.gate.now) (c.lock_anchor.new.seat, c.lock_anchor.new.gate) c.lock_anchor.ensures.tries).pin) c.requires.pinned

pub returns-then-root_stands-clause-tries : goal.returns-then-root_stands-clause-tries
returns-then-root_stands-clause-tries g c = locked_tries c.args.table.now g.G.Gate.becomes (c.args.seat.now, c.args.gate.now) (c.lock_anchor.new.seat, c.lock_anchor.new.gate) (c.root_stands.new.seat, c.root_stands.new.gate) c.lock_anchor.ensures.tries c.root_stands.ensures.reads.goes

pub returns-then-root_stands-clause-later : goal.returns-then-root_stands-clause-later
returns-then-root_stands-clause-later g c = (locked_later c.args.table.now g.G.Gate.becomes (c.args.seat.now, c.args.gate.now) (c.lock_anchor.new.seat, c.lock_anchor.new.gate) (c.root_stands.new.seat, c.root_stands.new.gate) c.lock_anchor.ensures.tries c.root_stands.ensures.reads.goes, c.root_stands.ensures.reads.own ∙ (c.lock_anchor.ensures.locked c.if-not-lock_anchor.false).2)

pub unlock-requires-clause-own : goal.unlock-requires-clause-own
unlock-requires-clause-own g c =
    seat_of c.args.table.now g.G.Gate.becomes (c.lock_anchor.new.seat, c.lock_anchor.new.gate) (c.root_stands.new.seat, c.root_stands.new.gate) c.root_stands.ensures.reads.goes
    (works_seat c.args.table.now g.G.Gate.becomes (c.args.seat.now, c.args.gate.now) (c.lock_anchor.new.seat, c.lock_anchor.new.gate) c.lock_anchor.ensures.tries c.requires.own)

pub unlock-requires-clause-may : goal.unlock-requires-clause-may
unlock-requires-clause-may g c =
    unlocks_anchor c.args.table.now.layout c.root_stands.new.seat.known (subst (λ z. IsSome z) (sym c.root_stands.ensures.reads.goes.stays.2) (c.lock_anchor.ensures.locked c.if-not-lock_anchor.false).0)

pub returns-clause-tries : goal.returns-clause-tries
returns-clause-tries g c = back_tries c.args.table.now g.G.Gate.becomes (c.args.seat.now, c.args.gate.now) (c.lock_anchor.new.seat, c.lock_anchor.new.gate) (c.root_stands.new.seat, c.root_stands.new.gate) c.lock_anchor.ensures.tries c.root_stands.ensures.reads.goes (c.unlock.new.seat, c.unlock.new.gate) (works_one c.args.table.now g.G.Gate.becomes (Unlock Anchor) (c.root_stands.new.seat, c.root_stands.new.gate) (c.unlock.new.seat, c.unlock.new.gate) tt c.unlock.ensures)

pub returns-clause-later : goal.returns-clause-later
returns-clause-later g c = (
  back_later c.args.table.now g.G.Gate.becomes (c.args.seat.now, c.args.gate.now) (c.lock_anchor.new.seat, c.lock_anchor.new.gate) (c.root_stands.new.seat, c.root_stands.new.gate) c.lock_anchor.ensures.tries c.root_stands.ensures.reads.goes (c.unlock.new.seat, c.unlock.new.gate) (works_one c.args.table.now g.G.Gate.becomes (Unlock Anchor) (c.root_stands.new.seat, c.root_stands.new.gate) (c.unlock.new.seat, c.unlock.new.gate) tt c.unlock.ensures),
  (unlock_anchor_gives c.args.table.now.layout silent c.root_stands.new.seat.known c.unlock.new.seat.known c.unlock.ensures.event).1 ∙ (c.root_stands.ensures.reads.own ∙ (c.lock_anchor.ensures.locked c.if-not-lock_anchor.false).2),
)

pub returns-clause-same : goal.returns-clause-same
returns-clause-same g c = λ e.
    let gives = unlock_anchor_gives c.args.table.now.layout silent c.root_stands.new.seat.known c.unlock.new.seat.known c.unlock.ensures.event in
    let l = c.lock_anchor.ensures.locked c.if-not-lock_anchor.false in
    (gives.2 ∙ (c.root_stands.ensures.reads.goes.stays.1 ∙ l.1), gives.0 ∙ sym c.requires.free, gives.1 ∙ (c.root_stands.ensures.reads.own ∙ l.2))

pub returns-clause-few : goal.returns-clause-few
returns-clause-few g c =
    omega (arith, c.lock_anchor.ensures.few, c.root_stands.ensures.few, step_few c.args.table.now g.G.Gate.becomes (Unlock Anchor) (c.root_stands.new.seat, c.root_stands.new.gate) (c.unlock.new.seat, c.unlock.new.gate) c.unlock.ensures)

pub returns-then-not-lock_anchor-clause-spares : goal.returns-then-not-lock_anchor-clause-spares
returns-then-not-lock_anchor-clause-spares g c = works_spare c.args.table.now g.G.Gate.becomes (c.args.seat.now, c.args.gate.now) (c.lock_anchor.new.seat, c.lock_anchor.new.gate) c.lock_anchor.ensures.tries

pub returns-then-root_stands-clause-spares : goal.returns-then-root_stands-clause-spares
returns-then-root_stands-clause-spares g c = λ was.
    goes_spare c.args.table.now g.G.Gate.becomes (c.lock_anchor.new.seat, c.lock_anchor.new.gate) (c.root_stands.new.seat, c.root_stands.new.gate) c.root_stands.ensures.reads.goes
    (works_spare c.args.table.now g.G.Gate.becomes (c.args.seat.now, c.args.gate.now) (c.lock_anchor.new.seat, c.lock_anchor.new.gate) c.lock_anchor.ensures.tries was)

pub returns-clause-spares : goal.returns-clause-spares
returns-clause-spares g c = λ was.
    act_spare c.args.table.now g.G.Gate.becomes (Unlock Anchor) (c.root_stands.new.seat, c.root_stands.new.gate) (c.unlock.new.seat, c.unlock.new.gate) tt c.unlock.ensures
    (goes_spare c.args.table.now g.G.Gate.becomes (c.lock_anchor.new.seat, c.lock_anchor.new.gate) (c.root_stands.new.seat, c.root_stands.new.gate) c.root_stands.ensures.reads.goes
    (works_spare c.args.table.now g.G.Gate.becomes (c.args.seat.now, c.args.gate.now) (c.lock_anchor.new.seat, c.lock_anchor.new.gate) c.lock_anchor.ensures.tries was))
