-- One node more.
use Rattle.rowex_writing.proofs.Common.{◌≡◌, ◌<◌, ◌≤◌, ◌∙◌, ℕ, List, length, sym, subst, Some, arith, get_or, slice_get, slice_get-get_or, get_or_from_slice_get, false≢true, PathNode, entry_at, node_words_of}
use Rattle.rowex_writing.specs.locks.Going.{HasLocked}
use Rattle.rowex_writing.proofs.locks.Checks.{none_stand, more_stand, step_place, step_read, span_locked}
use Rattle.rowex_writing.proofs.locks.Going.{locked_on, reads_none, reads_more, seat_of}
use Rattle.rowex_writing.proofs.locks.checking.entries_stand.Goals as goal

abbrev no_step : PathNode
no_step = record { number = 0; height = 0; first_position = 0; count = 0; slot = 0 }

there : (way : List PathNode) (i len : ℕ) (d : PathNode) → i < len → len ≤ length way → slice_get way i ≡ Some (get_or way i d)
there way i len d low high = slice_get-get_or way i d (omega arith)

pub loop-index-init : goal.loop-index-init
loop-index-init g c = record {
  few = omega (arith, c.first_locked-index.ensures);
  own = c.requires.held.seat;
  reads = reads_none c.args.table.now g.G.Gate.becomes (c.args.seat.now, c.args.gate.now);
  possible = c.requires.held.possible;
  from = omega (arith, c.first_locked-index.ensures);
  stand = none_stand c.args.table.now.layout c.args.seat.now.known c.args.job.now.way.now c.args.job.now.found c.args.job.now.span c.first_locked-index.result c.first_locked-index.ensures;
}

pub entry_stands-requires-clause-place : goal.entry_stands-requires-clause-place
entry_stands-requires-clause-place g c =
    let i = c.loop-index.invariant in
    let (m, w) = c.requires.held.from in
    let s = get_or c.args.job.now.way.now c.loop-index.index _ in (
      m,
      s.height,
      step_place c.args.table.now.layout c.args.seat.now.known c.loop-index.seat.known m c.args.job.now.key.now c.args.job.now.way.now c.args.job.now.found i.reads.goes.stays.0 w c.loop-index.index s
          (there c.args.job.now.way.now c.loop-index.index c.args.job.now.span.len _ c.loop-index-test.true c.requires.held.within.1),
    )

pub entry_stands-requires-clause-locked : goal.entry_stands-requires-clause-locked
entry_stands-requires-clause-locked g c =
    let i = c.loop-index.invariant in
    span_locked c.args.seat.now.known c.loop-index.seat.known c.args.job.now.way.now c.args.job.now.span i.reads.goes.stays.1 c.requires.held.locked c.loop-index.index _ i.from c.loop-index-test.true
    (there c.args.job.now.way.now c.loop-index.index c.args.job.now.span.len _ c.loop-index-test.true c.requires.held.within.1)

pub returns-then-not-entry_stands-clause-reads : goal.returns-then-not-entry_stands-clause-reads
returns-then-not-entry_stands-clause-reads g c =
    reads_more c.args.table.now g.G.Gate.becomes (c.args.seat.now, c.args.gate.now) (c.loop-index.seat, c.loop-index.gate) (c.entry_stands.new.seat, c.entry_stands.new.gate) c.loop-index.invariant.reads c.entry_stands.ensures.reads

pub returns-then-not-entry_stands-clause-changed : goal.returns-then-not-entry_stands-clause-changed
returns-then-not-entry_stands-clause-changed g c = λ m w f.
    let later = c.loop-index.invariant.reads.goes.stays.0 in
    let s = get_or c.args.job.now.way.now c.loop-index.index no_step in
    let at = there c.args.job.now.way.now c.loop-index.index c.args.job.now.span.len no_step c.loop-index-test.true c.requires.held.within.1 in
    let has = step_place c.args.table.now.layout c.args.seat.now.known c.loop-index.seat.known m c.args.job.now.key.now c.args.job.now.way.now c.args.job.now.found later w c.loop-index.index s at in
    let (e, name, read) = step_read c.args.table.now.layout c.args.seat.now.known c.loop-index.seat.known m c.args.job.now.key.now c.args.job.now.way.now c.args.job.now.found later w c.loop-index.index s at in
    c.entry_stands.ensures.changed m s.height e has (c.naming_entry-entry.ensures ∙ name) read c.if-not-entry_stands.true

pub loop-index-preserved : goal.loop-index-preserved
loop-index-preserved g c =
    let i = c.loop-index.invariant in
    let table = c.args.table.now in
    let e = c.entry_stands.ensures in
    record {
      few = omega (arith, i.few, e.few);
      own = seat_of table g.G.Gate.becomes (c.loop-index.seat, c.loop-index.gate) (c.entry_stands.new.seat, c.entry_stands.new.gate) e.reads.goes i.own;
      reads = reads_more table g.G.Gate.becomes (c.args.seat.now, c.args.gate.now) (c.loop-index.seat, c.loop-index.gate) (c.entry_stands.new.seat, c.entry_stands.new.gate) i.reads e.reads;
      possible = e.possible;
      from = omega (arith, i.from);
      stand = more_stand table.layout c.args.seat.now.known c.args.job.now.way.now c.args.job.now.found c.args.job.now.span c.loop-index.index c.requires.held.possible i.stand
          (λ s at words h.
          let same : get_or c.args.job.now.way.now c.loop-index.index no_step ≡ s = get_or_from_slice_get c.args.job.now.way.now c.loop-index.index s no_step at in
          let locked = locked_on c.args.seat.now.known c.loop-index.seat.known s.number words i.reads.goes.stays.1 h in
          sym c.naming_entry-entry.ensures ∙ subst (λ (z : PathNode). HasLocked c.loop-index.seat.known z.number words → c.naming_entry-entry.result ≡ Some (entry_at (node_words_of words).subtrie z.slot)) same
          (e.same c.if-not-entry_stands.false words) locked);
    }

pub returns-clause-stand : goal.returns-clause-stand
returns-clause-stand g c = λ m w t i s low high at words h.
    let v = c.loop-index.invariant in
    v.stand m c.args.job.now.key.now w i s low (omega (arith, c.loop-index-test.false)) at words (locked_on c.loop-index.seat.known c.args.seat.now.known s.number words (sym v.reads.goes.stays.1) h)

pub returns-then-not-entry_stands-clause-stand : goal.returns-then-not-entry_stands-clause-stand
returns-then-not-entry_stands-clause-stand g c = λ m w e. absurd (false≢true e)

pub returns-clause-changed : goal.returns-clause-changed
returns-clause-changed g c = λ m w e. absurd (false≢true (sym e))
