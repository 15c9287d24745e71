-- The root, and then the nodes.
use Rattle.rowex_writing.proofs.Common.{◌∙◌, ap, subst, sym, Some, arith, RootWas, way_later}
use Rattle.rowex_writing.proofs.locks.Checks.{since_pinned, span_later}
use Rattle.rowex_writing.proofs.locks.Going.{reads_more, seat_of}
use Rattle.rowex_writing.proofs.locks.checking.check_span.Goals as goal

pub returns-then-job-gt0-clause-checked : goal.returns-then-job-gt0-clause-checked
returns-then-job-gt0-clause-checked g c = λ t.
    let (m, w) = c.requires.held.from in record { root = λ z. absurd (omega (arith, c.if-job-gt0.true)); entries = c.entries_stand.ensures.stand m w t }

pub root_stands-requires-clause-pinned : goal.root_stands-requires-clause-pinned
root_stands-requires-clause-pinned g c = let (m, w) = c.requires.held.from in since_pinned c.args.seat.now.known m w.since

pub returns-then-not-root_stands-clause-changed : goal.returns-then-not-root_stands-clause-changed
returns-then-not-root_stands-clause-changed g c = λ m w f.
    c.root_stands.ensures.changed m (subst (λ o. RootWas c.args.seat.now.known m o) (sym c.naming_entry.ensures) w.root) c.if-not-root_stands.true

pub entries_stand-requires-2 : goal.entries_stand-requires-2
entries_stand-requires-2 g c =
    let (m, w) = c.requires.held.from in
    let goes = c.root_stands.ensures.reads.goes in
    record {
      held = record {
        seat = seat_of c.args.table.now g.G.Gate.becomes (c.args.seat.now, c.args.gate.now) (c.root_stands.new.seat, c.root_stands.new.gate) goes c.requires.held.seat;
        possible = c.root_stands.ensures.possible;
        within = c.requires.held.within;
        from = (m, way_later c.args.table.now.layout c.args.seat.now.known c.root_stands.new.seat.known m c.args.job.now.key.now c.args.job.now.way.now c.args.job.now.found goes.stays.0 w);
        locked = span_later c.args.seat.now.known c.root_stands.new.seat.known c.args.job.now.way.now c.args.job.now.span goes.stays.1 goes.stays.2 c.requires.held.locked;
      };
    }

pub returns-clause-reads : goal.returns-clause-reads
returns-clause-reads g c =
    reads_more c.args.table.now g.G.Gate.becomes (c.args.seat.now, c.args.gate.now) (c.root_stands.new.seat, c.root_stands.new.gate) (c.entries_stand-2.new.seat, c.entries_stand-2.new.gate)
    c.root_stands.ensures.reads c.entries_stand-2.ensures.reads

pub returns-clause-checked : goal.returns-clause-checked
returns-clause-checked g c = λ t.
    let (m, w) = c.requires.held.from in
    let later = c.root_stands.ensures.reads.goes.stays.0 in
    let moved = way_later c.args.table.now.layout c.args.seat.now.known c.root_stands.new.seat.known m c.args.job.now.key.now c.args.job.now.way.now c.args.job.now.found later w in
    record {
      root = λ z. c.entries_stand-2.ensures.reads.goes.stays.2 ∙ (c.root_stands.ensures.same c.if-not-root_stands.false ∙ ap Some c.naming_entry.ensures);
      entries = c.entries_stand-2.ensures.stand m moved t;
    }

pub returns-clause-changed : goal.returns-clause-changed
returns-clause-changed g c = λ m w f.
    let later = c.root_stands.ensures.reads.goes.stays.0 in
    c.entries_stand-2.ensures.changed m
    (way_later c.args.table.now.layout c.args.seat.now.known c.root_stands.new.seat.known m c.args.job.now.key.now c.args.job.now.way.now c.args.job.now.found later w) f
