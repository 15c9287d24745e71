-- A group of words more has been loaded, or the end was reached before.
use Rattle.rowex_writing.proofs.Common.{◌≡◌, ◌+◌, add-zero, arith, inl, refl, subst, sym, ⊎_elim, SLOT_GROUP, record_number}
use Rattle.rowex_writing.specs.locks.Loads.{AreRead}
use Rattle.rowex_writing.proofs.locks.Going.{one_read, seat_of}
use Rattle.rowex_writing.proofs.locks.locked.load_slot_group.Goals as goal

pub loop-place-init : goal.loop-place-init
loop-place-init g c = record {
  own = c.requires.own;
  reads = λ a read. subst (AreRead c.args.table.now g.G.Gate.becomes a (c.args.seat.now, c.args.gate.now) (record_number c.args.loads.node.rec) c.args.words.now) (sym (add-zero c.args.first)) read;
}

pub loop-place-preserved : goal.loop-place-preserved
loop-place-preserved g c =
    let e = c.load_locked_word.ensures in
    record {
      own = seat_of c.args.table.now g.G.Gate.becomes (c.loop-place.seat, c.loop-place.gate) (c.load_locked_word.new.seat, c.load_locked_word.new.gate) e.reads.goes c.loop-place.invariant.own;
      reads = λ a read.
          let next : c.args.first + c.loop-place.place + 1 ≡ c.args.first + (c.loop-place.place + 1) = omega arith in
          subst (AreRead c.args.table.now g.G.Gate.becomes a (c.load_locked_word.new.seat, c.load_locked_word.new.gate) (record_number c.args.loads.node.rec) _) next
          (one_read c.args.table.now g.G.Gate.becomes a (c.loop-place.seat, c.loop-place.gate) (c.load_locked_word.new.seat, c.load_locked_word.new.gate) (record_number c.args.loads.node.rec) c.loop-place.words (c.args.first + c.loop-place.place) c.load_locked_word.result (c.loop-place.invariant.reads a read)
          (omega (arith, c.loop-place-test.true, c.requires.range)) e.reads e.word e.spelled e.few);
    }

pub returns-after-loop-place-clause-reads : goal.returns-after-loop-place-clause-reads
returns-after-loop-place-clause-reads g c = λ a (n, read, (low, upto)).
    let at : n ≡ c.args.first = ⊎_elim (λ same. same) (λ past. absurd (omega (arith, past, low, c.if-first-end.true, c.entries_end-end.ensures))) upto in
    let all : c.args.first + c.loop-place.place ≡ c.args.first + SLOT_GROUP = omega (arith, c.loop-place-test.false, c.loop-place.auto.place-end) in (
      c.args.first + SLOT_GROUP,
      subst (AreRead c.args.table.now g.G.Gate.becomes a (c.loop-place.seat, c.loop-place.gate) (record_number c.args.loads.node.rec) c.loop-place.words) all
          (c.loop-place.invariant.reads a (subst (AreRead c.args.table.now g.G.Gate.becomes a (c.args.seat.now, c.args.gate.now) (record_number c.args.loads.node.rec) c.args.words.now) at read)),
      (omega arith, inl refl),
    )
