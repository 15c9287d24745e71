-- One word more: it has been loaded, or it is all ones.
use Rattle.rowex_writing.proofs.Common.{◌≡◌, arith, subst, record_number}
use Rattle.rowex_writing.specs.locks.Loads.{AreRead}
use Rattle.rowex_writing.proofs.locks.Going.{one_read, seat_of, unused_read}
use Rattle.rowex_writing.proofs.locks.locked.load_rest_of_head.Goals as goal

pub loop-index-init : goal.loop-index-init
loop-index-init g c = record { own = c.requires.own; reads = λ a read. read }

pub loop-index-preserved : goal.loop-index-preserved
loop-index-preserved g c =
    let e = c.load_locked_word.ensures in
    record {
      own = seat_of c.args.table.now g.G.Gate.becomes (c.loop-index.seat, c.loop-index.gate) (c.load_locked_word.new.seat, c.load_locked_word.new.gate) e.reads.goes c.loop-index.invariant.own;
      reads = λ a read.
          one_read c.args.table.now g.G.Gate.becomes a (c.loop-index.seat, c.loop-index.gate) (c.load_locked_word.new.seat, c.load_locked_word.new.gate) (record_number c.args.node.rec) c.loop-index.words c.loop-index.index c.load_locked_word.result (c.loop-index.invariant.reads a read)
          (omega (arith, c.loop-index-test.true, c.requires.size.1)) e.reads e.word e.spelled e.few;
    }

pub loop-index-2-init : goal.loop-index-2-init
loop-index-2-init g c = λ a read sized.
    let all : c.loop-index.index ≡ c.args.size = omega (arith, c.loop-index-test.false, c.loop-index.auto.index-end) in
    subst (AreRead c.args.table.now g.G.Gate.becomes a (c.loop-index.seat, c.loop-index.gate) (record_number c.args.node.rec) c.loop-index.words) all (c.loop-index.invariant.reads a read)

pub loop-index-2-preserved : goal.loop-index-2-preserved
loop-index-2-preserved g c = λ a read sized.
    unused_read c.args.table.now g.G.Gate.becomes a (c.args.seat.now, c.args.gate.now) (c.loop-index.seat, c.loop-index.gate) (record_number c.args.node.rec) c.args.words.now c.loop-index-2.words c.loop-index-2.index read
    (c.loop-index-2.invariant a read sized) (omega (arith, c.requires.size.0, c.loop-index-2.auto.index)) (omega (arith, c.loop-index-2-test.true)) (omega (arith, sized, c.loop-index-2.auto.index))

pub returns : goal.returns
returns g c = λ a read sized.
    let all : c.loop-index-2.index ≡ 25 = omega (arith, c.requires.size.1, c.loop-index-2-test.false, c.loop-index-2.auto.index-end) in
    subst (AreRead c.args.table.now g.G.Gate.becomes a (c.loop-index.seat, c.loop-index.gate) (record_number c.args.node.rec) c.loop-index-2.words) all (c.loop-index-2.invariant a read sized)
