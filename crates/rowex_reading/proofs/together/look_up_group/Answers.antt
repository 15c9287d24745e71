-- The root for each key, one node down, and the leaves.
use Rattle.std.proofs.Common.{◌∙◌, ◌+◌, arith, le_trans, length, length-take-le}
use Rattle.std.proofs.Math.Nat.{mul-le-mul_left}
use Rattle.rowex_reading.proofs.Seen.Led.{reader_then, reads_none, reads_trans}
use Rattle.rowex_reading.proofs.together.Together.{heights_first, ways_first}
use Rattle.rowex_reading.proofs.together.look_up_group.Goals as goal

pub loop-init : goal.loop-init
loop-init g c =
    let n = length c.args.keys.now in let root = c.args.root in
    record {
      reader = c.requires.reader;
      room = length-take-le n _ (omega (arith, c.requires.few));
      ways = ways_first c.args.keys.now n 16 root c.requires.root;
      reads = (0, 0, le_trans (let few = heights_first n 16 root in omega (arith, few)) (mul-le-mul_left n c.requires.low), omega arith, reads_none (c.args.seat.now, c.args.gate.now));
    }

pub loop-preserved : goal.loop-preserved
loop-preserved g c =
    let i = c.loop.invariant in let e = c.go_down.ensures in
    record {
      reader = reader_then i.reader e.reads.4;
      room = c.go_down.auto.tips ∙ i.room;
      ways = e.ways;
      reads = (
        i.reads.0 + e.reads.0,
        i.reads.1 + e.reads.1,
        (let some = i.reads.2 in let more = e.reads.2 in omega (arith, some, more)),
        (let few = i.reads.3 in let others = e.reads.3 in omega (arith, few, others)),
        reads_trans i.reads.4 e.reads.4,
      );
    }

pub load_values-requires-clause-reader : goal.load_values-requires-clause-reader
load_values-requires-clause-reader g c = reader_then c.loop.invariant.reader c.go_down.ensures.reads.4

pub returns-clause-reads : goal.returns-clause-reads
returns-clause-reads g c =
    let i = c.loop.invariant in let e = c.go_down.ensures in let v = c.load_values.ensures in (
      i.reads.0 + e.reads.0 + 0,
      i.reads.1 + e.reads.1 + v.reads.0,
      (let some = i.reads.2 in let more = e.reads.2 in omega (arith, some, more)),
      (let few = v.reads.1 in let one = i.reads.3 in let two = e.reads.3 in omega (arith, few, one, two)),
      reads_trans (reads_trans i.reads.4 e.reads.4) v.reads.2,
    )
