-- What the loads of words of a head tell.
use Rattle.rowex_reading.proofs.Common.{◌+◌, ◌<◌, ◌∙◌, arith, length, refl, subst, length-set, Node, a_node, LoadFixed, record_number}
use Rattle.rowex_reading.specs.Reads.{Reads}
use Rattle.rowex_reading.proofs.Seen.Led.{of_kind, reader_then, reads_none, reads_one, reads_trans}
use Rattle.rowex_reading.proofs.reading.Wording.{fewer_loaded, led_stood, next_loaded, none_loaded}
use Rattle.rowex_reading.proofs.reading.load_head_part.Goals as goal

pub loop-index-init : goal.loop-index-init
loop-index-init g c = record {
  reader = c.requires.reader;
  long = refl;
  reads = reads_none (c.args.seat.now, c.args.gate.now);
  loaded = none_loaded c.args.seat.now.known (a_node (record_number c.args.node.rec)) c.args.first _;
}

pub load_fixed_at-requires : goal.load_fixed_at-requires
load_fixed_at-requires g c = let i = c.loop-index.invariant in record {
  own = i.reader.0;
  range = rw c.requires.node.0 ((omega arith, omega (arith, c.requires.range, i.long, c.loop-index-test.true)), omega (arith, c.requires.range, i.long, c.loop-index-test.true));
  start = rw c.requires.node.0 c.requires.node.1;
}

pub loop-index-preserved : goal.loop-index-preserved
loop-index-preserved g c =
    let l = c.requires.led in let i = c.loop-index.invariant in let e = (of_kind c.requires.node.0 c.load_fixed_at.ensures) in
    let one = reads_one (LoadFixed (a_node (record_number c.args.node.rec)) (c.args.first + c.loop-index.index + 1) c.load_fixed_at.result) tt e in
    record {
      reader = reader_then i.reader one;
      long = length-set c.loop-index.words c.loop-index.index c.load_fixed_at.result ∙ i.long;
      reads = reads_trans i.reads one;
      loaded = next_loaded _ _ _ _ (a_node (record_number c.args.node.rec)) c.args.first _ _ c.loop-index.words i.loaded (omega (arith, i.long, c.loop-index-test.true)) e.event l.0 (led_stood c.args.seat.now.known l.0 (Node (record_number c.args.node.rec) l.1) l.2);
    }

pub returns-clause-reads : goal.returns-clause-reads
returns-clause-reads g c =
    subst (λ n. Reads c.args.table.now g.G.Gate.becomes 0 n (c.args.seat.now, c.args.gate.now) (c.loop-index.seat, c.loop-index.gate)) (omega (arith, c.loop-index-test.false, c.loop-index.auto.index-end)) c.loop-index.invariant.reads

pub returns-clause-loaded : goal.returns-clause-loaded
returns-clause-loaded g c =
    let i = c.loop-index.invariant in
    fewer_loaded _ _ (a_node (record_number c.args.node.rec)) c.args.first (λ o. o < c.loop-index.index) (λ o. o < length c.loop-index.words) c.loop-index.words (λ o low. omega (arith, low, i.long, c.loop-index-test.false)) i.loaded
