-- The node's head leads the key to the slot, and the entry there is of the table.
use Rattle.rowex_reading.proofs.Common.{◌+◌, ◌<◌, ap, arith, subst, sym, height_of, Node, record_number, SeatView, node_at}
use Rattle.rowex_reading.specs.Seen.{since}
use Rattle.rowex_reading.specs.Together.{HasComeTo}
use Rattle.rowex_reading.proofs.Seen.Led.{reader_then}
use Rattle.rowex_reading.proofs.lookup.Lookup.{way_led, way_next, way_place}
use Rattle.rowex_reading.proofs.Touching.{entry_read, reads_on, reads_touching, reads_untouched, touches_last}
use Rattle.rowex_reading.proofs.Seen.Standing.{led_in_table}
use Rattle.rowex_reading.proofs.together.enter_node.Given as given
use Rattle.rowex_reading.proofs.together.enter_node.Goals as goal
use Rattle.rowex_reading.proofs.together.enter_node.Goals.{After-load_entry-entry}

pub locate-node-requires : goal.locate-node-requires
locate-node-requires g c =
    let k = c.args.seat.now.known in let way = c.requires.way in
    led_in_table c.args.table.now.layout k (since k) (Node c.args.number way.0) c.requires.reader.1 (way_led (Node c.args.number way.0) way.1)

pub find_slot-slot-requires-clause-led : goal.find_slot-slot-requires-clause-led
find_slot-slot-requires-clause-led g c =
    let way = c.requires.way in (since c.args.seat.now.known, way.0, rw (ap record_number c.locate-node.ensures.rec) (way_led (Node c.args.number way.0) way.1))

pub find_slot-slot-requires-clause-node : goal.find_slot-slot-requires-clause-node
find_slot-slot-requires-clause-node g c = node_at c.args.table.now.layout c.args.number c.locate-node.result c.locate-node.ensures.rec c.locate-node.ensures.start

pub load_entry-entry-requires-clause-reader : goal.load_entry-entry-requires-clause-reader
load_entry-entry-requires-clause-reader g c = reader_then c.requires.reader c.find_slot-slot.ensures.reads.2.reads

pub load_entry-entry-requires-clause-place : goal.load_entry-entry-requires-clause-place
load_entry-entry-requires-clause-place g c =
    let way = c.requires.way in let e = c.find_slot-slot.ensures in let m = since c.args.seat.now.known in
    let p = (rw (ap record_number c.locate-node.ensures.rec) at e.place) m way.0 (way_led (Node c.args.number way.0) way.1) in
    (m, way.0, rw (ap record_number c.locate-node.ensures.rec) (way_place c.args.number way.0 p.0 c.find_slot-slot.result way.1 e.reads.2.reads p.1 p.2))

pub load_entry-entry-requires-clause-node : goal.load_entry-entry-requires-clause-node
load_entry-entry-requires-clause-node g c = node_at c.args.table.now.layout c.args.number c.locate-node.result c.locate-node.ensures.rec c.locate-node.ensures.start

-- the entry is lower, and the way has led to it
entered : (g : given.Over) (c : After-load_entry-entry g) → (h : _) → HasComeTo c.args.seat.now.known c.args.key.now (Node c.args.number h) →
    (height_of c.load_entry-entry.result < h) × HasComeTo c.load_entry-entry.new.seat.known c.args.key.now c.load_entry-entry.result
entered g c h way =
    let e = c.find_slot-slot.ensures in let m = since c.args.seat.now.known in
    let p = (rw (ap record_number c.locate-node.ensures.rec) at e.place) m h (way_led (Node c.args.number h) way) in
    let lower = (rw (ap record_number c.locate-node.ensures.rec) at c.load_entry-entry.ensures.entry) m h (way_place c.args.number h p.0 c.find_slot-slot.result way e.reads.2.reads p.1 p.2) in
    (lower.0, way_next c.args.number h p.0 c.find_slot-slot.result way e.reads.2.reads p.1 p.2 c.load_entry-entry.result (entry_read e.reads.2 c.load_entry-entry.ensures.reads c.load_entry-entry.ensures.touches) lower.1)

pub touch_record-requires : goal.touch_record-requires
touch_record-requires g c =
    let way = c.requires.way in let d = entered g (goal.at.touch_record-requires g c).After-load_entry-entry way.0 way.1 in
    let k = c.load_entry-entry.new.seat.known in
    let reader = reader_then (reader_then c.requires.reader c.find_slot-slot.ensures.reads.2.reads) c.load_entry-entry.ensures.reads in
    record {
      own = reader.0;
      range = led_in_table c.args.table.now.layout k (since k) c.load_entry-entry.result reader.1 (way_led c.load_entry-entry.result d.1);
    }

pub returns : goal.returns
returns g c = record {
  reads = let r = c.find_slot-slot.ensures.reads in let e = c.load_entry-entry.ensures in
      (r.0 + 1, (let few = r.1 in omega (arith, few)), reads_touching (touches_last (reads_on r.2 (reads_untouched {most = 0} e.reads e.touches)) c.touch_record.ensures) (omega arith));
  entry = λ h way.
      let e = entered g (goal.at.returns g c).After-load_entry-entry h way in let (n, few, is) = c.touch_record.ensures in
      (e.0, subst (λ (s : SeatView). HasComeTo s.known c.args.key.now c.load_entry-entry.result) (sym is) e.1);
}
