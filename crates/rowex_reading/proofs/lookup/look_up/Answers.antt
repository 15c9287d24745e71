-- The empty root, the root's entry, one node down, and the leaf.
use Rattle.rowex_reading.proofs.Common.{◌<◌, sym, subst, height_of, Node, node_at}
use Rattle.rowex_reading.specs.Seen.{since}
use Rattle.rowex_reading.proofs.lookup.Lookup.{IsAt, none_searched, none_found, at_root, at_led, place_of, next_of, leaf_searched, leaf_found}
use Rattle.rowex_reading.proofs.Seen.Led.{reader_then, root_reader}
use Rattle.rowex_reading.proofs.Touching.{entry_read, entry_touched}
use Rattle.rowex_reading.proofs.Seen.Naming.{entry_told, node_led, node_place, slot_told}
use Rattle.rowex_reading.proofs.Seen.Standing.{led_in_table}
use Rattle.rowex_reading.proofs.lookup.look_up.Given as given
use Rattle.rowex_reading.proofs.lookup.look_up.Goals as goal
use Rattle.rowex_reading.proofs.lookup.look_up.Goals.{After-load_entry-entry}

pub returns-in_err-entry-clause-found : goal.returns-in_err-entry-clause-found
returns-in_err-entry-clause-found g c = rw c.from_residual.ensures (none_found c.load_root.ensures.reads c.args.key.now c.in_err-entry.ensures.root)

pub returns-in_err-entry-clause-searched : goal.returns-in_err-entry-clause-searched
returns-in_err-entry-clause-searched g c = none_searched c.load_root.ensures.reads

pub loop-entry-init : goal.loop-entry-init
loop-entry-init g c =
    let r = c.load_root.ensures.reads in
    record {
      reader = root_reader c.requires.own r;
      at = at_root r c.requires.pinned _ c.in_ok-entry.entry c.in_ok-entry.ensures.low c.in_ok-entry.ensures.root;
    }

pub locate-node-requires : goal.locate-node-requires
locate-node-requires g c =
    let i = c.loop-entry.invariant in led_in_table c.args.table.now.layout c.loop-entry.seat.known (since c.loop-entry.seat.known) (Node c.in-Node.number c.in-Node.height) i.reader.1 (at_led i.at _ c.in-Node.is)

pub find_slot-slot-requires-clause-led : goal.find_slot-slot-requires-clause-led
find_slot-slot-requires-clause-led g c = (since c.loop-entry.seat.known, c.in-Node.height, node_led c.in-Node.number c.locate-node.result.rec c.locate-node.ensures.rec c.loop-entry.seat.known (since c.loop-entry.seat.known) c.in-Node.height (at_led c.loop-entry.invariant.at _ c.in-Node.is))

pub find_slot-slot-requires-clause-node : goal.find_slot-slot-requires-clause-node
find_slot-slot-requires-clause-node g c = node_at c.args.table.now.layout c.in-Node.number c.locate-node.result c.locate-node.ensures.rec c.locate-node.ensures.start

pub load_entry-entry-requires-clause-reader : goal.load_entry-entry-requires-clause-reader
load_entry-entry-requires-clause-reader g c = reader_then c.loop-entry.invariant.reader c.find_slot-slot.ensures.reads.2.reads

pub load_entry-entry-requires-clause-place : goal.load_entry-entry-requires-clause-place
load_entry-entry-requires-clause-place g c =
    let i = c.loop-entry.invariant in let e = c.find_slot-slot.ensures in let m = since c.loop-entry.seat.known in
    let p = slot_told c.in-Node.number c.locate-node.result.rec c.locate-node.ensures.rec c.loop-entry.seat.known c.find_slot-slot.new.seat.known c.args.key.now c.find_slot-slot.result e.place m c.in-Node.height (at_led i.at _ c.in-Node.is) in
    (m, c.in-Node.height, node_place c.in-Node.number c.locate-node.result.rec c.locate-node.ensures.rec c.find_slot-slot.new.seat.known m c.in-Node.height c.find_slot-slot.result (place_of i.at c.in-Node.number c.in-Node.height p.0 c.find_slot-slot.result c.in-Node.is e.reads.1 e.reads.2.reads p.1 p.2))

pub load_entry-entry-requires-clause-node : goal.load_entry-entry-requires-clause-node
load_entry-entry-requires-clause-node g c = node_at c.args.table.now.layout c.in-Node.number c.locate-node.result c.locate-node.ensures.rec c.locate-node.ensures.start

-- the entry at the key's place is lower, and the search has been led to it
entry : (g : given.Over) (c : After-load_entry-entry g) →
    (height_of c.load_entry-entry.result < c.in-Node.height) × IsAt c.args.table.now g.G.Gate.becomes (c.args.seat.now, c.args.gate.now) (c.load_entry-entry.new.seat, c.load_entry-entry.new.gate) c.args.key.now c.load_entry-entry.result
entry g c =
    let i = c.loop-entry.invariant in let n = c.in-Node in let e = c.find_slot-slot.ensures in let m = since c.loop-entry.seat.known in
    let p = slot_told c.in-Node.number c.locate-node.result.rec c.locate-node.ensures.rec c.loop-entry.seat.known c.find_slot-slot.new.seat.known c.args.key.now c.find_slot-slot.result e.place m n.height (at_led i.at _ n.is) in
    let lower = entry_told c.in-Node.number c.locate-node.result.rec c.locate-node.ensures.rec c.find_slot-slot.new.seat.known c.load_entry-entry.new.seat.known c.find_slot-slot.result c.load_entry-entry.result c.load_entry-entry.ensures.entry m n.height (place_of i.at n.number n.height p.0 c.find_slot-slot.result n.is e.reads.1 e.reads.2.reads p.1 p.2) in
    (lower.0, next_of i.at n.number n.height p.0 c.find_slot-slot.result n.is e.reads.1 e.reads.2.reads p.1 p.2 c.load_entry-entry.result (entry_read e.reads.2 c.load_entry-entry.ensures.reads c.load_entry-entry.ensures.touches) (entry_touched e.reads.2 _ c.load_entry-entry.ensures.touches) lower)

pub loop-entry-smaller : goal.loop-entry-smaller
loop-entry-smaller g c = subst (λ z. height_of c.load_entry-entry.result < height_of z) (sym c.in-Node.is) (entry g (goal.at.loop-entry-smaller g c).After-load_entry-entry).0

pub loop-entry-preserved : goal.loop-entry-preserved
loop-entry-preserved g c = record {
  reader = reader_then (reader_then c.loop-entry.invariant.reader c.find_slot-slot.ensures.reads.2.reads) c.load_entry-entry.ensures.reads;
  at = (entry g (goal.at.loop-entry-preserved g c).After-load_entry-entry).1;
}

pub load_value-requires-clause-led : goal.load_value-requires-clause-led
load_value-requires-clause-led g c = (since c.loop-entry.seat.known, at_led c.loop-entry.invariant.at _ c.in-Leaf.is)

pub returns-in-Leaf : goal.returns-in-Leaf
returns-in-Leaf g c =
    let e = c.load_value.ensures in
    record {
      searched = leaf_searched c.loop-entry.invariant.at c.in-Leaf.number c.in-Leaf.is e.reads.1 e.reads.2;
      found = leaf_found c.loop-entry.invariant.at c.in-Leaf.number c.in-Leaf.is e.reads.1 e.reads.2 c.load_value.result e.leaf;
    }
