-- No entry, and one more: it leads to a leaf or to a node.
use Rattle.rowex_scanning.proofs.Common.{◌≡◌, ℕ, ◌+◌, ◌∙◌, arith, rules, subst, sym, length-set, Leaf, Node, SeatView, HasPlace, IsLedTo, Sure, placed_led, reader_then, reads_later, reads_none, reads_trans, since_later, reads_touching, reads_untouched, touches_last, IsPlaced, place_ahead}
use Rattle.rowex_reading.proofs.Seen.Naming.{entry_told, node_place}
use Rattle.rowex_scanning.specs.Ahead.{AreSlots, HasPlaces}
use Rattle.rowex_scanning.proofs.ahead.Begins.{begins_there, leaf_begins, leaf_there, node_begins, node_there}
use Rattle.rowex_scanning.proofs.taking.Passing.{ahead_later, ahead_more, loaded_at, places_later, starts_more}
use Rattle.rowex_scanning.proofs.ahead.load_entries.Given as given
use Rattle.rowex_scanning.proofs.ahead.load_entries.Goals as goal
use Rattle.rowex_scanning.proofs.ahead.load_entries.Goals.{After-next_slot-slot, In-Leaf}

-- The slot is that of the next entry, and the slots go on behind it.
slot_told : (g : given.Over) (c : After-next_slot-slot g) → (c.next_slot-slot.result ≡ place_ahead c.args.scan.now.range.now.direction c.args.top.now.slot c.loop-index.index) ×
    AreSlots c.args.scan.now.range.now.direction c.args.top.now.count c.args.top.now.slot (c.loop-index.index + 1) c.next_slot-slot.new.self
slot_told g c = c.next_slot-slot.ensures c.args.scan.now.range.now.direction c.args.top.now.count c.args.top.now.slot c.loop-index.index
    (omega (arith, c.loop-index-test.true, c.min-count.ensures, c.entries_to_come.ensures)) c.loop-index.invariant.slots

leaf_slot_told : (g : given.Over) (c : In-Leaf g) → (c.next_slot-slot.result ≡ place_ahead c.args.scan.now.range.now.direction c.args.top.now.slot c.loop-index.index) ×
    AreSlots c.args.scan.now.range.now.direction c.args.top.now.count c.args.top.now.slot (c.loop-index.index + 1) c.next_slot-slot.new.self
leaf_slot_told g c = c.next_slot-slot.ensures c.args.scan.now.range.now.direction c.args.top.now.count c.args.top.now.slot c.loop-index.index
    (omega (arith, c.loop-index-test.true, c.min-count.ensures, c.entries_to_come.ensures)) c.loop-index.invariant.slots

-- the node has an entry at the place
has_place : (g : given.Over) (c : After-next_slot-slot g) (m : ℕ) → HasPlaces c.args.scan.now.range.now.direction c.args.seat.now.known m c.args.top.now →
    HasPlace c.loop-index.seat.known m c.args.top.now.number c.args.top.now.height (place_ahead c.args.scan.now.range.now.direction c.args.top.now.slot c.loop-index.index)
has_place g c m has = places_later c.args.scan.now.range.now.direction m c.args.top.now (reads_later c.loop-index.invariant.reads.2) has c.loop-index.index (omega (arith, c.loop-index-test.true, c.min-count.ensures, c.entries_to_come.ensures))

-- The leaf that was loaded stands there, and the walk is led to it.
leaf_there_too : (g : given.Over) (c : In-Leaf g) (m : ℕ) → HasPlaces c.args.scan.now.range.now.direction c.args.seat.now.known m c.args.top.now →
    HasPlace c.loop-index.seat.known m c.args.top.now.number c.args.top.now.height (place_ahead c.args.scan.now.range.now.direction c.args.top.now.slot c.loop-index.index)
leaf_there_too g c m has = places_later c.args.scan.now.range.now.direction m c.args.top.now (reads_later c.loop-index.invariant.reads.2) has c.loop-index.index (omega (arith, c.loop-index-test.true, c.min-count.ensures, c.entries_to_come.ensures))

leaf_placed : (g : given.Over) (c : In-Leaf g) (m : ℕ) → HasPlaces c.args.scan.now.range.now.direction c.args.seat.now.known m c.args.top.now →
    Sure c.load_entry.new.seat.known (λ s. IsPlaced s m c.args.top.now.number (place_ahead c.args.scan.now.range.now.direction c.args.top.now.slot c.loop-index.index) (Leaf c.in-Leaf.number))
leaf_placed g c m has =
    (loaded_at c.args.scan.now.range.now.direction m c.args.top.now c.loop-index.index c.next_slot-slot.result (Leaf c.in-Leaf.number) (leaf_slot_told g c).0 (leaf_there_too g c m has)
    (entry_told c.args.top.now.number c.find-node.result.rec c.find-node.ensures.rec c.loop-index.seat.known c.load_entry.new.seat.known c.next_slot-slot.result (Leaf c.in-Leaf.number) c.in-Leaf.ensures.entry)).1

leaf_led : (g : given.Over) (c : In-Leaf g) (m : ℕ) → HasPlaces c.args.scan.now.range.now.direction c.args.seat.now.known m c.args.top.now → IsLedTo c.load_entry.new.seat.known m (Leaf c.in-Leaf.number)
leaf_led g c m has =
    placed_led c.args.top.now.number (place_ahead c.args.scan.now.range.now.direction c.args.top.now.slot c.loop-index.index) (Leaf c.in-Leaf.number)
    (since_later (reads_later c.load_entry.ensures.reads) (leaf_there_too g c m has).0.0) (leaf_placed g c m has)

-- So its record is the table's.
pub find-leaf-requires : goal.find-leaf-requires
find-leaf-requires g c =
    let (m, has) = c.requires.places in
    leaf_there c.args.scan.now.table.now.layout c.args.scan.now.origins.now.layout c.requires.origins c.load_entry.new.seat.known m c.in-Leaf.number (reader_then c.loop-index.invariant.reader c.load_entry.ensures.reads).1
    (leaf_led g (goal.at.find-leaf-requires g c).In-Leaf m has)

pub touch_leaf-requires-clause-leaf : goal.touch_leaf-requires-clause-leaf
touch_leaf-requires-clause-leaf g c = leaf_begins c.args.scan.now.table.now.layout c.args.scan.now.origins.now.layout c.requires.origins c.in-Leaf.number c.find-leaf.result c.find-leaf.ensures.rec c.find-leaf.ensures.start

pub loop-index-init : goal.loop-index-init
loop-index-init g c = record {
  reader = c.requires.reader;
  reads = (0, omega arith, reads_none (c.args.seat.now, c.args.gate.now));
  long = search rules;
  wide = search rules;
  slots = c.to_come-slots.ensures;
  starts = λ i low. absurd (omega (arith, low));
  ahead = λ m has i low. absurd (omega (arith, low));
}

pub load_entry-requires-clause-place : goal.load_entry-requires-clause-place
load_entry-requires-clause-place g c = (
  c.requires.places.0,
  c.args.top.now.height,
  node_place c.args.top.now.number c.find-node.result.rec c.find-node.ensures.rec c.loop-index.seat.known c.requires.places.0 c.args.top.now.height c.next_slot-slot.result
      (rw (slot_told g (goal.at.load_entry-requires-clause-place g c).After-next_slot-slot).0 (has_place g (goal.at.load_entry-requires-clause-place g c).After-next_slot-slot c.requires.places.0 c.requires.places.1)),
)

pub find-node-requires : goal.find-node-requires
find-node-requires g c =
    let (m, has) = c.requires.places in let top = c.args.top.now in
    node_there c.args.scan.now.table.now.layout c.args.scan.now.origins.now.layout c.requires.origins c.args.seat.now.known m top.number top.height (place_ahead c.args.scan.now.range.now.direction top.slot 0) c.requires.reader.1 (has 0 c.requires.come)

pub load_entry-requires-clause-node : goal.load_entry-requires-clause-node
load_entry-requires-clause-node g c = node_begins c.args.scan.now.table.now.layout c.args.scan.now.origins.now.layout c.requires.origins c.args.top.now.number c.find-node.result c.find-node.ensures.rec c.find-node.ensures.start

pub returns-in-Node-clause-reads : goal.returns-in-Node-clause-reads
returns-in-Node-clause-reads g c = let (n, few, reads) = c.loop-index.invariant.reads in (n + 1, omega (arith, few), reads_trans reads c.load_entry.ensures.reads)

pub returns-in-Node-clause-ahead : goal.returns-in-Node-clause-ahead
returns-in-Node-clause-ahead g c = λ m has.
    let d = c.args.scan.now.range.now.direction in let top = c.args.top.now in let later = reads_later c.load_entry.ensures.reads in
    let place = has_place g (goal.at.returns-in-Node-clause-ahead g c).After-next_slot-slot m has in
    let (lower, placed) = loaded_at d m top c.loop-index.index c.next_slot-slot.result (Node c.in-Node.number c.in-Node.height) (slot_told g (goal.at.returns-in-Node-clause-ahead g c).After-next_slot-slot).0 place (entry_told c.args.top.now.number c.find-node.result.rec c.find-node.ensures.rec c.loop-index.seat.known c.load_entry.new.seat.known c.next_slot-slot.result (Node c.in-Node.number c.in-Node.height) c.in-Node.ensures.entry) in
    record { first = ahead_later d m top later c.loop-index.index c.loop-index.leaves (c.loop-index.invariant.ahead m has); node = (c.in-Node.height, lower, placed) }

-- The touches of the leaf stand beside the load of its entry.
pub touch_leaf-requires-clause-own : goal.touch_leaf-requires-clause-own
touch_leaf-requires-clause-own g c = (reader_then c.loop-index.invariant.reader c.load_entry.ensures.reads).0

pub loop-index-preserved : goal.loop-index-preserved
loop-index-preserved g c =
    let i = c.loop-index.invariant in let (n, few, before) = i.reads in let d = c.args.scan.now.range.now.direction in let top = c.args.top.now in
    let loaded = reads_touching (touches_last (reads_untouched {most = 0} c.load_entry.ensures.reads c.load_entry.ensures.touches) c.touch_leaf.ensures) (omega arith) in
    record {
      reader = reader_then i.reader loaded;
      reads = (n + 1, omega (arith, few), reads_trans before loaded);
      long = length-set c.loop-index.leaves c.loop-index.index c.in-Leaf.number ∙ i.long;
      wide = length-set c.loop-index.starts c.loop-index.index c.find-leaf.result.start ∙ i.wide;
      slots = (leaf_slot_told g (goal.at.loop-index-preserved g c).In-Leaf).1;
      starts = starts_more c.args.scan.now.table.now.layout c.loop-index.index c.loop-index.leaves c.loop-index.starts c.in-Leaf.number c.find-leaf.result.start i.starts
          (omega (arith, i.long, c.loop-index-test.true, c.min-count.ensures, c.most_slots.ensures.most)) (omega (arith, i.wide, c.loop-index-test.true, c.min-count.ensures, c.most_slots.ensures.most))
          (begins_there c.args.scan.now.table.now.layout c.args.scan.now.origins.now.layout c.requires.origins c.in-Leaf.number c.find-leaf.result.start c.find-leaf.ensures.start);
      ahead = λ m has.
          let (k, some, is) = c.touch_leaf.ensures in
          let placed = subst (λ (z : SeatView). Sure z.known (λ s. IsPlaced s m top.number (place_ahead d top.slot c.loop-index.index) (Leaf c.in-Leaf.number))) (sym is) (leaf_placed g (goal.at.loop-index-preserved g c).In-Leaf m has) in
          ahead_more d m top c.loop-index.index c.loop-index.leaves c.in-Leaf.number (ahead_later d m top (reads_later loaded) c.loop-index.index c.loop-index.leaves (i.ahead m has)) (omega (arith, i.long, c.loop-index-test.true, c.min-count.ensures, c.most_slots.ensures.most)) placed;
    }
