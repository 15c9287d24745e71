-- The start, the leaf that comes first, and the walk from there on.
use Rattle.rowex_scanning.proofs.Common.{◌≡◌, ◌∙◌, ◌≤◌, ℕ, ap, length, arith, length-take-le, err_from_is_err_and, Leaf, Reads, since, reader_then, reads_later, reads_trans, same_since, first_key}
use Rattle.rowex_scanning.specs.Scanning.{asked_range}
use Rattle.rowex_scanning.proofs.ahead.Begins.{begins_there, leaf_there}
use Rattle.rowex_scanning.proofs.scanning.Parts.{walk_part}
use Rattle.rowex_scanning.proofs.Starts.{HasBegun, begun}
use Rattle.rowex_scanning.proofs.Walking.{IsAtEntry, bound_later, bound_since, entry_led, entry_low, reads_both, walk_full, walk_further, walk_past, walk_since, walks_alone, walks_behind}
use Rattle.rowex_scanning.proofs.scanning.scan_node.Given as given
use Rattle.rowex_scanning.proofs.scanning.scan_node.Goals as goal
use Rattle.rowex_scanning.proofs.scanning.scan_node.Goals.{After-take_leaf, After-truncate, After-walk_slots, then-start+in_ok-take_leaf+in-Further, else-start}

-- where the scan begins
begins : (g : given.Over) (c : After-truncate g) →
    HasBegun c.args.scan.now.range.now.direction c.args.scan.now.table.now.layout c.find_start-start.new.seat.known (since c.args.seat.now.known) (asked_range c.args.scan.now.range.now) c.args.found.number c.find_start-start.result c.truncate.new.self.items (g.S.Tallies.tally c.args.sink.now)
begins g c = begun c.args.found (asked_range c.args.scan.now.range.now) c.requires.way c.as_slice.ensures.value c.find_start-start.ensures.start c.truncate.ensures.items c.requires.empty

-- the leaf that comes first; and since the search the root was not loaded
first : (g : given.Over) (c : After-take_leaf g) →
    IsAtEntry c.args.scan.now.range.now.direction c.find_start-start.new.seat.known (since c.args.seat.now.known) (asked_range c.args.scan.now.range.now) c.find_start-start.result.top c.truncate.new.self.items (g.S.Tallies.tally c.args.sink.now) (Leaf c.args.found.number) ×
    (since c.take_leaf.new.seat.known ≡ since c.args.seat.now.known)
first g c = (
  (begun c.args.found (asked_range c.args.scan.now.range.now) c.requires.way c.as_slice.ensures.value c.find_start-start.ensures.start c.truncate.ensures.items c.requires.empty).entry c.if-start.true,
  same_since (reads_trans c.find_start-start.ensures.reads.2 c.take_leaf.ensures.reads.2),
)

pub find_start-start-requires-clause-way : goal.find_start-start-requires-clause-way
find_start-start-requires-clause-way g c =
    (since c.args.seat.now.known, rw c.as_slice.ensures.value c.requires.way)

pub take_leaf-requires-clause-reader : goal.take_leaf-requires-clause-reader
take_leaf-requires-clause-reader g c = reader_then c.requires.reader c.find_start-start.ensures.reads.2

pub find-leaf-requires : goal.find-leaf-requires
find-leaf-requires g c =
    let b = begins g (goal.at.find-leaf-requires g c).After-truncate in
    leaf_there c.args.scan.now.table.now.layout c.args.scan.now.origins.now.layout c.requires.origins c.find_start-start.new.seat.known (since c.args.seat.now.known) c.args.found.number (reader_then c.requires.reader c.find_start-start.ensures.reads.2).1
    (entry_led (b.entry c.if-start.true))

pub take_leaf-requires-clause-start : goal.take_leaf-requires-clause-start
take_leaf-requires-clause-start g c = begins_there c.args.scan.now.table.now.layout c.args.scan.now.origins.now.layout c.requires.origins c.args.found.number c.find-leaf.result.start c.find-leaf.ensures.start

pub take_leaf-requires-clause-leaf : goal.take_leaf-requires-clause-leaf
take_leaf-requires-clause-leaf g c =
    let b = begins g (goal.at.take_leaf-requires-clause-leaf g c).After-truncate in
    (since c.args.seat.now.known, entry_led (b.entry c.if-start.true), b.reached c.if-start.true)

pub returns-in_err-take_leaf-clause-reads : goal.returns-in_err-take_leaf-clause-reads
returns-in_err-take_leaf-clause-reads g c = walks_alone c.args.scan.now.range.now.limit (reads_both c.find_start-start.ensures.reads c.take_leaf.ensures.reads (omega arith))

pub returns-in_err-take_leaf-clause-passed : goal.returns-in_err-take_leaf-clause-passed
returns-in_err-take_leaf-clause-passed g c = walks_alone _ (reads_both c.find_start-start.ensures.reads c.take_leaf.ensures.reads (omega arith))

pub returns-in_err-take_leaf-clause-part : goal.returns-in_err-take_leaf-clause-part
returns-in_err-take_leaf-clause-part g c =
    let (a, same) = first g (goal.at.returns-in_err-take_leaf-clause-part g c).After-take_leaf in
    let none = c.requires.empty.0 in
    rw (err_from_is_err_and c.from_residual.result c.from_residual.ensures.1).1 (walk_part (reads_later c.take_leaf.ensures.reads.2) c.in_err-take_leaf.ensures.refused (omega (arith, none)) same a)

pub gap_behind_slot-requires : goal.gap_behind_slot-requires
gap_behind_slot-requires g c = entry_low ((begins g (goal.at.gap_behind_slot-requires g c).After-truncate).entry c.if-start.true).walk

pub returns-in-Past-clause-reads : goal.returns-in-Past-clause-reads
returns-in-Past-clause-reads g c = walks_alone c.args.scan.now.range.now.limit (reads_both c.find_start-start.ensures.reads c.take_leaf.ensures.reads (omega arith))

pub returns-in-Past-clause-passed : goal.returns-in-Past-clause-passed
returns-in-Past-clause-passed g c = walks_alone _ (reads_both c.find_start-start.ensures.reads c.take_leaf.ensures.reads (omega arith))

pub returns-in-Past-clause-scanned : goal.returns-in-Past-clause-scanned
returns-in-Past-clause-scanned g c =
    let (a, same) = first g (goal.at.returns-in-Past-clause-scanned g c).After-take_leaf in walk_past a (reads_later c.take_leaf.ensures.reads.2) c.in_ok-take_leaf.ensures.taken same c.in-Past.is

pub returns-in-Full-clause-reads : goal.returns-in-Full-clause-reads
returns-in-Full-clause-reads g c = walks_alone c.args.scan.now.range.now.limit (reads_both c.find_start-start.ensures.reads c.take_leaf.ensures.reads (omega arith))

pub returns-in-Full-clause-passed : goal.returns-in-Full-clause-passed
returns-in-Full-clause-passed g c = walks_alone _ (reads_both c.find_start-start.ensures.reads c.take_leaf.ensures.reads (omega arith))

pub returns-in-Full-clause-scanned : goal.returns-in-Full-clause-scanned
returns-in-Full-clause-scanned g c =
    let (a, same) = first g (goal.at.returns-in-Full-clause-scanned g c).After-take_leaf in walk_full a (reads_later c.take_leaf.ensures.reads.2) c.in_ok-take_leaf.ensures.taken same c.in-Full.is

pub push-requires : goal.push-requires
push-requires g c =
    let (some, v, w) = c.requires.way in let deep = w.depth in let items = ap length c.as_slice.ensures.value in
    let within = (c.find_start-start.ensures.start (since c.args.seat.now.known) (rw c.as_slice.ensures.value c.requires.way)).within in
    let cut = ap length c.truncate.ensures.items ∙ length-take-le c.find_start-start.result.level c.args.way.now.items (omega (arith, within, items)) in
    (omega arith, omega (arith, within, deep, items, cut))

pub walk_slots-requires-clause-reader : goal.walk_slots-requires-clause-reader
walk_slots-requires-clause-reader g c =
    let r = reader_then c.requires.reader c.find_start-start.ensures.reads.2 in
    elim c.if-start.branch [ then-start+in_ok-take_leaf+in-Further w ↦ rw w.seat-is (reader_then r w.take_leaf.ensures.reads.2) | else-start w ↦ rw w.seat-is r ]

pub walk_slots-requires-clause-walk : goal.walk_slots-requires-clause-walk
walk_slots-requires-clause-walk g c =
    let b = begins g (goal.at.walk_slots-requires-clause-walk g c).After-truncate in
    let r = c.find_start-start.ensures.reads.2 in let m = since c.args.seat.now.known in let d = c.args.scan.now.range.now.direction in let key = first_key d (asked_range c.args.scan.now.range.now) in
    record {
      top = c.if-start.top;
      frames = c.truncate.new.self.items;
      way_is = c.push.ensures.items;
      bound = elim c.if-start.branch [
        | then-start+in_ok-take_leaf+in-Further w ↦
            let s = w.take_leaf.ensures.reads.2 in let same = same_since (reads_trans r s) in
            rw (w.seat-is, w.top-is, w.gap_behind_slot.ensures, w.sink-is) (
              walk_since same (walk_further (b.entry w.if-start.true) (reads_later s) w.in_ok-take_leaf.ensures.taken w.in-Further.is),
              bound_since d m key same (bound_later d m key (reads_later s) (b.behind w.if-start.true)),
            )
        | else-start w ↦ rw (w.seat-is, w.top-is, w.sink-is) (walk_since (same_since r) (b.walk w.if-start.false), bound_since d m key (same_since r) (b.bound w.if-start.false))
      ];
    }

-- The loads before the walk,
before : (g : given.Over) (c : After-walk_slots g) → (n : ℕ) × (n ≤ 57) × Reads c.args.scan.now.table.now g.G.Gate.becomes 0 n (c.args.seat.now, c.args.gate.now) (c.if-start.seat, c.if-start.gate)
before g c =
    let r = c.find_start-start.ensures.reads in let few = r.1 in
    elim c.if-start.branch [
      | then-start+in_ok-take_leaf+in-Further w ↦ rw (w.seat-is, w.gate-is) (reads_both r w.take_leaf.ensures.reads (omega arith))
      | else-start w ↦ rw (w.seat-is, w.gate-is) (r.0, omega (arith, few), r.2)
    ]

-- and with it.
pub returns-clause-reads : goal.returns-clause-reads
returns-clause-reads g c = walks_behind (before g (goal.at.returns-clause-reads g c).After-walk_slots) c.walk_slots.ensures.reads

pub returns-clause-passed : goal.returns-clause-passed
returns-clause-passed g c = walks_behind (before g (goal.at.returns-clause-passed g c).After-walk_slots) c.walk_slots.ensures.passed
