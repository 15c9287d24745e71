-- The steps of the walk.
use Rattle.rowex_scanning.proofs.Common.{◌≡◌, ◌+◌, ◌<◌, ◌∷◌, ◌++◌, [], List, length, take, ap, sym, subst, ◌∙◌, arith, IfSome, option_to_list, length-take-le, Node, PathNode, since, reader_then, reads_later, reads_none, reads_trans, same_since, placed_stable, sure_later, first_key, place_ahead, to_come}
use Rattle.rowex_scanning.specs.Ahead.{AreAhead, AreNext, HavePassed, IsNodeAhead, entries_ahead}
use Rattle.rowex_scanning.specs.Counts.{Walks}
use Rattle.rowex_scanning.specs.declared.ahead.TheConstants.{MOST_AHEAD}
use Rattle.rowex_scanning.specs.Scanning.{HasTaken, IsBound, IsBoundWalk, asked_range, request_of}
use Rattle.rowex_scanning.proofs.direction.Directed.{gap_before_place}
use Rattle.rowex_scanning.proofs.taking.Passing.{ahead_first, node_at, node_later, starts_first, taken_all}
use Rattle.rowex_scanning.proofs.Walking.{after_less, ahead_most, bound_later, bound_pop, bound_push, bound_since, entered_first, entered_number, entry_led, last_is, none_popped, paid_ahead, paid_child, paid_end, paid_first, paid_last, paid_pop, pop_less, rest_of, walk_end, walk_fits, walk_inside, walk_later, walk_places, walk_pop, walk_push, walk_push_less, walk_several, walk_short, walk_since, way_short}
use Rattle.rowex_scanning.proofs.scanning.walk_slots.Given as given
use Rattle.rowex_scanning.proofs.scanning.walk_slots.Goals as goal
use Rattle.rowex_scanning.proofs.scanning.walk_slots.Goals.{After-load_entries_ahead-ahead, After-take_leaves, After-push, In-Further, In-Some-node}

-- The root has not been loaded again.
same : (g : given.Over) (c : After-load_entries_ahead-ahead g) → since c.load_entries_ahead-ahead.new.seat.known ≡ since c.args.seat.now.known
same g c = same_since (reads_trans c.loop-seat.invariant.reads.3 c.load_entries_ahead-ahead.ensures.reads.2)

-- So many leaves were seen, which come next.
long : (g : given.Over) (c : After-load_entries_ahead-ahead g) → length (take c.load_entries_ahead-ahead.result.count c.load_entries_ahead-ahead.new.leaves) ≡ c.load_entries_ahead-ahead.result.count
long g c =
    let most = c.load_entries_ahead-ahead.ensures.most in let room = c.load_entries_ahead-ahead.ensures.wide.0 in
    length-take-le c.load_entries_ahead-ahead.result.count c.load_entries_ahead-ahead.new.leaves (omega (arith, most, room))

next : (g : given.Over) (c : After-load_entries_ahead-ahead g) →
    AreNext c.load_entries_ahead-ahead.new.seat.known (request_of c.args.scan.now.range.now) c.loop-seat.top c.loop-seat.way.items (g.S.Tallies.tally c.loop-seat.sink) (take c.load_entries_ahead-ahead.result.count c.load_entries_ahead-ahead.new.leaves)
next g c =
    let i = c.loop-seat.invariant in let e = c.load_entries_ahead-ahead.ensures in let later = reads_later e.reads.2 in let m = since c.args.seat.now.known in
    let d = c.args.scan.now.range.now.direction in let key = first_key d (asked_range c.args.scan.now.range.now) in let leaves = take c.load_entries_ahead-ahead.result.count c.load_entries_ahead-ahead.new.leaves in
    let most = e.most in let room = e.wide.0 in let come = e.come in let n = long g c in
    record {
      bound = (walk_since (same g c) (walk_later later i.walk), bound_since d m key (same g c) (bound_later d m key later i.bound));
      ahead = subst (λ z. AreAhead d c.load_entries_ahead-ahead.new.seat.known z c.loop-seat.top (length leaves) leaves) (sym (same g c))
          (ahead_first d m c.loop-seat.top c.load_entries_ahead-ahead.result.count c.load_entries_ahead-ahead.new.leaves (omega (arith, most, room)) (e.ahead m (walk_places i.walk)).first);
      come = omega (arith, come, n);
    }

-- All leaves were passed.
passed : (g : given.Over) (c : In-Further g) → length (take c.load_entries_ahead-ahead.result.count c.load_entries_ahead-ahead.new.leaves) ≡ c.load_entries_ahead-ahead.result.count →
    AreNext c.load_entries_ahead-ahead.new.seat.known (request_of c.args.scan.now.range.now) c.loop-seat.top c.loop-seat.way.items (g.S.Tallies.tally c.loop-seat.sink) (take c.load_entries_ahead-ahead.result.count c.load_entries_ahead-ahead.new.leaves) →
    HavePassed c.take_leaves.new.seat.known (since c.args.seat.now.known) (request_of c.args.scan.now.range.now) c.loop-seat.way.items c.loop-seat.top (g.S.Tallies.tally c.loop-seat.sink).size c.load_entries_ahead-ahead.result.count (g.S.Tallies.tally c.take_leaves.new.self)
passed g c n next =
    let r = request_of c.args.scan.now.range.now in let top = c.loop-seat.top in let frames = c.loop-seat.way.items in
    let count = length (take c.load_entries_ahead-ahead.result.count c.load_entries_ahead-ahead.new.leaves) in let k = c.take_leaves.new.seat.known in let size = (g.S.Tallies.tally c.loop-seat.sink).size in let t = g.S.Tallies.tally c.take_leaves.new.self in
    let p = taken_all (HavePassed k (since c.load_entries_ahead-ahead.new.seat.known) r frames top size count t) (HasTaken r.0 k r.1 t)
    (c.in_ok-take_leaves.ensures.taken top frames next) c.in-Further.is in
    subst (λ z. HavePassed k (since c.args.seat.now.known) r frames top size z t) n
    (subst (λ z. HavePassed k z r frames top size count t) (same_since (reads_trans c.loop-seat.invariant.reads.3 c.load_entries_ahead-ahead.ensures.reads.2)) p)

-- The loads so far, where the scan ends at a leaf: by the limit,
paid : (g : given.Over) (c : After-take_leaves g) → length (take c.load_entries_ahead-ahead.result.count c.load_entries_ahead-ahead.new.leaves) ≡ c.load_entries_ahead-ahead.result.count →
    Walks c.args.scan.now.table.now g.G.Gate.becomes 0 c.args.scan.now.range.now.limit (c.args.seat.now, c.args.gate.now) (c.take_leaves.new.seat, c.take_leaves.new.gate)
paid g c n =
    let i = c.loop-seat.invariant in let e = c.load_entries_ahead-ahead.ensures in let (t, few, reads) = c.take_leaves.ensures.reads in
    paid_last c.args.scan.now.range.now.limit i.reads i.walk i.reader.1 c.load_entries_ahead-ahead.result (walk_short i.walk i.reader.1) e.few e.reads (t, omega (arith, few, n), reads)

-- and by the pairs that were taken.
paid_so : (g : given.Over) (c : After-take_leaves g) → length (take c.load_entries_ahead-ahead.result.count c.load_entries_ahead-ahead.new.leaves) ≡ c.load_entries_ahead-ahead.result.count →
    Walks c.args.scan.now.table.now g.G.Gate.becomes 0 ((g.S.Tallies.tally c.take_leaves.new.self).size + MOST_AHEAD) (c.args.seat.now, c.args.gate.now) (c.take_leaves.new.seat, c.take_leaves.new.gate)
paid_so g c n =
    let i = c.loop-seat.invariant in let e = c.load_entries_ahead-ahead.ensures in let (t, few, reads) = c.take_leaves.ensures.reads in
    let more = c.take_leaves.ensures.more in let most = e.most in let seen = ahead_most c.load_entries_ahead-ahead.result in
    paid_last ((g.S.Tallies.tally c.take_leaves.new.self).size + MOST_AHEAD) i.reads i.walk i.reader.1 c.load_entries_ahead-ahead.result (omega (arith, more)) (omega (arith, more, most, seen)) e.reads (t, omega (arith, few, n), reads)

-- The walk is before the node that comes behind the leaves,
node_ahead : (g : given.Over) (c : In-Some-node g) → IsNodeAhead c.args.scan.now.range.now.direction c.take_leaves.new.seat.known (since c.args.seat.now.known) c.loop-seat.top c.load_entries_ahead-ahead.result.count c.in-Some-node.number
node_ahead g c =
    let d = c.args.scan.now.range.now.direction in let m = since c.args.seat.now.known in let top = c.loop-seat.top in let ahead = c.load_entries_ahead-ahead.result in
    node_later d m top (reads_later c.take_leaves.ensures.reads.2) ahead.count c.in-Some-node.number
    (subst (λ z. IfSome z (IsNodeAhead d c.load_entries_ahead-ahead.new.seat.known m top ahead.count)) c.in-Some-node.is (c.load_entries_ahead-ahead.ensures.ahead m (walk_places c.loop-seat.invariant.walk)).node)

inside : (g : given.Over) (c : In-Some-node g) → c.load_entries_ahead-ahead.result.count < to_come c.args.scan.now.range.now.direction c.loop-seat.top.count c.loop-seat.top.slot
inside g c = let come = c.load_entries_ahead-ahead.ensures.come in let one : length (option_to_list c.load_entries_ahead-ahead.result.node) ≡ 1 = ap (λ z. length (option_to_list z)) c.in-Some-node.is in omega (arith, one, come)

-- which is pushed.
pushed : (g : given.Over) (c : After-push g) →
    c.push.new.self.items ≡ c.loop-seat.way.items ++ (record c.loop-seat.top { slot = place_ahead c.args.scan.now.range.now.direction c.loop-seat.top.slot c.load_entries_ahead-ahead.result.count }) ∷ []
pushed g c = c.push.ensures.items ∙ ap (λ z. c.loop-seat.way.items ++ (let x : PathNode = record c.loop-seat.top { slot = z } in x) ∷ []) c.slot_ahead.ensures

pub loop-seat-init : goal.loop-seat-init
loop-seat-init g c =
    let w = c.requires.walk in let (frames_are, top_is) = last_is w.frames c.pop.new.self.items w.top c.in-Some.top (sym w.way_is ∙ c.in-Some.ensures.items) in
    let m = since c.args.seat.now.known in let r = request_of c.args.scan.now.range.now in
    let (walk, bound) = subst (λ (z : List PathNode). IsBoundWalk c.args.seat.now.known m r c.in-Some.top z (g.S.Tallies.tally c.args.sink.now)) frames_are
    (subst (λ (z : PathNode). IsBoundWalk c.args.seat.now.known m r z w.frames (g.S.Tallies.tally c.args.sink.now)) top_is w.bound) in
    record {
      reader = c.requires.reader;
      reads = (0, 0, paid_first r.0 (g.S.Tallies.tally c.args.sink.now).size c.in-Some.top c.pop.new.self.items (way_short walk c.requires.reader.1), reads_none (c.args.seat.now, c.args.gate.now));
      walk = walk;
      bound = bound;
    }

pub load_entries_ahead-ahead-requires-clause-limit : goal.load_entries_ahead-ahead-requires-clause-limit
load_entries_ahead-ahead-requires-clause-limit g c = walk_short c.loop-seat.invariant.walk c.loop-seat.invariant.reader.1

pub load_entries_ahead-ahead-requires-clause-places : goal.load_entries_ahead-ahead-requires-clause-places
load_entries_ahead-ahead-requires-clause-places g c = (since c.args.seat.now.known, walk_places c.loop-seat.invariant.walk)

pub take_leaves-requires-clause-reader : goal.take_leaves-requires-clause-reader
take_leaves-requires-clause-reader g c = reader_then c.loop-seat.invariant.reader c.load_entries_ahead-ahead.ensures.reads.2

pub take_leaves-requires-clause-next : goal.take_leaves-requires-clause-next
take_leaves-requires-clause-next g c = (c.loop-seat.top, c.loop-seat.way.items, next g (goal.at.take_leaves-requires-clause-next g c).After-load_entries_ahead-ahead)

pub take_leaves-requires-clause-starts : goal.take_leaves-requires-clause-starts
take_leaves-requires-clause-starts g c =
    let e = c.load_entries_ahead-ahead.ensures in let most = e.most in let (room, wide) = e.wide in
    starts_first c.args.scan.now.table.now.layout c.load_entries_ahead-ahead.result.count c.load_entries_ahead-ahead.new.leaves c.load_entries_ahead-ahead.new.starts (omega (arith, most, room)) (omega (arith, most, wide)) e.starts

pub take_leaves-requires-clause-few : goal.take_leaves-requires-clause-few
take_leaves-requires-clause-few g c =
    let few = c.load_entries_ahead-ahead.ensures.few in let n = long g (goal.at.take_leaves-requires-clause-few g c).After-load_entries_ahead-ahead in omega (arith, few, n)

pub returns-in_err-take_leaves-clause-reads : goal.returns-in_err-take_leaves-clause-reads
returns-in_err-take_leaves-clause-reads g c = let at = goal.at.returns-in_err-take_leaves-clause-reads g c in paid g at.After-take_leaves (long g at.After-load_entries_ahead-ahead)

pub returns-in_err-take_leaves-clause-passed : goal.returns-in_err-take_leaves-clause-passed
returns-in_err-take_leaves-clause-passed g c = let at = goal.at.returns-in_err-take_leaves-clause-passed g c in paid_so g at.After-take_leaves (long g at.After-load_entries_ahead-ahead)

pub returns-in-Past-clause-reads : goal.returns-in-Past-clause-reads
returns-in-Past-clause-reads g c = let at = goal.at.returns-in-Past-clause-reads g c in paid g at.After-take_leaves (long g at.After-load_entries_ahead-ahead)

pub returns-in-Past-clause-passed : goal.returns-in-Past-clause-passed
returns-in-Past-clause-passed g c = let at = goal.at.returns-in-Past-clause-passed g c in paid_so g at.After-take_leaves (long g at.After-load_entries_ahead-ahead)

pub returns-in-Past-clause-scanned : goal.returns-in-Past-clause-scanned
returns-in-Past-clause-scanned g c =
    rw c.in-Past.is at (c.in_ok-take_leaves.ensures.taken c.loop-seat.top c.loop-seat.way.items (next g (goal.at.returns-in-Past-clause-scanned g c).After-load_entries_ahead-ahead))

pub returns-in-Full-clause-reads : goal.returns-in-Full-clause-reads
returns-in-Full-clause-reads g c = let at = goal.at.returns-in-Full-clause-reads g c in paid g at.After-take_leaves (long g at.After-load_entries_ahead-ahead)

pub returns-in-Full-clause-passed : goal.returns-in-Full-clause-passed
returns-in-Full-clause-passed g c = let at = goal.at.returns-in-Full-clause-passed g c in paid_so g at.After-take_leaves (long g at.After-load_entries_ahead-ahead)

pub returns-in-Full-clause-scanned : goal.returns-in-Full-clause-scanned
returns-in-Full-clause-scanned g c =
    rw c.in-Full.is at (c.in_ok-take_leaves.ensures.taken c.loop-seat.top c.loop-seat.way.items (next g (goal.at.returns-in-Full-clause-scanned g c).After-load_entries_ahead-ahead))

pub push-requires : goal.push-requires
push-requires g c = (omega arith, way_short c.loop-seat.invariant.walk c.loop-seat.invariant.reader.1)

pub enter_node_at_gap-top-requires-clause-reader : goal.enter_node_at_gap-top-requires-clause-reader
enter_node_at_gap-top-requires-clause-reader g c = reader_then (reader_then c.loop-seat.invariant.reader c.load_entries_ahead-ahead.ensures.reads.2) c.take_leaves.ensures.reads.2

pub enter_node_at_gap-top-requires-clause-led : goal.enter_node_at_gap-top-requires-clause-led
enter_node_at_gap-top-requires-clause-led g c =
    let at = goal.at.enter_node_at_gap-top-requires-clause-led g c in let here = at.After-load_entries_ahead-ahead in let ahead = node_ahead g at.In-Some-node in
    (since c.args.seat.now.known, ahead.0, entry_led (node_at (walk_fits c.loop-seat.invariant.walk) (inside g at.In-Some-node) (passed g at.In-Further (long g here) (next g here)) ahead))

pub loop-seat-smaller-in-Some-node : goal.loop-seat-smaller-in-Some-node
loop-seat-smaller-in-Some-node g c =
    let at = goal.at.loop-seat-smaller-in-Some-node g c in let here = at.After-load_entries_ahead-ahead in
    let d = c.args.scan.now.range.now.direction in let top = c.loop-seat.top in let count = c.load_entries_ahead-ahead.result.count in let e = c.enter_node_at_gap-top.ensures in
    let within = inside g at.In-Some-node in let ahead = node_ahead g at.In-Some-node in
    let a = node_at (walk_fits c.loop-seat.invariant.walk) within (passed g at.In-Further (long g here) (next g here)) ahead in
    let less = walk_push_less a (reads_later e.reads.2) (e.entered (since c.args.seat.now.known) ahead.0 (entry_led a)) (pushed g at.After-push) ahead.1 in
    let there = subst (λ z. rest_of d c.enter_node_at_gap-top.result c.push.new.self.items < rest_of d (record top { slot = z }) c.loop-seat.way.items) (sym (gap_before_place d top.count top.slot count within)) less in
    let before = after_less d top c.loop-seat.way.items count (omega (arith, within)) in omega (arith, there, before)

pub loop-seat-preserved-in-Some-node : goal.loop-seat-preserved-in-Some-node
loop-seat-preserved-in-Some-node g c =
    let at = goal.at.loop-seat-preserved-in-Some-node g c in let here = at.After-load_entries_ahead-ahead in
    let i = c.loop-seat.invariant in let m = since c.args.seat.now.known in let d = c.args.scan.now.range.now.direction in let key = first_key d (asked_range c.args.scan.now.range.now) in
    let top = c.loop-seat.top in let count = c.load_entries_ahead-ahead.result.count in let e = c.enter_node_at_gap-top.ensures in
    let look = c.load_entries_ahead-ahead.ensures.reads in let take = c.take_leaves.ensures.reads in let fewer = take.1 in
    let n = long g here in let later = reads_later e.reads.2 in
    let fits = walk_fits i.walk in let within = inside g at.In-Some-node in let p = passed g at.In-Further n (next g here) in let ahead = node_ahead g at.In-Some-node in
    let a = node_at fits within p ahead in let entered = e.entered m ahead.0 (entry_led a) in let there = pushed g at.After-push in
    let placed = sure_later (placed_stable m top.number (place_ahead d top.slot count) (Node c.in-Some-node.number ahead.0)) later ahead.2 in
    let bound = subst (λ z. IsBound d c.enter_node_at_gap-top.new.seat.known m key (record top { slot = z }) c.loop-seat.way.items) (gap_before_place d top.count top.slot count within) (bound_later d m key later p.bound) in
    record {
      reader = reader_then (reader_then (reader_then i.reader look.2) take.2) e.reads.2;
      reads = (
        i.reads.0 + (look.0 + (take.0 + e.reads.0)),
        i.reads.1 + (entries_ahead c.load_entries_ahead-ahead.result + 0),
        paid_child d i.reads.0 i.reads.1 (g.S.Tallies.tally c.loop-seat.sink).size (g.S.Tallies.tally c.take_leaves.new.self).size look.0 take.0 e.reads.0 c.in-Some-node.number top c.loop-seat.way.items c.load_entries_ahead-ahead.result c.enter_node_at_gap-top.result c.push.new.self.items i.reads.2
            c.in-Some-node.is look.1 (omega (arith, fewer, n)) e.reads.1 p.more fits within (entered_first entered) there,
        reads_trans i.reads.3 (reads_trans look.2 (reads_trans take.2 e.reads.2)),
      );
      walk = walk_push a later entered there;
      bound = bound_push d m key (record top { slot = place_ahead d top.slot count }) bound c.in-Some-node.number ahead.0 placed c.enter_node_at_gap-top.result (entered_number entered) (entered_first entered) c.push.new.self.items there;
    }

pub loop-seat-smaller-in-None : goal.loop-seat-smaller-in-None
loop-seat-smaller-in-None g c =
    let d = c.args.scan.now.range.now.direction in let top = c.loop-seat.top in let e = c.load_entries_ahead-ahead.ensures in let come = e.come in let some = e.some in
    let none : length (option_to_list c.load_entries_ahead-ahead.result.node) ≡ 0 = ap (λ z. length (option_to_list z)) c.in-None.is in
    let less = after_less d top c.loop-seat.way.items c.load_entries_ahead-ahead.result.count (omega (arith, come)) in
    rw c.gap_after_entries.ensures (omega (arith, less, some, none))

pub loop-seat-preserved-in-None : goal.loop-seat-preserved-in-None
loop-seat-preserved-in-None g c =
    let at = goal.at.loop-seat-preserved-in-None g c in let here = at.After-load_entries_ahead-ahead in
    let i = c.loop-seat.invariant in let d = c.args.scan.now.range.now.direction in let top = c.loop-seat.top in
    let look = c.load_entries_ahead-ahead.ensures.reads in let take = c.take_leaves.ensures.reads in let fewer = take.1 in let n = long g here in
    let p = passed g at.In-Further n (next g here) in let come = c.load_entries_ahead-ahead.ensures.come in
    rw c.gap_after_entries.ensures (record {
      reader = reader_then (reader_then i.reader look.2) take.2;
      reads = (
        i.reads.0 + (look.0 + take.0),
        i.reads.1 + (entries_ahead c.load_entries_ahead-ahead.result + 0),
        paid_ahead d i.reads.0 i.reads.1 (g.S.Tallies.tally c.loop-seat.sink).size (g.S.Tallies.tally c.take_leaves.new.self).size look.0 take.0 top c.loop-seat.way.items c.load_entries_ahead-ahead.result i.reads.2 c.in-None.is look.1 (omega (arith, fewer, n)) p.more (walk_fits i.walk)
            (omega (arith, come)),
        reads_trans i.reads.3 (reads_trans look.2 take.2),
      );
      walk = p.walk;
      bound = p.bound;
    })

pub gap_behind_slot-requires : goal.gap_behind_slot-requires
gap_behind_slot-requires g c = (walk_inside c.loop-seat.invariant.walk c.in-Some-pop.above c.pop-else-entries_to_come-gt0.new.self.items c.in-Some-pop.ensures.items).1

pub loop-seat-smaller : goal.loop-seat-smaller
loop-seat-smaller g c = rw c.gap_behind_slot.ensures (pop_less c.args.scan.now.range.now.direction c.loop-seat.top c.loop-seat.way.items c.in-Some-pop.above c.pop-else-entries_to_come-gt0.new.self.items c.in-Some-pop.ensures.items)

pub loop-seat-preserved : goal.loop-seat-preserved
loop-seat-preserved g c =
    let i = c.loop-seat.invariant in let d = c.args.scan.now.range.now.direction in let e = c.in-Some-pop.ensures.items in
    let done : to_come d c.loop-seat.top.count c.loop-seat.top.slot ≡ 0 = omega (arith, c.if-entries_to_come-gt0.false, c.entries_to_come.ensures) in
    rw c.gap_behind_slot.ensures (record {
      reader = i.reader;
      reads = (
        i.reads.0,
        i.reads.1,
        paid_pop d i.reads.0 i.reads.1 (g.S.Tallies.tally c.loop-seat.sink).size c.loop-seat.top c.loop-seat.way.items c.in-Some-pop.above c.pop-else-entries_to_come-gt0.new.self.items i.reads.2 done (walk_several i.walk i.reader.1) e
            (walk_inside i.walk c.in-Some-pop.above c.pop-else-entries_to_come-gt0.new.self.items e).0,
        i.reads.3,
      );
      walk = walk_pop i.walk done c.in-Some-pop.above c.pop-else-entries_to_come-gt0.new.self.items e;
      bound = bound_pop d (since c.args.seat.now.known) (first_key d (asked_range c.args.scan.now.range.now)) i.bound c.in-Some-pop.above c.pop-else-entries_to_come-gt0.new.self.items e;
    })

pub returns-in_default-pop-clause-reads : goal.returns-in_default-pop-clause-reads
returns-in_default-pop-clause-reads g c =
    let i = c.loop-seat.invariant in (
      i.reads.0,
      i.reads.1,
      paid_end c.args.scan.now.range.now.direction i.reads.0 i.reads.1 (g.S.Tallies.tally c.loop-seat.sink).size c.args.scan.now.range.now.limit c.loop-seat.top c.loop-seat.way.items i.reads.2 (none_popped c.pop-else-entries_to_come-gt0.ensures.variant c.in_default-pop.is)
          (walk_short i.walk i.reader.1),
      i.reads.3,
    )

pub returns-in_default-pop-clause-passed : goal.returns-in_default-pop-clause-passed
returns-in_default-pop-clause-passed g c =
    let i = c.loop-seat.invariant in let size = (g.S.Tallies.tally c.loop-seat.sink).size in (
      i.reads.0,
      i.reads.1,
      paid_end c.args.scan.now.range.now.direction i.reads.0 i.reads.1 size (size + MOST_AHEAD) c.loop-seat.top c.loop-seat.way.items i.reads.2 (none_popped c.pop-else-entries_to_come-gt0.ensures.variant c.in_default-pop.is) (omega arith),
      i.reads.3,
    )

pub returns-in_default-pop-clause-scanned : goal.returns-in_default-pop-clause-scanned
returns-in_default-pop-clause-scanned g c =
    let i = c.loop-seat.invariant in
    walk_end i.walk (omega (arith, c.if-entries_to_come-gt0.false, c.entries_to_come.ensures)) (none_popped c.pop-else-entries_to_come-gt0.ensures.variant c.in_default-pop.is) (same_since i.reads.3)
