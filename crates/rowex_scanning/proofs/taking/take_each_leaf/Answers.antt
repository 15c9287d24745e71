-- The last leaf is read, and then those before it: without a test where it is not past the range, or one by one.
use Rattle.rowex_scanning.proofs.Common.{◌≡◌, ℕ, ◌+◌, ◌-◌, ◌*◌, ◌<◌, ◌≤◌, List, arith, length, false, get_or, refl, ⊎_elim, subst, sym, take, length-take-le, err_from_is_err_and, PathNode, LEAF_FIELDS, Reads, Sure, since, reader_then, reads_later, reads_none, reads_trans, same_since, later_reflexive, read_stable, sure_later, IsNoLater, IsRead}
use Rattle.rowex_scanning.specs.Ahead.{AreNext, AreWithin, HavePassed, IsLeafNotPast, IsLeafPast}
use Rattle.rowex_scanning.specs.Scanning.{HasTaken, asked_range, first_key_of, last_key_of, request_of}
use Rattle.rowex_scanning.proofs.taking.Passing.{next_few, next_first, next_kept, next_later, passed_as, passed_none, starts_first, taken_all, taken_past}
use Rattle.rowex_scanning.proofs.taking.Runs.{behind_led, next_behind, not_past_later, past_later, run_cut, run_done, run_on, run_part, within_up_to}
use Rattle.rowex_scanning.proofs.Walking.{bound_later, reads_both, walk_later}
use Rattle.rowex_scanning.proofs.taking.take_each_leaf.Given as given
use Rattle.rowex_scanning.proofs.taking.take_each_leaf.Goals as goal
use Rattle.rowex_scanning.proofs.taking.take_each_leaf.Goals.{After-load_leaf_at-length, After-take_leaves_before_last}

-- Where there is none,
pub returns-then-count-eq0-clause-reads : goal.returns-then-count-eq0-clause-reads
returns-then-count-eq0-clause-reads g c = (0, omega arith, reads_none (c.args.seat.now, c.args.gate.now))

pub returns-then-count-eq0-clause-taken : goal.returns-then-count-eq0-clause-taken
returns-then-count-eq0-clause-taken g c = λ top frames next.
    subst (λ z. HavePassed c.args.seat.now.known (since c.args.seat.now.known) (request_of c.args.scan.now.range.now) frames top (g.S.Tallies.tally c.args.sink.now).size z (g.S.Tallies.tally c.args.sink.now))
    (sym c.if-count-eq0.true) (passed_none next.bound.0 next.bound.1)

-- and where there is a last leaf,
low : (g : given.Over) (c : After-load_leaf_at-length g) → length c.args.leaves.now - 1 < length c.args.leaves.now
low g c = omega (arith, c.if-count-eq0.false)

-- which was read
told : (g : given.Over) (c : After-load_leaf_at-length g) (top : PathNode) (frames : List PathNode) → AreNext c.args.seat.now.known (request_of c.args.scan.now.range.now) top frames (g.S.Tallies.tally c.args.sink.now) c.args.leaves.now →
    Sure c.load_leaf_at-length.new.seat.known (λ s. IsRead s (since c.args.seat.now.known) (get_or c.args.leaves.now (length c.args.leaves.now - 1) 0) (take c.load_leaf_at-length.result.0 c.load_leaf_at-length.new.places) c.load_leaf_at-length.result.1)
told g c top frames next =
    c.load_leaf_at-length.ensures.leaf (since c.args.seat.now.known) (behind_led (next_behind next) (later_reflexive c.args.seat.now.known) (length c.args.leaves.now - 1) (low g c))

pub load_leaf_at-length-requires-clause-led : goal.load_leaf_at-length-requires-clause-led
load_leaf_at-length-requires-clause-led g c =
    let (top, frames, next) = c.requires.next in (since c.args.seat.now.known, behind_led (next_behind next) (later_reflexive c.args.seat.now.known) (length c.args.leaves.now - 1) (omega (arith, c.if-count-eq0.false)))

pub load_leaf_at-length-requires-clause-start : goal.load_leaf_at-length-requires-clause-start
load_leaf_at-length-requires-clause-start g c = c.requires.starts.1 (length c.args.leaves.now - 1) (omega (arith, c.if-count-eq0.false))

pub take_leaves_to_end-requires-clause-starts : goal.take_leaves_to_end-requires-clause-starts
take_leaves_to_end-requires-clause-starts g c =
    let (same, are) = c.requires.starts in let count = length c.args.leaves.now - 1 in
    starts_first c.args.scan.now.table.now.layout count c.args.leaves.now c.args.starts.now (omega arith) (omega (arith, same)) (λ i low. are i (omega (arith, low)))

pub take_leaves_to_end-requires-clause-reader : goal.take_leaves_to_end-requires-clause-reader
take_leaves_to_end-requires-clause-reader g c = reader_then c.requires.reader c.load_leaf_at-length.ensures.reads.2

pub take_leaves_to_end-requires-clause-next : goal.take_leaves_to_end-requires-clause-next
take_leaves_to_end-requires-clause-next g c =
    let (top, frames, next) = c.requires.next in let load = c.load_leaf_at-length.ensures.reads.2 in
    (top, frames, next_first (length c.args.leaves.now - 1) (omega arith) (next_later (reads_later load) (same_since load) next))

-- So many loads were made, where it went to the end one by one.
ended : (count : ℕ) (leaves : List ℕ) → (length leaves ≡ 0 → ⊥) → count ≡ length leaves - 1 → LEAF_FIELDS + LEAF_FIELDS * length (take count leaves) ≤ LEAF_FIELDS * length leaves
ended count leaves some is = let long = length-take-le count leaves (omega (arith, is)) in omega (arith, long, some, is)

pub returns-in_err-take_leaves_to_end-clause-reads : goal.returns-in_err-take_leaves_to_end-clause-reads
returns-in_err-take_leaves_to_end-clause-reads g c = reads_both c.load_leaf_at-length.ensures.reads c.take_leaves_to_end.ensures.reads (ended (length c.args.leaves.now - 1) c.args.leaves.now c.if-count-eq0.false refl)

pub returns-in-Full-clause-reads : goal.returns-in-Full-clause-reads
returns-in-Full-clause-reads g c = reads_both c.load_leaf_at-length.ensures.reads c.take_leaves_to_end.ensures.reads (ended (length c.args.leaves.now - 1) c.args.leaves.now c.if-count-eq0.false refl)

pub returns-in-Full-clause-taken : goal.returns-in-Full-clause-taken
returns-in-Full-clause-taken g c = λ top frames next.
    let load = c.load_leaf_at-length.ensures.reads.2 in
    rw c.in-Full.is at (c.in_ok-take_leaves_to_end.ensures.taken top frames (next_first (length c.args.leaves.now - 1) (omega arith) (next_later (reads_later load) (same_since load) next)))

pub returns-in-Further-clause-reads : goal.returns-in-Further-clause-reads
returns-in-Further-clause-reads g c = reads_both c.load_leaf_at-length.ensures.reads c.take_leaves_to_end.ensures.reads (ended (length c.args.leaves.now - 1) c.args.leaves.now c.if-count-eq0.false refl)

pub returns-in-Further-clause-taken : goal.returns-in-Further-clause-taken
returns-in-Further-clause-taken g c = λ top frames next.
    let at = (goal.at.returns-in-Further-clause-taken g c).After-load_leaf_at-length in
    let r = request_of c.args.scan.now.range.now in let leaves = c.args.leaves.now in let last = length leaves - 1 in
    let load = c.load_leaf_at-length.ensures.reads.2 in let rest = c.take_leaves_to_end.ensures.reads.2 in let same = same_since load in
    let j = c.take_leaves_to_end.new.seat.known in let u = g.S.Tallies.tally c.take_leaves_to_end.new.sink in let size = (g.S.Tallies.tally c.args.sink.now).size in
    let taken = c.in_ok-take_leaves_to_end.ensures.taken top frames (next_first last (omega arith) (next_later (reads_later load) same next)) in
    let Passed : Type 0 = HavePassed j (since c.load_leaf_at-length.new.seat.known) r frames top size (length (take last leaves)) u in
    ⊎_elim
    (λ is.
    let p = passed_as same refl (subst (λ z. HavePassed j (since c.load_leaf_at-length.new.seat.known) r frames top size z u) (length-take-le last leaves (omega arith)) (taken_all Passed (HasTaken r.0 j r.1 u) taken is)) in
    let past : IsLeafPast c.load_leaf_at-length.new.seat.known (since c.args.seat.now.known) r (get_or leaves last 0) =
    λ core lawful recalls. (_, _, told g at top frames next core lawful recalls, c.is_past_range.ensures.past c.if-is_past_range.true) in
    run_done next (reads_later (reads_trans load rest)) (low g at) p (same_since (reads_trans load rest)) (past_later r (reads_later rest) past))
    (λ is. taken_past Passed (HasTaken r.0 j r.1 u) taken is) c.in-Further.is

-- The last leaf is not past the range.
not_past : (g : given.Over) (c : After-load_leaf_at-length g) →
    IsNoLater c.args.scan.now.range.now.direction (take c.load_leaf_at-length.result.0 c.load_leaf_at-length.new.places) (last_key_of c.args.scan.now.range.now) →
    (top : PathNode) (frames : List PathNode) → AreNext c.args.seat.now.known (request_of c.args.scan.now.range.now) top frames (g.S.Tallies.tally c.args.sink.now) c.args.leaves.now →
    IsLeafNotPast c.load_leaf_at-length.new.seat.known (since c.args.seat.now.known) (request_of c.args.scan.now.range.now) (get_or c.args.leaves.now (length c.args.leaves.now - 1) 0)
not_past g c late top frames next core lawful recalls =
    (take c.load_leaf_at-length.result.0 c.load_leaf_at-length.new.places, c.load_leaf_at-length.result.1, told g c top frames next core lawful recalls, late)

pub make_room-requires-clause-few : goal.make_room-requires-clause-few
make_room-requires-clause-few g c = let (top, frames, next) = c.requires.next in let few = next_few next in omega (arith, few, c.min.ensures)

pub returns-in_err-make_room-clause-reads : goal.returns-in_err-make_room-clause-reads
returns-in_err-make_room-clause-reads g c = let (n, few, reads) = c.load_leaf_at-length.ensures.reads in (n, omega (arith, few, c.if-count-eq0.false), reads)

pub returns-in_err-make_room-clause-more : goal.returns-in_err-make_room-clause-more
returns-in_err-make_room-clause-more g c = let same = c.make_room.ensures.kept.0 in omega (arith, same)

pub returns-in_err-make_room-clause-part : goal.returns-in_err-make_room-clause-part
returns-in_err-make_room-clause-part g c =
    let at = (goal.at.returns-in_err-make_room-clause-part g c).After-load_leaf_at-length in let (top, frames, next) = c.requires.next in
    let r = request_of c.args.scan.now.range.now in let load = c.load_leaf_at-length.ensures.reads.2 in let last = length c.args.leaves.now - 1 in
    let later = reads_later load in let late = c.is_past_range.ensures.inside c.if-is_past_range.false in
    let inside = within_up_to (next_behind next) later last (low g at) (not_past g at late top frames next) in
    let none = passed_none (walk_later later next.bound.0) (bound_later r.0 (since c.args.seat.now.known) (first_key_of c.args.scan.now.range.now) later next.bound.1) in
    rw (err_from_is_err_and c.from_residual-in_err-make_room.result c.from_residual-in_err-make_room.ensures.1).1
    (run_part next later (omega (arith, c.if-count-eq0.false)) none (same_since load) (λ o less. inside o (omega (arith, less))) c.make_room.ensures.kept (let some = c.in_err-make_room.ensures.some in omega (arith, some, c.min.ensures, c.size.ensures)))

pub take_leaves_before_last-requires-clause-reader : goal.take_leaves_before_last-requires-clause-reader
take_leaves_before_last-requires-clause-reader g c = reader_then c.requires.reader c.load_leaf_at-length.ensures.reads.2

pub take_leaves_before_last-requires-clause-next : goal.take_leaves_before_last-requires-clause-next
take_leaves_before_last-requires-clause-next g c =
    let (top, frames, next) = c.requires.next in let load = c.load_leaf_at-length.ensures.reads.2 in (top, frames, next_kept c.make_room.ensures.kept (next_later (reads_later load) (same_since load) next))

pub take_leaves_before_last-requires-clause-some : goal.take_leaves_before_last-requires-clause-some
take_leaves_before_last-requires-clause-some g c = omega (arith, c.if-count-eq0.false)

pub take_leaves_before_last-requires-clause-last : goal.take_leaves_before_last-requires-clause-last
take_leaves_before_last-requires-clause-last g c =
    let at = (goal.at.take_leaves_before_last-requires-clause-last g c).After-load_leaf_at-length in let (top, frames, next) = c.requires.next in
    subst (λ m. IsLeafNotPast c.load_leaf_at-length.new.seat.known m (request_of c.args.scan.now.range.now) (get_or c.args.leaves.now (length c.args.leaves.now - 1) 0)) (sym (same_since c.load_leaf_at-length.ensures.reads.2))
    (not_past g at (c.is_past_range.ensures.inside c.if-is_past_range.false) top frames next)

pub take_leaves_before_last-requires-clause-few : goal.take_leaves_before_last-requires-clause-few
take_leaves_before_last-requires-clause-few g c = let same = c.make_room.ensures.kept.0 in let few = c.requires.few in omega (arith, same, few, c.if-count-eq0.false)

pub take_leaves_before_last-requires-clause-room : goal.take_leaves_before_last-requires-clause-room
take_leaves_before_last-requires-clause-room g c =
    let has = c.in_ok-make_room.ensures.room in let few = c.requires.few in omega (arith, has, few, c.min.ensures, c.size.ensures)

-- The loads, where no key is compared with the range's end but the last one.
loads : (g : given.Over) (c : After-take_leaves_before_last g) →
    (n : ℕ) × (n ≤ LEAF_FIELDS * length c.args.leaves.now) × Reads c.args.scan.now.table.now g.G.Gate.becomes 0 n (c.args.seat.now, c.args.gate.now) (c.take_leaves_before_last.new.seat, c.take_leaves_before_last.new.gate)
loads g c = reads_both c.load_leaf_at-length.ensures.reads c.take_leaves_before_last.ensures.reads (omega (arith, c.if-count-eq0.false))

-- All others were passed,
passed : (g : given.Over) (c : After-take_leaves_before_last g) (top : PathNode) (frames : List PathNode) → AreNext c.args.seat.now.known (request_of c.args.scan.now.range.now) top frames (g.S.Tallies.tally c.args.sink.now) c.args.leaves.now →
    HavePassed c.take_leaves_before_last.new.seat.known (since c.args.seat.now.known) (request_of c.args.scan.now.range.now) frames top (g.S.Tallies.tally c.args.sink.now).size (length c.args.leaves.now - 1) (g.S.Tallies.tally c.take_leaves_before_last.new.sink)
passed g c top frames next =
    let load = c.load_leaf_at-length.ensures.reads.2 in let same = same_since load in
    passed_as same c.make_room.ensures.kept.0 (c.take_leaves_before_last.ensures.passed top frames (next_kept c.make_room.ensures.kept (next_later (reads_later load) same next)))

-- and all of them belong to the range.
inside : (g : given.Over) (c : After-take_leaves_before_last g) (top : PathNode) (frames : List PathNode) → AreNext c.args.seat.now.known (request_of c.args.scan.now.range.now) top frames (g.S.Tallies.tally c.args.sink.now) c.args.leaves.now →
    IsLeafNotPast c.load_leaf_at-length.new.seat.known (since c.args.seat.now.known) (request_of c.args.scan.now.range.now) (get_or c.args.leaves.now (length c.args.leaves.now - 1) 0) →
    AreWithin c.take_leaves_before_last.new.seat.known (since c.args.seat.now.known) (asked_range c.args.scan.now.range.now) c.args.leaves.now (length c.args.leaves.now - 1 + 1)
inside g c top frames next last =
    let load = c.load_leaf_at-length.ensures.reads.2 in let rest = c.take_leaves_before_last.ensures.reads.2 in
    within_up_to (next_behind next) (reads_later (reads_trans load rest)) (length c.args.leaves.now - 1) (omega (arith, c.if-count-eq0.false)) (not_past_later (request_of c.args.scan.now.range.now) (reads_later rest) last)

pub returns-then-room-count-clause-reads : goal.returns-then-room-count-clause-reads
returns-then-room-count-clause-reads g c = loads g (goal.at.returns-then-room-count-clause-reads g c).After-take_leaves_before_last

pub returns-then-room-count-clause-more : goal.returns-then-room-count-clause-more
returns-then-room-count-clause-more g c =
    let (top, frames, next) = c.requires.next in let p = passed g (goal.at.returns-then-room-count-clause-more g c).After-take_leaves_before_last top frames next in let more = p.more in omega (arith, more)

pub returns-then-room-count-clause-taken : goal.returns-then-room-count-clause-taken
returns-then-room-count-clause-taken g c = λ top frames next.
    let at = goal.at.returns-then-room-count-clause-taken g c in let here = at.After-load_leaf_at-length in let there = at.After-take_leaves_before_last in
    let reads = (loads g there).2 in let p = passed g there top frames next in let more = p.more in let few = c.requires.few in
    let last = not_past g here (c.is_past_range.ensures.inside c.if-is_past_range.false) top frames next in
    run_cut next (reads_later reads) (low g here) p (same_since reads) (inside g there top frames next last) (omega (arith, more, few, c.if-room-count.true, c.size.ensures, c.if-count-eq0.false))

pub take_pair-requires-clause-room : goal.take_pair-requires-clause-room
take_pair-requires-clause-room g c =
    let has = c.in_ok-make_room.ensures.room in let kept = c.take_leaves_before_last.ensures.room in omega (arith, has, kept, c.min.ensures, c.if-room-count.false, c.if-count-eq0.false)

pub returns-clause-reads : goal.returns-clause-reads
returns-clause-reads g c = loads g (goal.at.returns-clause-reads g c).After-take_leaves_before_last

pub returns-clause-more : goal.returns-clause-more
returns-clause-more g c =
    let (top, frames, next) = c.requires.next in let p = passed g (goal.at.returns-clause-more g c).After-take_leaves_before_last top frames next in let more = p.more in
    let one = c.take_pair.ensures.taken.0 in omega (arith, more, one)

pub returns-clause-taken : goal.returns-clause-taken
returns-clause-taken g c = λ top frames next.
    let at = goal.at.returns-clause-taken g c in let here = at.After-load_leaf_at-length in let there = at.After-take_leaves_before_last in
    let leaves = c.args.leaves.now in let last = length leaves - 1 in let key = take c.load_leaf_at-length.result.0 c.load_leaf_at-length.new.places in let value = c.load_leaf_at-length.result.1 in
    let reads = (loads g there).2 in let rest = c.take_leaves_before_last.ensures.reads.2 in let p = passed g there top frames next in let more = p.more in let few = c.requires.few in
    let late = not_past g here (c.is_past_range.ensures.inside c.if-is_past_range.false) top frames next in
    let read = sure_later (read_stable (since c.args.seat.now.known) (get_or leaves last 0) key value) (reads_later rest) (told g here top frames next) in
    let q = run_on next (reads_later reads) (low g here) p
    (λ core lawful recalls. let is = read core lawful recalls in (key, value, is, inside g there top frames next late last (omega arith) core lawful recalls key value is, c.take_pair.ensures.taken))
    (omega (arith, more, few, c.if-room-count.false, c.size.ensures, c.if-count-eq0.false)) c.take_pair.ensures.taken.0 in
    subst (λ z. HavePassed c.take_leaves_before_last.new.seat.known (since c.args.seat.now.known) (request_of c.args.scan.now.range.now) frames top (g.S.Tallies.tally c.args.sink.now).size z (g.S.Tallies.tally c.take_pair.new.self))
    (omega (arith, c.if-count-eq0.false)) q
