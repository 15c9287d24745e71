-- No leaf, and one more.
use Rattle.rowex_scanning.proofs.Common.{◌≡◌, ℕ, ◌+◌, ◌*◌, ◌≤◌, List, arith, length, get_or, subst, err_from_is_err_and, Leaf, LEAF_FIELDS, PathNode, Reads, since, reader_then, reads_later, reads_none, reads_trans, same_since, place_ahead}
use Rattle.rowex_scanning.specs.Ahead.{AreNext, HavePassed}
use Rattle.rowex_scanning.specs.Scanning.{asked_range, request_of}
use Rattle.rowex_scanning.proofs.scanning.Parts.{walk_part}
use Rattle.rowex_scanning.proofs.taking.Passing.{ahead_later, leaf_at, leaf_reached, passed_more, passed_none}
use Rattle.rowex_scanning.proofs.Walking.{IsAtEntry, walk_fits, walk_full, walk_past, walk_short}
use Rattle.rowex_scanning.proofs.taking.take_leaves_to_end.Given as given
use Rattle.rowex_scanning.proofs.taking.take_leaves_to_end.Goals as goal
use Rattle.rowex_scanning.proofs.taking.take_leaves_to_end.Goals.{After-take_leaf}

-- The walk is at the leaf that was read.
leaf : (g : given.Over) (c : After-take_leaf g) (top : PathNode) (frames : List PathNode) → AreNext c.args.seat.now.known (request_of c.args.scan.now.range.now) top frames (g.S.Tallies.tally c.args.sink.now) c.args.leaves.now →
    IsAtEntry c.args.scan.now.range.now.direction c.loop-index.seat.known (since c.args.seat.now.known) (asked_range c.args.scan.now.range.now)
    (record top { slot = place_ahead c.args.scan.now.range.now.direction top.slot c.loop-index.index })
    frames (g.S.Tallies.tally c.loop-index.sink) (Leaf (get_or c.args.leaves.now c.loop-index.index 0))
leaf g c top frames next =
    let (ahead, p) = c.loop-index.invariant.passed top frames next in leaf_at (walk_fits next.bound.0) (let come = next.come in omega (arith, come, c.loop-index-test.true)) p (ahead c.loop-index.index c.loop-index-test.true)

-- The pairs are no fewer than at first.
grown : (g : given.Over) (c : After-take_leaf g) → (g.S.Tallies.tally c.args.sink.now).size ≤ (g.S.Tallies.tally c.take_leaf.new.sink).size
grown g c = let (top, frames, next) = c.requires.next in let p = (c.loop-index.invariant.passed top frames next).1 in let so = p.more in let more = c.take_leaf.ensures.more in omega (arith, so, more)

-- So many loads were made; and the root has not been loaded again.
loads : (g : given.Over) (c : After-take_leaf g) → (n : ℕ) × (n ≤ LEAF_FIELDS * (c.loop-index.index + 1)) × Reads c.args.scan.now.table.now g.G.Gate.becomes 0 n (c.args.seat.now, c.args.gate.now) (c.take_leaf.new.seat, c.take_leaf.new.gate)
loads g c = let (n, few, before) = c.loop-index.invariant.reads in let (m, less, read) = c.take_leaf.ensures.reads in (n + m, omega (arith, few, less), reads_trans before read)

-- which is no more than for all leaves
ended : (g : given.Over) (c : After-take_leaf g) → (n : ℕ) × (n ≤ LEAF_FIELDS * length c.args.leaves.now) × Reads c.args.scan.now.table.now g.G.Gate.becomes 0 n (c.args.seat.now, c.args.gate.now) (c.take_leaf.new.seat, c.take_leaf.new.gate)
ended g c = let (n, few, reads) = loads g c in (n, omega (arith, few, c.loop-index-test.true), reads)

same : (g : given.Over) (c : After-take_leaf g) → since c.take_leaf.new.seat.known ≡ since c.args.seat.now.known
same g c = same_since (loads g c).2

pub loop-index-init : goal.loop-index-init
loop-index-init g c = record {
  reader = c.requires.reader;
  reads = (0, omega arith, reads_none (c.args.seat.now, c.args.gate.now));
  passed = λ top frames next. (next.ahead, passed_none next.bound.0 next.bound.1);
}

pub take_leaf-requires-clause-leaf : goal.take_leaf-requires-clause-leaf
take_leaf-requires-clause-leaf g c =
    let (top, frames, next) = c.requires.next in let (ahead, p) = c.loop-index.invariant.passed top frames next in
    let (led, reached) =
    leaf_reached (walk_fits next.bound.0) (let come = next.come in omega (arith, come, c.loop-index-test.true)) p (ahead c.loop-index.index c.loop-index-test.true) c.args.scan.now.table.now.layout in
    (since c.args.seat.now.known, led, reached)

pub take_leaf-requires-clause-start : goal.take_leaf-requires-clause-start
take_leaf-requires-clause-start g c = c.requires.starts.1 c.loop-index.index (omega (arith, c.loop-index-test.true))

pub take_leaf-requires-clause-few : goal.take_leaf-requires-clause-few
take_leaf-requires-clause-few g c = let (top, frames, next) = c.requires.next in let i = c.loop-index.invariant in walk_short (i.passed top frames next).1.walk i.reader.1

pub returns-in_err-take_leaf-clause-reads : goal.returns-in_err-take_leaf-clause-reads
returns-in_err-take_leaf-clause-reads g c = ended g (goal.at.returns-in_err-take_leaf-clause-reads g c).After-take_leaf

pub returns-in_err-take_leaf-clause-more : goal.returns-in_err-take_leaf-clause-more
returns-in_err-take_leaf-clause-more g c = grown g (goal.at.returns-in_err-take_leaf-clause-more g c).After-take_leaf

pub returns-in_err-take_leaf-clause-part : goal.returns-in_err-take_leaf-clause-part
returns-in_err-take_leaf-clause-part g c =
    let at = (goal.at.returns-in_err-take_leaf-clause-part g c).After-take_leaf in let i = c.loop-index.invariant in let (top, frames, next) = c.requires.next in
    rw (err_from_is_err_and c.from_residual.result c.from_residual.ensures.1).1
    (walk_part (reads_later c.take_leaf.ensures.reads.2) c.in_err-take_leaf.ensures.refused (walk_short (i.passed top frames next).1.walk i.reader.1) (same g at) (leaf g at top frames next))

pub returns-in-Past-clause-reads : goal.returns-in-Past-clause-reads
returns-in-Past-clause-reads g c = ended g (goal.at.returns-in-Past-clause-reads g c).After-take_leaf

pub returns-in-Past-clause-more : goal.returns-in-Past-clause-more
returns-in-Past-clause-more g c = grown g (goal.at.returns-in-Past-clause-more g c).After-take_leaf

pub returns-in-Past-clause-taken : goal.returns-in-Past-clause-taken
returns-in-Past-clause-taken g c = λ top frames next.
    let at = (goal.at.returns-in-Past-clause-taken g c).After-take_leaf in walk_past (leaf g at top frames next) (reads_later c.take_leaf.ensures.reads.2) c.in_ok-take_leaf.ensures.taken (same g at) c.in-Past.is

pub returns-in-Full-clause-reads : goal.returns-in-Full-clause-reads
returns-in-Full-clause-reads g c = ended g (goal.at.returns-in-Full-clause-reads g c).After-take_leaf

pub returns-in-Full-clause-more : goal.returns-in-Full-clause-more
returns-in-Full-clause-more g c = grown g (goal.at.returns-in-Full-clause-more g c).After-take_leaf

pub returns-in-Full-clause-taken : goal.returns-in-Full-clause-taken
returns-in-Full-clause-taken g c = λ top frames next.
    let at = (goal.at.returns-in-Full-clause-taken g c).After-take_leaf in walk_full (leaf g at top frames next) (reads_later c.take_leaf.ensures.reads.2) c.in_ok-take_leaf.ensures.taken (same g at) c.in-Full.is

pub loop-index-preserved : goal.loop-index-preserved
loop-index-preserved g c =
    let i = c.loop-index.invariant in let d = c.args.scan.now.range.now.direction in let m = since c.args.seat.now.known in let read = c.take_leaf.ensures.reads.2 in
    record {
      reader = reader_then i.reader read;
      reads = loads g (goal.at.loop-index-preserved g c).After-take_leaf;
      passed = λ top frames next.
          let (ahead, p) = i.passed top frames next in (
            ahead_later d m top (reads_later read) (length c.args.leaves.now) c.args.leaves.now ahead,
            passed_more (walk_fits next.bound.0) (let come = next.come in omega (arith, come, c.loop-index-test.true)) p (ahead c.loop-index.index c.loop-index-test.true) (reads_later read) c.in_ok-take_leaf.ensures.taken
                c.in-Further.is,
          );
    }

pub returns-clause-reads : goal.returns-clause-reads
returns-clause-reads g c = let (n, few, reads) = c.loop-index.invariant.reads in (n, omega (arith, few, c.loop-index.auto.index-end), reads)

pub returns-clause-more : goal.returns-clause-more
returns-clause-more g c = let (top, frames, next) = c.requires.next in let p = (c.loop-index.invariant.passed top frames next).1 in let so = p.more in omega (arith, so)

pub returns-clause-taken : goal.returns-clause-taken
returns-clause-taken g c = λ top frames next.
    subst (λ z. HavePassed c.loop-index.seat.known (since c.args.seat.now.known) (request_of c.args.scan.now.range.now) frames top (g.S.Tallies.tally c.args.sink.now).size z (g.S.Tallies.tally c.loop-index.sink))
    (omega (arith, c.loop-index-test.false, c.loop-index.auto.index-end)) (c.loop-index.invariant.passed top frames next).1
