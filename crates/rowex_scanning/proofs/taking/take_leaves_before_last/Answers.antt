-- No leaf, and one more: it belongs to the range, since the last one is not past it.
use Rattle.rowex_scanning.proofs.Common.{◌≡◌, ℕ, ◌+◌, ◌-◌, ◌*◌, ◌<◌, ◌≤◌, List, arith, length, subst, take, LEAF_FIELDS, since, reader_then, reads_later, reads_none, reads_trans}
use Rattle.rowex_scanning.specs.Ahead.{HavePassed}
use Rattle.rowex_scanning.specs.Scanning.{request_of}
use Rattle.rowex_scanning.proofs.taking.Passing.{passed_later, passed_none}
use Rattle.rowex_scanning.proofs.taking.Runs.{behind_led, next_behind, not_past_later, run_on, within_up_to}
use Rattle.rowex_scanning.proofs.taking.take_leaves_before_last.Goals as goal

pub loop-index-init : goal.loop-index-init
loop-index-init g c = record {
  reader = c.requires.reader;
  reads = (0, omega arith, reads_none (c.args.seat.now, c.args.gate.now));
  room = omega arith;
  passed = λ top frames next. passed_none next.bound.0 next.bound.1;
}

pub load_leaf_at-length-requires-clause-led : goal.load_leaf_at-length-requires-clause-led
load_leaf_at-length-requires-clause-led g c =
    let (top, frames, next) = c.requires.next in (since c.args.seat.now.known, behind_led (next_behind next) (reads_later c.loop-index.invariant.reads.2) c.loop-index.index (omega (arith, c.loop-index-test.true)))

pub load_leaf_at-length-requires-clause-start : goal.load_leaf_at-length-requires-clause-start
load_leaf_at-length-requires-clause-start g c = c.requires.starts.1 c.loop-index.index (omega (arith, c.loop-index-test.true))

pub take_pair-requires-clause-room : goal.take_pair-requires-clause-room
take_pair-requires-clause-room g c = let has = c.loop-index.invariant.room in let all = c.requires.room in omega (arith, has, all, c.loop-index-test.true)

pub loop-index-preserved : goal.loop-index-preserved
loop-index-preserved g c =
    let i = c.loop-index.invariant in let (n, few, before) = i.reads in let (m, less, read) = c.load_leaf_at-length.ensures.reads in
    let later = reads_later (reads_trans before read) in let has = i.room in let kept = c.take_pair.ensures.room in
    let r = request_of c.args.scan.now.range.now in let count = length c.args.leaves.now in
    record {
      reader = reader_then i.reader read;
      reads = (n + m, omega (arith, few, less), reads_trans before read);
      room = omega (arith, has, kept);
      passed = λ top frames next.
          let p = passed_later (reads_later read) (i.passed top frames next) in let low : c.loop-index.index < count = omega (arith, c.loop-index-test.true) in
          let told = c.load_leaf_at-length.ensures.leaf (since c.args.seat.now.known) (behind_led (next_behind next) (reads_later before) c.loop-index.index low) in
          let inside = within_up_to (next_behind next) later (count - 1) (omega (arith, low)) (not_past_later r later c.requires.last) c.loop-index.index (omega (arith, c.loop-index-test.true)) in
          let room = c.requires.few in let more = p.more in
          run_on next later low p
          (λ core lawful recalls. let is = told core lawful recalls in (take c.load_leaf_at-length.result.0 c.load_leaf_at-length.new.places, c.load_leaf_at-length.result.1, is, inside core lawful recalls _ _ is, c.take_pair.ensures.taken))
          (omega (arith, room, more, c.loop-index-test.true)) c.take_pair.ensures.taken.0;
    }

pub returns-clause-reads : goal.returns-clause-reads
returns-clause-reads g c = let (n, few, reads) = c.loop-index.invariant.reads in (n, omega (arith, few, c.loop-index.auto.index-end), reads)

pub returns-clause-passed : goal.returns-clause-passed
returns-clause-passed g c = λ top frames next.
    subst (λ z. HavePassed c.loop-index.seat.known (since c.args.seat.now.known) (request_of c.args.scan.now.range.now) frames top (g.S.Tallies.tally c.args.sink.now).size z (g.S.Tallies.tally c.loop-index.sink))
    (omega (arith, c.loop-index-test.false, c.loop-index.auto.index-end)) (c.loop-index.invariant.passed top frames next)

pub returns-clause-room : goal.returns-clause-room
returns-clause-room g c = let has = c.loop-index.invariant.room in omega (arith, has, c.loop-index.auto.index-end)
