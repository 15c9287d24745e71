-- The last leaf tells of all; else the leaves between one that is not past the range and one that is are halved.
use Rattle.rowex_scanning.proofs.Common.{◌≡◌, ℕ, ◌+◌, ◌-◌, ◌*◌, ◌/◌, ◌<◌, ◌≤◌, arith, length, subst, get_or, sym, LEAF_FIELDS, since, reader_then, reads_later, reads_trans, later_reflexive}
use Rattle.rowex_scanning.specs.Ahead.{IsLeafNotPast, IsLeafPast}
use Rattle.rowex_scanning.specs.Scanning.{request_of}
use Rattle.rowex_scanning.proofs.taking.Runs.{behind_led, not_past_later, past_later, within_up_to}
use Rattle.rowex_scanning.proofs.counting.count_leaves_within.Goals as goal

-- The leaf in the middle comes before the one that is past the range.
middle : (within past : ℕ) → within < past → within + (past - within) / 2 < past
middle within past low = omega (arith, low)

-- The loads so far, with those of the leaf in the middle.
loads : (within past count n m rest : ℕ) → within < past → n + LEAF_FIELDS * (past - within) ≤ LEAF_FIELDS * count → m ≤ LEAF_FIELDS → rest < past - within → n + m + LEAF_FIELDS * rest ≤ LEAF_FIELDS * count
loads within past count n m rest low few less shorter = omega (arith, low, few, less, shorter)

pub is_leaf_past-requires-clause-led : goal.is_leaf_past-requires-clause-led
is_leaf_past-requires-clause-led g c =
    let (top, b) = c.requires.next in (since c.args.seat.now.known, behind_led b (later_reflexive c.args.seat.now.known) (length c.args.leaves.now - 1) (omega (arith, c.if-count-eq0.false)))

pub returns-then-not-is_leaf_past-clause-parted : goal.returns-then-not-is_leaf_past-clause-parted
returns-then-not-is_leaf_past-clause-parted g c = λ top b.
    let last = length c.args.leaves.now - 1 in let low : last < length c.args.leaves.now = omega (arith, c.if-count-eq0.false) in
    let led = behind_led b (later_reflexive c.args.seat.now.known) last low in
    let inside = c.is_leaf_past.ensures.not_past c.if-not-is_leaf_past.true (since c.args.seat.now.known) led in
    record {
      within = λ i less. within_up_to b (reads_later c.is_leaf_past.ensures.reads.2) last low inside i (omega (arith, less, low));
      past = λ less. absurd (omega (arith, less));
    }

pub loop-within-init : goal.loop-within-init
loop-within-init g c =
    let (top, b) = c.requires.next in let (n, few, reads) = c.is_leaf_past.ensures.reads in
    let last = length c.args.leaves.now - 1 in let low : last < length c.args.leaves.now = omega (arith, c.if-count-eq0.false) in
    record {
      reader = reader_then c.requires.reader reads;
      order = omega arith;
      inside = low;
      reads = (n, omega (arith, few, low), reads);
      not_past = λ i none. absurd (omega (arith, none));
      past = c.is_leaf_past.ensures.past c.if-not-is_leaf_past.false (since c.args.seat.now.known) (behind_led b (later_reflexive c.args.seat.now.known) last low);
    }

pub is_leaf_past-requires-in-loop-within-clause-led : goal.is_leaf_past-requires-in-loop-within-clause-led
is_leaf_past-requires-in-loop-within-clause-led g c =
    let (top, b) = c.requires.next in let i = c.loop-within.invariant in let w = c.loop-within.within in let p = c.loop-within.past in
    let inside = i.inside in let at = middle w p c.loop-within-test.true in
    (since c.args.seat.now.known, behind_led b (reads_later i.reads.2) (w + (p - w) / 2) (omega (arith, inside, at)))

pub loop-within-preserved-then-is_leaf_past : goal.loop-within-preserved-then-is_leaf_past
loop-within-preserved-then-is_leaf_past g c =
    let (top, b) = c.requires.next in let i = c.loop-within.invariant in let w = c.loop-within.within in let p = c.loop-within.past in
    let (n, few, before) = i.reads in let (m, less, read) = c.is_leaf_past-in-loop-within.ensures.reads in
    let inside = i.inside in let at = middle w p c.loop-within-test.true in let low : w + (p - w) / 2 < length c.args.leaves.now = omega (arith, inside, at) in
    record {
      reader = reader_then i.reader read;
      order = omega arith;
      inside = low;
      reads = (n + m, loads w p (length c.args.leaves.now) n m (w + (p - w) / 2 - w) c.loop-within-test.true few less (omega (arith, at)), reads_trans before read);
      not_past = λ o under last. not_past_later (request_of c.args.scan.now.range.now) (reads_later read) (i.not_past o under last);
      past = c.is_leaf_past-in-loop-within.ensures.past c.if-is_leaf_past.true (since c.args.seat.now.known) (behind_led b (reads_later before) (w + (p - w) / 2) low);
    }

pub loop-within-preserved : goal.loop-within-preserved
loop-within-preserved g c =
    let (top, b) = c.requires.next in let i = c.loop-within.invariant in let w = c.loop-within.within in let p = c.loop-within.past in
    let (n, few, before) = i.reads in let (m, less, read) = c.is_leaf_past-in-loop-within.ensures.reads in
    let inside = i.inside in let at = middle w p c.loop-within-test.true in let low : w + (p - w) / 2 < length c.args.leaves.now = omega (arith, inside, at) in
    let judged = c.is_leaf_past-in-loop-within.ensures.not_past c.if-is_leaf_past.false (since c.args.seat.now.known) (behind_led b (reads_later before) (w + (p - w) / 2) low) in
    record {
      reader = reader_then i.reader read;
      order = omega (arith, at);
      inside = inside;
      reads = (n + m, loads w p (length c.args.leaves.now) n m (p - (w + (p - w) / 2 + 1)) c.loop-within-test.true few less (omega (arith, at)), reads_trans before read);
      not_past = λ o under last. let same : o ≡ w + (p - w) / 2 = omega (arith, last) in
          subst (λ z. IsLeafNotPast c.is_leaf_past-in-loop-within.new.seat.known (since c.args.seat.now.known) (request_of c.args.scan.now.range.now) (get_or c.args.leaves.now z 0)) (sym same) judged;
      past = past_later (request_of c.args.scan.now.range.now) (reads_later read) i.past;
    }

pub returns-clause-parted : goal.returns-clause-parted
returns-clause-parted g c = λ top b.
    let i = c.loop-within.invariant in let order = i.order in let inside = i.inside in
    let same : c.loop-within.within ≡ c.loop-within.past = omega (arith, order, c.loop-within-test.false) in
    record {
      within = λ o less.
          let last : c.loop-within.within - 1 + 1 ≡ c.loop-within.within = omega (arith, less) in
          let low : c.loop-within.within - 1 < length c.args.leaves.now = omega (arith, less, order, inside) in
          within_up_to b (reads_later i.reads.2) (c.loop-within.within - 1) low (i.not_past (c.loop-within.within - 1) (omega (arith, less)) last) o (omega (arith, less));
      past = λ less. subst (λ z. IsLeafPast c.loop-within.seat.known (since c.args.seat.now.known) (request_of c.args.scan.now.range.now) (get_or c.args.leaves.now z 0)) (sym same) i.past;
    }
