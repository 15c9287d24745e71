-- The first leaves are counted, up to the limit or to the first one past the range.
use Rattle.rowex_scanning.proofs.Common.{◌+◌, ◌-◌, arith, subst, since, reads_later, same_since}
use Rattle.rowex_scanning.specs.Ahead.{HavePassed}
use Rattle.rowex_scanning.specs.Scanning.{request_of}
use Rattle.rowex_scanning.specs.Tallies.{tally_of_number}
use Rattle.rowex_scanning.proofs.taking.Runs.{next_behind, run_counted, run_cut, run_done}
use Rattle.rowex_scanning.proofs.Walking.{walk_short}
use Rattle.rowex_scanning.proofs.counting.NumberSink.take_leaves.Goals as goal

pub returns-then-room-within-clause-taken : goal.returns-then-room-within-clause-taken
returns-then-room-within-clause-taken g c = λ top frames next.
    let reads = c.count_leaves_within-within.ensures.reads.2 in let later = reads_later reads in
    let parted = c.count_leaves_within-within.ensures.parted top (next_behind next) in let most = c.count_leaves_within-within.ensures.most in
    let short = walk_short next.bound.0 c.requires.reader.1 in let room = c.args.scan.now.range.now.limit - c.args.self.now.count in let few = c.if-room-within.true in
    let p = run_counted next later room (omega (arith, most, few)) (λ i low. parted.within i (omega (arith, low, few))) (omega (arith, short)) in
    run_cut next later (omega (arith, most, few)) p (same_since reads) (λ i low. parted.within i (omega (arith, low, few))) (omega (arith, short))

pub returns-then-within-leaves-clause-taken : goal.returns-then-within-leaves-clause-taken
returns-then-within-leaves-clause-taken g c = λ top frames next.
    let reads = c.count_leaves_within-within.ensures.reads.2 in let later = reads_later reads in
    let parted = c.count_leaves_within-within.ensures.parted top (next_behind next) in
    let short = walk_short next.bound.0 c.requires.reader.1 in let fits = c.if-room-within.false in let fewer = c.if-within-leaves.true in
    let p = run_counted next later c.count_leaves_within-within.result c.count_leaves_within-within.ensures.most parted.within (omega (arith, short, fits)) in
    run_done next later fewer p (same_since reads) (parted.past fewer)

pub returns-else-within-leaves-clause-taken : goal.returns-else-within-leaves-clause-taken
returns-else-within-leaves-clause-taken g c = λ top frames next.
    let later = reads_later c.count_leaves_within-within.ensures.reads.2 in
    let parted = c.count_leaves_within-within.ensures.parted top (next_behind next) in
    let short = walk_short next.bound.0 c.requires.reader.1 in let fits = c.if-room-within.false in let most = c.count_leaves_within-within.ensures.most in let all = c.if-within-leaves.false in
    subst (λ z. HavePassed c.count_leaves_within-within.new.seat.known (since c.args.seat.now.known) (request_of c.args.scan.now.range.now) frames top c.args.self.now.count z (tally_of_number (c.args.self.now.count + c.count_leaves_within-within.result)))
    (omega (arith, most, all)) (run_counted next later c.count_leaves_within-within.result most parted.within (omega (arith, short, fits)))
