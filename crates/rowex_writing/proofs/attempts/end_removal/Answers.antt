-- What is left is published, as one with the node beside it or alone.
use Rattle.rowex_writing.proofs.Common.{◌+◌, ◌*◌, arith, subst, sym, NODE_FIELDS, later_trans}
use Rattle.rowex_writing.specs.build.Changes.{IsTakeChange}
use Rattle.rowex_writing.specs.locks.Locks.{span_numbers}
use Rattle.rowex_writing.specs.build.Taking.{HasClaimed, IsLeftOfNode}
use Rattle.rowex_writing.specs.build.Spare.{by_gone}
use Rattle.rowex_writing.specs.declared.plan.job.Leftover.{Leftover}
use Rattle.rowex_writing.proofs.merging.Beside.{takes_on}
use Rattle.rowex_writing.proofs.build.Changes.{changed_since}
use Rattle.rowex_writing.proofs.merging.Leaving.{claimed_same, left_on, still_holds, still_later, still_on, still_taking}
use Rattle.rowex_writing.proofs.attempts.Named.{loaded_on}
use Rattle.rowex_writing.proofs.locks.Runs.{goes_run, runs_trans}
use Rattle.rowex_writing.proofs.build.Spare.{goes_spare, gone_node}
use Rattle.rowex_writing.proofs.store.Values.{held_few}
use Rattle.rowex_writing.proofs.attempts.Attempted.{busy_since}
use Rattle.rowex_writing.proofs.merging.widening.Widening.{few_before, few_none, few_then}
use Rattle.rowex_writing.proofs.attempts.end_removal.Goals as goal

-- ---- no merge is found
pub fill_leftover-raised-requires-clause-still : goal.fill_leftover-raised-requires-clause-still
fill_leftover-raised-requires-clause-still g c =
    still_taking c.args.table.now c.find_merge.new.seat c.args.job.now
    (takes_on c.args.table.now g.G.Gate.becomes (c.args.seat.now, c.args.gate.now) (c.find_merge.new.seat, c.find_merge.new.gate) c.args.job.now c.find_merge.ensures.reads.goes c.requires.takes)

pub fill_leftover-raised-requires-clause-claimed : goal.fill_leftover-raised-requires-clause-claimed
fill_leftover-raised-requires-clause-claimed g c = claimed_same c.requires.claimed c.find_merge.ensures.reads.own

pub fill_leftover-raised-requires-clause-left : goal.fill_leftover-raised-requires-clause-left
fill_leftover-raised-requires-clause-left g c = left_on c.args.seat.now.known c.find_merge.new.seat.known c.args.job.now c.args.left.now.words c.find_merge.ensures.reads.goes.stays.1 c.requires.left

pub publish_change-requires : goal.publish_change-requires
publish_change-requires g c =
    let job = c.args.job.now in
    let reads = c.find_merge.ensures.reads in
    let fills = c.fill_leftover-raised.ensures.goes in
    let (x, was, is, may) = c.fill_leftover-raised.ensures.may in
    let takes = takes_on c.args.table.now g.G.Gate.becomes (c.args.seat.now, c.args.gate.now) (c.find_merge.new.seat, c.find_merge.new.gate) job reads.goes c.requires.takes in
    let still = still_on c.args.table.now g.G.Gate.becomes (c.find_merge.new.seat, c.find_merge.new.gate) (c.fill_leftover-raised.new.seat, c.fill_leftover-raised.new.gate) job fills (still_taking c.args.table.now c.find_merge.new.seat job takes) in
    record {
      held = still_holds c.args.table.now c.fill_leftover-raised.new.seat job still;
      may = (x, was, may);
      loaded = loaded_on c.find_merge.new.seat.known c.fill_leftover-raised.new.seat.known job.found fills.stays.3 (loaded_on c.args.seat.now.known c.find_merge.new.seat.known job.found reads.goes.stays.3 c.requires.loaded);
    }

pub returns-in_default-clause-tries : goal.returns-in_default-clause-tries
returns-in_default-clause-tries g c =
    let table = c.args.table.now in
    let last = c.requires.takes.0.below.last in
    let (x, was, is, may) = c.fill_leftover-raised.ensures.may in
    few_none table g.G.Gate.becomes (span_numbers c.args.job.now.way.now c.args.job.now.span) c.args.build.now.walk.left (84 + 2 * NODE_FIELDS) (c.args.seat.now, c.args.gate.now) (c.publish_change.new.seat, c.publish_change.new.gate)
    (runs_trans table g.G.Gate.becomes (c.args.seat.now, c.args.gate.now) (c.find_merge.new.seat, c.find_merge.new.gate) (c.publish_change.new.seat, c.publish_change.new.gate)
    (goes_run table g.G.Gate.becomes (c.args.seat.now, c.args.gate.now) (c.find_merge.new.seat, c.find_merge.new.gate) c.find_merge.ensures.reads.goes)
    (runs_trans table g.G.Gate.becomes (c.find_merge.new.seat, c.find_merge.new.gate) (c.fill_leftover-raised.new.seat, c.fill_leftover-raised.new.gate) (c.publish_change.new.seat, c.publish_change.new.gate)
    (goes_run table g.G.Gate.becomes (c.find_merge.new.seat, c.find_merge.new.gate) (c.fill_leftover-raised.new.seat, c.fill_leftover-raised.new.gate) c.fill_leftover-raised.ensures.goes) c.publish_change.ensures.run))
    (omega (arith, c.find_merge.ensures.few, c.fill_leftover-raised.ensures.few, c.publish_change.ensures.few, may.few, last))

pub returns-in_default-clause-done : goal.returns-in_default-clause-done
returns-in_default-clause-done g c = λ ok.
    let job = c.args.job.now in
    let (x, was, is, may) = c.fill_leftover-raised.ensures.may in
    let first = c.find_merge.ensures.reads.goes.stays.0 in
    (x, was, subst (λ q. IsTakeChange q job.key.now job.found x was) first.pass is, changed_since c.args.seat.now.known c.fill_leftover-raised.new.seat.known c.publish_change.new.seat.known x was (later_trans first c.fill_leftover-raised.ensures.goes.stays.0) (c.publish_change.ensures.changed x was may))

pub returns-in_default-clause-spares : goal.returns-in_default-clause-spares
returns-in_default-clause-spares g c = λ had.
    let t = c.requires.takes.0 in
    let (x, was, is, may) = c.fill_leftover-raised.ensures.may in
    let (n, at) = gone_node c.args.job.now.way.now c.args.job.now.span c.fill_leftover-raised.result (omega (arith, c.fill_leftover-raised.ensures.low, t.below.last)) may.upto t.below.taken.within.1 in c.publish_change.ensures.spares (by_gone n at)

-- ---- one is
pub try_merge-requires-clause-takes : goal.try_merge-requires-clause-takes
try_merge-requires-clause-takes g c =
    takes_on c.args.table.now g.G.Gate.becomes (c.args.seat.now, c.args.gate.now) (c.find_merge.new.seat, c.find_merge.new.gate) c.args.job.now c.find_merge.ensures.reads.goes c.requires.takes

pub try_merge-requires-clause-claimed : goal.try_merge-requires-clause-claimed
try_merge-requires-clause-claimed g c =
    subst (λ (l : Leftover). HasClaimed c.args.table.now c.find_merge.new.seat.known l.number) (sym c.in-Some.ensures.left) (claimed_same c.requires.claimed c.find_merge.ensures.reads.own)

pub try_merge-requires-clause-left : goal.try_merge-requires-clause-left
try_merge-requires-clause-left g c =
    subst (λ (l : Leftover). IsLeftOfNode c.find_merge.new.seat.known c.args.job.now l.words) (sym c.in-Some.ensures.left)
    (left_on c.args.seat.now.known c.find_merge.new.seat.known c.args.job.now c.args.left.now.words c.find_merge.ensures.reads.goes.stays.1 c.requires.left)

pub returns-then-try_merge-clause-tries : goal.returns-then-try_merge-clause-tries
returns-then-try_merge-clause-tries g c =
    let table = c.args.table.now in
    few_before table g.G.Gate.becomes (span_numbers c.args.job.now.way.now c.args.job.now.span) c.args.build.now.walk.left 53 (84 + 2 * NODE_FIELDS) (c.args.seat.now, c.args.gate.now) (c.find_merge.new.seat, c.find_merge.new.gate) (c.try_merge.new.seat, c.try_merge.new.gate)
    (goes_run table g.G.Gate.becomes (c.args.seat.now, c.args.gate.now) (c.find_merge.new.seat, c.find_merge.new.gate) c.find_merge.ensures.reads.goes) c.try_merge.ensures.tries (omega (arith, c.find_merge.ensures.few))

pub returns-then-try_merge-clause-done : goal.returns-then-try_merge-clause-done
returns-then-try_merge-clause-done g c = λ ok.
    let job = c.args.job.now in
    let (x, was, is, changed) = c.try_merge.ensures.done c.if-try_merge.true in
    let later = c.find_merge.ensures.reads.goes.stays.0 in
    (x, was, subst (λ q. IsTakeChange q job.key.now job.found x was) later.pass is, changed_since c.args.seat.now.known c.find_merge.new.seat.known c.try_merge.new.seat.known x was later changed)

pub returns-then-try_merge-clause-spares : goal.returns-then-try_merge-clause-spares
returns-then-try_merge-clause-spares g c = λ had.
    c.try_merge.ensures.spares (goes_spare c.args.table.now g.G.Gate.becomes (c.args.seat.now, c.args.gate.now) (c.find_merge.new.seat, c.find_merge.new.gate) c.find_merge.ensures.reads.goes had)

-- ---- but it can't be made
pub fill_leftover-raised-requires-2-clause-still : goal.fill_leftover-raised-requires-2-clause-still
fill_leftover-raised-requires-2-clause-still g c =
    let takes = takes_on c.args.table.now g.G.Gate.becomes (c.args.seat.now, c.args.gate.now) (c.find_merge.new.seat, c.find_merge.new.gate) c.args.job.now c.find_merge.ensures.reads.goes c.requires.takes in
    let s = c.try_merge.ensures.same c.if-try_merge.false in
    still_later c.args.table.now c.find_merge.new.seat c.try_merge.new.seat c.args.job.now (still_taking c.args.table.now c.find_merge.new.seat c.args.job.now takes) (c.try_merge.ensures.later c.if-try_merge.false) (s.0, s.1)

pub fill_leftover-raised-requires-2-clause-claimed : goal.fill_leftover-raised-requires-2-clause-claimed
fill_leftover-raised-requires-2-clause-claimed g c =
    subst (λ (l : Leftover). HasClaimed c.args.table.now c.try_merge.new.seat.known l.number) c.in-Some.ensures.left (c.try_merge.ensures.same c.if-try_merge.false).2

pub fill_leftover-raised-requires-2-clause-left : goal.fill_leftover-raised-requires-2-clause-left
fill_leftover-raised-requires-2-clause-left g c =
    left_on c.find_merge.new.seat.known c.try_merge.new.seat.known c.args.job.now c.args.left.now.words (c.try_merge.ensures.same c.if-try_merge.false).0
    (left_on c.args.seat.now.known c.find_merge.new.seat.known c.args.job.now c.args.left.now.words c.find_merge.ensures.reads.goes.stays.1 c.requires.left)

pub publish_or_undo-requires : goal.publish_or_undo-requires
publish_or_undo-requires g c =
    let job = c.args.job.now in
    let table = c.args.table.now in
    let takes = takes_on table g.G.Gate.becomes (c.args.seat.now, c.args.gate.now) (c.find_merge.new.seat, c.find_merge.new.gate) job c.find_merge.ensures.reads.goes c.requires.takes in
    let s = c.try_merge.ensures.same c.if-try_merge.false in
    let still = still_later table c.find_merge.new.seat c.try_merge.new.seat job (still_taking table c.find_merge.new.seat job takes) (c.try_merge.ensures.later c.if-try_merge.false) (s.0, s.1) in
    let (x, was, is, may) = c.fill_leftover-raised-2.ensures.may in
    record {
      held = still_holds table c.fill_leftover-raised-2.new.seat job (still_on table g.G.Gate.becomes (c.try_merge.new.seat, c.try_merge.new.gate) (c.fill_leftover-raised-2.new.seat, c.fill_leftover-raised-2.new.gate) job c.fill_leftover-raised-2.ensures.goes still);
      may = (x, was, may);
    }

pub returns-clause-tries : goal.returns-clause-tries
returns-clause-tries g c =
    let table = c.args.table.now in
    let last = c.requires.takes.0.below.last in
    let (x, was, is, may) = c.fill_leftover-raised-2.ensures.may in
    few_then table g.G.Gate.becomes (span_numbers c.args.job.now.way.now c.args.job.now.span) c.args.build.now.walk.left (84 + 2 * NODE_FIELDS) (c.args.seat.now, c.args.gate.now) (c.try_merge.new.seat, c.try_merge.new.gate) (c.publish_or_undo.new.seat, c.publish_or_undo.new.gate)
    (few_before table g.G.Gate.becomes (span_numbers c.args.job.now.way.now c.args.job.now.span) c.args.build.now.walk.left 53 63 (c.args.seat.now, c.args.gate.now) (c.find_merge.new.seat, c.find_merge.new.gate) (c.try_merge.new.seat, c.try_merge.new.gate)
    (goes_run table g.G.Gate.becomes (c.args.seat.now, c.args.gate.now) (c.find_merge.new.seat, c.find_merge.new.gate) c.find_merge.ensures.reads.goes) c.try_merge.ensures.tries (omega (arith, c.find_merge.ensures.few)))
    (runs_trans table g.G.Gate.becomes (c.try_merge.new.seat, c.try_merge.new.gate) (c.fill_leftover-raised-2.new.seat, c.fill_leftover-raised-2.new.gate) (c.publish_or_undo.new.seat, c.publish_or_undo.new.gate)
    (goes_run table g.G.Gate.becomes (c.try_merge.new.seat, c.try_merge.new.gate) (c.fill_leftover-raised-2.new.seat, c.fill_leftover-raised-2.new.gate) c.fill_leftover-raised-2.ensures.goes) c.publish_or_undo.ensures.run)
    (omega (arith, c.fill_leftover-raised-2.ensures.few, c.publish_or_undo.ensures.few, may.few, last, held_few c.args.job.now.found))

pub returns-clause-done : goal.returns-clause-done
returns-clause-done g c = λ ok.
    let job = c.args.job.now in
    let (x, was, is, may) = c.fill_leftover-raised-2.ensures.may in
    let l = c.try_merge.ensures.later c.if-try_merge.false in
    let before = later_trans c.find_merge.ensures.reads.goes.stays.0 l.0 in
    (x, was, subst (λ q. IsTakeChange q job.key.now job.found x was) before.pass is, changed_since c.args.seat.now.known c.fill_leftover-raised-2.new.seat.known c.publish_or_undo.new.seat.known x was (later_trans before c.fill_leftover-raised-2.ensures.goes.stays.0) (c.publish_or_undo.ensures.changed ok x was may))

pub returns-clause-failed : goal.returns-clause-failed
returns-clause-failed g c =
    let l = c.try_merge.ensures.later c.if-try_merge.false in
    let later = later_trans c.find_merge.ensures.reads.goes.stays.0 (later_trans l.0 c.fill_leftover-raised-2.ensures.goes.stays.0) in
    busy_since c.args.table.now.layout c.fill_leftover-raised-2.new.seat.bounds c.args.seat.now.bounds c.args.job.now c.args.seat.now.known c.fill_leftover-raised-2.new.seat.known c.publish_or_undo.new.seat.known _ later
    c.publish_or_undo.result c.publish_or_undo.ensures.failed

pub returns-clause-spares : goal.returns-clause-spares
returns-clause-spares g c = λ had.
    let t = c.requires.takes.0 in
    c.publish_or_undo.ensures.spares (omega (arith, c.fill_leftover-raised-2.ensures.low, t.below.last))
    (goes_spare c.args.table.now g.G.Gate.becomes (c.try_merge.new.seat, c.try_merge.new.gate) (c.fill_leftover-raised-2.new.seat, c.fill_leftover-raised-2.new.gate) c.fill_leftover-raised-2.ensures.goes
    (c.try_merge.ensures.spares (goes_spare c.args.table.now g.G.Gate.becomes (c.args.seat.now, c.args.gate.now) (c.find_merge.new.seat, c.find_merge.new.gate) c.find_merge.ensures.reads.goes had)))
