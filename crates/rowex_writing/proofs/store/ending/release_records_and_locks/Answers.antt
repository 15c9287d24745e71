-- What is held is given up, what is locked is unlocked, and the anchor at last.
use Rattle.rowex_writing.proofs.Common.{sym, subst, ◌∙◌, arith, slice_range, Unlock, Anchor, step_few}
use Rattle.rowex_writing.specs.locks.Locks.{HasJustLocked, numbers_of}
use Rattle.rowex_writing.proofs.locks.Spans.{slice_few}
use Rattle.rowex_writing.proofs.build.Growths.{range_nodes}
use Rattle.rowex_writing.proofs.build.Changes.{step_nodes}
use Rattle.rowex_writing.proofs.locks.Locks.{works_one, works_more, works_seat}
use Rattle.rowex_writing.proofs.store.Retiring.{given_works, given_locks, given_anchor, given_few}
use Rattle.rowex_writing.proofs.store.ending.release_records_and_locks.Goals as goal

pub unlock_nodes-requires-clause-own : goal.unlock_nodes-requires-clause-own
unlock_nodes-requires-clause-own g c =
    works_seat c.args.table.now g.G.Gate.becomes (c.args.seat.now, c.args.gate.now) (c.give_up_records.new.seat, c.give_up_records.new.gate)
    (given_works c.args.table.now g.G.Gate.becomes c.args.held.now (c.args.seat.now, c.args.gate.now) (c.give_up_records.new.seat, c.give_up_records.new.gate) c.give_up_records.ensures) c.requires.span.seat

pub unlock_nodes-requires-clause-nodes : goal.unlock_nodes-requires-clause-nodes
unlock_nodes-requires-clause-nodes g c =
    let job = c.args.job.now in
    let (m, w) = c.requires.span.from in
    range_nodes c.args.table.now.layout job.way.now c.first_locked.result job.span.len (step_nodes c.args.table.now.layout c.args.seat.now.known m job.key.now job.way.now job.found w)

pub unlock_nodes-requires-clause-locked : goal.unlock_nodes-requires-clause-locked
unlock_nodes-requires-clause-locked g c =
    subst (λ n. HasJustLocked c.give_up_records.new.seat.known (numbers_of (slice_range c.args.job.now.way.now n c.args.job.now.span.len))) (sym c.first_locked.ensures)
    (given_locks c.args.table.now g.G.Gate.becomes c.args.held.now (c.args.seat.now, c.args.gate.now) (c.give_up_records.new.seat, c.give_up_records.new.gate) c.give_up_records.ensures _ c.requires.span.locked.nodes)

pub unlock-requires-clause-own : goal.unlock-requires-clause-own
unlock-requires-clause-own g c =
    let table = c.args.table.now in
    let given = given_works table g.G.Gate.becomes c.args.held.now (c.args.seat.now, c.args.gate.now) (c.give_up_records.new.seat, c.give_up_records.new.gate) c.give_up_records.ensures in
    works_seat table g.G.Gate.becomes _ _ (works_more table g.G.Gate.becomes _ _ _ given c.unlock_nodes.ensures.works) c.requires.span.seat

pub returns-then-job-eq0-clause-works : goal.returns-then-job-eq0-clause-works
returns-then-job-eq0-clause-works g c =
    let table = c.args.table.now in
    let given = given_works table g.G.Gate.becomes c.args.held.now (c.args.seat.now, c.args.gate.now) (c.give_up_records.new.seat, c.give_up_records.new.gate) c.give_up_records.ensures in
    let last = works_one table g.G.Gate.becomes (Unlock Anchor) (c.unlock_nodes.new.seat, c.unlock_nodes.new.gate) (c.unlock.new.seat, c.unlock.new.gate) tt c.unlock.ensures in
    works_more table g.G.Gate.becomes _ _ _ (works_more table g.G.Gate.becomes _ _ _ given c.unlock_nodes.ensures.works) last

pub returns-else-job-eq0-clause-works : goal.returns-else-job-eq0-clause-works
returns-else-job-eq0-clause-works g c =
    let table = c.args.table.now in
    let given = given_works table g.G.Gate.becomes c.args.held.now (c.args.seat.now, c.args.gate.now) (c.give_up_records.new.seat, c.give_up_records.new.gate) c.give_up_records.ensures in
    works_more table g.G.Gate.becomes _ _ _ given c.unlock_nodes.ensures.works

pub returns-else-job-eq0-clause-rest : goal.returns-else-job-eq0-clause-rest
returns-else-job-eq0-clause-rest g c =
    let rest = c.unlock_nodes.ensures.rest in
    record {
      own = rest.0 ∙ c.give_up_records.ensures.own;
      locks = c.unlock_nodes.ensures.free;
      anchor = rest.1 ∙ (given_anchor c.args.table.now g.G.Gate.becomes c.args.held.now (c.args.seat.now, c.args.gate.now) (c.give_up_records.new.seat, c.give_up_records.new.gate) c.give_up_records.ensures ∙ c.requires.span.locked.below (omega (arith, c.if-job-eq0.false)));
    }

pub returns-else-job-eq0-clause-few : goal.returns-else-job-eq0-clause-few
returns-else-job-eq0-clause-few g c =
    let given = given_few c.args.table.now g.G.Gate.becomes c.args.held.now (c.args.seat.now, c.args.gate.now) (c.give_up_records.new.seat, c.give_up_records.new.gate) c.give_up_records.ensures in
    omega (arith, given, c.first_locked.ensures, c.unlock_nodes.ensures.few, slice_few c.args.job.now.way.now c.first_locked.result c.args.job.now.span.len, c.if-job-eq0.false)

pub returns-then-job-eq0-clause-few : goal.returns-then-job-eq0-clause-few
returns-then-job-eq0-clause-few g c =
    let given = given_few c.args.table.now g.G.Gate.becomes c.args.held.now (c.args.seat.now, c.args.gate.now) (c.give_up_records.new.seat, c.give_up_records.new.gate) c.give_up_records.ensures in
    omega (
      arith,
      given,
      c.first_locked.ensures,
      c.unlock_nodes.ensures.few,
      slice_few c.args.job.now.way.now c.first_locked.result c.args.job.now.span.len,
      step_few c.args.table.now g.G.Gate.becomes (Unlock Anchor) (c.unlock_nodes.new.seat, c.unlock_nodes.new.gate) (c.unlock.new.seat, c.unlock.new.gate) c.unlock.ensures,
    )
