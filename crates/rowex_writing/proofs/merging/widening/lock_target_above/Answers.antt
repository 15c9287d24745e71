-- The anchor, or the node above.
use Rattle.rowex_writing.proofs.Common.{◌-◌, get_or, ◌∙◌, arith, slice_get-get_or, later_if_same, refl, way_later}
use Rattle.rowex_writing.specs.build.Taking.{no_step}
use Rattle.rowex_writing.proofs.locks.Checks.{since_pinned, step_place}
use Rattle.rowex_writing.proofs.merging.widening.Widening.{root_above, step_above}
use Rattle.rowex_writing.proofs.locks.Onward.{run_possible}
use Rattle.rowex_writing.proofs.merging.widening.lock_target_above.Goals as goal

pub lock_root-requires-clause-pinned : goal.lock_root-requires-clause-pinned
lock_root-requires-clause-pinned g c = let (m, w) = c.requires.way in since_pinned c.args.seat.now.known m w.since

pub returns-then-end-eq0-clause-tries : goal.returns-then-end-eq0-clause-tries
returns-then-end-eq0-clause-tries g c = (_, c.lock_root.ensures.tries, omega (arith, c.if-end-eq0.true))

pub returns-then-end-eq0-clause-above : goal.returns-then-end-eq0-clause-above
returns-then-end-eq0-clause-above g c = λ e.
    root_above c.args.seat.now.known.locks c.args.job.now.key.now c.args.job.now.way.now c.args.job.now.found (c.args.job.now.span.end - 1) c.lock_root.new.seat.known c.naming_entry-named.result (omega (arith, c.if-end-eq0.true)) c.naming_entry-named.ensures (c.lock_root.ensures.locked e)

pub lock_node_with_entry-requires-clause-range : goal.lock_node_with_entry-requires-clause-range
lock_node_with_entry-requires-clause-range g c =
    let (m, w) = c.requires.way in
    (w.nodes (c.args.job.now.span.end - 1 - 1) _ (slice_get-get_or c.args.job.now.way.now (c.args.job.now.span.end - 1 - 1) no_step (omega (arith, c.requires.some.1, c.requires.some.0)))).2.range

pub lock_node_with_entry-requires-clause-place : goal.lock_node_with_entry-requires-clause-place
lock_node_with_entry-requires-clause-place g c =
    let (m, w) = c.requires.way in
    let at = slice_get-get_or c.args.job.now.way.now (c.args.job.now.span.end - 1 - 1) no_step (omega (arith, c.requires.some.1, c.requires.some.0)) in
    (m, (get_or c.args.job.now.way.now (c.args.job.now.span.end - 1 - 1) no_step).height, step_place c.args.table.now.layout c.args.seat.now.known c.args.seat.now.known m c.args.job.now.key.now c.args.job.now.way.now c.args.job.now.found (later_if_same c.args.seat.now.known c.args.seat.now.known refl) w (c.args.job.now.span.end - 1 - 1) _ at)

pub returns-clause-tries : goal.returns-clause-tries
returns-clause-tries g c =
    let at = slice_get-get_or c.args.job.now.way.now (c.args.job.now.span.end - 1 - 1) no_step (omega (arith, c.requires.some.1, c.requires.some.0)) in
    (_, c.lock_node_with_entry.ensures.tries, (get_or c.args.job.now.way.now (c.args.job.now.span.end - 1 - 1) no_step, omega (arith, c.if-end-eq0.false), at, refl))

pub returns-clause-above : goal.returns-clause-above
returns-clause-above g c = λ e.
    let (m, w) = c.requires.way in
    let at = slice_get-get_or c.args.job.now.way.now (c.args.job.now.span.end - 1 - 1) no_step (omega (arith, c.requires.some.1, c.requires.some.0)) in
    let l = c.lock_node_with_entry.ensures.locked e in
    let possible = run_possible c.args.table.now g.G.Gate.becomes (c.args.seat.now, c.args.gate.now) (c.lock_node_with_entry.new.seat, c.lock_node_with_entry.new.gate) c.lock_node_with_entry.ensures.tries c.requires.possible in
    let there = way_later c.args.table.now.layout c.args.seat.now.known c.lock_node_with_entry.new.seat.known m c.args.job.now.key.now c.args.job.now.way.now c.args.job.now.found c.lock_node_with_entry.ensures.later.0 w in
    step_above c.args.table.now.layout c.args.seat.now.known.locks c.args.job.now.key.now c.args.job.now.way.now c.args.job.now.found (c.args.job.now.span.end - 1) c.lock_node_with_entry.new.seat.known m c.naming_entry-named.result _ possible there
    (omega (arith, c.if-end-eq0.false)) at c.naming_entry-named.ensures l.0 (l.1 ∙ c.requires.free) l.2
