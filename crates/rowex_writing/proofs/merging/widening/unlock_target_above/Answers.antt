-- The anchor, or the node above.
use Rattle.rowex_writing.proofs.Common.{◌≡◌, ◌-◌, get_or, refl, sym, subst, ◌∙◌, arith, get_or_from_slice_get, PathNode, Unlock, Anchor, silent, unlock_anchor_gives, unlocks_anchor, step_few}
use Rattle.std.specs.Prelude.{IsSome}
use Rattle.rowex_writing.specs.locks.Locks.{LocksLast}
use Rattle.rowex_writing.specs.build.Taking.{no_step}
use Rattle.rowex_writing.proofs.merging.widening.Widening.{is_over, no_root}
use Rattle.rowex_writing.proofs.locks.Locks.{works_one}
use Rattle.rowex_writing.proofs.merging.widening.unlock_target_above.Goals as goal

pub unlock-requires-clause-may : goal.unlock-requires-clause-may
unlock-requires-clause-may g c =
    let (held, key, found, above) = c.requires.above in
    let (locks, anchor) = no_root held key c.args.way.now found c.args.end c.args.seat.now.known above c.if-end-eq0.true in
    unlocks_anchor c.args.table.now.layout c.args.seat.now.known (subst (λ z. IsSome z) (sym anchor) refl)

pub returns-then-end-eq0-clause-works : goal.returns-then-end-eq0-clause-works
returns-then-end-eq0-clause-works g c = works_one c.args.table.now g.G.Gate.becomes (Unlock Anchor) (c.args.seat.now, c.args.gate.now) (c.unlock.new.seat, c.unlock.new.gate) tt c.unlock.ensures

pub returns-then-end-eq0-clause-less : goal.returns-then-end-eq0-clause-less
returns-then-end-eq0-clause-less g c = λ held key found above.
    let gives = unlock_anchor_gives c.args.table.now.layout silent c.args.seat.now.known c.unlock.new.seat.known c.unlock.ensures.event in
    let (locks, anchor) = no_root held key c.args.way.now found c.args.end c.args.seat.now.known above c.if-end-eq0.true in
    (gives.2 ∙ locks, gives.0)

pub returns-then-end-eq0-clause-own : goal.returns-then-end-eq0-clause-own
returns-then-end-eq0-clause-own g c = (unlock_anchor_gives c.args.table.now.layout silent c.args.seat.now.known c.unlock.new.seat.known c.unlock.ensures.event).1

pub returns-then-end-eq0-clause-few : goal.returns-then-end-eq0-clause-few
returns-then-end-eq0-clause-few g c = step_few c.args.table.now g.G.Gate.becomes (Unlock Anchor) (c.args.seat.now, c.args.gate.now) (c.unlock.new.seat, c.unlock.new.gate) c.unlock.ensures

pub unlock_last_node-requires-clause-range : goal.unlock_last_node-requires-clause-range
unlock_last_node-requires-clause-range g c = c.requires.nodes (c.args.end - 1) no_step (omega (arith, c.requires.range, c.if-end-eq0.false))

pub unlock_last_node-requires-clause-last : goal.unlock_last_node-requires-clause-last
unlock_last_node-requires-clause-last g c =
    let (held, key, found, above) = c.requires.above in
    let over = is_over held key c.args.way.now found c.args.end c.args.seat.now.known above (omega (arith, c.if-end-eq0.false)) in
    let same : get_or c.args.way.now (c.args.end - 1) no_step ≡ over.step = get_or_from_slice_get c.args.way.now (c.args.end - 1) over.step no_step over.at in
    (held, subst (λ (s : PathNode). LocksLast s.number held c.args.seat.now.known) (sym same) over.last)

pub returns-else-end-eq0-clause-less : goal.returns-else-end-eq0-clause-less
returns-else-end-eq0-clause-less g c = λ held key found above.
    let over = is_over held key c.args.way.now found c.args.end c.args.seat.now.known above (omega (arith, c.if-end-eq0.false)) in
    let same : get_or c.args.way.now (c.args.end - 1) no_step ≡ over.step = get_or_from_slice_get c.args.way.now (c.args.end - 1) over.step no_step over.at in
    (c.unlock_last_node.ensures.less held (subst (λ (s : PathNode). LocksLast s.number held c.args.seat.now.known) (sym same) over.last), c.unlock_last_node.ensures.same.0 ∙ over.free)
