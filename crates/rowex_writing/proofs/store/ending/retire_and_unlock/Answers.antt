-- The epoch is loaded, what is unlinked is marked, what stays is unlocked, and the anchor at last.
use Rattle.rowex_writing.proofs.Common.{◌∙◌, arith, LoadEpoch, Unlock, Anchor, act_leaves, step_few}
use Rattle.rowex_writing.proofs.locks.Locks.{works_one, works_more, works_seat}
use Rattle.rowex_writing.proofs.locks.Spans.{locked_same}
use Rattle.rowex_writing.proofs.store.Retiring.{due_first}
use Rattle.rowex_writing.proofs.store.ending.retire_and_unlock.Goals as goal

pub mark_records-requires-clause-due : goal.mark_records-requires-clause-due
mark_records-requires-clause-due g c =
    (due_first c.args.table.now.layout c.args.seat.now.known c.load_epoch-epoch.new.seat.known c.load_epoch-epoch.result c.args.gone.now _ c.load_epoch-epoch.ensures.event c.requires.published).0

pub unlock_nodes-requires-clause-own : goal.unlock_nodes-requires-clause-own
unlock_nodes-requires-clause-own g c =
    let table = c.args.table.now in
    let one = works_one table g.G.Gate.becomes (LoadEpoch c.load_epoch-epoch.result) (c.args.seat.now, c.args.gate.now) (c.load_epoch-epoch.new.seat, c.load_epoch-epoch.new.gate) tt c.load_epoch-epoch.ensures in
    works_seat table g.G.Gate.becomes _ _ (works_more table g.G.Gate.becomes _ _ _ one c.mark_records.ensures.works) c.requires.own

pub unlock_nodes-requires-clause-locked : goal.unlock_nodes-requires-clause-locked
unlock_nodes-requires-clause-locked g c =
    locked_same c.load_epoch-epoch.new.seat.known c.mark_records.new.seat.known _ c.mark_records.ensures.same.0
    (due_first c.args.table.now.layout c.args.seat.now.known c.load_epoch-epoch.new.seat.known c.load_epoch-epoch.result c.args.gone.now _ c.load_epoch-epoch.ensures.event c.requires.published).1

pub unlock-requires-clause-own : goal.unlock-requires-clause-own
unlock-requires-clause-own g c =
    let table = c.args.table.now in
    let one = works_one table g.G.Gate.becomes (LoadEpoch c.load_epoch-epoch.result) (c.args.seat.now, c.args.gate.now) (c.load_epoch-epoch.new.seat, c.load_epoch-epoch.new.gate) tt c.load_epoch-epoch.ensures in
    works_seat table g.G.Gate.becomes _ _ (works_more table g.G.Gate.becomes _ _ _ (works_more table g.G.Gate.becomes _ _ _ one c.mark_records.ensures.works) c.unlock_nodes.ensures.works) c.requires.own

pub returns-then-anchor-clause-works : goal.returns-then-anchor-clause-works
returns-then-anchor-clause-works g c =
    let table = c.args.table.now in
    let one = works_one table g.G.Gate.becomes (LoadEpoch c.load_epoch-epoch.result) (c.args.seat.now, c.args.gate.now) (c.load_epoch-epoch.new.seat, c.load_epoch-epoch.new.gate) tt c.load_epoch-epoch.ensures in
    let last = works_one table g.G.Gate.becomes (Unlock Anchor) (c.unlock_nodes.new.seat, c.unlock_nodes.new.gate) (c.unlock.new.seat, c.unlock.new.gate) tt c.unlock.ensures in
    works_more table g.G.Gate.becomes _ _ _ (works_more table g.G.Gate.becomes _ _ _ (works_more table g.G.Gate.becomes _ _ _ one c.mark_records.ensures.works) c.unlock_nodes.ensures.works) last

pub returns-else-anchor-clause-works : goal.returns-else-anchor-clause-works
returns-else-anchor-clause-works g c =
    let table = c.args.table.now in
    let one = works_one table g.G.Gate.becomes (LoadEpoch c.load_epoch-epoch.result) (c.args.seat.now, c.args.gate.now) (c.load_epoch-epoch.new.seat, c.load_epoch-epoch.new.gate) tt c.load_epoch-epoch.ensures in
    works_more table g.G.Gate.becomes _ _ _ (works_more table g.G.Gate.becomes _ _ _ one c.mark_records.ensures.works) c.unlock_nodes.ensures.works

pub returns-then-anchor-clause-front : goal.returns-then-anchor-clause-front
returns-then-anchor-clause-front g c =
    let first = act_leaves c.args.table.now.layout c.args.seat.now.known c.load_epoch-epoch.new.seat.known (LoadEpoch c.load_epoch-epoch.result) c.load_epoch-epoch.ensures.event in
    let last = act_leaves c.args.table.now.layout c.unlock_nodes.new.seat.known c.unlock.new.seat.known (Unlock Anchor) c.unlock.ensures.event in
    last.front tt ∙ (c.unlock_nodes.ensures.rest.2 ∙ (c.mark_records.ensures.same.2 ∙ first.front tt))

pub returns-then-anchor-clause-few : goal.returns-then-anchor-clause-few
returns-then-anchor-clause-few g c =
    let table = c.args.table.now in
    let first = step_few table g.G.Gate.becomes (LoadEpoch c.load_epoch-epoch.result) (c.args.seat.now, c.args.gate.now) (c.load_epoch-epoch.new.seat, c.load_epoch-epoch.new.gate) c.load_epoch-epoch.ensures in
    let last = step_few table g.G.Gate.becomes (Unlock Anchor) (c.unlock_nodes.new.seat, c.unlock_nodes.new.gate) (c.unlock.new.seat, c.unlock.new.gate) c.unlock.ensures in
    omega (arith, first, last, c.mark_records.ensures.few, c.unlock_nodes.ensures.few)

pub returns-else-anchor-clause-front : goal.returns-else-anchor-clause-front
returns-else-anchor-clause-front g c =
    let first = act_leaves c.args.table.now.layout c.args.seat.now.known c.load_epoch-epoch.new.seat.known (LoadEpoch c.load_epoch-epoch.result) c.load_epoch-epoch.ensures.event in
    c.unlock_nodes.ensures.rest.2 ∙ (c.mark_records.ensures.same.2 ∙ first.front tt)

pub returns-else-anchor-clause-few : goal.returns-else-anchor-clause-few
returns-else-anchor-clause-few g c =
    let table = c.args.table.now in
    let first = step_few table g.G.Gate.becomes (LoadEpoch c.load_epoch-epoch.result) (c.args.seat.now, c.args.gate.now) (c.load_epoch-epoch.new.seat, c.load_epoch-epoch.new.gate) c.load_epoch-epoch.ensures in
    omega (arith, first, c.mark_records.ensures.few, c.unlock_nodes.ensures.few)
