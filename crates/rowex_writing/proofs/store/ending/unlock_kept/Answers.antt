-- The nodes are unlocked, and the anchor at last.
use Rattle.rowex_writing.proofs.Common.{◌∙◌, arith, Unlock, Anchor, act_leaves, step_few}
use Rattle.rowex_writing.proofs.locks.Locks.{works_one, works_more, works_seat}
use Rattle.rowex_writing.proofs.store.ending.unlock_kept.Goals as goal

pub unlock-requires-clause-own : goal.unlock-requires-clause-own
unlock-requires-clause-own g c =
    works_seat c.args.table.now g.G.Gate.becomes (c.args.seat.now, c.args.gate.now) (c.unlock_nodes.new.seat, c.unlock_nodes.new.gate) c.unlock_nodes.ensures.works c.requires.own

pub returns-then-anchor-clause-works : goal.returns-then-anchor-clause-works
returns-then-anchor-clause-works g c =
    let table = c.args.table.now in
    let last = works_one table g.G.Gate.becomes (Unlock Anchor) (c.unlock_nodes.new.seat, c.unlock_nodes.new.gate) (c.unlock.new.seat, c.unlock.new.gate) tt c.unlock.ensures in
    works_more table g.G.Gate.becomes _ _ _ c.unlock_nodes.ensures.works last

pub returns-then-anchor-clause-front : goal.returns-then-anchor-clause-front
returns-then-anchor-clause-front g c =
    let last = act_leaves c.args.table.now.layout c.unlock_nodes.new.seat.known c.unlock.new.seat.known (Unlock Anchor) c.unlock.ensures.event in
    last.front tt ∙ c.unlock_nodes.ensures.rest.2

pub returns-then-anchor-clause-few : goal.returns-then-anchor-clause-few
returns-then-anchor-clause-few g c =
    let last = step_few c.args.table.now g.G.Gate.becomes (Unlock Anchor) (c.unlock_nodes.new.seat, c.unlock_nodes.new.gate) (c.unlock.new.seat, c.unlock.new.gate) c.unlock.ensures in
    omega (arith, last, c.unlock_nodes.ensures.few)
