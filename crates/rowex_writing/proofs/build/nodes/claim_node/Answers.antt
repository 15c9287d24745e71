-- A record is claimed; or none was free, and those that are made are looked at.
use Rattle.rowex_writing.proofs.Common.{sym, subst}
use Rattle.rowex_writing.specs.build.Walks.{bounds_of_walk, left_below}
use Rattle.rowex_writing.specs.build.Building.{IsBuilding}
use Rattle.rowex_writing.proofs.build.Changes.{made_alone, made_held}
use Rattle.rowex_writing.proofs.locks.Going.{goes_more}
use Rattle.rowex_writing.proofs.build.Building.{building_on}
use Rattle.rowex_writing.proofs.build.Walks.{looked_since, walk_on, walk_ends}
use Rattle.rowex_writing.proofs.build.nodes.claim_node.Goals as goal

pub load_states-requires : goal.load_states-requires
load_states-requires g c =
    let (news, b) = c.requires.building in
    record {
      building = (
        news,
        subst (λ z. IsBuilding c.args.table.now c.claim_node_on_walk-claimed.new.seat z news) (sym c.as_slice.ensures.value)
            (building_on c.args.table.now g.G.Gate.becomes (c.args.seat.now, c.args.gate.now) (c.claim_node_on_walk-claimed.new.seat, c.claim_node_on_walk-claimed.new.gate) c.args.build.now.made.items news c.claim_node_on_walk-claimed.ensures.goes c.in_default.ensures.claims b),
      );
    }

pub returns-clause-goes : goal.returns-clause-goes
returns-clause-goes g c = goes_more c.args.table.now g.G.Gate.becomes _ _ _ c.claim_node_on_walk-claimed.ensures.goes c.load_states.ensures.goes

pub returns-clause-walk : goal.returns-clause-walk
returns-clause-walk g c = λ first w.
    let (news, b) = c.requires.building in
    let layout = c.args.table.now.layout in
    let made = c.args.build.now.made.items in
    let claimed = c.claim_node_on_walk-claimed.new in
    let left = c.in_default.ensures.walk first made (made_alone c.args.table.now c.args.seat.now made news b) w in
    let walk = left.walked in
    let (looked, own) = looked_since c.args.table.now g.G.Gate.becomes first.known.steps (claimed.seat, claimed.gate) (c.load_states.new.seat, c.load_states.new.gate) made _ c.as_slice.ensures.value walk.claims.early c.load_states.ensures.goes
    c.load_states.ensures.seen c.load_states.ensures.mine in
    walk_ends layout (bounds_of_walk claimed.walk first) first.known.steps claimed.walk.end c.load_states.new.seat.known made claimed.hint.next (left_below layout.nodes claimed.walk) left.none left.all looked own (made_held c.args.table.now c.args.seat.now made news b).apart
    (walk_on c.args.table.now g.G.Gate.becomes first.known.steps (claimed.seat, claimed.gate) (c.load_states.new.seat, c.load_states.new.gate) made made claimed.hint.next (left_below layout.nodes claimed.walk) c.load_states.ensures.goes (λ r has. has) walk.claims)

pub returns-in-Some-clause-walk : goal.returns-in-Some-clause-walk
returns-in-Some-clause-walk g c = λ first w.
    let (news, b) = c.requires.building in
    c.in-Some.ensures.walk first c.args.build.now.made.items (made_alone c.args.table.now c.args.seat.now c.args.build.now.made.items news b) w

pub returns-clause-finds : goal.returns-clause-finds
returns-clause-finds g c = λ left end commits none room is. c.claim_node_on_walk-claimed.ensures.finds left end commits none room c.in_default.is
