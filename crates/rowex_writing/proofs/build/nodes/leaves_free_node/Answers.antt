-- The last spare one, the walk, and those that are made.
use Rattle.rowex_writing.proofs.Common.{◌∙◌, ap, arith, length, refl, subst, sym}
use Rattle.rowex_writing.specs.build.Building.{IsBuilding}
use Rattle.rowex_writing.proofs.build.Changes.{made_alone, made_held}
use Rattle.rowex_writing.proofs.locks.Going.{goes_more, seat_of}
use Rattle.rowex_writing.proofs.build.Building.{building_on}
use Rattle.rowex_writing.proofs.build.Walks.{alone_still, committed_on, looked_since, walk_ends, walk_on}
use Rattle.rowex_writing.proofs.build.nodes.leaves_free_node.Goals as goal

pub is_last_free-requires : goal.is_last_free-requires
is_last_free-requires g c = record { own = c.requires.building.1.seat }

pub find_free_node-requires : goal.find_free_node-requires
find_free_node-requires g c = record { own = seat_of c.args.table.now g.G.Gate.becomes (c.args.seat.now, c.args.gate.now) (c.is_last_free.new.seat, c.is_last_free.new.gate) c.is_last_free.ensures.goes c.requires.building.1.seat }

pub load_states-requires : goal.load_states-requires
load_states-requires g c =
    let (news, b) = c.requires.building in
    let table = c.args.table.now in
    let goes = goes_more table g.G.Gate.becomes (c.args.seat.now, c.args.gate.now) (c.is_last_free.new.seat, c.is_last_free.new.gate) (c.find_free_node.new.seat, c.find_free_node.new.gate) c.is_last_free.ensures.goes c.find_free_node.ensures.goes in
    record {
      building = (
        news,
        subst (λ z. IsBuilding table c.find_free_node.new.seat z news) (sym c.as_slice-2.ensures.value)
            (building_on table g.G.Gate.becomes (c.args.seat.now, c.args.gate.now) (c.find_free_node.new.seat, c.find_free_node.new.gate) c.args.build.now.made.items news goes (c.find_free_node.ensures.own ∙ c.is_last_free.ensures.own) b),
      );
    }

pub returns-in-Some-clause-goes : goal.returns-in-Some-clause-goes
returns-in-Some-clause-goes g c =
    goes_more c.args.table.now g.G.Gate.becomes (c.args.seat.now, c.args.gate.now) (c.is_last_free.new.seat, c.is_last_free.new.gate) (c.find_free_node.new.seat, c.find_free_node.new.gate) c.is_last_free.ensures.goes c.find_free_node.ensures.goes

pub returns-clause-goes : goal.returns-clause-goes
returns-clause-goes g c =
    goes_more c.args.table.now g.G.Gate.becomes (c.args.seat.now, c.args.gate.now) (c.find_free_node.new.seat, c.find_free_node.new.gate) (c.load_states.new.seat, c.load_states.new.gate)
    (goes_more c.args.table.now g.G.Gate.becomes (c.args.seat.now, c.args.gate.now) (c.is_last_free.new.seat, c.is_last_free.new.gate) (c.find_free_node.new.seat, c.find_free_node.new.gate) c.is_last_free.ensures.goes c.find_free_node.ensures.goes)
    c.load_states.ensures.goes

pub returns-clause-walk : goal.returns-clause-walk
returns-clause-walk g c = λ is first w.
    let table = c.args.table.now in
    let (news, b) = c.requires.building in
    let made = c.args.build.now.made.items in
    let next = c.args.build.now.nodes.next in
    let alone = alone_still c.args.seat.now.known c.is_last_free.new.seat.known made c.is_last_free.ensures.own (made_alone table c.args.seat.now made news b) in
    let here = committed_on table g.G.Gate.becomes first (c.args.seat.now, c.args.gate.now) (c.is_last_free.new.seat, c.is_last_free.new.gate) made made next c.args.build.now.walk c.is_last_free.ensures.goes (λ r has. has) w in
    let walk = c.find_free_node.ensures.walk c.in_default.is first made alone here in
    let (looked, own) = looked_since table g.G.Gate.becomes first.known.steps (c.find_free_node.new.seat, c.find_free_node.new.gate) (c.load_states.new.seat, c.load_states.new.gate) made _ c.as_slice-2.ensures.value walk.early c.load_states.ensures.goes
    c.load_states.ensures.seen c.load_states.ensures.mine in
    walk_ends table.layout first.bounds first.known.steps c.args.build.now.walk.end c.load_states.new.seat.known made next 0 refl w.whole looked own (made_held table c.args.seat.now made news b).apart
    (walk_on table g.G.Gate.becomes first.known.steps (c.find_free_node.new.seat, c.find_free_node.new.gate) (c.load_states.new.seat, c.load_states.new.gate) made made next 0 c.load_states.ensures.goes (λ r has. has) walk)

pub returns-clause-few : goal.returns-clause-few
returns-clause-few g c = omega (arith, c.find_free_node.ensures.few, c.is_last_free.ensures.few, c.load_states.ensures.few, ap length c.as_slice-2.ensures.value)
