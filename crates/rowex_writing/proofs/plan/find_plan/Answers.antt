-- The affected entries are those of the node at the level, whose forks the search has read.
use Rattle.rowex_writing.proofs.Common.{arith, slice_get-get_or, reads_count, reader_then, reads_later, reads_none, way_place}
use Rattle.rowex_writing.proofs.plan.Planned.{known_planned, beside_planned}
use Rattle.rowex_writing.proofs.plan.Plans.{plan_within, beside_within}
use Rattle.rowex_writing.proofs.plan.find_plan.Goals as goal

pub find_affected-first-requires-clause-place : goal.find_affected-first-requires-clause-place
find_affected-first-requires-clause-place g c =
    let (m, key, w) = c.requires.way in
    let at = slice_get-get_or c.args.way.now c.in-Beside.level _ c.in-Beside.ensures.1.within in
    (m, _, way_place c.args.table.now.layout c.args.seat.now.known m key c.args.way.now c.args.found w c.in-Beside.level _ at)

pub returns-in-Known-clause-reads : goal.returns-in-Known-clause-reads
returns-in-Known-clause-reads g c = (0, 0, reads_none (c.args.seat.now, c.args.gate.now))

pub returns-in-Known-clause-planned : goal.returns-in-Known-clause-planned
returns-in-Known-clause-planned g c = λ m key w. known_planned c.args.table.now.layout c.args.seat.now.known c.args.seat.now.known m key c.args.way.now c.args.aim c.args.found c.in-Known.plan c.in-Known.ensures w

pub returns-in-Known-clause-within : goal.returns-in-Known-clause-within
returns-in-Known-clause-within g c = plan_within c.args.way.now 0 0 c.args.aim c.args.found c.in-Known.plan (c.in-Known.ensures 0 0)

pub returns-in-Beside-clause-possible : goal.returns-in-Beside-clause-possible
returns-in-Beside-clause-possible g c = (reader_then (c.requires.own, c.requires.possible) c.find_affected-first.ensures.reads.2).1

pub returns-in-Beside-clause-planned : goal.returns-in-Beside-clause-planned
returns-in-Beside-clause-planned g c = λ m key w.
    let level = c.in-Beside.ensures.1 in
    let at = slice_get-get_or c.args.way.now c.in-Beside.level _ level.within in
    let e = c.find_affected-first.ensures in
    let (forks, shaped, from, upto) = e.affected m _ (way_place c.args.table.now.layout c.args.seat.now.known m key c.args.way.now c.args.found w c.in-Beside.level _ at) in
    beside_planned c.args.table.now.layout c.args.seat.now.known c.find_affected-first.new.seat.known m key c.args.way.now c.args.aim c.args.found c.plan_beside_entries.result c.in-Beside.position _ _ c.in-Beside.level _ forks
    c.in-Beside.ensures.0 (reader_then (c.requires.own, c.requires.possible) e.reads.2).1 (reads_later e.reads.2) w level at shaped from upto (c.in-Beside.ensures.2 _ _ c.plan_beside_entries.result c.plan_beside_entries.ensures)

pub returns-in-Beside-clause-within : goal.returns-in-Beside-clause-within
returns-in-Beside-clause-within g c = beside_within c.args.way.now c.in-Beside.position c.in-Beside.level _ _ c.plan_beside_entries.result c.in-Beside.ensures.1.within c.plan_beside_entries.ensures

pub returns-in-Beside-clause-few : goal.returns-in-Beside-clause-few
returns-in-Beside-clause-few g c =
    let few = c.find_affected-first.ensures.reads.1 in
    let z = reads_count c.args.table.now g.G.Gate.becomes _ _ (c.args.seat.now, c.args.gate.now) (c.find_affected-first.new.seat, c.find_affected-first.new.gate) c.find_affected-first.ensures.reads.2 in omega (arith, few, z)
