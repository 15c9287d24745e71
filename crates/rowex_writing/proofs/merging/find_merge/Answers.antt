-- The rows round the place, the entry beside, and the count of what that names.
use Rattle.rowex_writing.proofs.Common.{rules, ◌<◌, ◌∙◌, arith, beside_in_table}
use Rattle.rowex_writing.proofs.merging.Merging.{beside_on}
use Rattle.rowex_writing.specs.build.Taking.{upper}
use Rattle.rowex_writing.proofs.locks.Going.{locked_on, reads_fixed, reads_more, locked_node}
use Rattle.rowex_writing.proofs.merging.Beside.{column_few, found_beside, place_shown, sibling_is, takes_on, upper_held, upper_place, upper_range, upper_within}
use Rattle.rowex_writing.proofs.merging.find_merge.Goals as goal

pub load_sibling-requires-clause-range : goal.load_sibling-requires-clause-range
load_sibling-requires-clause-range g c =
    upper_range c.args.table.now c.args.job.now c.requires.takes.0

pub load_sibling-requires-clause-place : goal.load_sibling-requires-clause-place
load_sibling-requires-clause-place g c =
    let (words, h) = upper_held c.args.table.now c.args.seat.now c.args.job.now c.requires.takes in
    let (view, node) = locked_node c.args.table.now.layout c.args.seat.now.known (upper c.args.job.now).number words c.requires.takes.2 h in
    omega (arith, upper_within c.args.table.now c.args.seat.now c.args.job.now c.requires.takes words h view node, node.has.lawful.room)

-- the pass after the rows were loaded
pub load_locked_entry-requires-clause-own : goal.load_locked_entry-requires-clause-own
load_locked_entry-requires-clause-own g c =
    (takes_on c.args.table.now g.G.Gate.becomes (c.args.seat.now, c.args.gate.now) (c.load_sibling.new.seat, c.load_sibling.new.gate) c.args.job.now c.load_sibling.ensures.reads.goes c.requires.takes).1

pub load_locked_entry-requires-clause-possible : goal.load_locked_entry-requires-clause-possible
load_locked_entry-requires-clause-possible g c =
    (takes_on c.args.table.now g.G.Gate.becomes (c.args.seat.now, c.args.gate.now) (c.load_sibling.new.seat, c.load_sibling.new.gate) c.args.job.now c.load_sibling.ensures.reads.goes c.requires.takes).2

pub load_locked_entry-requires-clause-place : goal.load_locked_entry-requires-clause-place
load_locked_entry-requires-clause-place g c =
    let (words, h) = upper_held c.args.table.now c.args.seat.now c.args.job.now c.requires.takes in
    let (view, node) = locked_node c.args.table.now.layout c.args.seat.now.known (upper c.args.job.now).number words c.requires.takes.2 h in
    let forks = c.in-Some.ensures.beside view (words, h, node) (upper_within c.args.table.now c.args.seat.now c.args.job.now c.requires.takes words h view node) in
    let now = takes_on c.args.table.now g.G.Gate.becomes (c.args.seat.now, c.args.gate.now) (c.load_sibling.new.seat, c.load_sibling.new.gate) c.args.job.now c.load_sibling.ensures.reads.goes c.requires.takes in
    let there = locked_on c.args.seat.now.known c.load_sibling.new.seat.known (upper c.args.job.now).number words c.load_sibling.ensures.reads.goes.stays.1 h in (
      _,
      (upper c.args.job.now).height,
      upper_place c.args.table.now c.load_sibling.new.seat c.args.job.now now words there c.in-Some.slot (place_shown c.args.table.now c.args.seat.now c.args.job.now c.requires.takes words h view node c.in-Some.slot c.in-Some.column forks),
    )

pub load_locked_entry-requires-clause-locked : goal.load_locked_entry-requires-clause-locked
load_locked_entry-requires-clause-locked g c =
    let (words, h) = upper_held c.args.table.now c.args.seat.now c.args.job.now c.requires.takes in
    (words, locked_on c.args.seat.now.known c.load_sibling.new.seat.known (upper c.args.job.now).number words c.load_sibling.ensures.reads.goes.stays.1 h)

pub returns-in_default-load_locked_entry-clause-reads : goal.returns-in_default-load_locked_entry-clause-reads
returns-in_default-load_locked_entry-clause-reads g c =
    reads_more c.args.table.now g.G.Gate.becomes (c.args.seat.now, c.args.gate.now) (c.load_sibling.new.seat, c.load_sibling.new.gate) (c.load_locked_entry.new.seat, c.load_locked_entry.new.gate) c.load_sibling.ensures.reads c.load_locked_entry.ensures.reads

pub load_fixed-word-requires-clause-own : goal.load_fixed-word-requires-clause-own
load_fixed-word-requires-clause-own g c =
    (takes_on c.args.table.now g.G.Gate.becomes (c.args.seat.now, c.args.gate.now) (c.load_locked_entry.new.seat, c.load_locked_entry.new.gate) c.args.job.now (reads_more c.args.table.now g.G.Gate.becomes (c.args.seat.now, c.args.gate.now) (c.load_sibling.new.seat, c.load_sibling.new.gate) (c.load_locked_entry.new.seat, c.load_locked_entry.new.gate) c.load_sibling.ensures.reads c.load_locked_entry.ensures.reads).goes c.requires.takes).1

pub load_fixed-word-requires-clause-range : goal.load_fixed-word-requires-clause-range
load_fixed-word-requires-clause-range g c =
    let (words, h) = upper_held c.args.table.now c.args.seat.now c.args.job.now c.requires.takes in
    let (view, node) = locked_node c.args.table.now.layout c.args.seat.now.known (upper c.args.job.now).number words c.requires.takes.2 h in
    let forks = c.in-Some.ensures.beside view (words, h, node) (upper_within c.args.table.now c.args.seat.now c.args.job.now c.requires.takes words h view node) in
    let there = locked_on c.args.seat.now.known c.load_sibling.new.seat.known (upper c.args.job.now).number words c.load_sibling.ensures.reads.goes.stays.1 h in
    let p = c.requires.takes.2 in
    let is = sibling_is c.args.table.now c.args.seat.now c.args.job.now c.requires.takes words h view node c.in-Some.slot c.in-Some.column forks c.in-Node.number c.in-Node.height (c.in-Node.ensures.entry words there) in
    let low : c.in-Node.number < c.args.table.now.layout.nodes = beside_in_table c.args.table.now.layout c.args.seat.now.known p.core p.lawful p.layout_is p.knows c.args.job.now.key.now (upper c.args.job.now).number c.in-Node.number _ c.in-Node.height words h is in
    search (rules, low)

pub returns-then-read_numbers-low-clause-reads : goal.returns-then-read_numbers-low-clause-reads
returns-then-read_numbers-low-clause-reads g c =
    reads_more c.args.table.now g.G.Gate.becomes (c.args.seat.now, c.args.gate.now) (c.load_locked_entry.new.seat, c.load_locked_entry.new.gate) (c.load_fixed-word.new.seat, c.load_fixed-word.new.gate) (reads_more c.args.table.now g.G.Gate.becomes (c.args.seat.now, c.args.gate.now) (c.load_sibling.new.seat, c.load_sibling.new.gate) (c.load_locked_entry.new.seat, c.load_locked_entry.new.gate) c.load_sibling.ensures.reads c.load_locked_entry.ensures.reads)
    (reads_fixed c.args.table.now g.G.Gate.becomes c.in-Node.number 1 c.load_fixed-word.result (c.load_locked_entry.new.seat, c.load_locked_entry.new.gate) (c.load_fixed-word.new.seat, c.load_fixed-word.new.gate) c.load_fixed-word.ensures)

-- and after the count was loaded
pub load_position-position-requires-clause-own : goal.load_position-position-requires-clause-own
load_position-position-requires-clause-own g c =
    (takes_on c.args.table.now g.G.Gate.becomes (c.args.seat.now, c.args.gate.now) (c.load_fixed-word.new.seat, c.load_fixed-word.new.gate) c.args.job.now (reads_more c.args.table.now g.G.Gate.becomes (c.args.seat.now, c.args.gate.now) (c.load_locked_entry.new.seat, c.load_locked_entry.new.gate) (c.load_fixed-word.new.seat, c.load_fixed-word.new.gate) (reads_more c.args.table.now g.G.Gate.becomes (c.args.seat.now, c.args.gate.now) (c.load_sibling.new.seat, c.load_sibling.new.gate) (c.load_locked_entry.new.seat, c.load_locked_entry.new.gate) c.load_sibling.ensures.reads c.load_locked_entry.ensures.reads)
    (reads_fixed c.args.table.now g.G.Gate.becomes c.in-Node.number 1 c.load_fixed-word.result (c.load_locked_entry.new.seat, c.load_locked_entry.new.gate) (c.load_fixed-word.new.seat, c.load_fixed-word.new.gate) c.load_fixed-word.ensures)).goes c.requires.takes).1

pub load_position-position-requires-clause-range : goal.load_position-position-requires-clause-range
load_position-position-requires-clause-range g c =
    upper_range c.args.table.now c.args.job.now c.requires.takes.0

pub load_position-position-requires-clause-column : goal.load_position-position-requires-clause-column
load_position-position-requires-clause-column g c =
    let (words, h) = upper_held c.args.table.now c.args.seat.now c.args.job.now c.requires.takes in
    let (view, node) = locked_node c.args.table.now.layout c.args.seat.now.known (upper c.args.job.now).number words c.requires.takes.2 h in
    let forks = c.in-Some.ensures.beside view (words, h, node) (upper_within c.args.table.now c.args.seat.now c.args.job.now c.requires.takes words h view node) in
    column_few c.args.table.now c.args.seat.now c.args.job.now c.requires.takes words h view node c.in-Some.slot c.in-Some.column forks

pub returns-clause-reads : goal.returns-clause-reads
returns-clause-reads g c =
    reads_more c.args.table.now g.G.Gate.becomes (c.args.seat.now, c.args.gate.now) (c.load_fixed-word.new.seat, c.load_fixed-word.new.gate) (c.load_position-position.new.seat, c.load_position-position.new.gate) (reads_more c.args.table.now g.G.Gate.becomes (c.args.seat.now, c.args.gate.now) (c.load_locked_entry.new.seat, c.load_locked_entry.new.gate) (c.load_fixed-word.new.seat, c.load_fixed-word.new.gate) (reads_more c.args.table.now g.G.Gate.becomes (c.args.seat.now, c.args.gate.now) (c.load_sibling.new.seat, c.load_sibling.new.gate) (c.load_locked_entry.new.seat, c.load_locked_entry.new.gate) c.load_sibling.ensures.reads c.load_locked_entry.ensures.reads)
    (reads_fixed c.args.table.now g.G.Gate.becomes c.in-Node.number 1 c.load_fixed-word.result (c.load_locked_entry.new.seat, c.load_locked_entry.new.gate) (c.load_fixed-word.new.seat, c.load_fixed-word.new.gate) c.load_fixed-word.ensures)) c.load_position-position.ensures.reads

pub returns-clause-beside : goal.returns-clause-beside
returns-clause-beside g c =
    let (words, h) = upper_held c.args.table.now c.args.seat.now c.args.job.now c.requires.takes in
    let (view, node) = locked_node c.args.table.now.layout c.args.seat.now.known (upper c.args.job.now).number words c.requires.takes.2 h in
    let forks = c.in-Some.ensures.beside view (words, h, node) (upper_within c.args.table.now c.args.seat.now c.args.job.now c.requires.takes words h view node) in
    let first = c.load_sibling.ensures.reads.goes.stays.1 in
    let there = locked_on c.args.seat.now.known c.load_sibling.new.seat.known (upper c.args.job.now).number words first h in
    let upto = (reads_more c.args.table.now g.G.Gate.becomes (c.args.seat.now, c.args.gate.now) (c.load_locked_entry.new.seat, c.load_locked_entry.new.gate) (c.load_fixed-word.new.seat, c.load_fixed-word.new.gate) (reads_more c.args.table.now g.G.Gate.becomes (c.args.seat.now, c.args.gate.now) (c.load_sibling.new.seat, c.load_sibling.new.gate) (c.load_locked_entry.new.seat, c.load_locked_entry.new.gate) c.load_sibling.ensures.reads c.load_locked_entry.ensures.reads)
    (reads_fixed c.args.table.now g.G.Gate.becomes c.in-Node.number 1 c.load_fixed-word.result (c.load_locked_entry.new.seat, c.load_locked_entry.new.gate) (c.load_fixed-word.new.seat, c.load_fixed-word.new.gate) c.load_fixed-word.ensures)).goes.stays.1 in
    let then = locked_on c.args.seat.now.known c.load_fixed-word.new.seat.known (upper c.args.job.now).number words upto h in
    beside_on c.args.seat.now.known c.load_position-position.new.seat.known c.args.job.now _ (c.load_position-position.ensures.reads.goes.stays.1 ∙ upto)
    (found_beside c.args.table.now c.args.seat.now c.args.job.now c.requires.takes words h view node c.in-Some.slot c.in-Some.column forks c.args.left c.in-Node.number c.in-Node.height c.load_position-position.result
    (c.load_position-position.ensures.position view (words, then, node)) (c.in-Node.ensures.entry words there))
