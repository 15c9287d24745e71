-- What is left is a side: an entry alone, or a node whose words are those of a new record.
use Rattle.rowex_writing.proofs.build.Spare.{goes_room}
use Rattle.rowex_writing.proofs.Common.{◌∙◌, [], arith, node_words_of, one, subtrie_without}
use Rattle.rowex_writing.proofs.build.rising.Rising.{left_over}
use Rattle.rowex_writing.proofs.build.Building.{building_on}
use Rattle.rowex_writing.proofs.build.Walks.{makes_after, makes_none}
use Rattle.rowex_writing.proofs.build.rising.make_entry_without_leaf.Goals as goal

pub returns-in-Some-clause-made : goal.returns-in-Some-clause-made
returns-in-Some-clause-made g c = λ key words leads h. (
  [],
  one c.in-Some.entry (c.in-Some.ensures.left key words leads h).0,
  building_on c.args.table.now g.G.Gate.becomes (c.args.seat.now, c.args.gate.now) (c.load_without_leaf.new.seat, c.load_without_leaf.new.gate) c.args.build.now.made.items [] c.load_without_leaf.ensures.reads.goes c.load_without_leaf.ensures.reads.own c.requires.building,
)

pub make_node_from_words-requires-clause-building : goal.make_node_from_words-requires-clause-building
make_node_from_words-requires-clause-building g c = (
  [],
  building_on c.args.table.now g.G.Gate.becomes (c.args.seat.now, c.args.gate.now) (c.load_without_leaf.new.seat, c.load_without_leaf.new.gate) c.args.build.now.made.items [] c.load_without_leaf.ensures.reads.goes c.load_without_leaf.ensures.reads.own c.requires.building,
)

pub make_node_from_words-requires-clause-spelling : goal.make_node_from_words-requires-clause-spelling
make_node_from_words-requires-clause-spelling g c =
    let (key, leads) = c.requires.place in
    let (words, h) = c.requires.locked in
    let left = c.in_default.ensures.left key words leads h in (left.node, left.has, left.spells)

pub returns-clause-made : goal.returns-clause-made
returns-clause-made g c = λ key words leads h.
    let left = c.in_default.ensures.left key words leads h in
    let b = building_on c.args.table.now g.G.Gate.becomes (c.args.seat.now, c.args.gate.now) (c.load_without_leaf.new.seat, c.load_without_leaf.new.gate) c.args.build.now.made.items [] c.load_without_leaf.ensures.reads.goes c.load_without_leaf.ensures.reads.own c.requires.building in
    left_over c.args.table.now c.make_node_from_words.new.seat c.make_node_from_words.new.build.made.items (subtrie_without key (node_words_of words).subtrie) left.node c.make_node_from_words.result left.built left.has
    (c.make_node_from_words.ensures.made [] left.node left.has left.spells b)

pub returns-in-Some-clause-makes : goal.returns-in-Some-clause-makes
returns-in-Some-clause-makes g c = makes_after _ c.load_without_leaf.ensures.reads.goes c.load_without_leaf.ensures.few (makes_none {most = 0} {steps = 0} ((c.load_without_leaf.new.seat, c.load_without_leaf.new.gate), c.args.build.now)) (omega arith) (omega arith)

pub returns-clause-makes : goal.returns-clause-makes
returns-clause-makes g c = makes_after _ c.load_without_leaf.ensures.reads.goes c.load_without_leaf.ensures.few c.make_node_from_words.ensures.makes (omega arith) (omega arith)

pub returns-clause-finds : goal.returns-clause-finds
returns-clause-finds g c = λ left end commits none room.
    let reads = c.load_without_leaf.ensures.reads in
    c.make_node_from_words.ensures.finds left end commits (reads.own ∙ none)
    (goes_room c.args.table.now g.G.Gate.becomes (c.args.seat.now, c.args.gate.now) (c.load_without_leaf.new.seat, c.load_without_leaf.new.gate) reads.goes (reads.own ∙ none) room)
