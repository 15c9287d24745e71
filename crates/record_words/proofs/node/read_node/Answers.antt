-- The two parts of the words are those of the node.
use Rattle.record_words.proofs.Common.{◌≡◌, ◌<◌, get_or, length, refl, ◌∙◌, arith, take_all, Leaf, head_of}
use Rattle.record_words.proofs.Nodes.{head_part}
use Rattle.record_words.proofs.Reading.{both_read, spells_node, entry_spelled, one_more_read, entries_counted}
use Rattle.record_words.proofs.node.read_node.Goals as goal
use Rattle.record_words.proofs.node.read_node.Goals.{After-loop-slot}

pub bounds-words-slot : goal.bounds-words-slot
bounds-words-slot c = omega (arith, c.read_numbers-slot-end.ensures.parts.0, entries_counted c.requires.0 c.args.words.now c.requires.1 c.requires.2, c.requires.1.entries.room)

pub read_some_entry-requires : goal.read_some_entry-requires
read_some_entry-requires c =
    let node = c.requires.0 in
    let words = c.args.words.now in
    let spelled = entry_spelled node words c.loop-slot.slot c.requires.1 c.requires.2 (omega (arith, c.read_numbers-slot-end.ensures.parts.0, entries_counted node words c.requires.1 c.requires.2)) in
    (get_or node.entries c.loop-slot.slot (Leaf 0), spelled.0, spelled.1)

pub loop-slot-preserved : goal.loop-slot-preserved
loop-slot-preserved c = λ node has same.
    let inside : c.loop-slot.slot < length node.entries = omega (arith, c.read_numbers-slot-end.ensures.parts.0, entries_counted node c.args.words.now has same) in
    let spelled = entry_spelled node c.args.words.now c.loop-slot.slot has same inside in
    one_more_read node.entries c.loop-slot.entries.items _ c.loop-slot.slot c.read_some_entry.result
    (c.read_some_entry.ensures.only (get_or node.entries c.loop-slot.slot (Leaf 0)) spelled.0 spelled.1) inside (c.loop-slot.invariant node has same) c.push.ensures.items

pub read_head-requires : goal.read_head-requires
read_head-requires c = (head_of c.requires.0, (c.requires.0, c.requires.1.lawful, refl), head_part c.requires.0 c.args.words.now c.requires.2)

-- all entries have been read
all_read : (c : After-loop-slot) → c.loop-slot.entries.items ≡ c.requires.0.entries
all_read c =
    let node = c.requires.0 in
    c.loop-slot.invariant node c.requires.1 c.requires.2 ∙ take_all c.loop-slot.slot node.entries (omega (arith, c.read_numbers-slot-end.ensures.parts.0, entries_counted node c.args.words.now c.requires.1 c.requires.2))

pub of-requires : goal.of-requires
of-requires c =
    rw (both_read c.requires.0 c.args.words.now c.read_head.result c.loop-slot.entries.items c.requires.1 c.requires.2 c.read_head.ensures (all_read (goal.at.of-requires c).After-loop-slot)) c.requires.1.lawful

pub returns : goal.returns
returns c =
    spells_node c.requires.0 c.of.result c.args.words.now c.requires.1 c.requires.2
    (c.of.ensures ∙ both_read c.requires.0 c.args.words.now c.read_head.result c.loop-slot.entries.items c.requires.1 c.requires.2 c.read_head.ensures (all_read (goal.at.returns c).After-loop-slot))
