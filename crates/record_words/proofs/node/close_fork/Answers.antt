-- With the entry's word in the slot `other` the words are those of the node with the entry, of which the slot `at` goes.
use Rattle.record_words.proofs.Common.{◌≡◌, ◌+◌, Some, ap, arith, length-set, set, subst, sym, rules, ◌∙◌, NodeView}
use Rattle.record_words.specs.Entry.{HasEntryWord}
use Rattle.record_words.specs.Node.{CanCloseAt, SpellLeft, node_words}
use Rattle.record_words.proofs.node.Closed.{changed, changed_has, changed_spells, closed_piece, place_inside}
use Rattle.record_words.proofs.node.close_fork.Goals as goal
use Rattle.record_words.proofs.node.close_fork.Goals.{After-pack_entry}

pub bounds-words-other : goal.bounds-words-other
bounds-words-other c = let (node, can) = c.requires in omega (arith, place_inside c.args.words.now node c.args.slot c.args.other c.args.entry can, can.has.lawful.room)

-- any entry of the code has a word
word : (c : After-pack_entry) (node : NodeView) → CanCloseAt c.args.words.now node c.args.slot c.args.other c.args.entry → HasEntryWord (Some c.args.entry)
word c node can = search rules

spelled : (c : After-pack_entry) (node : NodeView) (can : CanCloseAt c.args.words.now node c.args.slot c.args.other c.args.entry) →
    node_words (changed node c.args.other c.args.entry can.has (place_inside c.args.words.now node c.args.slot c.args.other c.args.entry can) can.stands (word c node can)) ≡ set c.args.words.now (25 + c.args.other) c.pack_entry.result
spelled c node can =
    changed_spells node c.args.other c.args.entry can.has (place_inside c.args.words.now node c.args.slot c.args.other c.args.entry can) can.stands (word c node can) c.args.words.now can.spells
    ∙ ap (set c.args.words.now (25 + c.args.other)) (sym c.pack_entry.ensures)

pub drop_entry-requires : goal.drop_entry-requires
drop_entry-requires c =
    let (node, can) = c.requires in
    let d = (goal.at.drop_entry-requires c).After-pack_entry in
    let inside = place_inside c.args.words.now node c.args.slot c.args.other c.args.entry can in (
      changed node c.args.other c.args.entry can.has inside can.stands (word d node can),
      changed_has node c.args.other c.args.entry can.has inside can.stands (word d node can),
      spelled d node can,
      omega (arith, can.in_range, length-set node.entries c.args.other c.args.entry),
    )

pub returns : goal.returns
returns c = λ node can.
    let d = (goal.at.returns c).After-pack_entry in
    let inside = place_inside c.args.words.now node c.args.slot c.args.other c.args.entry can in
    let after = changed node c.args.other c.args.entry can.has inside can.stands (word d node can) in
    subst (SpellLeft c.drop_entry.new.words c.drop_entry.result) (closed_piece c.args.words.now node c.args.slot c.args.other c.args.entry can (word d node can))
    (c.drop_entry.ensures after (changed_has node c.args.other c.args.entry can.has inside can.stands (word d node can)) (spelled d node can))
