-- The head and the entries with the fork make a node, built from the piece with it.
use Rattle.compound_node.proofs.Common.{ap, arith, length, subst, sym, ◌+◌, ◌-◌, ◌<◌, ◌∙◌, ◌≡◌, All, edited, forked_places, grown}
use Rattle.compound_node.proofs.Forking.{NewFork, new_fork}
use Rattle.compound_node.proofs.Lawful.{same_count}
use Rattle.compound_node.specs.Nodes.{IsBuiltFrom, IsEntry, NodeView, greatest_height, node_of, piece}
use Rattle.compound_node.proofs.nodes.Node.add_entry.Goals as goal
use Rattle.compound_node.proofs.nodes.Node.add_entry.Goals.{After-add_fork, After-add_fork-arg-1, After-height, After-insert_entry_beside-arg-1}

pub insert_entry_beside-requires-clause-range : goal.insert_entry_beside-requires-clause-range
insert_entry_beside-requires-clause-range c =
    (new_fork (node_of c.self.inside.head c.self.inside.entries.items) c.self.invariant c.args.self.now c.self.view_is c.args.position c.args.first c.args.last c.args.bit c.args.entry c.requires.range c.requires.room c.requires.below c.requires.entry).ordered

pub insert_entry_beside-requires-clause-in_range : goal.insert_entry_beside-requires-clause-in_range
insert_entry_beside-requires-clause-in_range c =
    (new_fork (node_of c.self.inside.head c.self.inside.entries.items) c.self.invariant c.args.self.now c.self.view_is c.args.position c.args.first c.args.last c.args.bit c.args.entry c.requires.range c.requires.room c.requires.below c.requires.entry).in_range

pub height_with_added_entry-height-requires-clause-children : goal.height_with_added_entry-height-requires-clause-children
height_with_added_entry-height-requires-clause-children c = subst (All IsEntry) (sym (c.as_slice.ensures.value ∙ c.insert_entry_beside.ensures))
    (new_fork (node_of c.self.inside.head c.self.inside.entries.items) c.self.invariant c.args.self.now c.self.view_is c.args.position c.args.first c.args.last c.args.bit c.args.entry c.requires.range c.requires.room c.requires.below c.requires.entry).children

pub height_with_added_entry-height-requires-clause-leaves : goal.height_with_added_entry-height-requires-clause-leaves
height_with_added_entry-height-requires-clause-leaves c = λ one. ap greatest_height (c.as_slice.ensures.value ∙ c.insert_entry_beside.ensures)
    ∙ (new_fork (node_of c.self.inside.head c.self.inside.entries.items) c.self.invariant c.args.self.now c.self.view_is c.args.position c.args.first c.args.last c.args.bit c.args.entry c.requires.range c.requires.room c.requires.below c.requires.entry).greatest
    (sym c.height.ensures ∙ one)

-- the fork, where the height is known
fork : (c : After-add_fork-arg-1) → NewFork (node_of c.self.inside.head c.self.inside.entries.items) c.args.position c.args.first c.args.last c.args.bit c.args.entry
fork c = new_fork (node_of c.self.inside.head c.self.inside.entries.items) c.self.invariant c.args.self.now c.self.view_is c.args.position c.args.first c.args.last c.args.bit c.args.entry c.requires.range c.requires.room c.requires.below c.requires.entry

height_is : (c : After-add_fork-arg-1) → c.height_with_added_entry-height.result ≡ 1 + greatest_height (edited c.args.first (c.args.last + 1 - c.args.first) (forked_places c.args.bit c.args.entry) c.self.inside.entries.items)
height_is c = c.height_with_added_entry-height.ensures ∙ ap (λ es. 1 + greatest_height es) (c.as_slice.ensures.value ∙ c.insert_entry_beside.ensures)

pub add_fork-requires-clause-room : goal.add_fork-requires-clause-room
add_fork-requires-clause-room c =
    let room : length c.self.inside.entries.items < 32 = subst (λ (v : NodeView). length v.entries < 32) (sym c.self.view_is) c.requires.room in
    omega (arith, room, same_count (node_of c.self.inside.head c.self.inside.entries.items) c.self.invariant)

pub add_fork-requires-clause-range : goal.add_fork-requires-clause-range
add_fork-requires-clause-range c = (fork c).ordered

pub add_fork-requires-clause-in_range : goal.add_fork-requires-clause-in_range
add_fork-requires-clause-in_range c = omega (arith, (fork c).in_range, same_count (node_of c.self.inside.head c.self.inside.entries.items) c.self.invariant)

pub add_fork-requires-clause-lawful : goal.add_fork-requires-clause-lawful
add_fork-requires-clause-lawful c = rw (height_is c) (fork c).leaves_fit

-- the node after
built : (c : After-add_fork) → IsBuiltFrom (node_of c.add_fork.new.self c.insert_entry_beside.new.entries.items) (grown c.args.position c.args.bit c.args.entry c.args.first (piece c.args.self.now))
built c =
    let fork : NewFork (node_of c.self.inside.head c.self.inside.entries.items) c.args.position c.args.first c.args.last c.args.bit c.args.entry =
    new_fork (node_of c.self.inside.head c.self.inside.entries.items) c.self.invariant c.args.self.now c.self.view_is c.args.position c.args.first c.args.last c.args.bit c.args.entry c.requires.range c.requires.room c.requires.below c.requires.entry in
    let height : c.height_with_added_entry-height.result ≡ 1 + greatest_height (edited c.args.first (c.args.last + 1 - c.args.first) (forked_places c.args.bit c.args.entry) c.self.inside.entries.items) =
    c.height_with_added_entry-height.ensures ∙ ap (λ es. 1 + greatest_height es) (c.as_slice.ensures.value ∙ c.insert_entry_beside.ensures) in
    rw (c.add_fork.ensures, height, c.insert_entry_beside.ensures, ← c.self.view_is) fork.built

pub invariant_of-self : goal.invariant_of-self
invariant_of-self c = (built c).lawful

pub returns : goal.returns
returns c = built c
