-- The node above gets the fork: a full node gives its two sides, and another is stored anew with the fork in it.
use Rattle.rowex_writing.proofs.Common.{◌≡◌, ◌<◌, ◌∷◌, Some, ap, arith, false, length, refl, true, height_of, Node, Single, Two, Whole, made_of_node}
use Rattle.rowex_writing.specs.build.Building.{IsBuilding}
use Rattle.rowex_writing.proofs.build.rising.Rising.{lift_tree, lift_zero, lift_one, lift_building, lifted, fork_level}
use Rattle.rowex_writing.proofs.build.Walks.{makes_after, makes_as, makes_failed}
use Rattle.rowex_writing.proofs.build.rising.raise_node_with_fork.Goals as goal

pub cut_with_fork-cut-requires-clause-tree : goal.cut_with_fork-cut-requires-clause-tree
cut_with_fork-cut-requires-clause-tree g c = lift_tree _ _ c.read_locked_node-node.ensures.reads c.requires.below c.read_locked_node-node.ensures.node

pub cut_with_fork-cut-requires-clause-zero : goal.cut_with_fork-cut-requires-clause-zero
cut_with_fork-cut-requires-clause-zero g c = lift_zero _ _ c.read_locked_node-node.ensures.reads c.requires.below c.read_locked_node-node.ensures.node

pub cut_with_fork-cut-requires-clause-one : goal.cut_with_fork-cut-requires-clause-one
cut_with_fork-cut-requires-clause-one g c = lift_one _ _ c.read_locked_node-node.ensures.reads c.requires.below c.read_locked_node-node.ensures.node

pub make_fork_of_cut-requires-clause-building : goal.make_fork_of_cut-requires-clause-building
make_fork_of_cut-requires-clause-building g c = (c.requires.below.here.raising.news, lift_building _ _ c.read_locked_node-node.ensures.reads c.requires.below c.read_locked_node-node.ensures.node)

pub add_fork-requires-clause-tree : goal.add_fork-requires-clause-tree
add_fork-requires-clause-tree g c = lift_tree _ _ c.read_locked_node-node.ensures.reads c.requires.below c.read_locked_node-node.ensures.node

pub add_fork-requires-clause-zero : goal.add_fork-requires-clause-zero
add_fork-requires-clause-zero g c = lift_zero _ _ c.read_locked_node-node.ensures.reads c.requires.below c.read_locked_node-node.ensures.node

pub add_fork-requires-clause-one : goal.add_fork-requires-clause-one
add_fork-requires-clause-one g c = lift_one _ _ c.read_locked_node-node.ensures.reads c.requires.below c.read_locked_node-node.ensures.node

pub make_node-requires-clause-building : goal.make_node-requires-clause-building
make_node-requires-clause-building g c = (c.requires.below.here.raising.news, lift_building _ _ c.read_locked_node-node.ensures.reads c.requires.below c.read_locked_node-node.ensures.node)

pub returns-then-count-eq-MAX_ENTRIES-clause-made : goal.returns-then-count-eq-MAX_ENTRIES-clause-made
returns-then-count-eq-MAX_ENTRIES-clause-made g c = λ b.
    lifted _ _ c.read_locked_node-node.ensures.reads b c.read_locked_node-node.ensures.node (c.make_fork_of_cut.new.seat, c.make_fork_of_cut.new.gate) c.make_fork_of_cut.new.build.made.items c.node_entry-old.result (Two c.cut_with_fork-cut.result) c.make_fork_of_cut.result
    c.cut_with_fork-cut.ensures.shows c.cut_with_fork-cut.ensures.same c.make_fork_of_cut.ensures.makes.goes
    (c.make_fork_of_cut.ensures.made b.here.raising.news (lift_building _ _ c.read_locked_node-node.ensures.reads b c.read_locked_node-node.ensures.node))

pub returns-then-count-eq-MAX_ENTRIES-clause-level : goal.returns-then-count-eq-MAX_ENTRIES-clause-level
returns-then-count-eq-MAX_ENTRIES-clause-level g c = λ words h.
    let b = c.requires.below in
    let e = c.cut_with_fork-cut.ensures in
    fork_level words c.read_locked_node-node.result c.node_entry-old.result (Two c.cut_with_fork-cut.result) c.make_fork_of_cut.result _ b.here.raising.news (IsBuilding c.args.table.now c.make_fork_of_cut.new.seat c.make_fork_of_cut.new.build.made.items)
    (c.read_locked_node-node.ensures.node words h) (ap height_of c.node_entry-old.ensures) e.low
    (λ t. absurd (let z : false ≡ true = t in cc), λ room. absurd (omega (arith, c.if-count-eq-MAX_ENTRIES.true, c.count.ensures.count, room)))
    (c.make_fork_of_cut.ensures.made b.here.raising.news (lift_building _ _ c.read_locked_node-node.ensures.reads b c.read_locked_node-node.ensures.node))

pub returns-clause-made : goal.returns-clause-made
returns-clause-made g c = λ b.
    let (m, is, has, building) = c.in_ok-entry.ensures.made b.here.raising.news (lift_building _ _ c.read_locked_node-node.ensures.reads b c.read_locked_node-node.ensures.node) in
    lifted _ _ c.read_locked_node-node.ensures.reads b c.read_locked_node-node.ensures.node (c.make_node.new.seat, c.make_node.new.gate) c.make_node.new.build.made.items c.in_ok-entry.entry (Single c.add_fork.new.node) (Some (Whole c.in_ok-entry.entry))
    c.add_fork.ensures.shows refl c.in_ok-entry.ensures.makes.goes
    (made_of_node m c.add_fork.new.node ∷ b.here.raising.news, (m, is, refl, has), building)

pub returns-clause-level : goal.returns-clause-level
returns-clause-level g c = λ words h.
    let b = c.requires.below in
    let (m, is, has, building) = c.in_ok-entry.ensures.made b.here.raising.news (lift_building _ _ c.read_locked_node-node.ensures.reads b c.read_locked_node-node.ensures.node) in
    let room : length c.read_locked_node-node.result.entries < 32 = omega (arith, c.if-count-eq-MAX_ENTRIES.false, c.count.ensures.count, c.count.ensures.lawful.room) in
    fork_level words c.read_locked_node-node.result (Node c.args.number c.read_locked_node-node.result.height) (Single c.add_fork.new.node) (Some (Whole c.in_ok-entry.entry)) (Unit {0}) b.here.raising.news (IsBuilding c.args.table.now c.make_node.new.seat c.make_node.new.build.made.items)
    (c.read_locked_node-node.ensures.node words h) refl c.add_fork.ensures.low (λ t. room, λ t. refl)
    (made_of_node m c.add_fork.new.node ∷ b.here.raising.news, (m, is, refl, has), building)

pub returns-in_err-entry-clause-made : goal.returns-in_err-entry-clause-made
returns-in_err-entry-clause-made g c = λ b. rw c.from_residual.ensures (c.in_err-entry.ensures.made b.here.raising.news (lift_building _ _ c.read_locked_node-node.ensures.reads b c.read_locked_node-node.ensures.node))

pub returns-then-count-eq-MAX_ENTRIES-clause-makes : goal.returns-then-count-eq-MAX_ENTRIES-clause-makes
returns-then-count-eq-MAX_ENTRIES-clause-makes g c = makes_after _ c.read_locked_node-node.ensures.reads.goes c.read_locked_node-node.ensures.few c.make_fork_of_cut.ensures.makes (omega arith) (omega arith)

pub returns-in_err-entry-clause-makes : goal.returns-in_err-entry-clause-makes
returns-in_err-entry-clause-makes g c = rw c.from_residual.ensures (makes_after _ c.read_locked_node-node.ensures.reads.goes c.read_locked_node-node.ensures.few (makes_failed c.in_err-entry.ensures.makes) (omega arith) (omega arith))

pub returns-clause-makes : goal.returns-clause-makes
returns-clause-makes g c = makes_after _ c.read_locked_node-node.ensures.reads.goes c.read_locked_node-node.ensures.few (makes_as c.in_ok-entry.ensures.makes) (omega arith) (omega arith)
