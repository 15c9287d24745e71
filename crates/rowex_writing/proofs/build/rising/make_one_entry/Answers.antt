-- An entry is its own; a fork gets a node.
use Rattle.rowex_writing.proofs.Common.{◌∷◌, arith, HasNodeWords, made_of_node}
use Rattle.rowex_writing.specs.build.Building.{IsBuilding, HasNotMade}
use Rattle.rowex_writing.proofs.build.rising.Rising.{risen_fork_is_pair, settled, settled_whole, split_height, whole_height}
use Rattle.rowex_writing.proofs.build.Walks.{makes_none}
use Rattle.rowex_writing.proofs.build.rising.make_one_entry.Goals as goal

pub pair-node-requires-clause-below : goal.pair-node-requires-clause-below
pair-node-requires-clause-below g c =
    let (number, b) = c.requires.risen in
    let h = (risen_fork_is_pair c.args.table.now c.args.seat.now c.args.build.now.made.items number c.in-Split.position c.in-Split.zero c.in-Split.one c.args.risen c.in-Split.is b).position in omega arith

pub pair-node-requires-clause-zero : goal.pair-node-requires-clause-zero
pair-node-requires-clause-zero g c =
    let (number, b) = c.requires.risen in
    (risen_fork_is_pair c.args.table.now c.args.seat.now c.args.build.now.made.items number c.in-Split.position c.in-Split.zero c.in-Split.one c.args.risen c.in-Split.is b).zero

pub pair-node-requires-clause-one : goal.pair-node-requires-clause-one
pair-node-requires-clause-one g c =
    let (number, b) = c.requires.risen in
    (risen_fork_is_pair c.args.table.now c.args.seat.now c.args.build.now.made.items number c.in-Split.position c.in-Split.zero c.in-Split.one c.args.risen c.in-Split.is b).one

pub returns-in-Whole-clause-made : goal.returns-in-Whole-clause-made
returns-in-Whole-clause-made g c = λ number b. settled_whole c.args.table.now c.args.seat.now c.args.build.now.made.items number c.in-Whole.entry c.args.risen c.in-Whole.is b

pub returns-in-Split-clause-made : goal.returns-in-Split-clause-made
returns-in-Split-clause-made g c = λ number b.
    settled c.args.table.now g.G.Gate.becomes (c.args.seat.now, c.args.gate.now) (c.make_node.new.seat, c.make_node.new.gate) c.args.build.now.made.items c.make_node.new.build.made.items number c.in-Split.position c.in-Split.zero c.in-Split.one c.args.risen c.in-Split.is
    b c.pair-node.result c.pair-node.ensures c.make_node.ensures.makes.goes c.make_node.result (c.make_node.ensures.made b.raising.news b.raising.building)

pub returns-in-Whole-clause-low : goal.returns-in-Whole-clause-low
returns-in-Whole-clause-low g c = λ h low. whole_height h c.in-Whole.entry c.args.risen c.in-Whole.is low

pub returns-in-Split-clause-low : goal.returns-in-Split-clause-low
returns-in-Split-clause-low g c = λ h low.
    let (number, b) = c.requires.risen in
    split_height h c.in-Split.position c.in-Split.zero c.in-Split.one c.args.risen c.pair-node.result (HasNotMade c.args.table.now c.make_node.new.seat c.make_node.new.build.made.items)
    (HasNodeWords c.pair-node.result) (λ m. IsBuilding c.args.table.now c.make_node.new.seat c.make_node.new.build.made.items (made_of_node m c.pair-node.result ∷ b.raising.news)) c.make_node.result c.in-Split.is low c.pair-node.ensures (c.make_node.ensures.made b.raising.news b.raising.building)

pub returns-in-Whole-clause-makes : goal.returns-in-Whole-clause-makes
returns-in-Whole-clause-makes g c = makes_none ((c.args.seat.now, c.args.gate.now), c.args.build.now)
