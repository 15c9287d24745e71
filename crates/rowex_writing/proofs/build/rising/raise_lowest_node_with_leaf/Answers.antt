-- The lowest node gets the leaf.
use Rattle.rowex_writing.proofs.Common.{[], ◌∷◌, refl, arith, Node, made_of_leaf}
use Rattle.rowex_writing.specs.build.Building.{IsBuilding}
use Rattle.rowex_writing.proofs.locks.Going.{words_shown}
use Rattle.rowex_writing.proofs.build.rising.Rising.{low_building, low_takes, lowest_made, leaf_level}
use Rattle.rowex_writing.proofs.build.Walks.{makes_after}
use Rattle.rowex_writing.proofs.build.rising.raise_lowest_node_with_leaf.Goals as goal

pub remake_node_with_leaf-requires-clause-takes : goal.remake_node_with_leaf-requires-clause-takes
remake_node_with_leaf-requires-clause-takes g c =
    let (view, is) = c.load_locked_node_words.ensures.node in
    (view, low_takes _ _ c.load_locked_node_words.ensures.reads c.requires.lowest (words_shown c.args.seat.now.known c.args.number c.load_locked_node_words.ensures.words view is) is)

pub remake_node_with_leaf-requires-clause-building : goal.remake_node_with_leaf-requires-clause-building
remake_node_with_leaf-requires-clause-building g c =
    let (view, is) = c.load_locked_node_words.ensures.node in
    (made_of_leaf c.requires.lowest.item c.requires.lowest.made_leaf.fresh ∷ [], low_building _ _ c.load_locked_node_words.ensures.reads c.requires.lowest (words_shown c.args.seat.now.known c.args.number c.load_locked_node_words.ensures.words view is))

pub returns-clause-made : goal.returns-clause-made
returns-clause-made g c = λ b.
    let (view, is) = c.load_locked_node_words.ensures.node in
    let shown = words_shown c.args.seat.now.known c.args.number c.load_locked_node_words.ensures.words view is in
    lowest_made _ _ c.load_locked_node_words.ensures.reads b shown (c.remake_node_with_leaf.new.seat, c.remake_node_with_leaf.new.gate) c.remake_node_with_leaf.new.build.made.items view.height refl c.remake_node_with_leaf.result c.remake_node_with_leaf.ensures.makes.goes
    (c.remake_node_with_leaf.ensures.made (made_of_leaf b.item b.made_leaf.fresh ∷ []) view (low_takes _ _ c.load_locked_node_words.ensures.reads b shown is) (low_building _ _ c.load_locked_node_words.ensures.reads b shown))

pub returns-clause-level : goal.returns-clause-level
returns-clause-level g c = λ words h.
    let b = c.requires.lowest in
    let (view, is) = c.load_locked_node_words.ensures.node in
    let shown = words_shown c.args.seat.now.known c.args.number c.load_locked_node_words.ensures.words view is in
    leaf_level words view (Node c.args.number view.height) c.args.new.now c.remake_node_with_leaf.result _ (made_of_leaf b.item b.made_leaf.fresh ∷ []) (IsBuilding c.args.table.now c.remake_node_with_leaf.new.seat c.remake_node_with_leaf.new.build.made.items)
    (shown words h) refl (c.remake_node_with_leaf.ensures.made (made_of_leaf b.item b.made_leaf.fresh ∷ []) view (low_takes _ _ c.load_locked_node_words.ensures.reads b shown is) (low_building _ _ c.load_locked_node_words.ensures.reads b shown))

pub returns-clause-makes : goal.returns-clause-makes
returns-clause-makes g c = makes_after _ c.load_locked_node_words.ensures.reads.goes c.load_locked_node_words.ensures.few c.remake_node_with_leaf.ensures.makes (omega arith) (omega arith)
