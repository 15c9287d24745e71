-- What is left is a side: the entry alone, or a node whose words are those of a new record.
use Rattle.rowex_writing.proofs.Common.{◌∙◌, [], sym, one}
use Rattle.rowex_writing.proofs.locks.Going.{goes_more, words_shown}
use Rattle.rowex_writing.proofs.build.Building.{building_on}
use Rattle.rowex_writing.proofs.merging.Merging.{can_close, closed_height, closed_over, closed_shown, entry_height}
use Rattle.rowex_writing.proofs.merging.raise_closed_fork.Goals as goal

pub close_fork-requires : goal.close_fork-requires
close_fork-requires g c =
    let (view, is) = c.load_locked_node_words.ensures.node in
    let (key, closes) = c.requires.closes in
    let (words, h) = c.requires.locked in
    (view, can_close c.args.seat.now.known key c.args.fork closes words h view (words_shown c.args.seat.now.known c.args.fork.step.number c.load_locked_node_words.ensures.words view is words h) c.load_locked_node_words.new.words is.spells)

pub returns-in-Some-clause-made : goal.returns-in-Some-clause-made
returns-in-Some-clause-made g c = λ key words news closes h b.
    let (view, is) = c.load_locked_node_words.ensures.node in
    let shown = words_shown c.args.seat.now.known c.args.fork.step.number c.load_locked_node_words.ensures.words view is words h in
    let left = c.in-Some.ensures view (can_close c.args.seat.now.known key c.args.fork closes words h view shown c.load_locked_node_words.new.words is.spells) in (
      [],
      one c.in-Some.entry (sym (closed_shown c.args.seat.now.known key c.args.fork closes words h view shown) ∙ left.0),
      building_on c.args.table.now g.G.Gate.becomes (c.args.seat.now, c.args.gate.now) (c.load_locked_node_words.new.seat, c.load_locked_node_words.new.gate) c.args.build.now.made.items news c.load_locked_node_words.ensures.reads.goes c.load_locked_node_words.ensures.reads.own b,
    )

pub returns-in-Some-clause-height : goal.returns-in-Some-clause-height
returns-in-Some-clause-height g c =
    let (view, is) = c.load_locked_node_words.ensures.node in
    let (key, closes) = c.requires.closes in
    let (words, h) = c.requires.locked in
    let shown = words_shown c.args.seat.now.known c.args.fork.step.number c.load_locked_node_words.ensures.words view is words h in
    entry_height c.in-Some.entry (c.in-Some.ensures view (can_close c.args.seat.now.known key c.args.fork closes words h view shown c.load_locked_node_words.new.words is.spells)).1

pub make_node_from_words-requires-clause-building : goal.make_node_from_words-requires-clause-building
make_node_from_words-requires-clause-building g c =
    let (news, b) = c.requires.building in
    (news, building_on c.args.table.now g.G.Gate.becomes (c.args.seat.now, c.args.gate.now) (c.load_locked_node_words.new.seat, c.load_locked_node_words.new.gate) c.args.build.now.made.items news c.load_locked_node_words.ensures.reads.goes c.load_locked_node_words.ensures.reads.own b)

pub make_node_from_words-requires-clause-spelling : goal.make_node_from_words-requires-clause-spelling
make_node_from_words-requires-clause-spelling g c =
    let (view, is) = c.load_locked_node_words.ensures.node in
    let (key, closes) = c.requires.closes in
    let (words, h) = c.requires.locked in
    let shown = words_shown c.args.seat.now.known c.args.fork.step.number c.load_locked_node_words.ensures.words view is words h in
    let built = c.in_default.ensures view (can_close c.args.seat.now.known key c.args.fork closes words h view shown c.load_locked_node_words.new.words is.spells) in
    (built.node, built.has, built.spells)

pub returns-clause-goes : goal.returns-clause-goes
returns-clause-goes g c = goes_more c.args.table.now g.G.Gate.becomes (c.args.seat.now, c.args.gate.now) (c.load_locked_node_words.new.seat, c.load_locked_node_words.new.gate) (c.make_node_from_words.new.seat, c.make_node_from_words.new.gate) c.load_locked_node_words.ensures.reads.goes c.make_node_from_words.ensures.makes.goes

pub returns-clause-made : goal.returns-clause-made
returns-clause-made g c = λ key words news closes h b.
    let (view, is) = c.load_locked_node_words.ensures.node in
    let shown = words_shown c.args.seat.now.known c.args.fork.step.number c.load_locked_node_words.ensures.words view is words h in
    let built = c.in_default.ensures view (can_close c.args.seat.now.known key c.args.fork closes words h view shown c.load_locked_node_words.new.words is.spells) in
    let now = building_on c.args.table.now g.G.Gate.becomes (c.args.seat.now, c.args.gate.now) (c.load_locked_node_words.new.seat, c.load_locked_node_words.new.gate) c.args.build.now.made.items news c.load_locked_node_words.ensures.reads.goes c.load_locked_node_words.ensures.reads.own b in
    closed_over c.args.table.now c.make_node_from_words.new.seat c.make_node_from_words.new.build.made.items news built.node _ _ c.make_node_from_words.result (closed_shown c.args.seat.now.known key c.args.fork closes words h view shown) built.built built.has
    (c.make_node_from_words.ensures.made news built.node built.has built.spells now)

pub returns-clause-height : goal.returns-clause-height
returns-clause-height g c =
    let (view, is) = c.load_locked_node_words.ensures.node in
    let (key, closes) = c.requires.closes in
    let (words, h) = c.requires.locked in
    let (news, b) = c.requires.building in
    let shown = words_shown c.args.seat.now.known c.args.fork.step.number c.load_locked_node_words.ensures.words view is words h in
    let built = c.in_default.ensures view (can_close c.args.seat.now.known key c.args.fork closes words h view shown c.load_locked_node_words.new.words is.spells) in
    let now = building_on c.args.table.now g.G.Gate.becomes (c.args.seat.now, c.args.gate.now) (c.load_locked_node_words.new.seat, c.load_locked_node_words.new.gate) c.args.build.now.made.items news c.load_locked_node_words.ensures.reads.goes c.load_locked_node_words.ensures.reads.own b in
    closed_height built.node _ c.make_node_from_words.result _ (λ m. _) built.built (c.make_node_from_words.ensures.made news built.node built.has built.spells now)
