-- Where the position is a column, the rows alone change.
use Rattle.record_words.proofs.Common.{◌≡◌, ◌≤◌, ◌∙◌, arith, get_or-set_other, get_or-set_same, length, rules, sym, true, inl, NodeView, front_below-le, front_below, has}
use Rattle.record_words.specs.Node.{CanGrowAt}
use Rattle.record_words.proofs.node.Forking.{column_found, column_lacks, few_numbers, front_is, has_fork, in_range, kind_told, ordered, room, some_before_rows}
use Rattle.record_words.proofs.Nodes.{head_part}
use Rattle.record_words.proofs.node.add_fork.Goals as goal
use Rattle.record_words.proofs.node.add_fork.Goals.{After-count_below}

place : (c : After-count_below) → (node : NodeView) → CanGrowAt c.args.words.now node c.args.position c.args.first c.args.last → c.count_below.result ≡ front_below c.args.position node.columns
place c node g = c.count_below.ensures ∙ front_is g c.requires.below c.positions_in-positions.result (c.positions_in-positions.ensures node g.has.lawful (head_part node c.args.words.now g.spells))

few : (c : After-count_below) → c.count_below.result ≤ 31
few c = let (node, g) = c.requires.growing in omega (arith, place c node g, front_below-le c.args.position node.columns, g.has.lawful.positions.few)

pub add_column_fork-requires-clause-new : goal.add_column_fork-requires-clause-new
add_column_fork-requires-clause-new c = λ node g.
    column_lacks g c.requires.below c.positions_in-positions.result (c.positions_in-positions.ensures node g.has.lawful (head_part node c.args.words.now g.spells)) (sym c.has_lane.ensures ∙ c.if-not-has_lane.true)

pub overflow_sub-weight : goal.overflow_sub-weight
overflow_sub-weight c = few (goal.at.overflow_sub-weight c).After-count_below

pub fork_rows-rows-requires-clause-range : goal.fork_rows-rows-requires-clause-range
fork_rows-rows-requires-clause-range c = let (node, g) = c.requires.growing in ordered g c.requires.below c.args.bit

pub fork_rows-rows-requires-clause-in_range : goal.fork_rows-rows-requires-clause-in_range
fork_rows-rows-requires-clause-in_range c = let (node, g) = c.requires.growing in omega (arith, room g c.requires.below, in_range g c.requires.below c.args.bit)

pub overflow_add-words : goal.overflow_add-words
overflow_add-words c = let (node, g) = c.requires.growing in record { fits = few_numbers g c.requires.below }

pub returns : goal.returns
returns c = λ node g.
    let d = (goal.at.returns c).After-count_below in
    let words = c.args.words.now in
    let out = c.put_rows.new.words in
    let at = c.count_below.result in
    let long : length words ≡ 57 = search rules in
    let whole : length out ≡ 57 = search rules in
    let numbers = c.read_numbers-kind.result in
    let column : has node.columns c.args.position ≡ true =
    column_found g c.requires.below c.positions_in-positions.result (c.positions_in-positions.ensures node g.has.lawful (head_part node words g.spells)) (sym c.has_lane.ensures ∙ c.if-not-has_lane.false) in
    has_fork g c.requires.below c.args.bit column at c.rows_in-rows.result c.fork_rows-rows.result (few d) (place d node g)
    (c.rows_in-rows.ensures node g.has.lawful (head_part node words g.spells)) c.fork_rows-rows.ensures numbers.kind (c.read_numbers-kind.ensures.parts.3 ∙ kind_told g c.requires.below) out whole
    (c.put_rows.ensures.others 0 (inl (some_before_rows numbers.kind)) ∙ get_or-set_same words 0 _ 0 (omega (arith, long)))
    (λ k more outside. c.put_rows.ensures.others k outside ∙ get_or-set_other words 0 k _ 0 (λ e. omega (arith, e, more)))
    c.put_rows.ensures.rows
