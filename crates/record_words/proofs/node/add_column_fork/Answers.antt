-- The columns and the rows with one more give the words.
use Rattle.record_words.proofs.Common.{List, ℕ, ◌≡◌, ◌+◌, ◌≤◌, ◌∙◌, ap, arith, get_or, get_or-take, length, subst, sym, take, same_count, IsLawfulNode, NodeView, head_of, holds_front, front_below-le, IsColumns, with_free, front_below, has, with_position}
use Rattle.record_words.specs.HeadParts.{AreNumbersOf}
use Rattle.record_words.specs.Node.{CanGrowAt, head_words}
use Rattle.record_words.specs.declared.numbers.HeadNumbers.{HeadNumbers}
use Rattle.record_words.proofs.node.Forking.{has_column_fork, in_range, more_are_columns, ordered, room, room_for_one}
use Rattle.record_words.proofs.Nodes.{head_part}
use Rattle.record_words.proofs.Reading.{columns_in_front}
use Rattle.record_words.proofs.node.add_column_fork.Goals as goal

module _ {words : List ℕ} {position first last : ℕ} (numbers : HeadNumbers) (tells : (node : NodeView) → IsLawfulNode node → get_or (head_words (head_of node)) 0 0 ≡ get_or words 0 0 → AreNumbersOf numbers node)
    (node : NodeView) (g : CanGrowAt words node position first last) where
  told : AreNumbersOf numbers node
  told = tells node g.has.lawful (ap (λ ws. get_or ws 0 0) (head_part node words g.spells) ∙ get_or-take 25 words 0 0 (omega arith))

  columns_are : (positions columns : List ℕ) → positions ≡ with_free node.columns → columns ≡ take numbers.columns positions → columns ≡ node.columns
  columns_are positions columns are front = front ∙ columns_in_front node.columns _ _ are told.columns_are

  place : (below : ℕ) (columns : List ℕ) → columns ≡ node.columns → below ≡ front_below position columns → below ≡ front_below position node.columns
  place below columns are is = is ∙ ap (front_below position) are

  few_below : (below : ℕ) → below ≡ front_below position node.columns → below ≤ 31
  few_below below is = omega (arith, is, front_below-le position node.columns, g.has.lawful.positions.few)

pub from_padded-columns-requires : goal.from_padded-columns-requires
from_padded-columns-requires c =
    let (node, g) = c.requires.growing in
    holds_front node.columns _ _ g.has.lawful.positions (told c.read_numbers-numbers.result c.read_numbers-numbers.ensures.node node g).columns_are
    (c.read_positions-positions.ensures node g.has.lawful (head_part node c.args.words.now g.spells))

pub add_position-below-requires-clause-room : goal.add_position-below-requires-clause-room
add_position-below-requires-clause-room c =
    let (node, g) = c.requires.growing in
    let are = columns_are c.read_numbers-numbers.result c.read_numbers-numbers.ensures.node node g c.read_positions-positions.result c.from_padded-columns.result
    (c.read_positions-positions.ensures node g.has.lawful (head_part node c.args.words.now g.spells)) c.from_padded-columns.ensures in
    omega (arith, ap length are, room_for_one g c.requires.below c.args.bit (c.requires.new node g))

pub add_position-below-requires-clause-new : goal.add_position-below-requires-clause-new
add_position-below-requires-clause-new c =
    let (node, g) = c.requires.growing in
    let are = columns_are c.read_numbers-numbers.result c.read_numbers-numbers.ensures.node node g c.read_positions-positions.result c.from_padded-columns.result
    (c.read_positions-positions.ensures node g.has.lawful (head_part node c.args.words.now g.spells)) c.from_padded-columns.ensures in
    ap (λ cs. has cs c.args.position) are ∙ c.requires.new node g

pub spread_lanes-spread-requires : goal.spread_lanes-spread-requires
spread_lanes-spread-requires c =
    let (node, g) = c.requires.growing in
    few_below c.read_numbers-numbers.result c.read_numbers-numbers.ensures.node node g c.add_position-below.result
    (place c.read_numbers-numbers.result c.read_numbers-numbers.ensures.node node g c.add_position-below.result c.from_padded-columns.result
    (columns_are c.read_numbers-numbers.result c.read_numbers-numbers.ensures.node node g c.read_positions-positions.result c.from_padded-columns.result (c.read_positions-positions.ensures node g.has.lawful (head_part node c.args.words.now g.spells)) c.from_padded-columns.ensures)
    c.add_position-below.ensures.index)

pub fork_rows-rows-requires-clause-range : goal.fork_rows-rows-requires-clause-range
fork_rows-rows-requires-clause-range c = let (node, g) = c.requires.growing in ordered g c.requires.below c.args.bit

pub fork_rows-rows-requires-clause-in_range : goal.fork_rows-rows-requires-clause-in_range
fork_rows-rows-requires-clause-in_range c = let (node, g) = c.requires.growing in omega (arith, in_range g c.requires.below c.args.bit, room g c.requires.below)

pub overflow_sub-below : goal.overflow_sub-below
overflow_sub-below c =
    let (node, g) = c.requires.growing in
    few_below c.read_numbers-numbers.result c.read_numbers-numbers.ensures.node node g c.add_position-below.result
    (place c.read_numbers-numbers.result c.read_numbers-numbers.ensures.node node g c.add_position-below.result c.from_padded-columns.result
    (columns_are c.read_numbers-numbers.result c.read_numbers-numbers.ensures.node node g c.read_positions-positions.result c.from_padded-columns.result (c.read_positions-positions.ensures node g.has.lawful (head_part node c.args.words.now g.spells)) c.from_padded-columns.ensures)
    c.add_position-below.ensures.index)

pub overflow_add-numbers : goal.overflow_add-numbers
overflow_add-numbers c =
    let (node, g) = c.requires.growing in
    let told = told c.read_numbers-numbers.result c.read_numbers-numbers.ensures.node node g in
    omega (arith, told.count_is, same_count node g.has.lawful, room g c.requires.below)

pub put_parts-requires : goal.put_parts-requires
put_parts-requires c =
    let (node, g) = c.requires.growing in
    let are = columns_are c.read_numbers-numbers.result c.read_numbers-numbers.ensures.node node g c.read_positions-positions.result c.from_padded-columns.result
    (c.read_positions-positions.ensures node g.has.lawful (head_part node c.args.words.now g.spells)) c.from_padded-columns.ensures in
    subst IsColumns (sym (c.add_position-below.ensures.columns ∙ ap (with_position c.args.position) are)) (more_are_columns g c.requires.below c.args.bit (c.requires.new node g))

pub returns : goal.returns
returns c = λ node g.
    let numbers = told c.read_numbers-numbers.result c.read_numbers-numbers.ensures.node node g in
    let same = head_part node c.args.words.now g.spells in
    let off = c.requires.new node g in
    let are = columns_are c.read_numbers-numbers.result c.read_numbers-numbers.ensures.node node g c.read_positions-positions.result c.from_padded-columns.result
    (c.read_positions-positions.ensures node g.has.lawful same) c.from_padded-columns.ensures in
    let below = place c.read_numbers-numbers.result c.read_numbers-numbers.ensures.node node g c.add_position-below.result c.from_padded-columns.result are c.add_position-below.ensures.index in
    let counted : c.read_numbers-numbers.result.count ≡ length node.rows = numbers.count_is ∙ sym (same_count node g.has.lawful) in
    let e = c.with_unused_from-rows.ensures in
    has_column_fork g c.requires.below c.args.bit off c.add_position-below.result c.rows_in.result c.with_unused_from-rows.result c.fork_rows-rows.result
    (few_below c.read_numbers-numbers.result c.read_numbers-numbers.ensures.node node g c.add_position-below.result below) below (c.rows_in.ensures node g.has.lawful same)
    c.spread_lanes-spread.result c.read_numbers-numbers.result.count c.spread_lanes-spread.ensures counted e.whole e.used e.unused c.fork_rows-rows.ensures
    c.add_position-below.new.self c.put_parts.new.words (c.read_numbers-numbers.result.count + 1) (c.add_position-below.ensures.columns ∙ ap (with_position c.args.position) are)
    (ap (λ n. n + 1) counted) c.put_parts.ensures
