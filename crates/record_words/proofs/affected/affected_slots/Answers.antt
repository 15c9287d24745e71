-- The rows that agree with one in the columns below a position stand side by side: they are counted from both sides.
use Rattle.record_words.proofs.Common.{◌≡◌, ◌∙◌, ◌+◌, ◌-◌, ◌*◌, ◌/◌, ◌^◌, ◌<◌, ◌≤◌, ℕ, ap, ap₂, arith, bit_and, bit_or, count_by, get_or, length, min, nat_lt, get_or_default, and_mask, pow_pos, shr_split, or_add_and, same_count, IsLawfulNode, NodeView, head_of, piece, with_unused, affected_count, affected_first, front_below}
use Rattle.std.proofs.lemmas.Nat.Bits.{and_high_mask, ones_shr}
use Rattle.record_words.specs.Node.{head_words}
use Rattle.record_words.proofs.affected.Affected.{affected_by_counts, columns_below, end_some, few_below, rows_in_front}
use Rattle.record_words.proofs.Lawful.{row-lt}
use Rattle.record_words.proofs.Reading.{count_read, its, lawful_its, same_its}
use Rattle.record_words.proofs.affected.affected_slots.Goals as goal
use Rattle.record_words.proofs.affected.affected_slots.Goals.{After-min-end}

-- the bounds of the run
module _ (c : After-min-end) (node : NodeView) (lawful : IsLawfulNode node) (same : head_words (head_of node) ≡ c.args.words.now) where
  abbrev n : ℕ
  n = c.count_below.result

  abbrev row : ℕ
  row = get_or node.rows c.args.slot 0

  below : n ≡ front_below c.args.position node.columns
  below = c.count_below.ensures ∙ columns_below node lawful c.args.position c.positions_in-positions.result c.ranges.position.fits (c.positions_in-positions.ensures node lawful same)

  few : n ≤ 31
  few = omega (arith, below, few_below node lawful c.args.position)

  here : c.args.slot < length node.entries
  here = c.requires.in_range node lawful same

  row_is : c.row_in-row.result ≡ row
  row_is = c.row_in-row.ensures node lawful same ∙ get_or_default node.rows c.args.slot 4294967295 0 (omega (arith, here, same_count node lawful))

  rest_is : (2 ^ 32 - 1) / 2 ^ n ≡ 2 ^ (32 - n) - 1
  rest_is = ones_shr 32 n (omega (arith, few))

  least_is : bit_and c.row_in-row.result (2 ^ 32 - 1 - (2 ^ 32 - 1) / 2 ^ n) ≡ row / 2 ^ (32 - n) * 2 ^ (32 - n)
  least_is =
      ap₂ bit_and row_is (let some = pow_pos (32 - n) in omega (arith, rest_is, some))
      ∙ and_high_mask 32 (32 - n) (omega arith) row (row-lt node lawful c.args.slot)

  most_is : bit_or c.row_in-row.result ((2 ^ 32 - 1) / 2 ^ n) + 1 ≡ row / 2 ^ (32 - n) * 2 ^ (32 - n) + 2 ^ (32 - n)
  most_is =
      let same_or : bit_or c.row_in-row.result ((2 ^ 32 - 1) / 2 ^ n) ≡ bit_or row (2 ^ (32 - n) - 1) = ap₂ bit_or row_is rest_is in
      let sums = or_add_and row (2 ^ (32 - n) - 1) in let masked = and_mask row (32 - n) in let parts = shr_split row (32 - n) in let some = pow_pos (32 - n) in
      omega (arith, same_or, sums, masked, parts, some)

  rows_are : c.rows_in-rows.result ≡ with_unused node.rows
  rows_are = c.rows_in-rows.ensures node lawful same

  first_is : c.count_rows_below-first.result ≡ front_below (row / 2 ^ (32 - n) * 2 ^ (32 - n)) (with_unused node.rows)
  first_is =
      c.count_rows_below-first.ensures ∙ (ap (λ b. count_by (λ x. nat_lt x b) c.rows_in-rows.result) least_is ∙ rows_in_front node lawful _ c.rows_in-rows.result rows_are)

  end_is : c.min-end.result ≡ min (front_below (row / 2 ^ (32 - n) * 2 ^ (32 - n) + 2 ^ (32 - n)) (with_unused node.rows)) (length node.rows)
  end_is =
      c.min-end.ensures ∙ ap₂ min
      (c.count_rows_upto.ensures ∙ (ap (λ b. count_by (λ x. nat_lt x b) c.rows_in-rows.result) most_is ∙ rows_in_front node lawful _ c.rows_in-rows.result rows_are))
      (c.read_numbers.ensures.parts.0 ∙ count_read node lawful c.args.words.now same)

  some : 1 ≤ c.min-end.result
  some = end_some node lawful c.args.position c.args.slot n c.count_rows_below-first.result c.min-end.result here below first_is end_is

  affected : (affected_first c.args.position c.args.slot (piece node) ≡ c.count_rows_below-first.result) × (affected_count c.args.position c.args.slot (piece node) + c.count_rows_below-first.result ≡ c.min-end.result - 1 + 1)
  affected = affected_by_counts node lawful c.args.position c.args.slot n c.count_rows_below-first.result c.min-end.result here below first_is end_is

pub overflow_shr-rest : goal.overflow_shr-rest
overflow_shr-rest c =
    let words = c.args.words.now in let given = c.requires.spelling in
    let node = its words given in let lawful = lawful_its words given in
    let below = c.count_below.ensures ∙ columns_below node lawful c.args.position c.positions_in-positions.result c.ranges.position.fits (c.positions_in-positions.ensures node lawful (same_its words given)) in
    omega (arith, below, few_below node lawful c.args.position)

pub overflow_sub-result : goal.overflow_sub-result
overflow_sub-result c =
    let words = c.args.words.now in let given = c.requires.spelling in
    some c (its words given) (lawful_its words given) (same_its words given)

pub returns-clause-from : goal.returns-clause-from
returns-clause-from c = λ node lawful same. (affected c node lawful same).0

pub returns-clause-upto : goal.returns-clause-upto
returns-clause-upto c = λ node lawful same. (affected c node lawful same).1
