-- The first word tells the height and how many entries there are.
use Rattle.record_words.proofs.Reading.{first_word}
use Rattle.record_words.proofs.node.can_take_leaf.Goals as goal
use Rattle.record_words.proofs.Common.{arith, nat_tests}

pub returns-then-numbers-eq1 : goal.returns-then-numbers-eq1
returns-then-numbers-eq1 c = λ node has spells.
    let told = c.read_numbers-numbers.ensures.node node has.lawful (first_word node c.args.words.now spells) in
    (λ few. (omega (arith, told.height_is, c.if-numbers-eq1.true), grind (arith, nat_tests, told.count_is, few)), λ takes. grind (arith, nat_tests, told.count_is, takes.1))

pub returns-else-numbers-eq1 : goal.returns-else-numbers-eq1
returns-else-numbers-eq1 c = λ node has spells.
    let told = c.read_numbers-numbers.ensures.node node has.lawful (first_word node c.args.words.now spells) in
    (λ one. absurd (grind (arith, nat_tests, one, c.if-numbers-eq1.false)), λ takes. grind (arith, nat_tests, told.height_is, takes.0))
