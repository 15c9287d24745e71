-- A word tells the height of its entry, and a height above that of each fits 16 bits.
use Rattle.record_words.proofs.Common.{◌≡◌, ◌+◌, ◌-◌, ◌/◌, ◌^◌, ◌∙◌, ap, arith, drop, get_or, max, greatest_height}
use Rattle.compound_node.proofs.Heights.{greatest_height-fits}
use Rattle.record_words.proofs.Dropping.{height_more, heights_flat}
use Rattle.record_words.proofs.node.height_over.Goals as goal
use Rattle.record_words.proofs.node.height_over.Goals.{After-loop-i}

pub returns-then-height-eq1 : goal.returns-then-height-eq1
returns-then-height-eq1 c = λ entries spell. omega (arith, heights_flat c.args.height c.args.words.now entries c.if-height-eq1.true spell)

pub loop-i-preserved : goal.loop-i-preserved
loop-i-preserved c = λ entries spell.
    let back : c.loop-i.i ≡ c.loop-i.i - 1 + 1 = omega arith in
    c.max-greatest.ensures
    ∙ (ap (λ m. max (get_or c.args.words.now (c.loop-i.i - 1) 0 / 2 ^ 34) m) (c.loop-i.invariant entries spell ∙ ap (λ k. greatest_height (drop k entries)) back)
    ∙ height_more c.args.height c.args.words.now entries (c.loop-i.i - 1) spell (omega arith))

whole : (c : After-loop-i) → c.loop-i.greatest ≡ greatest_height c.requires.0
whole c =
    let z : c.loop-i.i ≡ 0 = omega (arith, c.loop-i-test.false) in
    c.loop-i.invariant c.requires.0 c.requires.1 ∙ ap (λ k. greatest_height (drop k c.requires.0)) z

pub overflow_cast-result : goal.overflow_cast-result
overflow_cast-result c = record { fits = omega (arith, whole c, greatest_height-fits c.requires.0 (λ k d l. (c.requires.1.stand k d l).0)) }

pub overflow_add-result : goal.overflow_add-result
overflow_add-result c = record { fits = omega (arith, whole c, greatest_height-fits c.requires.0 (λ k d l. (c.requires.1.stand k d l).0)) }
