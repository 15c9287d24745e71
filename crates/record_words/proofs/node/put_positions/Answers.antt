-- One word more is written.
use Rattle.std.proofs.Common.{◌≡◌, ◌+◌, ◌∙◌, arith, below_more, get_or-set_other, get_or-set_same, length, rules, ⊎_elim}
use Rattle.record_words.proofs.node.put_positions.Goals as goal

pub loop-j-preserved : goal.loop-j-preserved
loop-j-preserved c =
    let words = c.loop-j.words in
    let long : length words ≡ 57 = search rules in record {
      columns = below_more _ c.loop-j.j (λ k before. get_or-set_other words (1 + c.loop-j.j) (1 + k) c.word_of_positions.result 0 (omega (arith, before)) ∙ c.loop-j.invariant.columns k before)
          (get_or-set_same words (1 + c.loop-j.j) c.word_of_positions.result 0 (omega (arith, long, c.loop-j-test.true)) ∙ c.word_of_positions.ensures);
      others = λ k outside. get_or-set_other words (1 + c.loop-j.j) k c.word_of_positions.result 0 (⊎_elim (λ h. omega (arith, h)) (λ h. omega (arith, h, c.loop-j-test.true)) outside) ∙ c.loop-j.invariant.others k outside;
    }

pub returns-clause-columns : goal.returns-clause-columns
returns-clause-columns c = λ j low. c.loop-j.invariant.columns j (omega (arith, low))

pub returns-clause-others : goal.returns-clause-others
returns-clause-others c = c.loop-j.invariant.others
