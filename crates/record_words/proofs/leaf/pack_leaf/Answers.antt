-- The words are those of the leaf.
use Rattle.record_words.proofs.Common.{arith, ◌+◌, ◌<◌, ◌≤◌, ◌∙◌, refl, ⊎_elim, ap, length, sym, cases_lt}
use Rattle.record_words.proofs.Leaves.{leaf_words_made}
use Rattle.record_words.proofs.Unused.{first_rest, key_word_past}
use Rattle.record_words.proofs.leaf.pack_leaf.Goals as goal

pub loop-j-init : goal.loop-j-init
loop-j-init c = (refl, refl, refl, λ k low. absurd (omega arith), λ k low few. first_rest c.args.value _ (2 + k) (omega arith))

pub returns-clause-words : goal.returns-clause-words
returns-clause-words c = leaf_words_made (c.args.key.now, c.args.value) c.loop-j.words record {
  count = c.loop-j.invariant.0;
  value = c.loop-j.invariant.1;
  size = c.loop-j.invariant.2 ∙ ap length c.as_bytes.ensures.bytes;
  bytes = λ j small. ⊎_elim (λ (used : j < c.loop-j.j). c.loop-j.invariant.3 j used)
      (λ (past : c.loop-j.j ≤ j). c.loop-j.invariant.4 j past small ∙ sym (key_word_past c.args.key.now j (let n = ap length c.as_bytes.ensures.bytes in omega (arith, past, n, c.count_key_words-j-end.ensures, c.loop-j-test.false)))) (cases_lt j c.loop-j.j);
}

pub returns-clause-fits : goal.returns-clause-fits
returns-clause-fits c = record { key = c.as_bytes.ensures.key; value = c.ranges.value.fits }
