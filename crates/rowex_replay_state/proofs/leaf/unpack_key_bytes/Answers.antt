-- Each word of the key is written, and behind these all is 0.
use Rattle.rowex_replay_state.proofs.Common.{◌+◌, ◌<◌, ◌≤◌, arith, refl, sym, ◌∙◌, ⊎_elim, cases_lt, up_to_key, key_part, up_to_key_before, up_to_key_past}
use Rattle.record_words.proofs.Unused.{zero_word}
use Rattle.rowex_replay_state.proofs.leaf.unpack_key_bytes.Goals as goal

pub loop-j-init : goal.loop-j-init
loop-j-init c = (refl, λ k low. absurd (omega arith), λ k past. zero_word 240 k)

pub returns : goal.returns
returns c = record {
  count = c.loop-j.invariant.0;
  words_are = λ k few. ⊎_elim
      (λ (before : k < c.loop-j.j). c.loop-j.invariant.1 k before ∙ sym (key_part (up_to_key c.args.words.now) k few ∙ up_to_key_before c.args.words.now (2 + k) (omega (arith, before)) (omega (arith, few))))
      (λ (past : c.loop-j.j ≤ k). c.loop-j.invariant.2 k past ∙ sym (key_part (up_to_key c.args.words.now) k few ∙ up_to_key_past c.args.words.now (2 + k) (omega (arith, past))))
      (cases_lt k c.loop-j.j);
}
