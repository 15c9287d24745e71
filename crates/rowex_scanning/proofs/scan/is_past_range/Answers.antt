-- A smaller first word is that of a key before the last one of the range.
use Rattle.rowex_scanning.proofs.Common.{inr, ◌<◌, arith, key_word}
use Rattle.rowex_scanning.proofs.scan.Ordering.{small_byte, word_less}
use Rattle.rowex_scanning.proofs.Walking.{less_before}
use Rattle.rowex_scanning.proofs.scan.is_past_range.Goals as goal

pub returns-then-first_word-key_word_at-clause-inside : goal.returns-then-first_word-key_word_at-clause-inside
returns-then-first_word-key_word_at-clause-inside c = λ is.
    let key = c.args.key.now in
    let upto = c.args.range.now.upto.now in
    let less : key_word key 0 < key_word upto 0 = omega (arith, c.first_word.ensures, c.key_word_at.ensures, c.if-first_word-key_word_at.true) in
    rw c.in-Upwards.is (inr (less_before key upto c.requires.key c.as_bytes-upto.ensures.key (word_less key upto (small_byte upto c.as_bytes-upto.ensures.key) less)))
