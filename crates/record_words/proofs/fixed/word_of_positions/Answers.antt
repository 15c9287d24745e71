-- The shifted positions are a sum of 64 bits.
use Rattle.std.proofs.Common.{arith}
use Rattle.record_words.specs.Packed.{position_word}
use Rattle.record_words.proofs.fixed.word_of_positions.Goals as goal

pub returns : goal.returns
unfolding position_word
returns c = omega (arith, c.position_at.ensures, c.position_at-2.ensures, c.position_at-3.ensures, c.position_at-4.ensures)
