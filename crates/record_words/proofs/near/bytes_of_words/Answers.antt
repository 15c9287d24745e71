-- The bytes are the lanes of which the words are made.
use Rattle.record_words.proofs.Common.{◌∙◌, ◌^◌, ◌<◌, ap, arith, sym, Each1-from_get_or}
use Rattle.record_words.specs.Kinds.{lane_words}
use Rattle.record_words.proofs.near.Digits.{base_8, base_64, digits_of_number, number-lt, number_of_digits}
use lib.Lanes.{digits_l, number_l}
use Rattle.record_words.proofs.near.bytes_of_words.Goals as goal

pub returns-clause-words : goal.returns-clause-words
unfolding lane_words
returns-clause-words c = λ lanes long small same.
    let each = Each1-from_get_or (λ x. x < 2 ^ 8) lanes 0 (λ i h. small i) in
    let below = number-lt (2 ^ 8) 16 lanes long each in
    ap (λ words. digits_l (2 ^ 8) 16 (number_l (2 ^ 64) words)) (sym same)
    ∙ (ap (digits_l (2 ^ 8) 16) (number_of_digits (2 ^ 64) base_64 2 (number_l (2 ^ 8) lanes) (omega (arith, below)))
    ∙ digits_of_number (2 ^ 8) base_8 16 lanes long each)
