-- The words are made of the higher halves.
use Rattle.std.proofs.Common.{ap, ◌^◌, ◌∙◌}
use Rattle.record_words.specs.Packed.{row_lanes}
use Rattle.record_words.specs.declared.kind.HeadKind.TheVariants.{Middle}
use Rattle.record_words.proofs.fixed.Highs.{halves_fit, highs_are, rows_small, words_by_bytes}
use Rattle.record_words.proofs.near.NearKinds.{lanes_small, middle_kind, rows_long}
use Rattle.record_words.proofs.fixed.words_of_high_halves.Goals as goal
use lib.Lanes.{digits_l, number_l}

pub overflow_cast-result : goal.overflow_cast-result
overflow_cast-result c = halves_fit 32 c.args.rows c.fits-rows.1

pub returns : goal.returns
returns c =
    let rows = c.args.rows in
    ap (λ lanes. digits_l (2 ^ 64) 8 (number_l (2 ^ 8) (digits_l (2 ^ 8) 64 (number_l (2 ^ 16) lanes)))) (highs_are 16 rows c.fits-rows.0)
    ∙ words_by_bytes (row_lanes 16 rows) (rows_long 16 rows) (lanes_small Middle middle_kind rows (rows_small rows c.fits-rows.1))
