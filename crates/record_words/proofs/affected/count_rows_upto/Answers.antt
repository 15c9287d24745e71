-- Each lane that is not above the bound sets a bit.
use Rattle.record_words.proofs.Common.{◌∙◌, ◌+◌, ap, arith, count_ones, leb, nat_lt, w32, bitmask_splat, ones-mask_l}
use lib.Lanes.{mask_l}
use Rattle.record_words.proofs.affected.Affected.{all_upto}
use Rattle.record_words.proofs.affected.count_rows_upto.Goals as goal

pub returns : goal.returns
returns c =
    ap count_ones (bitmask_splat w32 leb c.args.rows 32 c.args.bound c.fits-rows.0 (omega arith) ∙ ap mask_l (all_upto c.args.bound c.args.rows))
    ∙ ones-mask_l (λ x. nat_lt x (c.args.bound + 1)) c.args.rows
