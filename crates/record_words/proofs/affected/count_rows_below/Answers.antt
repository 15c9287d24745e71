-- Each lane that is below the bound sets a bit.
use Rattle.record_words.proofs.Common.{◌∙◌, ap, arith, count_ones, nat_lt, w32, bitmask_splat, ones-mask_l}
use Rattle.record_words.proofs.affected.count_rows_below.Goals as goal

pub returns : goal.returns
returns c = ap count_ones (bitmask_splat w32 nat_lt c.args.rows 32 c.args.bound c.fits-rows.0 (omega arith)) ∙ ones-mask_l (λ x. nat_lt x c.args.bound) c.args.rows
