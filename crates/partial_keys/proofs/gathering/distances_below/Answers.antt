-- Each lane's difference stops at 0.
use Rattle.partial_keys.proofs.Common.{◌-◌, ◌∙◌, ap, arith, get_or, replicate, sym, get_or-replicate, length-replicate}
use Rattle.partial_keys.proofs.gathering.Sliding.{over_at, over_long, same_fit}
use Rattle.partial_keys.proofs.gathering.distances_below.Goals as goal

pub returns-clause-whole : goal.returns-clause-whole
returns-clause-whole c = over_long (replicate 32 c.args.first) c.args.bytes (length-replicate 32 c.args.first ∙ sym c.fits-bytes.0) ∙ length-replicate 32 c.args.first

pub returns-clause-each : goal.returns-clause-each
returns-clause-each c i low =
    over_at (replicate 32 c.args.first) c.args.bytes i (length-replicate 32 c.args.first ∙ sym c.fits-bytes.0) (omega (arith, length-replicate 32 c.args.first, low)) (same_fit 32 c.args.first c.ranges.first.fits) c.fits-bytes.1
    ∙ ap (λ x. x - get_or c.args.bytes i 0) (get_or-replicate 32 i c.args.first 0 low)
