-- Each lane that is the number sets a bit.
use Rattle.record_words.proofs.Common.{◌∙◌, ap, arith, eqb, not, w16, bitmask_splat}
use Rattle.record_words.proofs.Lanes.{some_told}
use Rattle.record_words.proofs.search.has_lane.Goals as goal

pub returns : goal.returns
returns c = ap (λ m. not (eqb m 0)) (bitmask_splat w16 eqb c.args.lanes 32 c.args.number c.fits-lanes.0 (omega arith)) ∙ some_told c.args.number c.args.lanes
