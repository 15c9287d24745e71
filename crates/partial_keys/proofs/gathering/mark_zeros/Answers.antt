-- The reversed lanes are a mask whose lowest bit is the last lane.
use Rattle.std.proofs.Common.{eqb, sym, subst, ◌<◌, ◌^◌}
use Rattle.partial_keys.proofs.Windows.{gathered-lt, zeros_lanes}
use Rattle.partial_keys.proofs.gathering.mark_zeros.Goals as goal

pub overflow_cast-result : goal.overflow_cast-result
overflow_cast-result c = record { fits = subst (λ n. n < 2 ^ 32) (sym (zeros_lanes c.args.lanes c.requires)) (gathered-lt (λ x. eqb x 0) c.args.lanes) }

pub returns : goal.returns
returns c = zeros_lanes c.args.lanes c.requires
