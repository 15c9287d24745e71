-- One look-up more is answered.
use Rattle.std.proofs.Common.{arith}
use Rattle.hot_c.proofs.lookups.Lookups.{none_answered, one_answered}
use Rattle.hot_c.proofs.lookups.write_found_values.Goals as goal

pub loop-place-init : goal.loop-place-init
loop-place-init c = record { short = omega arith; written = none_answered c.args.lookups.now }

pub loop-place-preserved : goal.loop-place-preserved
loop-place-preserved c = record { short = omega (arith, c.loop-place-test.true); written = rw (c.write_found_value.ensures, c.loop-place.invariant.written) (one_answered c.args.lookups.now c.args.found.now c.loop-place.place _ _ c.requires c.loop-place-test.true) }
