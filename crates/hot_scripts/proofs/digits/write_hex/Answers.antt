-- One byte more, and all of them.
use Rattle.hot_scripts.proofs.Common.{arith, refl, lower_digits}
use Rattle.hex.proofs.Pairs.{encode_step, encode_done}
use Rattle.hot_scripts.proofs.digits.write_hex.Goals as goal

pub eights-preserved : goal.eights-preserved
eights-preserved c =
    encode_step lower_digits c.args.bytes.now c.eights.room c.eights.index _ _ (omega arith) (omega arith) c.hex_digit.ensures c.hex_digit-in-eights.ensures c.eights.invariant

pub rest-preserved : goal.rest-preserved
rest-preserved c =
    encode_step lower_digits c.args.bytes.now c.rest.room c.rest.index _ _ (omega arith) (omega arith) refl refl c.rest.invariant

pub returns : goal.returns
returns c = encode_done lower_digits _ _ c.rest.index (omega arith) (omega arith) c.rest.invariant
