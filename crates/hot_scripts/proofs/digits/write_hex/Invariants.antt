-- The digits of the bytes below the index are written.
use Rattle.hot_scripts.proofs.Common.{◌≡◌, ◌*◌, ◌++◌, take, drop, encode_lower}
use Rattle.hot_scripts.proofs.digits.write_hex.Given as goal

abbrev pub invariant-eights : goal.invariant-eights
invariant-eights l = take (2 * l.index) l.room ++ encode_lower (drop l.index l.bytes) ≡ encode_lower l.bytes

abbrev pub invariant-rest : goal.invariant-rest
invariant-rest l = take (2 * l.index) l.room ++ encode_lower (drop l.index l.bytes) ≡ encode_lower l.bytes
