-- The bits so far, as a binary number.
use Rattle.std.proofs.Common.{◌≡◌, map, take}
use Rattle.key_bits.specs.Bits.{bit_of}
use Rattle.key_bits.proofs.Gather.{binary}
use Rattle.key_bits.proofs.extract.Given as goal

abbrev pub invariant-loop-position : goal.invariant-loop-position
invariant-loop-position l = l.bits ≡ binary (map (bit_of l.bytes) (take l.position-index l.positions))
