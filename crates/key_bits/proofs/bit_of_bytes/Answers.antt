-- A byte behind a 1 has the nine bits that it gives.
use Rattle.std.proofs.Common.{◌≡◌, ℕ, ◌+◌, ◌*◌, ◌/◌, ◌%◌, ◌-◌, get_or, arith}
use Rattle.key_bits.proofs.Bits.Bytes.{nine_bits}
use Rattle.key_bits.proofs.bit_of_bytes.Goals as goal

pub returns-in-Some : goal.returns-in-Some
returns-in-Some c =
    let p : ℕ = c.args.position in
    let byte : c.in-Some.byte.now ≡ get_or c.args.bytes.now (p / 9) 0 = c.in-Some.ensures.lookup.3.1 0 in
    let shift : 9 * (p / 9) + 8 - p ≡ 8 - p % 9 = omega arith in
    rw (shift, byte, ← c.in-Some.ensures.lookup.0) (nine_bits (get_or c.args.bytes.now (p / 9) 0) (p % 9) (c.type_inv.bytes (p / 9)).fits (omega arith))
