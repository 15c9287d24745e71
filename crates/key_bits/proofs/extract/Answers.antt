-- One turn puts one more bit behind those gathered; the end moves them to the top.
use Rattle.std.proofs.Common.{◌≡◌, List, ℕ, take}
use Rattle.std.proofs.lemmas.List.{take_all}
use Rattle.key_bits.specs.Bits.{bit_of}
use Rattle.key_bits.proofs.Gather.{binary-shl_or, binary-gathered}
use Rattle.key_bits.proofs.extract.Goals as goal

pub loop-position-preserved : goal.loop-position-preserved
loop-position-preserved c = rw (c.bit_of_bytes.ensures, c.loop-position.invariant)
    (binary-shl_or (bit_of c.as_bytes-bytes.result.now) c.args.positions.now c.loop-position.position-index c.loop-position-test.true c.requires)

pub returns : goal.returns
returns c =
    let ps : List ℕ = c.args.positions.now in
    let all : take c.loop-position.position-index ps ≡ ps = take_all c.loop-position.position-index ps c.loop-position-test.false in
    rw (← c.as_bytes-bytes.ensures.bytes, c.loop-position.invariant, all) (binary-gathered (bit_of c.as_bytes-bytes.result.now) ps c.requires)
