-- Eights with the same number have the same bytes.
use Rattle.std.proofs.Common.{◌≡◌, ◌+◌, ◌*◌, ◌∙◌, ap, arith, sym}
use Rattle.std.specs.Int.{to_be_bytes, w64}
use Rattle.key_bits.proofs.Bits.{take_both}
use Rattle.key_bits.proofs.count_same_eights.Goals as goal

pub loop-j-preserved : goal.loop-j-preserved
loop-j-preserved c =
    let next : 8 * (c.loop-j.j + 1) ≡ 8 * c.loop-j.j + 8 = omega arith in
    let same : c.eight_bytes_at.result ≡ c.eight_bytes_at-in-loop-j.result = omega arith in
    rw next (take_both (8 * c.loop-j.j) 8 c.args.xs.now c.args.ys.now c.loop-j.invariant
    (sym c.eight_bytes_at.ensures ∙ (ap (to_be_bytes w64) same ∙ c.eight_bytes_at-in-loop-j.ensures)))
