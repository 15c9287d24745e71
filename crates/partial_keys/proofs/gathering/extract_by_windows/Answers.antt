-- No bit is told, sixteen bytes more, and all of the key.
use Rattle.partial_keys.proofs.Common.{ℕ, List, ◌≡◌, ◌∙◌, ◌+◌, ◌-◌, ◌*◌, ◌/◌, ◌≤◌, ◌&&◌, ◌||◌, ap, ap₂, arith, eqb, get_or, length, sym, take, nat_lt, get_or-replicate, length-replicate, bit_of, gathered}
use Rattle.partial_keys.proofs.gathering.Sliding.{all_before, least_long, least_zero, next_within, none_before}
use Rattle.partial_keys.proofs.Windows.{free_bit, gathered_used, lanes_tell}
use Rattle.partial_keys.proofs.gathering.extract_by_windows.Goals as goal

pub loop-part-init : goal.loop-part-init
loop-part-init c = (
  length-replicate {A = ℕ} 32 255,
  λ i low.
      ap (λ n. eqb n 0) (get_or-replicate {A = ℕ} 32 i 255 0 low) ∙
      (sym (none_before c.args.key.now c.args.lanes c.args.count i c.as_bytes.ensures.key.short c.requires low)
      ∙ ap (λ n. bit_of c.args.key.now (get_or c.args.lanes i 0) && nat_lt (get_or c.args.lanes i 0 / 9) n) (omega arith)),
)

pub loop-part-preserved : goal.loop-part-preserved
loop-part-preserved c =
    let (long, each) = c.loop-part.invariant in
    let whole = c.find_missing_bits_from.ensures.whole in
    let from : ℕ = get_or c.args.lanes 0 0 / 9 + 16 * c.loop-part.part in (
      least_long c.loop-part.missing c.find_missing_bits_from.result (long ∙ sym whole) ∙ long,
      λ i low. least_zero c.loop-part.missing c.find_missing_bits_from.result i (long ∙ sym whole) (omega (arith, long, low)) ∙
          (ap₂ (λ s t. s || t) (each i low) (c.find_missing_bits_from.ensures.each i low) ∙
          (next_within c.args.key.now (get_or c.args.lanes i 0) from c.as_bytes.ensures.key.short ∙
          ap (λ n. bit_of c.args.key.now (get_or c.args.lanes i 0) && nat_lt (get_or c.args.lanes i 0 / 9) n) (let e : from + 16 ≡ get_or c.args.lanes 0 0 / 9 + 16 * (c.loop-part.part + 1) = omega arith in e))),
    )

pub returns : goal.returns
returns c =
    let key : List ℕ = c.args.key.now in
    let lanes : List ℕ = c.args.lanes in
    let (long, each) = c.loop-part.invariant in
    let its = c.as_bytes.ensures.key in
    let end : length key ≤ get_or lanes 0 0 / 9 + 16 * c.loop-part.part = omega (arith, c.saturating_sub.ensures, c.loop-part-test.false, ap length c.as_bytes.ensures.bytes) in
    c.mark_zeros.ensures
    ∙ (lanes_tell (bit_of key) lanes c.loop-part.missing c.fits-lanes.0 long (λ i low. each i low ∙ all_before key (get_or lanes i 0) (get_or lanes 0 0 / 9 + 16 * c.loop-part.part) end)
    ∙ (ap (gathered (bit_of key)) (sym c.requires.unused) ∙ gathered_used (bit_of key) (take c.args.count lanes) (32 - c.args.count) (free_bit key its.short) (omega (arith, c.requires.columns.few))))
