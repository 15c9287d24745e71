-- Each lane tells its bit of the key, and those that are unused tell none.
use Rattle.partial_keys.proofs.Common.{eqb, ◌≡◌, ◌/◌, ◌∙◌, ◌-◌, ◌<◌, ℕ, List, ap, arith, get_or, length, refl, sym, take, ⊎_elim, subst, ◌≤◌, ◌+◌, ◌⊎◌, bit_of, gathered, cases_lt, get_or-map, get_or_past, All-get_or}
use Rattle.partial_keys.specs.Windows.{byte_lane, mask_lane, missed_lane}
use Rattle.partial_keys.proofs.Windows.{free_bit, gathered_used, lane_tells, lanes_tell, within}
use Rattle.partial_keys.proofs.gathering.extract_dense_key_by_lanes.Goals as goal

pub returns-then-window_has_all_bits : goal.returns-then-window_has_all_bits
returns-then-window_has_all_bits c =
    let key : List ℕ = c.args.key.now in
    let lanes : List ℕ = c.args.lanes in
    let first : ℕ = get_or lanes 0 0 / 9 in
    let near = c.if-window_has_all_bits.ensures.near refl in
    let count : length c.as_bytes-key_length.result.now ≡ length key = ap length c.as_bytes-key_length.ensures.bytes in
    let its = c.as_bytes-key_length.ensures.key in
    let long : length lanes ≡ 32 = c.fits-lanes.0 in
    let bytes : (k : ℕ) → get_or key k 0 < 256 =
    λ k. ⊎_elim (λ inside. All-get_or (λ byte. byte < 256) key k 0 inside its.are_bytes) (λ past. (let e = get_or_past key k 0 past in omega (arith, e))) (cases_lt k (length key)) in
    let byte_at : (i : ℕ) → i < 32 → get_or c.bytes_at-bytes.result i 0 ≡ byte_lane (get_or lanes i 0) =
    λ i low. ap (λ xs. get_or xs i 0) c.bytes_at-bytes.ensures ∙ get_or-map byte_lane lanes i 0 0 (omega (arith, long, low)) in
    let missed_at : (i : ℕ) → i < 32 → get_or c.find_missing_bits.result i 0 ≡ missed_lane c.window_at-window.result first (length key - 1) i (byte_lane (get_or lanes i 0)) (mask_lane (get_or lanes i 0)) =
    λ i low. c.find_missing_bits.ensures.each i low ∙ rw (count, byte_at i low, c.masks_at-masks.ensures, get_or-map mask_lane lanes i 0 0 (omega (arith, long, low))) refl in
    c.mark_zeros.ensures
    ∙ (lanes_tell (bit_of key) lanes c.find_missing_bits.result long c.find_missing_bits.ensures.whole
    (λ i low. ap (λ n. eqb n 0) (missed_at i low) ∙ lane_tells key c.window_at-window.result first i (get_or lanes i 0) (omega (arith, near.0, count)) its.short bytes low c.window_at-window.ensures
    (within lanes c.args.count (length key) first i c.requires refl its.short low
    (subst (λ n. (byte_lane (get_or lanes i 0) < first + 16) ⊎ (n ≤ byte_lane (get_or lanes i 0))) count
    (subst (λ b. (b < first + 16) ⊎ (length c.as_bytes-key_length.result.now ≤ b)) (byte_at i low) (near.2 i low)))))
    ∙ (ap (gathered (bit_of key)) (sym c.requires.unused) ∙ gathered_used (bit_of key) (take c.args.count lanes) (32 - c.args.count) (free_bit key its.short) (omega (arith, c.requires.columns.few))))
