-- Each lane tells its bit, if that is within the sixteen.
use Rattle.partial_keys.proofs.Common.{eqb, ◌≡◌, ◌∙◌, ◌-◌, ◌+◌, ◌<◌, ◌≤◌, ℕ, List, ap, ap₂, arith, bit_or, get_or, length, ⊎_elim, sym, cases_lt, get_or-map, get_or_past, All-get_or, get_or-zip2, length-zip2, min-le_left, min-le_right}
use Rattle.std.proofs.Common.{min}
use Rattle.partial_keys.specs.Windows.{bit_within, byte_lane, mask_lane, missed_lane}
use Rattle.partial_keys.proofs.gathering.Sliding.{lane_within}
use Rattle.partial_keys.proofs.gathering.find_missing_bits_from.Goals as goal

pub returns-clause-whole : goal.returns-clause-whole
returns-clause-whole c = length-zip2 bit_or c.find_missing_bits-missed.result c.distances_below.result (c.find_missing_bits-missed.ensures.whole ∙ sym c.distances_below.ensures.whole) ∙ c.find_missing_bits-missed.ensures.whole

pub returns-clause-each : goal.returns-clause-each
returns-clause-each c i low =
    let key : List ℕ = c.args.key.now in
    let lanes : List ℕ = c.args.lanes in
    let its = c.as_bytes.ensures.key in
    let count : length c.as_bytes.result.now ≡ length key = ap length c.as_bytes.ensures.bytes in
    let first : ℕ = c.min-first.result in
    let begins : first ≤ 224 = omega (arith, c.min-first.ensures, min-le_right c.args.from 224) in
    let reached : first < length key = omega (arith, c.min-first.ensures, min-le_left c.args.from 224, c.requires.some) in
    let bytes : (k : ℕ) → get_or key k 0 < 256 =
    λ k. ⊎_elim (λ inside. All-get_or (λ byte. byte < 256) key k 0 inside its.are_bytes) (λ past. (let e = get_or_past key k 0 past in omega (arith, e))) (cases_lt k (length key)) in
    let byte_at : get_or c.bytes_at-bytes.result i 0 ≡ byte_lane (get_or lanes i 0) =
    ap (λ xs. get_or xs i 0) c.bytes_at-bytes.ensures ∙ get_or-map byte_lane lanes i 0 0 (omega (arith, c.requires.lanes, low)) in
    let mask_at : get_or c.masks_at.result i 0 ≡ mask_lane (get_or lanes i 0) =
    ap (λ xs. get_or xs i 0) c.masks_at.ensures ∙ get_or-map mask_lane lanes i 0 0 (omega (arith, c.requires.lanes, low)) in
    ap (λ n. eqb n 0)
    (get_or-zip2 bit_or c.find_missing_bits-missed.result c.distances_below.result i 0 0 0 (omega (arith, c.find_missing_bits-missed.ensures.whole, low)) (omega (arith, c.distances_below.ensures.whole, low))
    ∙ ap₂ bit_or (c.find_missing_bits-missed.ensures.each i low ∙ ap₂ (λ b m. missed_lane c.window_at.result first c.min-last.result i b m) byte_at mask_at) (c.distances_below.ensures.each i low ∙ ap (λ b. first - b) byte_at))
    ∙ lane_within key c.window_at.result first c.min-last.result i (get_or lanes i 0) (omega (arith, c.requires.some)) its.short bytes low begins reached (c.min-last.ensures ∙ ap (λ n. min (first + 15) (n - 1)) count) c.window_at.ensures
    ∙ ap (λ f. bit_within f key (get_or lanes i 0)) c.min-first.ensures
