-- Each lane tells its column's bit of the key.
use Rattle.record_words.proofs.Common.{◌≡◌, ◌∙◌, ◌-◌, ◌+◌, ◌<◌, ◌≤◌, ℕ, List, ap, arith, drop, get_or, take, get_or-drop, get_or-chunk, with_zeros}
use Rattle.std.proofs.lemmas.List.{get_or-take}
use lib.Lanes.{chunk}
use Rattle.record_words.proofs.near.NearDense.{dense_is, indexes_ok, told_fits, window_within}
use Rattle.record_words.proofs.near.extract_near.Goals as goal

-- the window begins at its first byte
window_at : (xs ys : List ℕ) (first : ℕ) → xs ≡ ys → first + 16 ≤ 240 → (k : ℕ) → k < 16 → get_or (chunk 0 16 (take (240 - first) (drop first xs))) k 0 ≡ get_or ys (first + k) 0
window_at xs ys first same room k low =
    get_or-chunk 0 16 (take (240 - first) (drop first xs)) k 0 low
    ∙ (get_or-take (240 - first) (drop first xs) (0 + k) 0 (omega (arith, room, low))
    ∙ (get_or-drop first xs (0 + k) 0 ∙ (ap (λ j. get_or xs (first + j) 0) (omega arith) ∙ ap (λ zs. get_or zs (first + k) 0) same)))

pub swizzle : goal.swizzle
swizzle c = let (columns, lanes) = c.requires in indexes_ok columns c.args.indexes c.args.masks c.args.key.now c.args.first lanes c.padded_bytes.ensures.key

pub overflow_cast-result : goal.overflow_cast-result
overflow_cast-result c =
    let (columns, lanes) = c.requires in
    let bytes = c.padded_bytes.ensures in
    record {
      fits = told_fits columns c.args.indexes c.args.masks c.args.key.now c.args.first lanes bytes.key _
          (window_at c.padded_bytes.result.now (with_zeros c.args.key.now) c.args.first bytes.bytes (window_within columns c.args.indexes c.args.masks c.args.key.now c.args.first lanes bytes.key));
    }

pub returns : goal.returns
returns c = λ columns lanes.
    let bytes = c.padded_bytes.ensures in
    dense_is columns c.args.indexes c.args.masks c.args.key.now c.args.first lanes bytes.key _
    (window_at c.padded_bytes.result.now (with_zeros c.args.key.now) c.args.first bytes.bytes (window_within columns c.args.indexes c.args.masks c.args.key.now c.args.first lanes bytes.key))
