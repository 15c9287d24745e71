-- Items that are copied behind others.
use Rattle.std.proofs.Common.{◌≡◌, ℕ, ◌+◌, ◌≤◌, List, ◌++◌, length, take, take-take, ap, sym, ◌∙◌, arith, length-append}
use Rattle.std.proofs.Math.Seq.{take-append-add}
use Rattle.std.proofs.lemmas.List.{length-take-le, take-append-le}

-- the first items, and behind them those that were copied to the room there
pub copied : {A : Type 0} (used size count : ℕ) (all room rest behind places : List A) → used ≤ length all → used + size ≤ count → size ≤ length room → take size room ≡ take size places →
    take (used + size) (take count (take used all ++ (room ++ rest) ++ behind)) ≡ take used all ++ take size places
copied used size count all room rest behind places low within long same =
    let front = take used all in
    let is : length front ≡ used = length-take-le used all low in
    let more = length-append room rest in let most = length-append front (room ++ rest) in
    take-take (used + size) count (front ++ (room ++ rest) ++ behind) within
    ∙ (take-append-le (used + size) (front ++ (room ++ rest)) behind (omega (arith, more, most, is, long))
    ∙ (ap (λ k. take (k + size) (front ++ (room ++ rest))) (sym is)
    ∙ (take-append-add front (room ++ rest) size
    ∙ ap (λ l. front ++ l) (take-append-le size room rest long ∙ same))))
