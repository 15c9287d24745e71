-- A part of a list is two parts after one another.
use Rattle.rowex_writing.proofs.Common.{◌≡◌, ℕ, ◌+◌, ◌-◌, ◌≤◌, List, ◌++◌, take, drop, ap, ◌∙◌, arith, take-add, slice_range, drop-drop}

pub range_split : {X : Type 0} (xs : List X) (a b c : ℕ) → a ≤ b → b ≤ c → slice_range xs a c ≡ slice_range xs a b ++ slice_range xs b c
range_split xs a b c low high =
    let size : c - a ≡ (b - a) + (c - b) = omega (arith, low, high) in
    let at : drop (b - a) (drop a xs) ≡ drop b xs = drop-drop (b - a) a xs ∙ ap (λ n. drop n xs) (let place : a + (b - a) ≡ b = omega (arith, low) in place) in
    ap (λ n. take n (drop a xs)) size ∙ (take-add (b - a) (c - b) (drop a xs) ∙ ap (λ (z : List _). take (b - a) (drop a xs) ++ take (c - b) z) at)
