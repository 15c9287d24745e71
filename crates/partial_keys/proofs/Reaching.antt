-- How many lanes, and how many columns, come before the first that reaches a bound.
use Rattle.partial_keys.proofs.Common.{List, [], ap, arith, cond, leb, length, map, not, refl, replicate, suc, sym, take, w16, zero, ℕ, ⊎_elim, ◌%◌, ◌++◌, ◌+◌, ◌-◌, ◌<◌, ◌^◌, ◌∙◌, ◌∷◌, ◌≡◌, ◌≤◌, cases_lt, le-ltb, length-map, leading_from_mask_l, mask_l-lt, mask_l-mod, tops_compared, trailing_mask_l, zip2_splat_left, prefix_len, front_below}
use Rattle.std.proofs.Common.{nat_lt}
use Rattle.std.proofs.lemmas.Bool.Decides.{nat_tests}
use Rattle.std.specs.Int.Count.{trailing_of_zero}
use Rattle.partial_keys.specs.Columns.{AreColumnLanes}
use lib.Count.{count_trailing_zeros}
use lib.Lanes.{mask_l, top, zip2}

-- the lanes that reach the bound, as bits
pub lanes_reach : (bound : ℕ) (xs : List ℕ) → length xs ≡ 32 →
    mask_l (map (top 15) (zip2 (λ a b. cond (leb a b) 65535 0) (replicate 32 bound) xs)) % 2 ^ 64 ≡ mask_l (map (leb bound) xs)
lanes_reach bound xs long =
    ap (λ ms. mask_l ms % 2 ^ 64) (tops_compared w16 leb (replicate 32 bound) xs ∙ zip2_splat_left leb bound 32 xs long)
    ∙ mask_l-mod (map (leb bound) xs) 64 (omega (arith, length-map xs (leb bound), long))

pub reach-lt : (bound : ℕ) (xs : List ℕ) → length xs ≡ 32 → mask_l (map (leb bound) xs) < 2 ^ 32
reach-lt bound xs long = let small : mask_l (map (leb bound) xs) < 2 ^ length (map (leb bound) xs) = mask_l-lt (map (leb bound) xs) in (rw (length-map xs (leb bound), long) at small)

one_before : (bound x n m : ℕ) → n ≡ m → cond (not (leb bound x)) (1 + n) 0 ≡ cond (nat_lt x bound) (suc m) 0
one_before bound x n m same = grind (arith, nat_tests, same)

before_reaching : (bound : ℕ) (xs : List ℕ) → prefix_len (λ x. not (leb bound x)) xs ≡ front_below bound xs
before_reaching bound [] = refl
before_reaching bound (x ∷ xs) = one_before bound x _ _ (before_reaching bound xs)

-- the lowest of these bits
pub first_reaching : (bound : ℕ) (xs : List ℕ) → length xs ≡ 32 → count_trailing_zeros 32 (mask_l (map (leb bound) xs)) ≡ front_below bound xs
first_reaching bound xs long = ⊎_elim
    (λ (some : 0 < mask_l (map (leb bound) xs)). trailing_mask_l (leb bound) 32 xs (omega (arith, long)) some ∙ before_reaching bound xs)
    (λ (none : mask_l (map (leb bound) xs) ≤ 0).
    let e : mask_l (map (leb bound) xs) ≡ 0 = omega (arith, none) in
    ap (count_trailing_zeros 32) e ∙ (trailing_of_zero 32 ∙ (sym long ∙ (sym (leading_from_mask_l (leb bound) xs e) ∙ before_reaching bound xs))))
    (cases_lt 0 (mask_l (map (leb bound) xs)))

pub front_below-le : (bound : ℕ) (xs : List ℕ) → front_below bound xs ≤ length xs
front_below-le bound [] = omega arith
front_below-le bound (x ∷ xs) = grind (arith, nat_tests, front_below-le bound xs)

-- what reaches each bound, behind the columns, changes nothing
pub front_below-filled : (bound top n : ℕ) (xs : List ℕ) → bound ≤ top → front_below bound (xs ++ replicate n top) ≡ front_below bound xs
front_below-filled bound top zero [] small = refl
front_below-filled bound top (suc n) [] small = rw (le-ltb top bound small) refl
front_below-filled bound top n (x ∷ xs) small = ap (λ m. cond (nat_lt x bound) (suc m) 0) (front_below-filled bound top n xs small)

-- and so of all lanes no more come before it than of the columns
pub front_below-columns : (bound count : ℕ) (lanes : List ℕ) → AreColumnLanes lanes count → bound ≤ 65535 → front_below bound lanes ≡ front_below bound (take count lanes)
front_below-columns bound count lanes are small = ap (front_below bound) (sym are.unused) ∙ front_below-filled bound 65535 (32 - count) (take count lanes) small
