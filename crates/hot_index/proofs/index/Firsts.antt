-- A list of one pair at most, and what is taken off its end.
use Rattle.hot_index.proofs.Common.{◌≡◌, ℕ, ◌<◌, ◌≤◌, List, [], ◌∷◌, ◌++◌, length, Bool, Option, None, Some, refl, sym, ap, subst, arith, length-append, IsSome, option_to_list, Scan, Layout, Key, IsLawfulBy, Direction, Upwards, Downwards, IsListedBy, range_from, PassView}

nothing : (found : Option (Key × ℕ)) → found ≡ None → IsSome found → ⊥
nothing found e is = cc

-- none was taken off, where there was none; or the only one
pub only : (items rest : List (Key × ℕ)) (found : Option (Key × ℕ)) → items ≡ rest ++ option_to_list found → length items ≤ 1 → (0 < length items → IsSome found) → option_to_list found ≡ items
only [] rest None e few some = refl
only (x ∷ xs) rest None e few some = absurd (nothing None refl (some (omega arith)))
only items [] (Some pair) e few some = sym e
only items (y ∷ ys) (Some pair) e few some =
    let n : length items ≡ length ((y ∷ ys) ++ pair ∷ []) = ap length e in let m = length-append (y ∷ ys) (pair ∷ []) in absurd (omega (arith, n, m, few))

-- a scan of one pair at most lists one at most
pub one_at_most : (d : Direction) {layout : Layout} {k j : PassView} {from upto : Key} {pairs : List (Key × ℕ)} {more : Bool} → IsListedBy (IsLawfulBy d) layout k j (range_from from upto 1) pairs more →
    (scan : Scan) → scan.pairs.items ≡ pairs → scan.more ≡ more → length pairs ≤ 1
one_at_most Upwards h scan same last = subst (λ (l : List (Key × ℕ)). length l ≤ 1) same (h.lawful scan same last).short
one_at_most Downwards h scan same last = subst (λ (l : List (Key × ℕ)). length l ≤ 1) same (h.lawful scan same last).short
