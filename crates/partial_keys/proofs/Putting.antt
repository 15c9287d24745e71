-- An element put in among the first of a list.
use Rattle.partial_keys.proofs.Common.{List, [], ap, arith, drop, get_or, length, replicate, set, suc, sym, take, ℕ, ◌++◌, ◌+◌, ◌-◌, ◌<◌, ◌∙◌, ◌∷◌, ◌≡◌, ◌≤◌, drop-append-add, append_assoc, drop-replicate, drop-take, length-take-le, set_at, take-take, take_all, take_more, insert}
use lib.Seq.{paste}

-- the elements from a place on, among the first n, move up by one, and another one takes the place
pub moved_up : {X : Type 0} (xs : List X) (at n : ℕ) (x : X) → at ≤ n → n < length xs → set (paste xs (at + 1) (drop at xs) (n - at)) at x ≡ insert (take n xs) at x ++ drop (n + 1) xs
moved_up {X} xs at n x a l =
    let rest : List X = take (n - at) (drop at xs) ++ drop (at + 1 + (n - at)) xs in
    let moved : take (n - at) (drop at xs) ≡ drop at (take n xs) = sym (drop-take at (n - at) xs) ∙ ap (λ k. drop at (take k xs)) (omega arith) in
    ap (λ ys. set ys at x) (append_assoc (take (at + 1) xs) (take (n - at) (drop at xs)) (drop (at + 1 + (n - at)) xs))
    ∙ ap (λ ys. set (ys ++ rest) at x) (take_more xs at x (omega arith))
    ∙ ap (λ ys. set ys at x) (append_assoc (take at xs) (get_or xs at x ∷ []) rest)
    ∙ set_at (take at xs) (get_or xs at x) rest x at (length-take-le at xs (omega arith))
    ∙ ap (λ ys. ys ++ x ∷ rest) (sym (take-take at n xs a))
    ∙ ap (λ ys. take at (take n xs) ++ x ∷ (ys ++ drop (at + 1 + (n - at)) xs)) moved
    ∙ ap (λ k. take at (take n xs) ++ x ∷ (drop at (take n xs) ++ drop k xs)) (omega arith)
    ∙ sym (append_assoc (take at (take n xs)) (x ∷ drop at (take n xs)) (drop (n + 1) xs))

-- what fills the places behind one element more
pub drop_pad : {X : Type 0} (m n : ℕ) (xs : List X) (x : X) → length xs ≡ n → drop (n + 1) (xs ++ replicate (m - n) x) ≡ replicate (m - (n + 1)) x
drop_pad m n xs x e =
    let f : n + 1 ≡ length xs + 1 = omega arith in
    let g : m - n - 1 ≡ m - (n + 1) = omega arith in
    ap (λ k. drop k (xs ++ replicate (m - n) x)) f ∙ drop-append-add xs (replicate (m - n) x) 1 ∙ drop-replicate 1 (m - n) x ∙ ap (λ k. replicate k x) g

-- The first i of a list stand in front of places that are unused: the next one takes the first of these
pub filled_more : {X : Type 0} (m : ℕ) (xs : List X) (i : ℕ) (unused d : X) → i < length xs → length xs ≤ m →
    set (take i xs ++ replicate (m - i) unused) i (get_or xs i d) ≡ take (i + 1) xs ++ replicate (m - (i + 1)) unused
filled_more m xs i unused d low few =
    let left : m - i ≡ suc (m - (i + 1)) = omega arith in
    ap (λ k. set (take i xs ++ replicate k unused) i (get_or xs i d)) left
    ∙ set_at (take i xs) unused (replicate (m - (i + 1)) unused) (get_or xs i d) i (length-take-le i xs (omega arith))
    ∙ sym (append_assoc (take i xs) (get_or xs i d ∷ []) (replicate (m - (i + 1)) unused))
    ∙ ap (λ ys. ys ++ replicate (m - (i + 1)) unused) (sym (take_more xs i d low))

pub filled_all : {X : Type 0} (m : ℕ) (xs : List X) (i : ℕ) (unused : X) → i ≡ length xs → take i xs ++ replicate (m - i) unused ≡ xs ++ replicate (m - length xs) unused
filled_all m xs i unused all = ap (λ k. take k xs ++ replicate (m - k) unused) all ∙ ap (λ ys. ys ++ replicate (m - length xs) unused) (take_all (length xs) xs (omega arith))
