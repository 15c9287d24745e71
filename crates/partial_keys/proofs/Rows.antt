-- The bits of a row.
pub mod Growing
pub mod Joining
pub mod Lanes
use Rattle.partial_keys.proofs.Common.{Bool, List, [], ap, arith, bit_and, bit_or, cond, div-add-mod', eqb, false, get_or, length, map, not, refl, replicate, suc, sym, take, true, zero, ℕ, ◌%◌, ◌&&◌, ◌*◌, ◌++◌, ◌+◌, ◌-◌, ◌/◌, ◌<◌, ◌^◌, ◌||◌, ◌∙◌, ◌∷◌, ◌≡◌, ◌≤◌, div-lt_iff_lt-mul, pow-suc, and_from, and_parts, eq-eqb, eqb-true, and_block, and_comm, and_le_l, mod_below, or_block, pow_pos, same_from_place, bit_at-zero, bit_at_cat_high, bit_at_cat_low, bit_at, code-lt, code-shifted, code, inside, kept-pad, same_bools, all_at, all_from, all_weaker, kept, has, all}
use Rattle.partial_keys.specs.Rows.{complies}
use Rattle.partial_keys.specs.Squeezed.{bits_of, squeezed}

-- 1 or 0
abbrev pub digit : Bool → ℕ
digit b = cond b 1 0

pub digit_place : (b : Bool) (m : ℕ) → cond b m 0 ≡ digit b * m
digit_place true m = omega arith
digit_place false m = omega arith

both_parts : (m a b r s : ℕ) → r < m → s < m → eqb (a * m + r) (b * m + s) ≡ (eqb a b && eqb r s)
both_parts m a b r s lr ls = same_bools _ _
    (λ e. let p : (a ≡ b) × (r ≡ s) = same_from_place a r b s m lr ls (eqb-true _ _ e) in and_from _ _ (eq-eqb a b p.0) (eq-eqb r s p.1))
    (λ e. let p : (eqb a b ≡ true) × (eqb r s ≡ true) = and_parts (eqb a b) (eqb r s) e in
    eq-eqb _ _ (let f : a ≡ b = eqb-true a b p.0 in let g : r ≡ s = eqb-true r s p.1 in rw (f, g)))

one_digit : (f g : Bool) → eqb (bit_and (digit f) (digit g)) (digit g) ≡ (not g || f)
one_digit true true = refl
one_digit true false = refl
one_digit false true = refl
one_digit false false = refl

-- a row complies exactly where the key has a 1 in each column in which the row has one
pub complies-code : (w : ℕ) (f g : ℕ → Bool) (cs : List ℕ) → length cs ≤ w → complies (code w (map f cs)) (code w (map g cs)) ≡ all (λ c. not (g c) || f c) cs
complies-code w f g [] h = refl
complies-code zero f g (c ∷ cs) h = absurd (omega arith)
complies-code (suc w) f g (c ∷ cs) h =
    let r : ℕ = code w (map f cs) in let s : ℕ = code w (map g cs) in
    rw (digit_place (f c) (2 ^ w), digit_place (g c) (2 ^ w), and_block w (digit (f c)) (digit (g c)) r s (code-lt w (map f cs)) (code-lt w (map g cs)))
    (both_parts (2 ^ w) (bit_and (digit (f c)) (digit (g c))) (digit (g c)) (bit_and r s) s (omega (arith, and_le_l r s, code-lt w (map f cs))) (code-lt w (map g cs))
    ∙ rw (one_digit (f c) (g c), complies-code w f g cs (omega arith)) refl)

-- over columns that have each position of the path, a row complies exactly where the key has a 1 at each
pub complies-row : (w : ℕ) (bit : ℕ → Bool) (path cs : List ℕ) → length cs ≤ w → all (has cs) path ≡ true →
    complies (code w (map bit cs)) (code w (map (has path) cs)) ≡ all bit path
complies-row w bit path cs h inside = complies-code w bit (has path) cs h ∙ same_bools _ _ (there path inside) back
  where
    there : (ps : List ℕ) → all (has cs) ps ≡ true → all (λ c. not (has ps c) || bit c) cs ≡ true → all bit ps ≡ true
    there [] i e = refl
    there (p ∷ ps) i e =
        let q : (has cs p ≡ true) × (all (has cs) ps ≡ true) = and_parts (has cs p) (all (has cs) ps) i in
        let at : (not (eqb p p || has ps p) || bit p) ≡ true = all_at (λ c. not (eqb p c || has ps c) || bit c) cs p e q.0 in
        let self : eqb p p ≡ true = eq-eqb p p refl in
        and_from (bit p) (all bit ps) (rw self at at)
        (there ps q.1 (all_weaker (λ c. not (eqb p c || has ps c) || bit c) (λ c. not (has ps c) || bit c) cs (λ c g. fewer (eqb p c) (has ps c) (bit c) g) e))
      where
        fewer : (x y z : Bool) → (not (x || y) || z) ≡ true → (not y || z) ≡ true
        fewer true true z g = g
        fewer true false z g = refl
        fewer false y z g = g

    back : all bit path ≡ true → all (λ c. not (has path c) || bit c) cs ≡ true
    back e = all_from (λ c. not (has path c) || bit c) cs (λ c. at_one c (has path c) (λ x. all_at bit path c e x))
      where
        at_one : (c : ℕ) (x : Bool) → (x ≡ true → bit c ≡ true) → (not x || bit c) ≡ true
        at_one c true g = g refl
        at_one c false g = refl

-- ---- codes of lists
pub code-append : (w : ℕ) (xs ys : List Bool) → length xs ≤ w → code w (xs ++ ys) ≡ code w xs + code (w - length xs) ys
code-append w [] ys l = let e : w - 0 ≡ w = omega arith in rw e (omega arith)
code-append zero (x ∷ xs) ys l = absurd (omega arith)
code-append (suc w) (x ∷ xs) ys l =
    let e : suc w - suc (length xs) ≡ w - length xs = omega arith in
    rw e (omega (arith, code-append w xs ys (omega arith)))

-- two codes joined
pub code-join : (xs ys : List Bool) → length xs ≤ 32 → code 32 (xs ++ ys) ≡ code (length xs) xs * 2 ^ (32 - length xs) + code (32 - length xs) ys
code-join xs ys l = code-append 32 xs ys l ∙ ap (λ n. n + code (32 - length xs) ys) (sym (code-shifted (length xs) (32 - length xs) 32 xs (omega arith) (omega arith)))

one_or : (x y : Bool) → digit (x || y) ≡ bit_or (digit x) (digit y)
one_or true true = refl
one_or true false = refl
one_or false true = refl
one_or false false = refl

pub code-or : (w : ℕ) (f g : ℕ → Bool) (cs : List ℕ) → code w (map (λ c. f c || g c) cs) ≡ bit_or (code w (map f cs)) (code w (map g cs))
code-or w f g [] = refl
code-or zero f g (c ∷ cs) = refl
code-or (suc w) f g (c ∷ cs) =
    let r : ℕ = code w (map f cs) in let s : ℕ = code w (map g cs) in
    rw (
      digit_place (f c || g c) (2 ^ w),
      digit_place (f c) (2 ^ w),
      digit_place (g c) (2 ^ w),
      or_block w (cond (f c) 1 0) (cond (g c) 1 0) r s (code-lt w (map f cs)) (code-lt w (map g cs)),
      code-or w f g cs,
      one_or (f c) (g c),
    ) refl

-- no bit at all
pub code-falses : (w : ℕ) (cs : List ℕ) → code w (map (λ c. false) cs) ≡ 0
code-falses w [] = refl
code-falses zero (c ∷ cs) = refl
code-falses (suc w) (c ∷ cs) = rw (code-falses w cs) refl

-- ---- the bits of codes
bits_of-zero : (w : ℕ) → bits_of w 0 ≡ replicate w false
bits_of-zero zero = refl
bits_of-zero (suc w) = rw (bit_at-zero w, bits_of-zero w) refl

bits_of-low : (k w a r : ℕ) → k ≤ w → bits_of k (a * 2 ^ w + r) ≡ bits_of k r
bits_of-low zero w a r l = refl
bits_of-low (suc k) w a r l = rw (bit_at_cat_low a w r k l, bits_of-low k w a r (omega arith)) refl

top_bit : (w r : ℕ) (b : Bool) → r < 2 ^ w → eqb (bit_at (cond b 1 0 * 2 ^ w + r) w) 1 ≡ b
top_bit w r b l = let z : w - w ≡ 0 = omega arith in ap (λ n. eqb n 1) (bit_at_cat_high (cond b 1 0) w r w l (omega arith)) ∙ (rw z (digit_bit b))
  where
    digit_bit : (b : Bool) → eqb (bit_at (cond b 1 0) 0) 1 ≡ b
    digit_bit true = refl
    digit_bit false = refl

pub bits_of-code : (w : ℕ) (bs : List Bool) → length bs ≤ w → bits_of w (code w bs) ≡ bs ++ replicate (w - length bs) false
bits_of-code w [] l = let z : w - 0 ≡ w = omega arith in rw z (bits_of-zero w)
bits_of-code zero (b ∷ bs) l = absurd (omega arith)
bits_of-code (suc w) (b ∷ bs) l =
    let r : ℕ = code w bs in
    let z : suc w - suc (length bs) ≡ w - length bs = omega arith in
    rw (digit_place b (2 ^ w), top_bit w r b (code-lt w bs), bits_of-low w w (cond b 1 0) r (omega arith), bits_of-code w bs (omega arith), z) refl

pub squeezed-code : (us bs : List Bool) → length us ≡ length bs → length bs ≤ 32 → squeezed (code 32 us) (code 32 bs) ≡ code 32 (kept us bs)
squeezed-code us bs e l = at_width 32 us bs e l
  where
    at_width : (w : ℕ) (us bs : List Bool) → length us ≡ length bs → length bs ≤ w → code w (kept (bits_of w (code w us)) (bits_of w (code w bs))) ≡ code w (kept us bs)
    at_width w us bs e l = rw (bits_of-code w us (omega arith), bits_of-code w bs l, e, kept-pad us bs (w - length bs) e) refl

pub length-bits_of : (w n : ℕ) → length (bits_of w n) ≡ w
length-bits_of zero n = refl
length-bits_of (suc w) n = ap suc (length-bits_of w n)

pub get_or-bits_of : (w n j : ℕ) → j < w → get_or (bits_of w n) j false ≡ eqb (bit_at n (w - 1 - j)) 1
get_or-bits_of zero n j l = absurd (omega arith)
get_or-bits_of (suc w) n zero l = let e : suc w - 1 - 0 ≡ w = omega arith in rw e refl
get_or-bits_of (suc w) n (suc j) l = let e : suc w - 1 - suc j ≡ w - 1 - j = omega arith in rw e (get_or-bits_of w n j (omega arith))

-- ---- any number against a code
-- only the bits that the code has count
pub complies-front : (w : ℕ) (d : ℕ) (gs : List Bool) → d < 2 ^ w → length gs ≤ w → complies d (code w gs) ≡ complies (code w (take (length gs) (bits_of w d))) (code w gs)
complies-front w d [] below l = rw (and_comm d 0) refl
complies-front zero d (g ∷ gs) below l = absurd (omega arith)
complies-front (suc w) d (g ∷ gs) below l =
    let a : ℕ = d / 2 ^ w in let r : ℕ = d % 2 ^ w in let s : ℕ = code w gs in
    let small : r < 2 ^ w = mod_below d (2 ^ w) (pow_pos w) in
    let whole : d ≡ a * 2 ^ w + r = sym (div-add-mod' d (2 ^ w)) in
    let few : a < 2 = below_two d w below in
    let q : ℕ = code w (take (length gs) (bits_of w r)) in
    let bits : bits_of w d ≡ bits_of w r = ap (bits_of w) whole ∙ bits_of-low w w a r (omega arith) in
    let kept_bits : a * 2 ^ w + q ≡ code (suc w) (take (length (g ∷ gs)) (bits_of (suc w) d)) =
    sym (rw bits (ap (λ n. n + q) (digit_place (eqb (bit_at d w) 1) (2 ^ w) ∙ ap (λ n. n * 2 ^ w) (digit_of a few)))) in
    ap (λ n. complies n (cond g (2 ^ w) 0 + s)) whole
    ∙ halves a r small
    ∙ ap (λ v. eqb (bit_and a (digit g)) (digit g) && v) (complies-front w r gs small (omega arith))
    ∙ sym (halves a q (code-lt w (take (length gs) (bits_of w r))))
    ∙ ap (λ n. complies n (cond g (2 ^ w) 0 + s)) kept_bits
  where
    digit_of : (n : ℕ) → n < 2 → digit (eqb (n % 2) 1) ≡ n
    digit_of zero l = refl
    digit_of (suc zero) l = refl
    digit_of (suc (suc n)) l = absurd (omega arith)

    halves : (a r : ℕ) → r < 2 ^ w → complies (a * 2 ^ w + r) (cond g (2 ^ w) 0 + code w gs) ≡ (eqb (bit_and a (digit g)) (digit g) && complies r (code w gs))
    halves a r m = let s : ℕ = code w gs in
        rw (digit_place g (2 ^ w), and_block w a (digit g) r s m (code-lt w gs))
        (both_parts (2 ^ w) (bit_and a (digit g)) (digit g) (bit_and r s) s (omega (arith, and_le_l r s, m)) (code-lt w gs))

    below_two : (d w : ℕ) → d < 2 ^ suc w → d / 2 ^ w < 2
    below_two d w below = (div-lt_iff_lt-mul (pow_pos w)).1 (omega (arith, below, pow-suc 2 w))
