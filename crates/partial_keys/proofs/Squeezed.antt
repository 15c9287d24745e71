-- The steps of the functions that keep some columns and join rows.
pub mod Closing
use Rattle.partial_keys.proofs.Common.{Bool, List, [], ap, arith, bit_and, bit_or, cond, drop, eqb, false, get_or, length, refl, replicate, sym, take, true, ℕ, ◌++◌, ◌+◌, ◌-◌, ◌/◌, ◌<◌, ◌^◌, ◌∙◌, ◌∷◌, ◌≡◌, ◌≢◌, ◌≤◌, eq-eqb, ne_eqb, append-nil, drop_more, or_comm, bit_at-lt, shr_and_one, bit_at, code, kept_suc, kept_over, kept}
use Rattle.std.proofs.Math.Numerals.{add-one}
use Rattle.partial_keys.proofs.Rows.{bits_of-code, get_or-bits_of}
use Rattle.partial_keys.specs.Squeezed.{bits_of, used_bits, or_all}

pub is_one : (n v : ℕ) → bit_and (n / 2 ^ v) 1 ≢ 0 → eqb (bit_at n v) 1 ≡ true
is_one n v h = let e : bit_and (n / 2 ^ v) 1 ≡ bit_at n v = shr_and_one n v in eq-eqb (bit_at n v) 1 (omega (arith, e, h, bit_at-lt n v))

pub is_zero : (n v : ℕ) → bit_and (n / 2 ^ v) 1 ≡ 0 → eqb (bit_at n v) 1 ≡ false
is_zero n v h = let e : bit_and (n / 2 ^ v) 1 ≡ bit_at n v = shr_and_one n v in ne_eqb (bit_at n v) 1 (λ f. omega (arith, e, h, f))

pub or_all_step : (rows : List ℕ) (i : ℕ) → 0 < i → i ≤ length rows → bit_or (or_all (drop i rows)) (get_or rows (i - 1) 0) ≡ or_all (drop (i - 1) rows)
or_all_step rows i p l =
    let e : i - 1 + 1 ≡ i = omega arith in
    let d : drop (i - 1) rows ≡ get_or rows (i - 1) 0 ∷ drop i rows = drop_more rows (i - 1) 0 (omega arith) ∙ (rw e refl) in
    rw d (or_comm (or_all (drop i rows)) (get_or rows (i - 1) 0))

pub kept_set : (used : ℕ) (cs : List ℕ) (j : ℕ) → j < length cs → length cs ≤ 31 → bit_and (used / 2 ^ (31 - j)) 1 ≡ 1 →
    kept (used_bits used) (take (j + 1) cs) ≡ kept (used_bits used) (take j cs) ++ get_or cs j 0 ∷ []
unfolding used_bits
kept_set used cs j l few e =
    let b : get_or (bits_of 32 used) j false ≡ true = get_or-bits_of 32 used j (omega arith) ∙ eq-eqb _ _ (sym (shr_and_one used (31 - j)) ∙ e) in
    rw add-one (kept_suc (bits_of 32 used) cs j (omega arith) l ∙ ap (λ v. kept (bits_of 32 used) (take j cs) ++ cond v (get_or cs j 0 ∷ []) []) b)

pub kept_clear : (used : ℕ) (cs : List ℕ) (j : ℕ) → j < length cs → length cs ≤ 31 → bit_and (used / 2 ^ (31 - j)) 1 ≢ 1 →
    kept (used_bits used) (take (j + 1) cs) ≡ kept (used_bits used) (take j cs)
unfolding used_bits
kept_clear used cs j l few e =
    let b : get_or (bits_of 32 used) j false ≡ false = get_or-bits_of 32 used j (omega arith) ∙ ne_eqb _ _ (λ f. e (shr_and_one used (31 - j) ∙ f)) in
    rw add-one (kept_suc (bits_of 32 used) cs j (omega arith) l ∙ ap (λ v. kept (bits_of 32 used) (take j cs) ++ cond v (get_or cs j 0 ∷ []) []) b ∙ append-nil (kept (bits_of 32 used) (take j cs)))

pub kept_coded : (us : List Bool) (cs : List ℕ) → length us ≡ length cs → length us ≤ 32 → kept (used_bits (code 32 us)) cs ≡ kept us cs
unfolding used_bits
kept_coded us cs e l = ap (λ vs. kept vs cs) (bits_of-code 32 us l) ∙ kept_over us (replicate (32 - length us) false) cs e
