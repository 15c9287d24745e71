-- Gathering bits one by one, the first as the highest.
use Rattle.std.proofs.Common.{◌≡◌, ℕ, zero, suc, ◌+◌, ◌-◌, ◌*◌, ◌^◌, ◌%◌, ◌<◌, ◌≤◌, Bool, true, false, cond, List, [], ◌∷◌, ◌++◌, map, length, get_or, take, refl, subst, sym, ap, ◌∙◌, arith}
use Rattle.std.specs.Prelude.{bit_or}
use Rattle.std.proofs.lemmas.Nat.{or_shifted, pow_pos, pow-add}
use Rattle.std.proofs.lemmas.List.{map_push, take_more, length-map, length-take-le, length_push}
use Rattle.std.proofs.Math.Nat.{pow-suc}
use Rattle.std.proofs.Math.Pow.{pow_mono}
use Rattle.key_bits.specs.Gather.{code, gathered}

pub code-lt : (w : ℕ) (bs : List Bool) → code w bs < 2 ^ w
code-lt w [] = pow_pos w
code-lt zero (b ∷ bs) = pow_pos zero
code-lt (suc w) (true ∷ bs) = omega (arith, code-lt w bs, pow-suc 2 w)
code-lt (suc w) (false ∷ bs) = omega (arith, code-lt w bs, pow-suc 2 w)

-- the number whose binary digits these bits are
abbrev pub binary : List Bool → ℕ
binary bs = code (length bs) bs

-- more places than bits put zeros behind them
pub code-shifted : (w k v : ℕ) (bs : List Bool) → w + k ≡ v → length bs ≤ w → code w bs * 2 ^ k ≡ code v bs
code-shifted w k v [] e l = omega arith
code-shifted zero k v (b ∷ bs) e l = absurd (omega arith)
code-shifted (suc w) k zero (b ∷ bs) e l = absurd (omega arith)
code-shifted (suc w) k (suc v) (b ∷ bs) e l = by_bit b (code-shifted w k v bs (omega arith) (omega arith))
  where
    is : 2 ^ w * 2 ^ k ≡ 2 ^ v
    is = sym (pow-add 2 w k) ∙ ap (λ n. 2 ^ n) (omega arith)

    by_bit : (b : Bool) → code w bs * 2 ^ k ≡ code v bs → (cond b (2 ^ w) 0 + code w bs) * 2 ^ k ≡ cond b (2 ^ v) 0 + code v bs
    by_bit true h = grind (arith, is, h)
    by_bit false h = omega (arith, h)

binary-push : (bs : List Bool) (b : Bool) → binary (bs ++ b ∷ []) ≡ binary bs * 2 + cond b 1 0
binary-push [] true = refl
binary-push [] false = refl
binary-push (x ∷ bs) b = ap (λ n. cond x (2 ^ length (bs ++ b ∷ [])) 0 + n) (binary-push bs b) ∙ by_bit x
  where
    is : 2 ^ length (bs ++ b ∷ []) ≡ 2 ^ length bs * 2
    is = let e : length (bs ++ b ∷ []) ≡ suc (length bs) = omega (arith, length_push bs b) in ap (λ n. 2 ^ n) e ∙ pow-suc 2 (length bs)

    by_bit : (x : Bool) → cond x (2 ^ length (bs ++ b ∷ [])) 0 + (binary bs * 2 + cond b 1 0) ≡ (cond x (2 ^ length bs) 0 + binary bs) * 2 + cond b 1 0
    by_bit true = omega (arith, is)
    by_bit false = omega arith

-- one more bit
binary-more : (f : ℕ → Bool) (ps : List ℕ) (i : ℕ) → i < length ps →
    binary (map f (take (i + 1) ps)) ≡ binary (map f (take i ps)) * 2 + cond (f (get_or ps i 0)) 1 0
binary-more f ps i l = ap (λ qs. binary (map f qs)) (take_more ps i 0 l) ∙ ap binary (map_push f (take i ps) (get_or ps i 0)) ∙ binary-push (map f (take i ps)) (f (get_or ps i 0))

-- `bits << 1 | bit`
pub binary-shl_or : (f : ℕ → Bool) (ps : List ℕ) (i : ℕ) → i < length ps → length ps ≤ 31 →
    bit_or (binary (map f (take i ps)) * 2 % 2 ^ 32) (cond (f (get_or ps i 0)) 1 0) ≡ binary (map f (take (i + 1) ps))
binary-shl_or f ps i l few =
    let n : ℕ = binary (map f (take i ps)) in
    let long : length (map f (take i ps)) ≡ i = length-map (take i ps) f ∙ length-take-le i ps (omega arith) in
    let small : n < 2 ^ i = subst (λ k. n < 2 ^ k) long (code-lt (length (map f (take i ps))) (map f (take i ps))) in
    let top : 2 ^ i ≤ 2 ^ 31 = pow_mono {i = i} {j = 31} (omega arith) in
    let shl : n * 2 % 2 ^ 32 ≡ n * 2 ^ 1 = omega arith in
    rw shl (or_shifted n 1 (cond (f (get_or ps i 0)) 1 0) (digit-lt (f (get_or ps i 0))) ∙ sym (binary-more f ps i l))
  where
    digit-lt : (b : Bool) → cond b 1 0 < 2 ^ 1
    digit-lt true = omega arith
    digit-lt false = omega arith

-- the bits of at most 31 positions, moved to the top
pub binary-gathered : (f : ℕ → Bool) (ps : List ℕ) → length ps ≤ 31 → binary (map f ps) * 2 ^ (31 - length ps) % 2 ^ 32 * 2 % 2 ^ 32 ≡ gathered f ps
binary-gathered f ps few =
    let bs : List Bool = map f ps in
    let long : length bs ≡ length ps = length-map ps f in
    let at : binary bs * 2 ^ (31 - length ps) ≡ code 31 bs = code-shifted (length bs) (31 - length ps) 31 bs (omega arith) (omega arith) in
    let more : code 31 bs * 2 ^ 1 ≡ code 32 bs = code-shifted 31 1 32 bs (omega arith) (omega arith) in
    rw at (omega (arith, code-lt 31 bs, more))
