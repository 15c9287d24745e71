-- Where two lists of bytes differ first, byte by byte.
pub mod Bytes
pub mod Order
use Rattle.std.proofs.Common.{◌≡◌, ◌≢◌, ℕ, zero, suc, ◌+◌, ◌-◌, ◌*◌, ◌/◌, ◌%◌, ◌<◌, ◌≤◌, ◌||◌, eqb, List, [], ◌∷◌, ◌++◌, length, take, drop, min, refl, subst, sym, ap, ap₂, ◌∙◌, arith, length-drop, ⊎_elim}
use Rattle.std.specs.Int.{bit_at}
use Rattle.std.proofs.lemmas.List.{drop-take, take-append-drop, take-take}
use Rattle.std.proofs.lemmas.Nat.Bits.{bit_at-lt}
use Rattle.std.proofs.lemmas.Bool.{cases_lt, cases_order, lt-ltb, ne_eqb, false≢true}
use Prim.Native.Nat.compare
use Rattle.key_bits.specs.Bits.{bit_of, IsFirstDifference, BytesDifferAt}

-- the nine bits of the first byte, and then those of the others
pub bit_of-head : (x : ℕ) (a : List ℕ) (q : ℕ) → q < 9 → bit_of (x ∷ a) q ≡ (eqb q 0 || eqb (bit_at x (8 - q)) 1)
bit_of-head x a q l = let d : q / 9 ≡ 0 = omega arith in let m : q % 9 ≡ q = omega arith in
    rw (d, m, lt-ltb 0 (suc (length a)) (omega arith)) refl

pub bit_of-tail : (x : ℕ) (a : List ℕ) (q : ℕ) → bit_of (x ∷ a) (9 + q) ≡ bit_of a q
bit_of-tail x a q = let d : (9 + q) / 9 ≡ suc (q / 9) = omega arith in let m : (9 + q) % 9 ≡ q % 9 = omega arith in
    rw (d, m, compare.suc-suc (suc (q / 9)) (length a)) refl

-- a common first byte moves the first difference by nine bits
pub first-cons : (x : ℕ) (a b : List ℕ) (p : ℕ) → IsFirstDifference a b p → IsFirstDifference (x ∷ a) (x ∷ b) (9 + p)
first-cons x a b p d = record {
  differ = λ e. d.differ (sym (bit_of-tail x a p) ∙ e ∙ bit_of-tail x b p);
  agree = λ q l. ⊎_elim (λ (m : q < 9). bit_of-head x a q m ∙ sym (bit_of-head x b q m))
      (λ (m : 9 ≤ q). let is : q ≡ 9 + (q - 9) = omega arith in
      rw is (bit_of-tail x a (q - 9) ∙ d.agree (q - 9) (omega arith) ∙ sym (bit_of-tail x b (q - 9)))) (cases_lt q 9);
}

bits_differ : (u v : ℕ) → u < 2 → v < 2 → u ≢ v → eqb u 1 ≢ eqb v 1
bits_differ zero zero lu lv ne e = ne refl
bits_differ zero (suc zero) lu lv ne e = cc
bits_differ (suc zero) zero lu lv ne e = cc
bits_differ (suc zero) (suc zero) lu lv ne e = ne refl
bits_differ (suc (suc u)) v lu lv ne e = omega arith
bits_differ u (suc (suc v)) lu lv ne e = omega arith

-- a bit of the first byte, counted behind its mark
pub bit_of-byte : (x : ℕ) (a : List ℕ) (n : ℕ) → n < 8 → bit_of (x ∷ a) (1 + n) ≡ eqb (bit_at x (7 - n)) 1
bit_of-byte x a n l =
    let e : 8 - (1 + n) ≡ 7 - n = omega arith in
    bit_of-head x a (1 + n) (omega arith) ∙ rw (ne_eqb (1 + n) 0 (omega arith), e) refl

-- two first bytes that differ
pub first-bytes : (x y : ℕ) (a b : List ℕ) (n : ℕ) → n < 8 → BytesDifferAt x y n → IsFirstDifference (x ∷ a) (y ∷ b) (1 + n)
first-bytes x y a b n few d = record {
  differ = λ e. bits_differ _ _ (bit_at-lt _ _) (bit_at-lt _ _) d.differ (sym (bit_of-byte x a n few) ∙ e ∙ bit_of-byte y b n few);
  agree = λ q l. ⊎_elim (λ (m : q < 1). let is : q ≡ 0 = omega arith in rw is (bit_of-head x a 0 (omega arith) ∙ sym (bit_of-head y b 0 (omega arith))))
      (λ (m : 1 ≤ q). let is : q ≡ 1 + (q - 1) = omega arith in
      rw is (bit_of-byte x a (q - 1) (omega arith) ∙ ap (λ v. eqb v 1) (d.agree (q - 1) (omega arith)) ∙ sym (bit_of-byte y b (q - 1) (omega arith)))) (cases_lt q 1);
}

-- a key that ends where the other goes on
pub first-end_left : (y : ℕ) (b : List ℕ) → IsFirstDifference [] (y ∷ b) 0
first-end_left y b = record { differ = λ e. false≢true (e ∙ bit_of-head y b 0 (omega arith)); agree = λ q l. absurd (omega arith) }

pub first-end_right : (x : ℕ) (a : List ℕ) → IsFirstDifference (x ∷ a) [] 0
first-end_right x a = record { differ = λ e. false≢true (sym e ∙ bit_of-head x a 0 (omega arith)); agree = λ q l. absurd (omega arith) }

-- of two lists one is empty
first-empty : (a b : List ℕ) → min (length a) (length b) ≡ 0 → length a ≢ length b → IsFirstDifference a b 0
first-empty [] [] e ne = absurd (ne refl)
first-empty [] (y ∷ b) e ne = first-end_left y b
first-empty (x ∷ a) [] e ne = first-end_right x a
first-empty (x ∷ a) (y ∷ b) e ne = absurd (omega arith)

pub first-unique : (a b : List ℕ) (p q : ℕ) → IsFirstDifference a b p → IsFirstDifference a b q → p ≡ q
first-unique a b p q d e = ⊎_elim (λ is. is) (λ s. ⊎_elim (λ l. absurd (d.differ (e.agree p l))) (λ l. absurd (e.differ (d.agree q l))) s) (cases_order p q)

-- behind a common front of i bytes
pub first-drop : (i : ℕ) (a b : List ℕ) (p : ℕ) → i ≤ length a → i ≤ length b → take i a ≡ take i b →
    IsFirstDifference (drop i a) (drop i b) p → IsFirstDifference a b (9 * i + p)
first-drop zero a b p la lb same d = let e : 9 * 0 + p ≡ p = omega arith in rw e d
first-drop (suc i) [] b p la lb same d = absurd (omega arith)
first-drop (suc i) (x ∷ a) [] p la lb same d = absurd (omega arith)
first-drop (suc i) (x ∷ a) (y ∷ b) p la lb same d =
    let e : x ≡ y = cc in
    let more : take i a ≡ take i b = cc in
    let at : 9 * suc i + p ≡ 9 + (9 * i + p) = omega arith in
    rw at (subst (λ z. IsFirstDifference (x ∷ a) (z ∷ b) (9 + (9 * i + p))) e (first-cons x a b (9 * i + p) (first-drop i a b p (omega arith) (omega arith) more d)))

-- one is a proper front of the other
pub first-front : (a b : List ℕ) (n : ℕ) → n ≡ min (length a) (length b) → length a ≢ length b → take n a ≡ take n b → IsFirstDifference a b (9 * n)
first-front a b n e ne same =
    let at : 9 * n ≡ 9 * n + 0 = omega arith in
    let la : length (drop n a) ≡ length a - n = length-drop n a in
    let lb : length (drop n b) ≡ length b - n = length-drop n b in
    rw at (first-drop n a b 0 (omega arith) (omega arith) same (first-empty (drop n a) (drop n b) (omega arith) (λ f. ne (omega arith))))

-- ---- lists that begin alike
take_sum : (n m : ℕ) (xs : List ℕ) → take (n + m) xs ≡ take n xs ++ take m (drop n xs)
take_sum n m xs = sym (take-append-drop n (take (n + m) xs)) ∙ ap₂ (λ front on. front ++ on) (take-take n (n + m) xs (omega arith)) (drop-take n m xs)

-- two that begin alike, and go on alike
pub take_both : (n m : ℕ) (xs ys : List ℕ) → take n xs ≡ take n ys → take m (drop n xs) ≡ take m (drop n ys) → take (n + m) xs ≡ take (n + m) ys
take_both n m xs ys front on = take_sum n m xs ∙ (ap₂ (λ one more. one ++ more) front on ∙ sym (take_sum n m ys))
