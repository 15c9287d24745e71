-- Where two keys part, told by their first difference.
use Rattle.rowex_replay_state.proofs.Common.{◌≡◌, ◌≢◌, ◌↔◌, ℕ, ◌<◌, List, Bool, true, false, not, IsTrue, nat_eq, refl, sym, ◌∙◌, subst, arith, ◌⊎◌, inl, inr, ◌≤◌, false≢true, cases_lt, ne_eqb, bit, IsParted}
use Rattle.key_bits.specs.Bits.{bit_of, IsFirstDifference}

parted_from : (k l : List ℕ) (p : ℕ) → IsFirstDifference k l p → bit_of k p ≡ false → IsParted p k l
unfolding bit
parted_from k l p d z = (d.agree, z, other (bit_of l p) refl)
  where
    other : (b : Bool) → bit_of l p ≡ b → bit_of l p ≡ true
    other true e = e
    other false e = absurd (d.differ (z ∙ sym e))

parted_first : (k l : List ℕ) (f p : ℕ) → IsFirstDifference k l f → IsParted p k l → f ≡ p
unfolding bit
parted_first k l f p d x = go (cases_lt f p) (cases_lt p f)
  where
    go : (f < p) ⊎ (p ≤ f) → (p < f) ⊎ (f ≤ p) → f ≡ p
    go (inl h) g = absurd (d.differ (x.0 f h))
    go (inr h) (inl g) = absurd (false≢true (sym x.1 ∙ (d.agree p g ∙ x.2)))
    go (inr h) (inr g) = omega arith

-- The keys part at `p` exactly where that is their first difference and the first key has 0 there.
pub parts_here : (k l : List ℕ) (f p : ℕ) (b : Bool) → IsFirstDifference k l f → f ≡ p → b ≡ bit_of k p → IsTrue (not b) ↔ IsParted p k l
unfolding bit
parts_here k l f p true d e i = (λ h. absurd (false≢true h), λ x. absurd (false≢true (sym x.1 ∙ sym i)))
parts_here k l f p false d e i = (λ h. parted_from k l p (subst (IsFirstDifference k l) e d) (sym i), λ x. refl)

pub parts_elsewhere : (k l : List ℕ) (f p : ℕ) → IsFirstDifference k l f → f ≢ p → IsTrue (nat_eq f p) ↔ IsParted p k l
parts_elsewhere k l f p d n = (λ h. absurd (false≢true (sym (ne_eqb f p n) ∙ h)), λ x. absurd (n (parted_first k l f p d x)))
