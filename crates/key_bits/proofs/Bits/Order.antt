-- Distinct keys have a first difference, and the key with 0 there is the smaller one: byte order is bit order.
use Rattle.std.proofs.Common.{◌≡◌, ◌≢◌, ℕ, ◌+◌, ◌<◌, Bool, true, false, cond, List, [], ◌∷◌, suc, refl, subst, sym, ap, ◌∙◌, arith, ◌⊎◌, inl, inr, ⊎_elim}
use Rattle.std.specs.Prelude.{All, ◌↔◌}
use Rattle.std.specs.Cmp.Lexicographic.{slice_cmp, nat_list_cmp_total}
use Rattle.std.specs.Ordering.{nat_cmp, is_lt}
use Rattle.std.specs.declared.cmp.Ordering.{Ordering}
use Rattle.std.specs.declared.cmp.Ordering.TheVariants.{Less, Equal, Greater}
use Rattle.std.proofs.lemmas.Cmp.{tied_itself}
use Rattle.std.proofs.lemmas.Bool.{cases_order, true≢false, lt-ltb, le-ltb, ne_eqb, eq-eqb}
use Rattle.key_bits.specs.Bits.{bit_of, IsFirstDifference, BytesDifferAt}
use Rattle.key_bits.specs.Key.{IsKey}
use Rattle.key_bits.proofs.Bits.Bytes.{bytes_differ}
use Rattle.key_bits.proofs.Bits.{bit_of-head, bit_of-tail, bit_of-byte, first-cons, first-bytes, first-end_left, first-end_right, first-unique}

nat_cmp-same : (x : ℕ) → nat_cmp x x ≡ Equal
nat_cmp-same x = rw (le-ltb x x (omega arith), eq-eqb x x refl) refl

nat_cmp-less : (x y : ℕ) → x < y → nat_cmp x y ≡ Less
nat_cmp-less x y l = rw (lt-ltb x y l) refl

nat_cmp-greater : (x y : ℕ) → y < x → nat_cmp x y ≡ Greater
nat_cmp-greater x y l = rw (le-ltb x y (omega arith), ne_eqb x y (omega arith)) refl

-- the order of two keys of which the first has this bit where they differ first
abbrev order_by : Bool → Ordering
order_by bit = cond bit Greater Less

-- the lists differ first at p, and the bit there is their order
record Parted (a b : List ℕ) (p : ℕ) : Type 0 where
  first : IsFirstDifference a b p
  order : slice_cmp nat_cmp a b ≡ order_by (bit_of a p)

parted-bytes : (x y : ℕ) (a b : List ℕ) (n : ℕ) → n < 8 → x ≢ y → BytesDifferAt x y n → Parted (x ∷ a) (y ∷ b) (1 + n)
parted-bytes x y a b n few ne d = record { first = first-bytes x y a b n few d; order = ⊎_elim (λ e. absurd (ne e)) (λ s. ⊎_elim less greater s) (cases_order x y) }
  where
    less : x < y → slice_cmp nat_cmp (x ∷ a) (y ∷ b) ≡ order_by (bit_of (x ∷ a) (1 + n))
    less l = rw (nat_cmp-less x y l, bit_of-byte x a n few, d.less l) refl

    greater : y < x → slice_cmp nat_cmp (x ∷ a) (y ∷ b) ≡ order_by (bit_of (x ∷ a) (1 + n))
    greater l = rw (nat_cmp-greater x y l, bit_of-byte x a n few, d.more l) refl

parted-cons : (x : ℕ) (a b : List ℕ) (p : ℕ) → Parted a b p → Parted (x ∷ a) (x ∷ b) (9 + p)
parted-cons x a b p d = record {
  first = first-cons x a b p d.first;
  order = rw (nat_cmp-same x) (d.order ∙ ap order_by (sym (bit_of-tail x a p)));
}

abbrev AreBytes : List ℕ → Type 0
AreBytes = All (λ byte. byte < 256)

parted_behind : (x y : ℕ) (a b : List ℕ) → x < 256 → y < 256 → (a ≡ b) ⊎ ((p : ℕ) × Parted a b p) → (x ∷ a ≡ y ∷ b) ⊎ ((p : ℕ) × Parted (x ∷ a) (y ∷ b) p)
parted_behind x y a b lx ly rest = ⊎_elim (λ e. ⊎_elim (λ f. inl cc) (λ more. inr (same e more)) rest)
    (λ s. inr (apart (λ e. ⊎_elim (λ l. omega arith) (λ l. omega arith) s))) (cases_order x y)
  where
    same : x ≡ y → (p : ℕ) × Parted a b p → (p : ℕ) × Parted (x ∷ a) (y ∷ b) p
    same e more = (9 + more.0, subst (λ z. Parted (x ∷ a) (z ∷ b) (9 + more.0)) e (parted-cons x a b more.0 more.1))

    apart : x ≢ y → (p : ℕ) × Parted (x ∷ a) (y ∷ b) p
    apart d = let at : (n : ℕ) × (n < 8) × BytesDifferAt x y n = bytes_differ x y lx ly d in (1 + at.0, parted-bytes x y a b at.0 at.1 d at.2)

-- lists of bytes are equal, or they have a first difference, which is their order
parted : (a b : List ℕ) → AreBytes a → AreBytes b → (a ≡ b) ⊎ ((p : ℕ) × Parted a b p)
parted [] [] ba bb = inl refl
parted [] (y ∷ b) ba bb = inr (0, record { first = first-end_left y b; order = refl })
parted (x ∷ a) [] ba bb = inr (0, record { first = first-end_right x a; order = ap order_by (sym (bit_of-head x a 0 (omega arith))) })
parted (x ∷ a) (y ∷ b) ba bb = parted_behind x y a b (ba 0 0 (omega arith)) (bb 0 0 (omega arith))
    (parted a b (λ k d l. ba (suc k) d (omega arith)) (λ k d l. bb (suc k) d (omega arith)))

module _ (a b : List ℕ) (ka : IsKey a) (kb : IsKey b) where
  -- distinct keys have a first difference
  pub first_difference : a ≢ b → (p : ℕ) × IsFirstDifference a b p
  first_difference ne = ⊎_elim (λ e. absurd (ne e)) (λ at. (at.0, at.1.first)) (parted a b ka.are_bytes kb.are_bytes)

  -- the order of two keys, by the bit at their first difference
  pub slice_cmp-first : (p : ℕ) → IsFirstDifference a b p → slice_cmp nat_cmp a b ≡ cond (bit_of a p) Greater Less
  slice_cmp-first p d = ⊎_elim (λ e. absurd (d.differ (ap (λ key. bit_of key p) e)))
      (λ at. at.1.order ∙ ap (λ q. order_by (bit_of a q)) (first-unique a b at.0 p at.1.first d)) (parted a b ka.are_bytes kb.are_bytes)

  by_bit : (bit : Bool) → slice_cmp nat_cmp a b ≡ order_by bit → ((slice_cmp nat_cmp a b ≡ Less) ↔ (bit ≡ false)) × ((slice_cmp nat_cmp a b ≡ Greater) ↔ (bit ≡ true))
  by_bit true e = ((λ h. cc, λ h. cc), (λ h. refl, λ h. e))
  by_bit false e = ((λ h. refl, λ h. e), (λ h. cc, λ h. cc))

  pub less_by_first : (p : ℕ) → IsFirstDifference a b p → (slice_cmp nat_cmp a b ≡ Less) ↔ (bit_of a p ≡ false)
  less_by_first p d = (by_bit (bit_of a p) (slice_cmp-first p d)).0

  pub greater_by_first : (p : ℕ) → IsFirstDifference a b p → (slice_cmp nat_cmp a b ≡ Greater) ↔ (bit_of a p ≡ true)
  greater_by_first p d = (by_bit (bit_of a p) (slice_cmp-first p d)).1

  -- one key is smaller exactly where it has 0 and the other 1 at a first difference
  pub less_iff_first : (slice_cmp nat_cmp a b ≡ Less) ↔ ((p : ℕ) × IsFirstDifference a b p × (bit_of a p ≡ false))
  less_iff_first = (to, λ h. (less_by_first h.0 h.1).1 h.2)
    where
      to : slice_cmp nat_cmp a b ≡ Less → (p : ℕ) × IsFirstDifference a b p × (bit_of a p ≡ false)
      to l =
          let at : (p : ℕ) × IsFirstDifference a b p = first_difference (λ e. let same : slice_cmp nat_cmp a b ≡ Equal = rw e (tied_itself nat_list_cmp_total b) in
          absurd (true≢false (ap is_lt (sym l ∙ same)))) in
          (at.0, at.1, (less_by_first at.0 at.1).0 l)
