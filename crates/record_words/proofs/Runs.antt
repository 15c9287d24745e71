-- The word of a leaf record of one class, by its distance from the first record of the class.
use Rattle.record_words.proofs.Common.{◌≡◌, ℕ, ◌+◌, ◌-◌, ◌*◌, ◌<◌, ◌≤◌, refl, ap, subst, ◌∙◌, inl, inr, zero, suc, arith, cases_lt, lt-ltb, le-ltb, nat_tests}
use native.Mathlib.Nat.{mul-le-mul_left}
use native.Mathlib.Numerals.{unary_clauses}
use Rattle.record_words.specs.declared.TheConstants.{SHORT_WORDS, MEDIUM_WORDS, LARGE_WORDS, WIDE_WORDS, LEAF_WORDS}
use Rattle.record_words.specs.declared.layout.Layout.{Layout}
use Rattle.record_words.specs.declared.layout.Location.{Location}
use Rattle.record_words.specs.declared.layout.Location.TheVariants.{LeafWord}
use Rattle.record_words.specs.Layout.{address, IsInTable, leaf_size, leaf_start, node_start, words_below}

-- the words below a record are those below the one before it, and that one's own
next_words : (l : Layout) (n : ℕ) → words_below l (n + 1) ≡ words_below l n + leaf_size l n
next_words l n = let (p, q, s, t) = l.classes_in_order in grind (arith, nat_tests)

-- records of one size, from `first` up to `next`
module _ (below : ℕ → ℕ) (first next size : ℕ) (order : first ≤ next) (step : (n : ℕ) → first ≤ n → n < next → below (n + 1) ≡ below n + size) where
  follow : (k : ℕ) → first + k ≤ next → below (first + k) ≡ below first + size * k
  follow zero up = simp unary_clauses refl
  follow (suc k) up =
      let more : first + suc k ≡ first + k + 1 = omega arith in
      ap below more ∙ omega (arith, follow k (omega (arith, up)), step (first + k) (omega arith) (omega (arith, up)))

  inside : (nodes word behind offset : ℕ) → nodes + below first ≤ word → word < nodes + below next → size * behind + offset ≡ word - (nodes + below first) →
      (first + behind < next) × (nodes + below (first + behind) + offset ≡ word)
  inside nodes word behind offset low high sum =
      let whole : first + (next - first) ≡ next = omega (arith, order) in
      let all = subst (λ k. below k ≡ below first + size * (next - first)) whole (follow (next - first) (omega (arith, whole))) in
      elim (cases_lt behind (next - first)) [
        | inl few ↦ (omega (arith, few), omega (arith, follow behind (omega (arith, few)), low, sum))
        | inr many ↦ let far : size * (next - first) ≤ size * behind = mul-le-mul_left size many in absurd (omega (arith, far, all, low, high, sum))
      ]

-- the leaf records from `first` up to `next` have this size
pub record IsClass (l : Layout) (first next size : ℕ) : Type 0 where
  pub order : first ≤ next
  pub within : next ≤ l.leaves
  pub sized : (n : ℕ) → first ≤ n → n < next → leaf_size l n ≡ size

pub short_class : (l : Layout) → IsClass l 0 l.medium_from SHORT_WORDS
short_class l = let (p, q, s, t) = l.classes_in_order in record {
  order = omega arith;
  within = omega arith;
  sized = λ n from low. rw (lt-ltb n l.medium_from low) refl;
}

pub medium_class : (l : Layout) → IsClass l l.medium_from l.large_from MEDIUM_WORDS
medium_class l = let (p, q, s, t) = l.classes_in_order in record {
  order = p;
  within = omega arith;
  sized = λ n from low. rw (le-ltb n l.medium_from from, lt-ltb n l.large_from low) refl;
}

pub large_class : (l : Layout) → IsClass l l.large_from l.wide_from LARGE_WORDS
large_class l = let (p, q, s, t) = l.classes_in_order in record {
  order = q;
  within = omega arith;
  sized = λ n from low. rw (le-ltb n l.medium_from (omega arith), le-ltb n l.large_from from, lt-ltb n l.wide_from low) refl;
}

pub wide_class : (l : Layout) → IsClass l l.wide_from l.long_from WIDE_WORDS
wide_class l = let (p, q, s, t) = l.classes_in_order in record {
  order = s;
  within = t;
  sized = λ n from low. rw (le-ltb n l.medium_from (omega arith), le-ltb n l.large_from (omega arith), le-ltb n l.wide_from from, lt-ltb n l.long_from low) refl;
}

pub long_class : (l : Layout) → IsClass l l.long_from l.leaves LEAF_WORDS
long_class l = let (p, q, s, t) = l.classes_in_order in record {
  order = t;
  within = omega arith;
  sized = λ n from low. rw (le-ltb n l.medium_from (omega arith), le-ltb n l.large_from (omega arith), le-ltb n l.wide_from (omega arith), le-ltb n l.long_from from) refl;
}

-- a word of a class, from its first one on, is at the location with its distance from there
pub class_found : (l : Layout) (first next size : ℕ) → IsClass l first next size → (word before end start : ℕ) (r : Location) → before ≡ leaf_start l first → before ≤ word → end ≡ leaf_start l next → word < end →
    start ≡ leaf_start l first → (behind : ℕ) × (offset : ℕ) × (r ≡ LeafWord (first + behind) offset) × (size * behind + offset ≡ word - start) × (offset < size) → (address l r ≡ word) × IsInTable l r
class_found l first next size class word before end start r is_before low is_end high is_start (behind, offset, is, sum, fits) =
    let (few, at) = inside (words_below l) first next size class.order (λ n from up. subst (λ (k : ℕ). words_below l (n + 1) ≡ words_below l n + k) (class.sized n from up) (next_words l n))
    (node_start l l.nodes) word behind offset (rw is_before at low) (rw is_end at high) (rw is_start at sum) in
    let here : leaf_size l (first + behind) ≡ size = class.sized (first + behind) (omega arith) few in
    rw is (at, (omega (arith, few, class.within), rw here fits))
