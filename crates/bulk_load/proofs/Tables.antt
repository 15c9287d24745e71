-- The cursors of the classes of leaf records.
pub mod Putting
use Rattle.bulk_load.proofs.Common.{◌≡◌, ◌≢◌, inl, inr, ℕ, zero, suc, ◌+◌, ◌<◌, ◌≤◌, Bool, true, false, nat_lt, List, [], ◌∷◌, get_or, if◌then◌else◌, length, refl, ap, sym, subst, ◌∙◌, arith, set, cases_order, ltb-true, ltb-false, lt-ltb, le-ltb, get_or-set_same, get_or-set_other, Layout, Free, SHORT_WORDS, MEDIUM_WORDS, LARGE_WORDS, WIDE_WORDS, LEAF_WORDS, leaf_size, state_word, a_leaf, leaf_number}
use Rattle.bulk_load.specs.Tables.{AreCursors, IsCursorOf, IsPut, end_of_class, leaf_class, state_in}
use Rattle.bulk_load.proofs.Tables.Putting.{state_stays}

-- how many words a record of a class has
abbrev size_in : ℕ → ℕ
size_in zero = SHORT_WORDS
size_in (suc zero) = MEDIUM_WORDS
size_in (suc (suc zero)) = LARGE_WORDS
size_in (suc (suc (suc zero))) = WIDE_WORDS
size_in (suc (suc (suc (suc i)))) = LEAF_WORDS

size_by_class : (layout : Layout) (n : ℕ) → leaf_size layout n ≡ size_in (leaf_class layout n)
size_by_class layout n = go (nat_lt n layout.medium_from) (nat_lt n layout.large_from) (nat_lt n layout.wide_from) (nat_lt n layout.long_from)
  where
    go : (a b c d : Bool) → (if a then SHORT_WORDS else (if b then MEDIUM_WORDS else (if c then LARGE_WORDS else (if d then WIDE_WORDS else LEAF_WORDS)))) ≡
        size_in (if a then 0 else (if b then 1 else (if c then 2 else (if d then 3 else 4))))
    go true b c d = refl
    go false true c d = refl
    go false false true d = refl
    go false false false true = refl
    go false false false false = refl

-- records of one class have one size
pub same_size : (layout : Layout) (n m : ℕ) → leaf_class layout n ≡ leaf_class layout m → leaf_size layout n ≡ leaf_size layout m
same_size layout n m e = size_by_class layout n ∙ (ap size_in e ∙ sym (size_by_class layout m))

pub few_classes : (layout : Layout) (n : ℕ) → leaf_class layout n < 5
few_classes layout n = go (nat_lt n layout.medium_from) (nat_lt n layout.large_from) (nat_lt n layout.wide_from) (nat_lt n layout.long_from)
  where
    go : (a b c d : Bool) → (if a then 0 else (if b then 1 else (if c then 2 else (if d then 3 else 4)))) < 5
    go true b c d = omega arith
    go false true c d = omega arith
    go false false true d = omega arith
    go false false false true = omega arith
    go false false false false = omega arith

-- a number is before the end of its class
pub below_end : (layout : Layout) (n : ℕ) → n < layout.leaves → n < end_of_class layout (leaf_class layout n)
below_end layout n low = go (nat_lt n layout.medium_from) (nat_lt n layout.large_from) (nat_lt n layout.wide_from) (nat_lt n layout.long_from) refl refl refl refl
  where
    go : (a b c d : Bool) → nat_lt n layout.medium_from ≡ a → nat_lt n layout.large_from ≡ b → nat_lt n layout.wide_from ≡ c → nat_lt n layout.long_from ≡ d →
        n < end_of_class layout (if a then 0 else (if b then 1 else (if c then 2 else (if d then 3 else 4))))
    go true b c d w x y z = ltb-true n layout.medium_from w
    go false true c d w x y z = ltb-true n layout.large_from x
    go false false true d w x y z = ltb-true n layout.wide_from y
    go false false false true w x y z = ltb-true n layout.long_from z
    go false false false false w x y z = low

-- where a class begins
abbrev pub firsts : Layout → List ℕ
firsts layout = 0 ∷ (layout.medium_from ∷ (layout.large_from ∷ (layout.wide_from ∷ (layout.long_from ∷ []))))

-- the number is one of a class
pub record IsOfClass (layout : Layout) (n i : ℕ) : Type 0 where
  pub from : get_or (firsts layout) i 0 ≤ n
  pub upto : i < 4 → n < get_or (firsts layout) (i + 1) 0

of_its_class : (layout : Layout) (n : ℕ) → IsOfClass layout n (leaf_class layout n)
of_its_class layout n = go (nat_lt n layout.medium_from) (nat_lt n layout.large_from) (nat_lt n layout.wide_from) (nat_lt n layout.long_from) refl refl refl refl
  where
    go : (a b c d : Bool) → nat_lt n layout.medium_from ≡ a → nat_lt n layout.large_from ≡ b → nat_lt n layout.wide_from ≡ c → nat_lt n layout.long_from ≡ d →
        IsOfClass layout n (if a then 0 else (if b then 1 else (if c then 2 else (if d then 3 else 4))))
    go true b c d w x y z = record { from = omega arith; upto = λ h. ltb-true n layout.medium_from w }
    go false true c d w x y z = record { from = ltb-false n layout.medium_from w; upto = λ h. ltb-true n layout.large_from x }
    go false false true d w x y z = record { from = ltb-false n layout.large_from x; upto = λ h. ltb-true n layout.wide_from y }
    go false false false true w x y z = record { from = ltb-false n layout.wide_from y; upto = λ h. ltb-true n layout.long_from z }
    go false false false false w x y z = record { from = ltb-false n layout.long_from z; upto = λ h. absurd (omega (arith, h)) }

class_if : (layout : Layout) (n i : ℕ) → i < 5 → IsOfClass layout n i → leaf_class layout n ≡ i
class_if layout n zero few h = rw (lt-ltb n layout.medium_from (h.upto (omega arith))) refl
class_if layout n (suc zero) few h = rw (le-ltb n layout.medium_from h.from, lt-ltb n layout.large_from (h.upto (omega arith))) refl
class_if layout n (suc (suc zero)) few h =
    let (p, q, r, s) = layout.classes_in_order in let low = h.from in
    rw (le-ltb n layout.medium_from (omega (arith, low, p)), le-ltb n layout.large_from low, lt-ltb n layout.wide_from (h.upto (omega arith))) refl
class_if layout n (suc (suc (suc zero))) few h =
    let (p, q, r, s) = layout.classes_in_order in let low = h.from in
    rw (le-ltb n layout.medium_from (omega (arith, low, p, q)), le-ltb n layout.large_from (omega (arith, low, q)), le-ltb n layout.wide_from low, lt-ltb n layout.long_from (h.upto (omega arith))) refl
class_if layout n (suc (suc (suc (suc zero)))) few h =
    let (p, q, r, s) = layout.classes_in_order in let low = h.from in
    rw (le-ltb n layout.medium_from (omega (arith, low, p, q, r)), le-ltb n layout.large_from (omega (arith, low, q, r)), le-ltb n layout.wide_from (omega (arith, low, r)), le-ltb n layout.long_from low) refl
class_if layout n (suc (suc (suc (suc (suc i))))) few h = absurd (omega (arith, few))

-- a number between two of one class is of the class
class_between : (layout : Layout) (n m k : ℕ) → n ≤ m → m ≤ k → leaf_class layout n ≡ leaf_class layout k → leaf_class layout m ≡ leaf_class layout k
class_between layout n m k low high same =
    let a = of_its_class layout n in let b = of_its_class layout k in let from : get_or (firsts layout) (leaf_class layout k) 0 ≤ n = subst (λ i. get_or (firsts layout) i 0 ≤ n) same a.from in
    class_if layout m (leaf_class layout k) (few_classes layout k) (record { from = omega (arith, from, low); upto = λ h. let u = b.upto h in omega (arith, u, high) })

-- ---- at first
-- the cursors stand where their classes begin, if each record is free
pub first_cursors : (layout : Layout) (table : List ℕ) → ((n : ℕ) → n < layout.leaves → state_in layout table (a_leaf n) ≡ state_word Free) → AreCursors layout table (firsts layout)
first_cursors layout table free n low =
    let a = of_its_class layout n in let next = get_or (firsts layout) (leaf_class layout n) 0 in record {
      taken = λ h. a.from;
      free = λ h. (free n low, class_if layout next (leaf_class layout n) (few_classes layout n) (record { from = omega arith; upto = λ i. let u = a.upto i in omega (arith, u, h) }));
    }

-- ---- once the next record of a class is taken
module _ (layout : Layout) (old new cursors : List ℕ) (r : ℕ) (are : AreCursors layout old cursors) (five : length cursors ≡ 5) (inside : r < layout.leaves)
    (next : get_or cursors (leaf_class layout r) 0 ≡ r) (put : IsPut layout old new (a_leaf r)) where
  abbrev moved : List ℕ
  moved = set cursors (leaf_class layout r) (r + 1)

  stays : (n : ℕ) → n < layout.leaves → n ≢ r → state_in layout new (a_leaf n) ≡ state_in layout old (a_leaf n)
  stays n low ne = state_stays layout old new (a_leaf r) (a_leaf n) put inside low (λ e. ne (leaf_number e))

  not_it : (n : ℕ) → state_in layout new (a_leaf n) ≡ state_word Free → n ≢ r
  not_it n free e = absurd (let live = put.state in let there : state_in layout new (a_leaf r) ≡ state_word Free = subst (λ m. state_in layout new (a_leaf m) ≡ state_word Free) e free in omega (arith, live, there))

  in_class : (n : ℕ) → n < layout.leaves → leaf_class layout n ≡ leaf_class layout r → IsCursorOf layout new (r + 1) n
  in_class n low same =
      let was : IsCursorOf layout old r n = subst (λ m. IsCursorOf layout old m n) (ap (λ i. get_or cursors i 0) same ∙ next) (are n low) in record {
        taken = λ free. let ne = not_it n free in let le = was.taken (sym (stays n low ne) ∙ free) in grind (arith, ne, le);
        free = λ h. (stays n low (λ e. omega (arith, e, h)) ∙ (was.free (omega (arith, h))).0, class_between layout r (r + 1) n (omega arith) h (sym same));
      }

  other_class : (n : ℕ) → n < layout.leaves → leaf_class layout n ≢ leaf_class layout r → IsCursorOf layout new (get_or cursors (leaf_class layout n) 0) n
  other_class n low other =
      let was = are n low in let ne : n ≢ r = λ e. other (ap (leaf_class layout) e) in record {
        taken = λ free. was.taken (sym (stays n low ne) ∙ free);
        free = λ h. (stays n low ne ∙ (was.free h).0, (was.free h).1);
      }

  pub cursors_moved : AreCursors layout new moved
  cursors_moved n low = elim (cases_order (leaf_class layout n) (leaf_class layout r)) [
    | inl e ↦ subst (λ m. IsCursorOf layout new m n)
        (sym (ap (λ i. get_or moved i 0) e ∙ get_or-set_same cursors (leaf_class layout r) (r + 1) 0 (omega (arith, five, few_classes layout r)))) (in_class n low e)
    | inr o ↦ (let ne : leaf_class layout n ≢ leaf_class layout r = λ e. elim o [ inl a ↦ omega (arith, a, e) | inr b ↦ omega (arith, b, e) ] in
        subst (λ m. IsCursorOf layout new m n) (sym (get_or-set_other cursors (leaf_class layout r) (leaf_class layout n) (r + 1) 0 ne)) (other_class n low ne))
  ]

-- ---- the next record with room
-- where no cursor stands at a free record with room, none is left
pub none_left : (layout : Layout) (table cursors : List ℕ) (words : ℕ) → AreCursors layout table cursors →
    ((i : ℕ) → i < 5 → get_or cursors i 0 < layout.leaves → leaf_class layout (get_or cursors i 0) ≡ i → state_in layout table (a_leaf (get_or cursors i 0)) ≡ state_word Free →
    leaf_size layout (get_or cursors i 0) < words) → (n : ℕ) → n < layout.leaves → words ≤ leaf_size layout n → state_in layout table (a_leaf n) ≢ state_word Free
none_left layout table cursors words are short n low room free =
    let c = are n low in let i = leaf_class layout n in let next = get_or cursors i 0 in let le = c.taken free in let in_it = (c.free le).1 in
    let itself : IsCursorOf layout table next next = subst (λ j. IsCursorOf layout table (get_or cursors j 0) next) in_it (are next (omega (arith, le, low))) in
    let less = short i (few_classes layout n) (omega (arith, le, low)) in_it (itself.free (omega arith)).0 in
    let size = same_size layout next n in_it in omega (arith, less, size, room)
