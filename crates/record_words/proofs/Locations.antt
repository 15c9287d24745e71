-- Each word of a table has one location.
use Rattle.record_words.proofs.Common.{◌≡◌, ℕ, ◌+◌, ◌<◌, ◌≤◌, Bool, true, false, nat_lt, if◌then◌else◌, refl, ap, ap₂, ⊎_elim, arith, ltb-true, ltb-false, cases_lt}
use Rattle.record_words.specs.declared.TheConstants.{SHORT_WORDS, MEDIUM_WORDS, LARGE_WORDS, WIDE_WORDS, LEAF_WORDS}
use Rattle.record_words.specs.declared.layout.Layout.{Layout}
use Rattle.record_words.specs.declared.layout.Location.{Location}
use Rattle.record_words.specs.declared.layout.Location.TheVariants.{Epoch, Root, Anchor, Pin, NodeWord, LeafWord}
use Rattle.record_words.specs.Layout.{address, IsInTable, leaf_size, words_below, word_count}

-- the words of a leaf record stand below those of each later one
pub leaf_before : (layout : Layout) (n m : ℕ) → n < m → words_below layout n + leaf_size layout n ≤ words_below layout m
leaf_before layout n m low = go (nat_lt n layout.medium_from) (nat_lt n layout.large_from) (nat_lt n layout.wide_from) (nat_lt n layout.long_from) refl refl refl refl
  where
    go : (a b c d : Bool) → nat_lt n layout.medium_from ≡ a → nat_lt n layout.large_from ≡ b → nat_lt n layout.wide_from ≡ c → nat_lt n layout.long_from ≡ d →
        words_below layout n + (if a then SHORT_WORDS else (if b then MEDIUM_WORDS else (if c then LARGE_WORDS else (if d then WIDE_WORDS else LEAF_WORDS)))) ≤ words_below layout m
    go true b c d w x y z = let is = ltb-true n layout.medium_from w in let (p, q, r, s) = layout.classes_in_order in omega arith
    go false true c d w x y z = let is = ltb-false n layout.medium_from w in let this = ltb-true n layout.large_from x in let (p, q, r, s) = layout.classes_in_order in omega arith
    go false false true d w x y z =
        let is = ltb-false n layout.medium_from w in let this = ltb-false n layout.large_from x in let that = ltb-true n layout.wide_from y in let (p, q, r, s) = layout.classes_in_order in omega arith
    go false false false true w x y z =
        let is = ltb-false n layout.medium_from w in let this = ltb-false n layout.large_from x in let that = ltb-false n layout.wide_from y in let last = ltb-true n layout.long_from z in
        let (p, q, r, s) = layout.classes_in_order in omega arith
    go false false false false w x y z =
        let is = ltb-false n layout.medium_from w in let this = ltb-false n layout.large_from x in let that = ltb-false n layout.wide_from y in let last = ltb-false n layout.long_from z in
        let (p, q, r, s) = layout.classes_in_order in omega arith

-- each class has room for the state, the value, the length and a word of the key, and none has more than a long one
pub size_fits : (layout : Layout) (n : ℕ) → (SHORT_WORDS ≤ leaf_size layout n) × (leaf_size layout n ≤ LEAF_WORDS)
size_fits layout n = go (nat_lt n layout.medium_from) (nat_lt n layout.large_from) (nat_lt n layout.wide_from) (nat_lt n layout.long_from)
  where
    go : (a b c d : Bool) → let size = if a then SHORT_WORDS else (if b then MEDIUM_WORDS else (if c then LARGE_WORDS else (if d then WIDE_WORDS else LEAF_WORDS))) in
        (SHORT_WORDS ≤ size) × (size ≤ LEAF_WORDS)
    go true b c d = (omega arith, omega arith)
    go false true c d = (omega arith, omega arith)
    go false false true d = (omega arith, omega arith)
    go false false false true = (omega arith, omega arith)
    go false false false false = (omega arith, omega arith)

pub address-below : (layout : Layout) (location : Location) → IsInTable layout location → address layout location < word_count layout
address-below layout Epoch inside = omega arith
address-below layout Root inside = omega arith
address-below layout Anchor inside = omega arith
address-below layout (Pin pass) inside = omega arith
address-below layout (NodeWord n offset) inside = omega arith
address-below layout (LeafWord n offset) inside = omega (arith, leaf_before layout n layout.leaves inside.0)

same_leaf_word : {a b c d : ℕ} → a ≡ c → b ≡ d → LeafWord a b ≡ LeafWord c d
same_leaf_word e f = ap₂ LeafWord e f

-- two leaf words have two addresses
leaf_apart : (layout : Layout) (n i m j : ℕ) → i < leaf_size layout n → j < leaf_size layout m → words_below layout n + i ≡ words_below layout m + j → LeafWord n i ≡ LeafWord m j
leaf_apart layout n i m j p q same = ⊎_elim
    (λ (before : n < m). absurd (omega (arith, leaf_before layout n m before)))
    (λ (after : m ≤ n). ⊎_elim
    (λ (behind : m < n). absurd (omega (arith, leaf_before layout m n behind)))
    (λ (here : n ≤ m). let e : n ≡ m = omega arith in same_leaf_word e (let f = ap (words_below layout) e in omega arith))
    (cases_lt m n))
    (cases_lt n m)

-- two locations have two addresses
pub same_location : (layout : Layout) (a b : Location) → IsInTable layout a → IsInTable layout b → address layout a ≡ address layout b → a ≡ b
same_location layout (LeafWord n i) (LeafWord m j) p q same = leaf_apart layout n i m j p.1 q.1 (omega arith)
same_location layout (LeafWord n i) Epoch p q same = absurd (omega arith)
same_location layout (LeafWord n i) Root p q same = absurd (omega arith)
same_location layout (LeafWord n i) Anchor p q same = absurd (omega arith)
same_location layout (LeafWord n i) (Pin o) p q same = absurd (omega arith)
same_location layout (LeafWord n i) (NodeWord m j) p q same = absurd (omega arith)
same_location layout Epoch b p q same = grind arith
same_location layout Root b p q same = grind arith
same_location layout Anchor b p q same = grind arith
same_location layout (Pin o) b p q same = grind arith
same_location layout (NodeWord n i) b p q same = grind arith
