-- The key and the value of a leaf, which are loaded one after the other while the value may change.
use Rattle.rowex_reading.proofs.Common.{◌≡◌, ⊎_elim, ℕ, ◌+◌, ◌-◌, ◌<◌, ◌≤◌, List, length, get_or, Some, refl, ap, sym, ◌∙◌, subst, arith, le_trans, cases_lt, Leaf, Layout, LEAF_FIELDS, key_word, leaf_words, IsLeafOf, leaf_words_parts, Key, leaf, a_leaf, Past, KeepsFixedWordsSince, Stands, stands_grown, LoadRef, Value, Known, IsEvent, IsPinnedSince, StoodAs, head_value, IsLater, silent, IsRead, record_leaf}
use Rattle.rowex_reading.specs.Seen.{seen, Sure, IsLedTo}
use Rattle.rowex_reading.proofs.Seen.Loading.{value_taught, taught_now, found_seen}
use Rattle.rowex_reading.proofs.Seen.{IsStable, later_trans, read_stable, recalls_before, seen_steady, since_later}
use Rattle.rowex_reading.proofs.reading.Wording.{led_stood}

-- Words

-- the words of a leaf with the key, but for its value
abbrev pub words_with : Key → List ℕ
words_with key = leaf_words (key, 0)

parts : (key : Key) (value : ℕ) → IsLeafOf (key, value) (leaf_words (key, value))
parts key value = leaf_words_parts (key, value) (leaf_words (key, value)) refl

pub words_long : (key : Key) → length (words_with key) ≡ LEAF_FIELDS
words_long key = (parts key 0).count

pub length_word : (key : Key) → get_or (words_with key) 1 0 ≡ length key
length_word key = (parts key 0).size

pub first_word : (key : Key) → get_or (words_with key) 0 0 ≡ 0
first_word key = (parts key 0).value

pub byte_word : (key : Key) (p : ℕ) → 2 ≤ p → p < LEAF_FIELDS → get_or (words_with key) p 0 ≡ key_word key (p - 2)
byte_word key p past low =
    let is : p ≡ 2 + (p - 2) = omega (arith, past) in
    ap (λ i. get_or (words_with key) i 0) is ∙ (parts key 0).bytes (p - 2) (omega (arith, low, past))

-- they are the same whatever the value is
pub same_words : (key : Key) (value p : ℕ) → 1 ≤ p → p < LEAF_FIELDS → get_or (leaf_words (key, value)) p 0 ≡ get_or (words_with key) p 0
same_words key value p some low = ⊎_elim
    (λ (first : p < 2). (let is : p ≡ 1 = omega (arith, first, some) in rw is ((parts key value).size ∙ sym (parts key 0).size)))
    (λ (later : 2 ≤ p). (let is : p ≡ 2 + (p - 2) = omega (arith, later) in let few : p - 2 < 30 = omega (arith, low, later) in
    ap (λ i. get_or (leaf_words (key, value)) i 0) is ∙ ((parts key value).bytes (p - 2) few ∙ (sym ((parts key 0).bytes (p - 2) few) ∙ ap (λ i. get_or (words_with key) i 0) (sym is)))))
    (cases_lt p 2)

-- Versions

-- the leaf stood since m with this key
abbrev pub StoodWithKey : Past → ℕ → ℕ → Key → Type 0
StoodWithKey s m n key = (value : ℕ) × IsRead s m n key value

-- and with this value
abbrev pub StoodWithValue : Past → ℕ → ℕ → ℕ → Type 0
StoodWithValue s m n value = StoodAs s m s.now (a_leaf n) (λ u. head_value u ≡ Some value)

pub keyed_stable : (m n : ℕ) (key : Key) → IsStable (λ s. StoodWithKey s m n key)
keyed_stable m n key a b g (value, read) = (value, read_stable m n key value a b g read)

pub valued_stable : (m n value : ℕ) → IsStable (λ s. StoodWithValue s m n value)
valued_stable m n value a b g (o, u, lo, hi, st, is) = (o, u, lo, le_trans hi g.longer, stands_grown a b g o (a_leaf n) u hi st, is)

-- where it had the value it had the key
read_so : (s : Past) (m n : ℕ) → KeepsFixedWordsSince s m → (key : Key) (value : ℕ) → StoodWithKey s m n key → StoodWithValue s m n value → IsRead s m n key value
read_so s m n steady key value (v, (o, lo, hi, st)) (a, u, from, to, stands, is) = go (record_leaf n u stands.is_record)
  where
    go : (k : Key) × (w : ℕ) × (u ≡ leaf n k w) → IsRead s m n key value
    go (k, w, leaf_is) =
        let there : Stands s a (a_leaf n) (leaf n k w) = subst (Stands s a (a_leaf n)) leaf_is stands in
        let same : key ≡ k = steady.same (a_leaf n) o a (leaf n key v) (leaf n k w) lo hi from to st there in
        let found : Some w ≡ Some value = sym (ap head_value leaf_is) ∙ is in
        let value_is : w ≡ value = cc in
        (a, from, to, subst (λ x. Stands s a (a_leaf n) (leaf n x value)) (sym same) (subst (λ x. Stands s a (a_leaf n) (leaf n k x)) value_is there))

-- Of a pass

pub both_read : (k : Known) (m n : ℕ) (key : Key) (value : ℕ) → IsPinnedSince k m → Sure k (λ s. StoodWithKey s m n key) → Sure k (λ s. StoodWithValue s m n value) → Sure k (λ s. IsRead s m n key value)
both_read k m n key value pinned keyed valued c lawful known =
    read_so (seen c k) m n (seen_steady lawful known pinned) key value (keyed c lawful known) (valued c lawful known)

-- what a load of the value tells
pub value_read : (layout : Layout) (k j i : Known) (n value : ℕ) → IsLater k j → IsEvent layout (LoadRef (Value n) value) silent j i → (m : ℕ) → IsLedTo k m (Leaf n) → Sure i (λ s. StoodWithValue s m n value)
value_read layout k j i n value later event m led c lawful known =
    let since : IsPinnedSince j m = since_later later led.0 in
    let taught = value_taught layout j i since.0 since.1 n value event in
    let both = later_trans later taught.later in
    found_seen event.core c k i since.0.version m (a_leaf n) (λ u. head_value u ≡ Some value) (taught_now event.lawful taught) both since.2
    ((led_stood k m (Leaf n) led).1 c lawful (recalls_before both known)) (taught.fact c known).1
