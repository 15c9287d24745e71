-- The fields of a record that was written.
use Rattle.bulk_load.proofs.Common.{◌≡◌, ℕ, ◌+◌, ◌<◌, ◌≤◌, List, get_or, length, nat_lt, subst, if◌then◌else◌, sym, ap, ◌∙◌, arith, lt-ltb, ext_get_or, get_or-set_other, get_or-set_same, length-set, NODE_FIELDS, LEAF_FIELDS, Layout, node_start, leaf_start, leaf_size, HasLeafWords, key_word, leaf_words, up_to_key, words_for, words_of_key, a_node, a_leaf, fields_in}
use Rattle.std.proofs.Common.{set}
use Rattle.std.proofs.lemmas.List.FromFn.{get_or-map-range_with_len, length-map-range_with_len}
use Rattle.record_words.proofs.UpToKey.{spells_up_to_key}

pub node_field : (layout : Layout) (table : List ℕ) (n i : ℕ) → i < NODE_FIELDS → get_or (fields_in layout table (a_node n)) i 0 ≡ get_or table (node_start layout n + (1 + i)) 0
unfolding fields_in
node_field layout table n i h = get_or-map-range_with_len (λ i. get_or table (node_start layout n + (1 + i)) 0) 0 NODE_FIELDS i i 0 h (omega arith)

pub node_fields_long : (layout : Layout) (table : List ℕ) (n : ℕ) → length (fields_in layout table (a_node n)) ≡ NODE_FIELDS
unfolding fields_in
node_fields_long layout table n = length-map-range_with_len (λ i. get_or table (node_start layout n + (1 + i)) 0) 0 NODE_FIELDS

pub leaf_field : (layout : Layout) (table : List ℕ) (n i : ℕ) → i < LEAF_FIELDS →
    get_or (fields_in layout table (a_leaf n)) i 0 ≡ (if nat_lt (1 + i) (leaf_size layout n) then get_or table (leaf_start layout n + (1 + i)) 0 else 0)
unfolding fields_in
leaf_field layout table n i h =
    get_or-map-range_with_len (λ i. if nat_lt (1 + i) (leaf_size layout n) then get_or table (leaf_start layout n + (1 + i)) 0 else 0) 0 LEAF_FIELDS i i 0 h (omega arith)

pub leaf_fields_long : (layout : Layout) (table : List ℕ) (n : ℕ) → length (fields_in layout table (a_leaf n)) ≡ LEAF_FIELDS
unfolding fields_in
leaf_fields_long layout table n =
    length-map-range_with_len (λ i. if nat_lt (1 + i) (leaf_size layout n) then get_or table (leaf_start layout n + (1 + i)) 0 else 0) 0 LEAF_FIELDS

pub node_fields_are : (layout : Layout) (table : List ℕ) (n : ℕ) (words : List ℕ) → length words ≡ NODE_FIELDS →
    ((i : ℕ) → i < length words → get_or table (node_start layout n + (1 + i)) 0 ≡ get_or words i 0) → fields_in layout table (a_node n) ≡ words
node_fields_are layout table n words long each =
    ext_get_or 0 (fields_in layout table (a_node n)) words (node_fields_long layout table n ∙ sym long)
    (λ i h. let low : i < NODE_FIELDS = omega (arith, h, node_fields_long layout table n) in node_field layout table n i low ∙ each i (omega (arith, low, long)))

-- a leaf's words that were written, where they have room
pub leaf_fields_are : (layout : Layout) (old new : List ℕ) (n start count state : ℕ) (leaf : List ℕ × ℕ) → HasLeafWords leaf → words_for (length leaf.0) ≤ leaf_size layout n →
    start ≡ leaf_start layout n → start + 3 ≤ length old → count ≡ length leaf.0 →
    ((k : ℕ) → k < start + 3 → get_or new k 0 ≡ get_or (set (set (set old start state) (start + 1) leaf.1) (start + 2) count) k 0) →
    ((j : ℕ) → j < words_of_key count → get_or new (start + 3 + j) 0 ≡ key_word leaf.0 j) → leaf_words leaf ≡ up_to_key (fields_in layout new (a_leaf n))
leaf_fields_are layout old new n start count state leaf has room is inside counted before key = spells_up_to_key leaf (fields_in layout new (a_leaf n))
    (at 0 (omega arith) (omega arith) ∙ value) (at 1 (omega arith) (omega arith) ∙ size)
    (λ j used few. at (2 + j) (omega (arith, used)) (omega (arith, few)) ∙ (ap (λ k. get_or new k 0) (omega arith) ∙ key j (subst (λ m. j < words_of_key m) (sym counted) used)))
  where
    at : (i : ℕ) → i + 1 < words_for (length leaf.0) → i < 32 → get_or (fields_in layout new (a_leaf n)) i 0 ≡ get_or new (start + (1 + i)) 0
    at i used few = leaf_field layout new n i few ∙
        (ap (λ b. if b then get_or new (leaf_start layout n + (1 + i)) 0 else 0) (lt-ltb (1 + i) (leaf_size layout n) (omega (arith, used, room))) ∙ ap (λ s. get_or new (s + (1 + i)) 0) (sym is))

    value : get_or new (start + (1 + 0)) 0 ≡ leaf.1
    value =
        before (start + 1) (omega arith)
        ∙ get_or-set_other (set (set old start state) (start + 1) leaf.1) (start + 2) (start + 1) count 0 (λ e. absurd (omega (arith, e)))
        ∙ get_or-set_same (set old start state) (start + 1) leaf.1 0 (omega (arith, length-set old start state, inside))

    size : get_or new (start + (1 + 1)) 0 ≡ length leaf.0
    size =
        before (start + 2) (omega arith)
        ∙ get_or-set_same (set (set old start state) (start + 1) leaf.1) (start + 2) count 0
        (omega (arith, length-set (set old start state) (start + 1) leaf.1, length-set old start state, inside))
        ∙ counted
