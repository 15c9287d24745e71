-- What the words of a record in reach say of it in a version since the pin.
use Rattle.rowex_core.proofs.Common.{◌≡◌, ℕ, zero, suc, ◌+◌, ◌-◌, ◌<◌, ◌≤◌, length, get_or, Some, None, nat_lt, if◌then◌else◌, sym, ap, ◌∙◌, arith, le_refl, le_trans, piece, size, leaf_words, fixed_words, up_to_key_before, Tree, leaf, node, fork, subtrie, Subtrie, Fixed, entry_at, Rec, a_node, a_leaf, NodeWords, LeafWords, IsCopied, Stands, IsReach, last_of, Spans, IsRecord, State, Fate, Free, HeldBy, ReadyBy, InTree, UnlinkedBy, Marked, life_of, versions_of, spans_last, spans_ended, reach_later, entry_of, node_number, leaf_number}
use Rattle.rowex_core.specs.declared.known.Fact.TheVariants.{Placed, Fixed as FixedWord, Valued}
use Rattle.rowex_core.specs.Reading.{node_words_of, leaf_of, IsPacked, entry_in, head_value, HasWordAt}
use Rattle.rowex_core.specs.Cores.{Core, IsLawful, IsPastFilling, heap_of, bare}
use Rattle.rowex_core.specs.Words.{record_word}
use Rattle.rowex_core.specs.Events.{IsFixedOffset}
use Rattle.rowex_core.specs.Knowing.{StoodBetween, IsFact}
use Rattle.rowex_core.proofs.Reading.Leafing.{leaf_is, leaf_size_is}
use Rattle.rowex_core.proofs.Reading.{node_is, entry_at_is, fixed_word_is}

-- the core without the words: versions, lives and pins
abbrev pub view : Core → State
view c = versions_of (bare c)

-- The last version of the life of a record that stood since a pass's pin: its words are those of now, and they spell a value.
pub record LastOf (c : Core) (since : ℕ) (r : Rec) : Type 0 where
  pub tree : Tree
  pub at : ℕ
  pub low : since ≤ at
  pub high : at ≤ c.past.now
  pub stands : Stands c.past at r tree
  pub ends : (o : ℕ) (u : Tree) → since ≤ o → o ≤ c.past.now → Stands c.past o r u → o ≤ at
  pub copied : IsCopied (heap_of c.words) tree
  pub packed : IsPacked r (c.words r)

spanned_whole : (now : ℕ) (f : Fate) (n : ℕ) → Spans now (life_of f) n → IsPastFilling f
spanned_whole now Free n h = absurd h
spanned_whole now (HeldBy q) n h = absurd h
spanned_whole now (ReadyBy q) n h = tt
spanned_whole now (InTree s) n h = tt
spanned_whole now (UnlinkedBy s l q) n h = tt
spanned_whole now (Marked s l e) n h = tt

pub last : (c : Core) → IsLawful c → (since : ℕ) → IsReach (view c) since → (r : Rec) → StoodBetween c.past since c.past.now r → LastOf c since r
last c law since reach r (n, u, lo, hi, st) =
    let spans = reach n lo hi r u st in
    let lived = law.core.state.lived r in
    let ends = spans_ended c.past.now ((view c).life r) n lived spans in
    let whole = spans_last c.past.now ((view c).life r) n lived spans in
    let s = law.core.state.alive r (last_of c.past.now ((view c).life r)) whole in
    record {
      tree = s.0;
      at = last_of c.past.now ((view c).life r);
      low = le_trans lo ends.0;
      high = ends.1;
      stands = s.1;
      ends = λ o v low high t. (spans_ended c.past.now ((view c).life r) o lived (reach o low high r v t)).0;
      copied = law.core.state.frozen r s.0 whole s.1;
      packed = law.records.packed r (spanned_whole c.past.now (c.fate r) n spans);
    }

-- words other than the state
later_word : (c : Core) (r : Rec) (offset : ℕ) → 1 ≤ offset → record_word c r offset ≡ get_or (c.words r) (offset - 1) 0
later_word c r zero h = absurd (omega arith)
later_word c r (suc offset) h = ap (λ z. get_or (c.words r) z 0) (let e : offset ≡ suc offset - 1 = omega arith in e)

same_words : {x y : NodeWords} → x ≡ y → (x.subtrie ≡ y.subtrie) × (x.fixed ≡ y.fixed)
same_words e = (ap (λ (z : NodeWords). z.subtrie) e, ap (λ (z : NodeWords). z.fixed) e)

-- An entry word of a node in reach: it has the entry that the node had when it stood last,
pub entry_of_last : (c : Core) → IsLawful c → (since n j : ℕ) → j < 32 → (l : LastOf c since (a_node n)) → entry_in l.tree j ≡ entry_of (record_word c (a_node n) (26 + j))
unfolding IsPacked
entry_of_last c law since n j small l = go l.tree l.stands.is_record l.copied l.packed
  where
    go : (u : Tree) → IsRecord (a_node n) u → IsCopied (heap_of c.words) u → IsPacked (a_node n) (c.words (a_node n)) → entry_in u j ≡ entry_of (record_word c (a_node n) (26 + j))
    go (leaf m k v) r i p = absurd cc
    go (fork q a b) r i p = absurd r
    go (node m x b) r i (v, has, same) =
        let words = c.words (a_node n) in
        let e : subtrie b ≡ piece v = (same_words (sym i ∙ (ap (λ z. node_words_of (c.words (a_node z))) (sym (node_number r)) ∙ node_is v (c.words (a_node n)) (law.records.sized (a_node n)).1 has same))).0 in
        ap (λ (z : Subtrie). if nat_lt j (size z) then Some (entry_at z j) else None) e ∙
        (sym (entry_at_is v (c.words (a_node n)) (law.records.sized (a_node n)).1 has same j small) ∙
        ap (λ z. entry_of (get_or (c.words (a_node n)) z 0)) (let a : 25 + j ≡ 26 + j - 1 = omega arith in a) ∙
        ap entry_of (sym (later_word c (a_node n) (26 + j) (omega arith))))

-- which is a fact of the past.
pub slot_fact : (c : Core) → IsLawful c → (since : ℕ) → IsReach (view c) since → (n j : ℕ) → j < 32 → IsFact c.past (Placed since c.past.now n j (entry_of (record_word c (a_node n) (26 + j))))
slot_fact c law since reach n j small = (
  le_refl c.past.now,
  λ m lo s. let l = last c law m (reach_later (view c) since m lo reach) (a_node n) s in (l.at, l.tree, l.low, l.high, l.stands, entry_of_last c law m n j small l),
)

-- So is the value of a leaf.
pub value_fact : (c : Core) → IsLawful c → (since : ℕ) → IsReach (view c) since → (l : ℕ) → IsFact c.past (Valued since c.past.now l (record_word c (a_leaf l) 1))
unfolding leaf_of
value_fact c law since reach l = (
  le_refl c.past.now,
  λ m lo s. let x = last c law m (reach_later (view c) since m lo reach) (a_leaf l) s in (x.at, x.tree, x.low, x.high, x.stands, go x.tree x.stands.is_record x.copied),
)
  where
    go : (u : Tree) → IsRecord (a_leaf l) u → IsCopied (heap_of c.words) u → head_value u ≡ Some (get_or (c.words (a_leaf l)) 0 0)
    go (node m x b) r i = absurd cc
    go (fork q a b) r i = absurd r
    go (leaf m k v) r i = ap Some (sym (ap (λ z. ((heap_of c.words).leaves z).value) (leaf_number r) ∙ ap (λ (z : LeafWords). z.value) i))

-- Another word of a record in reach.
pub fixed_fact : (c : Core) → IsLawful c → (since : ℕ) → IsReach (view c) since → (r : Rec) (offset : ℕ) → IsFixedOffset r offset → IsFact c.past (FixedWord since c.past.now r offset (record_word c r offset))
unfolding IsPacked
fixed_fact c law since reach r offset fits = (
  le_refl c.past.now,
  λ m lo s. let l = last c law m (reach_later (view c) since m lo reach) r s in
      (l.at, l.tree, l.low, l.high, l.stands, go r l.tree fits l.stands.is_record l.copied l.packed),
)
  where
    go : (r : Rec) (u : Tree) → IsFixedOffset r offset → IsRecord r u → IsCopied (heap_of c.words) u → IsPacked r (c.words r) → HasWordAt u offset (record_word c r offset)
    go (a_node n) (leaf m k v) f r i p = absurd cc
    go (a_node n) (fork q a b) f r i p = absurd r
    go (a_leaf n) (node m x b) f r i p = absurd cc
    go (a_leaf n) (fork q a b) f r i p = absurd r
    go (a_node n) (node m x b) f r i (v, has, same) =
        let e = (same_words (sym i ∙ (ap (λ z. node_words_of (c.words (a_node z))) (sym (node_number r)) ∙ node_is v (c.words (a_node n)) (law.records.sized (a_node n)).1 has same))).1 in
        ap (λ (z : Fixed). get_or (fixed_words (length z.rows) z.height z.columns z.rows) (offset - 1) 0) e ∙
        (sym (fixed_word_is v (c.words (a_node n)) (law.records.sized (a_node n)).1 has same (offset - 1) (let a = f.0 in let b = f.1 in omega arith)) ∙ sym (later_word c (a_node n) offset f.0))
    go (a_leaf n) (leaf m k v) f r i (p, has, same) = λ before.
        let words = c.words (a_leaf n) in
        let e = sym i ∙ (ap (λ z. leaf_of (c.words (a_leaf z))) (sym (leaf_number r)) ∙ leaf_is p words has same) in
        let key : length k ≡ get_or words 1 0 = ap (λ (z : LeafWords). length z.key) e ∙ sym (leaf_size_is p words same) in
        ap (λ (z : LeafWords). get_or (leaf_words (z.key, z.value)) (offset - 1) 0) e ∙
        (ap (λ z. get_or z (offset - 1) 0) same ∙
        (up_to_key_before words (offset - 1) (omega (arith, before, key, f.0)) (omega (arith, f.0, f.1)) ∙ sym (later_word c (a_leaf n) offset (let low = f.0 in omega arith))))
