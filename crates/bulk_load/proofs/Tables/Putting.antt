-- A table with one record more.
use Rattle.bulk_load.proofs.Common.{◌≡◌, ◌≢◌, ◌⊎◌, inl, inr, ℕ, ◌+◌, ◌*◌, ◌<◌, ◌≤◌, List, get_or, true, false, nat_lt, if◌then◌else◌, Option, Some, refl, ap, sym, subst, ◌∙◌, arith, cases_Bool, cases_order, ltb-true, ext_get_or, NODE_FIELDS, LEAF_FIELDS, NODE_WORDS, EPOCH_WORD, ROOT_WORD, ANCHOR_WORD, FIRST_PIN, LINE_WORDS, Layout, node_start, leaf_start, leaf_size, leaf_before, size_fits, Tree, leaf, node, fork, some_injective, Rec, a_node, a_leaf, Heap, IsShown, Links, IsLinked, heap_of, size_of, HasRecord, FitsIn, IsPacked, node_words_of, leaf_of, fields_in}
use Rattle.std.proofs.Math.Nat.{min-le_right}
use Rattle.record_words.specs.declared.TheConstants.{LEAF_CLASSES}
use Rattle.record_words.specs.Layout.{uncommitted_word}
use Rattle.bulk_load.specs.Tables.{start_of, state_in, IsPut, IsRootless, HoldsTree}
use Rattle.bulk_load.proofs.records.Fields.{node_field, node_fields_long, node_fields_are, leaf_field, leaf_fields_long}

-- the words of two records stand apart
apart : (layout : Layout) (r i : Rec) → HasRecord layout r → HasRecord layout i → i ≢ r →
    (start_of layout i + size_of layout i ≤ start_of layout r) ⊎ (start_of layout r + size_of layout r ≤ start_of layout i)
apart layout (a_node n) (a_node m) h g ne = elim (cases_order n m) [
  | inl e ↦ absurd (ne (ap a_node (sym e)))
  | inr o ↦ elim o [ inl l ↦ inr (omega (arith, l)) | inr l ↦ inl (omega (arith, l)) ]
]
apart layout (a_node n) (a_leaf m) h g ne = inr (omega (arith, h))
apart layout (a_leaf n) (a_node m) h g ne = inl (omega (arith, g))
apart layout (a_leaf n) (a_leaf m) h g ne = elim (cases_order n m) [
  | inl e ↦ absurd (ne (ap a_leaf (sym e)))
  | inr o ↦ elim o [ inl l ↦ inr (omega (arith, leaf_before layout n m l)) | inr l ↦ inl (omega (arith, leaf_before layout m n l)) ]
]

-- each word of another record is as before
word_stays : (layout : Layout) (old new : List ℕ) (r i : Rec) → IsPut layout old new r → HasRecord layout r → HasRecord layout i → i ≢ r →
    (j : ℕ) → j < size_of layout i → get_or new (start_of layout i + j) 0 ≡ get_or old (start_of layout i + j) 0
word_stays layout old new r i p h g ne j l =
    p.others (start_of layout i + j) (elim (apart layout r i h g ne) [ inl a ↦ inl (omega (arith, a, l)) | inr a ↦ inr (omega (arith, a)) ])

pub node_stays : (layout : Layout) (old new : List ℕ) (n : ℕ) → ((j : ℕ) → j < NODE_WORDS → get_or new (node_start layout n + j) 0 ≡ get_or old (node_start layout n + j) 0) →
    fields_in layout new (a_node n) ≡ fields_in layout old (a_node n)
node_stays layout old new n each = node_fields_are layout new n (fields_in layout old (a_node n)) (node_fields_long layout old n)
    (λ i h. let l : i < NODE_FIELDS = omega (arith, h, node_fields_long layout old n) in each (1 + i) (omega (arith, l)) ∙ sym (node_field layout old n i l))

pub leaf_stays : (layout : Layout) (old new : List ℕ) (n : ℕ) → ((j : ℕ) → j < leaf_size layout n → get_or new (leaf_start layout n + j) 0 ≡ get_or old (leaf_start layout n + j) 0) →
    fields_in layout new (a_leaf n) ≡ fields_in layout old (a_leaf n)
leaf_stays layout old new n each =
    ext_get_or 0 (fields_in layout new (a_leaf n)) (fields_in layout old (a_leaf n)) (leaf_fields_long layout new n ∙ sym (leaf_fields_long layout old n))
    (λ i h. let l : i < LEAF_FIELDS = omega (arith, h, leaf_fields_long layout new n) in leaf_field layout new n i l ∙ (go i (cases_Bool (nat_lt (1 + i) (leaf_size layout n))) ∙ sym (leaf_field layout old n i l)))
  where
    go : (i : ℕ) → (nat_lt (1 + i) (leaf_size layout n) ≡ true) ⊎ (nat_lt (1 + i) (leaf_size layout n) ≡ false) →
        (if nat_lt (1 + i) (leaf_size layout n) then get_or new (leaf_start layout n + (1 + i)) 0 else 0) ≡
        (if nat_lt (1 + i) (leaf_size layout n) then get_or old (leaf_start layout n + (1 + i)) 0 else 0)
    go i (inl e) = rw e (each (1 + i) (ltb-true (1 + i) (leaf_size layout n) e))
    go i (inr e) = rw e refl

pub fields_stay : (layout : Layout) (old new : List ℕ) (r i : Rec) → IsPut layout old new r → HasRecord layout r → HasRecord layout i → i ≢ r →
    fields_in layout new i ≡ fields_in layout old i
fields_stay layout old new r (a_node n) p h g ne = node_stays layout old new n (word_stays layout old new r (a_node n) p h g ne)
fields_stay layout old new r (a_leaf n) p h g ne = leaf_stays layout old new n (word_stays layout old new r (a_leaf n) p h g ne)

some_word : (layout : Layout) (i : Rec) → 0 < size_of layout i
some_word layout (a_node n) = omega arith
some_word layout (a_leaf n) = let s = size_fits layout n in omega (arith, s.0)

pub state_stays : (layout : Layout) (old new : List ℕ) (r i : Rec) → IsPut layout old new r → HasRecord layout r → HasRecord layout i → i ≢ r →
    state_in layout new i ≡ state_in layout old i
state_stays layout old new r i p h g ne = p.others (start_of layout i)
    (elim (apart layout r i h g ne) [ inl a ↦ inl (omega (arith, a, some_word layout i)) | inr a ↦ inr a ])

-- the first record stands behind all pins
behind_pins : (layout : Layout) (r : Rec) → FIRST_PIN + LINE_WORDS * layout.passes ≤ start_of layout r
behind_pins layout (a_node n) = omega arith
behind_pins layout (a_leaf n) = omega arith

blank_stays : (layout : Layout) (old new : List ℕ) (r : Rec) → IsPut layout old new r → IsRootless layout old → IsRootless layout new
blank_stays layout old new r p b =
    let h = behind_pins layout r in
    record {
      size = p.size ∙ b.size;
      epoch = p.others EPOCH_WORD (inl (omega (arith, h))) ∙ b.epoch;
      root = p.others ROOT_WORD (inl (omega (arith, h))) ∙ b.root;
      anchor = p.others ANCHOR_WORD (inl (omega (arith, h))) ∙ b.anchor;
      pins = λ q l. p.others (FIRST_PIN + LINE_WORDS * q) (inl (omega (arith, h, l))) ∙ b.pins q l;
      committed = λ kind. p.others (uncommitted_word kind) (inl (let low = min-le_right kind LEAF_CLASSES in omega (arith, h, low))) ∙ b.committed kind;
    }

-- a tree is shown by words of which its own are the same
pub shown_by : (m o : Heap) (t : Tree) → ((n : ℕ) → Links t (a_node n) → o.nodes n ≡ m.nodes n) → ((n : ℕ) → Links t (a_leaf n) → o.leaves n ≡ m.leaves n) → IsShown m t → IsShown o t
shown_by m o (leaf n k v) f g s = g n refl ∙ s
shown_by m o (node n x b) f g s = (f n (inl refl) ∙ s.0, shown_by m o b (λ i h. f i (inr h)) (λ i h. g i (inr h)) s.1)
shown_by m o (fork p a b) f g s = (shown_by m o a (λ i h. f i (inl h)) (λ i h. g i (inl h)) s.0, shown_by m o b (λ i h. f i (inr h)) (λ i h. g i (inr h)) s.1)

-- a free record is written, which is not of the tree
pub record IsAddedTo (layout : Layout) (old new : List ℕ) (o : Option Tree) (r : Rec) : Type 0 where
  pub holds : HoldsTree layout old o
  pub has : HasRecord layout r
  pub unlinked : ¬ (IsLinked o r)
  pub put : IsPut layout old new r
  pub packed : IsPacked r (fields_in layout new r)
  pub fits : FitsIn layout r (fields_in layout new r)

module _ {layout : Layout} {old new : List ℕ} {o : Option Tree} {r : Rec} (a : IsAddedTo layout old new o r) where
  is_other : (i : Rec) → IsLinked o i → i ≢ r
  is_other i h e = a.unlinked (subst (IsLinked o) e h)

  old_fields : (i : Rec) → IsLinked o i → fields_in layout new i ≡ fields_in layout old i
  old_fields i h = fields_stay layout old new r i a.put a.has (a.holds.records i h).0 (is_other i h)

  -- a part of the tree is shown as before
  pub still_shown : (s : Tree) → ((i : Rec) → Links s i → IsLinked o i) → IsShown (heap_of (fields_in layout old)) s → IsShown (heap_of (fields_in layout new)) s
  still_shown s within = shown_by (heap_of (fields_in layout old)) (heap_of (fields_in layout new)) s
      (λ n h. ap node_words_of (old_fields (a_node n) (within (a_node n) h))) (λ n h. ap leaf_of (old_fields (a_leaf n) (within (a_leaf n) h)))

  -- a tree of the same records and this one is held
  pub added : (u : Tree) → ((i : Rec) → Links u i → IsLinked o i ⊎ (i ≡ r)) → ((i : Rec) → IsLinked o i → Links u i) → Links u r →
      IsShown (heap_of (fields_in layout new)) u → HoldsTree layout new (Some u)
  added u to from here shown = record {
    blank = blank_stays layout old new r a.put a.holds.blank;
    live = λ i h. elim (to i h) [
      | inl x ↦ state_stays layout old new r i a.put a.has (a.holds.records i x).0 (is_other i x) ∙ a.holds.live i x
      | inr e ↦ ap (state_in layout new) e ∙ a.put.state
    ];
    free = λ i has no. state_stays layout old new r i a.put a.has has (λ e. no (subst (Links u) (sym e) here)) ∙ a.holds.free i has (λ x. no (from i x));
    records = λ i h. elim (to i h) [
      | inl x ↦ (let z = a.holds.records i x in let e = sym (old_fields i x) in (z.0, subst (IsPacked i) e z.1, subst (FitsIn layout i) e z.2))
      | inr e ↦ subst (λ z. HasRecord layout z × IsPacked z (fields_in layout new z) × FitsIn layout z (fields_in layout new z)) (sym e) (a.has, a.packed, a.fits)
    ];
    shows = λ v e. subst (IsShown (heap_of (fields_in layout new))) (some_injective e) shown;
  }
