-- A new leaf behind the last one.
use Rattle.bulk_load.proofs.Common.{◌≡◌, ◌⊎◌, inl, inr, ℕ, ◌+◌, ◌*◌, ◌<◌, ◌≤◌, List, [], ◌∷◌, ◌++◌, Bool, true, false, Some, None, length, refl, ap, sym, subst, ◌∙◌, arith, append_assoc, All-push, All, Leaf, leaf_size, HasLeafWords, leaf_words, up_to_key, words_for, Key, bit, IsParted, item, items, first, IsAbove, IsLocal, Tree, leaf, node, fork, subtrie, Has, IsTrie, IsBuilt, trie_if_local, has_first, Rec, a_node, a_leaf, Heap, Links, node_leaf, heap_of, IsPacked, fields_in}
use Rattle.key_bits.specs.Bits.{bit_of, IsFirstDifference}
use Rattle.rowex_core.proofs.Reading.Leafing.{leaf_is, leaf_size_is}
use Rattle.bulk_load.specs.declared.builder.Builder.{Builder}
use Rattle.bulk_load.specs.declared.builder.StackedPiece.{StackedPiece}
use Rattle.bulk_load.specs.Loading.{greatest_key, IsOfLeaves, IsTreeOf}
use Rattle.bulk_load.specs.Tips.{tip, tips_of}
use Rattle.bulk_load.specs.Stacks.{LeftPiece, whole_of, position_of, front_tips}
use Rattle.bulk_load.specs.Tables.{IsPut, HoldsTree, state_in}
use Rattle.bulk_load.proofs.Tables.Putting.{IsAddedTo, added, still_shown}
use Rattle.bulk_load.proofs.Stacks.{fronts, items_joined, tips_joined, built_joined, shown_joined, links_inner, links_kept, links_added, local_inner, IsAboveHead, local_joined}

pub has_last : (t : Tree) → Has t (greatest_key t)
has_last (leaf n k v) = refl
has_last (node n x b) = has_last b
has_last (fork p a b) = inr (has_last b)

-- the first and the last key of a tree agree up to a position before its forks
ends_agree : (p : ℕ) (t : Tree) → IsTrie t → IsAbove p t → (q : ℕ) → q ≤ p → bit (first t) q ≡ bit (greatest_key t) q
ends_agree p (leaf n k v) i a q l = refl
ends_agree p (node n x b) i a q l = ends_agree p b i a q l
ends_agree p (fork r a b) i h q l = i.2 (first a) (greatest_key b) (inl (has_first a)) (inr (has_last b)) q (omega (arith, h, l))

-- what parts from its last key parts from its first one
parted_first : (p : ℕ) (t : Tree) (k : Key) → IsTrie t → IsAbove p t → IsParted p (greatest_key t) k → IsParted p (first t) k
parted_first p t k i a h =
    (λ q l. ends_agree p t i a q (omega (arith, l)) ∙ h.0 q l, ends_agree p t i a p (omega arith) ∙ h.1, h.2)

above_low : (ls : List LeftPiece) (p : ℕ) (a b : Tree) → (ls ≡ []) ⊎ (position_of ls < p) → IsAboveHead ls (fork p a b)
above_low [] p a b h = tt
above_low (l ∷ ls) p a b (inl e) = cc
above_low (l ∷ ls) p a b (inr h) = h

module _ (l : Builder) (ls : List LeftPiece) (top : Tree) (p n value : ℕ) (key : Key) (new : List ℕ) (t : IsTreeOf l (whole_of ls top)) (above : IsAbove p top)
    (low : (ls ≡ []) ⊎ (position_of ls < p)) (parted : IsParted p (greatest_key top) key) (has : HasLeafWords (key, value)) (inside : n < l.layout.leaves)
    (free : state_in l.layout l.words.items (a_leaf n) ≡ 0) (room : words_for (length key) ≤ leaf_size l.layout n)
    (put : IsPut l.layout l.words.items new (a_leaf n)) (fields : leaf_words (key, value) ≡ up_to_key (fields_in l.layout new (a_leaf n))) where
  abbrev grown : Tree
  grown = fork p top (leaf n key value)

  abbrev whole : Tree
  whole = whole_of ls top

  abbrev heap : Heap
  heap = heap_of (fields_in l.layout new)

  addition : IsAddedTo l.layout l.words.items new (Some whole) (a_leaf n)
  unfolding IsPacked
  addition = record {
    holds = t.table;
    has = inside;
    unlinked = λ h. absurd (let live = t.table.live (a_leaf n) h in omega (arith, live, free));
    put = put;
    packed = ((key, value), has, fields);
    fits = subst (λ m. words_for m ≤ leaf_size l.layout n) (sym (leaf_size_is (key, value) (fields_in l.layout new (a_leaf n)) fields)) room;
  }

  local_top : IsLocal top
  local_top = local_inner ls top t.ordered

  pub local_grown : IsLocal (whole_of ls grown)
  local_grown = local_joined ls top grown (local_top, has.key, above, tt, parted_first p top key (trie_if_local top local_top) above parted) refl (above_low ls p top (leaf n key value) low) t.ordered

  pub built_grown : IsBuilt (whole_of ls grown)
  built_grown = built_joined ls top grown (λ b. (b, tt)) t.built

  to : (i : Rec) → Links (whole_of ls grown) i → Links whole i ⊎ (i ≡ a_leaf n)
  to i h = links_added (i ≡ a_leaf n) ls top grown i (λ g. elim g [ inl a ↦ inl a | inr e ↦ inr e ]) h

  pub holds_grown : HoldsTree l.layout new (Some (whole_of ls grown))
  holds_grown = added addition (whole_of ls grown) to (λ i h. links_kept ls top grown i (λ g. inl g) h) (links_inner ls grown (a_leaf n) (inr refl))
      (shown_joined heap ls top grown (λ s. (s, leaf_is (key, value) (fields_in l.layout new (a_leaf n)) has fields)) (still_shown addition whole (λ i h. h) (t.table.shows whole refl)))

  pub taken_grown : (i : ℕ) → Links (whole_of ls grown) (a_node i) → i < l.nodes
  taken_grown i h = elim (to (a_node i) h) [ inl x ↦ t.taken i x | inr e ↦ absurd (node_leaf e) ]

  pub tips_grown : l.tips.items ++ tip p (Leaf n) ∷ [] ≡ tips_of 0 (subtrie (whole_of ls grown))
  tips_grown =
      ap (λ ss. ss ++ tip p (Leaf n) ∷ []) (t.tips_are ∙ tips_joined ls top) ∙
      (append_assoc (front_tips ls) (tips_of (position_of ls) (subtrie top)) (tip p (Leaf n) ∷ []) ∙ sym (tips_joined ls grown))

  pub content_grown : items (whole_of ls grown) ≡ items whole ++ item n key value ∷ []
  content_grown =
      items_joined ls grown ∙ (sym (append_assoc (fronts ls) (items top) (items (leaf n key value))) ∙ ap (λ xs. xs ++ items (leaf n key value)) (sym (items_joined ls top)))

-- ---- the first leaf
module _ (l : Builder) (n value : ℕ) (key : Key) (new : List ℕ) (t : HoldsTree l.layout l.words.items None) (has : HasLeafWords (key, value)) (inside : n < l.layout.leaves)
    (room : words_for (length key) ≤ leaf_size l.layout n)
    (put : IsPut l.layout l.words.items new (a_leaf n)) (fields : leaf_words (key, value) ≡ up_to_key (fields_in l.layout new (a_leaf n))) where
  first_addition : IsAddedTo l.layout l.words.items new None (a_leaf n)
  unfolding IsPacked
  first_addition = record {
    holds = t;
    has = inside;
    unlinked = λ h. h;
    put = put;
    packed = ((key, value), has, fields);
    fits = subst (λ m. words_for m ≤ leaf_size l.layout n) (sym (leaf_size_is (key, value) (fields_in l.layout new (a_leaf n)) fields)) room;
  }

  pub holds_first : HoldsTree l.layout new (Some (leaf n key value))
  holds_first = added first_addition (leaf n key value) (λ i h. inr h) (λ i h. absurd h) refl (leaf_is (key, value) (fields_in l.layout new (a_leaf n)) has fields)

pub no_node : (n i : ℕ) → a_node i ≡ a_leaf n → ⊥
no_node n i e = node_leaf e

-- the keys part where they first differ, if the second has 1 there
pub parted_by : (p : ℕ) (a b : Key) → IsFirstDifference a b p → bit_of b p ≡ true → IsParted p a b
unfolding bit
parted_by p a b d h = (d.agree, go (bit_of a p) refl, h)
  where
    go : (v : Bool) → bit_of a p ≡ v → bit_of a p ≡ false
    go true e = absurd (d.differ (e ∙ sym h))
    go false e = e

-- nodes are left for one leaf less, once that is taken
pub nodes_grown : (n max pieces tips pieces_then tips_then : ℕ) → pieces_then ≡ pieces + 1 → tips_then ≡ tips + 1 →
    (n + 2 * (pieces + 1) ≤ max) ⊎ ((n + tips + 1 ≤ max) ⊎ ((n ≡ 0) × (tips + 1 ≤ 32) × (2 ≤ max))) →
    (n + 2 * (pieces_then + 0) ≤ max) ⊎ ((n + tips_then + 0 ≤ max) ⊎ ((n ≡ 0) × (tips_then + 0 ≤ 32) × (2 ≤ max)))
nodes_grown n max pieces tips pieces_then tips_then p s (inl h) = inl (omega (arith, p, h))
nodes_grown n max pieces tips pieces_then tips_then p s (inr (inl h)) = inr (inl (omega (arith, s, h)))
nodes_grown n max pieces tips pieces_then tips_then p s (inr (inr h)) = inr (inr (h.0, omega (arith, s, h.1), h.2))

-- a leaf more is a low piece
pub low_grown : (ps : List StackedPiece) → All IsOfLeaves ps → All IsOfLeaves (ps ++ record { count = 1; height = 0 } ∷ [])
low_grown ps h = All-push IsOfLeaves ps (record { count = 1; height = 0 }) h (omega arith, λ more. absurd (omega (arith, more)))
