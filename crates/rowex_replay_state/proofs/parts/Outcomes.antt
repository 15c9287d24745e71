-- What was read of the parts, and what follows of the whole.
use Rattle.rowex_replay_state.proofs.Common.{◌≡◌, ◌↔◌, ◌⊎◌, inl, inr, ℕ, ◌+◌, ◌*◌, ◌<◌, ◌≤◌, List, [], ◌++◌, Bool, true, false, IsTrue, length, get_or, set, map, refl, ap, sym, ◌∙◌, subst, arith, append_assoc, append-nil, false≢true, length-map, MAX_BYTES, Place, Fork, NodeView, head_of, piece, HalfShows, CutShows, Leaf, Node, Cut, IsParted, Subtrie, Tree, leaf, node, fork, subtrie, first_position, IsFork, items, first, Rec}
use Rattle.rowex_replay_state.specs.declared.linked.Item.{Item as ReadItem}
use Rattle.rowex_replay_state.specs.declared.linked.Linked.{Linked}
use Rattle.rowex_replay_state.specs.Versions.{AreWordsOf, read_item, Table}
use Rattle.rowex_replay_state.specs.Parts.{ShowsPart, HasMarks, GrowsBy, AddsLeaf, EncodesNode, IsTreeRead}
use Rattle.rowex_replay_state.proofs.parts.Grown.{leaf_grown, node_grown, fork_grown, first_read}
use Rattle.rowex_replay_state.proofs.parts.Parts.{leaf_part, no_leaf, node_part, node_back, fork_part, fork_back, one_tree}

cut_first : (cut : Cut) (p : Subtrie) → CutShows cut p → first_position p ≡ cut.position
cut_first cut (Place e) s = elim s [ ]
cut_first cut (Fork q x y) s = sym s.0

is_fork : (cut : Cut) (b : Tree) → CutShows cut (subtrie b) → IsFork b
is_fork cut (leaf n k v) s = elim s [ ]
is_fork cut (node n x b) s = elim s [ ]
is_fork cut (fork p a b) s = tt

module _ (table : Table) (words : Rec → List ℕ) (are : AreWordsOf table words) (least : ℕ) where
  -- Entries

  pub leaf_read : (n : ℕ) (good : Bool) (old new : Linked) → HasMarks table old → AddsLeaf table.leaves n good old new → IsTreeRead (ShowsPart table words least (Place (Leaf n))) good old new
  leaf_read n true old new room taken = (
    leaf n taken.0.0 taken.0.1,
    leaf_part table words are least n taken.0 taken.1,
    leaf_grown old new n taken.0.0 taken.0.1 taken.2 taken.3 taken.4 (omega (arith, taken.1.in_table, room.all_leaves)),
  )
  leaf_read n false old new room taken = λ t. no_leaf table words are least n t taken.0

  module _ (n h : ℕ) (view : NodeView) (cut : Cut) (at : EncodesNode table.nodes n h view) (cuts : CutShows cut (piece view)) where
    pub no_height : 9 * MAX_BYTES < h + cut.position → (t : Tree) → ¬ (ShowsPart table words least (Place (Node n h)) t)
    no_height over t part =
        let b = node_back table words are least n h view t at part in
        let m : MAX_BYTES ≡ 240 = refl in
        omega (arith, over, b.2, cut_first cut (piece view) cuts)

    pub node_read : h + cut.position ≤ 9 * MAX_BYTES → (good : Bool) (old mid new : Linked) → mid.items ≡ old.items → mid.nodes.items ≡ set old.nodes.items n true → mid.leaves ≡ old.leaves →
        HasMarks table old → IsTreeRead (ShowsPart table words least (piece view)) good mid new → IsTreeRead (ShowsPart table words least (Place (Node n h))) good old new
    node_read bound true old mid new i j k room read =
        let b = read.0 in (
          node n (head_of view) b,
          node_part table words are least n h view b at (let m : MAX_BYTES ≡ 240 = refl in omega (arith, bound, cut_first cut (piece view) cuts)) (is_fork cut b (subst (CutShows cut) (sym read.1.subtrie_is) cuts)) read.1,
          node_grown old mid new n (head_of view) b i j k (omega (arith, at.in_table, room.all_nodes)) read.2,
        )
    node_read bound false old mid new i j k room read = λ t part. let b = node_back table words are least n h view t at part in read b.0 b.1

  -- Forks

  -- No part is there where a side is none.
  module _ (cut : Cut) where
    pub no_low : cut.position < least → (p : Subtrie) → CutShows cut p → (t : Tree) → ¬ (ShowsPart table words least p t)
    no_low low (Place e) s t part = elim s [ ]
    no_low low (Fork q x y) s t part = let f = fork_back table words are least q x y t part in omega (arith, low, f.low, s.0)

    pub no_side : (next : ℕ) → next ≡ cut.position + 1 →
        ((p : Subtrie) → HalfShows cut.zero p → (t : Tree) → ¬ (ShowsPart table words next p t)) ⊎ ((p : Subtrie) → HalfShows cut.one p → (t : Tree) → ¬ (ShowsPart table words next p t)) →
        (p : Subtrie) → CutShows cut p → (t : Tree) → ¬ (ShowsPart table words least p t)
    no_side next e none (Place f) s t part = elim s [ ]
    no_side next e none (Fork q x y) s t part =
        let f = fork_back table words are least q x y t part in
        let i : q + 1 ≡ next = omega (arith, e, s.0) in
        elim none [
          | inl no_zero ↦ no_zero x s.1 f.zero (subst (λ z. ShowsPart table words z x f.zero) i f.zero_part)
          | inr no_one ↦ no_one y s.2 f.one (subst (λ z. ShowsPart table words z y f.one) i f.one_part)
        ]

    -- Two sides are a part where their first keys part.
    pub cut_read : (next next' : ℕ) → next ≡ cut.position + 1 → next' ≡ cut.position + 1 → least ≤ cut.position → (old mid new : Linked) →
        ((p : Subtrie) → HalfShows cut.zero p → IsTreeRead (ShowsPart table words next p) true old mid) →
        ((p : Subtrie) → HalfShows cut.one p → IsTreeRead (ShowsPart table words next' p) true mid new) → (z o : ReadItem) (i j : ℕ) →
        i ≡ length old.items.items → j ≡ length mid.items.items → i < length new.items.items → j < length new.items.items → get_or new.items.items i z ≡ z → get_or new.items.items j o ≡ o →
        (good : Bool) → IsTrue good ↔ IsParted cut.position z.key o.key → (p : Subtrie) → CutShows cut p → IsTreeRead (ShowsPart table words least p) good old new
    cut_read next next' e e' low old mid new zero one z o i j first_at second_at first_in second_in first_is second_is good parted (Place f) s = elim s [ ]
    cut_read next next' e e' low old mid new zero one z o i j first_at second_at first_in second_in first_is second_is good parted (Fork q x y) s =
        go good parted
      where
        a : (t : Tree) × ShowsPart table words next x t × GrowsBy t old mid
        a = zero x s.1

        b : (t : Tree) × ShowsPart table words next' y t × GrowsBy t mid new
        b = one y s.2

        all_items : map read_item new.items.items ≡ map read_item old.items.items ++ (items a.0 ++ items b.0)
        all_items = b.2.items_are ∙ (ap (λ u. u ++ items b.0) a.2.items_are ∙ append_assoc (map read_item old.items.items) (items a.0) (items b.0))

        zero_key : z.key ≡ first a.0
        zero_key = first_read a.0 (map read_item old.items.items) (items b.0) new.items.items i z all_items (length-map old.items.items read_item ∙ sym first_at) first_is first_in

        one_key : o.key ≡ first b.0
        one_key = first_read b.0 (map read_item mid.items.items) [] new.items.items j o (b.2.items_are ∙ ap (λ u. map read_item mid.items.items ++ u) (sym (append-nil (items b.0)))) (length-map mid.items.items read_item ∙ sym second_at) second_is second_in

        zero_part : ShowsPart table words (q + 1) x a.0
        zero_part = subst (λ u. ShowsPart table words u x a.0) (let k : next ≡ q + 1 = omega (arith, e, s.0) in k) a.1

        one_part : ShowsPart table words (q + 1) y b.0
        one_part = subst (λ u. ShowsPart table words u y b.0) (let k : next' ≡ q + 1 = omega (arith, e', s.0) in k) b.1

        go : (g : Bool) → IsTrue g ↔ IsParted cut.position z.key o.key → IsTreeRead (ShowsPart table words least (Fork q x y)) g old new
        go true f = (
          fork q a.0 b.0,
          fork_part table words are least q x y a.0 b.0 (omega (arith, low, s.0)) zero_part one_part (subst (λ u. IsParted q (first a.0) u) one_key (subst (λ u. IsParted q u o.key) zero_key (subst (λ u. IsParted u z.key o.key) s.0 (f.0 refl)))),
          fork_grown old mid new q a.0 b.0 a.2 b.2,
        )
        go false f = λ t part.
            let k = fork_back table words are least q x y t part in
            let l : k.zero ≡ a.0 = one_tree table words are (q + 1) (q + 1) x k.zero a.0 k.zero_part zero_part in
            let r : k.one ≡ b.0 = one_tree table words are (q + 1) (q + 1) y k.one b.0 k.one_part one_part in
            false≢true (f.1 (subst (λ u. IsParted u z.key o.key) (sym s.0) (subst (λ u. IsParted q u o.key) (ap first l ∙ sym zero_key) (subst (λ u. IsParted q (first k.zero) u) (ap first r ∙ sym one_key) k.parted))))
