-- One entry more at a node of the way, and so in each node above it.
use Rattle.plain_trie_records.proofs.Common.{◌≡◌, ℕ, suc, ◌+◌, ◌*◌, ◌≤◌, Bool, true, false, List, refl, ap, sym, ◌∙◌, subst, arith, Some, slice_get, MAX_BYTES, NodeView, piece, Leaf, affected, subtrie_grown, IsAdded, put, IsInOwnSubtrie, Item, Key, bit, spot, child, Subtrie, Fixed, Tree, node, subtrie, Has, IsTrie, IsBuilt, IsLower, first_position, Within, here, inside, zero_side, one_side, added, added_without_marks, added_in_whole, DifferFirstAt, part_place, place_subtrie, lower_positive, lower_in_own_subtrie, built_in_own_subtrie, built_within, grafted, WayBelow, Risen, subtrie_of}
use Rattle.key_bits.specs.Key.{IsKey}
use Rattle.tries.proofs.Place.{grown}
use Rattle.plain_trie_records.specs.declared.leaf.LeafRecord.{LeafRecord}
use Rattle.plain_trie_records.specs.Risen.{RisenShows, OthersStay}
use Rattle.plain_trie_records.specs.Rising.{LacksNode, IsRaised}
use Rattle.plain_trie_records.specs.Store.{ShowsTree}
use Rattle.plain_trie_records.proofs.Store.{lower_more, no_node_below, shown_but}
use Rattle.plain_trie_records.proofs.rising.Replacing.{risen_around, child_spot, put_kept, added_node}
use Rattle.plain_trie_records.proofs.Store.Searching.{shown_within}

put_shown : (ns : List NodeView) (ls : List LeafRecord) {s b : Tree} (w : Within s b) → IsInOwnSubtrie w → (r : Tree) → ShowsTree ns ls b → ShowsTree ns ls r → ShowsTree ns ls (put w r)
put_shown ns ls here f r i j = j
put_shown ns ls (inside w) f r i j = elim f [ ]
put_shown ns ls (zero_side w) f r i j = (put_shown ns ls w f r i.0 j, i.1)
put_shown ns ls (one_side w) f r i j = (i.0, put_shown ns ls w f r i.1 j)

pub lower_part : (h : ℕ) {s b : Tree} (w : Within s b) → IsInOwnSubtrie w → IsLower h b → IsLower h s
lower_part h here f l = l
lower_part h (inside w) f l = elim f [ ]
lower_part h (zero_side w) f l = lower_part h w f l.0
lower_part h (one_side w) f l = lower_part h w f l.1

no_node_part : (n : ℕ) {s b : Tree} (w : Within s b) → IsInOwnSubtrie w → LacksNode n b → LacksNode n s
no_node_part n here f l = l
no_node_part n (inside w) f l = elim f [ ]
no_node_part n (zero_side w) f l = no_node_part n w f l.0
no_node_part n (one_side w) f l = no_node_part n w f l.1

-- a node of the tree, as the records have it
module _ (ns : List NodeView) (ls : List LeafRecord) (n : ℕ) (x : Fixed) (b : Tree) (trie : IsTrie b) (built : IsBuilt (node n x b)) (shown : ShowsTree ns ls (node n x b)) where
  old : NodeView
  old = shown.0.view

  pub old_height : shown.0.view.height ≡ x.height
  old_height = ap (λ (z : Fixed). z.height) shown.0.fixed

  bounded : shown.0.view.height + first_position (piece shown.0.view) ≤ 9 * MAX_BYTES
  bounded = let e = old_height in let f = ap first_position shown.0.shows in omega (arith, built.3.bound)

  -- the node is not below itself
  pub not_below : LacksNode n b
  not_below = no_node_below ns ls n x.height shown.0.view b shown.0.at old_height built.1 built.2 shown.1

  -- the new leaf in the node's own body
  module _ (ms : List NodeView) (it : Item) (p : ℕ) (key : IsKey it.key)
      (away : (y : Key) → Has (affected p it.key b) y → DifferFirstAt p it.key y)
      (new : slice_get ls it.number ≡ Some (record { key = it.key; value = it.value }))
      (others : OthersStay ns ms n) (risen : Risen) (shows : RisenShows ms shown.0.view risen (subtrie_grown p it.key (Leaf it.number) (subtrie b))) where
    kept_body : ShowsTree ms ls b
    kept_body = shown_but ns ms ls n b others not_below shown.1

    new_part : (u : Bool) → ShowsTree ms ls (grown u p (affected p it.key b) it) × IsBuilt (grown u p (affected p it.key b) it) × IsLower x.height (grown u p (affected p it.key b) it)
    new_part false = (
      (new, shown_within ms ls (part_place p it.key b).0 kept_body),
      (tt, built_within (part_place p it.key b).0 built.2),
      (lower_positive x.height b built.1, lower_part x.height (part_place p it.key b).0 (part_place p it.key b).1 built.1),
    )
    new_part true = (
      (shown_within ms ls (part_place p it.key b).0 kept_body, new),
      (built_within (part_place p it.key b).0 built.2, tt),
      (lower_part x.height (part_place p it.key b).0 (part_place p it.key b).1 built.1, lower_positive x.height b built.1),
    )

    pub grow_raised : IsRaised ns ms ls it p (node n x b) (suc x.height) (subtrie_of risen)
    grow_raised =
        let w = part_place p it.key b in
        let r : Tree = grown (bit it.key p) p (affected p it.key b) it in
        let c : Tree = put w.0 r in
        let facts = new_part (bit it.key p) in
        let adds = added w.0 it p c trie key w.2 away refl in
        let a = risen_around ms ls shown.0.view bounded risen c (subst (RisenShows ms shown.0.view risen) (sym (place_subtrie p it b)) shows) adds.trie
        (built_in_own_subtrie w.0 w.1 r built.2 facts.1) (put_shown ms ls w.0 w.1 r kept_body facts.0)
        (subst (λ h. IsLower h c) (sym old_height) (lower_in_own_subtrie x.height w.0 w.1 r built.1 facts.2)) in
        record {
          tree = a.tree;
          begins = a.begins;
          adds = added_node n x b a.tree it p (added_without_marks b a.tree c it p a.same adds);
          built = a.built;
          lower = subst (λ h. IsLower (suc h) a.tree) old_height a.lower;
          shown = a.shown;
          kept = λ m v no_m at. others m v (λ e. no_m.0 (sym e)) at;
        }

  -- what took the child's place, in the node's body
  module _ (ms : List NodeView) (it : Item) (p h : ℕ) (head : Subtrie) (below : WayBelow p it.key b)
      (up : IsRaised ns ms ls it p (child it.key b) h head) (low : h ≤ x.height) where
    -- the node's record is as it was
    pub old_stays : slice_get ms n ≡ Some shown.0.view
    old_stays = up.kept n shown.0.view (no_node_part n (child_spot it.key b).place (child_spot it.key b).flat not_below) shown.0.at

    pub body_lower : IsLower x.height (put (child_spot it.key b).place up.tree)
    body_lower = lower_in_own_subtrie x.height (child_spot it.key b).place (child_spot it.key b).flat up.tree built.1 (lower_more ms h x.height up.tree up.lower low)

    pub body_built : IsBuilt (put (child_spot it.key b).place up.tree)
    body_built = built_in_own_subtrie (child_spot it.key b).place (child_spot it.key b).flat up.tree built.2 up.built

    body_shown : ShowsTree ms ls (put (child_spot it.key b).place up.tree)
    body_shown =
        put_kept ns ms ls (child_spot it.key b).place (child_spot it.key b).flat up.tree trie shown.1 (shown_within ns ls (child_spot it.key b).place shown.1) up.kept up.shown

    pub body_adds : IsAdded it p b (put (child_spot it.key b).place up.tree)
    body_adds = added_in_whole (child_spot it.key b).place up.tree it p trie ((child_spot it.key b).path p below) up.adds

    body_subtrie : subtrie (put (child_spot it.key b).place up.tree) ≡ grafted (spot it.key (subtrie b)) head (subtrie b)
    body_subtrie = (child_spot it.key b).shows up.tree ∙ ap (λ z. grafted (spot it.key (subtrie b)) z (subtrie b)) up.begins

    pub pulled_raised : (us : List NodeView) (risen : Risen) → OthersStay ms us n → RisenShows us shown.0.view risen (grafted (spot it.key (subtrie b)) head (subtrie b)) →
        IsRaised ns us ls it p (node n x b) (suc x.height) (subtrie_of risen)
    pulled_raised us risen others shows =
        let c : Tree = put (child_spot it.key b).place up.tree in
        let none = no_node_below ms ls n x.height shown.0.view c old_stays old_height body_lower body_built body_shown in
        let a = risen_around us ls shown.0.view bounded risen c (subst (RisenShows us shown.0.view risen) (sym body_subtrie) shows) body_adds.trie body_built
        (shown_but ms us ls n c others none body_shown) (subst (λ h. IsLower h c) (sym old_height) body_lower) in
        record {
          tree = a.tree;
          begins = a.begins;
          adds = added_node n x b a.tree it p (added_without_marks b a.tree c it p a.same body_adds);
          built = a.built;
          lower = subst (λ h. IsLower (suc h) a.tree) old_height a.lower;
          shown = a.shown;
          kept = λ m v no_m at. others m v (λ e. no_m.0 (sym e)) (up.kept m v (no_node_part m (child_spot it.key b).place (child_spot it.key b).flat no_m.1) at);
        }
