-- What has risen stays while the pass goes on, and grows by one step.
pub mod Bounding
use Rattle.publish_laws.proofs.Common.{◌≡◌, inl, ℕ, List, [], ◌∷◌, ◌++◌, refl, sym, ap, ap₂, subst, ◌∙◌, Rec, piece, NodeView, Entry, Node, Leaf, Place, Fork, Layout, bit, Subtrie, Tree, fork, subtrie, IsTrie, IsBuilt, with_subtrie, a_node, a_leaf, NodeWords, IsEntryFor, alone, in_node, IsNewSubtrie, IsRise, body, entry, grows, pulls, copies, halves, stays_whole, wraps, linked_for_entry, linked_by_rise, unlinked_by_rise, Side, Known, Locked, node_words_of, Core, bare, IsOwned, IsLocked, IsOneOf, of_left, of_right, fork_parts, subtrie_affected, subtrie_forked, subtrie_grown, IsLeafOrForkSubtrie, FirstForkIsBefore, FirstForkIsFrom, IsWayBelow, IsFoundBelow, Newcomer, IsLater, Made, held_as, recs_of, recalls_before}
use Rattle.rowex_core.specs.declared.known.Holding.TheVariants.{Ready}
use Rattle.version_laws.proofs.Statements.Upwards.{upper_goes_on}
use Rattle.publish_laws.proofs.Rises.Bounding.{bound_of, tree_risen, bound_risen}
use Rattle.publish_laws.proofs.Sure.{reach_since}
use Rattle.publish_laws.proofs.Stages.{node_fixed, locked_node, upper_in, made_node}
use Rattle.publish_laws.specs.Stages.{IsStage, HasRisen, HasLeaf, IsLockedAbove}
use Rattle.publish_laws.specs.Rises.{AboveGoesOn, HasFoundBelow, IsSide, anew, made_of_leaf, made_of_node, one, IsBuiltAnew}
use Rattle.publish_laws.proofs.Loops.{recs_append}

-- What stays

pub stage_earlier : (layout : Layout) (k j : Known) → IsLater k j → (held : List Locked) (news : List Made) (c : Core) → IsStage layout j held news c → IsStage layout k held news c
stage_earlier layout k j later held news c s = record {
  lawful = s.lawful;
  layout_is = s.layout_is;
  recalls = recalls_before later s.recalls;
  locks = λ l i. subst (λ q. IsLocked q c l) later.pass (s.locks l i);
  made = λ m i. subst (λ q. IsOwned q c (held_as Ready m)) later.pass (s.made m i);
}

-- What has risen stays, while the pass goes on.
pub risen_stays : (layout : Layout) (k j : Known) → IsLater k j → (held : List Locked) (news : List Made) (gone : List Rec) (x : Newcomer) →
    (d : Side) (r : Subtrie) → HasRisen layout k held news x d r gone → HasRisen layout j held news x d r gone
risen_stays layout k j later held news gone x d r risen c stage =
    subst (λ q. (i : IsRise (bare c) q x d r) × (linked_by_rise i ≡ recs_of news) × (unlinked_by_rise i ≡ gone)) (sym later.pass)
    (risen c (stage_earlier layout k j later held news c stage))

-- a stage of more records is one of fewer
fewer : (layout : Layout) (k : Known) (held : List Locked) (more news : List Made) (c : Core) → IsStage layout k held (more ++ news) c → IsStage layout k held news c
fewer layout k held more news c s = record { lawful = s.lawful; layout_is = s.layout_is; recalls = s.recalls; locks = s.locks; made = λ m i. s.made m (of_right m more news i) }

-- One level more

-- A body in a node of its own: a copy of the old one, which goes.
pub rises_copied : (layout : Layout) (k : Known) (held : List Locked) (news : List Made) (gone : List Rec) (x : Newcomer) →
    HasLeaf news x.item → (n : ℕ) (words : List ℕ) → IsOneOf (record { node = n; words = words }) held → (m : ℕ) (view : NodeView) → IsBuiltAnew view →
    HasRisen layout k held news x (body n) (piece view) gone →
    HasRisen layout k held (made_of_node m view ∷ news) x (entry n) (Place (Node m view.height)) (a_node n ∷ gone)
rises_copied layout k held news gone x leaf n words at m view may risen c stage =
    let less = fewer layout k held (made_of_node m view ∷ []) news c stage in
    let (i, new, old) = risen c less in
    let bound = bound_risen layout k held news c less x (body n) words leaf at (piece view) i view may refl in
    let subtrie = made_node layout k held (made_of_node m view ∷ news) c stage m view (inl refl) may.0 bound in
    (copies n (piece view) m (node_fixed view) i subtrie, ap (λ z. a_node m ∷ z) new, ap (λ z. a_node n ∷ z) old)

-- What comes in the place of an entry, in a node of its own: an intermediate node, or a new root.
pub rises_wrapped : (layout : Layout) (k : Known) (held : List Locked) (news : List Made) (gone : List Rec) (x : Newcomer) →
    HasLeaf news x.item → (n : ℕ) (words : List ℕ) → IsOneOf (record { node = n; words = words }) held → (m : ℕ) (view : NodeView) → IsBuiltAnew view →
    HasRisen layout k held news x (entry n) (piece view) gone →
    HasRisen layout k held (made_of_node m view ∷ news) x (entry n) (Place (Node m view.height)) gone
rises_wrapped layout k held news gone x leaf n words at m view may risen c stage =
    let less = fewer layout k held (made_of_node m view ∷ []) news c stage in
    let (i, new, old) = risen c less in
    let bound = bound_risen layout k held news c less x (entry n) words leaf at (piece view) i view may refl in
    let subtrie = made_node layout k held (made_of_node m view ∷ news) c stage m view (inl refl) may.0 bound in
    (wraps n (piece view) m (node_fixed view) i subtrie, ap (λ z. a_node m ∷ z) new, old)

-- One level up, with no new record: the node above has what comes in the place of its entry.
pub rises_pulled : (layout : Layout) (k : Known) (held : List Locked) (news : List Made) (gone : List Rec) (x : Newcomer) →
    (o n : ℕ) (r : Subtrie) (a : IsLockedAbove held x.item.key x.mismatch o n) →
    HasRisen layout k held news x (entry n) r gone → HasRisen layout k held news x (body o) (with_subtrie x.item.key r (node_words_of a.upper).subtrie) gone
rises_pulled layout k held news gone x o n r a risen c stage =
    let (i, new, old) = risen c stage in
    let u = upper_in layout k held news c stage x.item.key x.mismatch o n a in
    let here : (bare c).heap.nodes o ≡ node_words_of a.upper = (locked_node layout k held news c stage o a.upper a.has_upper).1 in
    subst (λ (z : NodeWords). (i : IsRise (bare c) k.pass x (body o) (with_subtrie x.item.key r z.subtrie)) × (linked_by_rise i ≡ recs_of news) × (unlinked_by_rise i ≡ gone)) here (pulls o n r u i, new, old)

-- the entry for a side, in a core in which its records are made, where some lawful tree has its subtrie
pub side_in : (layout : Layout) (k : Known) (held : List Locked) (news : List Made) (c : Core) → IsStage layout k held news c → (x : Subtrie) (e : Entry) (us : List Made) → IsSide x e us → ((m : Made) → IsOneOf m us → IsOneOf m news) →
    (s : Tree) → subtrie s ≡ x → IsTrie s → IsBuilt s → (i : IsEntryFor (bare c) k.pass x e) × (linked_for_entry i ≡ recs_of us)
side_in layout k held news c stage x e us (one d is) has s pg trie built = (alone d is, refl)
side_in layout k held news c stage x e us (anew m view may is) has s pg trie built =
    (in_node m (node_fixed view) (subst (IsNewSubtrie (bare c) k.pass m (node_fixed view)) is (made_node layout k held news c stage m view (has (made_of_node m view) (inl refl)) may.0 (bound_of view s may (is ∙ sym pg) trie built))), refl)

-- A body cut at its first fork, of which each side has one entry; the upper side is made first.
pub rises_halved : (layout : Layout) (k : Known) (held : List Locked) (news : List Made) (gone : List Rec) (x : Newcomer) →
    HasLeaf news x.item → (n : ℕ) (words : List ℕ) → IsOneOf (record { node = n; words = words }) held →
    (f : ℕ) (a b : Subtrie) (d e : Entry) (us vs : List Made) → IsSide a d us → IsSide b e vs →
    HasRisen layout k held news x (body n) (Fork f a b) gone →
    HasRisen layout k held (us ++ (vs ++ news)) x (entry n) (Fork f (Place d) (Place e)) (a_node n ∷ gone)
rises_halved layout k held news gone x leaf n words at f a b d e us vs lower upper risen c stage =
    let less = fewer layout k held vs news c (fewer layout k held us (vs ++ news) c stage) in
    let (i, new, old) = risen c less in
    let (s, pg, trie, built) = tree_risen layout k held news c less x (body n) words leaf at (Fork f a b) i in
    let (u, w, is, pu, pw) = fork_parts s f a b pg in
    let trie : IsTrie (fork f u w) = subst IsTrie is trie in
    let built : IsBuilt (fork f u w) = subst IsBuilt is built in
    let (g, gn) = side_in layout k held (us ++ (vs ++ news)) c stage a d us lower (λ m h. of_left m us (vs ++ news) h) u pu trie.0 built.0 in
    let (h, hn) = side_in layout k held (us ++ (vs ++ news)) c stage b e vs upper (λ m h. of_right m us (vs ++ news) (of_left m vs news h)) w pw trie.1 built.1 in
    let same : linked_for_entry g ++ (linked_for_entry h ++ linked_by_rise i) ≡ recs_of (us ++ (vs ++ news)) =
    ap₂ (λ y z. y ++ z) gn (ap₂ (λ y z. y ++ z) hn new ∙ sym (recs_append vs news)) ∙ sym (recs_append us (vs ++ news)) in
    (halves n f a b d e i g h, same, ap (λ z. a_node n ∷ z) old)

-- How it begins

pub found_in : (layout : Layout) (k : Known) (held : List Locked) (news : List Made) (x : Newcomer) (n : ℕ) (words : List ℕ) → HasFoundBelow k held x n words →
    (c : Core) → IsStage layout k held news c → IsFoundBelow (bare c) k.pass x n × ((bare c).heap.nodes n ≡ node_words_of words)
found_in layout k held news x n words f c stage =
    let (node, same) = locked_node layout k held news c stage n words f.locked in (
      record {
        key = f.leaf.key;
        reach = reach_since k x.since f.pinned c stage.lawful stage.recalls;
        lock = node.lock;
        way = subst (λ (z : NodeWords). IsWayBelow c.past x.since x.item.key z.subtrie x.like) (sym same) (f.way c stage.lawful stage.recalls);
        agree = f.agree;
        differ = f.differ;
      },
      same,
    )

-- The lowest node gets the new leaf,
pub rise_grows : (layout : Layout) (k : Known) (held : List Locked) (x : Newcomer) (fresh : List ℕ) (n : ℕ) (words : List ℕ) →
    HasFoundBelow k held x n words →
    IsLeafOrForkSubtrie (subtrie_affected x.mismatch x.item.key (node_words_of words).subtrie) →
    HasRisen layout k held (made_of_leaf x.item fresh ∷ []) x (body n) (subtrie_grown x.mismatch x.item.key (Leaf x.item.number) (node_words_of words).subtrie) []
rise_grows layout k held x fresh n words f part c stage =
    let (found, same) = found_in layout k held (made_of_leaf x.item fresh ∷ []) x n words f c stage in
    subst (λ (z : NodeWords). (i : IsRise (bare c) k.pass x (body n) (subtrie_grown x.mismatch x.item.key (Leaf x.item.number) z.subtrie)) × (linked_by_rise i ≡ a_leaf x.item.number ∷ []) × (unlinked_by_rise i ≡ [])) same
    (grows n found (subst (λ (z : NodeWords). IsLeafOrForkSubtrie (subtrie_affected x.mismatch x.item.key z.subtrie)) (sym same) part), refl, refl)

-- or stays whole, and the new leaf stands beside it.
pub rise_whole : (layout : Layout) (k : Known) (held : List Locked) (x : Newcomer) (fresh : List ℕ) (n : ℕ) (words : List ℕ) →
    HasFoundBelow k held x n words → FirstForkIsFrom x.mismatch (node_words_of words).subtrie →
    let height = (node_words_of words).fixed.height in
    HasRisen layout k held (made_of_leaf x.item fresh ∷ []) x (entry n) (subtrie_forked (bit x.item.key x.mismatch) x.mismatch (Leaf x.item.number) (Place (Node n height))) []
rise_whole layout k held x fresh n words f first c stage =
    let (found, same) = found_in layout k held (made_of_leaf x.item fresh ∷ []) x n words f c stage in
    subst (λ (z : NodeWords). (i : IsRise (bare c) k.pass x (entry n) (subtrie_forked (bit x.item.key x.mismatch) x.mismatch (Leaf x.item.number) (Place (Node n z.fixed.height)))) × (linked_by_rise i ≡ a_leaf x.item.number ∷ []) × (unlinked_by_rise i ≡ [])) same
    (stays_whole n found (subst (λ (z : NodeWords). FirstForkIsFrom x.mismatch z.subtrie) (sym same) first), refl, refl)

-- On and on upwards

pub above_goes_on : AboveGoesOn
above_goes_on layout k held news c stage key p o n a =
    let u = upper_in layout k held news c stage key p o n a in
    let (on, upper) = locked_node layout k held news c stage o a.upper a.has_upper in
    subst (λ (z : NodeWords). FirstForkIsBefore p z.subtrie) upper (upper_goes_on (bare c) k.pass stage.lawful.core.state key p o n u)
