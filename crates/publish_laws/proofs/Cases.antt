-- Values may be stored, and removals published; and leaves that a pass has read keep their keys.
pub mod Merging
pub mod Publishing
use Rattle.publish_laws.proofs.Common.{ℕ, inl, List, [], ◌∷◌, Some, None, refl, sym, ap, subst, ◌∙◌, Locked, IsPinnedSince, IsRead, Key, Layout, Known, Leaf, Node, Change, seek, subtrie_without, leaf, Within, a_node, a_leaf, NodeWords, LeafWords, replaced_change, removed_change, IsLeafOf, linked_for_entry, IsPublished, newest_tree_if_spot_held, leaf_at, Root, Value, node_words_of, bare, heap_of, stored_words, stored_root, knows_all, Made, recs_of, publishes_made, MayPublish, value_is_legal, in_root, left_tree, same_entry, remove_at_spot, remove_only, leaf_now, state_of, item}
use Rattle.publish_laws.specs.Stages.{IsLeafThere, IsSure}
use Rattle.publish_laws.proofs.Stages.{locked_node, stage_of}
use Rattle.publish_laws.proofs.Spots.{spot_in, stores_at}
use Rattle.publish_laws.proofs.Stages.Valuing.{loaded_leaf, locked_value, named_at, named_below}
use Rattle.finite_map.specs.declared.Kind.TheVariants.{Replaced}
use Rattle.publish_laws.proofs.Sure.{reach_since}
use Rattle.publish_laws.proofs.Cases.Publishing.{publish_words, publish_root, leaf_held}
use Rattle.publish_laws.proofs.Rises.{side_in}
use Rattle.publish_laws.specs.Cases.{MayStoreValue, MayRemove, MayRemoveLast}

-- A leaf that a pinned pass has read keeps its key.
pub leaf_stays : (layout : Layout) (k : Known) (held : List Locked) (news : List Made) (since j : ℕ) (key : Key) (value : ℕ) → IsPinnedSince k since →
    IsSure k (λ s. IsRead s since j key value) → IsLeafThere layout k held news j key
leaf_stays layout k held news since j key value pinned sure c stage =
    let (n, lo, hi, st) = sure c stage.lawful stage.recalls in
    (leaf_now (state_of c) stage.lawful.core.state since (reach_since k since pinned c stage.lawful stage.recalls) n j j key value lo hi st).key

pub store_value : MayStoreValue
store_value layout k held key j w value at has holds there loaded small = publishes_made layout k (Value j) w change (Some value) [] [] has.own may
  where
    change : Change
    change = replaced_change k.pass (item j key w)

    may : MayPublish layout k (Value j) w change (Some value) [] []
    may c law layout_is known =
        let stage = stage_of layout k held [] has c law layout_is known in
        let spot = spot_in layout k held [] c stage known key (Leaf j) at holds in
        let named = named_at c k.pass key j spot in
        let is_leaf = loaded_leaf c k law known j key value named (there c stage) loaded in
        let (legal, trade) = value_is_legal c k.pass j w law (locked_value c k.pass law j named) small in
        let (t, now) = newest_tree_if_spot_held (bare c) k.pass law.core.state spot in
        let stands : Within (leaf j key value) t = subst (λ (z : LeafWords). Within (leaf j z.key z.value) t) is_leaf (leaf_at (bare c) k.pass law.core.state t now key j spot).place in
        record {
          legal = legal;
          change = ap (λ z. let x : Change = record { pass = k.pass; key = z; value = w; kind = Replaced } in x) (there c stage);
          was_held = leaf_held c law t now j key value stands;
          trade = trade;
        }

pub remove : MayRemove
remove layout k held news key n j height w value e words at has side below names holds fits there loaded word =
    publishes_made layout k at w change (Some value) news (a_node n ∷ a_leaf j ∷ []) has.own may
  where
    change : Change
    change = removed_change k.pass (item j key value)

    may : MayPublish layout k at w change (Some value) (recs_of news) (a_node n ∷ a_leaf j ∷ [])
    may c law layout_is known =
        let stage = stage_of layout k held news has c law layout_is known in
        let s = stores_at layout k held news c stage known key (Node n height) at holds e w fits word in
        let (locked, same) = locked_node layout k held news c stage n words below in
        let entry = ap (λ (y : NodeWords). seek key y.subtrie) same ∙ names in
        let is_leaf = loaded_leaf c k law known j key value (named_below c k.pass key j n locked entry) (there c stage) loaded in
        let seen : IsLeafOf (bare c) k.pass key n j = record { lock = locked.lock; entry = entry; key = there c stage } in
        let (t, now) = newest_tree_if_spot_held (bare c) k.pass law.core.state s.spot in
        let (b, pg, trie, built) = left_tree (bare c) k.pass law.core.state key n j seen t now locked.linked locked.fate in
        let (i, made) = side_in layout k held news c stage (subtrie_without key (node_words_of words).subtrie) e news side (λ m h. h) b (pg ∙ ap (λ (y : NodeWords). subtrie_without key y.subtrie) same) trie built in
        let (z, still) = same_entry (bare c) k.pass (subtrie_without key (node_words_of words).subtrie) (subtrie_without key ((bare c).heap.nodes n).subtrie) (ap (λ (y : NodeWords). subtrie_without key y.subtrie) (sym same)) e i in
        let heap = heap_of (stored_words c at w) in
        let root = stored_root c at w in
        let published = remove_at_spot (bare c) k.pass law.core.state key n j seen height e z s.spot s.low heap root s.stored in
        publish_words c change law known.pass at w (Some e) s.of_entry s.locked word.0 word.1 s.packed (Some value) (recs_of news) (a_node n ∷ a_leaf j ∷ [])
        (subst (λ us. IsPublished (bare c) heap root change us (a_node n ∷ a_leaf j ∷ [])) (still ∙ made)
        (subst (λ (y : LeafWords). IsPublished (bare c) heap root (removed_change k.pass (item j key y.value)) (linked_for_entry z) (a_node n ∷ a_leaf j ∷ [])) is_leaf published)) (λ f. f)

pub remove_the_last : MayRemoveLast
remove_the_last layout k held j value key has anchor there loaded = publishes_made layout k Root 0 change (Some value) [] (a_leaf j ∷ []) has.own may
  where
    change : Change
    change = removed_change k.pass (item j key value)

    may : MayPublish layout k Root 0 change (Some value) [] (a_leaf j ∷ [])
    may c law layout_is known =
        let stage = stage_of layout k held [] has c law layout_is known in
        let (lock, root) = (knows_all c k known).anchor (Some (Leaf j)) anchor in
        publish_root c change law known.pass 0 None lock tt refl (Some value) [] (a_leaf j ∷ [])
        (subst (λ (y : LeafWords). IsPublished (bare c) (heap_of c.words) None (removed_change k.pass (item j y.key y.value)) [] (a_leaf j ∷ [])) (loaded_leaf c k law known j key value (in_root lock root) (there c stage) loaded)
        (remove_only (bare c) k.pass law.core.state j lock root)) (λ f. f)
