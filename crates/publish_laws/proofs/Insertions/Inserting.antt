-- Insertions may be published.
use Rattle.publish_laws.proofs.Common.{◌≡◌, ◌≢◌, inl, inr, List, [], ◌∷◌, Some, None, refl, sym, ap, subst, ◌∙◌, Leaf, Node, bit, AgreeBelow, a_node, a_leaf, added_change, IsNewSubtrie, linked_by_rise, IsPublished, trie_within, newest_tree_if_spot_held, leaf_at, trie_now, Root, leaf_of, bare, heap_of, stored_words, stored_root, knows_all, Made, recs_of, publishes_made, MayPublish, insert_at_spot}
use Rattle.publish_laws.specs.Rises.{made_of_node, made_of_leaf}
use Rattle.publish_laws.proofs.Stages.{node_fixed, made_leaf, made_node, stage_of}
use Rattle.publish_laws.proofs.Spots.{stores_at}
use Rattle.publish_laws.proofs.Cases.Publishing.{publish_words, publish_root}
use Rattle.publish_laws.proofs.Rises.Bounding.{bound_of}
use Rattle.version_laws.proofs.Statements.Leaves.{first_root, pair_tree, pair_at_spot}
use Rattle.publish_laws.specs.Cases.{MayAddFirstKey, MayPair}
use Rattle.publish_laws.specs.Insertions.{Insertion}

pub insertion : Insertion
insertion layout k held news gone has x n w e at risen has_leaf place word = publishes_made layout k at w (added_change k.pass x.item) None news gone has.own may
  where
    may : MayPublish layout k at w (added_change k.pass x.item) None (recs_of news) gone
    may c law layout_is known =
        let stage = stage_of layout k held news has c law layout_is known in
        let s = stores_at layout k held news c stage known x.item.key (Node n place.height) at place.holds e w place.fits word in
        let new = made_leaf layout k held news c stage x.item has_leaf in
        let (i, news_are, gone_is) = risen c stage in
        let heap = heap_of (stored_words c at w) in
        let root = stored_root c at w in
        let published = insert_at_spot (bare c) k.pass law.core.state x new n place.height e i s.spot (s.alone x.mismatch place.alone) s.low heap root s.stored in
        publish_words c (added_change k.pass x.item) law known.pass at w (Some e) s.of_entry s.locked word.0 word.1 s.packed None (recs_of news) gone
        (subst (λ z. IsPublished (bare c) heap root (added_change k.pass x.item) z gone) news_are (subst (λ z. IsPublished (bare c) heap root (added_change k.pass x.item) (linked_by_rise i) z) gone_is published))
        (λ f. f)

pub pair : MayPair
pair layout k held x fresh p j m w l view at has spelled holds alone fits there agree differ anew shows word = publishes_made layout k at w (added_change k.pass x) None news [] has.own may
  where
    news : List Made
    news = made_of_node m view ∷ made_of_leaf x fresh ∷ []

    may : MayPublish layout k at w (added_change k.pass x) None (a_node m ∷ a_leaf x.number ∷ []) []
    may c law layout_is known =
        let stage = stage_of layout k held news has c law layout_is known in
        let s = stores_at layout k held news c stage known x.key (Leaf j) at holds (Node m view.height) w fits word in
        let new = made_leaf layout k held news c stage x (fresh, inr (inl refl), spelled) in
        let key : (leaf_of (c.words (a_leaf j))).key ≡ l = there c stage in
        let agreed = subst (λ z. AgreeBelow p x.key z) (sym key) agree in
        let differs = subst (λ z. bit x.key p ≢ bit z p) (sym key) differ in
        let (t, now) = newest_tree_if_spot_held (bare c) k.pass law.core.state s.spot in
        let is_key = trie_within (leaf_at (bare c) k.pass law.core.state t now x.key j s.spot).place (trie_now (bare c) law.core.state t now) in
        let (both, pg, trie, built) = pair_tree x p j 0 (leaf_of (c.words (a_leaf j))).key new.key is_key agreed differs in
        let subtrie_made = subst (IsNewSubtrie (bare c) k.pass m (node_fixed view)) shows (made_node layout k held news c stage m view (inl refl) anew.0 (bound_of view both anew (shows ∙ sym pg) trie built)) in
        publish_words c (added_change k.pass x) law known.pass at w (Some (Node m view.height)) s.of_entry s.locked word.0 word.1 s.packed None (a_node m ∷ a_leaf x.number ∷ []) []
        (pair_at_spot (bare c) k.pass law.core.state x p new j m (node_fixed view) s.spot (s.alone p alone) agreed differs subtrie_made s.low (heap_of (stored_words c at w)) (stored_root c at w) s.stored) (λ f. f)

pub first_made : MayAddFirstKey
first_made layout k held x fresh w has spelled word anchor = publishes_made layout k Root w (added_change k.pass x) None (made_of_leaf x fresh ∷ []) [] has.own may
  where
    may : MayPublish layout k Root w (added_change k.pass x) None (a_leaf x.number ∷ []) []
    may c law layout_is known =
        let stage = stage_of layout k held (made_of_leaf x fresh ∷ []) has c law layout_is known in
        let new = made_leaf layout k held (made_of_leaf x fresh ∷ []) c stage x (fresh, inl refl, spelled) in
        let (lock, root) = (knows_all c k known).anchor None anchor in
        publish_root c (added_change k.pass x) law known.pass w (Some (Leaf x.number)) lock word.0 word.1 None (a_leaf x.number ∷ []) []
        (first_root (bare c) k.pass law.core.state x lock root new) (λ f. f)
