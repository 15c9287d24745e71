-- What the map is after a key was added, or got another value.
use Rattle.std.proofs.Common.{◌≡◌, ℕ, List, [], ◌∷◌, ◌++◌, length, refl, ap, ap₂, sym, ◌∙◌, subst, Some, None, set, get_or}
use Rattle.std.specs.Prelude.{slice_get}
use Rattle.key_bits.specs.Bits.{IsFirstDifference}
use Rattle.key_bits.specs.Key.{IsKey}
use Rattle.node_tries.specs.Piece.{Place}
use Rattle.compound_node.specs.Nodes.{NodeView}
use Rattle.compound_node.specs.declared.entries.Entry.{Entry}
use Rattle.finite_map.specs.Maps.{Map, with_value, value_at, step_where, reply_of, map_after}
use Rattle.finite_map.specs.declared.Call.TheVariants.{Insert, Upsert}
use Rattle.finite_map.specs.declared.Reply.TheVariants.{Inserted, Exists, New, Was}
use Rattle.tries.proofs.Changes.{put, IsExchanged}
use Rattle.tries.specs.Content.{Item, items, pairs, item}
use Rattle.tries.specs.Keys.{Key}
use Rattle.tries.specs.Search.{found}
use Rattle.tries.specs.Tree.{Tree, leaf, subtrie, IsTrie, IsBuilt, Within}
use Rattle.tries.proofs.Changes.Adding.{exchanged_in_whole, exchanged_leaf}
use Rattle.tries.proofs.Content.{content_rises}
use Rattle.tries.proofs.Content.Maps.{are_keys, more_inserts, exchange_inserts}
use Rattle.tries.proofs.Tree.{trie_within}
use Rattle.tries.proofs.Changes.Puts.{subtrie_put}
use Rattle.plain_trie_records.specs.declared.leaf.LeafRecord.{LeafRecord}
use Rattle.plain_trie_records.specs.Rising.{IsAddable, IsRaised}
use Rattle.plain_trie_records.specs.Store.{IsSound, ShowsTree, item_record}
use Rattle.plain_trie_records.proofs.Store.{shown_more}
use Rattle.plain_trie_records.proofs.Store.Putting.{found_place, put_same, shown_put}
use Rattle.plain_trie_records.proofs.Risen.{push_new, push_old}
use Rattle.plain_trie.specs.Views.{PlainView, IsTree, ShowsSoundTree, IsHeldInLeaf, trie_map}
use Rattle.plain_trie.proofs.Views.{end_found, end_read, tree_is, tree_plain, map_is}

-- a trie with this map
abbrev pub Becomes : PlainView → PlainView → Key → ℕ → Type 0
Becomes v w k x = ShowsSoundTree w × (trie_map w ≡ with_value (trie_map v) k x)

becomes : (v w : PlainView) (e : Entry) (t : Tree) (k : Key) (x : ℕ) → w.top ≡ Some e → subtrie t ≡ Place e → IsTrie t → IsBuilt t → ShowsTree w.nodes w.leaves t →
    with_value (trie_map v) k x ≡ pairs (items t) → Becomes v w k x
becomes v w e t k x top head trie built shown same =
    let sound : IsSound t = record { trie = trie; built = built } in
    (tree_plain w e t top head sound shown, map_is w t (tree_is w e t top head sound shown) ∙ sym same)

-- ---- one key more
-- with its leaf behind the others
pub leaf_addable : (v : PlainView) (ms : List NodeView) (us : List LeafRecord) (e : Entry) (t : Tree) (k : Key) (x m p : ℕ) → IsTree v e t → ms ≡ v.nodes → us ≡ v.leaves ++ record { key = k; value = x } ∷ [] →
    m ≡ length v.leaves → IsKey k → IsFirstDifference k (found k t).key p → IsAddable ms us (item m k x) p e t
leaf_addable v ms us e t k x m p i nodes leaves number key differ = record {
  head = i.head;
  trie = i.sound.trie;
  built = i.sound.built;
  shown = subst (λ ns. ShowsTree ns us t) (sym nodes)
      (shown_more v.nodes v.nodes v.leaves us t (λ j y at. at) (λ j l at. ap (λ (z : List LeafRecord). slice_get z j) leaves ∙ push_old v.leaves _ j l at) i.shown);
  key = key;
  differ = differ;
  new = ap₂ (λ (z : List LeafRecord) (j : ℕ). slice_get z j) leaves number ∙ push_new v.leaves (record { key = k; value = x });
}

pub raised_becomes : (v w : PlainView) (ns : List NodeView) (e f : Entry) (t : Tree) (x : Item) (p h : ℕ) → IsTree v e t → w.top ≡ Some f →
    IsRaised ns w.nodes w.leaves x p t h (Place f) → Becomes v w x.key x.value
raised_becomes v w ns e f t x p h i top u =
    becomes v w f u.tree x.key x.value top u.begins u.adds.trie u.built u.shown
    (ap (λ m. with_value m x.key x.value) (map_is v t i.is) ∙ more_inserts x (items t) (items u.tree) u.adds.more (content_rises u.tree u.adds.trie) (are_keys u.tree u.adds.trie))

-- ---- another value
pub held_becomes : (v w : PlainView) (k : Key) (n x : ℕ) → IsHeldInLeaf v k n → w.nodes ≡ v.nodes → w.leaves ≡ set v.leaves n (record { key = k; value = x }) → w.top ≡ v.top → Becomes v w k x
held_becomes v w k n x (e, o, key) nodes leaves top =
    becomes v w e (put place new) k x (top ∙ o.top) (subtrie_put place new refl ∙ o.stands.head) exchange.trie (put_same place new refl tt o.stands.sound.built)
    (subst (λ ns. ShowsTree ns w.leaves (put place new)) (sym nodes) (subst (λ ls. ShowsTree v.nodes ls (put place new)) (sym leaves)
    (shown_put v.nodes v.leaves n k (found k o.tree).value x place o.stands.sound.trie at o.stands.shown)))
    (ap (λ m. with_value m k x) (map_is v o.tree o.stands.is) ∙
    exchange_inserts (item n k (found k o.tree).value) (item n k x) (items o.tree) (items (put place new)) exchange.exchange refl (content_rises o.tree o.stands.sound.trie) (are_keys o.tree o.stands.sound.trie))
  where
    new : Tree
    new = leaf n k x

    place : Within (leaf n k (found k o.tree).value) o.tree
    place = subst (λ m. Within (leaf m k (found k o.tree).value) o.tree) o.number
        (subst (λ l. Within (leaf (found k o.tree).number l (found k o.tree).value) o.tree) key (found_place k o.tree))

    at : slice_get v.leaves n ≡ Some (record { key = k; value = (found k o.tree).value })
    at = o.at ∙ ap (λ l. Some (item_record (item n l (found k o.tree).value))) key

    exchange : IsExchanged (item n k (found k o.tree).value) (item n k x) o.tree (put place (leaf n k x))
    exchange = exchanged_in_whole place (leaf n k x) (item n k (found k o.tree).value) (item n k x) o.stands.sound.trie (exchanged_leaf n n k (found k o.tree).value x (trie_within place o.stands.sound.trie))

-- the value that stands in the leaf of a held key
pub held_value : (u v : PlainView) (k : Key) (n : ℕ) (l : LeafRecord) → u ≡ v → IsHeldInLeaf v k n → l ≡ get_or u.leaves n l → value_at (trie_map v) k ≡ Some l.value
held_value u v k n l same (e, o, key) at =
    let is : l ≡ get_or v.leaves n l = rw (← same) at in end_found o l is (ap (λ (r : LeafRecord). r.key) (end_read o l is) ∙ key)

-- ---- what the calls answer
pub added_reply : (m : Map) (k : Key) (x : ℕ) → value_at m k ≡ None → (Inserted ≡ reply_of m (Insert k x)) × (New ≡ reply_of m (Upsert k x)) × (with_value m k x ≡ map_after m (Insert k x))
added_reply m k x e = (
  sym (ap (λ o. (step_where o m (Insert k x)).1) e),
  sym (ap (λ o. (step_where o m (Upsert k x)).1) e),
  sym (ap (λ o. (step_where o m (Insert k x)).0) e),
)

pub held_reply : (m : Map) (k : Key) (x y : ℕ) → value_at m k ≡ Some y → (Exists y ≡ reply_of m (Insert k x)) × (Was y ≡ reply_of m (Upsert k x)) × (m ≡ map_after m (Insert k x)) × (with_value m k x ≡ map_after m (Upsert k x))
held_reply m k x y e = (
  sym (ap (λ o. (step_where o m (Insert k x)).1) e),
  sym (ap (λ o. (step_where o m (Upsert k x)).1) e),
  sym (ap (λ o. (step_where o m (Insert k x)).0) e),
  sym (ap (λ o. (step_where o m (Upsert k x)).0) e),
)
