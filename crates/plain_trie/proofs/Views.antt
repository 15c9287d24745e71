-- The tree of a sequential trie, and its map.
use Rattle.std.proofs.Common.{◌≡◌, ◌≢◌, ℕ, refl, ap, sym, ◌∙◌, subst, Option, Some, None, [], get_or}
use Rattle.std.specs.Prelude.{IsSomeAnd, MatchOption, option_and_then}
use Rattle.std.specs.Vec.{vec_capacity}
use Rattle.node_tries.specs.Piece.{Place}
use Rattle.compound_node.specs.Nodes.{height_of}
use Rattle.compound_node.specs.declared.entries.Entry.{Entry}
use Rattle.finite_map.specs.Maps.{value_at}
use Rattle.tries.specs.Content.{items, pairs}
use Rattle.tries.specs.Keys.{Key}
use Rattle.tries.specs.Search.{found}
use Rattle.tries.specs.Tree.{Tree, subtrie}
use Rattle.plain_trie_records.specs.declared.leaf.LeafRecord.{LeafRecord}
use Rattle.plain_trie_records.specs.Store.{IsSound, ShowsTree, entry_tree, item_record}
use Rattle.plain_trie_records.proofs.Store.Reading.{read_sound, read_exact}
use Rattle.plain_trie_records.proofs.Store.Searching.{read_at}
use Rattle.plain_trie_records.proofs.Values.{value_found, value_missed}
use Rattle.plain_trie.specs.declared.plain.PlainTrie.TheInside.{Inside}
use Rattle.plain_trie.specs.Views.{PlainView, EndsAt, IsTree, shown_tree, map_read, trie_map, ShowsSoundTree, ShowsTrie}

-- what the contract sees of a trie
abbrev pub view : Inside → PlainView
view i = record { nodes = i.nodes.items; leaves = i.leaves.items; top = i.top; node_capacity = vec_capacity i.nodes; leaf_capacity = vec_capacity i.leaves }

some_and : (o : Option Tree) (P : Tree → Type 0) → IsSomeAnd o P → (t : Tree) × (o ≡ Some t) × P t
some_and None P h = elim h [ ]
some_and (Some t) P h = (t, refl, h)

match_some : (o : Option Entry) (e : Entry) (P : Type 0) (Q : Entry → Type 0) → o ≡ Some e → MatchOption o P Q → Q e
match_some o e P Q h m = subst (λ z. MatchOption z P Q) h m

-- each trie with a root's entry has a tree
pub plain_tree : (v : PlainView) (e : Entry) → v.top ≡ Some e → ShowsSoundTree v → (t : Tree) × IsTree v e t
plain_tree v e top i =
    let s = some_and (shown_tree v) IsSound (match_some v.top e (Unit {0}) (λ _. IsSomeAnd (shown_tree v) IsSound) top i) in
    let r : entry_tree v.nodes v.leaves (height_of e) e ≡ Some s.0 = sym (ap (option_and_then (λ z. entry_tree v.nodes v.leaves (height_of z) z)) top) ∙ s.1 in
    let f = read_sound v.nodes v.leaves (height_of e) e s.0 r in
    (s.0, record { is = s.1; head = f.0; sound = s.2; shown = f.1 })

-- and records that show such a tree make a trie
pub tree_is : (v : PlainView) (e : Entry) (t : Tree) → v.top ≡ Some e → subtrie t ≡ Place e → IsSound t → ShowsTree v.nodes v.leaves t → shown_tree v ≡ Some t
tree_is v e t top head sound shown = ap (option_and_then (λ z. entry_tree v.nodes v.leaves (height_of z) z)) top ∙ read_exact v.nodes v.leaves e t sound.built shown head

pub tree_plain : (v : PlainView) (e : Entry) (t : Tree) → v.top ≡ Some e → subtrie t ≡ Place e → IsSound t → ShowsTree v.nodes v.leaves t → ShowsSoundTree v
tree_plain v e t top head sound shown =
    subst (λ o. MatchOption o (Unit {0}) (λ _. IsSomeAnd (shown_tree v) IsSound)) (sym top)
    (subst (λ o. IsSomeAnd o IsSound) (sym (tree_is v e t top head sound shown)) sound)

-- without an entry of the root the trie is the empty map
pub no_map : (v : PlainView) → v.top ≡ None → trie_map v ≡ []
no_map v top = ap map_read (ap (option_and_then (λ z. entry_tree v.nodes v.leaves (height_of z) z)) top)

pub shows_trie : (v : PlainView) → ShowsSoundTree v → ShowsTrie v
shows_trie v i = go v.top refl
  where
    go : (o : Option Entry) → v.top ≡ o → MatchOption o (trie_map v ≡ []) (λ e.
        (t : Tree) × (subtrie t ≡ Place e) × IsSound t × ShowsTree v.nodes v.leaves t × (trie_map v ≡ pairs (items t)))
    go None top = no_map v top
    go (Some e) top = let t = plain_tree v e top i in (t.0, t.1.head, t.1.sound, t.1.shown, ap map_read t.1.is)

-- the map of a trie's tree, and of none
pub map_is : (v : PlainView) (t : Tree) → shown_tree v ≡ Some t → trie_map v ≡ pairs (items t)
map_is v t e = ap map_read e

-- ---- the leaf at which a search ends
module _ {v : PlainView} {e : Entry} {k : Key} {n : ℕ} (o : EndsAt v e k n) where
  pub end_read : (l : LeafRecord) → l ≡ get_or v.leaves n l → l ≡ item_record (found k o.tree)
  end_read l at = read_at v.leaves n (item_record (found k o.tree)) l o.at at

  -- it has the key, or no leaf has it
  pub end_found : (l : LeafRecord) → l ≡ get_or v.leaves n l → l.key ≡ k → value_at (trie_map v) k ≡ Some l.value
  end_found l at key =
      let same = end_read l at in
      ap (λ m. value_at m k) (map_is v o.tree o.stands.is) ∙
      (value_found k o.tree o.stands.sound.trie (sym (ap (λ (r : LeafRecord). r.key) same) ∙ key) ∙ ap (λ (r : LeafRecord). Some r.value) (sym same))

  pub end_missed : (l : LeafRecord) → l ≡ get_or v.leaves n l → l.key ≢ k → value_at (trie_map v) k ≡ None
  end_missed l at other =
      ap (λ m. value_at m k) (map_is v o.tree o.stands.is) ∙ value_missed k o.tree o.stands.sound.trie (λ e. other (ap (λ (r : LeafRecord). r.key) (end_read l at) ∙ e))
