-- A leaf or a node that stands in a trie, with the parts below it.
use Rattle.plain_trie_records.proofs.Common.{◌≡◌, ℕ, ◌<◌, List, [], ◌∷◌, length, get_or, refl, ap, sym, ◌∙◌, subst, Some, slice_get, get_or_from_slice_get, slice_get_within, Place, places, NodeView, piece, IsLawfulNode, Entry, Leaf, Node, items, pairs, Fixed, Tree, leaf, node, fork, subtrie, trie_within, built_within}
use Rattle.plain_trie_records.specs.declared.leaf.LeafRecord.{LeafRecord}
use Rattle.plain_trie_records.specs.Store.{ShowsSound}
use Rattle.plain_trie_records.proofs.scanning.Parts.{items_of_all, leaves_parts, length-parts, part_of, parts}
use Rattle.plain_trie_records.proofs.Store.Searching.{shown_within, read_at, node_of_subtrie}

-- some tree, where a list has none
abbrev pub no_tree : Tree
no_tree = leaf 0 [] 0

-- a leaf has one pair, that of its record
pub leaf_pairs : (ns : List NodeView) (ls : List LeafRecord) (n : ℕ) (t : Tree) → subtrie t ≡ Place (Leaf n) → ShowsSound ns ls t → (l : LeafRecord) × (slice_get ls n ≡ Some l) × (pairs (items t) ≡ (l.key, l.value) ∷ [])
leaf_pairs ns ls n (leaf m k w) e i = let f : m ≡ n = cc in (record { key = k; value = w }, subst (λ z. slice_get ls z ≡ Some (record { key = k; value = w })) f i.shown, refl)
leaf_pairs ns ls n (node m x b) e i = absurd cc
leaf_pairs ns ls n (fork p a b) e i = absurd cc

-- what stands at the places of a node
abbrev pub below : Tree → List Tree
below (leaf n k v) = []
below (node n x b) = parts b
below (fork p a b) = []

-- a node as its record has it
pub record IsNodeAt (ns : List NodeView) (ls : List LeafRecord) (n h : ℕ) (t : Tree) (v : NodeView) : Type 0 where
  pub all : items t ≡ items_of_all (below t)
  pub high : v.height ≡ h
  pub count : length v.entries ≡ length (below t)
  pub part : (j : ℕ) (e : Entry) → slice_get v.entries j ≡ Some e → (subtrie (get_or (below t) j no_tree) ≡ Place e) × ShowsSound ns ls (get_or (below t) j no_tree)

module _ (ns : List NodeView) (ls : List LeafRecord) (n h : ℕ) where
  pub node_within : (t : Tree) → subtrie t ≡ Place (Node n h) → ShowsSound ns ls t → n < length ns
  node_within t e i = let u = node_of_subtrie ns ls n h t e i.shown i.sound.built in slice_get_within ns n u.stored.view u.stored.at

  pub node_at : (t : Tree) → subtrie t ≡ Place (Node n h) → ShowsSound ns ls t → (v : NodeView) → v ≡ get_or ns n v → IsLawfulNode v → IsNodeAt ns ls n h t v
  node_at t e i v at lawful =
      let u = node_of_subtrie ns ls n h t e i.shown i.sound.built in
      let b = u.body in
      let j : ShowsSound ns ls (node n u.fixed b) = subst (ShowsSound ns ls) u.is i in
      let same : v ≡ u.stored.view = read_at ns n u.stored.view v u.stored.at at in
      let entries : v.entries ≡ places (subtrie b) = lawful.shows.entries_are ∙ ap places (ap piece same ∙ u.stored.shows) in
      let here : IsNodeAt ns ls n h (node n u.fixed b) v = record {
        all = sym (leaves_parts b);
        high = ap (λ (w : NodeView). w.height) same ∙ (ap (λ (f : Fixed). f.height) u.stored.fixed ∙ u.high);
        count = ap length entries ∙ sym (length-parts b);
        part = λ k d is.
            let within : k < length (places (subtrie b)) = subst (λ es. k < length es) entries (slice_get_within v.entries k d is) in
            let part = part_of b k no_tree d within in
            let stands : get_or (places (subtrie b)) k d ≡ d = ap (λ es. get_or es k d) (sym entries) ∙ get_or_from_slice_get v.entries k d d is in (
              part.0 ∙ ap Place stands,
              record {
                shown = shown_within ns ls part.1 j.shown.1;
                sound = record { trie = trie_within part.1 j.sound.trie; built = built_within part.1 j.sound.built.2 };
              },
            );
      } in
      subst (λ z. IsNodeAt ns ls n h z v) (sym u.is) here
