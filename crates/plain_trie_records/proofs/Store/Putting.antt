-- Records that show a tree show it with another value in a leaf.
use Rattle.plain_trie_records.proofs.Common.{◌≡◌, ◌≢◌, inl, inr, ℕ, ◌<◌, List, true, false, refl, ap, sym, ◌∙◌, subst, Some, if◌then◌else◌, set, slice_get, false≢true, slice_get_within, places, NodeView, greatest_height, put, Item, Key, bit, Tree, leaf, node, fork, subtrie, Has, IsTrie, IsBuilt, IsFit, IsFork, Within, here, inside, zero_side, one_side, has_within, subtrie_put, lower_by_greatest, greatest_if_lower, some_injective, found}
use Rattle.plain_trie_records.specs.declared.leaf.LeafRecord.{LeafRecord}
use Rattle.plain_trie_records.specs.Store.{ShowsTree}
use Rattle.plain_trie_records.proofs.Risen.{set_same, set_other}

-- the leaf at which a search ends
pub found_place : (k : Key) (t : Tree) → Within (leaf (found k t).number (found k t).key (found k t).value) t
found_place k (leaf n l v) = here
found_place k (node n x b) = inside (found_place k b)
found_place k (fork p a b) =
    elim (bit k p) as (λ u. let y : Item = if u then found k b else found k a in Within (leaf y.number y.key y.value) (fork p a b)) [ true ↦ one_side (found_place k b) | false ↦ zero_side (found_place k a) ]

fork_subtrie : (s t : Tree) → subtrie s ≡ subtrie t → IsFork t → IsFork s
fork_subtrie s (leaf n l v) e f = elim f [ ]
fork_subtrie s (node n x b) e f = elim f [ ]
fork_subtrie (leaf n l v) (fork p a b) e f = absurd cc
fork_subtrie (node n x c) (fork p a b) e f = absurd cc
fork_subtrie (fork q c d) (fork p a b) e f = tt

pub put_same : {s t : Tree} (w : Within s t) (r : Tree) → subtrie r ≡ subtrie s → IsBuilt r → IsBuilt t → IsBuilt (put w r)
put_same here r e b i = b
put_same (inside {n = n} {x = x} {b = d} w) r e b i =
    let same = subtrie_put w r e in (
      fork_subtrie (put w r) d same i.0,
      lower_by_greatest x.height (put w r) (subst (λ f. greatest_height (places f) < x.height) (sym same) (greatest_if_lower x.height d i.1)),
      put_same w r e b i.2,
      subst (IsFit x) (sym same) i.3,
    )
put_same (zero_side w) r e b i = (put_same w r e b i.0, i.1)
put_same (one_side w) r e b i = (i.0, put_same w r e b i.1)

-- a tree without the key stays shown where that key's leaf changes
shown_else : (ns : List NodeView) (ls : List LeafRecord) (n : ℕ) (l m : LeafRecord) (t : Tree) → slice_get ls n ≡ Some l → ((k : Key) → Has t k → k ≢ l.key) →
    ShowsTree ns ls t → ShowsTree ns (set ls n m) t
shown_else ns ls n l m (leaf o k v) at other i =
    set_other ls n o m _ (λ e. other k refl (ap (λ (r : LeafRecord). r.key) (some_injective (sym i ∙ (ap (slice_get ls) (sym e) ∙ at))))) i
shown_else ns ls n l m (node o x b) at other i = (i.0, shown_else ns ls n l m b at other i.1)
shown_else ns ls n l m (fork p a b) at other i =
    (shown_else ns ls n l m a at (λ k h. other k (inl h)) i.0, shown_else ns ls n l m b at (λ k h. other k (inr h)) i.1)

pub shown_put : (ns : List NodeView) (ls : List LeafRecord) (n : ℕ) (k : Key) (v x : ℕ) {t : Tree} (w : Within (leaf n k v) t) → IsTrie t → slice_get ls n ≡ Some (record { key = k; value = v }) →
    ShowsTree ns ls t → ShowsTree ns (set ls n (record { key = k; value = x })) (put w (leaf n k x))
shown_put ns ls n k v x here trie at i = set_same ls n _ (slice_get_within ls n _ at)
shown_put ns ls n k v x (inside {b = d} w) trie at i =
    (record { view = i.0.view; at = i.0.at; fixed = i.0.fixed; shows = i.0.shows ∙ sym (subtrie_put w (leaf n k x) refl) }, shown_put ns ls n k v x w trie at i.1)
shown_put ns ls n k v x (zero_side {p = p} {a = a} {b = d} w) trie at i = (
  shown_put ns ls n k v x w trie.0 at i.0,
  shown_else ns ls n (record { key = k; value = v }) (record { key = k; value = x }) d at
      (λ l h e. false≢true (sym (trie.3 k (has_within w k refl)) ∙ (ap (λ y. bit y p) (sym e) ∙ trie.4 l h))) i.1,
)
shown_put ns ls n k v x (one_side {p = p} {a = a} {b = d} w) trie at i = (
  shown_else ns ls n (record { key = k; value = v }) (record { key = k; value = x }) a at
      (λ l h e. false≢true (sym (trie.3 l h) ∙ (ap (λ y. bit y p) e ∙ trie.4 k (has_within w k refl)))) i.0,
  shown_put ns ls n k v x w trie.1 at i.1,
)
