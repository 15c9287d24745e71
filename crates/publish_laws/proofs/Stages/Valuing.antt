-- A value that a pass has loaded is still that of the leaf, where the pass has locked what names the leaf.
use Rattle.publish_laws.proofs.Common.{◌≡◌, ◌⊎◌, inl, inr, ℕ, ap₂, sym, ◌∙◌, Leaf, Key, spot, seek, seek_spot, spot_below, a_leaf, Free, LeafWords, HasLockedNamer, in_root, all_of, HoldsSpot, by_anchor, by_node, IsLockedNode, Value, Known, Core, IsLawful, HasRecord, bare, IsLockedAt, Knows, IsStillLoaded, leaf_of}
use Rattle.versions.specs.Steps.{in_node}
use Rattle.versions.proofs.Core.Values.{named_in_tree}
use Rattle.publish_laws.specs.Stages.{HasLoaded}

-- The pass has locked what names the leaf: a node with the leaf's entry on the key's way,
pub named_below : (c : Core) (q : ℕ) (key : Key) (j o : ℕ) → IsLockedNode (bare c) q o → seek key ((bare c).heap.nodes o).subtrie ≡ Leaf j → HasLockedNamer (bare c) q j
named_below c q key j o on names =
    let x = ((bare c).heap.nodes o).subtrie in in_node o on.linked (spot key x) on.lock on.fate (spot_below key x) (sym (seek_spot key x) ∙ names)

-- or what holds the spot.
pub named_at : (c : Core) (q : ℕ) (key : Key) (j : ℕ) → HoldsSpot (bare c) q key (Leaf j) → HasLockedNamer (bare c) q j
named_at c q key j (by_anchor lock root) = in_root lock root
named_at c q key j (by_node o on names) = named_below c q key j o on names

-- The leaf is one of the table's then.
pub locked_value : (c : Core) (q : ℕ) → IsLawful c → (j : ℕ) → HasLockedNamer (bare c) q j → IsLockedAt c q (Value j)
locked_value c q law j named = (in_table (law.records.used (a_leaf j)), named)
  where
    in_table : (c.fate (a_leaf j) ≡ Free) ⊎ HasRecord c.layout (a_leaf j) → HasRecord c.layout (a_leaf j)
    in_table (inl free) = let there = (named_in_tree (bare c) law.core.state q j named).1 in absurd cc
    in_table (inr has) = has

value_now : (c : Core) (k : Known) → IsLawful c → Knows c k → (j value : ℕ) → HasLockedNamer (bare c) k.pass j → HasLoaded k j value → (leaf_of (c.words (a_leaf j))).value ≡ value
unfolding leaf_of
value_now c k law known j value named loaded =
    all_of (IsStillLoaded k.pass c) (record { leaf = j; value = value }) k.values known.values loaded (locked_value c k.pass law j named)

-- With its key it is the leaf.
pub loaded_leaf : (c : Core) (k : Known) → IsLawful c → Knows c k → (j : ℕ) (key : Key) (value : ℕ) → HasLockedNamer (bare c) k.pass j →
    (leaf_of (c.words (a_leaf j))).key ≡ key → HasLoaded k j value → leaf_of (c.words (a_leaf j)) ≡ record { key = key; value = value }
loaded_leaf c k law known j key value named key_is loaded =
    ap₂ (λ a b. let z : LeafWords = record { key = a; value = b } in z) key_is (value_now c k law known j value named loaded)
