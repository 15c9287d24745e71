-- A spot of which a pass knows that it holds the lock is one in each core of which that is true, and so is a store there.
use Rattle.publish_laws.proofs.Common.{◌≡◌, inl, inr, ℕ, List, Some, refl, sym, ap, subst, ◌∙◌, Entry, Leaf, Node, Layout, Key, seek, subtrie_affected, FirstForkIsBefore, IsTipSubtrie, Subtrie, NodeWords, HoldsSpot, by_anchor, by_node, IsLowAt, AffectsSpotAloneInCore, IsStoredAt, subtrie_below, Spot, Known, Locked, entry_of, Core, bare, heap_of, IsLockedAt, IsOfEntry, IsPackedAt, stored_words, stored_root, Knows, knows_all, entry_of_word, Made}
use Rattle.publish_laws.specs.Cases.{IsWord}
use Rattle.publish_laws.specs.Spots.{HoldsAt, at_root, in_node, FitsAt, AffectsSpotAlone, IsSubtrieBelow, IsSpotOf}
use Rattle.publish_laws.specs.Stages.{IsStage}
use Rattle.publish_laws.proofs.Stages.{locked_node, slot_store}

-- The spot of a locked node stays that, while the anchor's lock does.
pub spot_stays : (k j : Known) (held : List Locked) (key : Key) (p n : ℕ) (e : Entry) (at : Spot) → j.anchor ≡ k.anchor → IsSpotOf k held key p n e at → IsSpotOf j held key p n e at
spot_stays k j held key p n e at same on = go at on.height on.holds on.alone on.fits
  where
    go : (at : Spot) (h : ℕ) (s : HoldsAt k held key (Node n h) at) → AffectsSpotAlone s p → FitsAt s e → IsSpotOf j held key p n e at
    go at h (at_root root) alone fits = record { height = h; holds = at_root (same ∙ root); alone = tt; fits = tt }
    go at h (in_node o slot words has names place) alone fits = record { height = h; holds = in_node o slot words has names place; alone = alone; fits = fits }

module _ (layout : Layout) (k : Known) (held : List Locked) (news : List Made) (c : Core) (stage : IsStage layout k held news c) (known : Knows c k) where
  -- what is below the entry in the words is so in the core
  below_is : (d : Entry) (r : Subtrie) → IsSubtrieBelow held d r → subtrie_below (heap_of c.words) d ≡ r
  below_is (Leaf j) r is = sym is
  below_is (Node n h) r (words, has, is) = ap (λ (z : NodeWords). z.subtrie) (locked_node layout k held news c stage n words has).1 ∙ sym is

  -- The spot is held in the core.
  pub spot_in : (key : Key) (d : Entry) (at : Spot) → HoldsAt k held key d at → HoldsSpot (bare c) k.pass key d
  spot_in key d at (at_root root) = let (lock, is) = (knows_all c k known).anchor (Some d) root in by_anchor lock is
  spot_in key d at (in_node o slot words has names place) =
      let (on, same) = locked_node layout k held news c stage o words has in by_node o on (ap (λ (z : NodeWords). seek key z.subtrie) same ∙ names)

  -- The store of the entry `e`, by its word, at the spot.
  pub record StoresAt (key : Key) (d : Entry) (at : Spot) (holds : HoldsAt k held key d at) (e : Entry) (w : ℕ) : Type 0 where
    pub of_entry : IsOfEntry at
    pub spot : HoldsSpot (bare c) k.pass key d
    pub alone : (p : ℕ) → AffectsSpotAlone holds p → AffectsSpotAloneInCore spot p
    pub low : IsLowAt spot e
    pub stored : IsStoredAt spot (heap_of (stored_words c at w)) (stored_root c at w) e
    pub locked : IsLockedAt c k.pass at
    pub packed : IsPackedAt c at w

  pub stores_at : (key : Key) (d : Entry) (at : Spot) (holds : HoldsAt k held key d at) (e : Entry) (w : ℕ) → FitsAt holds e → IsWord e w → StoresAt key d at holds e w
  stores_at key d at (at_root root) e w fits word =
      let (lock, is) = (knows_all c k known).anchor (Some d) root in
      record { of_entry = tt; spot = by_anchor lock is; alone = λ p one. tt; low = tt; stored = (refl, ap entry_of (sym word.1) ∙ entry_of_word (Some e) word.0); locked = lock; packed = tt }
  stores_at key d at (in_node o slot words has names place) e w fits word =
      let (on, same) = locked_node layout k held news c stage o words has in
      let (packed, store, low, locked) = slot_store layout k held news c stage o slot w words key e has place word.0 word.1 fits in
      record {
        of_entry = tt;
        spot = by_node o on (ap (λ (z : NodeWords). seek key z.subtrie) same ∙ names);
        alone = λ p (r, below, one). elim one [
          | inl h ↦ inl (subst (FirstForkIsBefore p) (sym (below_is d r below)) h)
          | inr h ↦ inr (subst (λ (z : NodeWords). IsTipSubtrie (subtrie_affected p key z.subtrie)) (sym same) h)
        ];
        low = low;
        stored = (store, refl);
        locked = locked;
        packed = packed;
      }
