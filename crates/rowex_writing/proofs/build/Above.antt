-- The spot above a span of the way, of which the pass holds the lock: what the search found stands there.
use Rattle.rowex_writing.proofs.Common.{◌≡◌, inl, inr, ℕ, zero, suc, ◌+◌, ◌-◌, ◌<◌, ◌≤◌, List, [], ◌∷◌, take, drop, Some, None, sym, ap, subst, ◌∙◌, arith, slice_get, height_of, Entry, LeafEntry, Node, PathNode, some_injective, Place, Layout, IsLowerSubtrie, Key, seek, Subtrie, IsOneOf, map_of, Spot, Root, Slot, Value, Known, Locked, node_words_of, IsPossible, IsWayNode, IsWayOf, named, Found, HoldsAt, at_root, in_node, FitsAt, AffectsSpotAlone, IsSubtrieBelow}
use Rattle.version_laws.specs.Spots.{AffectsOne}
use Rattle.rowex_writing.specs.locks.Going.{HasLocked}
use Rattle.rowex_writing.specs.locks.Checks.{IsChecked}
use Rattle.rowex_writing.specs.locks.Locks.{HasLockedSpan}
use Rattle.rowex_writing.specs.build.Putting.{IsSpotAbove}
use Rattle.rowex_writing.specs.declared.plan.Span.{Span}
use Rattle.rowex_writing.proofs.locks.Shapes.{IsStepOf, way_node_locked}

in_range : (xs : List PathNode) (b n i : ℕ) (s : PathNode) → slice_get xs i ≡ Some s → b ≤ i → i < b + n → IsOneOf s (take n (drop b xs))
in_range [] b n i s at low high = absurd (let z : None ≡ Some s = at in cc)
in_range (x ∷ xs) zero zero i s at low high = absurd (omega arith)
in_range (x ∷ xs) zero (suc n) zero s at low high = inl (sym (some_injective at))
in_range (x ∷ xs) zero (suc n) (suc i) s at low high = inr (in_range xs zero n i s at (omega arith) (omega arith))
in_range (x ∷ xs) (suc b) n zero s at low high = absurd (omega arith)
in_range (x ∷ xs) (suc b) n (suc i) s at low high = in_range xs b n i s at (omega arith) (omega arith)

-- each node of the span is locked, and the one above it
pub locked_at : (k : Known) (way : List PathNode) (span : Span) → HasLockedSpan k way span → (i : ℕ) (s : PathNode) → span.end ≤ i + 1 → i < span.len → slice_get way i ≡ Some s → (words : List ℕ) × HasLocked k s.number words
locked_at k way span locked i s low high at =
    let there = in_range way (span.end - 1) (span.len - (span.end - 1)) i s at (omega arith) (omega arith) in
    let (lock, is, same) = locked.nodes.0.each s.number (map_of (λ (z : PathNode). z.number) s (take (span.len - (span.end - 1)) (drop (span.end - 1) way)) there) in
    (lock.words, subst (λ n. IsOneOf (record { node = n; words = lock.words }) k.locks) same is)

pub lower_entry : (h : ℕ) (e : Entry) → height_of e < h → IsLowerSubtrie h (Place e)
lower_entry h (LeafEntry n) l = l
lower_entry h (Node n g) l = l

module _ (layout : Layout) (k : Known) (m : ℕ) (key : Key) (way : List PathNode) (found : Found) (span : Span) (possible : IsPossible layout k) (w : IsWayOf layout k m key way found) (locked : HasLockedSpan k way span)
    (checked : IsChecked k key way found span) (within : span.end ≤ span.len) (d : Entry) (names : named way found span.end ≡ Some d) where
  -- The node above the span, with the words under its lock; the entry that it names is lower.
  pub record IsAbove (s : PathNode) : Type 0 where
    pub low : 0 < span.end
    pub at : slice_get way (span.end - 1) ≡ Some s
    pub words : List ℕ
    pub has : HasLocked k s.number words
    pub entry : seek key (node_words_of words).subtrie ≡ d
    pub node : IsWayNode layout k m key s d
    pub shows : IsStepOf key s node.forks (node_words_of words)

  above_at : (s : PathNode) → 0 < span.end → slice_get way (span.end - 1) ≡ Some s → IsAbove s
  above_at s low at =
      let next : span.end - 1 + 1 ≡ span.end = omega arith in
      let named_is : named way found (span.end - 1 + 1) ≡ Some d = ap (named way found) next ∙ names in
      let (words, has) = locked_at k way span locked (span.end - 1) s (omega arith) (omega (arith, within)) at in
      let (e, e_is, on) = w.nodes (span.end - 1) s at in
      let node : IsWayNode layout k m key s d = subst (IsWayNode layout k m key s) (some_injective (sym e_is ∙ named_is)) on in
      record {
        low = low;
        at = at;
        words = words;
        has = has;
        entry = some_injective (sym (checked.entries (span.end - 1) s (omega arith) (omega (arith, within)) at words has) ∙ named_is);
        node = node;
        shows = way_node_locked layout k m key s d words possible w.since node has;
      }

  -- While the locks are the same, the pass holds the spot above, at which that entry stands. Another one may stand there that is lower
  -- than the node.
  pub record HoldsAbove (j : Known) (held : List Locked) (spot : Spot) : Type 0 where
    pub holds : HoldsAt j held key d spot
    pub fits : (e : Entry) → ((s : PathNode) → IsAbove s → height_of e < s.height) → FitsAt holds e
    pub alone : (p : ℕ) → ((s : PathNode) (above : IsAbove s) → (r : Subtrie) × IsSubtrieBelow held d r × AffectsOne p key (node_words_of above.words).subtrie r) → AffectsSpotAlone holds p

  pub holds_above : (j : Known) (held : List Locked) → held ≡ k.locks → j.anchor ≡ k.anchor → (spot : Spot) → IsSpotAbove way span.end spot → HoldsAbove j held spot
  holds_above j held locks anchor Root top = record {
    holds = at_root (anchor ∙ (checked.root top ∙ ap Some (ap (named way found) (sym top) ∙ names)));
    fits = λ e lower. tt;
    alone = λ p one. tt;
  }
  holds_above j held locks anchor (Value l) over = absurd over
  holds_above j held locks anchor (Slot o i) (s, low, at, number_is, place) =
      let above = above_at s low at in
      let has : IsOneOf (record { node = o; words = above.words }) held = subst (λ n. IsOneOf (record { node = n; words = above.words }) held) (sym number_is) (subst (IsOneOf (record { node = s.number; words = above.words })) (sym locks) above.has) in
      record {
        holds = in_node o i above.words has above.entry (above.shows.at ∙ sym place);
        fits = λ e lower. lower_entry (node_words_of above.words).fixed.height e (let h = lower s above in let g = above.shows.height in omega arith);
        alone = λ p one. one s above;
      }
