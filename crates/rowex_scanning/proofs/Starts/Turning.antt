-- Where a scan downwards starts, by where one upwards does.
use Rattle.rowex_scanning.proofs.Common.{◌≡◌, ◌≢◌, inl, inr, ⊎_elim, ℕ, suc, ◌+◌, ◌-◌, ◌<◌, ◌≤◌, List, [], ◌∷◌, length, take, le_refl, refl, ap, sym, ◌∙◌, subst, arith, Bool, true, false, Option, Some, None, slice_get, false≢true, some_injective, PathNode, Entry, Leaf, KeepsFixedWordsSince, Layout, recalls, Core, IsLawful, Recalls, IsPinnedSince, Known, placed_stable, read_stable, seen_steady, since_later, sure_later, named_end, IsPossible, seen, Sure, IsMismatch, IsWayNode, IsWayOf, named, FoundLeaf, Upwards, Downwards, IsLater, beyond_further, same_past, scan_started, IsWayEarlier, leaf_may_stand, scan_skipped, stack_place, IsPastKey, Range, IsPlaced, IsRead, Stage, Key, bit, AgreeBelow, IsBefore}
use Rattle.rowex_scanning.proofs.Starts.{read_same}
use Rattle.rowex_scanning.proofs.Walking.{beyond_parts, walk_before, walk_fits, IsBeforeEntry}
use Rattle.rowex_scanning.specs.Scanning.{ArePastKey, IsBound, IsWalk, frame, frames_of}
use Rattle.rowex_scanning.specs.Starts.{IsBegun, IsFirst, IsParting, IsStart, IsWalkFrom}
use Rattle.rowex_scanning.specs.Tallies.{tally_of_number}
use Rattle.rowex_scanning.specs.declared.start.Start.{Start}

-- what is past the key upwards, a scan downwards has passed on its way
above_earlier : {k : Known} (m : ℕ) (key : Key) (fs : List Stage) → IsPinnedSince k m → ArePastKey Upwards k m key (frames_of fs) → Sure k (λ s. IsWayEarlier Downwards s m key fs)
above_earlier m key [] pinned over c lawful known = tt
above_earlier {k} m key (f ∷ fs) pinned over c lawful known =
    let o = beyond_parts Upwards m key (frames_of fs) (frame f) over in
    (o.1 c lawful known (seen c k) (same_past (seen c k)) (seen_steady lawful known pinned), above_earlier m key fs pinned o.0 c lawful known)

-- the walk downwards at a place from which on all is above the key
walk_at : {k : Known} {m : ℕ} {key : Key} {top : PathNode} {frames : List PathNode} → IsWalkFrom Upwards k m key top frames → (place : ℕ) → place ≤ top.count → IsBound Upwards k m key (record top { slot = place }) frames →
    IsWalkFrom Downwards k m key (record top { slot = place }) frames
walk_at {k} {m} {key} {top} {frames} walks place fits bound g is = record {
  lowest = record w.lowest { place = place };
  others = w.others;
  top_is = ap (λ (z : PathNode). let x : PathNode = record z { slot = place } in x) w.top_is;
  frames_are = w.frames_are;
  room = w.room;
  fits = subst (λ (z : PathNode). place ≤ z.count) w.top_is fits;
  inside = w.inside;
  pinned = w.pinned;
  scan = λ c lawful known.
      let stack = stack_place (seen c k) m w.lowest place w.others (w.scan c lawful known).2.stack in (
        [],
        (refl, tt),
        scan_started Downwards (seen c k) m (seen_steady lawful known w.pinned) g (record w.lowest { place = place }) w.others stack
            (subst (λ z. IsWayEarlier Downwards (seen c k) m z w.others) (sym is) (above_earlier m key w.others w.pinned (subst (ArePastKey Upwards k m key) w.frames_are bound.above) c lawful known))
            (subst (λ z. IsPastKey Upwards (seen c k) m z w.lowest.number place) (sym is) (subst (λ (z : PathNode). IsPastKey Upwards (seen c k) m key z.number place) w.top_is (bound.there c lawful known))
            (seen c k) (same_past (seen c k)) (seen_steady lawful known w.pinned)),
      );
}
  where
    w : IsWalk k m (Upwards, (record { from = key; upto = key; limit = 0 })) top frames (tally_of_number 0)
    w = walks (record { from = key; upto = key; limit = 0 }) refl

-- From the way of the search and the start of a scan upwards.
module _ (layout : Layout) (k j : Known) (m : ℕ) (key : Key) (way : List PathNode) (number value : ℕ) (differ : Option ℕ) (w : IsWayOf layout k m key way (FoundLeaf number value differ)) (l : IsLater k j)
    (possible : IsPossible layout j) (start : Start) (s : IsParting j m key way number start) (lowest : PathNode) (there : slice_get way (length way - 1) ≡ Some lowest) where
  pinned : IsPinnedSince j m
  pinned = since_later l w.since

  found_read : Sure j (λ p. IsRead p m number w.found_at.0 value)
  found_read = sure_later {P = λ p. IsRead p m number w.found_at.0 value} (read_stable m number w.found_at.0 value) l w.found_at.1

  -- the step of the start is the lowest, if it is at its level
  at_level : start.level + 1 ≡ length way → slice_get way start.level ≡ Some lowest
  at_level e = subst (λ i. slice_get way i ≡ Some lowest) (let n : length way - 1 ≡ start.level = omega (arith, e) in n) there

  beneath_there : start.leaf ≡ false → (start.level + 1 ≡ length way → lowest.slot + 1 ≡ start.top.slot → ⊥) → Sure j (λ p. IsPastKey Downwards p m key start.top.number start.top.slot)
  beneath_there apart not_behind = ⊎_elim (λ low. low)
      (λ b. absurd (not_behind b.last (let e = b.behind ∙ ap (λ (z : PathNode). suc z.slot) (some_injective (sym b.there ∙ at_level b.last)) in omega (arith, e)))) s.side

  beneath_first : start.leaf ≡ true → Sure j (λ p. IsPastKey Downwards p m key start.top.number start.top.slot)
  beneath_first is = ⊎_elim (λ low. low) (λ b. absurd (false≢true (sym b.apart ∙ is))) s.side

  first : start.leaf ≡ true → IsBegun Upwards j m key number (take start.level way) (record { level = 0; top = start.top; leaf = true })
  first is = subst (λ z. IsBegun Upwards j m key number (take start.level way) (record { level = 0; top = start.top; leaf = z })) is s.upwards.begun

  gap : start.leaf ≡ false → IsBegun Upwards j m key number (take start.level way) (record { level = 0; top = start.top; leaf = false })
  gap is = subst (λ z. IsBegun Upwards j m key number (take start.level way) (record { level = 0; top = start.top; leaf = z })) is s.upwards.begun

  -- The scan upwards has a leaf with the key: it comes first.
  pub turns_same : start.leaf ≡ true → differ ≡ None → (comes : Bool) → comes ≡ true → IsStart Downwards j m key way number (record { level = start.level; top = start.top; leaf = comes })
  turns_same is none comes first_is = record {
    within = s.upwards.within;
    begun = subst (λ z. IsBegun Downwards j m key number (take start.level way) (record { level = 0; top = start.top; leaf = z })) (sym first_is) (
      record {
        found = w.found_at.0;
        value = value;
        inside = (first is).0.inside;
        placed = (first is).0.placed;
        read = found_read;
        reached = inl (sym (subst (IsMismatch key w.found_at.0) none w.found_at.2));
        bound = record { there = beneath_first is; above = s.left };
      },
      walk_at (first is).1 (suc start.top.slot) (first is).0.inside (first is).0.bound,
    );
  }

  -- Its leaf is above the key: the scan downwards is left of it.
  pub turns_before : start.leaf ≡ true → (d : ℕ) → differ ≡ Some d → (comes : Bool) → comes ≡ false → IsStart Downwards j m key way number (record { level = start.level; top = start.top; leaf = comes })
  turns_before is d differs comes apart_is = record {
    within = s.upwards.within;
    begun = subst (λ z. IsBegun Downwards j m key number (take start.level way) (record { level = 0; top = start.top; leaf = z })) (sym apart_is) (
      record { there = beneath_first is; above = s.left },
      λ g upto. skipped g upto (walk_before start.top (walk_at (first is).1 (suc start.top.slot) f.inside f.bound g upto) f.inside refl),
    );
  }
    where
      f : IsFirst Upwards j m key number start.top (take start.level way)
      f = (first is).0

      high : (c : Core) → IsLawful c → Recalls c j → IsBefore key f.found
      high c lawful known = ⊎_elim (λ same. absurd (apart.1 (ap (λ z. bit z d) (same ∙ sym one)))) (λ lt. lt) f.reached
        where
          apart : AgreeBelow d key w.found_at.0 × (bit key d ≢ bit w.found_at.0 d)
          apart = subst (IsMismatch key w.found_at.0) differs w.found_at.2

          one : w.found_at.0 ≡ f.found
          one = read_same (seen c j) m (seen_steady lawful known pinned) number w.found_at.0 f.found value f.value (found_read c lawful known) (f.read c lawful known)

      skipped : (g : Range) → g.upto ≡ key → IsBeforeEntry Downwards j m g start.top (take start.level way) (tally_of_number 0) → IsWalk j m (Downwards, g) start.top (take start.level way) (tally_of_number 0)
      skipped g upto n = record {
        lowest = n.stands.stage;
        others = n.stands.others;
        top_is = n.stands.at_is;
        frames_are = n.stands.frames_are;
        room = n.stands.room;
        fits = let low = n.stands.low in omega (arith, low);
        inside = n.stands.inside;
        pinned = n.stands.pinned;
        scan = λ c lawful known.
            let (taken, tallied, s) = n.scan c lawful known in (
              taken,
              tallied,
              scan_skipped (seen c j) m g (seen_steady lawful known pinned) n.stands.stage n.stands.others taken number f.found f.value
                  (subst (λ (z : PathNode). IsPlaced (seen c j) m z.number z.slot (Leaf number)) n.stands.at_is (f.placed c lawful known)) (f.read c lawful known) Downwards s
                  (subst (λ z. IsBefore z f.found) (sym upto) (high c lawful known)),
            );
      }

  -- The leaf stands just left of where the scan upwards starts: it comes first.
  pub turns_behind : start.leaf ≡ false → start.level + 1 ≡ length way → lowest.slot + 1 ≡ start.top.slot → (top : PathNode) → top ≡ record start.top { slot = lowest.slot } → (comes : Bool) → comes ≡ true →
      IsStart Downwards j m key way number (record { level = start.level; top = top; leaf = comes })
  turns_behind is last next_to top top_is comes first_is = record {
    within = s.upwards.within;
    begun = subst (λ z. IsBegun Downwards j m key number (take start.level way) (record { level = 0; top = top; leaf = z })) (sym first_is) (subst (λ z. IsBegun Downwards j m key number (take start.level way) (record { level = 0; top = z; leaf = true })) (sym top_is) (
      record {
        found = w.found_at.0;
        value = value;
        inside = fits;
        placed = placed;
        read = found_read;
        reached = inr found_low;
        bound = record { there = below_place; above = s.left };
      },
      walk_at (gap is).1 (suc lowest.slot) fits bound_next_to,
    ));
  }
    where
      number_is : start.top.number ≡ lowest.number
      number_is = ap (λ (z : PathNode). z.number) (s.of_way lowest (at_level last))

      place_is : start.top.slot ≡ suc lowest.slot
      place_is = omega (arith, next_to)

      fits : lowest.slot < start.top.count
      fits = let low = walk_fits ((gap is).1 (record { from = key; upto = key; limit = 0 }) refl) in omega (arith, low, next_to)

      bound_next_to : IsBound Upwards j m key (record start.top { slot = suc lowest.slot }) (take start.level way)
      bound_next_to = record { there = subst (λ n. Sure j (λ p. IsPastKey Upwards p m key start.top.number n)) place_is (gap is).0.there; above = (gap is).0.above }

      node : (e : Entry) × (named way (FoundLeaf number value differ) (start.level + 1) ≡ Some e) × IsWayNode layout k m key lowest e
      node = w.nodes start.level lowest (at_level last)

      is_leaf : node.0 ≡ Leaf number
      is_leaf = some_injective (sym node.1 ∙ (ap (named way (FoundLeaf number value differ)) last ∙ named_end way (FoundLeaf number value differ) (length way) (le_refl (length way))))

      placed_low : Sure j (λ p. IsPlaced p m lowest.number lowest.slot (Leaf number))
      placed_low = sure_later {P = λ p. IsPlaced p m lowest.number lowest.slot (Leaf number)} (placed_stable m lowest.number lowest.slot (Leaf number)) l
          (subst (λ e. Sure k (λ p. IsPlaced p m lowest.number lowest.slot e)) is_leaf node.2.placed)

      placed : Sure j (λ p. IsPlaced p m start.top.number lowest.slot (Leaf number))
      placed = subst (λ n. Sure j (λ p. IsPlaced p m n lowest.slot (Leaf number))) (sym number_is) placed_low

      below_place : Sure j (λ p. IsPastKey Downwards p m key start.top.number lowest.slot)
      below_place = ⊎_elim
          (λ low c lawful known. beyond_further Downwards (seen c j) m start.top.number start.top.slot lowest.slot key (λ i lt. omega (arith, next_to, lt)) (low c lawful known))
          (λ b. subst (λ n. Sure j (λ p. IsPastKey Downwards p m key n lowest.slot)) (sym number_is) (subst (λ (z : PathNode). Sure j (λ p. IsPastKey Downwards p m key z.number z.slot)) (some_injective (sym b.there ∙ at_level last)) b.beneath))
          s.side

      now : Recalls possible.core j
      now = recalls possible.core j possible.knows

      fixed_then : KeepsFixedWordsSince (seen possible.core j) m
      fixed_then = seen_steady possible.lawful now pinned

      found_low : IsBefore w.found_at.0 key
      found_low = ⊎_elim
          (λ low. low possible.core possible.lawful now (seen possible.core j) (same_past (seen possible.core j)) fixed_then lowest.slot w.found_at.0 (omega (arith, next_to))
          (leaf_may_stand (seen possible.core j) m fixed_then start.top.number lowest.slot number w.found_at.0 value (placed possible.core possible.lawful now) (found_read possible.core possible.lawful now)))
          (λ b. subst (λ z. IsBefore z key) (read_same (seen possible.core j) m fixed_then number b.found w.found_at.0 b.value value (b.read possible.core possible.lawful now) (found_read possible.core possible.lawful now)) b.low)
          s.side

  -- Else the scan downwards starts at the same place.
  pub turns_there : start.leaf ≡ false → (start.level + 1 ≡ length way → lowest.slot + 1 ≡ start.top.slot → ⊥) → (comes : Bool) → comes ≡ false → IsStart Downwards j m key way number (record { level = start.level; top = start.top; leaf = comes })
  turns_there is not_behind comes apart_is = record {
    within = s.upwards.within;
    begun = subst (λ z. IsBegun Downwards j m key number (take start.level way) (record { level = 0; top = start.top; leaf = z })) (sym apart_is) (
      record { there = beneath_there is not_behind; above = s.left },
      walk_at (gap is).1 start.top.slot (walk_fits ((gap is).1 (record { from = key; upto = key; limit = 0 }) refl)) (gap is).0,
    );
  }
