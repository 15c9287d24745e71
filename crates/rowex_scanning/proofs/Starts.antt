-- Where a scan starts: from the way of a search to the frames of a walk.
pub mod Turning
use Rattle.rowex_scanning.proofs.Common.{◌≡◌, ◌≢◌, inl, inr, ⊎_elim, ℕ, zero, suc, ◌+◌, ◌-◌, ◌<◌, ◌≤◌, List, [], ◌∷◌, ◌++◌, length, take, le_refl, Bool, true, false, nat_lt, Option, Some, None, nat_eq, not, ◌⊎◌, refl, ap, sym, ◌∙◌, subst, arith, get_or, take-suc, if◌then◌else◌, slice_get, cases_Bool, cases_lt, eq-eqb, false≢true, le-ltb, ne_eqb, get_or_from_slice_get, Entry, LeafEntry, Node, PathNode, some_injective, some_at, size_pos, Place, Fork, size, Layout, bit_of, Key, bit, AgreeBelow, IsBefore, IsAtMost, spot_below, Past, KeepsFixedWordsSince, Core, IsLawful, IsPinnedSince, Recalls, Known, recalls, Range, IsBlank, IsRooted, IsPlaced, HadShapeSince, IsRead, IsStack, MayStandAt, Stage, may_stand_at_child_place, leaf_may_stand, near_may_stand, may_stand_in_order, shaped_several, at_beyond, at_on_way, fit_sole, scan_started, sides, sides_beyond, stack_at, start_fits, AreAt, affected_from, start_place, scan_skipped, stack_place, IsPossible, IsLater, a_leaf, seen, since, IsAtRoot, Sure, read_stable, seen_steady, since_later, sure_later, named_at, named_end, way_later, IsMismatch, IsWayOf, IsWayNode, RootWas, named, Nothing, IsNoLater, IsPastKey, IsScanBy, first_key, gap_before, gap_behind, Direction, Upwards, Downwards}
use Rattle.insert_cases.specs.declared.choice.Case.{Case}
use Rattle.insert_cases.specs.declared.choice.Choice.{Choice}
use Rattle.insert_cases.specs.Levels.{IsLevel, IsChosen}
use Rattle.insert_cases.proofs.Ways.Affecting.{first_zero, first_one, key_part}
use Rattle.node_tries.proofs.Growth.{affected_fits}
use Rattle.node_tries.specs.Growth.{affected_first, affected_count}
use Rattle.tries.specs.Affected.{subtrie_affected}
use Rattle.tries.specs.Place.{spot}
use Rattle.tries.specs.Tree.{Subtrie, first_position, leaf}
use Rattle.rowex_reading.proofs.Possible.Shapes.{same_shape}
use Rattle.rowex_reading.specs.declared.descent.Found.{Found}
use Rattle.rowex_reading.specs.declared.descent.Found.TheVariants.{Leaf}
use Rattle.rowex_scanning.specs.Scanning.{ArePastKey, AreInside, IsBound, IsReached, IsWalk, frame, frames_of}
use Rattle.rowex_scanning.specs.Tallies.{IsNone, Tally, tally_of_number}
use Rattle.rowex_scanning.specs.declared.start.SearchEnd.{SearchEnd}
use Rattle.rowex_scanning.specs.Starts.{IsSearchEnd, IsBegun, IsFirst, IsParting, IsStart}
use Rattle.rowex_scanning.specs.declared.start.Start.{Start}
use Rattle.rowex_scanning.proofs.Walking.{beyond_append, walk_before, IsAtEntry, tallied_none, walk_tallied}

-- ---- the affected places, by the key
key_first : (d : ℕ) (v : Key) (x : Subtrie) → affected_first d (spot v x) x ≡ affected_from d v x
key_first d v (Place e) = refl
key_first d v (Fork q x y) = go (cases_Bool (nat_lt q d)) (cases_Bool (bit v q)) (key_first d v x) (key_first d v y)
  where
    go : (nat_lt q d ≡ true) ⊎ (nat_lt q d ≡ false) → (bit v q ≡ true) ⊎ (bit v q ≡ false) → affected_first d (spot v x) x ≡ affected_from d v x → affected_first d (spot v y) y ≡ affected_from d v y →
        affected_first d (spot v (Fork q x y)) (Fork q x y) ≡ affected_from d v (Fork q x y)
    go (inl e) (inl o) f g =
        let at : spot v (Fork q x y) ≡ size x + spot v y = rw o refl in
        let from : affected_from d v (Fork q x y) ≡ size x + affected_from d v y = rw (e, o) refl in
        ap (λ i. affected_first d i (Fork q x y)) at ∙ (first_one d q x y e (spot v y) ∙ (ap (λ n. size x + n) g ∙ sym from))
    go (inl e) (inr o) f g =
        let at : spot v (Fork q x y) ≡ spot v x = rw o refl in
        let from : affected_from d v (Fork q x y) ≡ affected_from d v x = rw (e, o) refl in
        ap (λ i. affected_first d i (Fork q x y)) at ∙ (first_zero d q x y e (spot v x) (spot_below v x) ∙ (f ∙ sym from))
    go (inr e) o f g = rw e refl

-- of a subtrie whose forks are all from d on, the whole is affected
whole_from : (d : ℕ) (v : Key) (x : Subtrie) → 2 ≤ size x → d ≤ first_position x → (affected_from d v x ≡ 0) × (subtrie_affected d v x ≡ x)
whole_from d v (Place e) two le = absurd (omega (arith, two))
whole_from d v (Fork q x y) two le = let e : nat_lt q d ≡ false = le-ltb q d le in (rw e refl, rw e refl)

-- the key's place is one of the affected
part_around : (d : ℕ) (v : Key) (x : Subtrie) → (affected_from d v x ≤ spot v x) × (spot v x < affected_from d v x + size (subtrie_affected d v x))
part_around d v (Place e) = (omega arith, omega arith)
part_around d v (Fork q x y) = go (nat_lt q d) (bit v q) (part_around d v x) (part_around d v y)
  where
    go : (u o : Bool) → (affected_from d v x ≤ spot v x) × (spot v x < affected_from d v x + size (subtrie_affected d v x)) →
        (affected_from d v y ≤ spot v y) × (spot v y < affected_from d v y + size (subtrie_affected d v y)) →
        ((if u then (if o then size x + affected_from d v y else affected_from d v x) else 0) ≤ (if o then size x + spot v y else spot v x)) ×
        ((if o then size x + spot v y else spot v x) < (if u then (if o then size x + affected_from d v y else affected_from d v x) else 0) +
        size (if u then (if o then subtrie_affected d v y else subtrie_affected d v x) else Fork q x y))
    go true true a b = (omega (arith, b.0), omega (arith, b.1))
    go true false a b = a
    go false true a b = let l = spot_below v y in (omega arith, omega (arith, l))
    go false false a b = let l = spot_below v x in (omega arith, omega (arith, l))

-- no more than a node has entries
pub affected_low : (d i first last : ℕ) (x : Subtrie) → affected_first d i x ≡ first → affected_count d i x + first ≡ last + 1 → last < size x
affected_low d i first last x from upto = let h = affected_fits d x i in omega (arith, from, upto, h.0)

-- ---- the way of a search that has ended at a leaf
module _ (layout : Layout) (k : Known) (m : ℕ) (key : Key) (way : List PathNode) (number value : ℕ) (differ : Option ℕ) (w : IsWayOf layout k m key way (Leaf number value differ)) (possible : IsPossible layout k) where
  abbrev found : Found
  found = Leaf number value differ

  abbrev step : (i : ℕ) → i < length way → (s : PathNode) × (slice_get way i ≡ Some s)
  step i h = some_at way i h

  abbrev node : (i : ℕ) (h : i < length way) → (e : Entry) × (named way found (i + 1) ≡ Some e) × IsWayNode layout k m key (step i h).0 e
  node i h = w.nodes i (step i h).0 (step i h).1

  abbrev stage : (i : ℕ) → i < length way → Stage
  stage i h = record { number = (step i h).0.number; height = (step i h).0.height; shape = (node i h).2.forks; place = (step i h).0.slot }

  pub down : {n : ℕ} → n < length way → n ≤ length way
  down h = omega (arith, h)

  -- the nodes above the n-th, the lowest first
  abbrev pub stages : (n : ℕ) → n ≤ length way → List Stage
  stages zero h = []
  stages (suc n) h = stage n h ∷ stages n (down h)

  frame_is : (i : ℕ) (h : i < length way) → frame (stage i h) ≡ (step i h).0
  frame_is i h =
      let s = (step i h).0 in
      ap (λ z. let x : PathNode = record { number = s.number; height = s.height; first_position = z; count = size (node i h).2.forks; slot = s.slot } in x) (sym (node i h).2.first) ∙
      ap (λ z. let x : PathNode = record { number = s.number; height = s.height; first_position = s.first_position; count = z; slot = s.slot } in x) (sym (node i h).2.count)

  frames_are : (n : ℕ) (h : n ≤ length way) → take n way ≡ frames_of (stages n h)
  frames_are zero h = refl
  frames_are (suc n) h =
      let s = step n h in
      take-suc way n s.0 h ∙ (ap (λ z. z ++ get_or way n s.0 ∷ []) (frames_are n (down h)) ∙
      ap (λ z. frames_of (stages n (down h)) ++ z ∷ []) (get_or_from_slice_get way n s.0 s.0 s.1 ∙ sym (frame_is n h)))

  place_is : (i : ℕ) (h : i < length way) → (stage i h).place ≡ spot key (stage i h).shape
  place_is i h = (node i h).2.at

  place_below : (i : ℕ) (h : i < length way) → (stage i h).place < size (stage i h).shape
  place_below i h = subst (λ z. z < size (stage i h).shape) (sym (place_is i h)) (spot_below key (stage i h).shape)

  are_inside : (n : ℕ) (h : n ≤ length way) → AreInside (stages n h)
  are_inside zero h = tt
  are_inside (suc n) h = (place_below n h, (node n h).2.room, are_inside n (down h))

  -- what stands at the place of a node: the next one, or the leaf at the end
  placed_next : (i : ℕ) (h : i < length way) (o : suc i < length way) → Sure k (λ s. IsPlaced s m (stage i h).number (stage i h).place (Node (stage (suc i) o).number (stage (suc i) o).height))
  placed_next i h o = subst (λ e. Sure k (λ s. IsPlaced s m (stage i h).number (stage i h).place e))
      (some_injective (sym (node i h).1 ∙ (ap (named way found) (let q : i + 1 ≡ suc i = omega arith in q) ∙ named_at way found (suc i) (step (suc i) o).0 (step (suc i) o).1))) (node i h).2.placed

  placed_end : (i : ℕ) (h : i < length way) → i + 1 ≡ length way → Sure k (λ s. IsPlaced s m (stage i h).number (stage i h).place (LeafEntry number))
  placed_end i h last = subst (λ e. Sure k (λ s. IsPlaced s m (stage i h).number (stage i h).place e))
      (some_injective (sym (node i h).1 ∙ (ap (named way found) last ∙ named_end way found (length way) (le_refl (length way))))) (node i h).2.placed

  -- the leaf that was found
  abbrev leaf_key : Key
  leaf_key = w.found_at.0

  -- ---- in the versions that it has seen
  module _ (c : Core) (lawful : IsLawful c) (known : Recalls c k) where
    steady : KeepsFixedWordsSince (seen c k) m
    steady = seen_steady lawful known w.since

    stack : (n : ℕ) (h : n ≤ length way) → IsStack (seen c k) m (stages n h)
    stack zero h = tt
    stack (suc zero) h = (root c lawful known, (node 0 h).2.shaped c lawful known)
      where
        root : Sure k (λ s. IsRooted s m (Node (stage 0 h).number (stage 0 h).height))
        root = subst (RootWas k m) (named_at way found 0 (step 0 h).0 (step 0 h).1) w.root
    stack (suc (suc n)) h = (placed_next n (down h) h c lawful known, (node (suc n) h).2.shaped c lawful known, stack (suc n) (down h))

    -- The key of the leaf may stand at the place of each node: so many nodes from the end.
    found_fits : (rest i : ℕ) (h : i < length way) → i + suc rest ≡ length way → MayStandAt (seen c k) m (stage i h).number (stage i h).place leaf_key
    found_fits zero i h e =
        leaf_may_stand (seen c k) m steady (stage i h).number (stage i h).place number leaf_key value (placed_end i h (omega (arith, e)) c lawful known) (w.found_at.1 c lawful known)
    found_fits (suc rest) i h e =
        let o : suc i < length way = omega (arith, e) in
        may_stand_at_child_place (seen c k) m steady (stage i h).number (stage i h).place (stage (suc i) o).number (stage (suc i) o).height (stage (suc i) o).place leaf_key
        (placed_next i h o c lawful known) (found_fits rest (suc i) o (omega (arith, e)))

    pub leaf_fits : (i : ℕ) (h : i < length way) → MayStandAt (seen c k) m (stage i h).number (stage i h).place leaf_key
    leaf_fits i h = found_fits (length way - suc i) i h (omega (arith, h))

  -- ---- where the key may stand
  abbrev StandsAt : (i : ℕ) → i < length way → Type 0
  StandsAt i h = Sure k (λ s. MayStandAt s m (stage i h).number (stage i h).place key)

  -- what is behind their places comes later
  are_beyond : (d : Direction) (n : ℕ) (h : n ≤ length way) → Sure k (λ s. AreAt s m key (stages n h)) → ArePastKey d k m key (take n way)
  are_beyond d n h at = subst (ArePastKey d k m key) (sym (frames_are n h)) (go (stages n h) at)
    where
      go : (fs : List Stage) → Sure k (λ s. AreAt s m key fs) → ArePastKey d k m key (frames_of fs)
      go [] at = tt
      go (f ∷ fs) at = beyond_append d m key (frames_of fs) (frame f) (go fs (λ c lawful known. (at c lawful known).1)) (λ c lawful known. at_beyond d (seen c k) m f.number f.place key (at c lawful known).0)

  -- the step of a start is the way's
  of_step : (i : ℕ) (h : i < length way) (place : ℕ) (top : PathNode) → top ≡ record (step i h).0 { slot = place } → (s : PathNode) → slice_get way i ≡ Some s → top ≡ record s { slot = top.slot }
  of_step i h place top is s there =
      is ∙ (ap (λ (z : PathNode). let x : PathNode = record z { slot = place } in x) (some_injective (sym (step i h).1 ∙ there)) ∙ ap (λ z. let x : PathNode = record s { slot = z } in x) (sym (ap (λ (z : PathNode). z.slot) is)))

  -- If it may stand at a node's place, it may so at the nodes' above.
  at_above : (i : ℕ) (h : i < length way) → StandsAt i h → Sure k (λ s. AreAt s m key (stages (suc i) h))
  at_above i h at c lawful known = stack_at (seen c k) m (steady c lawful known) (stage i h) (stages i (down h)) (stack c lawful known (suc i) h) key (at c lawful known)

  -- ---- the walk from a node on
  begins : (i : ℕ) (h : i < length way) (g : Range) → g.from ≡ key → (place : ℕ) → place ≤ size (stage i h).shape → Sure k (λ s. IsScanBy Upwards s m g (record (stage i h) { place = place } ∷ stages i (down h)) []) →
      (top : PathNode) → top ≡ record (step i h).0 { slot = place } → IsWalk k m (Upwards, g) top (take i way) (tally_of_number 0)
  begins i h g from place fits scan top is = record {
    lowest = record (stage i h) { place = place };
    others = stages i (down h);
    top_is = is ∙ ap (λ (z : PathNode). let x : PathNode = record z { slot = place } in x) (sym (frame_is i h));
    frames_are = frames_are i (down h);
    room = (node i h).2.room;
    fits = fits;
    inside = are_inside i (down h);
    pinned = w.since;
    scan = λ c lawful known. ([], (refl, tt), scan c lawful known);
  }

  -- ---- at a leaf: the key may stand at the place of the lowest node
  module _ (i : ℕ) (h : i < length way) (last : i + 1 ≡ length way) (stands : StandsAt i h) where
    above : Sure k (λ s. AreAt s m key (stages i (down h)))
    above c lawful known = (at_above i h stands c lawful known).1

    scan_at : (g : Range) → g.from ≡ key → Sure k (λ s. IsScanBy Upwards s m g (stage i h ∷ stages i (down h)) [])
    scan_at g from c lawful known =
        scan_started Upwards (seen c k) m (steady c lawful known) g (stage i h) (stages i (down h)) (stack c lawful known (suc i) h)
        (at_on_way Upwards (seen c k) m (steady c lawful known) g.from (stages i (down h)) (subst (λ z. AreAt (seen c k) m z (stages i (down h))) (sym from) (above c lawful known)))
        (λ j z lt at. subst (IsBefore z) (sym from) (may_stand_in_order (seen c k) m (steady c lawful known) (stage i h).number j (stage i h).place lt z key at (stands c lawful known)))

    bound_behind : (top : PathNode) → top ≡ record (step i h).0 { slot = suc (step i h).0.slot } → IsBound Upwards k m key top (take i way)
    bound_behind top is = record {
      there = λ c lawful known. subst (λ (z : PathNode). IsPastKey Upwards (seen c k) m key z.number z.slot) (sym is) (at_beyond Upwards (seen c k) m (stage i h).number (stage i h).place key (stands c lawful known));
      above = are_beyond Upwards i (down h) above;
    }

    beneath : Sure k (λ s. IsPastKey Downwards s m key (step i h).0.number (step i h).0.slot)
    beneath c lawful known = at_beyond Downwards (seen c k) m (stage i h).number (stage i h).place key (stands c lawful known)

    -- the leaf comes first
    pub starts_at_leaf : IsAtMost key leaf_key → (top : PathNode) → top ≡ (step i h).0 → IsParting k m key way number (record { level = i; top = top; leaf = true })
    starts_at_leaf le top is = record {
      upwards = record {
        within = h;
        begun = subst (λ z. IsBegun Upwards k m key number (take i way) (record { level = 0; top = z; leaf = true })) (sym is) (
          record {
            found = leaf_key;
            value = value;
            inside = subst (λ z. (step i h).0.slot < z) (sym (node i h).2.count) (place_below i h);
            placed = placed_end i h last;
            read = w.found_at.1;
            reached = le;
            bound = bound_behind (record (step i h).0 { slot = suc (step i h).0.slot }) refl;
          },
          λ g from. begins i h g from (stage i h).place (let low = place_below i h in omega (arith, low)) (scan_at g from) (step i h).0 refl,
        );
      };
      of_way = of_step i h (step i h).0.slot top is;
      left = are_beyond Downwards i (down h) above;
      side = inl (subst (λ (z : PathNode). Sure k (λ s. IsPastKey Downwards s m key z.number z.slot)) (sym is) beneath);
    }

    -- or it is below the key, and the scan starts behind it
    pub starts_behind_leaf : IsBefore leaf_key key → (top : PathNode) → top ≡ record (step i h).0 { slot = suc (step i h).0.slot } → IsParting k m key way number (record { level = i; top = top; leaf = false })
    starts_behind_leaf low top is = record {
      upwards = record {
        within = h;
        begun = (
          bound_behind top is,
          λ g from. begins i h g from (suc (step i h).0.slot) (place_below i h) (λ c lawful known.
              scan_skipped (seen c k) m g (steady c lawful known) (stage i h) (stages i (down h)) [] number leaf_key value (placed_end i h last c lawful known) (w.found_at.1 c lawful known)
              Upwards (scan_at g from c lawful known) (subst (IsBefore leaf_key) (sym from) low)) top is,
        );
      };
      of_way = of_step i h (suc (step i h).0.slot) top is;
      left = are_beyond Downwards i (down h) above;
      side = inr (record {
        apart = refl;
        last = last;
        step = (step i h).0;
        there = (step i h).1;
        behind = ap (λ (z : PathNode). z.slot) is;
        found = leaf_key;
        value = value;
        read = w.found_at.1;
        low = low;
        beneath = beneath;
      });
    }

  -- ---- among several affected places
  module _ (d : ℕ) (agree : AgreeBelow d key leaf_key) (ne : bit key d ≢ bit leaf_key d) where
    -- the key's place in the node
    fits_at : (i : ℕ) (h : i < length way) → Sure k (λ s. MayStandAt s m (stage i h).number (spot key (stage i h).shape) leaf_key)
    fits_at i h c lawful known = subst (λ z. MayStandAt (seen c k) m (stage i h).number z leaf_key) (place_is i h) (leaf_fits c lawful known i h)

    -- where one place alone is affected, the key may stand there
    pub stands_alone : (i : ℕ) (h : i < length way) → size (subtrie_affected d key (stage i h).shape) ≡ 1 → StandsAt i h
    stands_alone i h one c lawful known = subst (λ z. MayStandAt (seen c k) m (stage i h).number z key) (sym (place_is i h))
        (fit_sole (seen c k) m (steady c lawful known) (stage i h).number (stage i h).shape ((node i h).2.shaped c lawful known) key leaf_key d agree (fits_at i h c lawful known) one)

    -- a node whose first fork is before d: the key may stand at the place above it
    pub stands_above : (i : ℕ) (h : i < length way) (o : suc i < length way) → first_position (stage (suc i) o).shape < d → StandsAt i h
    stands_above i h o low c lawful known =
        near_may_stand (seen c k) m (steady c lawful known) (stage i h).number (stage i h).place (stage (suc i) o).number (stage (suc i) o).height (stage (suc i) o).place (stage (suc i) o).shape leaf_key key
        (placed_next i h o c lawful known) ((node (suc i) o).2.shaped c lawful known) (leaf_fits c lawful known (suc i) o) (λ q lt. sym (agree q (omega (arith, lt, low))))

    pub starts_among : (i : ℕ) (h : i < length way) → 2 ≤ size (subtrie_affected d key (stage i h).shape) → Sure k (λ s. AreAt s m key (stages i (down h))) →
        (top : PathNode) → top ≡ record (step i h).0 { slot = start_place d key (stage i h).shape } → IsParting k m key way number (record { level = i; top = top; leaf = false })
    starts_among i h two at top is = record {
      upwards = record {
        within = h;
        begun = (
          record {
            there = λ c lawful known. subst (λ (z : PathNode). IsPastKey Upwards (seen c k) m key z.number z.slot) (sym is)
                (sides_beyond Upwards (seen c k) m (stage i h).number (stage i h).shape ((node i h).2.shaped c lawful known) key leaf_key d agree (fits_at i h c lawful known) ne two);
            above = are_beyond Upwards i (down h) at;
          },
          λ g from. begins i h g from (start_place d key (stage i h).shape) (start_fits d key (stage i h).shape) (λ c lawful known.
              scan_started Upwards (seen c k) m (steady c lawful known) g (record (stage i h) { place = start_place d key (stage i h).shape }) (stages i (down h)) (stack_with c lawful known)
              (at_on_way Upwards (seen c k) m (steady c lawful known) g.from (stages i (down h)) (subst (λ z. AreAt (seen c k) m z (stages i (down h))) (sym from) (at c lawful known)))
              (λ j z lt fit. subst (IsBefore z) (sym from) ((sides (seen c k) m (steady c lawful known) (stage i h).number (stage i h).shape ((node i h).2.shaped c lawful known) key leaf_key d agree
              (fits_at i h c lawful known) ne two j z fit).0 lt))) top is,
        );
      };
      of_way = of_step i h (start_place d key (stage i h).shape) top is;
      left = are_beyond Downwards i (down h) at;
      side = inl (λ c lawful known. subst (λ (z : PathNode). IsPastKey Downwards (seen c k) m key z.number z.slot) (sym is)
          (sides_beyond Downwards (seen c k) m (stage i h).number (stage i h).shape ((node i h).2.shaped c lawful known) key leaf_key d agree (fits_at i h c lawful known) ne two));
    }
      where
        stack_with : (c : Core) (lawful : IsLawful c) (known : Recalls c k) → IsStack (seen c k) m (record (stage i h) { place = start_place d key (stage i h).shape } ∷ stages i (down h))
        stack_with c lawful known = stack_place (seen c k) m (stage i h) (start_place d key (stage i h).shape) (stages i (down h)) (stack c lawful known (suc i) h)

  -- ---- where the search's leaf has the key
  pub starts_same : differ ≡ None → (i : ℕ) → i + 1 ≡ length way → (top : PathNode) → slice_get way i ≡ Some top → IsParting k m key way number (record { level = i; top = top; leaf = true })
  starts_same none i last top at =
      let h : i < length way = omega (arith, last) in
      let same : key ≡ leaf_key = subst (IsMismatch key leaf_key) none w.found_at.2 in
      starts_at_leaf i h last (λ c lawful known. subst (λ z. MayStandAt (seen c k) m (stage i h).number (stage i h).place z) (sym same) (leaf_fits c lawful known i h)) (inl same) top
      (some_injective (sym at ∙ (step i h).1))

  -- ---- where it differs
  module _ (d : ℕ) (differs : differ ≡ Some d) (level : ℕ) (is : IsLevel way d level) (s : PathNode) (there : slice_get way level ≡ Some s) (x : Subtrie) (shapes : Sure k (λ p. HadShapeSince p m s.number x))
      (first last : ℕ) (from : affected_first d s.slot x ≡ first) (upto : affected_count d s.slot x + first ≡ last + 1) where
    apart : AgreeBelow d key leaf_key × (bit key d ≢ bit leaf_key d)
    apart = subst (IsMismatch key leaf_key) differs w.found_at.2

    step_is : (h : level < length way) → (step level h).0 ≡ s
    step_is h = some_injective (sym (step level h).1 ∙ there)

    shape_is : (h : level < length way) → (stage level h).shape ≡ x
    shape_is h = same_shape layout k m s.number (stage level h).shape x possible w.since (subst (λ (z : PathNode). Sure k (λ p. HadShapeSince p m z.number (stage level h).shape)) (step_is h) (node level h).2.shaped) shapes

    spot_is : (h : level < length way) → s.slot ≡ spot key x
    spot_is h = ap (λ (z : PathNode). z.slot) (sym (step_is h)) ∙ (place_is level h ∙ ap (spot key) (shape_is h))

    low_is : (h : level < length way) → affected_from d key (stage level h).shape ≡ first
    low_is h = ap (affected_from d key) (shape_is h) ∙ (sym (key_first d key x) ∙ (ap (λ i. affected_first d i x) (sym (spot_is h)) ∙ from))

    count_is : (h : level < length way) → size (subtrie_affected d key (stage level h).shape) + first ≡ last + 1
    count_is h = let e : affected_count d s.slot x ≡ size (subtrie_affected d key (stage level h).shape) =
        ap (λ i. affected_count d i x) (spot_is h) ∙ ((key_part key d x).count ∙ ap (λ y. size (subtrie_affected d key y)) (sym (shape_is h))) in omega (arith, e, upto)

    -- the nodes above one whose first fork is before d
    are_above : (i : ℕ) (h : i < length way) → (0 < i → first_position (stage i h).shape < d) → Sure k (λ p. AreAt p m key (stages i (down h)))
    are_above zero h low = λ c lawful known. tt
    are_above (suc i) h low = at_above i (down h) (stands_above d apart.0 apart.1 i (down h) h (low (omega arith)))

    alone : (h : level < length way) → last ≤ first → StandsAt level h
    alone h le = stands_alone d apart.0 apart.1 level h (let n = count_is h in let p = size_pos (subtrie_affected d key (stage level h).shape) in omega (arith, n, p, le))

    abbrev Starts : Bool → ℕ → ℕ → ℕ → Type 0
    Starts u i low high = (top t : PathNode) → slice_get way i ≡ Some t → top ≡ record t { slot = if u then high + 1 else low } → IsParting k m key way number (record { level = i; top = top; leaf = (if u then false else nat_eq low high) })

    leaf_is : {i : ℕ} {top : PathNode} {a b : Bool} → a ≡ b → IsParting k m key way number (record { level = i; top = top; leaf = a }) → IsParting k m key way number (record { level = i; top = top; leaf = b })
    leaf_is {i} {top} e = subst (λ z. IsParting k m key way number (record { level = i; top = top; leaf = z })) e

    no_leaf : (u : Bool) (low high : ℕ) → low < high → false ≡ (if u then false else nat_eq low high)
    no_leaf true low high lt = refl
    no_leaf false low high lt = sym (ne_eqb low high (λ e. omega (arith, lt, e)))

    -- several places of the node are affected,
    several : (u : Bool) → bit key d ≡ u → (h : level < length way) → first < last → Starts u level first last
    several u b h lt top t at top_is =
        let n = count_is h in let f = low_is h in
        leaf_is (no_leaf u first last lt)
        (starts_among d apart.0 apart.1 level h (omega (arith, n, lt)) (are_above level h (λ o. subst (λ z. z < d) (ap (λ (z : PathNode). z.first_position) (sym (step_is h)) ∙ (node level h).2.first) (is.low o s there)))
        top (top_is ∙ (ap (λ (z : PathNode). let y : PathNode = record z { slot = if u then last + 1 else first } in y) (some_injective (sym at ∙ (step level h).1)) ∙
        ap (λ z. let y : PathNode = record (step level h).0 { slot = z } in y) (place_now u b f n))))
      where
        place_now : (u : Bool) → bit key d ≡ u → affected_from d key (stage level h).shape ≡ first → size (subtrie_affected d key (stage level h).shape) + first ≡ last + 1 →
            (if u then last + 1 else first) ≡ start_place d key (stage level h).shape
        place_now true b f n = rw b (omega (arith, f, n))
        place_now false b f n = rw b (sym f)

    -- or all those of the next one,
    next_one : (u : Bool) → bit key d ≡ u → (o : suc level < length way) → last ≤ first → (count : ℕ) → count ≡ size (stage (suc level) o).shape → Starts u (suc level) 0 (count - 1)
    next_one u b o le count count_eq top t at top_is =
        let forks : Subtrie = (stage (suc level) o).shape in
        let c = possible.core in let known = recalls c k possible.knows in
        let two : 2 ≤ size forks = shaped_several (seen c k) m (steady c possible.lawful known) (stage (suc level) o).number forks ((node (suc level) o).2.shaped c possible.lawful known) in
        let high : d ≤ first_position forks = subst (λ z. d ≤ z) (node (suc level) o).2.first (is.rest (suc level) (step (suc level) o).0 (omega arith) (step (suc level) o).1) in
        let whole = whole_from d key forks two high in
        leaf_is (no_leaf u 0 (count - 1) (omega (arith, two, count_eq)))
        (starts_among d apart.0 apart.1 (suc level) o (subst (λ y. 2 ≤ size y) (sym whole.1) two) (at_above level (down o) (alone (down o) le)) top
        (top_is ∙ (ap (λ (z : PathNode). let y : PathNode = record z { slot = if u then count - 1 + 1 else 0 } in y) (some_injective (sym at ∙ (step (suc level) o).1)) ∙
        ap (λ z. let y : PathNode = record (step (suc level) o).0 { slot = z } in y) (place_now u b whole.0 (ap size whole.1) two))))
      where
        place_now : (u : Bool) → bit key d ≡ u → affected_from d key (stage (suc level) o).shape ≡ 0 → size (subtrie_affected d key (stage (suc level) o).shape) ≡ size (stage (suc level) o).shape →
            2 ≤ size (stage (suc level) o).shape → (if u then count - 1 + 1 else 0) ≡ start_place d key (stage (suc level) o).shape
        place_now true b f n two = rw b (omega (arith, f, n, two, count_eq))
        place_now false b f n two = rw b (sym f)

    -- or the leaf alone.
    one_leaf : (u : Bool) → bit key d ≡ u → (h : level < length way) → last ≤ first → level + 1 ≡ length way → Starts u level first last
    one_leaf u b h le end top t at top_is = go u b top_is
      where
        around : (first ≤ s.slot) × (s.slot ≤ first) × (first ≡ last)
        around =
            let a = part_around d key (stage level h).shape in let f = low_is h in let n = count_is h in let p = place_is level h in let e = ap (λ (z : PathNode). z.slot) (step_is h) in
            (omega (arith, a.0, f, p, e), omega (arith, a.1, f, n, p, e, le), let q = size_pos (subtrie_affected d key (stage level h).shape) in omega (arith, n, le, q))

        is_step : t ≡ (step level h).0
        is_step = some_injective (sym at ∙ (step level h).1)

        at_is : (step level h).0.slot ≡ first
        at_is = let e = ap (λ (z : PathNode). z.slot) (step_is h) in let a = around.0 in let b = around.1 in omega (arith, e, a, b)

        other : (u : Bool) → bit key d ≡ u → (o : Bool) → bit leaf_key d ≡ o → u ≢ o
        other u e o f same = apart.1 (e ∙ (same ∙ sym f))

        go : (u : Bool) → bit key d ≡ u → top ≡ record t { slot = if u then last + 1 else first } → IsParting k m key way number (record { level = level; top = top; leaf = (if u then false else nat_eq first last) })
        go true b e = starts_behind_leaf level h end (alone h le) (d, ((λ q lt. sym (apart.0 q lt)), is_false (bit leaf_key d) refl, b)) top
            (e ∙ (ap (λ (z : PathNode). let y : PathNode = record z { slot = last + 1 } in y) is_step ∙ ap (λ z. let y : PathNode = record (step level h).0 { slot = z } in y) (let g = at_is in let f = around.2 in omega (arith, g, f))))
          where
            is_false : (o : Bool) → bit leaf_key d ≡ o → bit leaf_key d ≡ false
            is_false false f = f
            is_false true f = absurd (other true b true f refl)
        go false b e = leaf_is (sym (eq-eqb first last around.2)) (starts_at_leaf level h end (alone h le) (inr (d, (apart.0, b, is_true (bit leaf_key d) refl))) top
            (e ∙ (ap (λ (z : PathNode). let y : PathNode = record z { slot = first } in y) is_step ∙ ap (λ z. let y : PathNode = record (step level h).0 { slot = z } in y) (sym at_is))))
          where
            is_true : (o : Bool) → bit leaf_key d ≡ o → bit leaf_key d ≡ true
            is_true true f = f
            is_true false f = absurd (other false b false f refl)

    pub starts_apart : (u : Bool) → bit_of key d ≡ u → (c : Choice) → IsChosen way level first last c → Starts u c.level c.first c.last
    unfolding bit
    starts_apart u b c chosen = ⊎_elim
        (λ lt. by (several u b is.within lt) (chosen.several lt s there))
        (λ le. ⊎_elim
        (λ o. by (subst (λ i. Starts u i 0 ((step (suc level) o).0.count - 1)) (let e : suc level ≡ level + 1 = omega arith in e) (next_one u b o le (step (suc level) o).0.count (node (suc level) o).2.count))
        (chosen.next le (step (suc level) o).0 (subst (λ i. slice_get way i ≡ Some (step (suc level) o).0) (let e : suc level ≡ level + 1 = omega arith in e) (step (suc level) o).1)))
        (λ no. by (one_leaf u b is.within le (let w = is.within in omega (arith, no, w))) (chosen.leaf le (omega (arith, no)) s there))
        (cases_lt (suc level) (length way)))
        (cases_lt first last)
      where
        by : {i low high : ℕ} → Starts u i low high → {case : Case} → c ≡ record { level = i; first = low; last = high; case = case } → Starts u c.level c.first c.last
        by starts e = subst (λ (z : Choice). Starts u z.level z.first z.last) (sym e) starts

    -- A place in a node.
    pub chosen_low : (c : Choice) → IsChosen way level first last c → last ≤ 31 → (c.level < length way) × (c.last ≤ 31)
    chosen_low c chosen few = ⊎_elim
        (λ lt. by is.within few (chosen.several lt s there))
        (λ le. ⊎_elim
        (λ o. by (omega (arith, o)) (let r = (node (suc level) o).2.room in let n = (node (suc level) o).2.count in omega (arith, r, n))
        (chosen.next le (step (suc level) o).0 (subst (λ i. slice_get way i ≡ Some (step (suc level) o).0) (let e : suc level ≡ level + 1 = omega arith in e) (step (suc level) o).1)))
        (λ no. by is.within few (chosen.leaf le (omega (arith, no)) s there))
        (cases_lt (suc level) (length way)))
        (cases_lt first last)
      where
        by : {i low high : ℕ} → i < length way → high ≤ 31 → {case : Case} → c ≡ record { level = i; first = low; last = high; case = case } → (c.level < length way) × (c.last ≤ 31)
        by within low e = subst (λ (z : Choice). (z.level < length way) × (z.last ≤ 31)) (sym e) (within, low)

-- ---- with the forks of the node at the level, which were read once more
module _ (layout : Layout) (k j : Known) (m : ℕ) (key : Key) (way : List PathNode) (number value : ℕ) (differ : Option ℕ) (w : IsWayOf layout k m key way (Leaf number value differ)) (possible : IsPossible layout j)
    (later : IsLater k j) (d : ℕ) (differs : differ ≡ Some d) (level : ℕ) (is : IsLevel way d level) (s : PathNode) (there : slice_get way level ≡ Some s) (forks : Subtrie)
    (shapes : Sure j (λ p. HadShapeSince p m s.number forks)) (first last : ℕ)
    (from : affected_first d s.slot forks ≡ first) (upto : affected_count d s.slot forks + first ≡ last + 1) (c : Choice) (chosen : IsChosen way level first last c) where
  then_found : IsWayOf layout j m key way (Leaf number value differ)
  then_found = way_later layout k j m key way (Leaf number value differ) later w

  -- the node has at most 32 entries
  room : size forks ≤ 32
  room = subst (λ x. size x ≤ 32) (same_shape layout j m s.number (then_found.nodes level s there).2.forks forks possible then_found.since (then_found.nodes level s there).2.shaped shapes)
      (then_found.nodes level s there).2.room

  chosen_fits : (c.level < length way) × (c.last ≤ 31)
  chosen_fits = chosen_low layout j m key way number value differ then_found possible d differs level is s there forks shapes first last from upto c chosen
      (let low = affected_low d s.slot first last forks from upto in let r = room in omega (arith, low, r))

  abbrev StartsThere : Type 0
  StartsThere = (u : Bool) → bit_of key d ≡ u → (t : PathNode) → slice_get way c.level ≡ Some t → (place : ℕ) → place ≡ (if u then c.last + 1 else c.first) → (comes : Bool) →
      comes ≡ (if u then false else nat_eq c.first c.last) → IsParting j m key way number (record { level = c.level; top = record t { slot = place }; leaf = comes })

  started : StartsThere
  started u b t at place place_eq comes comes_eq =
      subst (λ z. IsParting j m key way number (record { level = c.level; top = record t { slot = place }; leaf = z })) (sym comes_eq)
      (starts_apart layout j m key way number value differ then_found possible d differs level is s there forks shapes first last from upto u b c chosen (record t { slot = place }) t at
      (ap (λ z. let y : PathNode = record t { slot = z } in y) place_eq))

  -- the choice is of a place in a node of the way, and there the scan starts
  pub chosen_starts : (c.level < length way) × (c.last ≤ 31) × StartsThere
  chosen_starts = (chosen_fits.0, chosen_fits.1, started)

pub is_below : (u a : Bool) → u ≡ true → not u ≡ (if u then false else a)
is_below true a e = refl
is_below false a e = absurd (false≢true e)

pub not_below : (u a : Bool) → u ≡ false → a ≡ (if u then false else a)
not_below false a e = refl
not_below true a e = absurd (false≢true (sym e))

-- ---- other ends of the search
-- It found an empty root.
pub nothing_blank : (layout : Layout) (k : Known) (m : ℕ) (key : Key) (way : List PathNode) → IsWayOf layout k m key way Nothing → Sure k (λ s. IsBlank s m)
nothing_blank layout k m key [] w = w.root
nothing_blank layout k m key (s ∷ ss) w =
    let at = some_at (s ∷ ss) (length ss) (omega arith) in
    let node = w.nodes (length ss) at.0 at.1 in
    let last : length ss + 1 ≡ length (s ∷ ss) = omega arith in
    absurd (let z : None ≡ Some node.0 = sym (named_end (s ∷ ss) Nothing (length (s ∷ ss)) (le_refl (length (s ∷ ss)))) ∙ (ap (named (s ∷ ss) Nothing) (sym last) ∙ node.1) in cc)

-- It found a leaf at the root.
pub leaf_rooted : (layout : Layout) (k : Known) (key : Key) (way : List PathNode) (number value : ℕ) (differ : Option ℕ) → way ≡ [] → IsWayOf layout k (since k) key way (Leaf number value differ) → IsAtRoot k (LeafEntry number)
leaf_rooted layout k key way number value differ none w = (w.since, subst (λ z. RootWas k (since k) (named z (Leaf number value differ) 0)) none w.root)

-- Two reads of one leaf find one key.
pub read_same : (s : Past) (m : ℕ) → KeepsFixedWordsSince s m → (n : ℕ) (a b : Key) (v u : ℕ) → IsRead s m n a v → IsRead s m n b u → a ≡ b
read_same s m steady n a b v u (o, lo, hi, st) (p, lo2, hi2, su) = steady.same (a_leaf n) o p (leaf n a v) (leaf n b u) lo hi lo2 hi2 st su

-- The leaf that was found does not come before the first key.
first_reached : {d : Direction} (layout : Layout) {k : Known} (m : ℕ) (key : Key) (number : ℕ) {top : PathNode} {frames : List PathNode} → IsFirst d k m key number top frames → IsPinnedSince k m → IsReached d layout k m key number
first_reached {d} layout {k} m key number f pinned j l possible other value read =
    let c = possible.core in let known = recalls c j possible.knows in
    let steady = seen_steady possible.lawful known (since_later l pinned) in
    let old = sure_later {P = λ s. IsRead s m number f.found f.value} (read_stable m number f.found f.value) l f.read in
    subst (IsNoLater d key) (read_same (seen c j) m steady number f.found other f.value value (old c possible.lawful known) (read c possible.lawful known)) f.reached

-- ---- where a scan begins, with no pairs so far
pub record HasBegun (d : Direction) (layout : Layout) (k : Known) (m : ℕ) (g : Range) (number : ℕ) (start : Start) (frames : List PathNode) (t : Tally) : Type 0 where
  -- the leaf of the search may come first,
  pub entry : start.leaf ≡ true → IsAtEntry d k m g start.top frames t (LeafEntry number)
  pub reached : start.leaf ≡ true → IsReached d layout k m (first_key d g) number
  pub behind : start.leaf ≡ true → IsBound d k m (first_key d g) (record start.top { slot = gap_behind d start.top.slot }) frames
  -- or the walk is at a gap
  pub walk : start.leaf ≡ false → IsWalk k m (d, g) start.top frames t
  pub bound : start.leaf ≡ false → IsBound d k m (first_key d g) start.top frames

-- From a start on the search's way, of which the nodes above the start are left.
pub begun : {d : Direction} {layout : Layout} {j k : Known} {m : ℕ} {way steps frames : List PathNode} {start : Start} {t : Tally} (found : SearchEnd) (g : Range) →
    IsSearchEnd layout j m (first_key d g) way found → steps ≡ way → ((n : ℕ) → IsSearchEnd layout j n (first_key d g) steps found → IsStart d k n (first_key d g) steps found.number start) → frames ≡ take start.level way → IsNone t →
    HasBegun d layout k m g found.number start frames t
begun {d} {layout} {j} {k} {m} {way} {steps} {frames} {start} {t} found g w same starts left none = record {
  entry = λ is. record { walk = walk_before start.top (there (record start.top { slot = gap_before d start.top.slot }) ((first is).1 g refl)) (first is).0.inside refl; placed = (first is).0.placed };
  reached = λ is. first_reached layout m (first_key d g) found.number (first is).0 ((first is).1 g refl).pinned;
  behind = λ is. (first is).0.bound;
  walk = λ is. there start.top ((begins is).1 g refl);
  bound = λ is. (begins is).0;
}
  where
    s : IsStart d k m (first_key d g) steps found.number start
    s = starts m (subst (λ z. IsSearchEnd layout j m (first_key d g) z found) (sym same) w)

    above_are : take start.level steps ≡ frames
    above_are = ap (take start.level) same ∙ sym left

    there : (top : PathNode) → IsWalk k m (d, g) top frames (tally_of_number 0) → IsWalk k m (d, g) top frames t
    there top = walk_tallied (tallied_none t none)

    begins : {b : Bool} → start.leaf ≡ b → IsBegun d k m (first_key d g) found.number frames (record { level = 0; top = start.top; leaf = b })
    begins {b} is = subst (λ z. IsBegun d k m (first_key d g) found.number z (record { level = 0; top = start.top; leaf = b })) above_are
        (subst (λ z. IsBegun d k m (first_key d g) found.number (take start.level steps) (record { level = 0; top = start.top; leaf = z })) is s.begun)

    first : start.leaf ≡ true → IsBegun d k m (first_key d g) found.number frames (record { level = 0; top = start.top; leaf = true })
    first is = begins is
