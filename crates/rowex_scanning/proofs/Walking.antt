-- The steps of a walk, over what its pass knows.
use Rattle.std.proofs.Math.Nat.{min-eq_left, min-eq_right}
use Rattle.rowex_scanning.proofs.Common.{◌≡◌, ◌≢◌, ◌⊎◌, inl, inr, ℕ, suc, ◌+◌, ◌-◌, ◌*◌, ◌^◌, ◌<◌, ◌≤◌, List, [], ◌∷◌, ◌++◌, length, refl, ap, sym, ◌∙◌, subst, arith, Bool, true, false, length-append, Option, Some, None, ⊎_elim, ◌↔◌, IsSome, IsTrue, option_to_list, cases_lt, length-replicate, slice_cmp, nat_list_cmp_total, is_lt, nat_cmp, Ordering, Less, Equal, Greater, bit_of, IsFirstDifference, IsKey, HeadView, IsLawfulNode, node_of, leaves, Entry, Leaf, Node, size, length-places, Key, bit, IsBefore, IsAtMost, KeepsFixedWordsSince, Known, Core, IsLawful, Recalls, IsPinnedSince, recalls, HEAD_WORDS, LEAF_FIELDS, Layout, PathNode, beyond_at_place, beyond_behind, beyond_in_child, beyond_grown, Pair, Range, IsInRange, IsRooted, IsPlaced, IsRead, IsBlank, HadShapeSince, IsStack, Stage, leaf_may_stand, shaped_several, before, behind, scan_ended, scan_filled, scan_passed, scan_popped, scan_pushed, scan_taken, stack_shape, IsLater, SeatView, TableView, IsPossible, Reads, seen, Sure, IsAtRoot, IsLedTo, since, shape_of, step_at, looks_on, placed_led, reads_trans, shape_place, HasShape, placed_stable, recalls_before, seen_grown, seen_steady, since_later, sure_later, IsStable, IsAnswer, IsPastKey, IsEarlier, IsNoLater, IsScanBy, first_gap, first_key, gap_after, gap_before, gap_behind, last_key, place_ahead, to_come, Direction, Upwards, Downwards}
use Rattle.std.proofs.Math.Nat.{add-mul, pow-suc, pow-le-pow_right, one-le-pow, mul-le-mul_right}
use Rattle.std.proofs.lemmas.Cmp.{tied_itself}
use Rattle.std.proofs.lemmas.Map.Lookups.{exact_bytes}
use Rattle.key_bits.specs.declared.TheConstants.{MAX_BYTES}
use Rattle.key_bits.proofs.Bits.Order.{first_difference, greater_by_first, less_iff_first}
use Rattle.rowex_core.specs.declared.event.Event.{Event}
use Rattle.version_laws.proofs.Scan.Ends.{answer_blank, answer_nought, answer_one, answer_outside, none_between, stack_depth, stack_high, stack_low, stack_seen}
use Rattle.version_laws.proofs.Scan.Persist.{rooted_grown, scan_grown}
use Rattle.rowex_reading.specs.Lookups.{HasSearched}
use Rattle.rowex_reading.proofs.Counting.{looks_count}
use Rattle.rowex_scanning.specs.Counts.{AreWalkLoads, Scans, Walks, limit_by, scan_loads}
use Rattle.rowex_scanning.specs.declared.ahead.TheConstants.{MOST_AHEAD}
use Rattle.rowex_scanning.specs.Ahead.{HasPlaces, entries_ahead}
use Rattle.rowex_scanning.specs.declared.ahead.Ahead.{Ahead}
use Rattle.rowex_scanning.specs.Scanning.{ArePastKey, AreInside, HasTaken, IsBound, IsEntered, IsLeafJudged, IsPairJudged, IsReached, IsWalk, frame, frames_of}
use Rattle.rowex_scanning.specs.Tallies.{AreTallied, IsKept, IsNone, IsOneMore, IsTalliedScan, Tally, tally_of_number}
use Rattle.rowex_scanning.specs.declared.scan.Verdict.{Verdict}
use Rattle.rowex_scanning.specs.declared.scan.Verdict.TheVariants.{Further, Past as IsPast, Full}
use Rattle.rowex_scanning.proofs.direction.Directed.{before_fits, behind_fits, come_after, come_behind, come_first, come_most, first_fits, gap_before_place, place_inside, out_first, out_last}

-- What a walk has still to do, at most: its measure.
abbrev pub rest_of_frames : Direction → List PathNode → ℕ
rest_of_frames d [] = 0
rest_of_frames d (x ∷ xs) = to_come d x.count (gap_behind d x.slot) * 34 ^ x.height + 1 + rest_of_frames d xs

abbrev pub rest_of : Direction → PathNode → List PathNode → ℕ
rest_of d top frames = to_come d top.count top.slot * 34 ^ top.height + 1 + rest_of_frames d frames

-- How many entries of the nodes on a way have yet to be passed until each has passed two.
abbrev pub entries_until_two : Direction → List PathNode → ℕ
entries_until_two d [] = 0
entries_until_two d (x ∷ xs) = (2 - (x.count - to_come d x.count (gap_before d x.slot))) + entries_until_two d xs

-- So many loads, of which so many are of entries, are paid for: 26 for each entry, and 8 for each of so many pairs; and there are two
-- entries for each pair, and one for each node of the way beyond what it has yet to pass, over those of the longest way.
abbrev pub IsPaid : Direction → ℕ → ℕ → ℕ → PathNode → List PathNode → Type 0
IsPaid d loads entries pairs top frames =
    (loads ≤ 26 * entries + 8 * pairs) × (entries + suc (length frames) ≤ 9 * MAX_BYTES + 2 * pairs + ((2 - (top.count - to_come d top.count top.slot)) + entries_until_two d frames))

-- Keys

pub parted_before : (a b : Key) (p : ℕ) → IsFirstDifference a b p → bit_of b p ≡ true → IsBefore a b
unfolding bit
parted_before a b p h e = (p, (h.agree, other (bit_of a p) (λ d. h.differ (d ∙ sym e)), e))
  where
    other : (v : Bool) → (v ≡ true → ⊥) → v ≡ false
    other true n = absurd (n refl)
    other false n = refl

pub parted_after : (a b : Key) (p : ℕ) → IsFirstDifference a b p → bit_of b p ≡ false → IsBefore b a
unfolding bit
parted_after a b p h e = (p, (λ q lt. sym (h.agree q lt), e, other (bit_of a p) (λ d. h.differ (d ∙ sym e))))
  where
    other : (v : Bool) → (v ≡ false → ⊥) → v ≡ true
    other true n = refl
    other false n = absurd (n refl)

-- the order of their bytes is that of two keys
module _ (a b : Key) (ka : IsKey a) (kb : IsKey b) where
  pub less_before : slice_cmp nat_cmp a b ≡ Less → IsBefore a b
  less_before less =
      let d = (less_iff_first a b ka kb).0 less in parted_before a b d.0 d.1 (other (bit_of b d.0) (λ e. d.1.differ (d.2 ∙ sym e)))
    where
      other : (v : Bool) → (v ≡ false → ⊥) → v ≡ true
      other true n = refl
      other false n = absurd (n refl)

  pub not_less_after : slice_cmp nat_cmp a b ≢ Less → IsAtMost b a
  not_less_after not_less = go (slice_cmp nat_cmp a b) refl
    where
      go : (o : Ordering) → slice_cmp nat_cmp a b ≡ o → IsAtMost b a
      go Less e = absurd (not_less e)
      go Equal e = inl (sym (exact_bytes a b e))
      go Greater e =
          let d = first_difference a b ka kb (λ same. let x : slice_cmp nat_cmp a b ≡ Equal = rw same (tied_itself nat_list_cmp_total b) in cc) in
          let high = (greater_by_first a b ka kb d.0 d.1).0 e in
          inr (parted_after a b d.0 d.1 (low (bit_of b d.0) (λ f. d.1.differ (high ∙ sym f))))
        where
          low : (v : Bool) → (v ≡ true → ⊥) → v ≡ false
          low true n = absurd (n refl)
          low false n = refl

pub is_less : (o : Ordering) → IsTrue (is_lt o) → o ≡ Less
is_less Less h = refl
is_less Equal h = cc
is_less Greater h = cc

-- Lists

module _ {A : Type 0} where
  pub last_is : (xs ys : List A) (x y : A) → xs ++ x ∷ [] ≡ ys ++ y ∷ [] → (xs ≡ ys) × (x ≡ y)
  last_is [] [] x y e = (refl, cc)
  last_is [] (b ∷ ys) x y e = absurd (omega (arith, ap length e, length-append ys (y ∷ [])))
  last_is (a ∷ xs) [] x y e = absurd (omega (arith, ap length e, length-append xs (x ∷ [])))
  last_is (a ∷ xs) (b ∷ ys) x y e =
      let h : a ≡ b = cc in let t : xs ++ x ∷ [] ≡ ys ++ y ∷ [] = cc in
      let o = last_is xs ys x y t in
      (ap (λ z. z ∷ xs) h ∙ ap (λ z. b ∷ z) o.0, o.1)

  pub not_empty : (xs : List A) (x : A) → xs ++ x ∷ [] ≡ [] → ⊥
  not_empty [] x e = cc
  not_empty (a ∷ xs) x e = cc

  pub empty_is : (xs : List A) → length xs ≡ 0 → xs ≡ []
  empty_is [] e = refl
  empty_is (x ∷ xs) e = absurd (omega arith)

pub length_frames : (fs : List Stage) → length (frames_of fs) ≡ length fs
length_frames [] = refl
length_frames (f ∷ fs) = let e = length-append (frames_of fs) (frame f ∷ []) in let h = length_frames fs in omega (arith, e, h)

-- The measure

rest_append : (d : Direction) (xs : List PathNode) (x : PathNode) → rest_of_frames d (xs ++ x ∷ []) ≡ to_come d x.count (gap_behind d x.slot) * 34 ^ x.height + 1 + rest_of_frames d xs
rest_append d [] x = omega arith
rest_append d (y ∷ xs) x = let e = rest_append d xs x in omega (arith, e)

power_step : (i j : ℕ) → i < j → 34 ^ i * 34 ≤ 34 ^ j
power_step i j h = subst (λ z. z ≤ 34 ^ j) (pow-suc 34 i) (pow-le-pow_right {n = 34} (omega arith) {i = suc i} {j = j} (omega arith))

one_power : (i : ℕ) → 1 ≤ 34 ^ i
one_power i = one-le-pow i 34 (omega arith)

suc_times : (n x : ℕ) → suc n * x ≡ x + n * x
suc_times n x = omega arith

-- A node that is entered has 32 entries at most, and is lower.
pub push_less : (d : Direction) (at : PathNode) (frames : List PathNode) (into : PathNode) (more : List PathNode) → at.slot < at.count → into.height < at.height → into.count ≤ 32 → into.slot ≡ first_gap d into.count → more ≡ frames ++ at ∷ [] →
    rest_of d into more < rest_of d (record at { slot = gap_before d at.slot }) frames
push_less d at frames into more inside low few first e =
    let whole : to_come d into.count into.slot ≡ into.count = ap (to_come d into.count) first ∙ come_first d into.count in
    let most : into.count * 34 ^ into.height ≤ 32 * 34 ^ into.height = mul-le-mul_right (34 ^ into.height) few in
    let wide = power_step into.height at.height low in
    let one = one_power into.height in
    let rest = ap (rest_of_frames d) e ∙ rest_append d frames at in
    less (34 ^ into.height) (34 ^ at.height) (to_come d into.count into.slot) into.count (to_come d at.count (gap_before d at.slot)) (to_come d at.count (gap_behind d at.slot)) (rest_of_frames d more) (rest_of_frames d frames)
    whole most wide one rest (come_behind d at.slot at.count inside)
  where
    less : (x y come count t p after rest : ℕ) → come ≡ count → count * x ≤ 32 * x → x * 34 ≤ y → 1 ≤ x → after ≡ p * y + 1 + rest → t ≡ suc p → come * x + 1 + after < t * y + 1 + rest
    less x y come count t p after rest whole most wide one e f =
        let product : t * y ≡ y + p * y = ap (λ z. z * y) f ∙ suc_times p y in
        let same : come * x ≡ count * x = ap (λ z. z * x) whole in
        omega (arith, product, same, most, wide, one, e)

-- So many entries further is less by as many at least.
pub after_less : (d : Direction) (top : PathNode) (frames : List PathNode) (count : ℕ) → count ≤ to_come d top.count top.slot → rest_of d (record top { slot = gap_after d top.slot count }) frames + count ≤ rest_of d top frames
after_less d top frames count come = less (34 ^ top.height) (to_come d top.count top.slot) (to_come d top.count (gap_after d top.slot count)) (rest_of_frames d frames) (one_power top.height) (come_after d top.count top.slot count) come
  where
    less : (y t p rest : ℕ) → 1 ≤ y → p ≡ t - count → count ≤ t → p * y + 1 + rest + count ≤ t * y + 1 + rest
    less y t p rest one f within =
        let parts : t * y ≡ p * y + count * y = ap (λ z. z * y) (let e : t ≡ p + count = omega (arith, f, within) in e) ∙ add-mul p count y in
        let most : 1 * count ≤ y * count = mul-le-mul_right count one in omega (arith, parts, most)

pub pop_less : (d : Direction) (top : PathNode) (frames : List PathNode) (lower : PathNode) (rest : List PathNode) → frames ≡ rest ++ lower ∷ [] → rest_of d (record lower { slot = gap_behind d lower.slot }) rest < rest_of d top frames
pop_less d top frames lower rest e = let after = ap (rest_of_frames d) e ∙ rest_append d rest lower in omega (arith, after)

-- The walk

-- what the pass knows of its topmost node
module _ {d : Direction} {k : Known} {m : ℕ} {g : Range} {top : PathNode} {frames : List PathNode} {t : Tally} (w : IsWalk k m (d, g) top frames t) where
  walk_stack : Sure k (λ s. IsStack s m (w.lowest ∷ w.others))
  walk_stack c lawful recalls = (w.scan c lawful recalls).2.stack

  walk_shape : HasShape k m top.number top.height w.lowest.shape
  walk_shape = subst (λ (z : PathNode). HasShape k m z.number z.height w.lowest.shape) (sym w.top_is) (
    (w.pinned, λ c lawful known. stack_seen (seen c k) m w.lowest w.others (walk_stack c lawful known)),
    λ c lawful known. stack_shape (seen c k) m w.lowest w.others (walk_stack c lawful known),
  )

  pub walk_fits : top.slot ≤ top.count
  walk_fits = subst (λ (z : PathNode). z.slot ≤ z.count) (sym w.top_is) w.fits

  -- there are entries at the places that come next
  pub walk_places : HasPlaces d k m top
  walk_places i low =
      shape_place walk_shape (subst (λ z. place_ahead d top.slot i < z) (ap (λ (z : PathNode). z.count) w.top_is) (place_inside d top.count top.slot i walk_fits low))

-- after more loads
pub walk_later : {d : Direction} {k j : Known} {m : ℕ} {g : Range} {top : PathNode} {frames : List PathNode} {t : Tally} → IsLater k j → IsWalk k m (d, g) top frames t → IsWalk j m (d, g) top frames t
walk_later {d} {k} {j} {m} {g} l w = record {
  lowest = w.lowest;
  others = w.others;
  top_is = w.top_is;
  frames_are = w.frames_are;
  room = w.room;
  fits = w.fits;
  inside = w.inside;
  pinned = since_later l w.pinned;
  scan = λ c lawful recalls.
      let (taken, tallied, s) = w.scan c lawful (recalls_before l recalls) in (taken, tallied, scan_grown (seen c k) m g d (seen c j) (w.lowest ∷ w.others) taken (seen_grown c l) s);
}

-- from the last load of the root on
pub walk_since : {d : Direction} {k : Known} {m : ℕ} {g : Range} {top : PathNode} {frames : List PathNode} {t : Tally} → since k ≡ m → IsWalk k m (d, g) top frames t → IsWalk k (since k) (d, g) top frames t
walk_since {d = d} {k = k} {g = g} {top = top} {frames = frames} {t = t} e = subst (λ z. IsWalk k z (d, g) top frames t) (sym e)

-- where as much was taken, and as much is said of it
pub walk_tallied : {d : Direction} {k : Known} {m : ℕ} {g : Range} {top : PathNode} {frames : List PathNode} {t u : Tally} → ((taken : List Pair) → AreTallied t taken → AreTallied u taken) → IsWalk k m (d, g) top frames t → IsWalk k m (d, g) top frames u
walk_tallied of w = record {
  lowest = w.lowest;
  others = w.others;
  top_is = w.top_is;
  frames_are = w.frames_are;
  room = w.room;
  fits = w.fits;
  inside = w.inside;
  pinned = w.pinned;
  scan = λ c lawful recalls. let (taken, tallied, s) = w.scan c lawful recalls in (taken, of taken tallied, s);
}

pub tallied_kept : (t u : Tally) → IsKept t u → (taken : List Pair) → AreTallied t taken → AreTallied u taken
tallied_kept t u kept taken tallied = (kept.0 ∙ tallied.0, kept.1 taken tallied.1)

pub tallied_more : (t u : Tally) (key : Key) (value : ℕ) → IsOneMore t key value u → (taken : List Pair) → AreTallied t taken → AreTallied u (record { key = key; value = value } ∷ taken)
tallied_more t u key value more taken tallied = (let e = more.0 in let n = tallied.0 in omega (arith, e, n), more.1 taken tallied.1)

-- none more, and then one more
pub kept_more : (t u v : Tally) (key : Key) (value : ℕ) → IsKept t u → IsOneMore u key value v → IsOneMore t key value v
kept_more t u v key value kept more = (let e = more.0 in let n = kept.0 in omega (arith, e, n), λ taken said. more.1 taken (kept.1 taken said))

-- of none there are no pairs
pub tallied_none : (t : Tally) → IsNone t → (taken : List Pair) → AreTallied (tally_of_number 0) taken → AreTallied t taken
tallied_none t none taken tallied = subst (AreTallied t) (sym (no_pairs taken (sym tallied.0))) none
  where
    no_pairs : (xs : List Pair) → length xs ≡ 0 → xs ≡ []
    no_pairs [] e = refl
    no_pairs (x ∷ xs) e = absurd (omega arith)

-- A walk stands at this place in a node of this way.
pub record IsStanding (k : Known) (m : ℕ) (at : PathNode) (frames : List PathNode) : Type 0 where
  pub stage : Stage
  pub others : List Stage
  pub at_is : at ≡ frame stage
  pub frames_are : frames ≡ frames_of others
  pub room : size stage.shape ≤ 32
  pub low : stage.place < size stage.shape
  pub inside : AreInside others
  pub pinned : IsPinnedSince k m

-- It is before the entry there, with such pairs so far.
pub record IsBeforeEntry (d : Direction) (k : Known) (m : ℕ) (g : Range) (at : PathNode) (frames : List PathNode) (t : Tally) : Type 0 where
  pub stands : IsStanding k m at frames
  pub scan : Sure k (λ s. IsTalliedScan d s m g (before d stands.stage ∷ stands.others) t)

pub walk_before : {d : Direction} {k : Known} {m : ℕ} {g : Range} {frames : List PathNode} {t : Tally} (at : PathNode) {top : PathNode} → IsWalk k m (d, g) top frames t → at.slot < at.count → top ≡ record at { slot = gap_before d at.slot } →
    IsBeforeEntry d k m g at frames t
walk_before {d} {k} {m} {g} {t = t} at w inside is = record {
  stands = record {
    stage = record w.lowest { place = at.slot };
    others = w.others;
    at_is = ap (λ (z : PathNode). let x : PathNode = record z { slot = at.slot } in x) (sym is ∙ w.top_is);
    frames_are = w.frames_are;
    room = w.room;
    low = subst (λ z. at.slot < z) (ap (λ (z : PathNode). z.count) (sym is ∙ w.top_is)) inside;
    inside = w.inside;
    pinned = w.pinned;
  };
  scan = λ c lawful known. subst (λ n. IsTalliedScan d (seen c k) m g (record w.lowest { place = n } ∷ w.others) t) place_is (w.scan c lawful known);
}
  where
    place_is : w.lowest.place ≡ gap_before d at.slot
    place_is = ap (λ (z : PathNode). z.slot) (sym w.top_is ∙ is)

-- Before the entry that comes behind so many others.
pub walk_at_place : {d : Direction} {k : Known} {m : ℕ} {g : Range} {top : PathNode} {frames : List PathNode} {t : Tally} (i : ℕ) → top.slot ≤ top.count → i < to_come d top.count top.slot →
    IsWalk k m (d, g) (record top { slot = gap_after d top.slot i }) frames t → IsBeforeEntry d k m g (record top { slot = place_ahead d top.slot i }) frames t
walk_at_place {d} {top = top} i fits come w =
    walk_before (record top { slot = place_ahead d top.slot i }) w (place_inside d top.count top.slot i fits come) (ap (λ z. let x : PathNode = record top { slot = z } in x) (gap_before_place d top.count top.slot i come))

-- what the pass knows of the node
module _ {d : Direction} {k : Known} {m : ℕ} {g : Range} {at : PathNode} {frames : List PathNode} {t : Tally} (w : IsBeforeEntry d k m g at frames t) where
  pub entry_inside : at.slot < at.count
  entry_inside = subst (λ (z : PathNode). z.slot < z.count) (sym w.stands.at_is) w.stands.low

  pub entry_low : at.slot < 32
  entry_low = subst (λ (z : PathNode). z.slot < 32) (sym w.stands.at_is) (let low = w.stands.low in let room = w.stands.room in omega (arith, low, room))

-- Where a walk is, and the entry that the pass knows at its place.
pub record IsAtEntry (d : Direction) (k : Known) (m : ℕ) (g : Range) (at : PathNode) (frames : List PathNode) (t : Tally) (e : Entry) : Type 0 where
  pub walk : IsBeforeEntry d k m g at frames t
  pub placed : Sure k (λ s. IsPlaced s m at.number at.slot e)

-- the scan's invariant after more loads
entry_scan : {d : Direction} {k j : Known} {m : ℕ} {g : Range} {at : PathNode} {frames : List PathNode} {t : Tally} → (w : IsBeforeEntry d k m g at frames t) → IsLater k j →
    Sure j (λ s. IsTalliedScan d s m g (before d w.stands.stage ∷ w.stands.others) t)
entry_scan {d} {k} {j} {m} {g} w l c lawful recalls =
    let (taken, tallied, s) = w.scan c lawful (recalls_before l recalls) in (taken, tallied, scan_grown (seen c k) m g d (seen c j) (before d w.stands.stage ∷ w.stands.others) taken (seen_grown c l) s)

module _ {d : Direction} {k : Known} {m : ℕ} {g : Range} {at : PathNode} {frames : List PathNode} {t : Tally} {e : Entry} (a : IsAtEntry d k m g at frames t e) where
  pub entry_led : IsLedTo k m e
  entry_led = placed_led at.number at.slot e a.walk.stands.pinned a.placed

  module _ {j : Known} (l : IsLater k j) where
    steady : (c : Core) → IsLawful c → Recalls c j → KeepsFixedWordsSince (seen c j) m
    steady c lawful recalls = seen_steady lawful recalls (since_later l a.walk.stands.pinned)

    -- the entry, by the frame
    there : Sure j (λ s. IsPlaced s m a.walk.stands.stage.number a.walk.stands.stage.place e)
    there = sure_later (placed_stable m a.walk.stands.stage.number a.walk.stands.stage.place e) l (subst (λ (z : PathNode). Sure k (λ s. IsPlaced s m z.number z.slot e)) a.walk.stands.at_is a.placed)

-- At a node, which was entered.
module _ {d : Direction} {k j : Known} {m : ℕ} {g : Range} {at : PathNode} {frames : List PathNode} {t : Tally} {number height : ℕ} (a : IsAtEntry d k m g at frames t (Node number height)) (l : IsLater k j) {into : PathNode}
    (e : IsEntered d j m number height into) {more : List PathNode} (q : more ≡ frames ++ at ∷ []) where
  pub walk_push : IsWalk j m (d, g) into more t
  walk_push = record {
    lowest = record { number = number; height = height; shape = e.forks; place = first_gap d (size e.forks) };
    others = a.walk.stands.stage ∷ a.walk.stands.others;
    top_is = e.top_is;
    frames_are = q ∙ (ap (λ z. z ++ at ∷ []) a.walk.stands.frames_are ∙ ap (λ z. frames_of a.walk.stands.others ++ z ∷ []) a.walk.stands.at_is);
    room = e.room;
    fits = first_fits d (size e.forks);
    inside = (a.walk.stands.low, a.walk.stands.room, a.walk.stands.inside);
    pinned = since_later l a.walk.stands.pinned;
    scan = λ c lawful recalls.
        let (taken, tallied, s) = entry_scan a.walk l c lawful recalls in (
          taken,
          tallied,
          scan_pushed (seen c j) m g (steady a l c lawful recalls) d a.walk.stands.stage a.walk.stands.others taken s number height e.forks (there a l c lawful recalls) (e.shaped c lawful recalls),
        );
  }

  pub walk_push_less : height < at.height → rest_of d into more < rest_of d (record at { slot = gap_before d at.slot }) frames
  walk_push_less falls =
      push_less d at frames into more (entry_inside a.walk) (subst (λ z. z < at.height) (sym (ap (λ (z : PathNode). z.height) e.top_is)) falls) (subst (λ z. z ≤ 32) (sym (ap (λ (z : PathNode). z.count) e.top_is)) e.room)
      (ap (λ (z : PathNode). z.slot) e.top_is ∙ ap (first_gap d) (sym (ap (λ (z : PathNode). z.count) e.top_is))) q

-- At a leaf, of which the pass is sure that it had a key and a value.
module _ {d : Direction} {k j : Known} {m : ℕ} {g : Range} {at : PathNode} {frames : List PathNode} {t : Tally} {number : ℕ} (a : IsAtEntry d k m g at frames t (Leaf number)) (l : IsLater k j) (u : Tally) where
  -- They belonged to the range, and there was room: one pair more.
  pub walk_on : Sure j (λ s. (key : Key) × (value : ℕ) × IsRead s m number key value × IsInRange g key × IsOneMore t key value u) → t.size ≢ g.limit → IsWalk j m (d, g) (record at { slot = gap_behind d at.slot }) frames u
  walk_on had room = record {
    lowest = behind d a.walk.stands.stage;
    others = a.walk.stands.others;
    top_is = ap (λ (z : PathNode). let x : PathNode = record z { slot = gap_behind d z.slot } in x) a.walk.stands.at_is;
    frames_are = a.walk.stands.frames_are;
    room = a.walk.stands.room;
    fits = behind_fits d a.walk.stands.stage.place (size a.walk.stands.stage.shape) a.walk.stands.low;
    inside = a.walk.stands.inside;
    pinned = since_later l a.walk.stands.pinned;
    scan = λ c lawful recalls.
        let (taken, tallied, s) = entry_scan a.walk l c lawful recalls in
        let (key, value, read, within, more) = had c lawful recalls in
        let short = s.short in let n = tallied.0 in (
          record { key = key; value = value } ∷ taken,
          tallied_more t u key value more taken tallied,
          scan_taken (seen c j) m g (steady a l c lawful recalls) a.walk.stands.stage a.walk.stands.others taken number key value (there a l c lawful recalls) read d s within (omega (arith, short, n, room)),
        );
  }

  module _ (e : since j ≡ m) (kept : IsKept t u) where
    ends : (b : Bool) → Sure j (λ s. (taken : List Pair) × AreTallied t taken × IsAnswer d s m g taken b) → HasTaken d j g u b
    ends b answer c lawful recalls =
        let (taken, tallied, is) = answer c lawful recalls in (taken, tallied_kept t u kept taken tallied, subst (λ z. IsAnswer d (seen c j) z g taken b) (sym e) is)

    -- The key was past the range.
    pub walk_done : Sure j (λ s. (key : Key) × (value : ℕ) × IsRead s m number key value × IsEarlier d (last_key d g) key) → HasTaken d j g u false
    walk_done had = ends false (λ c lawful recalls.
        let (taken, tallied, s) = entry_scan a.walk l c lawful recalls in
        let (key, value, read, late) = had c lawful recalls in (
          taken,
          tallied,
          scan_passed (seen c j) m g (steady a l c lawful recalls) a.walk.stands.stage a.walk.stands.others taken number key value (there a l c lawful recalls) read d s late,
        ))

    -- It belonged to the range, and there was no room.
    pub walk_cut : Sure j (λ s. (key : Key) × (value : ℕ) × IsRead s m number key value × IsInRange g key) → t.size ≡ g.limit → HasTaken d j g u true
    walk_cut had full = ends true (λ c lawful recalls.
        let (taken, tallied, s) = entry_scan a.walk l c lawful recalls in
        let (key, value, read, within) = had c lawful recalls in (
          taken,
          tallied,
          scan_filled (seen c j) m g (steady a l c lawful recalls) a.walk.stands.stage a.walk.stands.others taken number key value (there a l c lawful recalls) read d s within (sym tallied.0 ∙ full),
        ))

-- At a leaf, which was read.
module _ {d : Direction} {k j : Known} {m : ℕ} {g : Range} {at : PathNode} {frames : List PathNode} {t u : Tally} {number : ℕ} (a : IsAtEntry d k m g at frames t (Leaf number)) (l : IsLater k j) {verdict : Verdict}
    (p : IsLeafJudged k j (d, g) number t u verdict) where
  read : Sure j (λ s. IsRead s m number p.key p.value)
  read = p.read m (entry_led a)

  taken_as : {v : Verdict} → verdict ≡ v → IsPairJudged (d, g) t p.key p.value u v
  taken_as e = subst (λ z. IsPairJudged (d, g) t p.key p.value u z) e p.taken

  pub walk_further : verdict ≡ Further → IsWalk j m (d, g) (record at { slot = gap_behind d at.slot }) frames u
  walk_further is = let (within, room, more) = taken_as is in walk_on a l u (λ c lawful recalls. (p.key, p.value, read c lawful recalls, within, more)) room

  pub taken_more : verdict ≡ Further → u.size ≡ t.size + 1
  taken_more is = (taken_as is).2.0

  pub walk_past : since j ≡ m → verdict ≡ IsPast → HasTaken d j g u false
  walk_past e is = let (late, kept) = taken_as is in walk_done a l u e kept (λ c lawful recalls. (p.key, p.value, read c lawful recalls, late))

  pub walk_full : since j ≡ m → verdict ≡ Full → HasTaken d j g u true
  walk_full e is = let (within, full, kept) = taken_as is in walk_cut a l u e kept (λ c lawful recalls. (p.key, p.value, read c lawful recalls, within)) full

-- The topmost node is done.
module _ {d : Direction} {k : Known} {m : ℕ} {g : Range} {top : PathNode} {frames : List PathNode} {t : Tally} (w : IsWalk k m (d, g) top frames t) where
  -- the frame below
  pub record IsBelow (below : PathNode) (rest : List PathNode) : Type 0 where
    pub stage : Stage
    pub stages : List Stage
    pub others : w.others ≡ stage ∷ stages
    pub below_is : below ≡ frame stage
    pub rest_are : rest ≡ frames_of stages

  below : (lower : PathNode) (rest : List PathNode) → frames ≡ rest ++ lower ∷ [] → IsBelow lower rest
  below lower rest e = go w.others refl
    where
      go : (fs : List Stage) → w.others ≡ fs → IsBelow lower rest
      go [] q = absurd (not_empty rest lower (sym e ∙ (w.frames_are ∙ ap frames_of q)))
      go (f ∷ fs) q =
          let x = last_is rest (frames_of fs) lower (frame f) (sym e ∙ (w.frames_are ∙ ap frames_of q)) in
          record { stage = f; stages = fs; others = q; below_is = x.1; rest_are = x.0 }

  pub walk_inside : (lower : PathNode) (rest : List PathNode) → frames ≡ rest ++ lower ∷ [] → (lower.slot < lower.count) × (lower.slot < 32)
  walk_inside lower rest e =
      let b = below lower rest e in
      let i : AreInside (b.stage ∷ b.stages) = subst AreInside b.others w.inside in
      subst (λ (z : PathNode). (z.slot < z.count) × (z.slot < 32)) (sym b.below_is) (i.0, let x = i.0 in let y = i.1 in omega (arith, x, y))

  module _ (done : to_come d top.count top.slot ≡ 0) where
    place_done : to_come d (size w.lowest.shape) w.lowest.place ≡ 0
    place_done = subst (λ (z : PathNode). to_come d z.count z.slot ≡ 0) w.top_is done

    pub walk_pop : (lower : PathNode) (rest : List PathNode) → frames ≡ rest ++ lower ∷ [] → IsWalk k m (d, g) (record lower { slot = gap_behind d lower.slot }) rest t
    walk_pop lower rest e =
        let b = below lower rest e in
        let i : AreInside (b.stage ∷ b.stages) = subst AreInside b.others w.inside in
        record {
          lowest = behind d b.stage;
          others = b.stages;
          top_is = ap (λ (z : PathNode). let x : PathNode = record z { slot = gap_behind d z.slot } in x) b.below_is;
          frames_are = b.rest_are;
          room = i.1;
          fits = behind_fits d b.stage.place (size b.stage.shape) i.0;
          inside = i.2;
          pinned = w.pinned;
          scan = λ c lawful recalls.
              let (taken, tallied, s) = w.scan c lawful recalls in (
                taken,
                tallied,
                scan_popped (seen c k) m g (seen_steady lawful recalls w.pinned) d w.lowest b.stage b.stages taken (subst (λ z. IsScanBy d (seen c k) m g (w.lowest ∷ z) taken) b.others s) place_done,
              );
        }

    pub walk_end : frames ≡ [] → since k ≡ m → HasTaken d k g t false
    walk_end none e c lawful recalls =
        let (taken, tallied, s) = w.scan c lawful recalls in
        let ended = scan_ended (seen c k) m g (seen_steady lawful recalls w.pinned) d w.lowest taken (subst (λ z. IsScanBy d (seen c k) m g (w.lowest ∷ z) taken) (no_stages w.others (sym w.frames_are ∙ none)) s) place_done in
        (taken, tallied, subst (λ z. IsAnswer d (seen c k) z g taken false) (sym e) ended)
      where
        no_stages : (fs : List Stage) → frames_of fs ≡ [] → fs ≡ []
        no_stages [] q = refl
        no_stages (f ∷ fs) q = absurd (not_empty (frames_of fs) (frame f) q)

-- What a walk comes to

module _ {layout : Layout} {d : Direction} {k : Known} {m : ℕ} {g : Range} {top : PathNode} {frames : List PathNode} {t : Tally} (w : IsWalk k m (d, g) top frames t) (possible : IsPossible layout k) where
  known : Recalls possible.core k
  known = recalls possible.core k possible.knows

  fixed_now : KeepsFixedWordsSince (seen possible.core k) m
  fixed_now = seen_steady possible.lawful known w.pinned

  stack_now : IsStack (seen possible.core k) m (w.lowest ∷ w.others)
  stack_now = walk_stack w possible.core possible.lawful known

  -- each node has two entries or more
  pub walk_several : 2 ≤ top.count
  walk_several = subst (λ (z : PathNode). 2 ≤ z.count) (sym w.top_is)
      (shaped_several (seen possible.core k) m fixed_now w.lowest.number w.lowest.shape (stack_shape (seen possible.core k) m w.lowest w.others stack_now))

  -- the way has room for one node more: it is no longer than a tree can be high, and a node is higher than nothing
  pub way_short : length frames < 9 * MAX_BYTES
  way_short =
      let deep = stack_depth (seen possible.core k) m fixed_now w.lowest w.others stack_now in
      let low = stack_low (seen possible.core k) m fixed_now w.lowest w.others stack_now in
      let high = stack_high (seen possible.core k) m fixed_now w.lowest w.others stack_now in
      let many : length frames ≡ length w.others = ap length w.frames_are ∙ length_frames w.others in
      omega (arith, deep, low, high, many)

  -- it has no more pairs than the limit
  pub walk_short : t.size ≤ g.limit
  walk_short =
      let (taken, tallied, s) = w.scan possible.core possible.lawful known in let short = s.short in let n = tallied.0 in omega (arith, short, n)

-- The loads of a walk

spare_append : (d : Direction) (xs : List PathNode) (x : PathNode) → entries_until_two d (xs ++ x ∷ []) ≡ (2 - (x.count - to_come d x.count (gap_before d x.slot))) + entries_until_two d xs
spare_append d [] x = refl
spare_append d (y ∷ xs) x = let e = spare_append d xs x in omega (arith, e)

spare_most : (d : Direction) (xs : List PathNode) → entries_until_two d xs ≤ 2 * length xs
spare_most d [] = omega arith
spare_most d (x ∷ xs) = let e = spare_most d xs in omega (arith, e)

pub paid_first : (d : Direction) (pairs : ℕ) (top : PathNode) (frames : List PathNode) → length frames < 9 * MAX_BYTES → IsPaid d 0 0 pairs top frames
paid_first d pairs top frames short = (omega arith, omega (arith, short))

-- at a node that stands at a place of the topmost one
pub paid_push : (d : Direction) (loads entries head pairs : ℕ) (at : PathNode) (frames : List PathNode) (into : PathNode) (more : List PathNode) → IsPaid d loads entries pairs (record at { slot = gap_before d at.slot }) frames → head ≤ 26 →
    into.slot ≡ first_gap d into.count → more ≡ frames ++ at ∷ [] → IsPaid d (loads + head) (entries + 1) pairs into more
paid_push d loads entries head pairs at frames into more (low, paid) few first e =
    let n = ap length e ∙ length-append frames (at ∷ []) in let spare = ap (entries_until_two d) e ∙ spare_append d frames at in
    let whole : to_come d into.count into.slot ≡ into.count = ap (to_come d into.count) first ∙ come_first d into.count in
    (omega (arith, low, few), omega (arith, paid, n, spare, whole))

pub paid_pop : (d : Direction) (loads entries pairs : ℕ) (top : PathNode) (frames : List PathNode) (lower : PathNode) (rest : List PathNode) → IsPaid d loads entries pairs top frames → to_come d top.count top.slot ≡ 0 → 2 ≤ top.count →
    frames ≡ rest ++ lower ∷ [] → lower.slot < lower.count → IsPaid d loads entries pairs (record lower { slot = gap_behind d lower.slot }) rest
paid_pop d loads entries pairs top frames lower rest (low, paid) done several e inside =
    let n = ap length e ∙ length-append rest (lower ∷ []) in let spare = ap (entries_until_two d) e ∙ spare_append d rest lower in
    let one = come_behind d lower.slot lower.count inside in let most = come_most d lower.count (gap_before d lower.slot) (before_fits d lower.slot lower.count inside) in
    (low, omega (arith, paid, done, several, n, spare, one, most))

-- behind so many leaves, of which each takes a load of its entry, a touch and the loads of its words
pub paid_leaves : (d : Direction) (loads entries leaves pairs more count : ℕ) (top : PathNode) (frames : List PathNode) → IsPaid d loads entries pairs top frames → leaves ≤ 34 * count → more ≡ pairs + count → top.slot ≤ top.count →
    count ≤ to_come d top.count top.slot → IsPaid d (loads + leaves) (entries + count) more (record top { slot = gap_after d top.slot count }) frames
paid_leaves d loads entries leaves pairs more count top frames (low, paid) few is fits come =
    let after = come_after d top.count top.slot count in let most = come_most d top.count top.slot fits in (omega (arith, low, few, is), omega (arith, paid, is, after, most, come))

-- where no node was looked at behind them,
pub paid_ahead : (d : Direction) (loads entries pairs more looks leaves : ℕ) (top : PathNode) (frames : List PathNode) (ahead : Ahead) → IsPaid d loads entries pairs top frames → ahead.node ≡ None → looks ≤ entries_ahead ahead + ahead.count →
    leaves ≤ LEAF_FIELDS * ahead.count → more ≡ pairs + ahead.count → top.slot ≤ top.count → ahead.count ≤ to_come d top.count top.slot →
    IsPaid d (loads + (looks + leaves)) (entries + (entries_ahead ahead + 0)) more (record top { slot = gap_after d top.slot ahead.count }) frames
paid_ahead d loads entries pairs more looks leaves top frames ahead paid none few less is fits come =
    let alone : length (option_to_list ahead.node) ≡ 0 = ap (λ z. length (option_to_list z)) none in
    let (low, spare) = paid_leaves d loads entries (looks + leaves) pairs more ahead.count top frames paid (omega (arith, few, less, alone)) is fits come in (omega (arith, low, alone), omega (arith, spare, alone))

-- and where the walk goes on to one
pub paid_child : (d : Direction) (loads entries pairs more looks leaves head number : ℕ) (top : PathNode) (frames : List PathNode) (ahead : Ahead) (into : PathNode) (way : List PathNode) → IsPaid d loads entries pairs top frames →
    ahead.node ≡ Some number → looks ≤ entries_ahead ahead + ahead.count → leaves ≤ LEAF_FIELDS * ahead.count → head ≤ HEAD_WORDS → more ≡ pairs + ahead.count → top.slot ≤ top.count → ahead.count < to_come d top.count top.slot →
    into.slot ≡ first_gap d into.count → way ≡ frames ++ record top { slot = place_ahead d top.slot ahead.count } ∷ [] → IsPaid d (loads + (looks + (leaves + head))) (entries + (entries_ahead ahead + 0)) more into way
paid_child d loads entries pairs more looks leaves head number top frames ahead into way paid some few less small is fits come first e =
    let one : length (option_to_list ahead.node) ≡ 1 = ap (λ z. length (option_to_list z)) some in
    let behind = paid_leaves d loads entries (34 * ahead.count) pairs more ahead.count top frames paid (omega arith) is fits (omega (arith, come)) in
    let at_node = subst (λ z. IsPaid d (loads + 34 * ahead.count) (entries + ahead.count) more (let x : PathNode = record top { slot = z } in x) frames) (gap_before_place d top.count top.slot ahead.count come) behind in
    let (low, spare) = paid_push d (loads + 34 * ahead.count) (entries + ahead.count) 26 more (record top { slot = place_ahead d top.slot ahead.count }) frames into way at_node (omega arith) first e in
    (omega (arith, low, few, less, small, one), omega (arith, spare, one))

-- So many entries were loaded, and no more of leaves than the limit asks for and one; and some of these were touched and read. The walk
-- ends there.
paid_most : (d : Direction) (loads entries seen more pairs limit : ℕ) (top : PathNode) (frames : List PathNode) → IsPaid d loads entries pairs top frames → more ≤ 34 * seen → length frames < 9 * MAX_BYTES → pairs ≤ limit → pairs + seen ≤ limit + 1 →
    AreWalkLoads 0 limit (entries + seen) (loads + more)
paid_most d loads entries seen more pairs limit top frames (low, paid) few short within asked =
    let most = spare_most d frames in record { most = omega (arith, paid, short, within, asked, most); few = omega (arith, low, few, asked) }

pub paid_last : {G : Type 0} {table : TableView} {becomes : G → Event → G → Type 0} {a b y z : SeatView × G} {d : Direction} {m : ℕ} {g : Range} {top : PathNode} {frames : List PathNode} {t : Tally} (limit : ℕ) →
    (loads entries : ℕ) × IsPaid d loads entries t.size top frames × Reads table becomes entries loads a b → IsWalk b.0.known m (d, g) top frames t → IsPossible table.layout b.0.known → (ahead : Ahead) → t.size ≤ limit →
    t.size + entries_ahead ahead ≤ limit + 1 → (n : ℕ) × (n ≤ entries_ahead ahead + ahead.count) × Reads table becomes (entries_ahead ahead) n b y → (n : ℕ) × (n ≤ LEAF_FIELDS * ahead.count) × Reads table becomes 0 n y z →
    Walks table becomes 0 limit a z
paid_last {d = d} {top = top} {frames = frames} {t = t} limit (loads, entries, paid, before) w possible ahead within asked (seen, few, looks) (leaves, less, reads) = (
  loads + (seen + leaves),
  entries + (entries_ahead ahead + 0),
  paid_most d loads entries (entries_ahead ahead + 0) (seen + leaves) t.size limit top frames paid (omega (arith, few, less)) (way_short w possible) within (omega (arith, asked)),
  reads_trans before (reads_trans looks reads),
)

-- one more than the leaves at most
pub ahead_most : (a : Ahead) → entries_ahead a ≤ a.count + 1
ahead_most a = let most = one_most a.node in omega (arith, most)
  where
    one_most : {A : Type 0} (o : Option A) → length (option_to_list o) ≤ 1
    one_most None = omega arith
    one_most (Some x) = omega arith

-- at the end of the way
pub paid_end : (d : Direction) (loads entries pairs limit : ℕ) (top : PathNode) (frames : List PathNode) → IsPaid d loads entries pairs top frames → frames ≡ [] → pairs ≤ limit → AreWalkLoads 0 limit entries loads
paid_end d loads entries pairs limit top frames (low, paid) none within =
    let n = ap length none in let spare = ap (entries_until_two d) none in record { most = omega (arith, paid, n, spare, within); few = omega (arith, low, within) }

-- Loads of a head and a leaf, one after the other; such loads alone, and before a walk.
module _ {G : Type 0} {table : TableView} {becomes : G → Event → G → Type 0} {a b : SeatView × G} where
  pub reads_both : {x y most : ℕ} {d : SeatView × G} → (n : ℕ) × (n ≤ x) × Reads table becomes 0 n a b → (n : ℕ) × (n ≤ y) × Reads table becomes 0 n b d → x + y ≤ most →
      (n : ℕ) × (n ≤ most) × Reads table becomes 0 n a d
  reads_both (n, few, first) (p, less, rest) within = (n + p, omega (arith, few, less, within), reads_trans first rest)

  pub walks_alone : {x : ℕ} (limit : ℕ) → (n : ℕ) × (n ≤ x) × Reads table becomes 0 n a b → Walks table becomes x limit a b
  walks_alone limit (n, few, reads) = (n, 0, record { most = omega arith; few = omega (arith, few) }, reads)

  pub walks_behind : {x limit : ℕ} {d : SeatView × G} → (n : ℕ) × (n ≤ x) × Reads table becomes 0 n a b → Walks table becomes 0 limit b d → Walks table becomes x limit a d
  walks_behind (n, few, first) (loads, entries, are, rest) =
      let low = are.few in let most = are.most in (n + loads, 0 + entries, record { most = omega (arith, most); few = omega (arith, few, low) }, reads_trans first rest)

-- a search, and then a walk: the loads of a scan
pub searched_scans : {G : Type 0} {table : TableView} {becomes : G → Event → G → Type 0} {a b d : SeatView × G} {x : ℕ} (limit : ℕ) → HasSearched table becomes a b → x ≤ 57 → Walks table becomes x limit b d →
    Scans table becomes limit a d
searched_scans limit s within (loads, entries, are, rest) =
    let most = are.most in let few = are.few in let low = s.low in let less = s.few in
    (s.loaded + loads, s.nodes + entries, record { most = omega (arith, most, low); few = omega (arith, few, less, within) }, looks_on s.looks rest)

-- and its steps
pub scans_few : {G : Type 0} {table : TableView} {becomes : G → Event → G → Type 0} {a d : SeatView × G} (limit : ℕ) → Scans table becomes limit a d → d.0.known.steps ≤ a.0.known.steps + (1 + scan_loads limit)
scans_few {table = table} {becomes = becomes} {a = a} {d = d} limit (loads, entries, are, looks) =
    let count = looks_count table becomes entries loads a d looks in let most = are.most in let few = are.few in omega (arith, count, few, most)

-- by the lesser of the limit and of the pairs that were taken
pub scans_least : {G : Type 0} {table : TableView} {becomes : G → Event → G → Type 0} {a d : SeatView × G} (limit taken : ℕ) → Scans table becomes limit a d → Scans table becomes (taken + MOST_AHEAD) a d →
    Scans table becomes (limit_by limit taken) a d
scans_least {table = table} {becomes = becomes} {a = a} {d = d} limit taken by_limit by_taken = ⊎_elim
    (λ (low : limit < taken + MOST_AHEAD). subst (λ n. Scans table becomes n a d) (sym (min-eq_left (omega (arith, low)))) by_limit)
    (λ (high : taken + MOST_AHEAD ≤ limit). subst (λ n. Scans table becomes n a d) (sym (min-eq_right high)) by_taken)
    (cases_lt limit (taken + MOST_AHEAD))

-- What comes later than the first key

module _ (d : Direction) (m : ℕ) (key : Key) where
  beyond_stable : (r gap : ℕ) → IsStable (λ s. IsPastKey d s m key r gap)
  beyond_stable r gap a b grown h = beyond_grown d a b grown m r gap key h

  pub beyond_append : {k : Known} (xs : List PathNode) (x : PathNode) → ArePastKey d k m key xs → Sure k (λ s. IsPastKey d s m key x.number (gap_behind d x.slot)) → ArePastKey d k m key (xs ++ x ∷ [])
  beyond_append [] x beyond last = (last, tt)
  beyond_append (y ∷ xs) x (first, beyond) last = (first, beyond_append xs x beyond last)

  pub beyond_parts : {k : Known} (xs : List PathNode) (x : PathNode) → ArePastKey d k m key (xs ++ x ∷ []) → ArePastKey d k m key xs × Sure k (λ s. IsPastKey d s m key x.number (gap_behind d x.slot))
  beyond_parts [] x (last, beyond) = (tt, last)
  beyond_parts (y ∷ xs) x (first, beyond) = let o = beyond_parts xs x beyond in ((first, o.0), o.1)

  are_beyond_later : {k j : Known} → IsLater k j → (xs : List PathNode) → ArePastKey d k m key xs → ArePastKey d j m key xs
  are_beyond_later l [] beyond = tt
  are_beyond_later l (x ∷ xs) (first, beyond) =
      (sure_later {P = λ s. IsPastKey d s m key x.number (gap_behind d x.slot)} (beyond_stable x.number (gap_behind d x.slot)) l first, are_beyond_later l xs beyond)

  pub bound_later : {k j : Known} {top : PathNode} {frames : List PathNode} → IsLater k j → IsBound d k m key top frames → IsBound d j m key top frames
  bound_later {top = top} {frames = frames} l f = record {
    there = sure_later {P = λ s. IsPastKey d s m key top.number top.slot} (beyond_stable top.number top.slot) l f.there;
    above = are_beyond_later l frames f.above;
  }

  pub bound_since : {k : Known} {top : PathNode} {frames : List PathNode} → since k ≡ m → IsBound d k m key top frames → IsBound d k (since k) key top frames
  bound_since {k} {top} {frames} e = subst (λ z. IsBound d k z key top frames) (sym e)

  -- before the entry at a place
  module _ {k : Known} (at : PathNode) {frames : List PathNode} (f : IsBound d k m key (record at { slot = gap_before d at.slot }) frames) where
    bound_behind : Sure k (λ s. IsPastKey d s m key at.number (gap_behind d at.slot))
    bound_behind c lawful known = beyond_behind d (seen c k) m at.number at.slot key (f.there c lawful known)

    pub bound_next : IsBound d k m key (record at { slot = gap_behind d at.slot }) frames
    bound_next = record { there = bound_behind; above = f.above }

    pub bound_push : (number height : ℕ) → Sure k (λ s. IsPlaced s m at.number at.slot (Node number height)) → (into : PathNode) → into.number ≡ number → into.slot ≡ first_gap d into.count → (more : List PathNode) →
        more ≡ frames ++ at ∷ [] → IsBound d k m key into more
    bound_push number height placed into same first more e = record {
      there = λ c lawful known. subst (λ n. IsPastKey d (seen c k) m key n into.slot) (sym same) (subst (λ n. IsPastKey d (seen c k) m key number n) (sym first)
          (beyond_in_child d (seen c k) m at.number at.slot number height into.count key (placed c lawful known) (f.there c lawful known)));
      above = subst (ArePastKey d k m key) (sym e) (beyond_append frames at f.above bound_behind);
    }

    -- a leaf that stands there
    pub bound_leaf : {layout : Layout} (number : ℕ) → IsPinnedSince k m → Sure k (λ s. IsPlaced s m at.number at.slot (Leaf number)) → IsReached d layout k m key number
    bound_leaf number pinned placed j l possible z value read =
        let c = possible.core in let r = recalls c j possible.knows in
        let steady = seen_steady possible.lawful r (since_later l pinned) in
        let placed_then = sure_later (placed_stable m at.number at.slot (Leaf number)) l placed in
        no_later d z (beyond_at_place d (seen c k) m at.number at.slot key z (f.there c possible.lawful (recalls_before l r)) (seen c j) (seen_grown c l) steady
        (leaf_may_stand (seen c j) m steady at.number at.slot number z value (placed_then c possible.lawful r) (read c possible.lawful r)))
      where
        no_later : (d : Direction) (z : Key) → IsEarlier d key z → IsNoLater d key z
        no_later Upwards z low = inr low
        no_later Downwards z high = inr high

  pub bound_pop : {k : Known} {top : PathNode} {frames : List PathNode} → IsBound d k m key top frames → (lower : PathNode) (rest : List PathNode) → frames ≡ rest ++ lower ∷ [] → IsBound d k m key (record lower { slot = gap_behind d lower.slot }) rest
  bound_pop {k} f lower rest e = let o = beyond_parts rest lower (subst (ArePastKey d k m key) e f.above) in record { there = o.1; above = o.0 }

-- What a step of a walk leaves

pub entered_first : {d : Direction} {k : Known} {m n h : ℕ} {top : PathNode} → IsEntered d k m n h top → top.slot ≡ first_gap d top.count
entered_first {d} e = subst (λ (z : PathNode). z.slot ≡ first_gap d z.count) (sym e.top_is) refl

pub entered_number : {d : Direction} {k : Known} {m n h : ℕ} {top : PathNode} → IsEntered d k m n h top → top.number ≡ n
entered_number e = ap (λ (z : PathNode). z.number) e.top_is

pub none_popped : {frames : List PathNode} {popped : Option PathNode} → IsSome popped ↔ (0 < length frames) → popped ≡ None → frames ≡ []
none_popped {frames} some is = empty_is frames (⊎_elim (λ lt. absurd (let z : IsSome {T = PathNode} None = subst IsSome is (some.1 lt) in cc)) (λ le. omega (arith, le)) (cases_lt 0 (length frames)))

-- Scans without a walk

module _ {d : Direction} {k : Known} (g : Range) (t : Tally) (none : IsNone t) where
  -- the root is None
  pub blank_scanned : Sure k (λ s. IsBlank s (since k)) → HasTaken d k g t false
  blank_scanned blank c lawful known = ([], none, answer_blank (seen c k) (since k) g d (blank c lawful known))

  -- nothing is between the keys
  pub nothing_scanned : IsBefore g.upto g.from → HasTaken d k g t false
  nothing_scanned low c lawful known = ([], none, none_between (seen c k) (since k) g d low)

-- The root, when it was loaded last, was a leaf, which has been read since.
pub record IsRootRead (k j : Known) (number : ℕ) (key : Key) (value : ℕ) : Type 0 where
  pub later : IsLater k j
  pub root : IsAtRoot k (Leaf number)
  pub same : since j ≡ since k
  pub read : Sure j (λ s. IsRead s (since k) number key value)

module _ (d : Direction) {k j : Known} (g : Range) {number : ℕ} {key : Key} {value : ℕ} (of : IsRootRead k j number key value) where
  rooted : Sure j (λ s. IsRooted s (since k) (Leaf number))
  rooted c lawful recalls = rooted_grown (seen c k) (seen c j) (seen_grown c of.later) (since k) (Leaf number) (of.root.1 c lawful (recalls_before of.later recalls))

  fixed : (c : Core) → IsLawful c → Recalls c j → KeepsFixedWordsSince (seen c j) (since k)
  fixed c lawful recalls = seen_steady lawful recalls (since_later of.later of.root.0)

  answered : (t : Tally) (taken : List Pair) → AreTallied t taken → (more : Bool) → Sure j (λ s. IsAnswer d s (since k) g taken more) → HasTaken d j g t more
  answered t taken tallied more answer c lawful recalls = (taken, tallied, subst (λ z. IsAnswer d (seen c j) z g taken more) (sym of.same) (answer c lawful recalls))

  pub leaf_outside : (t : Tally) → IsNone t → IsBefore key g.from ⊎ IsBefore g.upto key → HasTaken d j g t false
  leaf_outside t none out =
      answered t [] none false (λ c lawful recalls. answer_outside (seen c j) (since k) g (fixed c lawful recalls) d number key value (rooted c lawful recalls) (of.read c lawful recalls) out)

  pub leaf_early : (t : Tally) → IsNone t → IsEarlier d key (first_key d g) → HasTaken d j g t false
  leaf_early t none early = leaf_outside t none (out_first d g key early)

  module _ (t u : Tally) (none : IsNone t) (verdict : Verdict) (p : IsPairJudged (d, g) t key value u verdict) where
    became : {v : Verdict} → verdict ≡ v → IsPairJudged (d, g) t key value u v
    became is = subst (λ z. IsPairJudged (d, g) t key value u z) is p

    still : IsKept t u → IsNone u
    still kept = (kept.0 ∙ none.0, kept.1 [] none.1)

    pub leaf_unfilled : (verdict ≡ Further) ⊎ (verdict ≡ IsPast) → HasTaken d j g u false
    leaf_unfilled (inl is) =
        let (within, room, more) = became is in
        answered u (record { key = key; value = value } ∷ []) (tallied_more t u key value more [] none) false
        (λ c lawful recalls. answer_one (seen c j) (since k) g (fixed c lawful recalls) d number key value (rooted c lawful recalls) (of.read c lawful recalls) within (let few = none.0 in omega (arith, room, few)))
    leaf_unfilled (inr is) = let (late, kept) = became is in leaf_outside u (still kept) (out_last d g key late)

    pub leaf_full : verdict ≡ Full → HasTaken d j g u true
    leaf_full is =
        let (within, full, kept) = became is in
        answered u [] (still kept) true (λ c lawful recalls. answer_nought (seen c j) (since k) g d number key value (of.read c lawful recalls) within (sym full ∙ none.0))

-- A head's forks

module _ (head : HeadView) (lawful : IsLawfulNode (node_of head (leaves (length head.rows)))) where
  length_leaves : length (leaves (length head.rows)) ≡ length head.rows
  length_leaves = length-replicate (length head.rows) (Leaf 0)

  pub head_size : size (shape_of head) ≡ length head.rows
  head_size = sym (length-places (shape_of head)) ∙ (sym (ap length lawful.shows.entries_are) ∙ length_leaves)

  pub head_room : (1 ≤ length head.rows) × (length head.rows ≤ 32)
  head_room = let a = lawful.several in let b = lawful.room in let e = length_leaves in (omega arith, omega arith)

  pub entered : {d : Direction} {k : Known} (m number h : ℕ) (top : PathNode) → head.height ≡ h → top ≡ step_at head number (first_gap d (length head.rows)) → Sure k (λ s. HadShapeSince s m number (shape_of head)) → IsEntered d k m number h top
  entered {d} {k} m number h top high is shaped = record {
    forks = shape_of head;
    top_is = is ∙ (ap (λ z. let x : PathNode = record (step_at head number (first_gap d (length head.rows))) { height = z } in x) high ∙
        ap (λ n. let x : PathNode = record (step_at head number (first_gap d n)) { height = h } in x) (sym head_size));
    room = subst (λ z. z ≤ 32) (sym head_size) head_room.1;
    shaped = shaped;
  }
