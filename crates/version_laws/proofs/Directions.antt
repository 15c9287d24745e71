-- The steps of a scan keep what it knows, in either direction.
pub mod Starts
use Rattle.version_laws.proofs.Common.{◌≡◌, ◌⊎◌, inl, inr, ℕ, ◌<◌, List, [], ◌∷◌, length, sym, subst, arith, le_refl, ⊎_elim, cases_lt, Key, Leaf, Node, Subtrie, size, Past, IsKeptSince, KeepsFixedWordsSince, a_node, spot, Direction, Upwards, Downwards, spot_below}
use Rattle.version_laws.specs.Scan.{IsPlaced, HadShapeSince, IsRead, MayStandAt, HadKeyBelow, Frame, IsStack, Pair, Every, IsKeyListed, Range, IsInRange}
use Rattle.version_laws.specs.Directions.{gap_before, gap_behind, first_gap, to_come, first_key, last_key, IsEarlier, IsNoLater, IsToCome, WasPassed, MayStandBeforeFrames, HasPassed, ComesOnWay, Comes, IsScanBy, IsComplete, IsCut, IsReachedBy}
use Rattle.version_laws.proofs.Scan.{may_stand_in_order, may_stand_at_child_place, leaf_may_stand, had_key_may_stand, child_had_key, leaf_had_key, read_held, before_trans, never_before}

pub every_map : (P Q : Pair → Type 0) (xs : List Pair) → ((x : Pair) → P x → Q x) → Every P xs → Every Q xs
every_map P Q [] f h = tt
every_map P Q (x ∷ xs) f h = (f x h.0, every_map P Q xs f h.1)

-- The topmost frame's forks are known.
pub stack_shape : (s : Past) (m : ℕ) (f : Frame) (fs : List Frame) → IsStack s m (f ∷ fs) → HadShapeSince s m f.number f.shape
stack_shape s m f [] h = h.1
stack_shape s m f (g ∷ gs) h = h.1

-- What is said of the stack doesn't turn on the topmost frame's place.
pub stack_place : (s : Past) (m : ℕ) (f : Frame) (i : ℕ) (fs : List Frame) → IsStack s m (f ∷ fs) → IsStack s m (record f { place = i } ∷ fs)
stack_place s m f i [] h = h
stack_place s m f i (g ∷ gs) h = h

-- The node at the gap before the entry at its place, and at that behind it.
abbrev pub before : Direction → Frame → Frame
before d f = record f { place = gap_before d f.place }

abbrev pub behind : Direction → Frame → Frame
behind d f = record f { place = gap_behind d f.place }

-- ---- places and gaps
pub come_before : (d : Direction) (place : ℕ) → IsToCome d (gap_before d place) place
come_before Upwards place = le_refl place
come_before Downwards place = omega arith

pub passed_behind : (d : Direction) (place : ℕ) → WasPassed d (gap_behind d place) place
passed_behind Upwards place = omega arith
passed_behind Downwards place = le_refl place

-- behind an entry what was passed is passed,
passed_further : (d : Direction) (place j : ℕ) → WasPassed d (gap_before d place) j → WasPassed d (gap_behind d place) j
passed_further Upwards place j h = omega (arith, h)
passed_further Downwards place j h = omega (arith, h)

-- and the entry alone comes no more
pub come_further : (d : Direction) (place j : ℕ) → IsToCome d (gap_before d place) j → (j ≡ place) ⊎ IsToCome d (gap_behind d place) j
come_further Upwards place j h = ⊎_elim (λ lt. inr lt) (λ le. inl (omega (arith, h, le))) (cases_lt place j)
come_further Downwards place j h = ⊎_elim (λ lt. inr lt) (λ le. inl (omega (arith, h, le))) (cases_lt j place)

pub come_earlier : (d : Direction) (place j : ℕ) → IsToCome d (gap_behind d place) j → IsToCome d (gap_before d place) j
come_earlier Upwards place j h = omega (arith, h)
come_earlier Downwards place j h = omega (arith, h)

all_come : (d : Direction) (count j : ℕ) → j < count → IsToCome d (first_gap d count) j
all_come Upwards count j h = omega arith
all_come Downwards count j h = h

none_comes : (d : Direction) (count gap j : ℕ) → to_come d count gap ≡ 0 → j < count → IsToCome d gap j → ⊥
none_comes Upwards count gap j done inside h = omega (arith, done, inside, h)
none_comes Downwards count gap j done inside h = omega (arith, done, h)

pub passed_or_comes : (d : Direction) (gap j : ℕ) → WasPassed d gap j ⊎ IsToCome d gap j
passed_or_comes Upwards gap j = cases_lt j gap
passed_or_comes Downwards gap j = ⊎_elim (λ lt. inr lt) (λ le. inl le) (cases_lt j gap)

-- ---- keys
earlier_trans : (d : Direction) (a b c : Key) → IsEarlier d a b → IsEarlier d b c → IsEarlier d a c
earlier_trans Upwards a b c x y = before_trans a b c x y
earlier_trans Downwards a b c x y = before_trans c b a y x

pub never_earlier : (d : Direction) (a b : Key) → IsEarlier d a b → IsNoLater d b a → ⊥
never_earlier Upwards a b x y = never_before a b x y
never_earlier Downwards a b x y = never_before b a x y

-- the ends of the range
pub from_first : (d : Direction) (g : Range) (k : Key) → IsInRange g k → IsNoLater d (first_key d g) k
from_first Upwards g k r = r.0
from_first Downwards g k r = r.1

up_to_last : (d : Direction) (g : Range) (k : Key) → IsInRange g k → IsNoLater d k (last_key d g)
up_to_last Upwards g k r = r.1
up_to_last Downwards g k r = r.0

-- A key at a passed place is earlier than one at a place to come.
pub may_stand_earlier : (d : Direction) (s : Past) (m : ℕ) → KeepsFixedWordsSince s m → (r gap i j : ℕ) (y z : Key) → WasPassed d gap i → IsToCome d gap j →
    MayStandAt s m r i y → MayStandAt s m r j z → IsEarlier d y z
may_stand_earlier Upwards s m law r gap i j y z passed come x w = may_stand_in_order s m law r i j (omega (arith, passed, come)) y z x w
may_stand_earlier Downwards s m law r gap i j y z passed come x w = may_stand_in_order s m law r j i (omega (arith, passed, come)) z y w x

module _ (d : Direction) (s : Past) (m : ℕ) (law : KeepsFixedWordsSince s m) where
  -- A key that was passed on the way is earlier than those at the place of the first of these frames, or behind it.
  way_earlier : (f : Frame) (fs : List Frame) → IsStack s m (f ∷ fs) → (k z : Key) → MayStandBeforeFrames d s m k (f ∷ fs) → (j : ℕ) → IsToCome d (gap_before d f.place) j →
      MayStandAt s m f.number j z → IsEarlier d k z
  way_earlier f fs h k z (inl (i, passed, x)) j come y = may_stand_earlier d s m law f.number (gap_before d f.place) i j k z passed come x y
  way_earlier f [] h k z (inr x) j come y = absurd x
  way_earlier f (g ∷ gs) h k z (inr x) j come y =
      way_earlier g gs h.2 k z x g.place (come_before d g.place) (may_stand_at_child_place s m law g.number g.place f.number f.height j z h.0 y)

  -- A passed key is earlier than those that are to come in the lowest node.
  passed_earlier : (f : Frame) (fs : List Frame) → IsStack s m (f ∷ fs) → (k z : Key) → HasPassed d s m k (f ∷ fs) → (j : ℕ) → IsToCome d f.place j →
      MayStandAt s m f.number j z → IsEarlier d k z
  passed_earlier f fs h k z (inl (i, passed, x)) j come y = may_stand_earlier d s m law f.number f.place i j k z passed come x y
  passed_earlier f [] h k z (inr x) j come y = absurd x
  passed_earlier f (g ∷ gs) h k z (inr x) j come y =
      way_earlier g gs h.2 k z x g.place (come_before d g.place) (may_stand_at_child_place s m law g.number g.place f.number f.height j z h.0 y)

  -- And earlier than those behind the places of the other frames.
  way_later : (g : Frame) (gs : List Frame) → IsStack s m (g ∷ gs) → (l k : Key) → MayStandAt s m g.number g.place l ⊎ MayStandBeforeFrames d s m l (g ∷ gs) →
      ComesOnWay d s m k (g ∷ gs) → IsEarlier d l k
  way_later g gs h l k (inl x) (inl (on, come)) =
      may_stand_earlier d s m law g.number (gap_behind d g.place) g.place (spot k g.shape) l k (passed_behind d g.place) come x
      (had_key_may_stand s m law g.number g.shape k (stack_shape s m g gs h) on)
  way_later g gs h l k (inr x) (inl (on, come)) =
      way_earlier g gs h l k x (spot k g.shape) (come_earlier d g.place (spot k g.shape) come) (had_key_may_stand s m law g.number g.shape k (stack_shape s m g gs h) on)
  way_later g [] h l k x (inr y) = absurd y
  way_later g (f ∷ fs) h l k (inl x) (inr y) = way_later f fs h.2 l k (inl (may_stand_at_child_place s m law f.number f.place g.number g.height g.place l h.0 x)) y
  way_later g (f ∷ fs) h l k (inr (inl (j, passed, x))) (inr y) =
      way_later f fs h.2 l k (inl (may_stand_at_child_place s m law f.number f.place g.number g.height j l h.0 x)) y
  way_later g (f ∷ fs) h l k (inr (inr x)) (inr y) = way_later f fs h.2 l k (inr x) y

  -- A passed key is earlier than each key that still comes.
  comes_later : (fs : List Frame) → IsStack s m fs → (l k : Key) → HasPassed d s m l fs → Comes d s m k fs → IsEarlier d l k
  comes_later [] h l k x y = absurd x
  comes_later (f ∷ fs) h l k x (inl (on, come)) =
      passed_earlier f fs h l k x (spot k f.shape) come (had_key_may_stand s m law f.number f.shape k (stack_shape s m f fs h) on)
  comes_later (f ∷ []) h l k x (inr y) = absurd y
  comes_later (f ∷ g ∷ gs) h l k (inl (j, passed, x)) (inr y) =
      way_later g gs h.2 l k (inl (may_stand_at_child_place s m law g.number g.place f.number f.height j l h.0 x)) y
  comes_later (f ∷ g ∷ gs) h l k (inr x) (inr y) = way_later g gs h.2 l k (inr x) y

-- Behind an entry what was passed is passed,
passed_next : (d : Direction) (s : Past) (m : ℕ) (k : Key) (f : Frame) (fs : List Frame) → HasPassed d s m k (before d f ∷ fs) → HasPassed d s m k (behind d f ∷ fs)
passed_next d s m k f fs (inl (j, passed, x)) = inl (j, passed_further d f.place j passed, x)
passed_next d s m k f fs (inr x) = inr x

-- and what came is at its place, or still comes.
comes_next : (d : Direction) (s : Past) (m : ℕ) (k : Key) (f : Frame) (fs : List Frame) → Comes d s m k (before d f ∷ fs) →
    (HadKeyBelow s m k (a_node f.number) × (spot k f.shape ≡ f.place)) ⊎ Comes d s m k (behind d f ∷ fs)
comes_next d s m k f fs (inr x) = inr (inr x)
comes_next d s m k f fs (inl (on, come)) = ⊎_elim (λ e. inl (on, e)) (λ h. inr (inl (on, h))) (come_further d f.place (spot k f.shape) come)

module _ (s : Past) (m : ℕ) (g : Range) (law : KeepsFixedWordsSince s m) where
  -- From one way to another of which as much is known.
  scan_moved : (d : Direction) (fs gs : List Frame) (xs : List Pair) → IsScanBy d s m g fs xs → IsStack s m gs → ((k : Key) → HasPassed d s m k fs → HasPassed d s m k gs) →
      ((k : Key) → IsKeptSince s m k → IsInRange g k → IsKeyListed k xs ⊎ Comes d s m k fs → IsKeyListed k xs ⊎ Comes d s m k gs) → IsScanBy d s m g gs xs
  scan_moved d fs gs xs w stack passed covered = record {
    stack = stack;
    ordered = w.ordered;
    within = w.within;
    held = w.held;
    passed = every_map (λ x. HasPassed d s m x.key fs) (λ x. HasPassed d s m x.key gs) xs (λ x. passed x.key) w.passed;
    short = w.short;
    covered = λ k kept r. covered k kept r (w.covered k kept r);
  }

  -- A node is loaded at the place: one frame more.
  pub scan_pushed : (d : Direction) (f : Frame) (fs : List Frame) (xs : List Pair) → IsScanBy d s m g (before d f ∷ fs) xs → (c h : ℕ) (p : Subtrie) →
      IsPlaced s m f.number f.place (Node c h) → HadShapeSince s m c p → IsScanBy d s m g (record { number = c; height = h; shape = p; place = first_gap d (size p) } ∷ f ∷ fs) xs
  scan_pushed d f fs xs w c h p at sh =
      scan_moved d (before d f ∷ fs) (top ∷ f ∷ fs) xs w (at, sh, stack_place s m f f.place fs w.stack) (λ k y. inr y)
      (λ k kept r. ⊎_elim (λ y. inl y) (λ y. inr (go k kept (comes_next d s m k f fs y))))
    where
      top : Frame
      top = record { number = c; height = h; shape = p; place = first_gap d (size p) }

      go : (k : Key) → IsKeptSince s m k → (HadKeyBelow s m k (a_node f.number) × (spot k f.shape ≡ f.place)) ⊎ Comes d s m k (behind d f ∷ fs) →
          Comes d s m k (record { number = c; height = h; shape = p; place = first_gap d (size p) } ∷ f ∷ fs)
      go k kept (inr y) = inr y
      go k kept (inl (on, e)) = inl (
        child_had_key s m law k kept f.number f.place f.shape (Node c h) (stack_shape s m (before d f) fs w.stack) on e at,
        all_come d (size p) (spot k p) (spot_below k p),
      )

  -- A frame has no place more: the one above it goes on.
  pub scan_popped : (d : Direction) (f e : Frame) (fs : List Frame) (xs : List Pair) → IsScanBy d s m g (f ∷ e ∷ fs) xs → to_come d (size f.shape) f.place ≡ 0 →
      IsScanBy d s m g (behind d e ∷ fs) xs
  scan_popped d f e fs xs w done = scan_moved d (f ∷ e ∷ fs) (behind d e ∷ fs) xs w (stack_place s m e (gap_behind d e.place) fs w.stack.2) back (λ k kept r. go k)
    where
      back : (k : Key) → HasPassed d s m k (f ∷ e ∷ fs) → HasPassed d s m k (behind d e ∷ fs)
      back k (inl (j, passed, x)) = inl (e.place, passed_behind d e.place, may_stand_at_child_place s m law e.number e.place f.number f.height j k w.stack.0 x)
      back k (inr (inl (j, passed, x))) = inl (j, passed_further d e.place j passed, x)
      back k (inr (inr x)) = inr x

      go : (k : Key) → IsKeyListed k xs ⊎ Comes d s m k (f ∷ e ∷ fs) → IsKeyListed k xs ⊎ Comes d s m k (behind d e ∷ fs)
      go k (inl y) = inl y
      go k (inr (inl (on, come))) = absurd (none_comes d (size f.shape) f.place (spot k f.shape) done (spot_below k f.shape) come)
      go k (inr (inr y)) = inr y

  -- The last frame has no place more: all is covered.
  pub scan_ended : (d : Direction) (f : Frame) (xs : List Pair) → IsScanBy d s m g (f ∷ []) xs → to_come d (size f.shape) f.place ≡ 0 → IsComplete d s m g xs
  scan_ended d f xs w done = record {
    ordered = w.ordered;
    within = w.within;
    held = w.held;
    short = w.short;
    covered = λ k kept r. go k (w.covered k kept r);
  }
    where
      go : (k : Key) → IsKeyListed k xs ⊎ Comes d s m k (f ∷ []) → IsKeyListed k xs
      go k (inl y) = y
      go k (inr (inr y)) = absurd y
      go k (inr (inl (on, come))) = absurd (none_comes d (size f.shape) f.place (spot k f.shape) done (spot_below k f.shape) come)

  -- A leaf is loaded at the place. The keys that were there all the time are its own, or still come.
  module _ (f : Frame) (fs : List Frame) (xs : List Pair) (n : ℕ) (l : Key) (v : ℕ) (at : IsPlaced s m f.number f.place (Leaf n)) (is : IsRead s m n l v)
      (d : Direction) (w : IsScanBy d s m g (before d f ∷ fs) xs) where
    leaf_covers : (k : Key) → IsKeptSince s m k → IsInRange g k → IsKeyListed k xs ⊎ ((k ≡ l) ⊎ Comes d s m k (behind d f ∷ fs))
    leaf_covers k kept r = ⊎_elim (λ y. inl y) (λ y. inr (step (comes_next d s m k f fs y))) (w.covered k kept r)
      where
        step : (HadKeyBelow s m k (a_node f.number) × (spot k f.shape ≡ f.place)) ⊎ Comes d s m k (behind d f ∷ fs) → (k ≡ l) ⊎ Comes d s m k (behind d f ∷ fs)
        step (inr y) = inr y
        step (inl (on, e)) =
            inl (leaf_had_key s m law n k l v (child_had_key s m law k kept f.number f.place f.shape (Leaf n) (stack_shape s m (before d f) fs w.stack) on e at) is)

    fit : MayStandAt s m f.number f.place l
    fit = leaf_may_stand s m law f.number f.place n l v at is

    all_earlier : Every (λ x. IsEarlier d x.key l) xs
    all_earlier = every_map (λ x. HasPassed d s m x.key (before d f ∷ fs)) (λ x. IsEarlier d x.key l) xs
        (λ x y. passed_earlier d s m law (before d f) fs w.stack x.key l y f.place (come_before d f.place) fit) w.passed

    passed_then : Every (λ x. HasPassed d s m x.key (behind d f ∷ fs)) xs
    passed_then = every_map (λ x. HasPassed d s m x.key (before d f ∷ fs)) (λ x. HasPassed d s m x.key (behind d f ∷ fs)) xs (λ x y. passed_next d s m x.key f fs y) w.passed

    -- It comes before the range: left out.
    pub scan_skipped : IsEarlier d l (first_key d g) → IsScanBy d s m g (behind d f ∷ fs) xs
    scan_skipped early =
        scan_moved d (before d f ∷ fs) (behind d f ∷ fs) xs w (stack_place s m f (gap_behind d f.place) fs w.stack) (λ k y. passed_next d s m k f fs y)
        (λ k kept r listed. go k r (leaf_covers k kept r))
      where
        go : (k : Key) → IsInRange g k → IsKeyListed k xs ⊎ ((k ≡ l) ⊎ Comes d s m k (behind d f ∷ fs)) → IsKeyListed k xs ⊎ Comes d s m k (behind d f ∷ fs)
        go k r (inl y) = inl y
        go k r (inr (inr y)) = inr y
        go k r (inr (inl e)) = absurd (never_earlier d k (first_key d g) (subst (λ z. IsEarlier d z (first_key d g)) (sym e) early) (from_first d g k r))

    -- It is in the range, and there is room: one pair more.
    pub scan_taken : IsInRange g l → length xs < g.limit → IsScanBy d s m g (behind d f ∷ fs) (record { key = l; value = v } ∷ xs)
    scan_taken r room = record {
      stack = stack_place s m f (gap_behind d f.place) fs w.stack;
      ordered = (all_earlier, w.ordered);
      within = (r, w.within);
      held = (read_held s m n l v is, w.held);
      passed = (inl (f.place, passed_behind d f.place, fit), passed_then);
      short = omega (arith, room);
      covered = λ k kept q. go k (leaf_covers k kept q);
    }
      where
        go : (k : Key) → IsKeyListed k xs ⊎ ((k ≡ l) ⊎ Comes d s m k (behind d f ∷ fs)) →
            IsKeyListed k (record { key = l; value = v } ∷ xs) ⊎ Comes d s m k (behind d f ∷ fs)
        go k (inl y) = inl (inr y)
        go k (inr (inr y)) = inr y
        go k (inr (inl e)) = inl (inl e)

    -- It comes behind the range: the scan is at its end.
    pub scan_passed : IsEarlier d (last_key d g) l → IsComplete d s m g xs
    scan_passed late = record {
      ordered = w.ordered;
      within = w.within;
      held = w.held;
      short = w.short;
      covered = λ k kept r. go k r (leaf_covers k kept r);
    }
      where
        go : (k : Key) → IsInRange g k → IsKeyListed k xs ⊎ ((k ≡ l) ⊎ Comes d s m k (behind d f ∷ fs)) → IsKeyListed k xs
        go k r (inl y) = y
        go k r (inr (inl e)) = absurd (never_earlier d (last_key d g) k (subst (IsEarlier d (last_key d g)) (sym e) late) (up_to_last d g k r))
        go k r (inr (inr y)) = absurd (never_earlier d (last_key d g) k (earlier_trans d (last_key d g) l k late
            (comes_later d s m law (behind d f ∷ fs) (stack_place s m f (gap_behind d f.place) fs w.stack) l k (inl (f.place, passed_behind d f.place, fit)) y)) (up_to_last d g k r))

    -- It is in the range, and there is no room: the scan is cut.
    pub scan_filled : IsInRange g l → length xs ≡ g.limit → IsCut d s m g xs
    scan_filled r full = record {
      ordered = w.ordered;
      within = w.within;
      held = w.held;
      full = full;
      further = (l, v, r, read_held s m n l v is, all_earlier);
      covered = λ k kept q u. go k xs w.passed u (w.covered k kept q);
    }
      where
        go : (k : Key) (ys : List Pair) → Every (λ x. HasPassed d s m x.key (before d f ∷ fs)) ys → IsReachedBy d k ys → IsKeyListed k xs ⊎ Comes d s m k (before d f ∷ fs) → IsKeyListed k xs
        go k ys p u (inl y) = y
        go k [] p u (inr y) = absurd u
        go k (x ∷ ys) p u (inr y) = absurd (never_earlier d x.key k (comes_later d s m law (before d f ∷ fs) w.stack x.key k p.0 y) u)
