-- Leaves that come together in a node: those before one whose key is not past the range belong to the range.
use Rattle.rowex_scanning.proofs.Common.{◌≡◌, ◌≢◌, inl, inr, ⊎_elim, ℕ, zero, suc, ◌+◌, ◌<◌, ◌≤◌, List, length, refl, sym, subst, arith, true, false, get_or, cases_lt, Leaf, PathNode, Key, IsBefore, KeepsFixedWordsSince, Past, Stands, a_leaf, Known, IsLater, before_trans, leaf_may_stand, leaf_of, placed_stands, beyond_grown, same_past, come_before, may_stand_earlier, IsEarlier, IsNoLater, IsPastKey, IsToCome, WasPassed, first_key, gap_before, last_key, place_ahead, to_come, Range, IsInRange, IsPlaced, IsRead, Direction, Upwards, Downwards, Sure, IsLedTo, seen, since, placed_led, later_reflexive, read_stable, recalls_before, seen_grown, seen_steady, since_later, sure_later}
use Rattle.rowex_scanning.specs.Ahead.{AreBehindGap, AreNext, AreWithin, HavePassed, IsLeafNotPast, IsLeafPast}
use Rattle.rowex_scanning.specs.Scanning.{HasTaken, HasTakenPart, Request}
use Rattle.rowex_scanning.specs.Tallies.{IsKept, IsOneMore, Tally, tally_of_number}
use Rattle.rowex_scanning.proofs.direction.Directed.{in_range}
use Rattle.rowex_scanning.proofs.scanning.Parts.{before_limited, part_is}
use Rattle.rowex_scanning.proofs.Starts.{read_same}
use Rattle.rowex_scanning.proofs.taking.Passing.{ahead_later, leaf_at, passed_none, passed_on}
use Rattle.rowex_scanning.proofs.Walking.{IsAtEntry, bound_later, walk_cut, walk_done, walk_fits, walk_later, walk_on}

-- Keys

earlier_no_later : (d : Direction) (a b : Key) → IsEarlier d a b → IsNoLater d a b
earlier_no_later Upwards a b low = inr low
earlier_no_later Downwards a b high = inr high

no_later_behind : (d : Direction) (a b c : Key) → IsEarlier d a b → IsNoLater d b c → IsNoLater d a c
no_later_behind Upwards a b c low (inl e) = inr (subst (IsBefore a) e low)
no_later_behind Upwards a b c low (inr lt) = inr (before_trans a b c low lt)
no_later_behind Downwards a b c high (inl e) = inr (subst (λ z. IsBefore z a) (sym e) high)
no_later_behind Downwards a b c high (inr lt) = inr (before_trans c b a lt high)

-- Places

place_to_come : (d : Direction) (count gap i : ℕ) → i < to_come d count gap → IsToCome d gap (place_ahead d gap i)
place_to_come Upwards count gap i come = omega arith
place_to_come Downwards count gap i come = omega (arith, come)

place_passed : (d : Direction) (count gap i j : ℕ) → i < j → j < to_come d count gap → WasPassed d (gap_before d (place_ahead d gap j)) (place_ahead d gap i)
place_passed Upwards count gap i j low come = omega (arith, low)
place_passed Downwards count gap i j low come = omega (arith, low, come)

-- A leaf that stood at a place had a key and a value.
pub placed_read : (s : Past) (m r i n : ℕ) → IsPlaced s m r i (Leaf n) → (key : Key) × (value : ℕ) × IsRead s m n key value
placed_read s m r i n (b, stood, low, is) =
    let (key, value, e) = leaf_of n _ is in (key, value, (stood.at, stood.since, stood.until, subst (Stands s stood.at (a_leaf n)) e (placed_stands s m r i b stood (Leaf n) is)))

-- A leaf's key belongs to the range where the same leaf or one behind it has a key that is not past it.
module _ (d : Direction) (s : Past) (m : ℕ) (steady : KeepsFixedWordsSince s m) (g : Range) (r count gap : ℕ) (there : IsPastKey d s m (first_key d g) r gap) where
  read_within : (i j a b : ℕ) (key last : Key) (value other : ℕ) → i < j → j < to_come d count gap → IsPlaced s m r (place_ahead d gap i) (Leaf a) → IsRead s m a key value →
      IsPlaced s m r (place_ahead d gap j) (Leaf b) → IsRead s m b last other → IsNoLater d last (last_key d g) → IsInRange g key
  read_within i j a b key last value other low come placed read behind further late =
      let y = leaf_may_stand s m steady r (place_ahead d gap i) a key value placed read in
      let z = leaf_may_stand s m steady r (place_ahead d gap j) b last other behind further in
      in_range d g key (earlier_no_later d (first_key d g) key (there s (same_past s) steady (place_ahead d gap i) key (place_to_come d count gap i (omega (arith, low, come))) y))
      (no_later_behind d key last (last_key d g)
      (may_stand_earlier d s m steady r (gap_before d (place_ahead d gap j)) (place_ahead d gap i) (place_ahead d gap j) key last (place_passed d count gap i j low come) (come_before d (place_ahead d gap j)) y z) late)

  read_alone : (i a : ℕ) (key last : Key) (value other : ℕ) → i < to_come d count gap → IsPlaced s m r (place_ahead d gap i) (Leaf a) → IsRead s m a key value → IsRead s m a last other → IsNoLater d last (last_key d g) → IsInRange g key
  read_alone i a key last value other come placed read again late =
      let y = leaf_may_stand s m steady r (place_ahead d gap i) a key value placed read in
      in_range d g key (earlier_no_later d (first_key d g) key (there s (same_past s) steady (place_ahead d gap i) key (place_to_come d count gap i come) y))
      (subst (λ z. IsNoLater d z (last_key d g)) (read_same s m steady a last key other value again read) late)

-- What the pass knows of leaves that come next, after more loads.
module _ {k : Known} {r : Request} {top : PathNode} {leaves : List ℕ} (b : AreBehindGap k r top leaves) {j : Known} (l : IsLater k j) where
  pub placed_then : (i : ℕ) → i < length leaves → Sure j (λ s. IsPlaced s (since k) top.number (place_ahead r.0 top.slot i) (Leaf (get_or leaves i 0)))
  placed_then = ahead_later r.0 (since k) top l (length leaves) leaves b.ahead

  there_then : Sure j (λ s. IsPastKey r.0 s (since k) (first_key r.0 r.1) top.number top.slot)
  there_then = sure_later {P = λ s. IsPastKey r.0 s (since k) (first_key r.0 r.1) top.number top.slot} (λ x y grown. beyond_grown r.0 x y grown (since k) top.number top.slot (first_key r.0 r.1)) l b.there

  pub behind_led : (i : ℕ) → i < length leaves → IsLedTo j (since k) (Leaf (get_or leaves i 0))
  behind_led i low = placed_led top.number (place_ahead r.0 top.slot i) (Leaf (get_or leaves i 0)) (since_later l b.pinned) (placed_then i low)

  -- One is not past the range: it and those before it belong to it.
  pub within_up_to : (i : ℕ) → i < length leaves → IsLeafNotPast j (since k) r (get_or leaves i 0) → AreWithin j (since k) r.1 leaves (i + 1)
  within_up_to i low inside o less c lawful recalls key value read =
      let (last, other, again, late) = inside c lawful recalls in
      let steady = seen_steady lawful recalls (since_later l b.pinned) in let come = b.come in
      let there = there_then c lawful recalls in let at_last = placed_then i low c lawful recalls in let at_key = placed_then o (omega (arith, less, low)) c lawful recalls in
      ⊎_elim
      (λ (before : o < i). read_within r.0 (seen c j) (since k) steady r.1 top.number top.count top.slot there o i (get_or leaves o 0) (get_or leaves i 0) key last value other before (omega (arith, low, come)) at_key read at_last again late)
      (λ (not_before : i ≤ o).
      let same : o ≡ i = omega (arith, not_before, less) in
      read_alone r.0 (seen c j) (since k) steady r.1 top.number top.count top.slot there o (get_or leaves o 0) key last value other (omega (arith, same, low, come)) at_key read
      (subst (λ z. IsRead (seen c j) (since k) (get_or leaves z 0) last other) (sym same) again) late)
      (cases_lt o i)

-- Both stay so after more loads.
pub past_later : {k j : Known} {m number : ℕ} (r : Request) → IsLater k j → IsLeafPast k m r number → IsLeafPast j m r number
past_later {k} {j} {m} {number} r l past c lawful recalls =
    let (key, value, read, late) = past c lawful (recalls_before l recalls) in (key, value, read_stable m number key value (seen c k) (seen c j) (seen_grown c l) read, late)

pub not_past_later : {k j : Known} {m number : ℕ} (r : Request) → IsLater k j → IsLeafNotPast k m r number → IsLeafNotPast j m r number
not_past_later {k} {j} {m} {number} r l inside c lawful recalls =
    let (key, value, read, late) = inside c lawful (recalls_before l recalls) in (key, value, read_stable m number key value (seen c k) (seen c j) (seen_grown c l) read, late)

-- At some leaves that come next on a walk.
module _ {k : Known} {r : Request} {top : PathNode} {frames : List PathNode} {t : Tally} {leaves : List ℕ} (n : AreNext k r top frames t leaves) where
  pub next_behind : AreBehindGap k r top leaves
  next_behind = record { pinned = n.bound.0.pinned; there = n.bound.1.there; ahead = n.ahead; come = n.come }

  fits : top.slot ≤ top.count
  fits = walk_fits n.bound.0

  module _ {j : Known} (l : IsLater k j) where
    here : IsLater j j
    here = later_reflexive j

    -- The walk is behind so many of them, at one that belongs to the range.
    module _ {i : ℕ} (low : i < length leaves) {u : Tally} (p : HavePassed j (since k) r frames top t.size i u) where
      come_at : i < to_come r.0 top.count top.slot
      come_at = let come = n.come in omega (arith, low, come)

      at_leaf : IsAtEntry r.0 j (since k) r.1 (record top { slot = place_ahead r.0 top.slot i }) frames u (Leaf (get_or leaves i 0))
      at_leaf = leaf_at fits come_at p (placed_then next_behind l i low)

      pub read_at : Sure j (λ s. (key : Key) × (value : ℕ) × IsRead s (since k) (get_or leaves i 0) key value)
      read_at c lawful recalls = placed_read (seen c j) (since k) top.number (place_ahead r.0 top.slot i) (get_or leaves i 0) (placed_then next_behind l i low c lawful recalls)

      -- It is taken,
      pub run_on : {v : Tally} → Sure j (λ s. (key : Key) × (value : ℕ) × IsRead s (since k) (get_or leaves i 0) key value × IsInRange r.1 key × IsOneMore u key value v) → u.size ≢ r.1.limit → v.size ≡ u.size + 1 →
          HavePassed j (since k) r frames top t.size (i + 1) v
      run_on {v} had room one = passed_on fits come_at p (placed_then next_behind l i low) here one (walk_on at_leaf here v had room)

      -- or there is no room,
      pub run_cut : since j ≡ since k → AreWithin j (since k) r.1 leaves (i + 1) → u.size ≡ r.1.limit → HasTaken r.0 j r.1 u true
      run_cut same are full = walk_cut at_leaf here u same (refl, λ taken said. said) (λ c lawful recalls.
          let (key, value, read) = read_at c lawful recalls in (key, value, read, are i (omega arith) c lawful recalls key value read)) full

      -- or there is no memory for it,
      pub run_part : {v : Tally} → since j ≡ since k → AreWithin j (since k) r.1 leaves (i + 1) → IsKept u v → u.size < r.1.limit → HasTakenPart r.0 j r.1 v
      run_part {v} same are kept room = part_is u v kept room
          (walk_cut (record { walk = before_limited at_leaf.walk; placed = at_leaf.placed }) here v same kept (λ c lawful recalls.
          let (key, value, read) = read_at c lawful recalls in (key, value, read, are i (omega arith) c lawful recalls key value read)) refl)

      -- or it is past the range.
      pub run_done : since j ≡ since k → IsLeafPast j (since k) r (get_or leaves i 0) → HasTaken r.0 j r.1 u false
      run_done same past = walk_done at_leaf here u same (refl, λ taken said. said) past

-- The first of them are counted.
pub run_counted : {k : Known} {r : Request} {top : PathNode} {frames : List PathNode} {size : ℕ} {leaves : List ℕ} (n : AreNext k r top frames (tally_of_number size) leaves) {j : Known} (l : IsLater k j) (count : ℕ) → count ≤ length leaves →
    AreWithin j (since k) r.1 leaves count → size + count ≤ r.1.limit → HavePassed j (since k) r frames top size count (tally_of_number (size + count))
run_counted {k} {r} {top} {frames} {size} n {j} l zero fit are room =
    subst (λ z. HavePassed j (since k) r frames top size 0 (tally_of_number z)) (let e : size ≡ size + 0 = omega arith in e) (passed_none (walk_later l n.bound.0) (bound_later r.0 (since k) (first_key r.0 r.1) l n.bound.1))
run_counted {k} {r} {top} {frames} {size} {leaves} n {j} l (suc i) fit are room =
    let p = run_counted n l i (omega (arith, fit)) (λ o low. are o (omega (arith, low))) (omega (arith, room)) in
    let low : i < length leaves = omega (arith, fit) in
    subst (λ z. HavePassed j (since k) r frames top size z (tally_of_number (size + suc i))) (let e : i + 1 ≡ suc i = omega arith in e)
    (run_on n l low p (λ c lawful recalls.
    let (key, value, read) = read_at n l low p c lawful recalls in (key, value, read, are i (omega arith) c lawful recalls key value read, (let e : size + suc i ≡ size + i + 1 = omega arith in e, λ taken said. tt)))
    (omega (arith, room)) (omega arith))
