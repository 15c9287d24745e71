-- A scan that is refused memory has found a pair.
use denote.RawPtr.{null_ptr}
use Rattle.hot_index.proofs.Common.{◌≢◌, ℕ, ◌<◌, ◌≤◌, ◌^◌, List, [], ◌∷◌, length, Bool, true, refl, sym, subst, arith, le_refl, All, IsSome, IsTrue, All-head, Scan, is_within, IsHeldBetween, IsLawfulScan, IsKey, Layout, IsHeldSince, Past, ClearPin, Known, IsEvent, Sure, seen, since, IsAnswer, IsLawfulBy, HasScanned, HasScannedPart, HasTakenPart, limited, Tally, Direction, Upwards, Downwards, silent, SeatView, IsInRange, Pair, Range, Key, GoesOn, HasFoundPair, IsListedBy, PassView, pass_of, HasLooked, goes_on}
use Rattle.rowex_reading.proofs.Seen.Loading.{pinned_by}
use Rattle.rowex_scanning.proofs.Scanned.{lawful_scan}

-- a scan with these pairs
abbrev scan_of : (pairs : List (Key × ℕ)) → Bool → length pairs < 2 ^ 63 → Scan
scan_of pairs more short = record {
  pairs = record { ptr = null_ptr; len = length pairs; cap = length pairs; alloc = record { memory = _ }; items = pairs; ok = (refl, le_refl (length pairs)); small = short };
  more = more;
}

-- One pair of a list will do.
module _ {layout : Layout} {k j : PassView} {range : Range} where
  first_found : (pairs : List (Key × ℕ)) → GoesOn layout k j → pairs ≢ [] → length pairs ≤ range.limit → All (λ e. IsTrue (is_within range.from range.upto e.0)) pairs →
      All (λ e. IsHeldBetween j.fresh.front j.front e.0 e.1) pairs → HasFoundPair layout k j range
  first_found [] on some short within held = absurd (some refl)
  first_found (e ∷ pairs) on some short within held = record {
    on = on;
    room = omega (arith, short);
    key = e.0;
    value = e.1;
    within = All-head (λ (e : Key × ℕ). IsTrue (is_within range.from range.upto e.0)) e pairs within;
    held = All-head (λ (e : Key × ℕ). IsHeldBetween j.fresh.front j.front e.0 e.1) e pairs held;
  }

  pub listed_found : (d : Direction) {pairs : List (Key × ℕ)} {more : Bool} → IsListedBy (IsLawfulBy d) layout k j range pairs more → pairs ≢ [] → length pairs < 2 ^ 63 → HasFoundPair layout k j range
  listed_found Upwards {pairs = pairs} {more = more} h some small =
      let l = h.lawful (scan_of pairs more small) refl refl in first_found pairs h.on some l.short l.within l.held
  listed_found Downwards {pairs = pairs} {more = more} h some small =
      let l = h.lawful (scan_of pairs more small) refl refl in first_found pairs h.on some l.short l.within l.held

-- The pass has looked since it was settled, and clears the pin now; it is sure that a key of the range was held since its last load of the
-- root. So a scan of no pairs is cut before that key.
module _ {layout : Layout} {i : Known} (s t : SeatView) (looks : HasLooked s.known i) (event : IsEvent layout ClearPin silent i t.known) (g : Range) (keys : IsKey g.from × IsKey g.upto) (is : IsSome i.pin) where
  sure_found : 0 < g.limit → Sure i (λ x. (key : Key) × (value : ℕ) × IsInRange g key × IsHeldSince x (since i) key value) → HasFoundPair layout (pass_of s) (pass_of t) g
  sure_found room found =
      let p = pinned_by i.pin is in
      let none = scan_of [] true (omega arith) in
      let cut : HasScanned Upwards i (limited g 0) [] true = record {
        taken = [];
        pairs_are = refl;
        answer = λ c lawful recalls. let (key, value, inside, held) = found c lawful recalls in record {
          ordered = tt;
          within = tt;
          held = tt;
          full = refl;
          further = (key, value, inside, held, tt);
          covered = λ x kept range last. absurd last;
        };
      } in
      let l = subst (λ (z : Known). IsLawfulScan z.fresh.front z.front g.from g.upto 0 none) (sym event.learned_is) (lawful_scan Upwards i (limited g 0) none layout silent t.known keys.0 keys.1 p.0 p.1 cut event) in
      let (key, value, within, held, past) = l.further refl in
      record { on = goes_on s t looks.on event; room = room; key = key; value = value; within = within; held = held }

  further : (x : Past) (n : ℕ) (taken : List Pair) (d : Direction) → IsAnswer d x (since i) (limited g n) taken true → (key : Key) × (value : ℕ) × IsInRange g key × IsHeldSince x (since i) key value
  further x n taken Upwards cut = let (key, value, inside, held, past) = cut.further in (key, value, inside, held)
  further x n taken Downwards cut = let (key, value, inside, held, past) = cut.further in (key, value, inside, held)

  pub part_found : (d : Direction) {pairs : List (Key × ℕ)} → HasScannedPart d i g pairs → HasFoundPair layout (pass_of s) (pass_of t) g
  part_found d {pairs} h = sure_found (let short = h.0 in omega (arith, short)) (λ c lawful recalls. further (seen c i) (length pairs) h.1.taken d (h.1.answer c lawful recalls))

  pub taken_found : (d : Direction) (u : Tally) → HasTakenPart d i g u → HasFoundPair layout (pass_of s) (pass_of t) g
  taken_found d u h = sure_found (let short = h.0 in omega (arith, short)) (λ c lawful recalls. let (taken, tallied, answer) = h.1 c lawful recalls in further (seen c i) u.size taken d answer)
