-- Touches beside the steps of a pass: how many there may be, and where they stand.
use Rattle.rowex_reading.proofs.Common.{◌≡◌, ℕ, ◌+◌, ◌*◌, ◌<◌, ◌≤◌, List, [], ◌∷◌, cond, refl, sym, ap, subst, ◌∙◌, arith, le_refl, ⊎_elim, cases_lt, sum_by-cons, Note, Act, Claim, Fill, Ready, Release, LoadRef, LoadFixed, Lock, Unlock, Publish, Mark, LoadEpoch, Advance, SetPin, ClearPin, LoadPin, LoadState, GiveBack, Load, Event, Root, Slot, Value, Known, Ends, MayTouch, Runs, StepsWith, entry_touches, most_touches, HasTouched, SeatView, TableView, touched, touched_to, Entry, Rec}
use Rattle.rowex_reading.specs.Reads.{IsReader, Reads, ReadsAndTouches, ReadsRoot, entries_in, loads_entry}
use Rattle.rowex_reading.specs.Lookups.{search_touches}
use Rattle.rowex_reading.specs.Seen.{AreLoaded, IsLedTo}
use Rattle.rowex_reading.proofs.Seen.Led.{reads_trans}

-- touches after touches
pub touched_on : (n m : ℕ) (r s t : SeatView) → s ≡ touched n r → t ≡ touched m s → t ≡ touched (n + m) r
touched_on n m r s t first then =
    let count : (r.touches + n) + m ≡ r.touches + (n + m) = omega arith in then ∙ ap (touched m) first ∙ ap (λ k. touched_to k r) count

-- words are touched beside loads of entries alone
most_of : (act : Act) → most_touches act ≡ entry_touches * cond (loads_entry act) 1 0
most_of (LoadRef (Slot n i) w) = refl
most_of (LoadRef Root w) = refl
most_of (LoadRef (Value l) w) = refl
most_of (Claim r found) = refl
most_of (Fill r offset w) = refl
most_of (Ready r) = refl
most_of (Release r) = refl
most_of (LoadFixed r offset w) = refl
most_of (Lock target found) = refl
most_of (Unlock target) = refl
most_of (Publish spot w) = refl
most_of (Mark r epoch) = refl
most_of (LoadEpoch w) = refl
most_of (Advance expected found) = refl
most_of (SetPin w) = refl
most_of ClearPin = refl
most_of (LoadPin o w) = refl
most_of (LoadState r w) = refl
most_of (GiveBack r epoch found) = refl
most_of (Load words) = refl

-- the most that stand beside all of these steps
abbrev pub MayTouchAll : List Act → ℕ → ℕ → Type 0
MayTouchAll acts before after = (before ≤ after) × (after ≤ before + entry_touches * entries_in acts)

-- so many beside one step and those after it
most_more : (act : Act) (acts : List Act) → entry_touches * entries_in (act ∷ acts) ≡ most_touches act + entry_touches * entries_in acts
most_more act acts =
    let one = most_of act in let both = sum_by-cons (λ (a : Act). cond (loads_entry a) 1 0) act acts in omega (arith, one, both)

module _ {G : Type 0} (table : TableView) (becomes : G → Event → G → Type 0) where
  -- the touches of a run
  pub runs_touch : (acts : List Act) (a b : SeatView × G) → Runs table becomes acts a b → MayTouchAll acts a.0.touches b.0.touches
  runs_touch [] a b is = let same : b.0.touches ≡ a.0.touches = ap (λ (z : SeatView × G). z.0.touches) is in (omega (arith, same), omega (arith, same))
  runs_touch (act ∷ acts) a b (m, step, rest) =
      let (low, high) = step.touches in let (low', high') = runs_touch acts m b rest in let all = most_more act acts in (omega (arith, low, low'), omega (arith, high, high', all))

  pub ends_touch : (acts : List Act) (last : Act) (said : Known → List Note) (a b : SeatView × G) → Ends table becomes acts last said a b →
      (a.0.touches ≤ b.0.touches) × (b.0.touches ≤ a.0.touches + (entry_touches * entries_in acts + most_touches last))
  ends_touch acts last said a b (m, runs, step) = let (low, high) = runs_touch acts a m runs in let (low', high') = step.touches in (omega (arith, low, low'), omega (arith, high, high'))

  -- The same steps are made from any count of touches to any other that they allow.
  step_spread : (act : Act) (said : Known → List Note) (a b : SeatView × G) (x y : ℕ) → StepsWith table becomes act said a b → MayTouch act x y →
      StepsWith table becomes act said (touched_to x a.0, a.1) (touched_to y b.0, b.1)
  step_spread act said a b x y s may = record { seat = s.seat; atomic = s.atomic; event = s.event; next = s.next; touches = may; told = s.told }

  runs_spread : (acts : List Act) (a b : SeatView × G) (x y : ℕ) → Runs table becomes acts a b → x ≤ y → y ≤ x + entry_touches * entries_in acts →
      Runs table becomes acts (touched_to x a.0, a.1) (touched_to y b.0, b.1)
  runs_spread [] a b x y is low high = let same : y ≡ x = omega (arith, low, high) in λ i. (touched_to (same i) (is i).0, (is i).1)
  runs_spread (act ∷ acts) a b x y (m, step, rest) low high = ⊎_elim
      (λ (less : y < x + most_touches act). (
        (touched_to y m.0, m.1),
        step_spread act _ a m x y step (low, omega (arith, less)),
        runs_spread acts m b y y rest (omega arith) (omega arith),
      ))
      (λ (more : x + most_touches act ≤ y). (
        (touched_to (x + most_touches act) m.0, m.1),
        step_spread act _ a m x (x + most_touches act) step (omega arith, omega arith),
        runs_spread acts m b (x + most_touches act) y rest more (let all = most_more act acts in omega (arith, high, all)),
      ))
      (cases_lt y (x + most_touches act))

module _ {G : Type 0} {table : TableView} {becomes : G → Event → G → Type 0} where
  pub reads_spread : {e n : ℕ} {a b : SeatView × G} (x y : ℕ) → Reads table becomes e n a b → x ≤ y → y ≤ x + entry_touches * e → Reads table becomes e n (touched_to x a.0, a.1) (touched_to y b.0, b.1)
  reads_spread {a = a} {b = b} x y r low high = record {
    acts = r.acts;
    below = r.below;
    count = r.count;
    entries_are = r.entries_are;
    steps = runs_spread table becomes r.acts a b x y r.steps low (let many = r.entries_are in omega (arith, high, many));
  }

  pub reads_touch : {e n : ℕ} {a b : SeatView × G} → Reads table becomes e n a b → (a.0.touches ≤ b.0.touches) × (b.0.touches ≤ a.0.touches + entry_touches * e)
  reads_touch {a = a} {b = b} r = let (low, high) = runs_touch table becomes r.acts a b r.steps in let many = r.entries_are in (low, omega (arith, high, many))

  -- where no entry is loaded, no word is touched
  pub reads_still : {n : ℕ} {a b : SeatView × G} → Reads table becomes 0 n a b → b.0.touches ≡ a.0.touches
  reads_still r = let (low, high) = reads_touch r in omega (arith, low, high)

  pub root_still : {a b : SeatView × G} → ReadsRoot table becomes a b → b.0.touches ≡ a.0.touches
  root_still x = let (low, high) = x.1.touches in omega (arith, low, high)

  -- loads with touches: few of them are allowed to loads of entries
  pub reads_touching : {e n most : ℕ} {a b : SeatView × G} → ReadsAndTouches table becomes e n most a b → most ≤ entry_touches * e → Reads table becomes e n a b
  reads_touching {a = a} {b = b} r fits = let low = r.rises in let high = r.few in reads_spread a.0.touches b.0.touches r.reads low (omega (arith, high, fits))

  -- none
  pub reads_untouched : {e n most : ℕ} {a b : SeatView × G} → Reads table becomes e n a b → b.0.touches ≡ a.0.touches → ReadsAndTouches table becomes e n most a b
  reads_untouched {a = a} {b = b} r same = record { reads = reads_spread a.0.touches a.0.touches r (omega arith) (omega arith); rises = omega (arith, same); few = omega (arith, same) }

  -- more loads, from behind those
  pub reads_on : {e f n m most more : ℕ} {a b c : SeatView × G} → ReadsAndTouches table becomes e n most a b → ReadsAndTouches table becomes f m more b c → ReadsAndTouches table becomes (e + f) (n + m) (most + more) a c
  reads_on {a = a} {b = b} {c = c} x y = record {
    reads = reads_trans x.reads (reads_spread a.0.touches a.0.touches y.reads (omega arith) (omega arith));
    rises = let p = x.rises in let q = y.rises in omega (arith, p, q);
    few = let p = x.few in let q = y.few in omega (arith, p, q);
  }

  -- touches before loads, and behind them
  pub touches_first : {e n most : ℕ} {s t : SeatView} {g : G} {b : SeatView × G} → HasTouched most s t → Reads table becomes e n (t, g) b → b.0.touches ≡ t.touches → ReadsAndTouches table becomes e n most (s, g) b
  touches_first {e} {n} {s = s} {t = t} {g = g} {b = b} (k, few, is) r same =
      let from : touched_to s.touches t ≡ s = ap (touched_to s.touches) is in
      let count : t.touches ≡ s.touches + k = ap (λ (z : SeatView). z.touches) is in record {
        reads = subst (λ (z : SeatView). Reads table becomes e n (z, g) (touched_to s.touches b.0, b.1)) from (reads_spread s.touches s.touches r (omega arith) (omega arith));
        rises = omega (arith, same, count);
        few = omega (arith, same, count, few);
      }

  pub touches_last : {e n most more : ℕ} {a : SeatView × G} {s t : SeatView} {g : G} → ReadsAndTouches table becomes e n most a (s, g) → HasTouched more s t → ReadsAndTouches table becomes e n (most + more) a (t, g)
  touches_last {e} {n} {a = a} {s = s} {t = t} {g = g} x (k, few, is) =
      let there : touched_to a.0.touches s ≡ touched_to a.0.touches t = ap (touched_to a.0.touches) (sym is) in
      let count : t.touches ≡ s.touches + k = ap (λ (z : SeatView). z.touches) is in record {
        reads = subst (λ (z : SeatView). Reads table becomes e n a (z, g)) there x.reads;
        rises = let p = x.rises in omega (arith, p, count);
        few = let p = x.few in omega (arith, p, count, few);
      }

  -- an entry that is loaded once the head of its node has been searched: the touches of the search stand beside its load
  pub entry_read : {n : ℕ} {b c i : SeatView × G} → ReadsAndTouches table becomes 0 n search_touches b c → Reads table becomes 1 1 c i → i.0.touches ≡ c.0.touches → Reads table becomes 1 1 (touched_to b.0.touches c.0, c.1) i
  entry_read {b = b} {c = c} {i = i} x one same = let low = x.rises in let high = x.few in reads_spread b.0.touches i.0.touches one (omega (arith, low, same)) (omega (arith, high, same))

  pub entry_touched : {n : ℕ} {b c : SeatView × G} → ReadsAndTouches table becomes 0 n search_touches b c → (now : ℕ) → now ≡ c.0.touches → now ≤ b.0.touches + search_touches
  entry_touched x now same = let high = x.few in omega (arith, high, same)

  -- the parts of a head, with touches between the first word and the others
  pub searched : {n m : ℕ} {a b : SeatView × G} {s t : SeatView} {g : G} → Reads table becomes 0 n a (s, g) → t ≡ touched search_touches s → Reads table becomes 0 m (t, g) b → ReadsAndTouches table becomes 0 (n + m) search_touches a b
  searched first is rest = reads_on (reads_untouched {most = 0} first (reads_still first)) (touches_first (search_touches, le_refl search_touches, is) rest (reads_still rest))

-- What the pass knows stays where it touches.
pub reader_past : (table : TableView) (n : ℕ) (s t : SeatView) → t ≡ touched n s → IsReader table s → IsReader table t
reader_past table n s t is reader = subst (IsReader table) (sym is) reader

pub led_past : (n : ℕ) (s t : SeatView) (m : ℕ) (e : Entry) → t ≡ touched n s → IsLedTo s.known m e → IsLedTo t.known m e
led_past n s t m e is led = subst (λ (z : SeatView). IsLedTo z.known m e) (sym is) led

pub loaded_past : {before : ℕ} {j : Known} {r : Rec} {IsLoaded : ℕ → Type 0} {words : List ℕ} (n : ℕ) (s t : SeatView) → t ≡ touched n s → AreLoaded t.known j r before IsLoaded words → AreLoaded s.known j r before IsLoaded words
loaded_past {before = before} {j = j} {r = r} {IsLoaded = IsLoaded} {words = words} n s t is loaded = subst (λ (z : SeatView). AreLoaded z.known j r before IsLoaded words) is loaded

-- no word was touched
pub touched_none : (s : SeatView) → s ≡ touched 0 s
touched_none s = let count : s.touches ≡ s.touches + 0 = omega arith in ap (λ k. touched_to k s) count
