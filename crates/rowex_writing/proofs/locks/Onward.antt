-- What steps of a pass leave of what it knew: reads as parts of a run, and that it may read on.
use Rattle.rowex_writing.proofs.Common.{ℕ, ◌≤◌, List, [], ◌∷◌, sym, ap, subst, ◌∙◌, arith, length-append, All-cons, All-weaker, Act, LoadRef, LoadFixed, Event, Root, Slot, Value, Target, Known, IsPossible, IsBelowRoot, Looks, Reads, event_possible, later_trans, Runs, TableView, SeatView, IsSeatOf, runs_same, IsLater}
use Rattle.std.specs.Prelude.{length}
use Rattle.rowex_writing.specs.locks.Going.{IsStepUnderLocks, WorksOn}
use Rattle.rowex_writing.specs.locks.Locks.{IsOfAttempt, Tries, Works, HasRun, HasTried}
use Rattle.rowex_writing.proofs.locks.Runs.{goes_run, works_run}
use Rattle.rowex_writing.proofs.locks.Tried.{no_lock_is_tried, tries_more}
use Rattle.rowex_writing.proofs.locks.Locks.{works_later, works_seat}

-- a load below the root leaves the pin, and gives no record back
below_pin : (act : Act) → IsBelowRoot act → IsOfAttempt act
below_pin (LoadRef Root w) below = absurd below
below_pin (LoadRef (Slot n i) w) below = tt
below_pin (LoadRef (Value l) w) below = tt
below_pin (LoadFixed r offset w) below = tt
below_pin _ below = absurd below

-- and tries no lock
below_tries_no_lock : (act : Act) → IsBelowRoot act → IsStepUnderLocks act
below_tries_no_lock (LoadRef Root w) below = absurd below
below_tries_no_lock (LoadRef (Slot n i) w) below = tt
below_tries_no_lock (LoadRef (Value l) w) below = tt
below_tries_no_lock (LoadFixed r offset w) below = tt
below_tries_no_lock _ below = absurd below

module _ {G : Type 0} (table : TableView) (becomes : G → Event → G → Type 0) where
  -- what a pass knows stays possible
  pub runs_possible : (acts : List Act) (a b : SeatView × G) → Runs table becomes acts a b → IsPossible table.layout a.0.known → IsPossible table.layout b.0.known
  runs_possible [] a b e p = subst (λ (z : SeatView × G). IsPossible table.layout z.0.known) (sym e) p
  runs_possible (act ∷ acts) a b (m, s, more) p = runs_possible acts m b more (event_possible s.event)

  -- ---- runs
  pub reads_run : (e n : ℕ) (a b : SeatView × G) → Reads table becomes e n a b → HasRun table becomes a b
  reads_run e n a b r = record { acts = r.acts; each = All-weaker IsBelowRoot IsOfAttempt below_pin r.acts r.below; tried_are = no_lock_is_tried r.acts (All-weaker IsBelowRoot IsStepUnderLocks below_tries_no_lock r.acts r.below); steps = r.steps }

  pub looks_run : (e n : ℕ) (a b : SeatView × G) → Looks table becomes e n a b → HasRun table becomes a b
  looks_run e n a b l = record {
    acts = LoadRef Root l.root.0 ∷ l.rest.acts;
    each = All-cons IsOfAttempt (LoadRef Root l.root.0) l.rest.acts tt (All-weaker IsBelowRoot IsOfAttempt below_pin l.rest.acts l.rest.below);
    tried_are = no_lock_is_tried l.rest.acts (All-weaker IsBelowRoot IsStepUnderLocks below_tries_no_lock l.rest.acts l.rest.below);
    steps = (l.at, l.root.1, l.rest.steps);
  }

  pub run_seat : {tried : List Target} (a b : SeatView × G) → HasTried table becomes tried a b → IsSeatOf table a.0 → IsSeatOf table b.0
  run_seat a b r is = (runs_same table becomes r.acts a b r.steps).0 ∙ is

  pub run_possible : {tried : List Target} (a b : SeatView × G) → HasTried table becomes tried a b → IsPossible table.layout a.0.known → IsPossible table.layout b.0.known
  run_possible a b r p = runs_possible r.acts a b r.steps p

  -- a lock, and then others
  module _ {t u : List Target} (a m b : SeatView × G) (lock : Tries table becomes t a m) (more : HasTried table becomes u m b) where
    pub both_seat : IsSeatOf table a.0 → IsSeatOf table b.0
    both_seat own = run_seat m b more (works_seat table becomes a m lock own)

    pub both_possible : IsPossible table.layout a.0.known → IsPossible table.layout b.0.known
    both_possible p = run_possible m b more (run_possible a m (works_run table becomes a m lock) p)

  -- a lock, and loads under it
  module _ {target : Target} (a m b : SeatView × G) (lock : Tries table becomes (target ∷ []) a m) (goes : WorksOn table becomes m b) where
    pub locked_tries : HasTried table becomes (target ∷ []) a b
    locked_tries = tries_more table becomes a m b (works_run table becomes a m lock) (goes_run table becomes m b goes)

    pub locked_later : IsLater a.0.known b.0.known
    locked_later = later_trans (works_later table becomes a m lock) goes.stays.0

    -- after which it is given back
    module _ (c : SeatView × G) (works : Works table becomes b c) where
      pub back_tries : HasTried table becomes (target ∷ []) a c
      back_tries = tries_more table becomes a b c locked_tries (works_run table becomes b c works)

      pub back_later : IsLater a.0.known c.0.known
      back_later = later_trans locked_later (works_later table becomes b c works)

-- the front is no shorter later on
pub longer : (k j : Known) → IsLater k j → length k.front ≤ length j.front
longer k j later = let (more, is, others) = later.front in let n = length-append k.front more in omega (arith, ap length is, n)
