-- The steps of a call, and what its gate was told.
use Rattle.hot_index_calls.proofs.Common.{◌≡◌, ◌⊎◌, ℕ, ◌+◌, ◌*◌, ◌≤◌, List, [], ◌∷◌, ◌++◌, false, Result, inl, inr, refl, sym, ap, subst, arith, MAX_BYTES, Call, Note, Reply, Act, ClearPin, LoadEpoch, LoadRef, SetPin, Event, Root, Known, Ends, IsTold, Runs, SeesAllOfRun, StepsWith, entry_touches, events_of, silent, TableView, SeatView, ends_told, runs_append, advance_steps, Pins, HasSearched, HaveSearched, search_touches, Looks, entries_in, HasAttempted, targets_of, HasTried, TryFault, Full}
use Rattle.rowex_table.proofs.Seats.Seeing.{ends_see, runs_after, runs_see, sees_then, step_after, step_shows}
use Rattle.rowex_reading.proofs.Counting.{looks_count}
use Rattle.rowex_reading.proofs.Touching.{ends_touch, root_still, runs_touch}
use Rattle.rowex_scanning.specs.Counts.{Scans, scan_entries}
use Rattle.record_words.specs.Layout.{uncommitted_in}
use Rattle.hot_index_calls.specs.Answers.{IsRefusedFor, fault_of}
use Rattle.hot_index_calls.specs.Counts.{try_steps}
use Rattle.hot_index_calls.specs.Many.{HasMadeGetManySteps}
use Rattle.hot_index_calls.specs.Noting.{change_notes}
use Rattle.hot_index_calls.specs.Passes.{PassView, pass_of}
use Rattle.hot_index_calls.specs.Traces.{AreAttempts, AreTries, GiveNoneBetween, HasEnded, HasMadeGetSteps, HasMadeChangeSteps, HasRead, HasStepped, HasMadeCallSteps, HasMadeScanSteps, IsAttempt, StandsSince, Tidies, is_full, reading, untold}
use Rattle.hot_index_calls.proofs.Passes.Collected.{AreBetween, small_steps_of}

module _ {G : Type 0} (table : TableView) (becomes : G → Event → G → Type 0) where
  -- some steps, with no note
  abbrev pub HasSteps : SeatView × G → SeatView × G → Type 0
  HasSteps a b = (acts : List Act) × Runs table becomes acts a b

  -- a call that pinned its pass, looked and cleared the pin
  pub has_read : {e n : ℕ} {said : Known → List Note} {a b c d : SeatView × G} → Pins table becomes a b → Looks table becomes e n b c → StepsWith table becomes ClearPin said c d →
      HasRead table becomes (pass_of a.0, a.1) (pass_of d.0, d.1)
  has_read {said = said} {a = a} {b = b} {c = c} {d = d} pins looks end = record {
    epoch = pins.0;
    root = looks.root.0;
    loads = looks.rest.acts;
    said = said;
    begins = refl;
    ends = refl;
    below = looks.rest.below;
    steps = all;
    sees = sees_then table.layout a.0 c.0 d.0 (runs_after table becomes ran a c run) (step_after table becomes ClearPin said c d end) looked (step_shows table becomes ClearPin said c d end);
    told = ends_told table becomes (reading pins.0 looks.root.0 looks.rest.acts) ClearPin said a d all;
  }
    where
      look : Runs table becomes (LoadRef Root looks.root.0 ∷ looks.rest.acts) b c
      look = (looks.at, looks.root.1, looks.rest.steps)

      ran : List Act
      ran = reading pins.0 looks.root.0 looks.rest.acts

      run : Runs table becomes ran a c
      run = runs_append table becomes (LoadEpoch pins.0 ∷ SetPin pins.0 ∷ []) (LoadRef Root looks.root.0 ∷ looks.rest.acts) a b c pins.1.steps look

      all : Ends table becomes (reading pins.0 looks.root.0 looks.rest.acts) ClearPin said a d
      all = (c, run, end)

      looked : SeesAllOfRun table.layout a.0 c.0
      looked = runs_see table becomes (LoadEpoch pins.0 ∷ SetPin pins.0 ∷ []) looks.rest.acts looks.root.0 a b looks.at c pins.1.steps looks.root.1 looks.rest.steps

  -- and how many steps it has made, by the entries that it has loaded
  read_steps : {e n : ℕ} {said : Known → List Note} {a b c d : SeatView × G} → Pins table becomes a b → Looks table becomes e n b c → StepsWith table becomes ClearPin said c d →
      d.0.known.steps ≡ a.0.known.steps + 4 + n
  read_steps {e} {n} {said} {a} {b} {c} {d} pins looks end =
      let first : b.0.known.steps ≡ a.0.known.steps + 2 = ap (λ (z : Known). z.steps) pins.1.rest in
      let second = looks_count table becomes e n b c looks in
      let third : d.0.known.steps ≡ c.0.known.steps + 1 = ap (λ (z : Known). z.steps) end.event.learned_is in
      omega (arith, first, second, third)

  -- the touches of a call: of its search alone
  few_touched : {said : Known → List Note} {a b c d : SeatView × G} (most : ℕ) → Pins table becomes a b → c.0.touches ≤ b.0.touches + most → StepsWith table becomes ClearPin said c d → d.0.touches ≤ a.0.touches + most
  few_touched {a = a} {b = b} {c = c} {d = d} most pins search end =
      let pinned : b.0.touches ≤ a.0.touches + entry_touches * 0 = (runs_touch table becomes (LoadEpoch pins.0 ∷ SetPin pins.0 ∷ []) a b pins.1.steps).1 in
      let last : d.0.touches ≤ c.0.touches + 0 = end.touches.1 in omega (arith, pinned, last, search)

  looks_touched : {e n : ℕ} {b c : SeatView × G} (looks : Looks table becomes e n b c) → c.0.touches ≤ b.0.touches + entry_touches * entries_in looks.rest.acts
  looks_touched looks = let root = root_still looks.root in let (low, high) = runs_touch table becomes looks.rest.acts looks.at _ looks.rest.steps in omega (arith, root, high)

  pub has_got : {said : Known → List Note} {a b c d : SeatView × G} → Pins table becomes a b → HasSearched table becomes b c → StepsWith table becomes ClearPin said c d →
      HasMadeGetSteps table becomes (pass_of a.0, a.1) (pass_of d.0, d.1)
  unfolding has_read
  has_got {said} {a} {b} {c} {d} pins search end =
      let steps = read_steps pins search.looks end in let few = search.few in let entries = search.looks.rest.entries_are in
      record {
        read = has_read pins search.looks end;
        depth = subst (λ e. e ≤ 9 * MAX_BYTES) (sym entries) search.low;
        few = subst (λ e. d.0.known.steps ≤ a.0.known.steps + 36 + 26 * e) (sym entries) (omega (arith, steps, few));
        touched = few_touched (search_touches * entries_in search.looks.rest.acts) pins (subst (λ e. c.0.touches ≤ b.0.touches + search_touches * e) (sym entries) search.touched) end;
      }

  -- and so of many keys
  pub has_got_many : {said : Known → List Note} {a b c d : SeatView × G} (count : ℕ) → Pins table becomes a b → HaveSearched table becomes count b c → StepsWith table becomes ClearPin said c d →
      HasMadeGetManySteps table becomes count (pass_of a.0, a.1) (pass_of d.0, d.1)
  unfolding has_read
  has_got_many {said} {a} {b} {c} {d} count pins search end =
      let steps = read_steps pins search.looks end in let few = search.few in let entries = search.looks.rest.entries_are in
      record {
        read = has_read pins search.looks end;
        depth = subst (λ e. e ≤ count * (9 * MAX_BYTES)) (sym entries) search.low;
        few = subst (λ e. d.0.known.steps ≤ a.0.known.steps + 4 + 32 * count + 26 * e) (sym entries) (omega (arith, steps, few));
        touched = few_touched (entry_touches * entries_in search.looks.rest.acts) pins (looks_touched search.looks) end;
      }

  pub has_walked : {said : Known → List Note} {a b c d : SeatView × G} (limit : ℕ) → Pins table becomes a b → Scans table becomes limit b c → StepsWith table becomes ClearPin said c d →
      HasMadeScanSteps table becomes limit (pass_of a.0, a.1) (pass_of d.0, d.1)
  unfolding has_read
  has_walked {said} {a} {b} {c} {d} limit pins (loads, found, are, looks) end =
      let steps = read_steps pins looks end in let few = are.few in let entries = looks.rest.entries_are in
      record {
        read = has_read pins looks end;
        most = subst (λ e. e ≤ scan_entries limit) (sym entries) are.most;
        few = subst (λ e. d.0.known.steps ≤ a.0.known.steps + 101 + 26 * e + 8 * limit) (sym entries) (omega (arith, steps, few));
        touched = few_touched (entry_touches * entries_in looks.rest.acts) pins (looks_touched looks) end;
      }

  -- Nobody need be told.

  pub step_untold : (act : Act) (said : Known → List Note) (a b : SeatView × G) → StepsWith table becomes act said a b → StepsWith table untold act said (a.0, tt) (b.0, tt)
  step_untold act said a b x = record { seat = x.seat; atomic = x.atomic; event = x.event; next = x.next; touches = x.touches; told = tt }

  pub runs_untold : (acts : List Act) (a b : SeatView × G) → Runs table becomes acts a b → Runs table untold acts (a.0, tt) (b.0, tt)
  runs_untold [] a b run = ap (λ (z : SeatView × G). (z.0, tt)) run
  runs_untold (act ∷ acts) a b run = ((run.0.0, tt), step_untold act (λ k. []) a run.0 run.1, runs_untold acts run.0 b run.2)

  pub ends_untold : (acts : List Act) (last : Act) (said : Known → List Note) (a b : SeatView × G) → Ends table becomes acts last said a b → Ends table untold acts last said (a.0, tt) (b.0, tt)
  ends_untold acts last said a b (m, run, end) = ((m.0, tt), runs_untold acts a m run, step_untold last said m b end)

  -- a call that ended on its seat
  pub has_made : {call : Call} {r : Result Reply TryFault} (a b : SeatView × G) → HasEnded table becomes (AreAttempts table becomes call r a b) (change_notes call r) a b → b.0.known.steps ≤ a.0.known.steps + try_steps call table.layout →
      a.0.known.steps ≤ b.0.known.fresh.step → HasMadeChangeSteps table becomes call r (pass_of a.0, a.1) (pass_of b.0, b.1)
  has_made {call = call} {r = r} a b (acts, tries, ends) few loaded = record {
    acts = acts;
    begins = refl;
    ends = refl;
    tries = tries;
    steps = ends;
    sees = ends_see table becomes acts ClearPin (change_notes call r) a b ends loaded;
    told = ends_told table becomes acts ClearPin (change_notes call r) a b ends;
    few = few;
    touched = let high : b.0.touches ≤ a.0.touches + (entry_touches * entries_in acts + 0) = (ends_touch table becomes acts ClearPin (change_notes call r) a b ends).1 in omega (arith, high);
  }

  -- Calls that wait

  pub has_told : {said : Known → List Note} (a b : SeatView × G) → HasStepped table becomes said a b → a.0.known.steps ≤ b.0.known.fresh.step → HasMadeCallSteps table becomes (pass_of a.0, a.1) (pass_of b.0, b.1)
  has_told {said = said} a b (acts, last, steps) loaded = record {
    acts = acts;
    last = last;
    said = said;
    begins = refl;
    ends = refl;
    steps = steps;
    sees = ends_see table becomes acts last said a b steps loaded;
    told = ends_told table becomes acts last said a b steps;
  }

  pub told_untold : (a b : PassView × G) → HasMadeCallSteps table becomes a b → HasMadeCallSteps table untold (a.0, tt) (b.0, tt)
  told_untold a b x = record {
    acts = x.acts;
    last = x.last;
    said = x.said;
    begins = x.begins;
    ends = x.ends;
    steps = all;
    sees = x.sees;
    told = subst (λ (z : PassView). IsTold untold (events_of z.number (x.acts ++ x.last ∷ [])) tt tt) (sym x.begins) (ends_told table untold x.acts x.last x.said (a.0.seat, tt) (b.0.seat, tt) all);
  }
    where
      all : Ends table untold x.acts x.last x.said (a.0.seat, tt) (b.0.seat, tt)
      all = ends_untold x.acts x.last x.said (a.0.seat, a.1) (b.0.seat, b.1) x.steps

  -- a call that only read
  pub read_told : (a b : PassView × G) → HasRead table becomes a b → HasMadeCallSteps table becomes a b
  read_told a b x = record {
    acts = reading x.epoch x.root x.loads;
    last = ClearPin;
    said = x.said;
    begins = x.begins;
    ends = x.ends;
    steps = x.steps;
    sees = x.sees;
    told = x.told;
  }

  -- an attempt: the pin, the steps of the attempt, and the step that clears the pin
  pub attempt_ended : {said : Known → List Note} (a b c d : SeatView × G) → Pins table becomes a b → HasAttempted table becomes b c → StepsWith table becomes ClearPin said c d →
      HasEnded table becomes (IsAttempt table.layout) said a d
  attempt_ended a b c d pins (rest, steps, run) end =
      let acts = LoadEpoch pins.0 ∷ SetPin pins.0 ∷ [] in (
        acts ++ rest,
        record { epoch = pins.0; rest = rest; acts_are = refl; steps = steps },
        (c, runs_append table becomes acts rest a b c pins.1.steps run, end),
      )

  -- the steps of an attempt, with the locks that they try
  pub attempt_run : (a b : SeatView × G) (h : HasAttempted table becomes a b) → HasTried table becomes (targets_of h.0) a b
  attempt_run a b (acts, steps, run) = record { acts = acts; each = steps.pinned; tried_are = refl; steps = run }

  -- the call is over
  pub ended_once : (call : Call) (r : Result Reply TryFault) (a b : SeatView × G) → is_full r ≡ false → HasEnded table becomes (IsAttempt table.layout) (change_notes call r) a b →
      HasEnded table becomes (AreTries table becomes call r a b) (change_notes call r) a b
  ended_once call r a b stands (acts, tries, ends) = (acts, inl (tries, stands), ends)

  -- or it was refused as full; and there follow a round of collection and an attempt more
  pub ended_again : (call : Call) (r : Result Reply TryFault) (full : Full) (a b c d : SeatView × G) → HasEnded table becomes (IsAttempt table.layout) silent a b →
      IsRefusedFor table.layout call (pass_of a.0) (pass_of b.0) (fault_of full) → (round : AreBetween table becomes b c) → HasEnded table becomes (IsAttempt table.layout) (change_notes call r) c d →
      StandsSince table.layout call r c.0 d.0 ⊎ GiveNoneBetween table.layout (uncommitted_in b.0.bounds) full (round.first ∷ round.rest) →
      HasEnded table becomes (AreTries table becomes call r a d) (change_notes call r) a d
  ended_again call r full a b c d (acts, tries, (m, steps, last)) lacked round (more, tries_again, (n, rest, end)) stands =
      let between = round.first ∷ round.rest in
      let later = runs_append table becomes between more b c n round.does.steps rest in (
        acts ++ (ClearPin ∷ between ++ more),
        inr (record {
          first = acts;
          between = between;
          second = more;
          acts_are = refl;
          tries = tries;
          round = round.are;
          tries_again = tries_again;
          refused = b;
          tried = (m, steps, last);
          full = full;
          lacked = lacked;
          rounded = c;
          collected = round.does.steps;
          goes_on = (n, rest, end);
          stands = stands;
        }),
        (n, runs_append table becomes acts (ClearPin ∷ between ++ more) a m n steps (b, last, later), end),
      )

  -- before them, a small round or nothing
  pub ended_tidied : {call : Call} {r : Result Reply TryFault} (a b c : SeatView × G) → Tidies table becomes a b → HasEnded table becomes (AreTries table becomes call r b c) (change_notes call r) b c →
      HasEnded table becomes (AreAttempts table becomes call r a c) (change_notes call r) a c
  ended_tidied {call = call} {r = r} a b c (inl none) (acts, tries, ends) =
      (acts, record { before = []; rest = acts; acts_are = refl; tidies = inl refl; tidied = b; steps = none; tries = tries }, subst (λ (z : SeatView × G). Ends table becomes acts ClearPin (change_notes call r) z c) none ends)
  ended_tidied a b c (inr small) (acts, tries, (m, run, end)) =
      let before = LoadEpoch small.epoch ∷ advance_steps small.epoch small.found ++ LoadEpoch small.next ∷ small.pins ++ small.visits in (
        before ++ acts,
        record { before = before; rest = acts; acts_are = refl; tidies = inr (small_steps_of small); tidied = b; steps = small.does.steps; tries = tries },
        (m, runs_append table becomes before acts a b m small.does.steps run, end),
      )
