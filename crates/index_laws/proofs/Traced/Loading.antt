-- Loads of the root in an execution by contracts alone.
use Rattle.index_laws.proofs.Common.{◌≡◌, ◌≢◌, ◌⊎◌, ◌<◌, ◌≤◌, inl, inr, ⊎_elim, ℕ, zero, suc, List, [], ◌∷◌, ◌++◌, Option, None, refl, sym, ap, subst, ◌∙◌, arith, append_assoc, All, cases_eq, cases_lt, append_cancel_left, All-head, All-tail, Change, Note, BeginsWith, others_begin, Act, Event, Fresh, Known, Core, Knows, opening, root_load, SeatView, TableView, OthersStepOn, RunBeginsWith, begins_on, others_more, others_none, Happening, IsSoundConfiguration, Pending, invokes, refuses, responds, shows, steps, runs_stay_sound}
use Rattle.index_laws.specs.Traced.{ContractsLeadOn, Instant, IsSeatShowing, IsSeatStep, IsSeatTurn, IsShownItself, IsShownSteps, IsTracedExecution, LoadsAreMoments, core_led_to, configuration_of}
use Rattle.index_laws.proofs.Executions.{executions_are_runs}
use Rattle.index_laws.proofs.Traced.{core_is, traced_are_executions}

-- Lists of steps

all_behind : (P : Event → Type 0) (xs ys : List Event) → All P (xs ++ ys) → All P ys
all_behind P [] ys h = h
all_behind P (x ∷ xs) ys h = all_behind P xs ys (All-tail P x (xs ++ ys) h)

-- behind a list between, others alone step on too
others_after : (q : ℕ) (trace shown run : List Event) → OthersStepOn q trace run → RunBeginsWith shown trace → RunBeginsWith run shown → OthersStepOn q shown run
others_after q trace shown run h g m =
    let same : h.0 ≡ g.0 ++ m.0 = append_cancel_left trace h.0 (g.0 ++ m.0) (sym h.1 ∙ (m.1 ∙ (ap (λ l. l ++ m.0) g.1 ∙ append_assoc trace g.0 m.0))) in
    (m.0, m.1, all_behind (λ x. x.pass ≢ q) g.0 m.0 (subst (All (λ x. x.pass ≢ q)) same h.2))

-- a step of the pass itself is none of those
not_others : (q : ℕ) (trace run before : List Event) (l : Event) → OthersStepOn q trace run → RunBeginsWith before trace → RunBeginsWith run (before ++ l ∷ []) → l.pass ≢ q
not_others q trace run before l h g m =
    let same : h.0 ≡ g.0 ++ l ∷ m.0 =
    append_cancel_left trace h.0 (g.0 ++ l ∷ m.0)
    (sym h.1 ∙ (m.1 ∙ (append_assoc before (l ∷ []) m.0 ∙ (ap (λ b. b ++ l ∷ m.0) g.1 ∙ append_assoc trace g.0 (l ∷ m.0))))) in
    All-head (λ x. x.pass ≢ q) l m.0 (all_behind (λ x. x.pass ≢ q) g.0 (l ∷ m.0) (subst (All (λ x. x.pass ≢ q)) same h.2))

not_none : (before more : List Event) (l : Event) → [] ≢ (before ++ l ∷ []) ++ more
not_none [] more l e = cc
not_none (x ∷ before) more l e = cc

-- a step of a list is its last one, or stands before that
last_or_before : (run before more : List Event) (e l : Event) → run ++ e ∷ [] ≡ (before ++ l ∷ []) ++ more → RunBeginsWith run (before ++ l ∷ []) ⊎ ((run ≡ before) × (e ≡ l))
last_or_before [] [] more e l is = let same : e ≡ l = cc in inr (refl, same)
last_or_before [] (y ∷ before) more e l is = let none : [] ≡ (before ++ l ∷ []) ++ more = cc in absurd (not_none before more l none)
last_or_before (x ∷ run) [] more e l is = let head : x ≡ l = cc in inl (run, λ i. head i ∷ run)
last_or_before (x ∷ run) (y ∷ before) more e l is =
    let head : x ≡ y = cc in
    let tail : run ++ e ∷ [] ≡ (before ++ l ∷ []) ++ more = cc in
    ⊎_elim (λ (h : RunBeginsWith run (before ++ l ∷ [])). inl (h.0, λ i. head i ∷ h.1 i))
    (λ (h : (run ≡ before) × (e ≡ l)). inr ((λ i. head i ∷ h.0 i), h.1))
    (last_or_before run before more e l tail)

-- From time to time

-- behind the trace of a pass others alone step on
abbrev OthersBehind : Instant → ℕ → Type 0
OthersBehind a o = OthersStepOn o (a.seat o).trace a.run

same_behind : (a b : Instant) (o : ℕ) → b.run ≡ a.run → b.seat o ≡ a.seat o → OthersBehind a o → OthersBehind b o
same_behind a b o run seat h = subst (λ (z : List Event × SeatView). OthersStepOn o z.1.trace z.0) (λ i. (sym run i, sym seat i)) h

module _ (table : TableView) (at : ℕ → Instant) (t : ℕ) where
  abbrev a : Instant
  a = at t

  abbrev b : Instant
  b = at (suc t)

  -- this step is made, or none
  abbrev IsStep : Happening → Event → Type 0
  IsStep h e = (notes : List Note) × (h ≡ steps e.pass e.act notes) × (b.run ≡ a.run ++ e ∷ [])

  run_next : (h : Happening) → ContractsLeadOn table at t h → (b.run ≡ a.run) ⊎ ((e : Event) × IsStep h e)
  run_next (steps q act notes) x = inr (record { pass = q; act = act }, (notes, refl, x.run))
  run_next (shows q front) x = inl x.run
  run_next (invokes q calls) x = inl x.1.run
  run_next (responds q notes) x = inl x.2.run
  run_next (refuses q) x = inl x.2.run

  step_behind : (q : ℕ) (act : Act) (notes : List Note) → IsSeatStep table a b q act notes → (o : ℕ) → OthersBehind a o → OthersBehind b o
  step_behind q act notes x o h =
      let e : Event = record { pass = q; act = act } in
      let own : (b.seat q).trace ≡ b.run = x.step.next.next_is ∙ ((λ i. x.behind i ++ record { pass = x.pass i; act = act } ∷ []) ∙ sym x.run) in
      ⊎_elim
      (λ (same : o ≡ q). subst (OthersBehind b) (sym same) (subst (λ l. OthersStepOn q l b.run) (sym own) (others_none q b.run)))
      (λ (ne : o ≢ q). subst (λ (z : List Event × SeatView). OthersStepOn o z.1.trace z.0) (λ i. (sym x.run i, sym (x.others o ne) i)) (others_more o (a.seat o).trace a.run e (λ s. ne (sym s)) h))
      (cases_eq o q)

  shown_behind : (q : ℕ) (front : List Change) → b.run ≡ a.run → IsShownSteps table.layout a.run (a.seat q) (b.seat q) front ⊎ IsShownItself table.layout q (a.seat q) (b.seat q) front → OthersBehind a q →
      OthersBehind b q
  shown_behind q front run (inl s) h =
      let more = s.shown.run.others in subst (OthersStepOn q (b.seat q).trace) (sym run) (others_after q (a.seat q).trace (b.seat q).trace a.run h (more.0, more.1) s.begins)
  shown_behind q front run (inr s) h = subst (λ (z : List Event × List Event). OthersStepOn q z.1 z.0) (λ i. (sym run i, sym s.trace i)) h

  showing_behind : (q : ℕ) (front : List Change) → IsSeatShowing table a b q front → (o : ℕ) → OthersBehind a o → OthersBehind b o
  showing_behind q front x o h = ⊎_elim
      (λ (same : o ≡ q). subst (OthersBehind b) (sym same) (shown_behind q front x.run x.seat (subst (OthersBehind a) same h)))
      (λ (ne : o ≢ q). same_behind a b o x.run (x.others o ne) h)
      (cases_eq o q)

  turn_behind : (q : ℕ) (call : Option Pending) → IsSeatTurn table.layout a b q call → (o : ℕ) → OthersBehind a o → OthersBehind b o
  turn_behind q call x o h = same_behind a b o x.run (λ i. x.seats i o) h

  next_behind : (h : Happening) → ContractsLeadOn table at t h → (o : ℕ) → OthersBehind a o → OthersBehind b o
  next_behind (steps q act notes) x o h = step_behind q act notes x o h
  next_behind (shows q front) x o h = showing_behind q front x o h
  next_behind (invokes q calls) x o h = turn_behind q _ x.1 o h
  next_behind (responds q notes) x o h = turn_behind q None x.2 o h
  next_behind (refuses q) x o h = turn_behind q None x.2 o h

-- From the first time on

module _ (table : TableView) (last : ℕ) (at : ℕ → Instant) (happens : ℕ → Happening) (x : IsTracedExecution table last at happens) where
  behind_to : (n : ℕ) → n ≤ last → (o : ℕ) → OthersBehind (at n) o
  behind_to zero low o = subst (λ (z : List Event × List Event). OthersStepOn o z.1 z.0) (λ i. (sym x.run i, sym (x.seats o).2 i)) (others_none o [])
  behind_to (suc n) low o = next_behind table at n (happens n) (x.next n (omega (arith, low))) o (behind_to n (omega (arith, low)) o)

  -- from time i up to j the step has been made, behind these
  abbrev IsMade : List Event → Event → ℕ → ℕ → Type 0
  IsMade before l i j = (m : ℕ) × (notes : List Note) × (i ≤ m) × (m < j) × (happens m ≡ steps l.pass l.act notes) × ((at m).run ≡ before)

  -- or it stands in the run at time i
  abbrev IsMadeOrOld : List Event → Event → ℕ → ℕ → Type 0
  IsMadeOrOld before l i j = RunBeginsWith (at i).run (before ++ l ∷ []) ⊎ IsMade before l i j

  made_later : (before : List Event) (l : Event) (i j : ℕ) → IsMadeOrOld before l i j → IsMadeOrOld before l i (suc j)
  made_later before l i j (inl old) = inl old
  made_later before l i j (inr (m, notes, from, to, is, run)) = let to_next : m < suc j = omega (arith, to) in inr (m, notes, from, to_next, is, run)

  -- in the run at the next time it stands last, or stood before
  made_next : (before : List Event) (l : Event) (i j : ℕ) → i ≤ j → (RunBeginsWith (at j).run (before ++ l ∷ []) → IsMadeOrOld before l i j) → RunBeginsWith (at (suc j)).run (before ++ l ∷ []) →
      ((at (suc j)).run ≡ (at j).run) ⊎ ((e : Event) × IsStep table at j (happens j) e) → IsMadeOrOld before l i (suc j)
  made_next before l i j below earlier h (inl same) = made_later before l i j (earlier (subst (λ r. RunBeginsWith r (before ++ l ∷ [])) same h))
  made_next before l i j below earlier h (inr (e, (notes, is, grows))) = ⊎_elim
      (λ (g : RunBeginsWith (at j).run (before ++ l ∷ [])). made_later before l i j (earlier g))
      (λ (g : ((at j).run ≡ before) × (e ≡ l)). let now : j < suc j = omega arith in inr (j, notes, below, now, is ∙ ap (λ (z : Event). steps z.pass z.act notes) g.1, g.0))
      (last_or_before (at j).run before h.0 e l (sym grows ∙ h.1))

  made_since : (before : List Event) (l : Event) (i j : ℕ) → i ≤ j → j ≤ last → RunBeginsWith (at j).run (before ++ l ∷ []) → IsMadeOrOld before l i j
  made_since before l i zero low upto h = inl (subst (λ n. RunBeginsWith (at n).run (before ++ l ∷ [])) (let e : zero ≡ i = omega (arith, low) in e) h)
  made_since before l i (suc j) low upto h = ⊎_elim
      (λ (less : i < suc j). let below : i ≤ j = omega (arith, less) in
      made_next before l i j below (made_since before l i j below (omega (arith, upto))) h (run_next table at j (happens j) (x.next j (omega (arith, upto)))))
      (λ (more : suc j ≤ i). inl (subst (λ n. RunBeginsWith (at n).run (before ++ l ∷ [])) (let e : suc j ≡ i = omega (arith, low, more) in e) h))
      (cases_lt i (suc j))

  sound : (t : ℕ) → t ≤ last → IsSoundConfiguration table.layout (configuration_of table.layout (at t))
  sound = runs_stay_sound table.layout last (λ t. configuration_of table.layout (at t)) happens
      (executions_are_runs table.layout last (λ t. configuration_of table.layout (at t)) happens (traced_are_executions table last at happens x))

pub loads_are_moments : LoadsAreMoments
loads_are_moments table last at happens x q i j below order upto loads = ⊎_elim
    (λ early. absurd (not_others q ((at i).seat q).trace (at i).run loads.run l (behind_to table last at happens x i low q) loads.since early named))
    (λ (made : IsMade table last at happens x loads.run l i j).
    (made.0, made.1, made.2, made.3, made.4 ∙ ap (λ p. steps p l.act made.1) named, made.5, λ o few. seen made.0 (omega (arith, upto, made.3)) made.5 o few))
    (made_since table last at happens x loads.run l i j order upto whole)
  where
    low : i ≤ last
    low = omega (arith, order, upto)

    l : Event
    l = root_load ((at i).seat q).known.pass loads.root

    named : l.pass ≡ q
    named = (sound table last at happens x i low).named q below

    whole : RunBeginsWith (at j).run (loads.run ++ l ∷ [])
    whole =
        let behind = behind_to table last at happens x j upto q in
        begins_on (loads.run ++ l ∷ []) ((at j).seat q).trace (at j).run (loads.rest, loads.until ∙ sym (append_assoc loads.run (l ∷ []) loads.rest)) (behind.0, behind.1)

    -- the load was of the time's core
    loaded : (m : ℕ) → (at m).run ≡ loads.run → ((at j).seat q).known.fresh.front ≡ (core_led_to (opening table.layout) (at m).run).changes
    loaded m run = ap (λ (z : Fresh). z.front) loads.sees.fresh ∙
        (ap (λ (z : Core). z.changes) (core_is (opening table.layout) loads.run loads.sees.core loads.led) ∙ ap (λ r. (core_led_to (opening table.layout) r).changes) (sym run))

    seen : (m : ℕ) → m ≤ last → (at m).run ≡ loads.run → (o : ℕ) → o < table.layout.passes → BeginsWith ((at j).seat q).known.fresh.front ((at m).seat o).known.front
    seen m late run o few =
        let k : Known = ((at m).seat o).known in
        let knows : Knows (core_led_to (opening table.layout) (at m).run) k = (sound table last at happens x m late).knows o few in
        subst (λ f. BeginsWith f k.front) (sym (loaded m run)) (others_begin k.pass k.front (core_led_to (opening table.layout) (at m).run).changes knows.seen.front)
