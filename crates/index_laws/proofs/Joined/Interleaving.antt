-- The lives of passes whose traces have ended in one run, interleaved as their steps stand in it.
use Rattle.index_laws.proofs.Common.{◌≡◌, ◌≢◌, inl, inr, ⊎_elim, ℕ, zero, suc, ◌<◌, ◌≤◌, List, [], ◌∷◌, ◌++◌, Option, Some, None, refl, sym, ap, subst, ◌∙◌, arith, le_refl, append_assoc, append-nil, All, cases_eq, cases_lt, All-cons, All-head, All-nil, All-tail, All-weaker, Call, Change, Note, Layout, Act, Event, Known, Core, IsLawful, after, opening, EventsLead, opening_is_lawful, stays_lawful, load_of, opening_of, Ends, Runs, StepsWith, silent, IsNewSeatOf, SeatView, TableView, OthersStepOn, RunBeginsWith, begins_on, runs_same, untold, Happening, invokes, responds, shows, steps}
use Rattle.rowex_table.proofs.Onward.{others_begin}
use Rattle.index_laws.specs.Joined.{HasGoneThrough, HasEndedAs, HaveEndedInOneRun, IsExecutionOf, call_of, called, happenings_of, loaded, loader, new, notes_of_end, shown, stamped, steps_of, KeepCallsWhole}
use Rattle.index_laws.specs.Traced.{Instant, MakesEvent}
use Rattle.index_laws.specs.Executions.{insertion_notes, insertions}
use Rattle.index_laws.proofs.Executions.Loaded.{makes_load, unloaded}
use Rattle.index_laws.proofs.Joined.Coming.{Begun, Life, MakesStep, Reached, Rest, Shows, Waits, asks, closes, goes, life_begins, over, put, put-other, put-own, sees}
use Rattle.index_laws.proofs.Joined.Moving.{Calm, calm_then, end_more, ends_calm, ends_next, invoke_more, pass_is, rest, show_more, stands_is, step_more}
use Rattle.index_laws.proofs.Joined.Placing.{no_step_left, none_next, shown_last, shown_next, step_next}

-- Up to the next step of the run

-- The execution has come to the steps `to`: pass q has gone on with its life, and the others are where they were.
record Went (table : TableView) (whole : ℕ → List Happening) (q : ℕ) (left : ℕ → Rest) (to : List Event) (e : SeatView) : Type 0 where
  pub now : ℕ → Rest
  pub tip : Happening
  pub reached : Reached table whole to now tip
  pub mine : Life table q (now q).seat (now q).call (now q).ahead e
  pub others : (p : ℕ) → p ≢ q → now p ≡ left p
  pub calm : Calm tip

went_on : (table : TableView) (whole : ℕ → List Happening) (q : ℕ) (left : ℕ → Rest) (r : Rest) (to : List Event) (e : SeatView) →
    Went table whole q (put left q r) to e → Went table whole q left to e
went_on table whole q left r to e w = record {
  now = w.now;
  tip = w.tip;
  reached = w.reached;
  mine = w.mine;
  others = λ p ne. w.others p ne ∙ put-other left q r p ne;
  calm = w.calm;
}

there : (table : TableView) (q : ℕ) (left : ℕ → Rest) (s e : SeatView) (o : Option Begun) (hs : List Happening) → Life table q s o hs e →
    Life table q (put left q (rest s o hs) q).seat (put left q (rest s o hs) q).call (put left q (rest s o hs) q).ahead e
there table q left s e o hs l = subst (λ (z : Rest). Life table q z.seat z.call z.ahead e) (sym (put-own left q (rest s o hs))) l

module _ (table : TableView) (whole : ℕ → List Happening) (q : ℕ) (below : q < table.layout.passes) (done todo : List Event) (x : Event) (own : x.pass ≡ q) where
  -- the pass's own next step is x
  is_next : {act : Act} {notes : List Note} {s m : SeatView} (e : SeatView) → (made : MakesStep table act notes s m) → s.known.pass ≡ q →
      OthersStepOn q s.trace done → RunBeginsWith e.trace m.trace →
      OthersStepOn q e.trace (done ++ x ∷ todo) → (made.step.next.before ≡ done) × (record { pass = q; act = act } ≡ x)
  is_next {act} {notes} {s} {m} e made named stands ahead all =
      let y : Event = record { pass = s.known.pass; act = act } in
      let before : List Event = made.step.next.before in
      let run : List Event = done ++ x ∷ todo in
      let begins : RunBeginsWith run m.trace = begins_on m.trace e.trace run ahead (others_begin q e.trace run all) in
      let f = step_next q s.trace done before todo x y stands (subst (λ p. OthersStepOn p s.trace before) named made.step.next.others) own named
      (subst (RunBeginsWith run) made.step.next.next_is begins) in
      (f.0, ap (λ p. let z : Event = record { pass = p; act = act } in z) (sym named) ∙ f.1)

  go_on : {s e : SeatView} {o : Begun} {hs : List Happening} → Life table q s (Some o) hs e → (left : ℕ → Rest) (tip : Happening) →
      Reached table whole done left tip → left q ≡ rest s (Some o) hs →
      ((act : Act) (notes : List Note) → KeepCallsWhole tip (steps q act notes)) → OthersStepOn q e.trace (done ++ x ∷ todo) → Went table whole q left (done ++ x ∷ []) e
  go_on {o = o} (goes {s = s} {m = m} {e = e} {hs = hs} act notes made l) left tip r is next all =
      let f = is_next e made (pass_is table whole q below done left tip r s (Some o) (steps q act notes ∷ hs) is)
      (stands_is table whole q below done left tip r s (Some o) (steps q act notes ∷ hs) is) (life_begins l) all in
      let now : ℕ → Rest = put left q (rest m (Some o) hs) in
      record {
        now = now;
        tip = steps q act notes;
        reached = subst (λ z. Reached table whole (done ++ z ∷ []) now (steps q act notes)) f.1
            (step_more table whole q below done left tip r s m o act notes hs is made f.0 (next act notes));
        mine = there table q left m e (Some o) hs l;
        others = λ p ne. put-other left q (rest m (Some o) hs) p ne;
        calm = tt;
      }
  go_on {o = o} (closes {s = s} {m = m} {e = e} {hs = hs} act notes h made ends l) left tip r is next all =
      let f = is_next e made (pass_is table whole q below done left tip r s (Some o) (steps q act notes ∷ h ∷ hs) is)
      (stands_is table whole q below done left tip r s (Some o) (steps q act notes ∷ h ∷ hs) is) (life_begins l) all in
      let between : ℕ → Rest = put left q (rest m (Some o) (h ∷ hs)) in
      let made_it = step_more table whole q below done left tip r s m o act notes (h ∷ hs) is made f.0 (next act notes) in
      let event : Event = record { pass = q; act = act } in
      let now : ℕ → Rest = put between q (rest m None hs) in
      let at_end = end_more table whole q below (done ++ event ∷ []) between (steps q act notes) made_it m o h hs (put-own left q (rest m (Some o) (h ∷ hs))) ends
      (ends_next act notes ends) in
      went_on table whole q left (rest m (Some o) (h ∷ hs)) (done ++ x ∷ []) e (record {
        now = now;
        tip = h;
        reached = subst (λ z. Reached table whole (done ++ z ∷ []) now h) f.1 at_end;
        mine = there table q between m e None hs l;
        others = λ p ne. put-other between q (rest m None hs) p ne;
        calm = ends_calm ends;
      })

  now_shown : (s m : SeatView) (front : List Change) → Shows table s m front → s.known.pass ≡ q → OthersStepOn q s.trace done →
      RunBeginsWith (done ++ x ∷ todo) m.trace → OthersStepOn q m.trace done
  now_shown s m front (inl y) named stands begins = shown_next q s.trace done m.trace todo x stands (subst
      (λ p. OthersStepOn p s.trace m.trace) named y.0.run.others) own begins
  now_shown s m front (inr y) named stands begins = subst (λ l. OthersStepOn q l done) (sym y.1) stands

  go : {s e : SeatView} {hs : List Happening} → Life table q s None hs e → (left : ℕ → Rest) (tip : Happening) → Reached table whole done left tip →
      left q ≡ rest s None hs → Calm tip →
      OthersStepOn q e.trace (done ++ x ∷ todo) → Went table whole q left (done ++ x ∷ []) e
  go (over {s = s}) left tip r is calm all = absurd (none_next q s.trace done todo x (stands_is table whole q below done left tip r s None [] is) all own)
  go (sees {s = s} {m = m} {e = e} {hs = hs} front so l) left tip r is calm all =
      let run : List Event = done ++ x ∷ todo in
      let now = now_shown s m front so (pass_is table whole q below done left tip r s None (shows q front ∷ hs) is)
      (stands_is table whole q below done left tip r s None (shows q front ∷ hs) is)
      (begins_on m.trace e.trace run (life_begins l) (others_begin q e.trace run all)) in
      went_on table whole q left (rest m None hs) (done ++ x ∷ []) e
      (go l (put left q (rest m None hs)) (shows q front) (show_more table whole q below done left tip r s m front hs is so calm now) (put-own left q
      (rest m None hs)) tt all)
  go (asks {s = s} {e = e} {hs = hs} calls l) left tip r is calm all =
      let o : Begun = record { calls = calls; from = s } in
      went_on table whole q left (rest s (Some o) hs) (done ++ x ∷ []) e
      (go_on l (put left q (rest s (Some o) hs)) (invokes q calls) (invoke_more table whole q below done left tip r s calls hs is calm) (put-own left q (rest s
      (Some o) hs)) (λ act notes. refl) all)

  go_any : {s e : SeatView} (o : Option Begun) {hs : List Happening} → Life table q s o hs e → (left : ℕ → Rest) (tip : Happening) →
      Reached table whole done left tip → left q ≡ rest s o hs → Calm tip →
      OthersStepOn q e.trace (done ++ x ∷ todo) → Went table whole q left (done ++ x ∷ []) e
  go_any None l left tip r is calm all = go l left tip r is calm all
  go_any (Some o) l left tip r is calm all = go_on l left tip r is (λ act notes. calm_then tip (steps q act notes) calm tt) all

-- Where no step of the run is left

-- The execution has all steps, and pass q has come to its seat at last.
record HasCome (table : TableView) (whole : ℕ → List Happening) (q : ℕ) (left : ℕ → Rest) (done : List Event) (e : SeatView) : Type 0 where
  pub now : ℕ → Rest
  pub tip : Happening
  pub reached : Reached table whole done now tip
  pub mine : now q ≡ rest e None []
  pub others : (p : ℕ) → p ≢ q → now p ≡ left p
  pub calm : Calm tip

module _ (table : TableView) (whole : ℕ → List Happening) (q : ℕ) (below : q < table.layout.passes) (done : List Event) where
  step_left : {act : Act} {notes : List Note} {s m : SeatView} (e : SeatView) → (made : MakesStep table act notes s m) → s.known.pass ≡ q →
      OthersStepOn q s.trace done → RunBeginsWith e.trace m.trace →
      OthersStepOn q e.trace done → ⊥
  step_left {act} {notes} {s} {m} e made named stands ahead all =
      let y : Event = record { pass = s.known.pass; act = act } in
      let before : List Event = made.step.next.before in
      no_step_left q s.trace done before y stands (subst (λ p. OthersStepOn p s.trace before) named made.step.next.others) named
      (subst (RunBeginsWith done) made.step.next.next_is (begins_on m.trace e.trace done ahead (others_begin q e.trace done all)))

  none_begun : {s e : SeatView} {o : Begun} {hs : List Happening} → Life table q s (Some o) hs e → s.known.pass ≡ q → OthersStepOn q s.trace done →
      OthersStepOn q e.trace done → ⊥
  none_begun (goes {s = s} {m = m} {e = e} act notes made l) named stands all = step_left e made named stands (life_begins l) all
  none_begun (closes {s = s} {m = m} {e = e} act notes h made ends l) named stands all = step_left e made named stands (life_begins l) all

  shown_then : (s m : SeatView) (front : List Change) → Shows table s m front → s.known.pass ≡ q → OthersStepOn q s.trace done → RunBeginsWith done m.trace →
      OthersStepOn q m.trace done
  shown_then s m front (inl y) named stands begins = shown_last q s.trace done m.trace stands (subst (λ p. OthersStepOn p s.trace m.trace) named y.0.run.others) begins
  shown_then s m front (inr y) named stands begins = subst (λ l. OthersStepOn q l done) (sym y.1) stands

  come : {s e : SeatView} {hs : List Happening} → Life table q s None hs e → (left : ℕ → Rest) (tip : Happening) → Reached table whole done left tip →
      left q ≡ rest s None hs → Calm tip →
      OthersStepOn q e.trace done → HasCome table whole q left done e
  come over left tip r is calm all = record { now = left; tip = tip; reached = r; mine = is; others = λ p ne. refl; calm = calm }
  come (sees {s = s} {m = m} {e = e} {hs = hs} front so l) left tip r is calm all =
      let now = shown_then s m front so (pass_is table whole q below done left tip r s None (shows q front ∷ hs) is)
      (stands_is table whole q below done left tip r s None (shows q front ∷ hs) is)
      (begins_on m.trace e.trace done (life_begins l) (others_begin q e.trace done all)) in
      let next : ℕ → Rest = put left q (rest m None hs) in
      let h = come l next (shows q front) (show_more table whole q below done left tip r s m front hs is so calm now) (put-own left q (rest m None hs)) tt all in
      record { now = h.now; tip = h.tip; reached = h.reached; mine = h.mine; others = λ p ne. h.others p ne ∙ put-other left q (rest m None hs) p ne; calm = h.calm }
  come (asks {s = s} {e = e} {hs = hs} calls l) left tip r is calm all =
      absurd (none_begun l (pass_is table whole q below done left tip r s None (invokes q calls ∷ hs) is) (stands_is table whole q below done left tip r s None
      (invokes q calls ∷ hs) is) all)

  come_any : {s e : SeatView} (o : Option Begun) {hs : List Happening} → Life table q s o hs e → (left : ℕ → Rest) (tip : Happening) →
      Reached table whole done left tip → left q ≡ rest s o hs → Calm tip →
      OthersStepOn q e.trace done → HasCome table whole q left done e
  come_any None l left tip r is calm all = come l left tip r is calm all
  come_any {s} {e} (Some o) {hs} l left tip r is calm all =
      absurd (none_begun l (pass_is table whole q below done left tip r s (Some o) hs is) (stands_is table whole q below done left tip r s (Some o) hs is) all)

-- All passes

module _ (table : TableView) (whole : ℕ → List Happening) (end : ℕ → SeatView) where
  abbrev Lives : (ℕ → Rest) → Type 0
  Lives left = (q : ℕ) → Life table q (left q).seat (left q).call (left q).ahead (end q)

  -- the execution has come so far, with these lives left
  record HasRun (done : List Event) : Type 0 where
    pub left : ℕ → Rest
    pub tip : Happening
    pub reached : Reached table whole done left tip
    pub lives : Lives left
    pub calm : Calm tip

  run_on : (todo done : List Event) → HasRun done → All (λ (x : Event). x.pass < table.layout.passes) todo → ((q : ℕ) →
      OthersStepOn q (end q).trace (done ++ todo)) → HasRun (done ++ todo)
  run_on [] done r below all = subst HasRun (sym (append-nil done)) r
  run_on (x ∷ todo) done r below all =
      let q : ℕ = x.pass in
      let w = go_any table whole q (All-head (λ (x : Event). x.pass < table.layout.passes) x todo below) done todo x refl (r.left q).call
      (r.lives q) r.left r.tip r.reached refl r.calm (all q) in
      let next : HasRun (done ++ x ∷ []) = record {
        left = w.now;
        tip = w.tip;
        reached = w.reached;
        lives = λ p. ⊎_elim
            (λ (e : p ≡ q). subst (λ k. Life table k (w.now k).seat (w.now k).call (w.now k).ahead (end k)) (sym e) w.mine)
            (λ (ne : p ≢ q). subst (λ (z : Rest). Life table p z.seat z.call z.ahead (end p)) (sym (w.others p ne)) (r.lives p))
            (cases_eq p q);
        calm = w.calm;
      } in
      let join : (done ++ x ∷ []) ++ todo ≡ done ++ x ∷ todo = append_assoc done (x ∷ []) todo in
      subst HasRun join (run_on todo (done ++ x ∷ []) next (All-tail (λ (x : Event). x.pass < table.layout.passes) x todo below) (λ p. subst (OthersStepOn p
      (end p).trace) (sym join) (all p)))

  -- and the first n passes have come to their seats at last
  record HasEnded (done : List Event) (n : ℕ) : Type 0 where
    pub run : HasRun done
    pub ended : (q : ℕ) → q < n → run.left q ≡ rest (end q) None []

  end_up : (done : List Event) → HasRun done → ((q : ℕ) → OthersStepOn q (end q).trace done) → (n : ℕ) → n ≤ table.layout.passes → HasEnded done n
  end_up done r all zero low = record { run = r; ended = λ q none. absurd (omega (arith, none)) }
  end_up done r all (suc n) low =
      let before = end_up done r all n (omega (arith, low)) in
      let b : HasRun done = before.run in
      let h = come_any table whole n (omega (arith, low)) done (b.left n).call (b.lives n) b.left b.tip b.reached refl b.calm (all n) in
      record {
        run = record {
          left = h.now;
          tip = h.tip;
          reached = h.reached;
          lives = λ p. ⊎_elim
              (λ (e : p ≡ n). subst (λ k. Life table k (h.now k).seat (h.now k).call (h.now k).ahead (end k)) (sym e) (subst (λ
              (z : Rest). Life table n z.seat z.call z.ahead (end n)) (sym h.mine) over))
              (λ (ne : p ≢ n). subst (λ (z : Rest). Life table p z.seat z.call z.ahead (end p)) (sym (h.others p ne)) (b.lives p))
              (cases_eq p n);
          calm = h.calm;
        };
        ended = λ p lower. ⊎_elim
            (λ (e : p ≡ n). subst (λ k. h.now k ≡ rest (end k) None []) (sym e) h.mine)
            (λ (ne : p ≢ n). h.others p ne ∙ before.ended p (omega (arith, lower, ne)))
            (cases_eq p n);
      }

-- Lives from what passes have done

abbrev event_of : {table : TableView} {act : Act} {said : Known → List Note} {s m : SeatView} → StepsWith table untold act said (s, tt) (m, tt) → MakesEvent table act said s m
event_of x = record { seat = x.seat; event = x.event; next = x.next }

silent_step : {table : TableView} {act : Act} {s m : SeatView} → StepsWith table untold act silent (s, tt) (m, tt) → MakesStep table act [] s m
silent_step x = record { said = silent; step = event_of x; notes_are = refl }

along : (table : TableView) (q : ℕ) (acts : List Act) (s f e : SeatView) (o : Begun) (hs : List Happening) → Runs table untold acts (s, tt) (f, tt) →
    Life table q f (Some o) hs e → Life table q s (Some o) (steps_of q acts ++ hs) e
along table q [] s f e o hs runs l = subst (λ (z : SeatView). Life table q z (Some o) hs e) (ap (λ (z : SeatView × Unit {0}). z.0) runs) l
along table q (act ∷ acts) s f e o hs (m, x, runs) l = goes act [] (silent_step x) (along table q acts m.0 f e o hs runs l)

call_of-rest : (q : ℕ) (calls : List Call) (acts : List Act) (last : Act) (notes : List Note) (h : Happening) (hs : List Happening) →
    call_of q calls acts last notes h ++ hs ≡ invokes q calls ∷ (steps_of q acts ++ steps q last notes ∷ h ∷ hs)
call_of-rest q calls acts last notes h hs = ap (λ l. invokes q calls ∷ l) (append_assoc (steps_of q acts) (steps q last notes ∷ h ∷ []) hs)

one_call : (table : TableView) (q : ℕ) (s m e : SeatView) (hs : List Happening) (calls : List Call) (acts : List Act) (last : Act) (said : Known → List Note) →
    (ends : Ends table untold acts last said (s, tt) (m, tt)) → (h : Happening) → HasEndedAs table.layout q calls s m h → Life table q m None hs e →
    Life table q s None (call_of q calls acts last (notes_of_end table acts last said s m ends) h ++ hs) e
one_call table q s m e hs calls acts last said ends h so l =
    let notes : List Note = notes_of_end table acts last said s m ends in
    let o : Begun = record { calls = calls; from = s } in
    let made : MakesStep table last notes ends.0.0 m = record { said = said; step = event_of ends.2; notes_are = refl } in
    let ended : Life table q ends.0.0 (Some o) (steps q last notes ∷ h ∷ hs) e = closes last notes h made so l in
    subst (λ z. Life table q s None z e) (sym (call_of-rest q calls acts last notes h hs))
    (asks calls (along table q acts s ends.0.0 e o (steps q last notes ∷ h ∷ hs) ends.1 ended))

-- a life from the new seat on
record IsLife (table : TableView) (q : ℕ) (hs : List Happening) (e : SeatView) : Type 0 where
  pub start : SeatView
  pub fresh : IsNewSeatOf table q start
  pub life : Life table q start None hs e

life_of : {table : TableView} {q : ℕ} {done : List Happening} {s : SeatView} → q < table.layout.passes → HasGoneThrough table q done s → (hs : List Happening) (e : SeatView) →
    Life table q s None hs e → IsLife table q (done ++ hs) e
life_of low (new {start = s} is) hs e l = record { start = s; fresh = is; life = l }
life_of {table} {q} low (loader {start = m} first words load is) hs e l =
    let notes : List Note = insertion_notes table.layout words in
    let start : SeatView = unloaded m in
    let made : MakesStep table (load_of words) notes start m = record {
      said = λ k. notes;
      step = makes_load table words m (subst (λ p. p < table.layout.passes) first low) load is;
      notes_are = refl;
    } in
    record {
      start = start;
      fresh = (is.0, ap opening_of (sym first), refl, refl);
      life = asks (insertions table.layout words) (closes (load_of words) notes (responds q notes) made
          (loaded (record { words = words; load = load; new = refl; loader = is.1; calls_are = refl; notes_are = refl })) l);
    }
life_of {table} {q} low (called {done = done} {start = s} {end = m} before_it calls acts last said ends {ended = h} so) hs e l =
    let this : List Happening = call_of q calls acts last (notes_of_end table acts last said s m ends) h in
    subst (λ z. IsLife table q z e) (sym (append_assoc done this hs)) (life_of low before_it (this ++ hs) e (one_call table q s m e hs calls acts last said ends h so l))
life_of {table} {q} low (shown {done = done} {start = s} {end = m} before_it all more known) hs e l =
    subst (λ z. IsLife table q z e) (sym (append_assoc done (shows q m.known.front ∷ []) hs)) (life_of low before_it (shows q m.known.front ∷ hs) e (sees m.known.front
    (inl (all, more, known)) l))
life_of {table} {q} low (stamped {done = done} {start = s} {end = m} before_it known trace) hs e l =
    subst (λ z. IsLife table q z e) (sym (append_assoc done (shows q s.known.front ∷ []) hs))
    (life_of low before_it (shows q s.known.front ∷ hs) e (sees s.known.front (inr (known, trace, refl)) l))

-- the seat at last is the pass's
runs_named : (table : TableView) (acts : List Act) (s e : SeatView) → Runs table untold acts (s, tt) (e, tt) → e.known.pass ≡ s.known.pass
runs_named table acts s e runs = (runs_same table untold acts (s, tt) (e, tt) runs).2

pub named_by : {table : TableView} {q : ℕ} {done : List Happening} {s : SeatView} → HasGoneThrough table q done s → s.known.pass ≡ q
named_by (new is) = ap (λ (k : Known). k.pass) is.1
named_by (loader first words load is) = ap (λ (k : Known). k.pass) is.1 ∙ sym first
named_by {table} (called {start = s} before_it calls acts last said ends so) = ends.2.seat.2 ∙ (runs_named table acts s ends.0.0 ends.1 ∙ named_by before_it)
named_by (shown before_it all more known) = all.pass ∙ named_by before_it
named_by (stamped before_it known trace) = ap (λ (k : Known). k.pass) known ∙ named_by before_it

-- Steps are those of passes of the table

all_below : (layout : Layout) (c : Core) (xs : List Event) (d : Core) → IsLawful c → c.layout ≡ layout → EventsLead c xs d →
    All (λ (x : Event). x.pass < layout.passes) xs
all_below layout c [] d lawful is led = All-nil (λ (x : Event). x.pass < layout.passes)
all_below layout c (x ∷ xs) d lawful is (legal, led) = All-cons (λ (x : Event). x.pass < layout.passes) x xs (subst (λ (l : Layout). x.pass < l.passes) is legal.0)
    (all_below layout (after c x.pass x.act) xs d (stays_lawful c x.pass x.act lawful legal) is led)

-- The execution

module _ (table : TableView) (run : List Event) (done : ℕ → List Happening) (seat : ℕ → SeatView) (x : HaveEndedInOneRun table run done seat) where
  run_below : All (λ (x : Event). x.pass < table.layout.passes) run
  run_below = all_below table.layout (opening table.layout) run x.led.0 (opening_is_lawful table.layout).0 refl x.led.1

  -- the life of each number: nothing, if it is no pass's
  record Lived (q : ℕ) : Type 0 where
    pub hs : List Happening
    pub end : SeatView
    pub life : IsLife table q hs end
    pub others : OthersStepOn q end.trace run
    pub same : q < table.layout.passes → (hs ≡ done q) × (end ≡ seat q)

  lived : (q : ℕ) → Lived q
  lived q = ⊎_elim
      (λ (low : q < table.layout.passes). record {
        hs = done q ++ [];
        end = seat q;
        life = life_of low (x.each q low) [] (seat q) over;
        others = x.others q low;
        same = λ _. (append-nil (done q), refl);
      })
      (λ (high : table.layout.passes ≤ q).
      let s : SeatView = record { table = table.id; id = 0; known = opening_of q; trace = []; asides = 0; touches = 0; bounds = [] } in
      record {
        hs = [];
        end = s;
        life = record { start = s; fresh = (refl, refl, refl, refl); life = over };
        others = (
          run,
          refl,
          All-weaker (λ (x : Event). x.pass < table.layout.passes) (λ (x : Event). x.pass ≢ q) (λ y low e. absurd (omega
              (arith, low, high, e))) run run_below,
        );
        same = λ low. absurd (omega (arith, low, high));
      })
      (cases_lt q table.layout.passes)

  abbrev whole : ℕ → List Happening
  whole q = (lived q).hs

  abbrev end : ℕ → SeatView
  end q = (lived q).end

  abbrev start : ℕ → Rest
  start q = rest (lived q).life.start None (lived q).hs

  begins : Reached table whole [] start (shows 0 [])
  begins = record {
    last = 0;
    at = λ t. record { run = []; seat = λ q. (lived q).life.start; pending = λ q. None };
    happens = λ t. shows 0 [];
    traced = record { run = refl; seats = λ q. (lived q).life.fresh; pending = λ q. refl; next = λ t none. absurd (omega (arith, none)) };
    run = refl;
    seats = λ q. refl;
    waits = λ q. refl;
    own = λ q. refl;
    tip_is = refl;
    next_to = λ t none. absurd (omega (arith, none));
    named = λ q. ap (λ (k : Known). k.pass) (lived q).life.fresh.1;
    stands = λ q. subst (λ l. OthersStepOn q l []) (sym (lived q).life.fresh.2) ([], refl, All-nil (λ (x : Event). x.pass ≢ q));
  }

  ran : HasRun table whole end run
  ran = run_on table whole end run [] (record { left = start; tip = shows 0 []; reached = begins; lives = λ q. (lived q).life.life; calm = tt }) run_below (λ q.
      (lived q).others)

  came : HasEnded table whole end run table.layout.passes
  came = end_up table whole end run ran (λ q. (lived q).others) table.layout.passes (le_refl table.layout.passes)

  pub one_execution : (last : ℕ) × (at : ℕ → Instant) × (happens : ℕ → Happening) × IsExecutionOf table run done seat last at happens
  one_execution =
      let r = came.run.reached in (
        r.last,
        r.at,
        r.happens,
        record {
          traced = r.traced;
          run_is = r.run;
          does = λ q low. sym (append-nil (happenings_of q r.happens r.last)) ∙ (subst (λ (z : Rest). happenings_of q r.happens r.last ++ z.ahead ≡ whole q)
              (came.ended q low) (r.own q) ∙ ((lived q).same low).0);
          seats = λ q low. r.seats q ∙ (ap (λ (z : Rest). z.seat) (came.ended q low) ∙ ((lived q).same low).1);
          idle = λ q low. subst (λ (z : Rest). Waits r.at r.last q z.call) (came.ended q low) (r.waits q);
          next_to = r.next_to;
        },
      )
