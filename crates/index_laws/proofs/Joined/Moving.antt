-- The moves of an execution: a pass is shown something, invokes a call, makes a step, or its call ends.
use Rattle.index_laws.proofs.Common.{◌≡◌, ◌≢◌, ◌⊎◌, inl, inr, ℕ, suc, ◌<◌, ◌≤◌, List, [], ◌∷◌, ◌++◌, cond, nat_eq, Option, Some, None, refl, sym, ap, subst, ◌∙◌, arith, le_refl, eq-eqb, ne_eqb, Call, Change, Note, Layout, Act, Event, Known, learned, SeatView, TableView, OthersStepOn, others_more, others_none, Happening, Pending, invokes, refuses, responds, shows, steps}
use Rattle.index_laws.specs.Executions.{IsReturning}
use Rattle.index_laws.specs.Joined.{HasEndedAs, answered, loaded, looked_up, pass_in, quiet, refused, KeepCallsWhole}
use Rattle.index_laws.specs.Traced.{ContractsLeadOn, Instant, IsSeatShowing, IsSeatStep, IsSeatTurn, IsShownItself, IsShownSteps, MakesEvent, configuration_of}
use Rattle.index_laws.proofs.Traced.Reaching.{upto, upto-new, upto-old}
use Rattle.index_laws.proofs.Joined.Coming.{Begun, IsWaiting, MakesStep, Reached, Rest, Shows, Waits, put, reached_more, waits_on}

-- What may happen next

-- it is no invocation
abbrev pub Calm : Happening → Type 0
Calm (invokes q calls) = ⊥
Calm _ = Unit {0}

-- it ends no call
abbrev pub Midway : Happening → Type 0
Midway (responds q notes) = ⊥
Midway (refuses q) = ⊥
Midway _ = Unit {0}

pub calm_then : (tip h : Happening) → Calm tip → Midway h → KeepCallsWhole tip h
calm_then (invokes p calls) h calm midway = absurd calm
calm_then tip (responds q notes) calm midway = absurd midway
calm_then tip (refuses q) calm midway = absurd midway
calm_then tip h calm midway = tt

pub ends_next : {layout : Layout} {q : ℕ} {calls : List Call} {s e : SeatView} {h : Happening} (act : Act) (notes : List Note) →
    HasEndedAs layout q calls s e h → KeepCallsWhole (steps q act notes) h
ends_next act notes (answered asked reply is noted) = refl
ends_next act notes (looked_up asked are noted) = refl
ends_next act notes (quiet is same legal) = refl
ends_next act notes (loaded x) = refl
ends_next act notes (refused asked fault is denied may) = refl

pub ends_calm : {layout : Layout} {q : ℕ} {calls : List Call} {s e : SeatView} {h : Happening} → HasEndedAs layout q calls s e h → Calm h
ends_calm (answered asked reply is noted) = tt
ends_calm (looked_up asked are noted) = tt
ends_calm (quiet is same legal) = tt
ends_calm (loaded x) = tt
ends_calm (refused asked fault is denied may) = tt

ends_own : {layout : Layout} {q : ℕ} {calls : List Call} {s e : SeatView} {h : Happening} → HasEndedAs layout q calls s e h → pass_in h ≡ q
ends_own (answered asked reply is noted) = refl
ends_own (looked_up asked are noted) = refl
ends_own (quiet is same legal) = refl
ends_own (loaded x) = refl
ends_own (refused asked fault is denied may) = refl

-- The moves

abbrev pub rest : SeatView → Option Begun → List Happening → Rest
rest s o hs = record { seat = s; call = o; ahead = hs }

-- a value for q, and for others those of f
abbrev turned : {A : Type 0} → (ℕ → A) → ℕ → A → ℕ → A
turned f q a p = cond (nat_eq p q) a (f p)

turned-own : {A : Type 0} (f : ℕ → A) (q : ℕ) (a : A) → turned f q a q ≡ a
turned-own f q a = ap (λ b. cond b a (f q)) (eq-eqb q q refl)

turned-other : {A : Type 0} (f : ℕ → A) (q : ℕ) (a : A) (p : ℕ) → p ≢ q → turned f q a p ≡ f p
turned-other f q a p ne = ap (λ b. cond b a (f p)) (ne_eqb p q ne)

at_both : (P : Instant → Instant → Type 0) (n : ℕ) (at : ℕ → Instant) (b : Instant) → P (at n) b → P (upto n at b n) (upto n at b (suc n))
at_both P n at b h = subst (λ z. P z (upto n at b (suc n))) (sym (upto-old n at b n (le_refl n))) (subst (P (at n)) (sym (upto-new n at b)) h)

-- a step, with what was before it
record StepHere (table : TableView) (act : Act) (notes : List Note) (run : List Event) (u v : SeatView) : Type 0 where
  pub said : Known → List Note
  pub step : MakesEvent table act said u v
  pub notes_are : notes ≡ said (learned step.event.core act u.known)
  pub behind : step.next.before ≡ run

module _ (table : TableView) (whole : ℕ → List Happening) (q : ℕ) (below : q < table.layout.passes) (done : List Event) (left : ℕ →
    Rest) (tip : Happening) (x : Reached table whole done left tip) where
  abbrev n : ℕ
  n = x.last

  abbrev a : Instant
  a = x.at x.last

  module _ (s : SeatView) (o : Option Begun) (hs : List Happening) (is : left q ≡ rest s o hs) where
    seat_is : a.seat q ≡ s
    seat_is = x.seats q ∙ ap (λ (z : Rest). z.seat) is

    waits_is : Waits x.at n q o
    waits_is = subst (λ (z : Rest). Waits x.at n q z.call) is (x.waits q)

    pub pass_is : s.known.pass ≡ q
    pass_is = subst (λ (z : Rest). z.seat.known.pass ≡ q) is (x.named q)

    pub stands_is : OthersStepOn q s.trace done
    stands_is = subst (λ (z : Rest). OthersStepOn q z.seat.trace done) is (x.stands q)

  -- it is shown something

  module _ (s m : SeatView) (front : List Change) (hs : List Happening) (is : left q ≡ rest s None (shows q front ∷ hs)) (shows_so : Shows table s m front)
      (calm : Calm tip) (now : OthersStepOn q m.trace done) where
    abbrev after_show : Instant
    after_show = record { run = a.run; seat = turned a.seat q m; pending = a.pending }

    own_is : after_show.seat q ≡ m
    own_is = turned-own a.seat q m

    seats_show : Shows table s m front → IsShownSteps table.layout a.run (a.seat q) (after_show.seat q) front ⊎ IsShownItself table.layout q (a.seat q)
        (after_show.seat q) front
    seats_show (inl (all, more, known)) = inl (
        let here : IsShownSteps table.layout done s m front = record { shown = all; known = known; more = more; begins = (now.0, now.1) } in
        subst (λ r. IsShownSteps table.layout r (a.seat q) (after_show.seat q) front) (sym x.run)
        (subst (λ u. IsShownSteps table.layout done u (after_show.seat q) front) (sym (seat_is s None (shows q front ∷ hs) is))
        (subst (λ v. IsShownSteps table.layout done s v front) (sym own_is) here)))
    seats_show (inr (known, trace, e)) = inr (
        let here : IsShownItself table.layout q s m front = record { pass = below; known = known; trace = trace; front_is = e } in
        subst (λ u. IsShownItself table.layout q u (after_show.seat q) front) (sym (seat_is s None (shows q front ∷ hs) is))
        (subst (λ v. IsShownItself table.layout q s v front) (sym own_is) here))

    shown_pass : Shows table s m front → m.known.pass ≡ s.known.pass
    shown_pass (inl y) = y.0.pass
    shown_pass (inr y) = ap (λ (k : Known). k.pass) y.0

    showing : IsSeatShowing table a after_show q front
    showing = record { seat = seats_show shows_so; run = refl; others = λ p ne. turned-other a.seat q m p ne; pending = refl }

    pub show_more : Reached table whole done (put left q (rest m None hs)) (shows q front)
    show_more = reached_more table whole done done left tip (shows q front) q (rest m None hs) after_show x (record {
      run = x.run;
      seat = own_is;
      seats = λ p ne. turned-other a.seat q m p ne;
      waits = waits_on x.at n q after_show None (waits_is s None (shows q front ∷ hs) is) refl;
      pending = λ p ne. refl;
      whose = refl;
      ahead = ap (λ (z : Rest). z.ahead) is;
      leads = at_both (λ u v. IsSeatShowing table u v q front) n x.at after_show showing;
      follows = calm_then tip (shows q front) calm tt;
      named = shown_pass shows_so ∙ pass_is s None (shows q front ∷ hs) is;
      stands = now;
      others = λ p ne. x.stands p;
    })

  -- a call is invoked

  module _ (s : SeatView) (calls : List Call) (hs : List Happening) (is : left q ≡ rest s None (invokes q calls ∷ hs)) (calm : Calm tip) where
    abbrev begun : Begun
    begun = record { calls = calls; from = s }

    abbrev asks : Option Pending
    asks = Some (record { since = n; calls = calls })

    abbrev after_invoke : Instant
    after_invoke = record { run = a.run; seat = a.seat; pending = turned a.pending q asks }

    seat_there : (upto n x.at after_invoke n).seat q ≡ s
    seat_there = ap (λ (z : Instant). z.seat q) (upto-old n x.at after_invoke n (le_refl n)) ∙ seat_is s None (invokes q calls ∷ hs) is

    pub invoke_more : Reached table whole done (put left q (rest s (Some begun) hs)) (invokes q calls)
    invoke_more = reached_more table whole done done left tip (invokes q calls) q (rest s (Some begun) hs) after_invoke x (record {
      run = x.run;
      seat = seat_is s None (invokes q calls ∷ hs) is;
      seats = λ p ne. refl;
      waits = record {
        since = n;
        low = omega arith;
        pending = ap (λ (z : Instant). z.pending q) (upto-new n x.at after_invoke) ∙ turned-own a.pending q asks;
        from = seat_there;
      };
      pending = λ p ne. turned-other a.pending q asks p ne;
      whose = refl;
      ahead = ap (λ (z : Rest). z.ahead) is;
      leads = (
        subst (λ (z : Instant). z.pending q ≡ None) (sym (upto-old n x.at after_invoke n (le_refl n))) (waits_is s None (invokes q calls ∷ hs) is),
        at_both (λ u v. IsSeatTurn table.layout u v q asks) n x.at after_invoke
            (record { pass = below; run = refl; seats = refl; own = turned-own a.pending q asks; others = λ p ne. turned-other a.pending q asks p ne }),
      );
      follows = calm_then tip (invokes q calls) calm tt;
      named = pass_is s None (invokes q calls ∷ hs) is;
      stands = stands_is s None (invokes q calls ∷ hs) is;
      others = λ p ne. x.stands p;
    })

  -- a step is made

  module _ (s m : SeatView) (o : Begun) (act : Act) (notes : List Note) (hs : List Happening) (is : left q ≡ rest s (Some o) (steps q act notes ∷ hs))
      (made : MakesStep table act notes s m) (behind : made.step.next.before ≡ done) (next : KeepCallsWhole tip (steps q act notes)) where
    abbrev event : Event
    event = record { pass = q; act = act }

    abbrev after_step : Instant
    after_step = record { run = done ++ event ∷ []; seat = turned a.seat q m; pending = a.pending }

    here_is : a.seat q ≡ s
    here_is = seat_is s (Some o) (steps q act notes ∷ hs) is

    now_is : after_step.seat q ≡ m
    now_is = turned-own a.seat q m

    waiting : IsWaiting x.at n q o
    waiting = waits_is s (Some o) (steps q act notes ∷ hs) is

    step_here : StepHere table act notes a.run (a.seat q) (after_step.seat q)
    step_here =
        let here : StepHere table act notes done s m = record { said = made.said; step = made.step; notes_are = made.notes_are; behind = behind } in
        subst (λ r. StepHere table act notes r (a.seat q) (after_step.seat q)) (sym x.run)
        (subst (λ u. StepHere table act notes done u (after_step.seat q)) (sym here_is) (subst (λ v. StepHere table act notes done s v) (sym now_is) here))

    seat_step : IsSeatStep table a after_step q act notes
    seat_step = record {
      said = step_here.said;
      step = step_here.step;
      pass = ap (λ (z : SeatView). z.known.pass) here_is ∙ pass_is s (Some o) (steps q act notes ∷ hs) is;
      notes_are = step_here.notes_are;
      behind = step_here.behind;
      run = ap (λ l. l ++ event ∷ []) (sym x.run);
      others = λ p ne. turned-other a.seat q m p ne;
      call = record { since = waiting.since; calls = o.calls };
      called = waiting.pending;
      pending = refl;
    }

    trace_is : m.trace ≡ done ++ event ∷ []
    trace_is = made.step.next.next_is ∙ ap (λ l. l ++ record { pass = s.known.pass; act = act } ∷ []) behind ∙
        ap (λ p. done ++ record { pass = p; act = act } ∷ []) (pass_is s (Some o) (steps q act notes ∷ hs) is)

    pub step_more : Reached table whole (done ++ event ∷ []) (put left q (rest m (Some o) hs)) (steps q act notes)
    step_more = reached_more table whole done (done ++ event ∷ []) left tip (steps q act notes) q (rest m (Some o) hs) after_step x (record {
      run = refl;
      seat = now_is;
      seats = λ p ne. turned-other a.seat q m p ne;
      waits = waits_on x.at n q after_step (Some o) waiting refl;
      pending = λ p ne. refl;
      whose = refl;
      ahead = ap (λ (z : Rest). z.ahead) is;
      leads = at_both (λ u v. IsSeatStep table u v q act notes) n x.at after_step seat_step;
      follows = next;
      named = made.step.seat.2 ∙ pass_is s (Some o) (steps q act notes ∷ hs) is;
      stands = subst (λ l. OthersStepOn q l (done ++ event ∷ [])) (sym trace_is) (others_none q (done ++ event ∷ []));
      others = λ p ne. others_more p (left p).seat.trace done event (λ e. ne (sym e)) (x.stands p);
    })

  -- a call ends

  module _ (m : SeatView) (o : Begun) (h : Happening) (hs : List Happening) (is : left q ≡ rest m (Some o) (h ∷ hs))
      (ends : HasEndedAs table.layout q o.calls o.from m h)
      (next : KeepCallsWhole tip h) where
    abbrev after_end : Instant
    after_end = record { run = a.run; seat = a.seat; pending = turned a.pending q None }

    abbrev at_end : ℕ → Instant
    at_end = upto n x.at after_end

    here : at_end n ≡ a
    here = upto-old n x.at after_end n (le_refl n)

    w : IsWaiting x.at n q o
    w = waits_is m (Some o) (h ∷ hs) is

    abbrev call : Pending
    call = record { since = w.since; calls = o.calls }

    returning : IsReturning (λ i. configuration_of table.layout (at_end i)) q n call o.from m
    returning =
        let low : w.since ≤ n = w.low in
        record {
          pending = ap (λ (z : Instant). z.pending q) here ∙ w.pending;
          before = sym (ap (λ (z : Instant). (z.seat q).known) (upto-old n x.at after_end w.since low) ∙ ap (λ (z : SeatView). z.known) w.from);
          now = sym (ap (λ (z : Instant). (z.seat q).known) here ∙ ap (λ (z : SeatView). z.known) (seat_is m (Some o) (h ∷ hs) is));
          pass = pass_is m (Some o) (h ∷ hs) is;
          later = low;
        }

    turn : IsSeatTurn table.layout (at_end n) (at_end (suc n)) q None
    turn = at_both (λ u v. IsSeatTurn table.layout u v q None) n x.at after_end
        (record { pass = below; run = refl; seats = refl; own = turned-own a.pending q None; others = λ p ne. turned-other a.pending q None p ne })

    leads_on : {z : Happening} → HasEndedAs table.layout q o.calls o.from m z → ContractsLeadOn table at_end n z
    leads_on (answered asked reply calls noted) =
        (call, (o.from, m, returning, inl (record { asked = asked; reply = reply; calls = calls; noted = noted; notes_are = refl })), turn)
    leads_on (looked_up asked are noted) =
        (call, (o.from, m, returning, inr (inl (record { asked = asked; calls = are; noted = noted; notes_are = refl }))), turn)
    leads_on (quiet calls same legal) = (call, (o.from, m, returning, inr (inr (inl (record { calls = calls; same = same; legal = legal; notes_are = refl })))), turn)
    leads_on (loaded y) = (call, (o.from, m, returning, inr (inr (inr y))), turn)
    leads_on (refused asked fault calls denied may) = (call, (o.from, m, asked, fault, returning, calls, denied, may), turn)

    pub end_more : Reached table whole done (put left q (rest m None hs)) h
    end_more = reached_more table whole done done left tip h q (rest m None hs) after_end x (record {
      run = x.run;
      seat = seat_is m (Some o) (h ∷ hs) is;
      seats = λ p ne. refl;
      waits = ap (λ (z : Instant). z.pending q) (upto-new n x.at after_end) ∙ turned-own a.pending q None;
      pending = λ p ne. turned-other a.pending q None p ne;
      whose = ends_own ends;
      ahead = ap (λ (z : Rest). z.ahead) is;
      leads = leads_on ends;
      follows = next;
      named = pass_is m (Some o) (h ∷ hs) is;
      stands = stands_is m (Some o) (h ∷ hs) is;
      others = λ p ne. x.stands p;
    })
