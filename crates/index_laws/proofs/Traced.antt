-- Executions by contracts alone, and the order of calls by traces.
pub mod Loading
pub mod Reaching
use Rattle.index_laws.proofs.Common.{◌≡◌, ◌⊎◌, ◌<◌, ◌≤◌, inl, inr, ⊎_elim, ℕ, zero, suc, List, [], ◌∷◌, ◌++◌, Bool, true, false, if◌then◌else◌, nat_eq, Option, None, refl, sym, ap, subst, ◌∙◌, arith, append_assoc, cases_lt, eq-eqb, All-head, All-tail, All, Change, Note, StandsIn, BeginsWith, begins_itself, others_begin, place_after-within, Layout, Act, LoadRef, Event, Root, Fresh, Known, Witness, Core, Legal, after, Knows, learned, opening, AreOthers, EventsLead, learns, runs_keep, runs_stay_lawful, with_front, StepsWith, root_load, SeatView, TableView, RunBeginsWith, own_acts, renoted, lead_rest, run_begins_on, led_more, of_one_run, runs_same, untold, last_of, Happening, IsCallTurn, IsConfigurationStep, IsNewIndex, IsShowing, IsSoundConfiguration, Configuration, Pending, invokes, refuses, responds, shows, steps, runs_stay_sound}
use Rattle.rowex_table.specs.Stays.{LeavesFresh}
use Rattle.hot_index_calls.proofs.Noting.{longer}
use Rattle.index_laws.specs.Executions.{IsExecution, LeadsOn}
use Rattle.index_laws.specs.Traced.{CallsMakeNoAsides, ContractsLeadOn, EndedBeforeLoaded, EndedOrLoadedBefore, EndedOrShownBefore, Instant, IsSeatShowing, IsSeatStep, IsSeatTurn, IsShownItself, IsShownSteps, IsTracedExecution, LoadsRootBehind, LoadsSeeAll, MetAreOfOneRun, TracedAreExecutions, core_led_to, configuration_of}
use Rattle.index_laws.proofs.Executions.{executions_are_runs, opening_is_new}

-- The core to which steps lead

pub core_is : (c : Core) (xs : List Event) (d : Core) → EventsLead c xs d → d ≡ core_led_to c xs
core_is c [] d e = e
core_is c (x ∷ xs) d e = core_is (after c x.pass x.act) xs d e.1

core_led_to-more : (c : Core) (xs : List Event) (x : Event) → core_led_to c (xs ++ x ∷ []) ≡ after (core_led_to c xs) x.pass x.act
core_led_to-more c [] x = refl
core_led_to-more c (y ∷ xs) x = core_led_to-more (after c y.pass y.act) xs x

-- the steps are legal, one after the other, from a new table on
abbrev IsLed : Layout → List Event → Type 0
IsLed layout run = EventsLead (opening layout) run (core_led_to (opening layout) run)

-- steps leave what a witness says
nobodys : (front : List Change) (xs : List Event) → AreOthers (Witness front) xs
nobodys front [] = tt
nobodys front (x ∷ xs) = ((λ h. h), nobodys front xs)

-- From time to time

module _ (table : TableView) (at : ℕ → Instant) (t : ℕ) where
  abbrev layout : Layout
  layout = table.layout

  abbrev a : Instant
  a = at t

  abbrev b : Instant
  b = at (suc t)

  step_leads : (q : ℕ) (act : Act) (notes : List Note) → IsSeatStep table a b q act notes → IsConfigurationStep (configuration_of layout a) (configuration_of layout b) q act notes
  step_leads q act notes x =
      let k : Known = (a.seat q).known in
      let event = x.step.event in
      let core : event.core ≡ core_led_to (opening layout) a.run = core_is (opening layout) a.run event.core (subst (λ l. EventsLead (opening layout) l event.core) x.behind x.step.next.led) in
      record {
        legal = subst (λ z. Legal z q act) core (subst (λ p. Legal event.core p act) x.pass event.legal);
        core = ap (core_led_to (opening layout)) x.run ∙ core_led_to-more (opening layout) a.run (record { pass = q; act = act });
        own = event.learned_is ∙ (ap (λ (l : List Note). let j : Known = record (learned event.core act k) { notes = k.notes ++ l } in j) (sym x.notes_are) ∙
            ap (λ (z : Core). let j : Known = record (learned z act k) { notes = k.notes ++ notes } in j) core);
        others = λ o ne. ap (λ (z : SeatView). z.known) (x.others o ne);
        call = x.call;
        called = x.called;
        pending = x.pending;
      }

  abbrev now : Core
  now = core_led_to (opening layout) a.run

  -- what the shown steps have made has been made
  shown_made : (s e : SeatView) (front : List Change) → IsLed layout a.run → IsShownSteps layout a.run s e front → BeginsWith now.changes front
  shown_made s e front led x =
      let run = x.shown.run in
      let more : List Event = x.begins.0 in
      let on : EventsLead run.core more now = lead_rest (opening layout) e.trace run.core more now (subst (λ l. EventsLead (opening layout) l now) x.begins.1 led) run.led in
      let grows : BeginsWith now.changes run.core.changes =
      runs_keep run.core more now (Witness run.core.changes) (runs_stay_lawful layout e.trace run.core run.led) on (nobodys run.core.changes more) (begins_itself run.core.changes) in
      subst (BeginsWith now.changes) (run.changes ∙ ap (λ (z : Known). z.front) x.known) grows

  -- and so has what the pass knows
  itself_made : (q : ℕ) (s e : SeatView) (front : List Change) → IsSoundConfiguration layout (configuration_of layout a) → s ≡ a.seat q → IsShownItself layout q s e front → BeginsWith now.changes front
  itself_made q s e front sound is x =
      let knows : Knows now (a.seat q).known = sound.knows q x.pass in
      let seen : BeginsWith now.changes (a.seat q).known.front = others_begin (a.seat q).known.pass (a.seat q).known.front now.changes knows.seen.front in
      subst (BeginsWith now.changes) (ap (λ (z : SeatView). z.known.front) (sym is) ∙ sym x.front_is) seen

  showing_leads : (q : ℕ) (front : List Change) → IsLed layout a.run → IsSoundConfiguration layout (configuration_of layout a) → IsSeatShowing table a b q front →
      IsShowing (configuration_of layout a) (configuration_of layout b) q front
  showing_leads q front led sound x = go x.seat
    where
      shows_so : BeginsWith front (a.seat q).known.front → BeginsWith now.changes front → (b.seat q).known ≡ with_front front (a.seat q).known → IsShowing (configuration_of layout a) (configuration_of layout b) q front
      shows_so more made own = record {
        core = ap (core_led_to (opening layout)) x.run;
        more = more;
        made = made;
        own = own;
        others = λ o ne. ap (λ (z : SeatView). z.known) (x.others o ne);
        pending = x.pending;
      }

      go : IsShownSteps layout a.run (a.seat q) (b.seat q) front ⊎ IsShownItself layout q (a.seat q) (b.seat q) front → IsShowing (configuration_of layout a) (configuration_of layout b) q front
      go (inl s) = shows_so s.more (shown_made (a.seat q) (b.seat q) front led s) s.known
      go (inr s) = shows_so (subst (λ l. BeginsWith l (a.seat q).known.front) (sym s.front_is) (begins_itself (a.seat q).known.front))
          (itself_made q (a.seat q) (b.seat q) front sound refl s) (s.known ∙ ap (λ (l : List Change). with_front l (a.seat q).known) (sym s.front_is))

  turn_leads : (q : ℕ) (call : Option Pending) → IsSeatTurn layout a b q call → IsCallTurn layout (configuration_of layout a) (configuration_of layout b) q call
  turn_leads q call x = record {
    pass = x.pass;
    core = ap (core_led_to (opening layout)) x.run;
    known = λ i q. (x.seats i q).known;
    own = x.own;
    others = x.others;
  }

  contracts_lead : (h : Happening) → IsLed layout a.run → IsSoundConfiguration layout (configuration_of layout a) → ContractsLeadOn table at t h → LeadsOn layout (λ i. configuration_of layout (at i)) t h
  contracts_lead (steps q act notes) led sound x = step_leads q act notes x
  contracts_lead (shows q front) led sound x = showing_leads q front led sound x
  contracts_lead (invokes q calls) led sound x = (x.0, turn_leads q _ x.1)
  contracts_lead (responds q notes) led sound x = (x.0, x.1, turn_leads q None x.2)
  contracts_lead (refuses q) led sound x = (x.0, x.1, turn_leads q None x.2)

  -- the steps up to the next time are legal, too
  led_on : (h : Happening) → IsLed layout a.run → ContractsLeadOn table at t h → IsLed layout b.run
  led_on (steps q act notes) led x =
      let e : Event = record { pass = q; act = act } in
      subst (IsLed layout) (sym x.run) (subst (EventsLead (opening layout) (a.run ++ e ∷ [])) (sym (core_led_to-more (opening layout) a.run e))
      (led_more (opening layout) a.run now q act led (step_leads q act notes x).legal))
  led_on (shows q front) led x = subst (IsLed layout) (sym x.run) led
  led_on (invokes q calls) led x = subst (IsLed layout) (sym x.1.run) led
  led_on (responds q notes) led x = subst (IsLed layout) (sym x.2.run) led
  led_on (refuses q) led x = subst (IsLed layout) (sym x.2.run) led

-- From the first time on

module _ (table : TableView) (last : ℕ) (at : ℕ → Instant) (happens : ℕ → Happening) (x : IsTracedExecution table last at happens) where
  abbrev moments : ℕ → Configuration
  moments t = configuration_of table.layout (at t)

  led_to : (n : ℕ) → n ≤ last → IsLed table.layout (at n).run
  led_to zero low = subst (IsLed table.layout) (sym x.run) refl
  led_to (suc n) low = led_on table at n (happens n) (led_to n (omega (arith, low))) (x.next n (omega (arith, low)))

  execution_to : (n : ℕ) → n ≤ last → IsExecution table.layout n moments happens
  execution_to zero low = record {
    new = subst (IsNewIndex table.layout) (λ i. record { core = core_led_to (opening table.layout) (sym x.run i); known = λ q. sym (x.seats q).1 i; pending = λ q. sym (x.pending q) i }) (opening_is_new table.layout);
    next = λ t none. absurd (omega (arith, none));
  }
  execution_to (suc n) low =
      let before : IsExecution table.layout n moments happens = execution_to n (omega (arith, low)) in
      let sound : IsSoundConfiguration table.layout (moments n) = runs_stay_sound table.layout n moments happens (executions_are_runs table.layout n moments happens before) n (omega arith) in
      let here : LeadsOn table.layout moments n (happens n) = contracts_lead table at n (happens n) (led_to n (omega (arith, low))) sound (x.next n (omega (arith, low))) in
      record {
        new = before.new;
        next = λ t h. ⊎_elim (λ (less : t < n). before.next t less) (λ (more : n ≤ t). subst (λ m. LeadsOn table.layout moments m (happens m)) (let e : n ≡ t = omega (arith, h, more) in e) here) (cases_lt t n);
      }

pub traced_are_executions : TracedAreExecutions
traced_are_executions table last at happens x = execution_to table last at happens x last (omega arith)

-- The order of calls

-- what a pass has seen with its last step is in each later core of the run
step_grows : (table : TableView) (act : Act) (said : Known → List Note) (s t : SeatView) → StepsWith table untold act said (s, tt) (t, tt) → (run : List Event) (e : Core) → EventsLead (opening table.layout) run e →
    RunBeginsWith run t.trace → BeginsWith e.changes t.known.front
step_grows table act said s t step run e led begins =
    let c : Core = step.event.core in
    let k : Known = s.known in
    let d : Core = after c k.pass act in
    let here : EventsLead (opening table.layout) t.trace d =
    subst (λ l. EventsLead (opening table.layout) l d) (sym step.next.next_is) (led_more (opening table.layout) step.next.before c k.pass act step.next.led step.event.legal) in
    let knows : Knows d t.known =
    subst (Knows d) (sym step.event.learned_is) (renoted d (learned c act k) (k.notes ++ said (learned c act k)) (learns c k act step.event.lawful step.event.knows step.event.legal)) in
    let on : EventsLead d begins.0 e = lead_rest (opening table.layout) t.trace d begins.0 e (subst (λ l. EventsLead (opening table.layout) l e) begins.1 led) here in
    runs_keep d begins.0 e (Witness t.known.front) (runs_stay_lawful table.layout t.trace d here) on (nobodys t.known.front begins.0)
    (others_begin t.known.pass t.known.front d.changes knows.seen.front)

-- of a pass's own steps in a list, those behind its first
own_rest : (b : Bool) (act : Act) (acts : List Act) → All LeavesFresh (if b then act ∷ acts else acts) → All LeavesFresh acts
own_rest true act acts h = All-tail LeavesFresh act acts h
own_rest false act acts h = h

-- steps with a load of the root by the pass
loads_one : (q root : ℕ) (before more : List Event) → All LeavesFresh (own_acts q ((before ++ root_load q root ∷ []) ++ more)) → ⊥
loads_one q root [] more h =
    All-head LeavesFresh (LoadRef Root root) (own_acts q more)
    (subst (All LeavesFresh) (ap (λ b. if b then LoadRef Root root ∷ own_acts q more else own_acts q more) (eq-eqb q q refl)) h)
loads_one q root (x ∷ before) more h =
    loads_one q root before more (own_rest (nat_eq x.pass q) x.act (own_acts q ((before ++ root_load q root ∷ []) ++ more)) h)

-- a load of the root stands no later than the last one
none_later : (q root : ℕ) (before run more rest : List Event) (last : Event) → (before ++ root_load q root ∷ []) ++ more ≡ run ++ last ∷ rest → All LeavesFresh (own_acts q rest) → RunBeginsWith run before
none_later q root [] run more rest last e none = (run, refl)
none_later q root (x ∷ before) [] more rest last e none =
    let tail : (before ++ root_load q root ∷ []) ++ more ≡ rest = cc in absurd (loads_one q root before more (subst (λ l. All LeavesFresh (own_acts q l)) (sym tail) none))
none_later q root (x ∷ before) (y ∷ run) more rest last e none =
    let head : y ≡ x = cc in
    let tail : (before ++ root_load q root ∷ []) ++ more ≡ run ++ last ∷ rest = cc in
    let h = none_later q root before run more rest last tail none in (h.0, λ i. head i ∷ h.1 i)

pub loads_see_all : LoadsSeeAll
loads_see_all index s t acts last said ends u v loads before load begins =
    let q : ℕ = u.known.pass in
    let earlier : RunBeginsWith loads.run before = none_later q load.0 before loads.run load.1.0 loads.rest (root_load q loads.root) (sym load.1.1 ∙ loads.until) loads.last in
    subst (λ (z : Fresh). BeginsWith z.front t.known.front) (sym loads.sees.fresh)
    (step_grows index last said ends.0.0 t ends.2 loads.run loads.sees.core loads.led (run_begins_on t.trace before loads.run begins earlier))

pub ended_before_loaded : EndedBeforeLoaded
ended_before_loaded index s t call reply first acts last said ends u v later answer second loads before load begins =
    let note : Note = record { place = first.place; call = call; reply = reply } in
    let stands : StandsIn t.known.front t.known.pass note = last_of (StandsIn t.known.front t.known.pass) s.known.notes note (subst (All (StandsIn t.known.front t.known.pass)) first.notes first.legal.each) in
    let ended = place_after-within t.known.front t.known.pass note stands in
    let loaded = longer v.known.fresh.front t.known.front (loads_see_all index s t acts last said ends u v loads before load begins) in
    let low = second.low in
    omega (arith, ended, loaded, low)

-- a part of a list stands before one of its elements, or has it
before_or_with : (a before x y : List Event) (l : Event) → a ++ x ≡ (before ++ l ∷ []) ++ y → RunBeginsWith before a ⊎ RunBeginsWith a (before ++ l ∷ [])
before_or_with [] before x y l e = inl (before, refl)
before_or_with (p ∷ a) [] x y l e = let head : p ≡ l = cc in inr (a, λ i. head i ∷ a)
before_or_with (p ∷ a) (q ∷ before) x y l e =
    let head : p ≡ q = cc in
    let rest : a ++ x ≡ (before ++ l ∷ []) ++ y = cc in
    ⊎_elim (λ (h : RunBeginsWith before a). inl (h.0, λ i. sym head i ∷ h.1 i)) (λ (h : RunBeginsWith a (before ++ l ∷ [])). inr (h.0, λ i. head i ∷ h.1 i)) (before_or_with a before x y l rest)

pub ended_or_loaded_before : EndedOrLoadedBefore
ended_or_loaded_before index s t call reply first acts last said ends u v later answer second loads run before one other load =
    let l : Event = root_load u.known.pass load.0 in
    let with_load : RunBeginsWith run (before ++ l ∷ []) = run_begins_on (before ++ l ∷ []) v.trace run load.1 other in
    ⊎_elim (λ (begins : RunBeginsWith before t.trace). inl (ended_before_loaded index s t call reply first acts last said ends u v later answer second loads before load begins))
    (λ (has : RunBeginsWith t.trace (before ++ l ∷ [])). inr (load.0, has))
    (before_or_with t.trace before one.0 with_load.0 l (sym one.1 ∙ with_load.1))

pub ended_or_shown_before : EndedOrShownBefore
ended_or_shown_before index s t call reply first acts last said ends u v later answer second loads run one other =
    let l : Event = root_load u.known.pass loads.root in
    let behind : LoadsRootBehind u.known.pass v.trace loads.run = (loads.root, (loads.rest, loads.until ∙ sym (append_assoc loads.run (l ∷ []) loads.rest))) in
    ⊎_elim (λ (begins : RunBeginsWith loads.run t.trace). inl (ended_before_loaded index s t call reply first acts last said ends u v later answer second loads loads.run behind begins)) inr
    (of_one_run run t.trace loads.run one other)

pub met_are_of_one_run : MetAreOfOneRun
met_are_of_one_run layout s t u v first second same one other begins begun =
    let a = first.run.others in
    let b = second.run.others in
    of_one_run u.trace one other (run_begins_on one s.trace u.trace begins (a.0, a.1))
    (subst (λ l. RunBeginsWith l other) (sym same) (run_begins_on other t.trace v.trace begun (b.0, b.1)))

-- What is no step

pub calls_make_no_asides : CallsMakeNoAsides
calls_make_no_asides index acts last said s t ends = ends.2.seat.3 ∙ (runs_same index untold acts (s, tt) ends.0 ends.1).3
