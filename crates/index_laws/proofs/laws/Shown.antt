-- An execution in which a call returns.
use Rattle.index_laws.proofs.Common.{◌≡◌, inl, ℕ, zero, suc, ◌<◌, List, [], ◌∷◌, ◌++◌, cond, nat_eq, Bool, true, false, ◌≤◌, Option, Some, None, refl, sym, ap, subst, ◌∙◌, arith, le_refl, eq-eqb, ne_eqb, All-cons, All-nil, TableId, Get, Change, Note, Absent, StandsIn, Layout, Act, ClearPin, LoadEpoch, LoadRef, SetPin, Event, Root, Known, Legal, after, learned, opening, EventsLead, opening_of, SeatView, TableView, learned_pass, others_none, IsNoted, pass_of, Happening, IsCallTurn, IsConfigurationStep, IsSoundConfiguration, Configuration, Pending, invokes, responds, shows, steps, runs_stay_sound}
use Rattle.index_laws.specs.Executions.{LeadsOn, IsExecution}
use Rattle.index_laws.specs.Statements.{AGetReturns}
use Rattle.index_laws.specs.Traced.{AGetIsTraced, ContractsLeadOn, Instant, IsSeatStep, IsSeatTurn, IsTracedExecution}
use Rattle.index_laws.proofs.Executions.{executions_are_runs, opening_is_new}

-- the time after a step
abbrev pub stepped : Configuration → ℕ → Act → List Note → Configuration
stepped a q act notes = record {
  core = after a.core q act;
  known = λ o. cond (nat_eq o q) (record (learned a.core act (a.known q)) { notes = (a.known q).notes ++ notes }) (a.known o);
  pending = a.pending;
}

pub is_step : (a : Configuration) (q : ℕ) (act : Act) (notes : List Note) (call : Pending) → Legal a.core q act → a.pending q ≡ Some call → IsConfigurationStep a (stepped a q act notes) q act notes
is_step a q act notes call legal called = record {
  legal = legal;
  core = refl;
  own = ap (λ b. cond b (record (learned a.core act (a.known q)) { notes = (a.known q).notes ++ notes }) (a.known q)) (eq-eqb q q refl);
  others = λ o ne. ap (λ b. cond b (record (learned a.core act (a.known q)) { notes = (a.known q).notes ++ notes }) (a.known o)) (ne_eqb o q ne);
  call = call;
  called = called;
  pending = refl;
}

-- the time at which pass q has this call pending, if any
abbrev turned : Configuration → ℕ → Option Pending → Configuration
turned a q call = record { core = a.core; known = a.known; pending = λ o. cond (nat_eq o q) call (a.pending o) }

is_turn : (layout : Layout) (a : Configuration) (q : ℕ) (call : Option Pending) → q < layout.passes → IsCallTurn layout a (turned a q call) q call
is_turn layout a q call below = record {
  pass = below;
  core = refl;
  known = refl;
  own = ap (λ b. cond b call (a.pending q)) (eq-eqb q q refl);
  others = λ o ne. ap (λ b. cond b call (a.pending o)) (ne_eqb o q ne);
}

module _ (layout : Layout) (below : 0 < layout.passes) (table : TableId) (key : List ℕ) where
  abbrev asked : Pending
  asked = record { since = 0; calls = Get key ∷ [] }

  abbrev note : Note
  note = record { place = 0; call = Get key; reply = Absent }

  abbrev new : Configuration
  new = record { core = opening layout; known = opening_of; pending = λ _. None }

  abbrev invoked : Configuration
  invoked = turned new 0 (Some asked)

  abbrev begun : Configuration
  begun = stepped invoked 0 (LoadEpoch 1) []

  abbrev pinned : Configuration
  pinned = stepped begun 0 (SetPin 1) []

  abbrev loaded : Configuration
  loaded = stepped pinned 0 (LoadRef Root 0) []

  abbrev unpinned : Configuration
  unpinned = stepped loaded 0 ClearPin (note ∷ [])

  abbrev responded : Configuration
  responded = turned unpinned 0 None

  abbrev at : ℕ → Configuration
  at zero = new
  at (suc zero) = invoked
  at (suc (suc zero)) = begun
  at (suc (suc (suc zero))) = pinned
  at (suc (suc (suc (suc zero)))) = loaded
  at (suc (suc (suc (suc (suc zero))))) = unpinned
  at (suc (suc (suc (suc (suc (suc t)))))) = responded

  abbrev happens : ℕ → Happening
  happens zero = invokes 0 (Get key ∷ [])
  happens (suc zero) = steps 0 (LoadEpoch 1) []
  happens (suc (suc zero)) = steps 0 (SetPin 1) []
  happens (suc (suc (suc zero))) = steps 0 (LoadRef Root 0) []
  happens (suc (suc (suc (suc zero)))) = steps 0 ClearPin (note ∷ [])
  happens (suc (suc (suc (suc (suc zero))))) = responds 0 (note ∷ [])
  happens (suc (suc (suc (suc (suc (suc t)))))) = shows 0 []

  abbrev before : SeatView
  before = record { table = table; id = 0; known = opening_of 0; trace = []; asides = 0; touches = 0; bounds = [] }

  abbrev now : SeatView
  now = record {
    table = table;
    id = 0;
    known = unpinned.known 0;
    trace = record { pass = 0; act = LoadEpoch 1 } ∷ record { pass = 0; act = SetPin 1 } ∷ record { pass = 0; act = LoadRef Root 0 } ∷ record { pass = 0; act = ClearPin } ∷ [];
    asides = 0;
    touches = 0;
    bounds = [];
  }

  stands : StandsIn [] 0 note
  stands = record { place = le_refl 0; reply = refl; change = λ c e. cc }

  abbrev noted : IsNoted layout (pass_of before) (pass_of now) (Get key) Absent
  noted = record {
    on = record { number = refl; front = ([], refl); fresh = ([], refl); seen = ([], refl); now = (omega arith, omega arith); makers = All-nil (λ (x : Change). x.pass < layout.passes) };
    place = 0;
    notes = refl;
    low = le_refl 0;
    high = le_refl 0;
    legal = record { legal = tt; each = All-cons (StandsIn [] 0) note [] stands (All-nil (StandsIn [] 0)); rising = (le_refl 0, tt); own = refl };
  }

  follows : (t : ℕ) → t < 6 → LeadsOn layout at t (happens t)
  follows zero low = (refl, is_turn layout new 0 (Some asked) below)
  follows (suc zero) low = is_step invoked 0 (LoadEpoch 1) [] asked (below, refl) refl
  follows (suc (suc zero)) low = is_step begun 0 (SetPin 1) [] asked (below, (refl, refl, le_refl 1)) refl
  follows (suc (suc (suc zero))) low = is_step pinned 0 (LoadRef Root 0) [] asked (below, refl) refl
  follows (suc (suc (suc (suc zero)))) low = is_step loaded 0 ClearPin (note ∷ []) asked (below, refl) refl
  follows (suc (suc (suc (suc (suc zero))))) low = (
    asked,
    (before, now, record { pending = refl; before = refl; now = refl; pass = refl; later = omega arith }, inl (record { asked = Get key; reply = Absent; calls = refl; noted = noted; notes_are = refl })),
    is_turn layout unpinned 0 None below,
  )
  follows (suc (suc (suc (suc (suc (suc t)))))) low = absurd (omega arith)

  pub returns : IsExecution layout 6 at happens
  returns = record { new = opening_is_new layout; next = follows }

  -- The same by contracts alone

  abbrev made : TableView
  made = record { id = table; layout = layout }

  abbrev event : Act → Event
  event act = record { pass = 0; act = act }

  -- the seats at a time, where all steps so far are pass 0's
  abbrev seen : Configuration → List Event → Instant
  seen a run = record { run = run; seat = λ q. record { table = table; id = q; known = a.known q; trace = cond (nat_eq q 0) run []; asides = 0; touches = 0; bounds = [] }; pending = a.pending }

  seat_step : (a b : Configuration) (run : List Event) (act : Act) (notes : List Note) → IsSoundConfiguration layout a → IsConfigurationStep a b 0 act notes → EventsLead (opening layout) run a.core →
      IsSeatStep made (seen a run) (seen b (run ++ event act ∷ [])) 0 act notes
  seat_step a b run act notes s x led = record {
    said = λ k. notes;
    step = record {
      seat = (refl, refl, ap (λ (z : Known). z.pass) x.own ∙ learned_pass a.core act (a.known 0), refl, λ kind. le_refl 0);
      event = record { core = a.core; lawful = s.lawful; layout_is = s.layout_is; knows = s.knows 0 below; legal = subst (λ p. Legal a.core p act) (sym (s.named 0 below)) x.legal; learned_is = x.own };
      next = record { before = run; led = led; others = others_none (a.known 0).pass run; next_is = ap (λ p. run ++ record { pass = p; act = act } ∷ []) (sym (s.named 0 below)) };
    };
    pass = s.named 0 below;
    notes_are = refl;
    behind = refl;
    run = refl;
    others = λ o ne i. record { table = table; id = o; known = x.others o ne i; trace = (ap (λ b. cond b (run ++ event act ∷ []) []) (ne_eqb o 0 ne) ∙ sym (ap (λ b. cond b run []) (ne_eqb o 0 ne))) i; asides = 0; touches = 0; bounds = [] };
    call = x.call;
    called = x.called;
    pending = x.pending;
  }

  abbrev ran : ℕ → List Event
  ran zero = []
  ran (suc zero) = []
  ran (suc (suc zero)) = event (LoadEpoch 1) ∷ []
  ran (suc (suc (suc zero))) = event (LoadEpoch 1) ∷ event (SetPin 1) ∷ []
  ran (suc (suc (suc (suc zero)))) = event (LoadEpoch 1) ∷ event (SetPin 1) ∷ event (LoadRef Root 0) ∷ []
  ran (suc (suc (suc (suc (suc t))))) = event (LoadEpoch 1) ∷ event (SetPin 1) ∷ event (LoadRef Root 0) ∷ event ClearPin ∷ []

  abbrev instant : ℕ → Instant
  instant t = seen (at t) (ran t)

  sound : (t : ℕ) → t ≤ 6 → IsSoundConfiguration layout (at t)
  sound t low = runs_stay_sound layout 6 at happens (executions_are_runs layout 6 at happens returns) t low

  turn : (a : Configuration) (run : List Event) (call : Option Pending) → IsSeatTurn layout (seen a run) (seen (turned a 0 call) run) 0 call
  turn a run call = let x = is_turn layout a 0 call below in record { pass = x.pass; run = refl; seats = refl; own = x.own; others = x.others }

  contracts : (t : ℕ) → t < 6 → ContractsLeadOn made instant t (happens t)
  contracts zero low = (refl, turn new [] (Some asked))
  contracts (suc zero) low = seat_step invoked begun [] (LoadEpoch 1) [] (sound 1 (omega arith)) (is_step invoked 0 (LoadEpoch 1) [] asked (below, refl) refl) refl
  contracts (suc (suc zero)) low = seat_step begun pinned (ran 2) (SetPin 1) [] (sound 2 (omega arith)) (is_step begun 0 (SetPin 1) [] asked (below, (refl, refl, le_refl 1)) refl) ((below, refl), refl)
  contracts (suc (suc (suc zero))) low =
      seat_step pinned loaded (ran 3) (LoadRef Root 0) [] (sound 3 (omega arith)) (is_step pinned 0 (LoadRef Root 0) [] asked (below, refl) refl) ((below, refl), ((below, (refl, refl, le_refl 1)), refl))
  contracts (suc (suc (suc (suc zero)))) low =
      seat_step loaded unpinned (ran 4) ClearPin (note ∷ []) (sound 4 (omega arith)) (is_step loaded 0 ClearPin (note ∷ []) asked (below, refl) refl)
      ((below, refl), ((below, (refl, refl, le_refl 1)), ((below, refl), refl)))
  contracts (suc (suc (suc (suc (suc zero))))) low = (
    asked,
    (before, now, record { pending = refl; before = refl; now = refl; pass = refl; later = omega arith }, inl (record { asked = Get key; reply = Absent; calls = refl; noted = noted; notes_are = refl })),
    turn unpinned (ran 5) None,
  )
  contracts (suc (suc (suc (suc (suc (suc t)))))) low = absurd (omega arith)

  none_yet : (b : Bool) → ◌≡◌ {A = List Event} (cond b [] []) []
  none_yet true = refl
  none_yet false = refl

  pub traced : IsTracedExecution made 6 instant happens
  traced = record { run = refl; seats = λ q. (refl, refl, none_yet (nat_eq q 0), refl); pending = λ q. refl; next = contracts }

pub a_get_is_traced : AGetIsTraced
a_get_is_traced table below key = (instant table.layout below table.id key, happens table.layout below table.id key, traced table.layout below table.id key, refl)

pub a_get_returns : AGetReturns
a_get_returns layout below table key = (at layout below table key, happens layout below table key, returns layout below table key, refl)
