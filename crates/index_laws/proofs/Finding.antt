-- All passes end in one run: one inserts a key, another finds it, and the others do nothing.
use Rattle.index_laws.proofs.Common.{◌≡◌, ℕ, ◌<◌, ◌≤◌, ◌^◌, List, [], ◌∷◌, ◌++◌, refl, sym, ap, subst, ◌∙◌, arith, le_refl, inl, ◌≢◌, ⊎_elim, cases_eq, ne_eqb, if◌then◌else◌, None, All-nil, All-from_recursion, All-cons, TableId, Note, Layout, Live, leaf_size, state_word, a_leaf, Act, Claim, Fill, LoadEpoch, LoadRef, Lock, SetPin, ClearPin, Publish, Unlock, Event, Root, Known, Pass, Core, IsLawful, IsAtomic, Legal, after, next_change, Knows, learned, opening, EventsLead, learns, opening_is_lawful, stays_lawful, opening_of, StepsWith, Ends, Runs, SeatView, TableView, OthersStepOn, learned_pass, renoted, led_more, others_none, untold, Get, Insert, Inserted, Value, LegalCalls, StandsIn, Item, item, IsNoted, AreByPasses, pass_of, Happening, responds, Change}
use Rattle.std.specs.Prelude.{nat_eq}
use Rattle.std.proofs.lemmas.Bool.Decides.{nat_tests}
use Rattle.record_words.specs.declared.state.Tag.TheVariants.{Free}
use Rattle.record_words.specs.Leaf.{HasLeafWords, key_word, leaf_words, up_to_key}
use Rattle.rowex_core.specs.declared.event.Act.TheVariants.{Ready}
use Rattle.rowex_core.specs.declared.event.Target.TheVariants.{Anchor}
use Rattle.rowex_core.specs.Reading.{IsPacked}
use Rattle.rowex_core.proofs.Knowing.Keeping.{keeps}
use Rattle.index_laws.proofs.Executions.{opening_is_new}
use Rattle.record_words.specs.Entry.{entry_word}
use Rattle.version_laws.specs.Writer.{added_change}
use Rattle.rowex_table.specs.Publishes.{HasPublished, Publishes}
use Rattle.publish_laws.proofs.Insertions.Inserting.{first_made}
use Rattle.std.specs.Prelude.{Ok}
use Rattle.rowex_core.proofs.Knowing.Keeping.{seen_by}
use Rattle.rowex_table.specs.Runs.{IsTold, SeesAllOfRun, events_of}
use Rattle.rowex_table.specs.Stays.{LeavesFresh}
use Rattle.rowex_reading.specs.Reads.{IsBelowRoot}
use Rattle.rowex_writing.specs.attempts.Attempts.{IsOfSearch}
use Rattle.rowex_writing.specs.declared.attempts.TryFault.{TryFault}
use Rattle.rowex_writing.specs.locks.Locks.{IsOfAttempt}
use Rattle.hot_index_calls.specs.Calls.{IsTried}
use Rattle.hot_index_calls.specs.Noting.{change_notes}
use Rattle.hot_index_calls.specs.Traces.{HasMadeChangeSteps, HasMadeGetSteps, IsAttempt}
use Rattle.index_laws.specs.Joined.{AnInsertIsFound, HasGoneThrough, HaveEndedInOneRun, answered, call_of, called, new, of_two_first}

-- Two passes and the core between their steps: the one that steps, and the other

record World : Type 0 where
  pub core : Core
  pub run : List Event
  pub one : Known
  pub other : Known

-- a step of the one, which is pass q, with these notes
abbrev stepped : ℕ → World → Act → List Note → World
stepped q w act notes = record {
  core = after w.core q act;
  run = w.run ++ record { pass = q; act = act } ∷ [];
  one = record (learned w.core act w.one) { notes = w.one.notes ++ notes };
  other = w.other;
}

-- the other steps now
abbrev turned : World → World
turned w = record { core = w.core; run = w.run; one = w.other; other = w.one }

record IsTrue (layout : Layout) (q p : ℕ) (w : World) : Type 0 where
  pub lawful : IsLawful w.core
  pub layout_is : w.core.layout ≡ layout
  pub led : EventsLead (opening layout) w.run w.core
  pub one : Knows w.core w.one
  pub other : Knows w.core w.other
  pub one_is : w.one.pass ≡ q
  pub other_is : w.other.pass ≡ p

turned_true : (layout : Layout) (q p : ℕ) (w : World) → IsTrue layout q p w → IsTrue layout p q (turned w)
turned_true layout q p w x = record {
  lawful = x.lawful;
  layout_is = x.layout_is;
  led = x.led;
  one = x.other;
  other = x.one;
  one_is = x.other_is;
  other_is = x.one_is;
}

abbrev seat_at : TableId → ℕ → Known → List Event → SeatView
seat_at id n k trace = record { table = id; id = n; known = k; trace = trace; asides = 0; touches = 0; bounds = [] }

module _ (table : TableView) (q p : ℕ) (apart : p ≢ q) where
  step_true : (w : World) (act : Act) (notes : List Note) → IsTrue table.layout q p w → Legal w.core q act → IsTrue table.layout q p (stepped q w act notes)
  step_true w act notes x legal =
      let own : Legal w.core w.one.pass act = subst (λ n. Legal w.core n act) (sym x.one_is) legal in
      record {
        lawful = stays_lawful w.core q act x.lawful legal;
        layout_is = x.layout_is;
        led = led_more (opening table.layout) w.run w.core q act x.led legal;
        one = renoted (after w.core q act) (learned w.core act w.one) (w.one.notes ++ notes)
            (subst (λ n. Knows (after w.core n act) (learned w.core act w.one)) x.one_is (learns w.core w.one act x.lawful x.one own));
        other = keeps w.core q act (Pass w.other) x.lawful legal (λ e. apart (sym x.other_is ∙ e)) x.other;
        one_is = learned_pass w.core act w.one ∙ x.one_is;
        other_is = x.other_is;
      }

  -- from where the seat's trace has got
  one_step : (w : World) (act : Act) (notes : List Note) (trace : List Event) → IsTrue table.layout q p w → Legal w.core q act → OthersStepOn q trace w.run → IsAtomic act →
      StepsWith table untold act (λ k. notes) (seat_at table.id q w.one trace, tt) (seat_at table.id q (stepped q w act notes).one (stepped q w act notes).run, tt)
  one_step w act notes trace x legal others plain = record {
    seat = (refl, refl, learned_pass w.core act w.one, refl, λ kind. le_refl 0);
    event = record {
      core = w.core;
      lawful = x.lawful;
      layout_is = x.layout_is;
      knows = x.one;
      legal = subst (λ n. Legal w.core n act) (sym x.one_is) legal;
      learned_is = refl;
    };
    next = record {
      before = w.run;
      led = x.led;
      others = subst (λ n. OthersStepOn n trace w.run) (sym x.one_is) others;
      next_is = ap (λ n. w.run ++ record { pass = n; act = act } ∷ []) (sym x.one_is);
    };
    touches = (omega arith, omega arith);
    told = tt;
    atomic = plain;
  }

-- several steps with no notes
abbrev all_stepped : ℕ → World → List Act → World
all_stepped q w [] = w
all_stepped q w (act ∷ acts) = all_stepped q (stepped q w act []) acts

abbrev AreLegal : ℕ → World → List Act → Type 0
AreLegal q w [] = Unit {0}
AreLegal q w (act ∷ acts) = Legal w.core q act × IsAtomic act × AreLegal q (stepped q w act []) acts

both_legal : (q : ℕ) (w : World) (acts more : List Act) → AreLegal q w acts → AreLegal q (all_stepped q w acts) more → AreLegal q w (acts ++ more)
both_legal q w [] more legal rest = rest
both_legal q w (act ∷ acts) more legal rest = (legal.0, legal.1, both_legal q (stepped q w act []) acts more legal.2 rest)

all_true : (table : TableView) (q p : ℕ) → p ≢ q → (w : World) (acts : List Act) → IsTrue table.layout q p w → AreLegal q w acts → IsTrue table.layout q p (all_stepped q w acts)
all_true table q p apart w [] x legal = x
all_true table q p apart w (act ∷ acts) x legal = all_true table q p apart (stepped q w act []) acts (step_true table q p apart w act [] x legal.0) legal.2

all_run : (table : TableView) (q p : ℕ) → p ≢ q → (w : World) (acts : List Act) → IsTrue table.layout q p w → AreLegal q w acts →
    Runs table untold acts (seat_at table.id q w.one w.run, tt) (seat_at table.id q (all_stepped q w acts).one (all_stepped q w acts).run, tt)
all_run table q p apart w [] x legal = refl
all_run table q p apart w (act ∷ acts) x legal =
    let next : World = stepped q w act [] in (
      (seat_at table.id q next.one next.run, tt),
      one_step table q p apart w act [] w.run x legal.0 (others_none q w.run) legal.1,
      all_run table q p apart next acts (step_true table q p apart w act [] x legal.0) legal.2,
    )

-- a step with these notes is one with what gives them
saying : {table : TableView} {act : Act} {a b : SeatView × Unit {0}} (said : Known → List Note) (notes : List Note) → (x : StepsWith table untold act (λ k. notes) a b) →
    said (learned x.event.core act a.0.known) ≡ notes → StepsWith table untold act said a b
saying {table} {act} {a} {b} said notes x same = record {
  seat = x.seat;
  event = record {
    core = x.event.core;
    lawful = x.event.lawful;
    layout_is = x.event.layout_is;
    knows = x.event.knows;
    legal = x.event.legal;
    learned_is = x.event.learned_is ∙ ap (λ (l : List Note). record (learned x.event.core act a.0.known) { notes = a.0.known.notes ++ l }) (sym same);
  };
  next = x.next;
  touches = x.touches;
  told = x.told;
  atomic = x.atomic;
}

-- of a call with no gate nothing is told
all_untold : (events : List Event) → IsTold untold events tt tt
all_untold [] = refl
all_untold (event ∷ events) = (tt, tt, all_untold events)

zero_not : let z : ℕ = 0 in z ≢ 1
zero_not e = absurd (omega (arith, e))

one_not : let z : ℕ = 1 in z ≢ 0
one_not e = absurd (omega (arith, e))

-- what is so of pass 0, of pass 1, and of each other pass
pub by_two_first : {A : Type 0} (P : ℕ → A → Type 0) (first second : A) (others : ℕ → A) → P 0 first → P 1 second → ((q : ℕ) → 2 ≤ q → P q (others q)) → (q : ℕ) →
    P q (of_two_first first second others q)
by_two_first P first second others here there rest q = ⊎_elim
    (λ (e : q ≡ 0). subst (λ k. P k (of_two_first first second others k)) (sym e) here)
    (λ (ne : q ≢ 0). ⊎_elim
    (λ (e : q ≡ 1). subst (λ k. P k (of_two_first first second others k)) (sym e) there)
    (λ (neither : q ≢ 1). subst (P q) (sym (is_other ne neither)) (rest q (omega (arith, ne, neither))))
    (cases_eq q 1))
    (cases_eq q 0)
  where
    is_other : q ≢ 0 → q ≢ 1 → of_two_first first second others q ≡ others q
    is_other ne neither = ap (λ b. if b then first else (if nat_eq q 1 then second else others q)) (ne_eqb q 0 ne) ∙ ap (λ b. if b then second else others q) (ne_eqb q 1 neither)

-- The steps

leaf_has_room : (layout : Layout) (n : ℕ) → 4 ≤ leaf_size layout n
leaf_has_room layout n = grind (arith, nat_tests)

module _ (table : TableView) (two : 2 ≤ table.layout.passes) (value : ℕ) (fits : value < 2 ^ 64) where
  abbrev layout : Layout
  layout = table.layout

  zero_low : 0 < layout.passes
  zero_low = omega (arith, two)

  one_low : 1 < layout.passes
  one_low = omega (arith, two)

  some_leaf : 0 < layout.leaves
  some_leaf = let h = layout.leaves_in_range.0 in omega (arith, h)

  abbrev w0 : World
  w0 = record { core = opening layout; run = []; one = opening_of 0; other = opening_of 1 }

  t0 : IsTrue layout 0 1 w0
  t0 = record {
    lawful = (opening_is_lawful layout).0;
    layout_is = refl;
    led = refl;
    one = (opening_is_new layout).sound.knows 0 zero_low;
    other = (opening_is_new layout).sound.knows 1 one_low;
    one_is = refl;
    other_is = refl;
  }

  abbrev filling : List Act
  filling = LoadEpoch 1 ∷ SetPin 1 ∷ LoadRef Root 0 ∷ Lock Anchor (state_word Live) ∷ LoadRef Root 0 ∷ Claim (a_leaf 0) (state_word Free) ∷ Fill (a_leaf 0) 1 value ∷ []

  abbrev w7 : World
  w7 = all_stepped 0 w0 filling

  may_fill : AreLegal 0 w0 filling
  may_fill =
      let room = leaf_has_room layout 0 in (
        (zero_low, refl),
        tt,
        (
          (zero_low, (refl, refl, le_refl 1)),
          tt,
          (
            (zero_low, refl),
            tt,
            ((zero_low, refl), tt, ((zero_low, refl), tt, ((zero_low, (some_leaf, refl)), tt, ((zero_low, (some_leaf, refl, (le_refl 1, omega arith), fits, omega (arith, room))), tt, tt)))),
          ),
        ),
      )

  t7 : IsTrue layout 0 1 w7
  t7 = all_true table 0 1 one_not w0 filling t0 may_fill

  abbrev spelled : List ℕ
  spelled = w7.core.words (a_leaf 0)

  no_key : HasLeafWords ([], value)
  no_key = record { key = record { short = omega arith; are_bytes = All-nil (λ byte. byte < 256) }; value = fits }

  spells : leaf_words ([], value) ≡ up_to_key spelled
  unfolding leaf_words up_to_key key_word
  spells = refl

  packed : IsPacked (a_leaf 0) spelled
  unfolding IsPacked
  packed = (([], value), no_key, spells)

  abbrev w8 : World
  w8 = stepped 0 w7 (Ready (a_leaf 0)) []

  l8 : Legal w7.core 0 (Ready (a_leaf 0))
  l8 = (zero_low, (some_leaf, refl, packed, (let room = leaf_has_room layout 0 in omega (arith, room))))

  t8 : IsTrue layout 0 1 w8
  t8 = step_true table 0 1 one_not w7 (Ready (a_leaf 0)) [] t7 l8

  -- The publish

  abbrev leaf : Item
  leaf = item 0 [] value

  abbrev change : Change
  change = added_change 0 leaf

  may : Publishes layout w8.one Root 1 change None []
  may = first_made layout w8.one [] leaf spelled 1 (record { locks = refl; own = refl }) (no_key, spells) (omega arith, refl) refl

  l9 : Legal w8.core 0 (Publish Root 1)
  l9 = may.may w8.core t8.lawful t8.layout_is t8.one

  abbrev w9 : World
  w9 = stepped 0 w8 (Publish Root 1) []

  published : HasPublished w8.one w9.one change None [] []
  published = may.gives w9.one [] (record { only = λ n h. inl h; each = λ n h. absurd h }) (one_step table 0 1 one_not w8 (Publish Root 1) [] w8.run t8 l9 (others_none 0 w8.run) tt).event

  one_only : (a b : Change) (before : List Change) → a ∷ [] ≡ before ++ b ∷ [] → a ≡ b
  one_only a b [] e = cc
  one_only a b (c ∷ []) e = cc
  one_only a b (c ∷ d ∷ before) e = cc

  abbrev made : Change
  made = next_change w8.core 0 Root 1

  made_is : made ≡ change
  made_is = one_only made change published.before published.front

  -- The end of the insert

  abbrev inserted : Note
  inserted = record { place = 0; call = Insert [] value; reply = Inserted }

  abbrev changing : List Act
  changing = filling ++ Ready (a_leaf 0) ∷ Publish Root 1 ∷ LoadEpoch 1 ∷ Unlock Anchor ∷ []

  may_change : AreLegal 0 w0 changing
  may_change = both_legal 0 w0 filling (Ready (a_leaf 0) ∷ Publish Root 1 ∷ LoadEpoch 1 ∷ Unlock Anchor ∷ []) may_fill (l8, tt, (l9, tt, ((zero_low, refl), tt, ((zero_low, refl), tt, tt))))

  abbrev w11 : World
  w11 = all_stepped 0 w0 changing

  t11 : IsTrue layout 0 1 w11
  t11 = all_true table 0 1 one_not w0 changing t0 may_change

  l12 : Legal w11.core 0 ClearPin
  l12 = (zero_low, refl)

  abbrev w12 : World
  w12 = stepped 0 w11 ClearPin (inserted ∷ [])

  t12 : IsTrue layout 1 0 (turned w12)
  t12 = turned_true layout 0 1 w12 (step_true table 0 1 one_not w11 ClearPin (inserted ∷ []) t11 l12)

  -- The get

  abbrev found : Note
  found = record { place = 1; call = Get []; reply = Value value }

  abbrev w13 : World
  w13 = stepped 1 (turned w12) (LoadEpoch 1) []

  abbrev w14 : World
  w14 = stepped 1 w13 (SetPin 1) []

  abbrev root : ℕ
  root = entry_word w14.core.root

  abbrev looking : List Act
  looking = LoadEpoch 1 ∷ SetPin 1 ∷ LoadRef Root root ∷ []

  may_look : AreLegal 1 (turned w12) looking
  may_look = ((one_low, refl), tt, ((one_low, (refl, refl, le_refl 1)), tt, ((one_low, refl), tt, tt)))

  t14 : IsTrue layout 1 0 w14
  t14 = all_true table 1 0 zero_not (turned w12) (LoadEpoch 1 ∷ SetPin 1 ∷ []) t12 ((one_low, refl), tt, ((one_low, (refl, refl, le_refl 1)), tt, tt))

  abbrev w15 : World
  w15 = all_stepped 1 (turned w12) looking

  t15 : IsTrue layout 1 0 w15
  t15 = all_true table 1 0 zero_not (turned w12) looking t12 may_look

  l16 : Legal w15.core 1 ClearPin
  l16 = (one_low, refl)

  abbrev w16 : World
  w16 = stepped 1 w15 ClearPin (found ∷ [])

  t16 : IsTrue layout 1 0 w16
  t16 = step_true table 1 0 zero_not w15 ClearPin (found ∷ []) t15 l16

  -- Both calls, as their contracts say

  abbrev pub s0 : SeatView
  s0 = seat_at table.id 0 (opening_of 0) []

  abbrev pub e0 : SeatView
  e0 = seat_at table.id 0 w12.one w12.run

  abbrev pub s1 : SeatView
  s1 = seat_at table.id 1 (opening_of 1) []

  abbrev pub e1 : SeatView
  e1 = seat_at table.id 1 w16.one w16.run

  abbrev seat_of : ℕ → World → SeatView × Unit {0}
  seat_of q w = (seat_at table.id q w.one w.run, tt)

  ends_so : Ends table untold changing ClearPin (λ k. inserted ∷ []) (s0, tt) (e0, tt)
  ends_so = (seat_of 0 w11, all_run table 0 1 one_not w0 changing t0 may_change, one_step table 0 1 one_not w11 ClearPin (inserted ∷ []) w11.run t11 l12 (others_none 0 w11.run) tt)

  behind_insert : OthersStepOn 1 [] w12.run
  behind_insert = (
    w12.run,
    refl,
    All-from_recursion (λ (x : Event). x.pass ≢ 1) w12.run
        (zero_not, (zero_not, (zero_not, (zero_not, (zero_not, (zero_not, (zero_not, (zero_not, (zero_not, (zero_not, (zero_not, (zero_not, tt)))))))))))),
  )

  looks_so : Runs table untold looking (s1, tt) (seat_of 1 w15)
  looks_so = (
    seat_of 1 w13,
    one_step table 1 0 zero_not (turned w12) (LoadEpoch 1) [] [] t12 may_look.0 behind_insert tt,
    all_run table 1 0 zero_not w13 (SetPin 1 ∷ LoadRef Root root ∷ []) (step_true table 1 0 zero_not (turned w12) (LoadEpoch 1) [] t12 may_look.0) may_look.2,
  )

  found_so : Ends table untold looking ClearPin (λ k. found ∷ []) (s1, tt) (e1, tt)
  found_so = (seat_of 1 w15, looks_so, one_step table 1 0 zero_not w15 ClearPin (found ∷ []) w15.run t15 l16 (others_none 1 w15.run) tt)

  -- of a list of this one change
  at_change : (P : List Change → Type 0) → P (change ∷ []) → P (made ∷ [])
  at_change P h = subst (λ c. P (c ∷ [])) (sym made_is) h

  legal_inserted : LegalCalls (change ∷ []) 0 (inserted ∷ [])
  legal_inserted = record {
    legal = (refl, tt);
    each = All-cons (StandsIn (change ∷ []) 0) inserted [] (record { place = omega arith; reply = refl; change = λ c e. e }) (All-nil (StandsIn (change ∷ []) 0));
    rising = (le_refl 0, tt);
    own = refl;
  }

  legal_found : LegalCalls (change ∷ []) 1 (found ∷ [])
  legal_found = record {
    legal = (refl, tt);
    each = All-cons (StandsIn (change ∷ []) 1) found [] (record { place = le_refl 1; reply = refl; change = λ c e. cc }) (All-nil (StandsIn (change ∷ []) 1));
    rising = (omega arith, tt);
    own = refl;
  }

  by_passes : AreByPasses layout (change ∷ [])
  by_passes = All-cons (λ (x : Change). x.pass < layout.passes) change [] zero_low (All-nil (λ (x : Change). x.pass < layout.passes))

  pub insert_noted : IsNoted layout (pass_of s0) (pass_of e0) (Insert [] value) Inserted
  insert_noted = record {
    on = record {
      number = refl;
      front = (made ∷ [], refl);
      fresh = ([], refl);
      seen = (made ∷ [], refl);
      now = (omega arith, omega arith);
      makers = at_change
          (AreByPasses layout) by_passes;
    };
    place = 0;
    notes = refl;
    low = le_refl 0;
    high = omega arith;
    legal = at_change (λ f. LegalCalls f 0 (inserted ∷ [])) legal_inserted;
  }

  pub get_noted : IsNoted layout (pass_of s1) (pass_of e1) (Get []) (Value value)
  get_noted = record {
    on = record {
      number = refl;
      front = (made ∷ [], refl);
      fresh = (made ∷ [], refl);
      seen = ([], refl);
      now = (omega arith, omega arith);
      makers = at_change
          (AreByPasses layout) by_passes;
    };
    place = 1;
    notes = refl;
    low = le_refl 1;
    high = le_refl 1;
    legal = at_change (λ f. LegalCalls f 1 (found ∷ [])) legal_found;
  }

  abbrev ours : List Happening
  ours = call_of 0 (Insert [] value ∷ []) changing ClearPin (inserted ∷ []) (responds 0 (inserted ∷ []))

  abbrev theirs : List Happening
  theirs = call_of 1 (Get [] ∷ []) looking ClearPin (found ∷ []) (responds 1 (found ∷ []))

  first_done : HasGoneThrough table 0 ours e0
  unfolding insert_noted
  first_done = called (new (refl, refl, refl, refl)) (Insert [] value ∷ []) changing ClearPin (λ k. inserted ∷ []) ends_so
      (answered (Insert [] value) Inserted refl insert_noted)

  second_done : HasGoneThrough table 1 theirs e1
  unfolding get_noted
  second_done = called (new (refl, refl, refl, refl)) (Get [] ∷ []) looking ClearPin (λ k. found ∷ []) found_so (answered (Get []) (Value value) refl get_noted)

  pub behind_get : OthersStepOn 0 w12.run w16.run
  behind_get =
      let event : Act → Event = λ act. record { pass = 1; act = act } in
      let more : List Event = event (LoadEpoch 1) ∷ event (SetPin 1) ∷ event (LoadRef Root root) ∷ event ClearPin ∷ [] in
      (more, refl, All-from_recursion (λ (x : Event). x.pass ≢ 0) more (one_not, (one_not, (one_not, (one_not, tt)))))

  -- The steps of both calls, as their contracts say

  -- the core at the last load of the root
  abbrev w4 : World
  w4 = all_stepped 0 w0 (LoadEpoch 1 ∷ SetPin 1 ∷ LoadRef Root 0 ∷ Lock Anchor (state_word Live) ∷ [])

  t4 : IsTrue layout 0 1 w4
  t4 = all_true table 0 1 one_not w0 (LoadEpoch 1 ∷ SetPin 1 ∷ LoadRef Root 0 ∷ Lock Anchor (state_word Live) ∷ []) t0
      ((zero_low, refl), tt, ((zero_low, (refl, refl, le_refl 1)), tt, ((zero_low, refl), tt, ((zero_low, refl), tt, tt))))

  abbrev behind_load : List Act
  behind_load = Claim (a_leaf 0) (state_word Free) ∷ Fill (a_leaf 0) 1 value ∷ Ready (a_leaf 0) ∷ Publish Root 1 ∷ LoadEpoch 1 ∷ Unlock Anchor ∷ ClearPin ∷ []

  insert_sees : SeesAllOfRun layout s0 e0
  insert_sees = record {
    sees = record {
      core = w4.core;
      lawful = t4.lawful;
      layout_is = t4.layout_is;
      at = w4.one;
      knows = t4.one;
      pass = refl;
      since = omega arith;
      until = omega arith;
      fresh = refl;
      all = λ other knows. seen_by w4.core other knows;
    };
    run = w4.run;
    led = t4.led;
    since = (w4.run, refl);
    root = 0;
    legal = (zero_low, refl);
    rest = events_of 0 behind_load;
    until = refl;
    last = All-from_recursion LeavesFresh behind_load (tt, (tt, (tt, (tt, (tt, (tt, (tt, tt)))))));
  }

  abbrev attempt : List Act
  attempt = LoadRef Root 0 ∷ Lock Anchor (state_word Live) ∷ LoadRef Root 0 ∷ Claim (a_leaf 0) (state_word Free) ∷ Fill (a_leaf 0) 1 value ∷ Ready (a_leaf 0) ∷ Publish Root 1 ∷ LoadEpoch 1 ∷ Unlock Anchor ∷ []

  insert_attempt : IsAttempt layout changing
  insert_attempt = record {
    epoch = 1;
    rest = attempt;
    acts_are = refl;
    steps = record {
      search = LoadRef Root 0 ∷ [];
      rest = Lock Anchor (state_word Live) ∷ LoadRef Root 0 ∷ Claim (a_leaf 0) (state_word Free) ∷ Fill (a_leaf 0) 1 value ∷ Ready (a_leaf 0) ∷ Publish Root 1 ∷ LoadEpoch 1 ∷ Unlock Anchor ∷ [];
      acts_are = refl;
      searches = All-from_recursion IsOfSearch (LoadRef Root 0 ∷ []) (tt, tt);
      pinned = All-from_recursion IsOfAttempt attempt (tt, (tt, (tt, (tt, (tt, (tt, (tt, (tt, (tt, tt)))))))));
      once = grind arith;
      depth = omega arith;
      locks = omega arith;
      few = omega arith;
    };
  }

  insert_ends : Ends table untold changing ClearPin (change_notes {F = TryFault} (Insert [] value) (Ok Inserted)) (s0, tt) (e0, tt)
  unfolding ends_so
  insert_ends = (ends_so.0, ends_so.1, saying (change_notes {F = TryFault} (Insert [] value) (Ok Inserted)) (inserted ∷ []) ends_so.2 refl)

  insert_made : HasMadeChangeSteps table untold (Insert [] value) (Ok Inserted) (pass_of s0, tt) (pass_of e0, tt)
  insert_made = record {
    acts = changing;
    begins = refl;
    ends = refl;
    tries = record {
      before = [];
      rest = changing;
      acts_are = refl;
      tidies = inl refl;
      tidied = (s0, tt);
      steps = refl;
      tries = inl (insert_attempt, refl);
    };
    steps = insert_ends;
    sees = insert_sees;
    told = all_untold (events_of 0 (changing ++ ClearPin ∷ []));
    few = omega arith;
    touched = omega arith;
  }

  -- an insertion that the contract of `try_insert` admits
  pub insert_tried : IsTried (Insert [] value) (Ok Inserted) table untold (pass_of s0, tt) (pass_of e0, tt)
  insert_tried = record {
    own = refl;
    call = insert_noted;
    cause = tt;
    leafless = tt;
    made = insert_made;
    room = record {
      spares = λ spare core lone. let one = lone.passes in absurd (omega (arith, one, two));
      finds = λ removal. absurd removal;
    };
  }

  get_sees : SeesAllOfRun layout s1 e1
  get_sees = record {
    sees = record {
      core = w14.core;
      lawful = t14.lawful;
      layout_is = t14.layout_is;
      at = w14.one;
      knows = t14.one;
      pass = refl;
      since = omega arith;
      until = omega arith;
      fresh = refl;
      all = λ other knows. seen_by w14.core other knows;
    };
    run = w14.run;
    led = t14.led;
    since = (w14.run, refl);
    root = root;
    legal = (one_low, refl);
    rest = record { pass = 1; act = ClearPin } ∷ [];
    until = refl;
    last = All-from_recursion LeavesFresh (ClearPin ∷ []) (tt, tt);
  }

  -- a get that the contract of `get` admits
  pub get_made : HasMadeGetSteps table untold (pass_of s1, tt) (pass_of e1, tt)
  get_made = record {
    read = record {
      epoch = 1;
      root = root;
      loads = [];
      said = λ k. found ∷ [];
      begins = refl;
      ends = refl;
      below = All-nil IsBelowRoot;
      steps = found_so;
      sees = get_sees;
      told = all_untold (events_of 1 (looking ++ ClearPin ∷ []));
    };
    depth = omega arith;
    few = omega arith;
    touched = omega arith;
  }

  -- each other pass is new

  abbrev pub idle_seat : ℕ → SeatView
  idle_seat q = seat_at table.id q (opening_of q) []

  abbrev all : ℕ → List Happening × SeatView
  all = of_two_first (ours, e0) (theirs, e1) (λ q. ([], idle_seat q))

  pub not_by_others : (q : ℕ) → 2 ≤ q → OthersStepOn q [] w16.run
  not_by_others q high =
      let low : 0 ≢ q = λ e. absurd (omega (arith, high, e)) in
      let also : 1 ≢ q = λ e. absurd (omega (arith, high, e)) in (
        w16.run,
        refl,
        All-from_recursion (λ (x : Event). x.pass ≢ q) w16.run
            (low, (low, (low, (low, (low, (low, (low, (low, (low, (low, (low, (low, (also, (also, (also, (also, tt)))))))))))))))),
      )

  pub ended : HaveEndedInOneRun table w16.run (λ q. (all q).0) (λ q. (all q).1)
  ended = record {
    led = (w16.core, t16.led);
    each = λ q low. by_two_first (λ k (z : List Happening × SeatView). HasGoneThrough table k z.0 z.1) (ours, e0) (theirs, e1) (λ k. ([], idle_seat k))
        first_done second_done (λ k high. new (refl, refl, refl, refl)) q;
    others = λ q low. by_two_first (λ k (z : List Happening × SeatView). OthersStepOn k z.1.trace w16.run) (ours, e0) (theirs, e1) (λ k. ([], idle_seat k))
        behind_get (others_none 1 w16.run) not_by_others q;
  }

pub an_insert_is_found : AnInsertIsFound
an_insert_is_found table two value fits = (
  (w16 table two value fits).run,
  (λ q. (all table two value fits q).0),
  (λ q. (all table two value fits q).1),
  ended table two value fits,
  refl,
  refl,
  by_two_first (λ q (z : List Happening × SeatView). 2 ≤ q → z.0 ≡ []) (ours table two value fits, e0 table two value fits) (theirs table two value fits, e1 table two value fits)
      (λ q. ([], idle_seat table two value fits q)) (λ high. absurd (omega (arith, high))) (λ high. absurd (omega (arith, high))) (λ q high again. refl),
)
