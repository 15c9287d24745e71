-- Steps one after the other: how they follow one another, and what the gate was told.
pub mod Linking
use Rattle.rowex_table.proofs.Common.{◌≡◌, ℕ, ◌+◌, List, [], ◌∷◌, ◌++◌, length, refl, sym, ap, subst, ◌∙◌, arith, le_refl, le_trans, add-one, length-append, Note, Act, Event, Known}
use Rattle.std.proofs.lemmas.List.{append-nil}
use Rattle.record_words.specs.Layout.{uncommitted_in}
use Rattle.rowex_table.specs.Seats.{TableView, SeatView, MakesNoAside}
use Rattle.rowex_table.specs.Runs.{IsTold, events_of, Steps, Runs, Ends, Does, InTurn}
use Rattle.rowex_table.specs.Statements.{GateIsToldEachStep}

-- One seat

pub same_none : (s : SeatView) → MakesNoAside s s
same_none s = (refl, refl, refl, refl, λ kind. le_refl (uncommitted_in s.bounds kind))

pub same_more : (s t u : SeatView) → MakesNoAside s t → MakesNoAside t u → MakesNoAside s u
same_more s t u first second = (second.0 ∙ first.0, second.1 ∙ first.1, second.2 ∙ first.2, second.3 ∙ first.3, λ kind. le_trans (second.4 kind) (first.4 kind))

-- A step is counted, and no note comes with it. Where what it has taught (l) differs from what the pass knew (k) by no more than `changed`
-- takes, so does what the pass knows then.
pub settled : (changed : Known → Known → Known) (k l j : Known) → j ≡ record l { steps = k.steps + 1; notes = k.notes ++ [] } →
    (let z : Known = record l { steps = k.steps + 1; notes = k.notes } in z ≡ record (changed k z) { steps = k.steps + 1 }) → j ≡ record (changed k j) { steps = k.steps + 1 }
settled changed k l j e same = subst (λ (z : Known). z ≡ record (changed k z) { steps = k.steps + 1 })
    (sym (e ∙ ap (λ (notes : List Note). let z : Known = record l { steps = k.steps + 1; notes = notes } in z) (append-nil k.notes))) same

-- Steps in turn: those of one part more
pub in_turn_more : (Parts : ℕ → List Act → Type 0) (n : ℕ) (before last : List Act) → InTurn Parts n before → Parts n last → InTurn Parts (n + 1) (before ++ last)
in_turn_more Parts n before last first second = subst (λ m. InTurn Parts m (before ++ last)) (sym (add-one n)) (before, last, first, second, refl)

module _ {G : Type 0} (table : TableView) (becomes : G → Event → G → Type 0) where
  -- Runs

  pub runs_one : (act : Act) (a b : SeatView × G) → Steps table becomes act a b → Runs table becomes (act ∷ []) a b
  runs_one act a b step = (b, step, refl)

  pub runs_append : (acts more : List Act) (a m b : SeatView × G) → Runs table becomes acts a m → Runs table becomes more m b → Runs table becomes (acts ++ more) a b
  runs_append [] more a m b first second = subst (λ (z : SeatView × G). Runs table becomes more z b) first second
  runs_append (act ∷ acts) more a m b first second = (first.0, first.1, runs_append acts more first.0 m b first.2 second)

  -- the seat stays one seat
  pub runs_same : (acts : List Act) (a b : SeatView × G) → Runs table becomes acts a b → MakesNoAside a.0 b.0
  runs_same [] a b run = subst (λ (z : SeatView × G). MakesNoAside a.0 z.0) (sym run) (same_none a.0)
  runs_same (act ∷ acts) a b run = same_more a.0 run.0.0 b.0 run.1.seat (runs_same acts run.0 b run.2)

  -- and the gate was told each step, in order
  pub runs_told : (acts : List Act) (a b : SeatView × G) → Runs table becomes acts a b → IsTold becomes (events_of a.0.known.pass acts) a.1 b.1
  runs_told [] a b run = ap (λ (z : SeatView × G). z.1) run
  runs_told (act ∷ acts) a b run = (run.0.1, run.1.told, subst (λ q. IsTold becomes (events_of q acts) run.0.1 b.1) run.1.seat.2 (runs_told acts run.0 b run.2))

  pub told_append : (events more : List Event) (g f h : G) → IsTold becomes events g f → IsTold becomes more f h → IsTold becomes (events ++ more) g h
  told_append [] more g f h first second = subst (λ z. IsTold becomes more z h) first second
  told_append (event ∷ events) more g f h first second = (first.0, first.1, told_append events more first.0 f h first.2 second)

  pub ends_told : (acts : List Act) (act : Act) (said : Known → List Note) (a b : SeatView × G) → Ends table becomes acts act said a b → IsTold becomes (events_of a.0.known.pass (acts ++ act ∷ [])) a.1 b.1
  ends_told acts act said a b ends =
      let q = (runs_same acts a ends.0 ends.1).2 in
      subst (λ l. IsTold becomes l a.1 b.1) (sym (events_of-append a.0.known.pass acts (act ∷ [])))
      (told_append (events_of a.0.known.pass acts) (events_of a.0.known.pass (act ∷ [])) a.1 ends.0.1 b.1 (runs_told acts a ends.0 ends.1)
      (b.1, subst (λ n. becomes ends.0.1 (record { pass = n; act = act }) b.1) q ends.2.told, refl))
    where
      events_of-append : (n : ℕ) (l m : List Act) → events_of n (l ++ m) ≡ events_of n l ++ events_of n m
      events_of-append n [] m = refl
      events_of-append n (x ∷ l) m = ap (λ z. record { pass = n; act = x } ∷ z) (events_of-append n l m)

  -- What steps change

  module _ (changed : Known → Known → Known) where
    -- what is taken from the later of two is taken from the last of three
    abbrev pub IsPart : Type 0
    IsPart = (k i j : Known) (n m : ℕ) → (let z : Known = record (changed (record (changed k i) { steps = n }) j) { steps = m } in z) ≡ record (changed k j) { steps = m }

    pub does_none : (a : SeatView × G) → ((k : Known) → changed k k ≡ k) → Does table becomes changed [] a a
    does_none a none =
        let k : Known = a.0.known in
        let zero : k.steps ≡ k.steps + 0 = omega arith in
        record { seat = same_none a.0; steps = refl; rest = sym (ap (λ (z : Known). let y : Known = record z { steps = k.steps + 0 } in y) (none k) ∙ ap (λ (n : ℕ). let y : Known = record k { steps = n } in y) (sym zero)) }

    pub does_one : (act : Act) (a b : SeatView × G) → Steps table becomes act a b → b.0.known ≡ record (changed a.0.known b.0.known) { steps = a.0.known.steps + 1 } → Does table becomes changed (act ∷ []) a b
    does_one act a b step rest = record { seat = step.seat; steps = runs_one act a b step; rest = rest }

    pub does_append : IsPart → (acts more : List Act) (a m b : SeatView × G) → Does table becomes changed acts a m → Does table becomes changed more m b → Does table becomes changed (acts ++ more) a b
    does_append part acts more a m b first second =
        let k : Known = a.0.known in
        let j : Known = b.0.known in
        let count : k.steps + length acts + length more ≡ k.steps + length (acts ++ more) = omega (arith, length-append acts more) in
        record {
          seat = same_more a.0 m.0 b.0 first.seat second.seat;
          steps = runs_append acts more a m b first.steps second.steps;
          rest = second.rest ∙
              (ap (λ (z : Known). let y : Known = record (changed z j) { steps = z.steps + length more } in y) first.rest ∙
              (part k m.0.known j (k.steps + length acts) (k.steps + length acts + length more) ∙ ap (λ (n : ℕ). let y : Known = record (changed k j) { steps = n } in y) count));
        }

    -- and how many there were
    pub does_count : (acts : List Act) (a b : SeatView × G) → Does table becomes changed acts a b → b.0.known.steps ≡ a.0.known.steps + length acts
    does_count acts a b does = ap (λ (z : Known). z.steps) does.rest

-- The law

pub gate_is_told_each_step : {G : Type 0} (becomes : G → Event → G → Type 0) → GateIsToldEachStep becomes
gate_is_told_each_step becomes table acts a b run = runs_told table becomes acts a b run
