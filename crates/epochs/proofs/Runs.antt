-- Steps on epochs, pins and states: what they leave of what their pass knows, and how they follow one another.
use Rattle.epochs.proofs.Common.{◌≡◌, ◌+◌, ℕ, List, [], ◌∷◌, ◌++◌, length, Bool, true, false, nat_eq, Option, refl, sym, ap, ◌∙◌, Layout, Rec, Act, LoadEpoch, Advance, SetPin, ClearPin, LoadPin, LoadState, GiveBack, Event, Known, holder_of, word_of, IsEvent, failed_with, learned_by, silent, Steps, Does, TableView, SeatView}
use Rattle.std.specs.Prelude.{if◌then◌else◌}
use Rattle.rowex_core.specs.declared.known.Failed.{Failed}
use Rattle.rowex_core.specs.declared.known.FailedAct.TheVariants.{LoadState as a_load}
use Rattle.rowex_table.proofs.Runs as running
use Rattle.epochs.specs.Runs.{collecting, paced}

-- One step

-- a step that leaves all but the pin and the round
abbrev pub OnlyPaces : Act → Type 0
OnlyPaces (LoadEpoch w) = Unit {0}
OnlyPaces (Advance expected found) = Unit {0}
OnlyPaces (SetPin w) = Unit {0}
OnlyPaces ClearPin = Unit {0}
OnlyPaces (LoadPin o w) = Unit {0}
OnlyPaces (GiveBack r epoch found) = Unit {0}
OnlyPaces act = ⊥

rest : (layout : Layout) (act : Act) (k j : Known) → OnlyPaces act → IsEvent layout act silent k j → j ≡ record (paced k j) { steps = k.steps + 1 }
rest layout (LoadEpoch w) k j paces e = running.settled paced k (learned_by e.core (LoadEpoch w) k) j e.learned_is refl
rest layout (Advance expected found) k j paces e = running.settled paced k (learned_by e.core (Advance expected found) k) j e.learned_is refl
rest layout (SetPin w) k j paces e = running.settled paced k (learned_by e.core (SetPin w) k) j e.learned_is refl
rest layout ClearPin k j paces e = running.settled paced k (learned_by e.core ClearPin k) j e.learned_is refl
rest layout (LoadPin o w) k j paces e = running.settled paced k (learned_by e.core (LoadPin o w) k) j e.learned_is refl
rest layout (GiveBack r epoch found) k j paces e = running.settled paced k (learned_by e.core (GiveBack r epoch found) k) j e.learned_is refl
rest layout _ k j paces e = absurd paces

-- a load of a state leaves all but the failed steps
look_rest : (r : Rec) (w : ℕ) (free : Bool) (by : Option ℕ) (k j : Known) → j ≡ record (if free then k else failed_with k (a_load by) (word_of r 0) w) { steps = k.steps + 1; notes = k.notes ++ [] } → j ≡ record (collecting k j) { steps = k.steps + 1 }
look_rest r w true by k j e = running.settled collecting k k j e refl
look_rest r w false by k j e = running.settled collecting k (failed_with k (a_load by) (word_of r 0) w) j e refl

module _ {G : Type 0} (table : TableView) (becomes : G → Event → G → Type 0) where
  pub does_one : (act : Act) (a b : SeatView × G) → OnlyPaces act → Steps table becomes act a b → Does table becomes paced (act ∷ []) a b
  does_one act a b paces step = running.does_one table becomes paced act a b step (rest table.layout act a.0.known b.0.known paces step.event)

  -- Steps one after the other

  pub does_append : (acts more : List Act) (a m b : SeatView × G) → Does table becomes paced acts a m → Does table becomes paced more m b → Does table becomes paced (acts ++ more) a b
  does_append acts more a m b first second = running.does_append table becomes paced (λ k i j n o. refl) acts more a m b first second

  pub does_two : (first second : Act) (a m b : SeatView × G) → OnlyPaces first → OnlyPaces second → Steps table becomes first a m → Steps table becomes second m b → Does table becomes paced (first ∷ second ∷ []) a b
  does_two first second a m b paces paces' e f = does_append (first ∷ []) (second ∷ []) a m b (does_one first a m paces e) (does_one second m b paces' f)

  -- Visits, one after the other

  pub collects_look : (r : Rec) (w : ℕ) (a b : SeatView × G) → Steps table becomes (LoadState r w) a b → Does table becomes collecting (LoadState r w ∷ []) a b
  collects_look r w a b step = running.does_one table becomes collecting (LoadState r w) a b step (look_rest r w (nat_eq w 0) (holder_of (step.event.core.fate r)) a.0.known b.0.known step.event.learned_is)

  -- steps on pins and rounds are among those that may change the failed steps too
  pub collects : (acts : List Act) (a b : SeatView × G) → Does table becomes paced acts a b → Does table becomes collecting acts a b
  collects acts a b does = record {
    seat = does.seat;
    steps = does.steps;
    rest = does.rest ∙ ap (λ (failed : List Failed). let z : Known = record (paced a.0.known b.0.known) { failed = failed; steps = a.0.known.steps + length acts } in z) (sym (ap (λ (z : Known). z.failed) does.rest));
  }

  pub collects_append : (acts more : List Act) (a m b : SeatView × G) → Does table becomes collecting acts a m → Does table becomes collecting more m b → Does table becomes collecting (acts ++ more) a b
  collects_append acts more a m b first second = running.does_append table becomes collecting (λ k i j n o. refl) acts more a m b first second
