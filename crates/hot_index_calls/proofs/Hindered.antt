-- What hindered an attempt, by the run of the table.
use Rattle.hot_index_calls.proofs.Common.{runs_same, ◌≡◌, inl, inr, ◌<◌, List, [], ◌∷◌, length, get_or, Some, refl, sym, ap, subst, ◌∙◌, arith, length-append, slice_get-get_or, Change, Added, Note, OthersGoOn, Layout, Pin, Act, ClearPin, LoadEpoch, SetPin, Event, Known, Core, after, version_of, opening, Does, Ends, Steps, StepsWith, SeatView, TableView, RunBeginsWith, led_more, next_begins, Pins, NoChangeFrom, HasMetOther, IsHindered, met_between, no_change_from_later, runs_begin}
use Rattle.std.proofs.Common.{append-nil}
use Rattle.rowex_core.specs.Runs.{EventsLead}
use Rattle.record_words.specs.Layout.{uncommitted_in}
use Rattle.rowex_table.specs.Committed.{AtMost}
use Rattle.rowex_table.proofs.Committed.{at_most_trans}
use Rattle.rowex_table.proofs.Onward.{begins_on, others_begin}
use Rattle.hot_index_calls.specs.Alone.{HasBeenHindered}
use Rattle.hot_index_calls.specs.Traces.{HasEnded, HasStepped}
use Rattle.hot_index_calls.proofs.changing.Conflicts.{no_change_since_pins}
use Rattle.hot_index_calls.proofs.Noting.{pinned_pass}

-- ---- what goes on
module _ {G : Type 0} (table : TableView) (becomes : G → Event → G → Type 0) where
  pub ends_begin : (acts : List Act) (act : Act) (said : Known → List Note) (a b : SeatView × G) → Ends table becomes acts act said a b → RunBeginsWith b.0.trace a.0.trace
  ends_begin acts act said a b (m, run, end) = begins_on a.0.trace m.0.trace b.0.trace (runs_begin table becomes acts a m run) (next_begins end.next)

  pub ended_begin : {Are : List Act → Type 0} {said : Known → List Note} (a b : SeatView × G) → HasEnded table becomes Are said a b → RunBeginsWith b.0.trace a.0.trace
  ended_begin {said = said} a b (acts, are, ends) = ends_begin acts ClearPin said a b ends

  pub does_begin : {changed : Known → Known → Known} {acts : List Act} (a b : SeatView × G) → Does table becomes changed acts a b → RunBeginsWith b.0.trace a.0.trace
  does_begin {acts = acts} a b does = runs_begin table becomes acts a b does.steps

  pub stepped_begin : {said : Known → List Note} (a b : SeatView × G) → HasStepped table becomes said a b → RunBeginsWith b.0.trace a.0.trace
  stepped_begin {said = said} a b (acts, last, ends) = ends_begin acts last said a b ends

  -- no more is uncommitted than before
  ends_bounds : (acts : List Act) (last : Act) (said : Known → List Note) (a b : SeatView × G) → Ends table becomes acts last said a b → AtMost (uncommitted_in b.0.bounds) (uncommitted_in a.0.bounds)
  ends_bounds acts last said a b (m, run, step) = at_most_trans (uncommitted_in b.0.bounds) (uncommitted_in m.0.bounds) (uncommitted_in a.0.bounds) step.seat.4 (runs_same table becomes acts a m run).4

  pub ended_bounds : {Are : List Act → Type 0} {said : Known → List Note} (a b : SeatView × G) → HasEnded table becomes Are said a b → AtMost (uncommitted_in b.0.bounds) (uncommitted_in a.0.bounds)
  ended_bounds {said = said} a b (acts, are, ends) = ends_bounds acts ClearPin said a b ends

  pub stepped_bounds : {said : Known → List Note} (a b : SeatView × G) → HasStepped table becomes said a b → AtMost (uncommitted_in b.0.bounds) (uncommitted_in a.0.bounds)
  stepped_bounds {said = said} a b (acts, last, ends) = ends_bounds acts last said a b ends

-- ---- an attempt
-- A pass has loaded the epoch and set its pin.
module _ {G : Type 0} {table : TableView} {becomes : G → Event → G → Type 0} {a b : SeatView × G} (pins : Pins table becomes a b) where
  abbrev middle : SeatView × G
  middle = pins.1.steps.0

  abbrev first : Steps table becomes (LoadEpoch pins.0) a middle
  first = pins.1.steps.1

  abbrev last : SeatView × G
  last = pins.1.steps.2.0

  abbrev second : Steps table becomes (SetPin pins.0) middle last
  second = pins.1.steps.2.1

  same : b ≡ last
  same = pins.1.steps.2.2

  abbrev pinned : Core
  pinned = after second.event.core middle.0.known.pass (SetPin pins.0)

  abbrev pin : Pin
  pin = record { word = pins.0; version = second.event.core.past.now; floor = second.event.core.epoch }

  pin_is : b.0.known.pin ≡ Some pin
  pin_is = ap (λ (z : SeatView × G). z.0.known.pin) same ∙ ap (λ (z : Known). z.pin) second.event.learned_is

  counted : pin.version ≡ length pinned.changes
  counted = sym second.event.lawful.core.told.count

  pinned_led : EventsLead (opening table.layout) b.0.trace pinned
  pinned_led = subst (λ (z : SeatView × G). EventsLead (opening table.layout) z.0.trace pinned) (sym same)
      (subst (λ l. EventsLead (opening table.layout) l pinned) (sym second.next.next_is)
      (led_more (opening table.layout) second.next.before second.event.core middle.0.known.pass (SetPin pins.0) second.next.led second.event.legal))

  hindered_by : (d : SeatView) → HasMetOther table.layout (version_of b.0.known.pin) b.0 d → HasBeenHindered table.layout a.0.known.pass a.0 d
  hindered_by d met = record {
    before = first.next.before;
    first = record { pass = a.0.known.pass; act = LoadEpoch pins.0 };
    own = refl;
    behind = others_begin a.0.known.pass a.0.trace first.next.before first.next.others;
    at = b.0;
    pass = pinned_pass pins;
    within = subst (RunBeginsWith b.0.trace) first.next.next_is (runs_begin table becomes (SetPin pins.0 ∷ []) middle b pins.1.steps.2);
    pinned = pinned;
    led = pinned_led;
    met = subst (λ m. HasMetOther table.layout m b.0 d) (ap version_of pin_is ∙ counted) met;
  }

  -- It makes an attempt, and clears its pin.
  module _ {c d : SeatView × G} {said : Known → List Note} (step : StepsWith table becomes ClearPin said c d) (pass : c.0.known.pass ≡ b.0.known.pass)
      (others : OthersGoOn b.0.known.pass b.0.known.front c.0.known.front) (grown : RunBeginsWith c.0.trace b.0.trace) where
    -- it has seen a change that was made since
    seen_met : version_of b.0.known.pin < length c.0.known.front → HasMetOther table.layout (version_of b.0.known.pin) b.0 d.0
    seen_met low =
        let e = step.event in
        let none : Change = record { pass = 0; key = []; value = 0; kind = Added } in
        let more = e.knows.seen.front in
        let version = ap version_of pin_is in
        let there : pin.version < length e.core.changes = let count = length-append c.0.known.front more.0 in omega (arith, low, version, ap length more.1, count) in
        let quiet : NoChangeFrom b.0.known.pass pin.version e.core.changes =
        no_change_from_later b.0.known.pass pin.version c.0.known.front e.core.changes (no_change_from_later b.0.known.pass pin.version b.0.known.front c.0.known.front (no_change_since_pins pins pin pin_is) others)
        (subst (λ q. OthersGoOn q c.0.known.front e.core.changes) pass more) in
        record {
          run = step.next.before;
          core = e.core;
          led = step.next.led;
          since = begins_on b.0.trace c.0.trace step.next.before grown (others_begin c.0.known.pass c.0.trace step.next.before step.next.others);
          until = (record { pass = c.0.known.pass; act = ClearPin } ∷ [], step.next.next_is);
          by = (get_or e.core.changes pin.version none).pass;
          another = quiet pin.version none (omega arith) there;
          below = subst (λ (z : Layout). (get_or e.core.changes pin.version none).pass < z.passes) e.layout_is (e.lawful.makers pin.version none there);
          is = inr (pin.version, get_or e.core.changes pin.version none, omega (arith, version), slice_get-get_or e.core.changes pin.version none there, refl);
        }

    pub hindered_in_attempt : IsHindered table.layout b.0 c.0 → HasBeenHindered table.layout a.0.known.pass a.0 d.0
    hindered_in_attempt (inl met) = hindered_by d.0
        (met_between table.layout (version_of b.0.known.pin) b.0 b.0 c.0 d.0 refl ([], sym (append-nil b.0.trace)) (next_begins step.next) met)
    hindered_in_attempt (inr seen) = hindered_by d.0 (seen_met seen)
