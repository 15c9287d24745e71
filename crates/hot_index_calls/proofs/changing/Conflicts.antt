-- Another pass in the way of a call: what an attempt has met, and how the whole call sees it.
use Rattle.hot_index_calls.proofs.Common.{◌≡◌, ◌≢◌, ◌⊎◌, inl, inr, ⊎_elim, ℕ, ◌<◌, ◌≤◌, List, [], ◌∷◌, length, get_or, take, Option, Some, None, refl, sym, ap, subst, ◌∙◌, arith, le_trans, length-append, All, Contains, slice_get, append-nil, take-append-le, All-head, All-tail, slice_get-get_or, Call, Add, Exchange, Get, Insert, Remove, RemoveIf, Upsert, Change, Added, BeginsWith, OthersGoOn, map_of, value_at, Layout, Key, Pin, Act, Load, LoadRef, Event, Root, Slot, Target, Failed, Fresh, Known, IsEvent, IsPinnedSince, version_of, Runs, silent, SeatView, TableView, act_fresh, act_leaves, Pins, HasLoadedRoot, HasMadeNoChange, HasMetTaken, HasTried, IsOfAttempt, no_change_from_later, of_attempt_pin, RunBeginsWith}
use Rattle.rowex_core.specs.declared.event.Spot.TheVariants.{Value}
use Rattle.rowex_table.proofs.Onward.{begins_on}
use Rattle.hot_index_calls.specs.Alone.{HasBeenHindered}
use Rattle.hot_index_calls.specs.Answers.{HasConflict, IsOvertaken, MayTake, WasFound}
use Rattle.hot_index_calls.specs.Passes.{AreByPasses, PassView, pass_of}

-- ---- the pin of an attempt
-- a pass that has just set its pin has made no change since
pub no_change_since_pins : {G : Type 0} {table : TableView} {becomes : G → Event → G → Type 0} {a b : SeatView × G} → Pins table becomes a b → HasMadeNoChange b.0.known
no_change_since_pins {b = b} pins p is i d late low =
    let m = pins.1.steps.0 in
    let n = pins.1.steps.2.0 in
    let e = pins.1.steps.2.1.event in
    let same : b ≡ n = pins.1.steps.2.2 in
    let then_ : p.version ≡ e.core.past.now = sym (ap version_of (sym (ap (λ (z : SeatView × _). z.0.known.pin) same ∙ ap (λ (z : Known). z.pin) e.learned_is) ∙ is)) in
    let front : b.0.known.front ≡ m.0.known.front = ap (λ (z : SeatView × _). z.0.known.front) same ∙ ap (λ (z : Known). z.front) e.learned_is in
    let all = e.knows.seen.front in
    let count = length-append m.0.known.front all.0 in
    absurd (omega (arith, late, low, then_, ap length front, ap length all.1, count, e.lawful.core.told.count))

-- its pin tells of all changes that it had seen
pub pins_after : {G : Type 0} {table : TableView} {becomes : G → Event → G → Type 0} {a b : SeatView × G} → Pins table becomes a b → (p : Pin) → b.0.known.pin ≡ Some p → length a.0.known.front ≤ p.version
pins_after {a = a} {b = b} pins p is =
    let m = pins.1.steps.0 in
    let n = pins.1.steps.2.0 in
    let e = pins.1.steps.2.1.event in
    let same : b ≡ n = pins.1.steps.2.2 in
    let then_ : p.version ≡ e.core.past.now = sym (ap version_of (sym (ap (λ (z : SeatView × _). z.0.known.pin) same ∙ ap (λ (z : Known). z.pin) e.learned_is) ∙ is)) in
    let front : m.0.known.front ≡ a.0.known.front = ap (λ (z : Known). z.front) pins.1.steps.1.event.learned_is in
    let all = e.knows.seen.front in
    let count = length-append m.0.known.front all.0 in
    omega (arith, then_, ap length front, ap length all.1, count, e.lawful.core.told.count)

-- the version of the pin is kept with a load of the root
event_pinned : (layout : Layout) (act : Act) (k j : Known) → IsEvent layout act silent k j → (j.fresh ≡ k.fresh) ⊎ (j.fresh.pinned ≡ version_of k.pin)
event_pinned layout (LoadRef Root w) k j e = inr (ap (λ (z : Known). z.fresh.pinned) e.learned_is)
event_pinned layout (LoadRef (Slot n i) w) k j e = inl (act_fresh layout k j (LoadRef (Slot n i) w) silent e tt)
event_pinned layout (LoadRef (Value l) w) k j e = inl (act_fresh layout k j (LoadRef (Value l) w) silent e tt)
event_pinned layout (Load words) k j e = inr (ap (λ (z : Known). z.fresh.pinned) e.learned_is)
event_pinned layout act k j e = inl (act_fresh layout k j act silent e tt)

module _ {G : Type 0} (table : TableView) (becomes : G → Event → G → Type 0) where
  runs_pinned : (acts : List Act) (a b : SeatView × G) → All IsOfAttempt acts → Runs table becomes acts a b → (b.0.known.fresh ≡ a.0.known.fresh) ⊎ (b.0.known.fresh.pinned ≡ version_of a.0.known.pin)
  runs_pinned [] a b leave e = inl (ap (λ (z : SeatView × G). z.0.known.fresh) e)
  runs_pinned (act ∷ acts) a b leave (m, s, more) =
      let pin : m.0.known.pin ≡ a.0.known.pin = (act_leaves table.layout a.0.known m.0.known act s.event).pin (of_attempt_pin act (All-head IsOfAttempt act acts leave)) in
      ⊎_elim
      (λ (same : b.0.known.fresh ≡ m.0.known.fresh). ⊎_elim
      (λ (first : m.0.known.fresh ≡ a.0.known.fresh). inl (same ∙ first))
      (λ (new : m.0.known.fresh.pinned ≡ version_of a.0.known.pin). inr (ap (λ (z : Fresh). z.pinned) same ∙ new))
      (event_pinned table.layout act a.0.known m.0.known s.event))
      (λ (late : b.0.known.fresh.pinned ≡ version_of m.0.known.pin). inr (late ∙ ap version_of pin))
      (runs_pinned acts m b (All-tail IsOfAttempt act acts leave) more)

-- ---- an attempt that was overtaken
module _ {G : Type 0} {table : TableView} {becomes : G → Event → G → Type 0} {locks : List Target} {a b c : SeatView × G} (pins : Pins table becomes a b) (run : HasTried table becomes locks b c)
    (loaded : HasLoadedRoot b.0.known c.0.known) (before : b.0.known.fresh.step < b.0.known.steps) where
  pub under_pin : (p : Pin) → b.0.known.pin ≡ Some p → c.0.known.fresh.pinned ≡ p.version
  under_pin p is = ⊎_elim
      (λ (same : c.0.known.fresh ≡ b.0.known.fresh). let step = ap (λ (z : Fresh). z.step) same in let late = loaded.from in absurd (omega (arith, step, late, before)))
      (λ (new : c.0.known.fresh.pinned ≡ version_of b.0.known.pin). new ∙ ap version_of is)
      (runs_pinned table becomes run.acts b c run.each run.steps)

  pub overtaken : OthersGoOn b.0.known.pass b.0.known.front c.0.known.front → AreByPasses table.layout c.0.known.front → c.0.known.pass ≡ b.0.known.pass → (m : ℕ) → IsPinnedSince b.0.known m → m < length c.0.known.front →
      IsOvertaken table.layout (pass_of b.0) (pass_of c.0)
  overtaken others makers pass m (p, pinned, early) low =
      let d : Change = record { pass = 0; key = []; value = 0; kind = Added } in
      let x : Change = get_or c.0.known.front m d in
      record {
        loaded = loaded.from;
        change = x;
        place = m;
        is = slice_get-get_or c.0.known.front m d low;
        since = subst (λ z. z ≤ m) (sym (under_pin p pinned)) early;
        another = subst (λ q. x.pass ≢ q) (sym pass) (no_change_from_later b.0.known.pass p.version b.0.known.front c.0.known.front (no_change_since_pins pins p pinned) others m d early low);
        below = makers m d low;
      }

-- ---- a part of a call, after which the pass loaded no root
pub no_further : {later earlier : List Change} → later ≡ earlier → BeginsWith later earlier
no_further {earlier = earlier} same = ([], same ∙ sym (append-nil earlier))

pub found_from_before : (key : Key) (held : Option ℕ) (k j h i : PassView) → BeginsWith j.front k.front → BeginsWith i.front h.front → i.fresh ≡ h.fresh → WasFound key held j h → WasFound key held k i
found_from_before key held k j h i grown more fresh was = record {
  place = was.place;
  begun = (let begun = was.begun in omega (arith, ap length grown.1, length-append k.front grown.0, begun));
  since = subst (λ (z : Fresh). z.pinned ≤ was.place) (sym fresh) was.since;
  upto = (let upto = was.upto in omega (arith, ap length more.1, length-append h.front more.0, upto));
  found = ap (λ (z : List Change). value_at (map_of z) key) (ap (take was.place) more.1 ∙ take-append-le was.place h.front more.0 was.upto) ∙ was.found;
}

-- it may lack a record there, too
pub may_take_from_before : (call : Call) (k j h i : PassView) → BeginsWith j.front k.front → BeginsWith i.front h.front → i.fresh ≡ h.fresh → MayTake call j h → MayTake call k i
may_take_from_before (Insert key value) k j h i grown more fresh was = found_from_before key None k j h i grown more fresh was
may_take_from_before (Upsert key value) k j h i grown more fresh was = found_from_before key None k j h i grown more fresh was
may_take_from_before (Exchange key expected value) k j h i grown more fresh was = absurd was
may_take_from_before (Add key delta) k j h i grown more fresh was = absurd was
may_take_from_before (Get key) k j h i grown more fresh was = absurd was
may_take_from_before (Remove key) k j h i grown more fresh (value, was) = (value, found_from_before key (Some value) k j h i grown more fresh was)
may_take_from_before (RemoveIf key expected) k j h i grown more fresh was = found_from_before key (Some expected) k j h i grown more fresh was

-- ---- one after which it also had no further failed step, and saw no further change
pub met_from_before : (layout : Layout) (k j h i : PassView) → k.steps ≤ j.steps → i.number ≡ h.number → i.failed ≡ h.failed → i.front ≡ h.front → i.fresh ≡ h.fresh →
    HasMetTaken layout h.number j.steps h.failed ⊎ IsOvertaken layout j h → HasMetTaken layout i.number k.steps i.failed ⊎ IsOvertaken layout k i
met_from_before layout k j h i steps number failed front fresh (inl met) = inl (record {
  target = met.target;
  failed = met.failed;
  is = subst (λ (z : List Failed). Contains z met.failed) (sym failed) met.is;
  by = met.by;
  act = met.act;
  another = subst (λ q. met.by ≢ q) (sym number) met.another;
  below = met.below;
  place = met.place;
  word = met.word;
  now = le_trans steps met.now;
})
met_from_before layout k j h i steps number failed front fresh (inr o) = inr (record {
  loaded = subst (λ (z : Fresh). k.steps ≤ z.step) (sym fresh) (le_trans steps o.loaded);
  change = o.change;
  place = o.place;
  is = ap (λ z. slice_get z o.place) front ∙ o.is;
  since = subst (λ (z : Fresh). z.pinned ≤ o.place) (sym fresh) o.since;
  another = subst (λ q. o.change.pass ≢ q) (sym number) o.another;
  below = o.below;
})

-- ---- a call that began earlier
pub hindered_from_before : (layout : Layout) (q : ℕ) (s t u : SeatView) → RunBeginsWith t.trace s.trace → HasBeenHindered layout q t u → HasBeenHindered layout q s u
hindered_from_before layout q s t u grown h = record {
  before = h.before;
  first = h.first;
  own = h.own;
  behind = begins_on s.trace t.trace h.before grown h.behind;
  at = h.at;
  pass = h.pass;
  within = h.within;
  pinned = h.pinned;
  led = h.led;
  met = h.met;
}

pub conflict_from_before : (layout : Layout) (k j i : PassView) → k.steps ≤ j.steps → RunBeginsWith j.seat.trace k.seat.trace → HasConflict layout j i → HasConflict layout k i
conflict_from_before layout k j i steps grown conflict = record {
  pass = conflict.pass;
  met = met_from_before layout k j i i steps refl refl refl refl conflict.met;
  hindered = hindered_from_before layout i.number k.seat j.seat i.seat grown conflict.hindered;
}
