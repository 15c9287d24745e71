-- An index whose passes are idle: from the traces of its passes to the core, and the laws of a round and of a count made there.
use Rattle.index_laws.proofs.Common.{rules, ◌≡◌, ◌≢◌, inl, inr, ⊎_elim, ℕ, ◌+◌, ◌<◌, List, [], ◌∷◌, ◌++◌, if◌then◌else◌, nat_eq, Option, Some, None, length, refl, sym, ap, subst, ◌∙◌, arith, le_refl, append_assoc, append-nil, All, cases_eq, eq-eqb, ne_eqb, append_cancel_left, All-cons, All-head, All-nil, All-tail, All-weaker, Change, Note, map_of, EPOCHS, Layout, Rec, a_node, a_leaf, Fate, Free, Held, Ready, InTree, Unlinked, Marked, IsOneOf, Round, Act, LoadEpoch, Event, Known, Core, HasRecord, IsLawful, holder_of, Legal, after, Knows, opening, EventsLead, opening_is_lawful, runs_stay_lawful, InTurn, Runs, StepsWith, silent, opening_of, IsNewSeatOf, SeatView, TableView, IsTableRun, OthersStepOn, own_acts, lead_rest, own_acts-append, own_acts-others, steps_are_in_one_run, others_none, others_on, runs_same, run_timely, IsRound, FoundTags, HasCounted, OneForEach, counts_in, loads_in, IsSettled, PassView, HasCollected, Happening, Configuration, runs_stay_sound, state_word, Tag, LoadState, loads_of}
use Rattle.versions.specs.declared.Pin.{Pin}
use Rattle.rowex_core.specs.declared.known.Holding.TheVariants.{Held as HeldBy, Ready as ReadyBy, Unlinked as UnlinkedBy}
use Rattle.rowex_core.proofs.Sharing.Owning.{knows_all, pin_is, round_is}
use Rattle.epochs.specs.Rounds.{IsUncommitted, VisitsCommitted}
use Rattle.publish_laws.proofs.Lone.{lead_layout, lead_same, lead_split, one_of, step_knows}
use Rattle.rowex_writing.specs.locks.Others.{HoldsLock}
use Rattle.hot_index_calls.specs.Alone.{RunsAlone}
use Rattle.hot_index_calls.specs.declared.census.RecordCounts.{RecordCounts}
use Rattle.hot_index_calls.proofs.Rooms.{round_acts, step_here}
use Rattle.hot_index.proofs.Unhindered.{no_lock}
use Rattle.index_laws.specs.Joined.{HasGoneThrough, new}
use Rattle.index_laws.specs.Rest.{AreAllIdle, AreUncommittedFree, CountsKeys, CountsNoneLost, GoesOnAlone, HasNoneAtWork, IdlePassesLeaveAlone, LeadsTo, NoRecordIsLost, OnePassLosesNone, StepsAlone, number_of_keys, with_seat}
use Rattle.index_laws.specs.Traced.{core_led_to, configuration_of}
use Rattle.record_words.specs.Layout.{uncommitted_in}
use Rattle.hot_index_calls.specs.Census.{FindsUncommitted}
use Rattle.index_laws.proofs.LeftOut.{free_behind, left_free, uncommitted_free}
use Rattle.index_laws.proofs.Counting.{Fit, HaveFound, LeftFree, count_finds, counts_keys, counts_none_lost, each_fits}
use Rattle.index_laws.proofs.Joined.Interleaving.{named_by}
use Rattle.index_laws.proofs.Joined.{one_run_is_an_execution}
use Rattle.index_laws.proofs.Losing.{none_is_lost}
use Rattle.index_laws.proofs.Rounding.{ActsLead, IsPlaced, beginning, round_places}
use Rattle.index_laws.proofs.Executions.{executions_are_runs}
use Rattle.index_laws.proofs.Traced.{core_is, traced_are_executions}

-- ---- no pass is at work
-- Where each pass knows that it has nothing, no record is a pass's, and none is pinned.
none_at_work : (c : Core) → IsLawful c → (known : ℕ → Known) → ((q : ℕ) → q < c.layout.passes → Knows c (known q) × ((known q).pass ≡ q) ×
    IsSettled (known q)) →
    HasNoneAtWork c
none_at_work c law known each = record { unowned = λ r. owned r (c.fate r) refl; unpinned = λ q. pinned q (c.pins q) refl }
  where
    owned : (r : Rec) (f : Fate) → c.fate r ≡ f → holder_of (c.fate r) ≡ None
    owned r Free is = ap holder_of is
    owned r (InTree since) is = ap holder_of is
    owned r (Marked since last epoch) is = ap holder_of is
    owned r (Held q) is =
        let (knows, named, settled) = each q (law.records.holders r q (ap holder_of is)) in
        let has = one_of (known q).own _ ((knows_all c (known q) knows).all_own r HeldBy (is ∙ ap Held (sym named))) in
        absurd (subst (IsOneOf _) settled.own has)
    owned r (Ready q) is =
        let (knows, named, settled) = each q (law.records.holders r q (ap holder_of is)) in
        let has = one_of (known q).own _ ((knows_all c (known q) knows).all_own r ReadyBy (is ∙ ap Ready (sym named))) in
        absurd (subst (IsOneOf _) settled.own has)
    owned r (Unlinked since last q) is =
        let (knows, named, settled) = each q (law.records.holders r q (ap holder_of is)) in
        let has = one_of (known q).own _ ((knows_all c (known q) knows).all_own r (UnlinkedBy since last) (is ∙ ap (Unlinked since last) (sym named))) in
        absurd (subst (IsOneOf _) settled.own has)

    pinned : (q : ℕ) (o : Option Pin) → c.pins q ≡ o → c.pins q ≡ None
    pinned q None is = is
    pinned q (Some p) is =
        let (knows, named, settled) = each q (law.epochs.pinned q p is).0 in
        subst (λ z. c.pins z ≡ None) named (pin_is c (known q) knows ∙ settled.pin)

-- what passes know whose traces have ended in a run is true of the core to which it leads
module _ (table : TableView) (run : List Event) (seat : ℕ → SeatView) (rest : AreAllIdle table run seat) (c : Core)
    (led : EventsLead (opening table.layout) run c) where
  true_there : (q : ℕ) → q < table.layout.passes → Knows c (seat q).known
  true_there q low =
      let (last, at, happens, of, lin) = one_run_is_an_execution table run rest.done seat rest.ended in
      let moments : ℕ → Configuration = λ t. configuration_of table.layout (at t) in
      let whole = executions_are_runs table.layout last moments happens (traced_are_executions table last at happens of.traced) in
      let sound = runs_stay_sound table.layout last moments happens whole last (le_refl last) in
      let core : core_led_to (opening table.layout) (at last).run ≡ c = ap (core_led_to (opening table.layout)) of.run_is ∙
      sym (core_is (opening table.layout) run c led) in
      subst (λ (z : SeatView). Knows c z.known) (of.seats q low) (subst (λ z. Knows z ((at last).seat q).known) core (sound.knows q low))

  rest_none_at_work : HasNoneAtWork c
  rest_none_at_work =
      let passes : c.layout.passes ≡ table.layout.passes = ap (λ (l : Layout). l.passes) (lead_layout (opening table.layout) run c led) in
      none_at_work c (runs_stay_lawful table.layout run c led) (λ q. (seat q).known)
      (λ q low. (let few : q < table.layout.passes = omega (arith, low, passes) in (true_there q few, named_by (rest.ended.each q few), rest.settled q few)))

-- so where one of idle passes goes on alone, its calls are alone behind the run
pub alone_behind_run : (index : TableView) (run : List Event) (s e : SeatView) → GoesOnAlone index run s e → (alone : RunsAlone index.layout s.known.pass s e) × (alone.before ≡ run)
alone_behind_run index run s e on = (
  record {
    before = run;
    others = subst (λ (z : SeatView). OthersStepOn s.known.pass z.trace run) on.seat_is (on.idle.ended.others s.known.pass on.pass);
    core = on.idle.ended.led.0;
    led = on.idle.ended.led.1;
    none = λ o low another. record { locks = unlocked o low; own = λ r held. none_some o (sym (free.unowned r) ∙ held) };
    own = on.alone.0;
    until = on.alone.1;
    each = on.alone.2;
  },
  refl,
)
  where
    c : Core
    c = on.idle.ended.led.0

    free : HasNoneAtWork c
    free = rest_none_at_work index run on.seat on.idle c on.idle.ended.led.1

    none_some : (o : ℕ) → None ≡ Some o → ⊥
    none_some o is = absurd cc

    unlocked : (o : ℕ) → o < index.layout.passes → ¬ (HoldsLock c o)
    unlocked o low =
        let known : Known = (on.seat o).known in
        let settled = on.idle.settled o low in
        subst (λ z. ¬ (HoldsLock c z)) (named_by (on.idle.ended.each o low))
        (no_lock c known (runs_stay_lawful index.layout run c on.idle.ended.led.1) (true_there index run on.seat on.idle c on.idle.ended.led.1 o low) settled.own settled.locks settled.anchor)

pub idle_passes_leave_alone : IdlePassesLeaveAlone
idle_passes_leave_alone index run s e on = (alone_behind_run index run s e on).0

-- new passes have done nothing
new_idle : (index : TableView) (seat : ℕ → SeatView) → ((q : ℕ) → q < index.layout.passes → IsNewSeatOf index q (seat q)) → AreAllIdle index [] seat
new_idle index seat fresh = record {
  done = λ q. [];
  ended = record {
    led = (opening index.layout, refl);
    each = λ q low. new (fresh q low);
    others = λ q low. subst (λ l. OthersStepOn q l []) (sym (fresh q low).2) (others_none q []);
  };
  settled = λ q low. subst IsSettled (sym (fresh q low).1) (settled q);
}
  where
    settled : (q : ℕ) → IsSettled (opening_of q)
    settled q = search rules

chosen : {X : Type 0} (o q : ℕ) (x y : X) → o ≡ q → (if nat_eq o q then x else y) ≡ x
chosen o q x y same = ap (λ b. if b then x else y) (eq-eqb o q same)

other : {X : Type 0} (o q : ℕ) (x y : X) → o ≢ q → (if nat_eq o q then x else y) ≡ y
other o q x y ne = ap (λ b. if b then x else y) (ne_eqb o q ne)

-- Where one of idle passes has gone on alone, and is between two calls, all are idle again.
idle_again : (index : TableView) (run : List Event) (s e : SeatView) (done : List Happening) (on : GoesOnAlone index run s e) → IsTableRun index.layout e.trace →
    HasGoneThrough index s.known.pass done e → IsSettled e.known → AreAllIdle index e.trace (with_seat on.seat e)
idle_again index run s e done on table gone settled = record {
  done = all_done;
  ended = record {
    led = table;
    each = λ o low. ⊎_elim
        (λ (same : o ≡ q). subst (λ d. HasGoneThrough index o d (with_seat on.seat e o)) (sym (chosen o q done (on.idle.done o) same))
        (subst (HasGoneThrough index o done) (sym (chosen o q e (on.seat o) same)) (subst (λ z. HasGoneThrough index z done e) (sym (same ∙ named)) gone)))
        (λ (ne : o ≢ q). subst (λ d. HasGoneThrough index o d (with_seat on.seat e o)) (sym (other o q done (on.idle.done o) ne))
        (subst (HasGoneThrough index o (on.idle.done o)) (sym (other o q e (on.seat o) ne)) (on.idle.ended.each o low)))
        (cases_eq o q);
    others = λ o low. ⊎_elim
        (λ (same : o ≡ q). subst (λ (z : SeatView). OthersStepOn o z.trace e.trace) (sym (chosen o q e (on.seat o) same)) (others_none o e.trace))
        (λ (ne : o ≢ q). subst (λ (z : SeatView). OthersStepOn o z.trace e.trace) (sym (other o q e (on.seat o) ne))
        (others_on o (on.seat o).trace run e.trace (on.idle.ended.others o low) (no_step o ne)))
        (cases_eq o q);
  };
  settled = λ o low. ⊎_elim
      (λ (same : o ≡ q). subst (λ (z : SeatView). IsSettled z.known) (sym (chosen o q e (on.seat o) same)) settled)
      (λ (ne : o ≢ q). subst (λ (z : SeatView). IsSettled z.known) (sym (other o q e (on.seat o) ne)) (on.idle.settled o low))
      (cases_eq o q);
}
  where
    q : ℕ
    q = e.known.pass

    named : q ≡ s.known.pass
    named = named_by gone

    all_done : ℕ → List Happening
    all_done o = if nat_eq o q then done else on.idle.done o

    no_step : (o : ℕ) → o ≢ q → OthersStepOn o run e.trace
    no_step o ne =
        let (more, is, own) = on.alone in
        (more, is, All-weaker (λ (x : Event). x.pass ≡ s.known.pass) (λ (x : Event). x.pass ≢ o) (λ x mine. λ at. ne (sym at ∙ (mine ∙ sym named))) more own)

-- ---- steps of a seat as steps from core to core
own_lead : (q : ℕ) (c : Core) (more : List Event) (d : Core) → All (λ x. x.pass ≡ q) more → EventsLead c more d → ActsLead q c (own_acts q more) d
own_lead q c [] d own is = is
own_lead q c (x ∷ xs) d own (legal, rest) =
    let e : x.pass ≡ q = All-head (λ y. y.pass ≡ q) x xs own in
    subst (λ b. ActsLead q c (if b then x.act ∷ own_acts q xs else own_acts q xs) d) (sym (eq-eqb x.pass q e)) (
      subst (λ p. Legal c p x.act) e legal,
      own_lead q (after c q x.act) xs d (All-tail (λ y. y.pass ≡ q) x xs own) (subst (λ p. EventsLead (after c p x.act) xs d) e rest),
    )

abbrev head_of : Event → List Event → Event
head_of d [] = d
head_of d (x ∷ xs) = x

abbrev tail_of : List Event → List Event
tail_of [] = []
tail_of (x ∷ xs) = xs

-- Two lists have the same steps of others before the first step of a pass, if behind those of the second all steps are the pass's.
same_others : (q : ℕ) (os bs : List Event) (x : Event) (xs more : List Event) → All (λ y. y.pass ≢ q) os → All (λ y. y.pass ≢ q) bs → x.pass ≡ q → All (λ y. y.pass ≡ q) more →
    os ++ x ∷ xs ≡ bs ++ more → os ≡ bs
same_others q [] [] x xs more none others own alone is = refl
same_others q [] (b ∷ bs) x xs more none others own alone is =
    let e : x ≡ b = ap (head_of x) is in absurd (All-head (λ y. y.pass ≢ q) b bs others (ap (λ (y : Event). y.pass) (sym e) ∙ own))
same_others q (o ∷ os) [] x xs more none others own alone is =
    absurd (All-head (λ y. y.pass ≢ q) o os none (All-head (λ y. y.pass ≡ q) o (os ++ x ∷ xs) (subst (All (λ y. y.pass ≡ q)) (sym is) alone)))
same_others q (o ∷ os) (b ∷ bs) x xs more none others own alone is =
    let head : o ≡ b = ap (head_of o) is in
    let tail : os ≡ bs = same_others q os bs x xs more (All-tail (λ y. y.pass ≢ q) o os none) (All-tail (λ y. y.pass ≢ q) b bs others) own alone (ap tail_of is) in
    ap (λ y. y ∷ os) head ∙ ap (λ l. b ∷ l) tail

module _ {G : Type 0} (table : TableView) (becomes : G → Event → G → Type 0) where
  -- what a pass knows after its last step is true there
  step_true : (act : Act) (said : Known → List Note) (a b : SeatView × G) → StepsWith table becomes act said a b →
      (d : Core) → EventsLead (opening table.layout) b.0.trace d → Knows d b.0.known
  step_true act said a b step d led =
      let c = step.event.core in
      let q = a.0.known.pass in
      let x : Event = record { pass = q; act = act } in
      let start = opening table.layout in
      let on : EventsLead c (x ∷ []) d = lead_rest start step.next.before c (x ∷ []) d
      (subst (λ l. EventsLead start l d) step.next.next_is led) step.next.led in
      subst (λ z. Knows z b.0.known) (sym on.1) (step_knows table becomes act said a b step)

  runs_true : (act : Act) (acts : List Act) (a b : SeatView × G) → Runs table becomes (act ∷ acts) a b → (d : Core) →
      EventsLead (opening table.layout) b.0.trace d →
      Knows d b.0.known
  runs_true act [] a b (m, step, end) d led =
      subst (λ (z : SeatView × G). Knows d z.0.known) (sym end) (step_true act silent a m step d
      (subst (λ (z : SeatView × G). EventsLead (opening table.layout) z.0.trace d) end led))
  runs_true act (x ∷ acts) a b (m, step, rest) d led = runs_true x acts m b rest d led

  -- Where a pass alone makes steps behind a run, these lead on from the run's core.
  alone_lead : (acts : List Act) (a b : SeatView × G) (run : List Event) → Runs table becomes acts a b → OthersStepOn a.0.known.pass a.0.trace run →
      StepsAlone a.0.known.pass run b.0.trace → (c d : Core) → EventsLead (opening table.layout) run c → EventsLead (opening table.layout) b.0.trace d →
      ActsLead a.0.known.pass c acts d
  alone_lead acts a b run runs (between, run_is, others) (more, is, own) c d there led =
      let q : ℕ = a.0.known.pass in
      let start = opening table.layout in
      let x = steps_are_in_one_run becomes table acts a b runs in
      let all : a.0.trace ++ x.steps ≡ a.0.trace ++ (between ++ more) = sym x.trace ∙ (is ∙ (ap (λ l. l ++ more) run_is ∙
      append_assoc a.0.trace between more)) in
      let same : x.steps ≡ between ++ more = append_cancel_left a.0.trace x.steps (between ++ more) all in
      let mine : own_acts q more ≡ acts =
      sym (own_acts-append q between more ∙ ap (λ l. l ++ own_acts q more) (own_acts-others q between others)) ∙ (sym (ap (own_acts q) same) ∙ x.own) in
      let on : EventsLead c more d = lead_rest start run c more d (subst (λ l. EventsLead start l d) is led) there in
      subst (λ l. ActsLead q c l d) mine (own_lead q c more d own on)

  -- the first of them is made in that core
  first_core : (act : Act) (acts : List Act) (a b : SeatView × G) (run : List Event) (runs : Runs table becomes (act ∷ acts) a b) → OthersStepOn a.0.known.pass a.0.trace run →
      StepsAlone a.0.known.pass run b.0.trace → (c : Core) → EventsLead (opening table.layout) run c → runs.1.event.core ≡ c
  first_core act acts a b run runs (between, run_is, others) (more, is, own) c there =
      let q : ℕ = a.0.known.pass in
      let start = opening table.layout in
      let next = runs.1.next in
      let x : Event = record { pass = q; act = act } in
      let later = steps_are_in_one_run becomes table acts runs.0 b runs.2 in
      let whole : a.0.trace ++ (next.others.0 ++ x ∷ later.steps) ≡ b.0.trace =
      sym (later.trace ∙ (ap (λ l. l ++ later.steps) (next.next_is ∙ ap (λ l. l ++ x ∷ []) next.others.1) ∙
      (append_assoc (a.0.trace ++ next.others.0) (x ∷ []) later.steps ∙ append_assoc a.0.trace next.others.0 (x ∷ later.steps)))) in
      let same : next.others.0 ≡ between =
      same_others q next.others.0 between x later.steps more next.others.2 others refl own
      (append_cancel_left a.0.trace (next.others.0 ++ x ∷ later.steps) (between ++ more)
      (whole ∙ (is ∙ (ap (λ l. l ++ more) run_is ∙ append_assoc a.0.trace between more)))) in
      let before : next.before ≡ run = next.others.1 ∙ (ap (λ l. a.0.trace ++ l) same ∙ sym run_is) in
      lead_same start run c runs.1.event.core there (subst (λ l. EventsLead start l runs.1.event.core) before next.led)

  -- ---- a round and a count
  module _ (a b : SeatView × G) (run : List Event) (behind : OthersStepOn a.0.known.pass a.0.trace run) (alone : StepsAlone a.0.known.pass run b.0.trace)
      (c d : Core)
      (there : EventsLead (opening table.layout) run c) (led : EventsLead (opening table.layout) b.0.trace d) where
    round_all_placed : {nodes leaves : ℕ} → IsRound table becomes a b nodes leaves → HasNoneAtWork c → length run + 2 < EPOCHS → (r : Rec) → IsPlaced (d.fate r)
    round_all_placed r idle early x =
        let q = a.0.known.pass in
        let start = opening table.layout in
        let lawful : IsLawful d = runs_stay_lawful table.layout b.0.trace d led in
        let lay_c : c.layout ≡ table.layout = lead_layout start run c there in
        let lay_d : d.layout ≡ c.layout = lead_layout start b.0.trace d led ∙ sym lay_c in
        let acts : List Act = (beginning r.epoch r.found r.next r.pins ++ r.nodes) ++ r.leaves in
        let knows : Knows d b.0.known = runs_true (LoadEpoch r.epoch) _ a b r.does.steps d led in
        let bound : b.0.known.round.bound ≡ (d.rounds q).bound =
        ap (λ (z : Round). z.bound) (sym (round_is d b.0.known knows)) ∙ ap (λ p. (d.rounds p).bound) (runs_same table becomes acts a b r.does.steps).2 in
        let (marked, few) = run_timely start run c (opening_is_lawful table.layout).0 there (λ z. tt) in
        let at_first : r.does.steps.1.event.core ≡ c = first_core (LoadEpoch r.epoch) _ a b run r.does.steps behind alone c there in
        let placed = round_places q r.epoch r.found r.next b.0.known.round.bound r.uncommitted r.pins r.nodes r.leaves c d
        (runs_stay_lawful table.layout run c there) idle marked (omega (arith, few, early))
        (λ i beyond. ap (λ (z : Core). z.fate i) (sym at_first) ∙ r.rest i (subst (λ l. IsUncommitted l r.uncommitted i) lay_c beyond))
        table.layout.passes r.loads_pins
        (subst (λ (l : Layout). InTurn (λ n. VisitsCommitted l r.uncommitted b.0.known.round.bound (a_node n)) l.nodes r.nodes) (sym lay_c) r.visits_nodes)
        (subst (λ (l : Layout). InTurn (λ n. VisitsCommitted l r.uncommitted b.0.known.round.bound (a_leaf n)) l.leaves r.leaves) (sym lay_c) r.visits_leaves)
        bound (alone_lead acts a b run r.does.steps behind alone c d there led) in
        elim (lawful.records.used x) [
          | inl free ↦ subst IsPlaced (sym free) tt
          | inr has ↦ placed x (subst (λ l. HasRecord l x) lay_d has)
        ]

    counts_found : (tags : FoundTags) → Runs table becomes (loads_in table.layout tags) a b → HaveFound c table.layout tags × (d ≡ c)
    counts_found tags runs = count_finds a.0.known.pass table.layout tags c d (alone_lead (loads_in table.layout tags) a b run runs behind alone c d there led)

    -- what a count leaves out is free
    counts_left : (tags : FoundTags) (found : FindsUncommitted table becomes (loads_in table.layout tags) a b) → OneForEach table.layout (uncommitted_in found.middle.0.bounds) tags → LeftFree d table.layout tags
    counts_left tags found each = left_free table.layout (uncommitted_in found.middle.0.bounds) tags each d (free_behind table becomes a b run behind alone d led tags found)

    calls_free : (tags : FoundTags) (found : FindsUncommitted table becomes (loads_in table.layout tags) a b) → OneForEach table.layout (uncommitted_in found.middle.0.bounds) tags → (counts : RecordCounts) →
        counts ≡ counts_in table.layout tags → AreUncommittedFree table.layout counts d
    calls_free tags found each counts are = subst (λ z. AreUncommittedFree table.layout z d) (sym are)
        (uncommitted_free table.layout (uncommitted_in found.middle.0.bounds) tags each d (free_behind table becomes a b run behind alone d led tags found))

-- what it finds of the keys
module _ (layout : Layout) (c d : Core) (same : d ≡ c) (law : IsLawful c) (lay : c.layout ≡ layout) (unowned : (r : Rec) →
    holder_of (c.fate r) ≡ None) (tags : FoundTags)
    (fit : Fit layout tags) (found : HaveFound c layout tags) (left : LeftFree d layout tags) (counts : RecordCounts) (are : counts ≡ counts_in layout tags) where
  fit_there : Fit c.layout tags
  fit_there = subst (λ l. Fit l tags) (sym lay) fit

  left_there : LeftFree c c.layout tags
  left_there = subst (λ l. LeftFree c l tags) (sym lay) (subst (λ z. LeftFree z layout tags) same left)

  found_there : HaveFound c c.layout tags
  found_there = subst (λ l. HaveFound c l tags) (sym lay) found

  are_there : counts ≡ counts_in c.layout tags
  are_there = subst (λ l. counts ≡ counts_in l tags) (sym lay) are

  keys_counted : CountsKeys (number_of_keys d) counts
  keys_counted = subst (λ z. CountsKeys (number_of_keys z) counts) (sym same)
      (subst (CountsKeys (number_of_keys c)) (sym are_there) (counts_keys c law unowned tags fit_there found_there left_there))

  none_lost_counted : ((r : Rec) → IsPlaced (c.fate r)) → CountsNoneLost layout (number_of_keys d) counts
  none_lost_counted placed = subst (λ z. CountsNoneLost layout (number_of_keys z) counts) (sym same)
      (subst (λ l. CountsNoneLost l (number_of_keys c) counts) lay
      (subst (CountsNoneLost c.layout (number_of_keys c)) (sym are_there)
      (counts_none_lost c law unowned tags fit_there found_there left_there placed (none_is_lost c law (λ r has. placed r)))))

placed_unowned : (f : Fate) → IsPlaced f → holder_of f ≡ None
placed_unowned Free ok = refl
placed_unowned (InTree since) ok = refl
placed_unowned (Held q) ok = absurd ok
placed_unowned (Ready q) ok = absurd ok
placed_unowned (Unlinked since last q) ok = absurd ok
placed_unowned (Marked since last epoch) ok = refl

-- ---- idle passes
module _ (index : TableView) (run : List Event) {s e : SeatView} (on : GoesOnAlone index run s e) where
  abbrev core : Core
  core = on.idle.ended.led.0

  abbrev core_led : EventsLead (opening index.layout) run core
  core_led = on.idle.ended.led.1

  behind_it : OthersStepOn s.known.pass s.trace run
  behind_it = subst (λ (z : SeatView). OthersStepOn s.known.pass z.trace run) on.seat_is (on.idle.ended.others s.known.pass on.pass)

  idle_there : HasNoneAtWork core
  idle_there = rest_none_at_work index run on.seat on.idle core core_led

module _ {G : Type 0} (becomes : G → Event → G → Type 0) where
  round_places_all : (index : TableView) (run : List Event) (a b : PassView × G) (nodes leaves : ℕ) → GoesOnAlone index run a.0.seat b.0.seat →
      length run + 2 < EPOCHS → HasCollected index becomes a b nodes leaves → (d : Core) → EventsLead (opening index.layout) b.0.seat.trace d → (r : Rec) →
      IsPlaced (d.fate r)
  round_places_all index run a b nodes leaves on early collected d led =
      round_all_placed index becomes (a.0.seat, a.1) (b.0.seat, b.1) run (behind_it index run on) on.alone (core index run on) d (core_led index run on) led
      collected.round (idle_there index run on) early

  pub no_record_is_lost : NoRecordIsLost becomes
  no_record_is_lost = record {
    begins = new_idle;
    goes_on = idle_again;
    round = λ index run a b nodes leaves on early collected d led.
        none_is_lost d (runs_stay_lawful index.layout b.0.seat.trace d led) (λ r has. round_places_all index run a b nodes leaves on early collected d led r);
    count = λ index run a b counts on counted d led.
        (let c = core index run on in
        let there = core_led index run on in
        let (found, same) = counts_found index becomes (a.0.seat, a.1) (b.0.seat, b.1) run
        (behind_it index run on) on.alone c d there led counted.tags counted.steps in
        let left = counts_left index becomes (a.0.seat, a.1) (b.0.seat, b.1) run (behind_it index run on) on.alone c d there led counted.tags counted.found counted.each in
        keys_counted index.layout c d same (runs_stay_lawful index.layout run c there) (lead_layout (opening index.layout) run c there)
        (λ r. (idle_there index run on).unowned r) counted.tags (each_fits index.layout _ counted.tags counted.each) found left counts counted.counts_are);
    uncommitted = λ index run a b counts on counted d led.
        calls_free index becomes (a.0.seat, a.1) (b.0.seat, b.1) run (behind_it index run on) on.alone (core index run on) d (core_led index run on) led counted.tags counted.found counted.each counts
        counted.counts_are;
    both = λ index run a m b nodes leaves counts on early collected alone counted d led.
        (let start = opening index.layout in
        let trace = m.0.seat.trace in
        let (c, there, rest) = lead_split start trace alone.0 d (subst (λ l. EventsLead start l d) alone.1 led) in
        let placed = round_places_all index run a m nodes leaves on early collected c there in
        let (found, same) = counts_found index becomes (m.0.seat, m.1) (b.0.seat, b.1) trace
        (others_none m.0.seat.known.pass trace) alone c d there led counted.tags counted.steps in
        let left = counts_left index becomes (m.0.seat, m.1) (b.0.seat, b.1) trace (others_none m.0.seat.known.pass trace) alone c d there led counted.tags counted.found counted.each in
        none_lost_counted index.layout c d same (runs_stay_lawful index.layout trace c there) (lead_layout start trace c there)
        (λ r. placed_unowned (c.fate r) (placed r)) counted.tags (each_fits index.layout _ counted.tags counted.each) found left counts counted.counts_are placed);
  }

-- ---- an index of one pass
-- Where all changes are a pass's own, it has seen each.
none_behind : (q : ℕ) (seen more changes : List Change) → changes ≡ seen ++ more → All (λ x. x.pass ≢ q) more → All (λ x. x.pass < 1) changes → q < 1 →
    more ≡ []
none_behind q [] [] changes is others low own = refl
none_behind q [] (x ∷ more) changes is others low own =
    let apart = All-head (λ (y : Change). y.pass ≢ q) x more others in
    let few = All-head (λ (y : Change). y.pass < 1) x more (subst (All (λ (y : Change). y.pass < 1)) is low) in
    absurd (apart (omega (arith, few, own)))
none_behind q (y ∷ seen) more changes is others low own =
    none_behind q seen more (seen ++ more) refl others (All-tail (λ (x : Change). x.pass < 1) y (seen ++ more)
    (subst (All (λ (x : Change). x.pass < 1)) is low)) own

front_is : (c : Core) (k : Known) → IsLawful c → Knows c k → c.layout.passes ≡ 1 → c.changes ≡ k.front
front_is c k law knows one =
    let (more, is, others) = knows.seen.front in
    let low = knows.pass in
    let none = none_behind k.pass k.front more c.changes is others (subst (λ n. All (λ (x : Change). x.pass < n) c.changes) one law.makers)
    (omega (arith, low, one)) in
    is ∙ (ap (λ l. k.front ++ l) none ∙ append-nil k.front)

-- Where there is one pass, all steps are its own.
all_own : (q : ℕ) (c : Core) (more : List Event) (d : Core) → EventsLead c more d → c.layout.passes ≡ 1 → q < 1 → All (λ x. x.pass ≡ q) more
all_own q c [] d lead one low = All-nil (λ (x : Event). x.pass ≡ q)
all_own q c (x ∷ xs) d (legal, rest) one low =
    let few = legal.0 in
    All-cons (λ (y : Event). y.pass ≡ q) x xs (omega (arith, few, one, low)) (all_own q (after c x.pass x.act) xs d rest one low)

module _ {G : Type 0} (table : TableView) (becomes : G → Event → G → Type 0) (one : table.layout.passes ≡ 1) where
  one_of_core : (run : List Event) (c : Core) → EventsLead (opening table.layout) run c → c.layout.passes ≡ 1
  one_of_core run c led = ap (λ (l : Layout). l.passes) (lead_layout (opening table.layout) run c led) ∙ one

  one_alone : (acts : List Act) (a b : SeatView × G) → Runs table becomes acts a b → a.0.known.pass < 1 → (c d : Core) →
      EventsLead (opening table.layout) a.0.trace c →
      EventsLead (opening table.layout) b.0.trace d → StepsAlone a.0.known.pass a.0.trace b.0.trace
  one_alone acts a b runs low c d there led =
      let start = opening table.layout in
      let x = steps_are_in_one_run becomes table acts a b runs in
      let on : EventsLead c x.steps d = lead_rest start a.0.trace c x.steps d (subst (λ l. EventsLead start l d) x.trace led) there in
      (x.steps, x.trace, all_own a.0.known.pass c x.steps d on (one_of_core a.0.trace c there) low)

  -- a call of some steps that begins where the pass is between two calls
  module _ (act : Act) (acts : List Act) (a b : SeatView × G) (runs : Runs table becomes (act ∷ acts) a b) where
    abbrev from : Core
    from = runs.1.event.core

    from_led : EventsLead (opening table.layout) a.0.trace from
    from_led = (step_here table becomes one act a runs.0 runs.1).led

    first_pass : a.0.known.pass < 1
    first_pass = let low = runs.1.event.knows.pass in let here = one_of_core a.0.trace from from_led in omega (arith, low, here)

    one_idle : IsSettled a.0.known → HasNoneAtWork from
    one_idle settled = none_at_work from runs.1.event.lawful (λ q. a.0.known)
        (λ q few. (let mine = first_pass in let here = one_of_core a.0.trace from from_led in (runs.1.event.knows, omega (arith, mine, few, here), settled)))

    keys_at_first : length (map_of a.0.known.front) ≡ number_of_keys from
    keys_at_first = ap (λ l. length (map_of l)) (sym (front_is from a.0.known runs.1.event.lawful runs.1.event.knows (one_of_core a.0.trace from from_led)))

  -- a round
  module _ (a b : SeatView × G) {nodes leaves : ℕ} (r : IsRound table becomes a b nodes leaves) where
    round_places_one : IsSettled a.0.known → length a.0.trace + 2 < EPOCHS → (d : Core) → EventsLead (opening table.layout) b.0.trace d → (x : Rec) →
        IsPlaced (d.fate x)
    round_places_one settled early d led =
        let steps = r.does.steps in
        let c = from (LoadEpoch r.epoch) _ a b steps in
        let there = from_led (LoadEpoch r.epoch) _ a b steps in
        let mine = first_pass (LoadEpoch r.epoch) _ a b steps in
        let alone = one_alone (round_acts table becomes r) a b steps mine c d there led in
        round_all_placed table becomes a b a.0.trace (others_none a.0.known.pass a.0.trace) alone c d there led r
        (one_idle (LoadEpoch r.epoch) _ a b steps settled) early

-- the steps of a count, from its first on
first_known : {G : Type 0} (table : TableView) (becomes : G → Event → G → Type 0) (a b : SeatView × G) (tags : FoundTags) (found : FindsUncommitted table becomes (loads_in table.layout tags) a b) →
    Runs table becomes (loads_in table.layout tags) a b → Runs table becomes (found.first ∷ found.others) a b
first_known table becomes a b tags found runs = subst (λ l. Runs table becomes l a b) found.acts_are runs

module _ {G : Type 0} (becomes : G → Event → G → Type 0) where
  count_one : (index : TableView) (a b : PassView × G) (counts : RecordCounts) → index.layout.passes ≡ 1 → IsSettled a.0.seat.known → 0 < index.layout.nodes →
      HasCounted index becomes a b counts → CountsKeys (length (map_of b.0.front)) counts
  count_one index a b counts one settled some counted =
      let s : SeatView × G = (a.0.seat, a.1) in
      let e : SeatView × G = (b.0.seat, b.1) in
      let start = opening index.layout in
      let first = counted.found.first in
      let runs = first_known index becomes s e counted.tags counted.found counted.steps in
      let c = from index becomes one first _ s e runs in
      let there = from_led index becomes one first _ s e runs in
      let mine = first_pass index becomes one first _ s e runs in
      let (d, led) = (steps_are_in_one_run becomes index (loads_in index.layout counted.tags) s e counted.steps).run (inl (c, there)) in
      let alone = one_alone index becomes one (loads_in index.layout counted.tags) s e counted.steps mine c d there led in
      let none = others_none a.0.seat.known.pass a.0.seat.trace in
      let (found, same) = counts_found index becomes s e a.0.seat.trace none alone c d there led counted.tags counted.steps in
      let left = subst (λ z. LeftFree z index.layout counted.tags) same (counts_left index becomes s e a.0.seat.trace none alone c d there led counted.tags counted.found counted.each) in
      let keys : number_of_keys c ≡ length (map_of b.0.front) =
      sym (keys_at_first index becomes one first _ s e runs) ∙ ap (λ (l : List Change). length (map_of l)) (sym (counted.front ∙
      ap (λ (z : PassView). z.front) counted.begins)) in
      subst (λ n. CountsKeys n counts) keys
      (keys_counted index.layout c c refl (runs_stay_lawful index.layout a.0.seat.trace c there) (lead_layout start a.0.seat.trace c there)
      (λ r. (one_idle index becomes one first _ s e runs settled).unowned r) counted.tags (each_fits index.layout _ counted.tags counted.each) found left counts counted.counts_are)

  calls_free_one : (index : TableView) (a b : PassView × G) (counts : RecordCounts) → index.layout.passes ≡ 1 → HasCounted index becomes a b counts →
      LeadsTo index b.0.seat.trace (AreUncommittedFree index.layout counts)
  calls_free_one index a b counts one counted d led =
      let s : SeatView × G = (a.0.seat, a.1) in
      let e : SeatView × G = (b.0.seat, b.1) in
      let first = counted.found.first in
      let runs = first_known index becomes s e counted.tags counted.found counted.steps in
      let c = from index becomes one first _ s e runs in
      let there = from_led index becomes one first _ s e runs in
      let mine = first_pass index becomes one first _ s e runs in
      let alone = one_alone index becomes one (loads_in index.layout counted.tags) s e counted.steps mine c d there led in
      calls_free index becomes s e a.0.seat.trace (others_none a.0.seat.known.pass a.0.seat.trace) alone c d there led counted.tags counted.found counted.each counts counted.counts_are

  both_one : (index : TableView) (a m b : PassView × G) (nodes leaves : ℕ) (counts : RecordCounts) → index.layout.passes ≡ 1 → IsSettled a.0.seat.known →
      length a.0.seat.trace + 2 < EPOCHS → HasCollected index becomes a m nodes leaves → HasCounted index becomes m b counts →
      CountsNoneLost index.layout (length (map_of b.0.front)) counts
  both_one index a m b nodes leaves counts one settled early collected counted =
      let s : SeatView × G = (a.0.seat, a.1) in
      let t : SeatView × G = (m.0.seat, m.1) in
      let e : SeatView × G = (b.0.seat, b.1) in
      let start = opening index.layout in
      let r = collected.round in
      let trace = m.0.seat.trace in
      let first = r.does.steps in
      let (c, there) = (steps_are_in_one_run becomes index (round_acts index becomes r) s t first).run
      (inl (from index becomes one (LoadEpoch r.epoch) _ s t first, from_led index becomes one (LoadEpoch r.epoch) _ s t first)) in
      let law = runs_stay_lawful index.layout trace c there in
      let placed = round_places_one index becomes one s t r settled early c there in
      let knows : Knows c m.0.seat.known = runs_true index becomes (LoadEpoch r.epoch) _ s t first c there in
      let here = one_of_core index becomes one trace c there in
      let low = knows.pass in
      let (d, led) = (steps_are_in_one_run becomes index (loads_in index.layout counted.tags) t e counted.steps).run (inl (c, there)) in
      let alone = one_alone index becomes one (loads_in index.layout counted.tags) t e counted.steps (omega (arith, low, here)) c d there led in
      let (found, same) = counts_found index becomes t e trace (others_none m.0.seat.known.pass trace) alone c d there led counted.tags counted.steps in
      let left = subst (λ z. LeftFree z index.layout counted.tags) same
      (counts_left index becomes t e trace (others_none m.0.seat.known.pass trace) alone c d there led counted.tags counted.found counted.each) in
      let keys : number_of_keys c ≡ length (map_of b.0.front) =
      ap (λ (l : List Change). length (map_of l)) (front_is c m.0.seat.known law knows here ∙ sym (counted.front ∙
      ap (λ (z : PassView). z.front) counted.begins)) in
      subst (λ n. CountsNoneLost index.layout n counts) keys
      (none_lost_counted index.layout c c refl law (lead_layout start trace c there) (λ x. placed_unowned (c.fate x)
      (placed x)) counted.tags (each_fits index.layout _ counted.tags counted.each) found left counts
      counted.counts_are placed)

  pub one_pass_loses_none : OnePassLosesNone becomes
  one_pass_loses_none = record {
    round = λ index a b nodes leaves one settled early collected d led.
        none_is_lost d (runs_stay_lawful index.layout b.0.seat.trace d led)
        (λ r has. round_places_one index becomes one (a.0.seat, a.1) (b.0.seat, b.1) collected.round settled early d led r);
    count = count_one;
    uncommitted = calls_free_one;
    both = both_one;
  }
