-- The steps of one pass in the run of all passes.
use Rattle.rowex_table.proofs.Common.{◌≡◌, ◌≢◌, ℕ, List, [], ◌∷◌, ◌++◌, Bool, true, false, if◌then◌else◌, nat_eq, refl, sym, ap, ap₂, subst, ◌∙◌, inl, inr, ⊎_elim, append_assoc, append-nil, All, eq-eqb, ne_eqb, All-head, All-tail, Note, Layout, Act, Event, Known, Core, after, learned, opening, EventsLead}
use Rattle.rowex_table.specs.Runs.{StepsWith, silent}
use Rattle.rowex_table.specs.Seats.{SeatView, TableView}
use Rattle.rowex_table.specs.declared.traces.TracedView.TheVariants.{Pass}
use Rattle.rowex_table.specs.Statements.{CallStepsAreInOneRun, IsInOneRun, StepsAreInOneRun, TracesAreOfOneRun, with_notes}
use Rattle.rowex_table.specs.Traces.{IsTableRun, own_acts, taught}
use Rattle.rowex_table.proofs.Made.ActsLeave.{learned_notes}
use Rattle.rowex_table.proofs.Onward.{begins_on, led_more, of_one_run, others_begin}

-- Steps that lead from core to core

pub lead_append : (c : Core) (xs : List Event) (d : Core) (ys : List Event) (e : Core) → EventsLead c xs d → EventsLead d ys e → EventsLead c (xs ++ ys) e
lead_append c [] d ys e first second = subst (λ z. EventsLead z ys e) first second
lead_append c (x ∷ xs) d ys e first second = (first.0, lead_append (after c x.pass x.act) xs d ys e first.1 second)

-- to one core, so the later of them lead on from there
pub lead_rest : (c : Core) (xs : List Event) (d : Core) (ys : List Event) (e : Core) → EventsLead c (xs ++ ys) e → EventsLead c xs d → EventsLead d ys e
lead_rest c [] d ys e all first = subst (λ z. EventsLead z ys e) (sym first) all
lead_rest c (x ∷ xs) d ys e all first = lead_rest (after c x.pass x.act) xs d ys e all.1 first.1

-- What they teach a pass

pub taught-append : (q : ℕ) (c : Core) (xs : List Event) (d : Core) (ys : List Event) (k : Known) → EventsLead c xs d → taught q c (xs ++ ys) k ≡ taught q d ys (taught q c xs k)
taught-append q c [] d ys k e = ap (λ z. taught q z ys k) (sym e)
taught-append q c (x ∷ xs) d ys k e = taught-append q (after c x.pass x.act) xs d ys (if nat_eq x.pass q then learned c x.act k else k) e.1

-- others' steps nothing
pub taught-others : (q : ℕ) (c : Core) (xs : List Event) (k : Known) → All (λ x. x.pass ≢ q) xs → taught q c xs k ≡ k
taught-others q c [] k others = refl
taught-others q c (x ∷ xs) k others =
    ap (λ b. taught q (after c x.pass x.act) xs (if b then learned c x.act k else k)) (ne_eqb x.pass q (All-head (λ y. y.pass ≢ q) x xs others)) ∙
    taught-others q (after c x.pass x.act) xs k (All-tail (λ y. y.pass ≢ q) x xs others)

pub own_acts-append : (q : ℕ) (xs ys : List Event) → own_acts q (xs ++ ys) ≡ own_acts q xs ++ own_acts q ys
own_acts-append q [] ys = refl
own_acts-append q (x ∷ xs) ys = ap (λ l. if nat_eq x.pass q then x.act ∷ l else l) (own_acts-append q xs ys) ∙ chosen (nat_eq x.pass q)
  where
    chosen : (b : Bool) → (if b then x.act ∷ (own_acts q xs ++ own_acts q ys) else (own_acts q xs ++ own_acts q ys)) ≡ (if b then x.act ∷ own_acts q xs else own_acts q xs) ++ own_acts q ys
    chosen true = refl
    chosen false = refl

pub own_acts-others : (q : ℕ) (xs : List Event) → All (λ x. x.pass ≢ q) xs → own_acts q xs ≡ []
own_acts-others q [] others = refl
own_acts-others q (x ∷ xs) others =
    ap (λ b. if b then x.act ∷ own_acts q xs else own_acts q xs) (ne_eqb x.pass q (All-head (λ y. y.pass ≢ q) x xs others)) ∙ own_acts-others q xs (All-tail (λ y. y.pass ≢ q) x xs others)

own_acts-one : (q : ℕ) (act : Act) → own_acts q (record { pass = q; act = act } ∷ []) ≡ act ∷ []
own_acts-one q act = ap (λ b. if b then act ∷ [] else []) (eq-eqb q q refl)

-- no note more
silent_same : (k : Known) → with_notes silent k ≡ k
silent_same k = ap (λ (z : List Note). let j : Known = record k { notes = z } in j) (append-nil k.notes)

-- Runs of one pass

pub linked_none : (layout : Layout) (s t : SeatView) → t ≡ s → IsInOneRun layout [] silent s t
linked_none layout s t is = record {
  steps = [];
  trace = ap (λ (z : SeatView). z.trace) is ∙ sym (append-nil s.trace);
  own = refl;
  led = λ c e. (c, refl, ap (λ (z : SeatView). z.known) is ∙ sym (silent_same s.known));
  run = ⊎_elim (λ h. subst (λ (z : SeatView). IsTableRun layout z.trace) (sym is) h) (λ ne. absurd (ne refl));
}

pub linked_one : {G : Type 0} (table : TableView) (becomes : G → Event → G → Type 0) (act : Act) (said : Known → List Note) (a b : SeatView × G) → StepsWith table becomes act said a b → IsInOneRun table.layout (act ∷ []) said a.0 b.0
linked_one table becomes act said a b step =
    let s : SeatView = a.0 in
    let k : Known = s.known in
    let q : ℕ = k.pass in
    let x : Event = record { pass = q; act = act } in
    let c : Core = step.event.core in
    let before : List Event = step.next.before in
    let more : List Event = step.next.others.0 in
    let others : All (λ y. y.pass ≢ q) more = step.next.others.2 in
    record {
      steps = more ++ x ∷ [];
      trace = step.next.next_is ∙ (ap (λ l. l ++ x ∷ []) step.next.others.1 ∙ append_assoc s.trace more (x ∷ []));
      own = own_acts-append q more (x ∷ []) ∙ ap₂ (λ l m. l ++ m) (own_acts-others q more others) (own_acts-one q act);
      led = λ d e.
          let on : EventsLead d more c = lead_rest (opening table.layout) s.trace d more c (subst (λ l. EventsLead (opening table.layout) l c) step.next.others.1 step.next.led) e in
          let learns : taught q d (more ++ x ∷ []) k ≡ learned c act k =
          taught-append q d more c (x ∷ []) k on ∙ (ap (λ z. taught q c (x ∷ []) z) (taught-others q d more k others) ∙ ap (λ b. let j : Known = if b then learned c act k else k in j) (eq-eqb q q refl)) in (
            after c q act,
            led_more d more c q act on step.event.legal,
            step.event.learned_is ∙ (ap (λ (l : List Note). let j : Known = record (learned c act k) { notes = l ++ said (learned c act k) } in j) (sym (learned_notes c act k)) ∙ ap (with_notes said) (sym learns)),
          );
      run = λ h. (after c q act, subst (λ l. EventsLead (opening table.layout) l (after c q act)) (sym step.next.next_is) (led_more (opening table.layout) before c q act step.next.led step.event.legal));
    }

pub linked_trans : (layout : Layout) (acts more : List Act) (said : Known → List Note) (s m t : SeatView) → m.known.pass ≡ s.known.pass → acts ≢ [] → IsInOneRun layout acts silent s m → IsInOneRun layout more said m t →
    IsInOneRun layout (acts ++ more) said s t
linked_trans layout acts more said s m t same some first second =
    let q : ℕ = s.known.pass in
    record {
      steps = first.steps ++ second.steps;
      trace = second.trace ∙ (ap (λ l. l ++ second.steps) first.trace ∙ append_assoc s.trace first.steps second.steps);
      own = own_acts-append q first.steps second.steps ∙ ap₂ (λ l r. l ++ r) first.own (subst (λ p. own_acts p second.steps ≡ more) same second.own);
      led = λ c e.
          let one = first.led c e in
          let here : EventsLead (opening layout) m.trace one.0 = subst (λ l. EventsLead (opening layout) l one.0) (sym first.trace) (lead_append (opening layout) s.trace c first.steps one.0 e one.1) in
          let two = second.led one.0 here in
          let knew : m.known ≡ taught q c first.steps s.known = one.2 ∙ silent_same (taught q c first.steps s.known) in (
            two.0,
            lead_append c first.steps one.0 second.steps two.0 one.1 two.1,
            two.2 ∙ ap (with_notes said) (ap (λ p. taught p one.0 second.steps m.known) same ∙ (ap (taught q one.0 second.steps) knew ∙ sym (taught-append q c first.steps one.0 second.steps s.known one.1))),
          );
      run = λ h. second.run (inl (first.run (inr some)));
    }

some_acts : (act : Act) (acts : List Act) → (act ∷ acts) ≢ []
some_acts act acts e = cc

pub steps_are_in_one_run : {G : Type 0} (becomes : G → Event → G → Type 0) → StepsAreInOneRun becomes
steps_are_in_one_run becomes table [] a b run = linked_none table.layout a.0 b.0 (ap (λ z. z.0) run)
steps_are_in_one_run becomes table (act ∷ acts) a b run = linked_trans table.layout (act ∷ []) acts silent a.0 run.0.0 b.0 run.1.seat.2 (some_acts act []) (linked_one table becomes act silent a run.0 run.1) (steps_are_in_one_run becomes table acts run.0 b run.2)

pub call_steps_are_in_one_run : {G : Type 0} (becomes : G → Event → G → Type 0) → CallStepsAreInOneRun becomes
call_steps_are_in_one_run {G = G} becomes table [] act said a b ends = subst (λ (z : SeatView × G). IsInOneRun table.layout (act ∷ []) said z.0 b.0) ends.1 (linked_one table becomes act said ends.0 b ends.2)
call_steps_are_in_one_run becomes table (x ∷ acts) act said a b ends =
    linked_trans table.layout (x ∷ []) (acts ++ act ∷ []) said a.0 ends.1.0.0 b.0 ends.1.1.seat.2 (some_acts x []) (linked_one table becomes x silent a ends.1.0 ends.1.1)
    (call_steps_are_in_one_run becomes table acts act said ends.1.0 b (ends.0, ends.1.2, ends.2))

-- Runs of several passes

pub traces_are_of_one_run : TracesAreOfOneRun
traces_are_of_one_run layout s r i j k l t u here there one other begins begun =
    of_one_run r.run one other
    (begins_on one t.events r.run begins (others_begin k.pass t.events r.run (r.knows i (Pass k t) here).1))
    (begins_on other u.events r.run begun (others_begin l.pass u.events r.run (r.knows j (Pass l u) there).1))
