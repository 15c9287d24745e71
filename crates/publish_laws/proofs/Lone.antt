-- In a table with one pass the trace of its seat is the run: what each step makes of the records.
pub mod Fates
pub mod Published
pub mod Timely
use Rattle.publish_laws.proofs.Common.{◌≡◌, ◌≢◌, ◌⊎◌, inl, inr, ℕ, ◌<◌, List, [], ◌∷◌, ◌++◌, refl, sym, ap, subst, ◌∙◌, arith, append-nil, Some, All, Contains, Layout, Fate, Free, Held, Ready, InTree, Unlinked, Marked, IsOneOf, Rec, a_node, all_of, Act, LoadState, Event, HeldBy, ReadyBy, Known, Owned, Core, IsLawful, holder_of, after, Knows, learned, EventsLead, IsOwned, not_free, knows_all, stays_lawful, Runs, Steps, StepsWith, silent, TableView, SeatView}
use Rattle.std.proofs.lemmas.List.Elements.{All-cons, All-contains, All-head, All-nil, All-tail, All-weaker}
use Rattle.finite_map.specs.declared.Note.{Note}
use Rattle.rowex_core.specs.Opening.{opening}
use Rattle.rowex_core.specs.Words.{lock_of}
use Rattle.rowex_core.proofs.Knowing.{learns}
use Rattle.rowex_core.proofs.Words.{free_tag}
use Rattle.rowex_table.proofs.Runs.Linking.{lead_rest}
use Rattle.publish_laws.specs.Lone.{IsFreeAt, IsLone, IsOut, LeavesTree, IsUnused, KeepsSpare}
use Rattle.publish_laws.proofs.Lone.Fates.{fate_kept, out_closed, out_marks, unused_closed, unused_marks}

-- ---- steps that lead from core to core
pub lead_same : (c : Core) (xs : List Event) (d e : Core) → EventsLead c xs d → EventsLead c xs e → e ≡ d
lead_same c [] d e first second = second ∙ sym first
lead_same c (x ∷ xs) d e first second = lead_same (after c x.pass x.act) xs d e first.1 second.1

pub lead_split : (c : Core) (xs ys : List Event) (e : Core) → EventsLead c (xs ++ ys) e → (d : Core) × EventsLead c xs d × EventsLead d ys e
lead_split c [] ys e all = (c, refl, all)
lead_split c (x ∷ xs) ys e all = let (d, first, second) = lead_split (after c x.pass x.act) xs ys e all.1 in (d, (all.0, first), second)

pub lead_layout : (c : Core) (xs : List Event) (d : Core) → EventsLead c xs d → d.layout ≡ c.layout
lead_layout c [] d lead = ap (λ (z : Core). z.layout) lead
lead_layout c (x ∷ xs) d lead = lead_layout (after c x.pass x.act) xs d lead.1

-- where there is one pass, no other makes a step
pub none_other : (q : ℕ) (c d : Core) (more : List Event) → EventsLead c more d → c.layout.passes ≡ 1 → q < 1 → All (λ x. x.pass ≢ q) more → more ≡ []
none_other q c d [] lead one low others = refl
none_other q c d (x ∷ xs) lead one low others =
    let legal : x.pass < c.layout.passes = lead.0.0 in
    absurd (All-head (λ y. y.pass ≢ q) x xs others (omega (arith, legal, one, low)))

-- what a pass knows is true whatever its notes are
noted : (c : Core) (k : Known) (notes : List Note) → Knows c k → (let j : Known = record k { notes = notes } in Knows c j)
noted c k notes h = record { pass = h.pass; counted = h.counted; seen = h.seen; own = h.own; values = h.values }

module _ {G : Type 0} (table : TableView) (becomes : G → Event → G → Type 0) where
  -- ---- one step
  module _ (act : Act) (said : Known → List Note) (a b : SeatView × G) (step : StepsWith table becomes act said a b) where
    -- it is made in the core to which the trace has led
    pub step_back : (d : Core) → IsLone table.layout b.0 d → IsLone table.layout a.0 step.event.core × (d ≡ after step.event.core a.0.known.pass act)
    step_back d lone =
        let c = step.event.core in
        let q = a.0.known.pass in
        let x : Event = record { pass = q; act = act } in
        let start = opening table.layout in
        let before = step.next.before in
        let more = step.next.others.0 in
        let on : EventsLead c (x ∷ []) d = lead_rest start before c (x ∷ []) d (subst (λ l. EventsLead start l d) step.next.next_is lone.led) step.next.led in
        let (m, first, rest) = lead_split start a.0.trace more c (subst (λ l. EventsLead start l c) step.next.others.1 step.next.led) in
        let fits : q < table.layout.passes = subst (λ (l : Layout). q < l.passes) step.event.layout_is on.0.0 in
        let none : more ≡ [] = none_other q m c more rest (ap (λ (l : Layout). l.passes) (lead_layout start a.0.trace m first) ∙ lone.passes) (omega (arith, fits, lone.passes)) step.next.others.2 in
        let same : before ≡ a.0.trace = step.next.others.1 ∙ (ap (λ l. a.0.trace ++ l) none ∙ append-nil a.0.trace) in
        (record { passes = lone.passes; led = subst (λ l. EventsLead start l c) same step.next.led }, on.1)

    -- what the pass knows after it is true there
    pub step_knows : Knows (after step.event.core a.0.known.pass act) b.0.known
    step_knows = subst (Knows (after step.event.core a.0.known.pass act)) (sym step.event.learned_is)
        (noted (after step.event.core a.0.known.pass act) (learned step.event.core act a.0.known) (a.0.known.notes ++ said (learned step.event.core act a.0.known)) (learns step.event.core a.0.known act step.event.lawful step.event.knows step.event.legal))

    pub step_lawful : IsLawful (after step.event.core a.0.known.pass act)
    step_lawful = stays_lawful step.event.core a.0.known.pass act step.event.lawful step.event.legal

  -- a load finds a record free
  pub look_free : (n : ℕ) (a b : SeatView × G) → Steps table becomes (LoadState (a_node n) 0) a b → IsFreeAt table.layout b.0 n
  look_free n a b step d lone =
      let c = step.event.core in
      let (there, is) = step_back (LoadState (a_node n) 0) silent a b step d lone in
      subst (λ (z : Core). z.fate (a_node n) ≡ Free) (sym is) (free_tag (lock_of c (a_node n)) (c.fate (a_node n)) (sym step.event.legal.1.1))

  -- ---- many
  -- Steps that are no publishes, back from the core to which they lead: there was one to which the trace had led before. What stood in no
  -- tree there still doesn't, and what was unused is. Of both what the pass knew is true, if it has made a step.
  pub record IsBack (a b : SeatView × G) (d : Core) : Type 0 where
    pub core : Core
    pub lone : IsLone table.layout a.0 core
    pub out : (r : Rec) → IsOut (core.fate r) → IsOut (d.fate r)
    pub unused : (r : Rec) → IsUnused (core.fate r) → IsUnused (d.fate r)
    pub known : ((b ≡ a) × (d ≡ core)) ⊎ (Knows core a.0.known × Knows d b.0.known × IsLawful d)

  step_is_back : (act : Act) (said : Known → List Note) (a b : SeatView × G) → LeavesTree act → StepsWith table becomes act said a b → (d : Core) → IsLone table.layout b.0 d → IsBack a b d
  step_is_back act said a b plain step d lone =
      let c = step.event.core in
      let q = a.0.known.pass in
      let (there, is) = step_back act said a b step d lone in
      record {
        core = c;
        lone = there;
        out = λ r was. subst (λ (z : Core). IsOut (z.fate r)) (sym is) (fate_kept IsOut out_closed c q act plain (out_marks act) r was);
        unused = λ r was. subst (λ (z : Core). IsUnused (z.fate r)) (sym is) (fate_kept IsUnused unused_closed c q act plain (unused_marks act) r was);
        known = inr (step.event.knows, subst (λ z. Knows z b.0.known) (sym is) (step_knows act said a b step), subst IsLawful (sym is) (step_lawful act said a b step));
      }

  pub back_more : (a m b : SeatView × G) (d : Core) → (second : IsBack m b d) → IsBack a m second.core → IsBack a b d
  back_more a m b d second first = record {
    core = first.core;
    lone = first.lone;
    out = λ r was. second.out r (first.out r was);
    unused = λ r was. second.unused r (first.unused r was);
    known = joined first.known second.known;
  }
    where
      joined : (((m ≡ a) × (second.core ≡ first.core)) ⊎ (Knows first.core a.0.known × Knows second.core m.0.known × IsLawful second.core)) →
          (((b ≡ m) × (d ≡ second.core)) ⊎ (Knows second.core m.0.known × Knows d b.0.known × IsLawful d)) →
          ((b ≡ a) × (d ≡ first.core)) ⊎ (Knows first.core a.0.known × Knows d b.0.known × IsLawful d)
      joined (inl (same, is)) (inl (still, now)) = inl (still ∙ same, now ∙ is)
      joined (inl (same, is)) (inr (knew, knows, lawful)) = inr (subst (λ (z : SeatView × G). Knows first.core z.0.known) same (subst (λ z. Knows z m.0.known) is knew), knows, lawful)
      joined (inr (knew, knows, lawful)) (inl (still, now)) = inr (knew, subst (λ (z : SeatView × G). Knows d z.0.known) (sym still) (subst (λ z. Knows z m.0.known) (sym now) knows), subst IsLawful (sym now) lawful)
      joined (inr (knew, knows, lawful)) (inr (then, now, still)) = inr (knew, now, still)

  pub runs_back : (acts : List Act) (a b : SeatView × G) → All LeavesTree acts → Runs table becomes acts a b → (d : Core) → IsLone table.layout b.0 d → IsBack a b d
  runs_back [] a b plain run d lone = record {
    core = d;
    lone = subst (λ (z : SeatView × G). IsLone table.layout z.0 d) run lone;
    out = λ r was. was;
    unused = λ r was. was;
    known = inl (run, refl);
  }
  runs_back (act ∷ acts) a b plain (m, step, rest) d lone =
      let second = runs_back acts m b (All-tail LeavesTree act acts plain) rest d lone in
      back_more a m b d second (step_is_back act silent a m (All-head LeavesTree act acts plain) step second.core second.lone)

  -- ---- a spare record, and a free one
  pub runs_spare : (acts : List Act) (a b : SeatView × G) → All LeavesTree acts → Runs table becomes acts a b → KeepsSpare table.layout a.0 b.0
  runs_spare acts a b plain run was d lone =
      let back = runs_back acts a b plain run d lone in
      let (n, low, out) = was back.core back.lone in
      (n, low, back.out (a_node n) out)

  pub runs_out : (acts : List Act) (a b : SeatView × G) (n : ℕ) → All LeavesTree acts → Runs table becomes acts a b →
      ((c : Core) → IsLone table.layout a.0 c → IsOut (c.fate (a_node n))) → (c : Core) → IsLone table.layout b.0 c → IsOut (c.fate (a_node n))
  runs_out acts a b n plain run was d lone =
      let back = runs_back acts a b plain run d lone in
      back.out (a_node n) (was back.core back.lone)

-- what is an element is one of the list
one_of_all : {X : Type 0} (xs : List X) → All (λ x. IsOneOf x xs) xs
one_of_all [] = All-nil (λ x. IsOneOf x [])
one_of_all (x ∷ xs) = All-cons (λ y. IsOneOf y (x ∷ xs)) x xs (inl refl) (All-weaker (λ y. IsOneOf y xs) (λ y. IsOneOf y (x ∷ xs)) (λ y h. inr h) xs (one_of_all xs))

pub one_of : {X : Type 0} (xs : List X) (x : X) → Contains xs x → IsOneOf x xs
one_of xs x has = All-contains (λ y. IsOneOf y xs) xs x (one_of_all xs) has

-- an unused record of a pass that is alone and doesn't have it is free
pub unused_free : (c : Core) (k : Known) (r : Rec) → IsLawful c → Knows c k → c.layout.passes ≡ 1 → ((o : Owned) → IsOneOf o k.own → o.rec ≢ r) → IsUnused (c.fate r) → c.fate r ≡ Free
unused_free c k r lawful knows one none unused = of (c.fate r) refl unused
  where
    alone : (p : ℕ) → holder_of (c.fate r) ≡ Some p → p ≡ k.pass
    alone p is = let low = lawful.records.holders r p is in let mine = knows.pass in omega (arith, low, mine, one)

    of : (f : Fate) → c.fate r ≡ f → IsUnused f → c.fate r ≡ Free
    of Free is h = is
    of (Held p) is h =
        let mine : p ≡ k.pass = alone p (ap holder_of is) in
        absurd (none (record { rec = r; holding = HeldBy; words = c.words r }) (one_of k.own _ ((knows_all c k knows).all_own r HeldBy (is ∙ ap Held mine))) refl)
    of (Ready p) is h =
        let mine : p ≡ k.pass = alone p (ap holder_of is) in
        absurd (none (record { rec = r; holding = ReadyBy; words = c.words r }) (one_of k.own _ ((knows_all c k knows).all_own r ReadyBy (is ∙ ap Ready mine))) refl)
    of (InTree since) is h = absurd h
    of (Unlinked since last p) is h = absurd h
    of (Marked since last epoch) is h = absurd h

-- a free record is not the pass's
pub free_not_own : (c : Core) (k : Known) (r : Rec) → Knows c k → c.fate r ≡ Free → (o : Owned) → IsOneOf o k.own → o.rec ≢ r
free_not_own c k r knows free o has is = not_free k.pass o.holding (sym free ∙ (ap c.fate (sym is) ∙ (all_of (IsOwned k.pass c) o k.own (knows_all c k knows).own has).0))

module _ {G : Type 0} (table : TableView) (becomes : G → Event → G → Type 0) where
  -- a free record is free after steps that are no publishes, if the pass has got no other records
  pub runs_free : (acts : List Act) (a b : SeatView × G) (n : ℕ) → All LeavesTree acts → Runs table becomes acts a b →
      ((o : Owned) → IsOneOf o b.0.known.own → o.rec ≡ a_node n → (p : Owned) × IsOneOf p a.0.known.own × (p.rec ≡ a_node n)) →
      IsFreeAt table.layout a.0 n → IsFreeAt table.layout b.0 n
  runs_free acts a b n plain run fewer was d lone =
      let back = runs_back table becomes acts a b plain run d lone in
      let free = was back.core back.lone in
      of back (subst IsUnused (sym free) tt) free back.known
    where
      of : (back : IsBack table becomes a b d) → IsUnused (back.core.fate (a_node n)) → back.core.fate (a_node n) ≡ Free →
          (((b ≡ a) × (d ≡ back.core)) ⊎ (Knows back.core a.0.known × Knows d b.0.known × IsLawful d)) → d.fate (a_node n) ≡ Free
      of back unused free (inl (same, is)) = subst (λ (z : Core). z.fate (a_node n) ≡ Free) (sym is) free
      of back unused free (inr (knew, knows, lawful)) =
          unused_free d b.0.known (a_node n) lawful knows (ap (λ (l : Layout). l.passes) (lead_layout (opening table.layout) b.0.trace d lone.led) ∙ lone.passes)
          (λ o has is. (let (p, had, mine) = fewer o has is in free_not_own back.core a.0.known (a_node n) knew free p had mine))
          (back.unused (a_node n) unused)
