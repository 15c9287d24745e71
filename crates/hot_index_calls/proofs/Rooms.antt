-- In a table with one pass a round of collection leaves a node record free, if one stood in no tree.
use Rattle.hot_index_calls.proofs.Common.{◌≡◌, ◌≢◌, ◌⊎◌, inl, inr, ℕ, zero, suc, ◌+◌, ◌<◌, ◌≤◌, List, [], ◌∷◌, ◌++◌, Bool, true, false, nat_eq, nat_lt, if◌then◌else◌, None, length, refl, sym, ap, subst, ◌∙◌, arith, ap₂, length-append, cases_lt, eq-eqb, lt-ltb, All-append, All-cons, All-head, All-nil, All-tail, All, IsRound, IsSmallRound, LoadsPin, VisitEach, Visits, advance_steps, Pins, Note, lead_layout, lead_same, one_of, runs_back, runs_free, runs_spare, step_back, step_knows, step_lawful, unused_free, HasRoom, HasSpare, KeepsSpare, IsLone, IsOut, LeavesTree, IsUnused, state_word, EPOCHS, Layout, Tag, Obsolete, knows_all, Core, HasRecord, IsLawful, holder_of, after, given_back, Knows, opening, Share, lock_of, tag_of, Advance, ClearPin, GiveBack, LoadEpoch, LoadPin, LoadState, Mark, SetPin, Act, Event, UnlinkedBy, Known, act_leaves, InTurn, Runs, Steps, StepsWith, silent, SeatView, TableView, LeavesRound, runs_split, step_lone, same_rec_refl, Fate, Free, Held, Ready, InTree, Unlinked, Marked, lowered, with_epoch, IsOneOf, a_node, a_leaf, Rec}
use Rattle.epochs.proofs.Rounds.{taken_committed, visit_committed, visit_or_none}
use Rattle.epochs.specs.Rounds.{VisitsCommitted}
use Rattle.rowex_table.specs.Committed.{IsCommitted}
use Rattle.hot_index_calls.specs.Census.{FoundTags, loads_in, loads_of}
use Rattle.hot_index_calls.specs.Rooms.{HasNoneRetired, IsUnretired, IsUnretiredAt}
use Rattle.hot_index_calls.specs.Traces.{Collects, HasEnded}
use Rattle.publish_laws.proofs.Lone.Fates.{IsClosed, MarksWell, fate_kept, out_closed, out_marks}
use Rattle.publish_laws.proofs.Lone.Timely.{IsMarkedBy, run_timely}
use Rattle.rowex_core.proofs.Statements.Promises.{opening_is_lawful}
use Rattle.versions.specs.declared.Round.{Round}

-- ---- what a visit frees
-- the record waits to be given back, retired in this epoch; or it is unused
abbrev pub IsWaiting : ℕ → Fate → Type 0
IsWaiting e (Marked since last epoch) = epoch ≡ e
IsWaiting e f = IsUnused f

waiting_closed : (e : ℕ) → IsClosed (IsWaiting e)
waiting_closed e = record { free = tt; held = λ q. tt; ready = λ q. tt }

waiting_marks : (e : ℕ) (act : Act) → MarksWell (IsWaiting e) act
waiting_marks e (Mark r epoch) = λ since last q h. absurd h
waiting_marks e _ = tt

gives : (c : Core) (r : Rec) (e epoch : ℕ) (f : Fate) → c.fate r ≡ f → ((since last m : ℕ) → f ≡ Marked since last m → epoch ≡ m) → IsWaiting e f → IsUnused ((given_back c.shared r epoch f).fate r)
gives c r e epoch (Marked since last m) is same waits =
    subst (λ z. IsUnused ((given_back c.shared r z (Marked since last m)).fate r)) (sym (same since last m refl)) (rw (eq-eqb m m refl) (rw (same_rec_refl r) tt))
gives c r e epoch Free is same waits = subst IsUnused (sym is) tt
gives c r e epoch (Held p) is same waits = subst IsUnused (sym is) tt
gives c r e epoch (Ready p) is same waits = subst IsUnused (sym is) tt
gives c r e epoch (InTree since) is same waits = absurd waits
gives c r e epoch (Unlinked since last p) is same waits = absurd waits

passes_by : (c : Core) (r : Rec) (e word : ℕ) (f : Fate) → c.fate r ≡ f → word ≡ state_word (tag_of (lock_of c r) f) → word ≢ state_word (Obsolete e) → IsWaiting e f → IsUnused f
passes_by c r e word (Marked since last m) is found none waits = absurd (none (found ∙ ap (λ z. state_word (Obsolete z)) waits))
passes_by c r e word Free is found none waits = tt
passes_by c r e word (Held p) is found none waits = tt
passes_by c r e word (Ready p) is found none waits = tt
passes_by c r e word (InTree since) is found none waits = waits
passes_by c r e word (Unlinked since last p) is found none waits = waits

visit_plain : (bound : ℕ) (r : Rec) (acts : List Act) → Visits bound r acts → All LeavesTree acts
visit_plain bound r _ (Visits.passes word not) = All-cons LeavesTree (LoadState r word) [] tt (All-nil LeavesTree)
visit_plain bound r _ (Visits.tries epoch found low below) =
    All-cons LeavesTree (LoadState r (state_word (Obsolete epoch))) (GiveBack r epoch found ∷ []) tt (All-cons LeavesTree (GiveBack r epoch found) [] tt (All-nil LeavesTree))

-- so all that a round does at a record, and at all of a kind
committed_plain : (layout : Layout) (uncommitted : ℕ → ℕ) (bound : ℕ) (r : Rec) (acts : List Act) → VisitsCommitted layout uncommitted bound r acts → All LeavesTree acts
committed_plain layout uncommitted bound r acts = visit_or_none (All LeavesTree) layout uncommitted bound r acts (All-nil LeavesTree) (visit_plain bound r acts)

visits_plain : (layout : Layout) (uncommitted : ℕ → ℕ) (bound : ℕ) (kind : ℕ → Rec) (n : ℕ) (acts : List Act) → InTurn (λ m. VisitsCommitted layout uncommitted bound (kind m)) n acts → All LeavesTree acts
visits_plain layout uncommitted bound kind zero acts none = subst (All LeavesTree) (sym none) (All-nil LeavesTree)
visits_plain layout uncommitted bound kind (suc n) acts (before, last, first, visit, all) =
    subst (All LeavesTree) (sym all) (All-append LeavesTree before last (visits_plain layout uncommitted bound kind n before first) (committed_plain layout uncommitted bound (kind n) last visit))

visit_leaves : (bound : ℕ) (r : Rec) (acts : List Act) → Visits bound r acts → All LeavesRound acts
visit_leaves bound r _ (Visits.passes word not) = All-cons LeavesRound (LoadState r word) [] tt (All-nil LeavesRound)
visit_leaves bound r _ (Visits.tries epoch found low below) =
    All-cons LeavesRound (LoadState r (state_word (Obsolete epoch))) (GiveBack r epoch found ∷ []) tt (All-cons LeavesRound (GiveBack r epoch found) [] tt (All-nil LeavesRound))

visits_leave : (layout : Layout) (uncommitted : ℕ → ℕ) (bound : ℕ) (kind : ℕ → Rec) (n : ℕ) (acts : List Act) → InTurn (λ m. VisitsCommitted layout uncommitted bound (kind m)) n acts → All LeavesRound acts
visits_leave layout uncommitted bound kind zero acts none = subst (All LeavesRound) (sym none) (All-nil LeavesRound)
visits_leave layout uncommitted bound kind (suc n) acts (before, last, first, visit, all) =
    subst (All LeavesRound) (sym all) (All-append LeavesRound before last (visits_leave layout uncommitted bound kind n before first)
    (visit_or_none (All LeavesRound) layout uncommitted bound (kind n) last (All-nil LeavesRound) (visit_leaves bound (kind n) last) visit))

module _ {G : Type 0} (table : TableView) (becomes : G → Event → G → Type 0) where
  -- back from a core to the one before these steps, where what waits still does or is unused
  runs_wait : (e : ℕ) (acts : List Act) (a b : SeatView × G) → All LeavesTree acts → Runs table becomes acts a b → (d : Core) → IsLone table.layout b.0 d →
      (c : Core) × IsLone table.layout a.0 c × ((r : Rec) → IsWaiting e (c.fate r) → IsWaiting e (d.fate r))
  runs_wait e [] a b plain run d lone = (d, subst (λ (z : SeatView × G). IsLone table.layout z.0 d) run lone, λ r was. was)
  runs_wait e (act ∷ acts) a b plain (m, step, rest) d lone =
      let (o, there, on) = runs_wait e acts m b (All-tail LeavesTree act acts plain) rest d lone in
      let (first, is) = step_back table becomes act silent a m step o there in
      let c = step.event.core in (
        c,
        first,
        λ r was. on r (subst (λ (z : Core). IsWaiting e (z.fate r)) (sym is) (fate_kept (IsWaiting e) (waiting_closed e) c a.0.known.pass act (All-head LeavesTree act acts plain) (waiting_marks e act) r was)),
      )

  visit_frees : (e bound : ℕ) (r : Rec) (acts : List Act) (a b : SeatView × G) → 1 ≤ e → e < bound → Visits bound r acts → Runs table becomes acts a b → (d : Core) → IsLone table.layout b.0 d →
      (c : Core) × IsLone table.layout a.0 c × (IsWaiting e (c.fate r) → IsUnused (d.fate r))
  visit_frees e bound r _ a b some low (Visits.passes word not) (m, step, end) d lone =
      let (first, is) = step_back table becomes (LoadState r word) silent a m step d (subst (λ (z : SeatView × G). IsLone table.layout z.0 d) end lone) in
      let c = step.event.core in
      (c, first, λ was. subst (λ (z : Core). IsUnused (z.fate r)) (sym is) (passes_by c r e word (c.fate r) refl step.event.legal.1.1 (not e some low) was))
  visit_frees e bound r _ a b some low (Visits.tries epoch found above below) (m, look, (i, give, end)) d lone =
      let (behind, now) = step_back table becomes (GiveBack r epoch found) silent m i give d (subst (λ (z : SeatView × G). IsLone table.layout z.0 d) end lone) in
      let (first, is) = step_back table becomes (LoadState r (state_word (Obsolete epoch))) silent a m look give.event.core behind in
      let c = look.event.core in
      let o = give.event.core in
      let same : o.fate ≡ c.fate = ap (λ (z : Core). z.fate) is in (
        c,
        first,
        λ was. subst (λ (z : Core). IsUnused (z.fate r)) (sym now)
            (gives o r e epoch (o.fate r) refl
            (λ since last n marked.
            let word : state_word (Obsolete epoch) ≡ state_word (Obsolete n) = look.event.legal.1.1 ∙ ap (λ f. state_word (tag_of (lock_of c r) f)) (ap (λ (f : Rec → Fate). f r) (sym same) ∙ marked) in omega (arith, word))
            (subst (λ (f : Rec → Fate). IsWaiting e (f r)) (sym same) was)),
      )

  -- a committed record that waits is given back by the visits of its kind
  visits_free : (uncommitted : ℕ → ℕ) (kind : ℕ → Rec) (e bound n m : ℕ) (acts : List Act) (a b : SeatView × G) → IsCommitted table.layout uncommitted (kind n) → 1 ≤ e → e < bound → n < m →
      InTurn (λ i. VisitsCommitted table.layout uncommitted bound (kind i)) m acts → Runs table becomes acts a b → (d : Core) → IsLone table.layout b.0 d →
      (c : Core) × IsLone table.layout a.0 c × (IsWaiting e (c.fate (kind n)) → IsUnused (d.fate (kind n)))
  visits_free uncommitted kind e bound n zero acts a b committed some low under in_turn run d lone = absurd (omega arith)
  visits_free uncommitted kind e bound n (suc m) acts a b committed some low under (before, last, first, visit, is) run d lone =
      let (o, one, two) = runs_split table becomes before last a b (subst (λ l. Runs table becomes l a b) is run) in
      elim (cases_lt n m) [
        | inl older ↦
            let back = runs_back table becomes last o b (committed_plain table.layout uncommitted bound (kind m) last visit) two d lone in
            let (c, there, frees) = visits_free uncommitted kind e bound n m before a o committed some low older first one back.core back.lone in
            (c, there, λ was. back.unused (kind n) (frees was))
        | inr newest ↦
            let same : m ≡ n = omega arith in
            let (i, behind, frees) = visit_frees e bound (kind m) last o b some low (visit_committed table.layout uncommitted bound (kind m) last (subst (λ z. IsCommitted table.layout uncommitted (kind z)) (sym same) committed) visit) two d lone in
            let (c, there, waits) = runs_wait e before a o (visits_plain table.layout uncommitted bound kind m before first) one i behind in
            (c, there, λ was. subst (λ z. IsUnused (d.fate (kind z))) same (frees (subst (λ z. IsWaiting e (i.fate (kind z))) (sym same) (waits (kind n) was))))
      ]

  runs_round : (acts : List Act) (a b : SeatView × G) → All LeavesRound acts → Runs table becomes acts a b → b.0.known.round ≡ a.0.known.round
  runs_round [] a b leaves run = ap (λ (z : SeatView × G). z.0.known.round) run
  runs_round (act ∷ acts) a b leaves (m, step, rest) =
      runs_round acts m b (All-tail LeavesRound act acts leaves) rest ∙ (act_leaves table.layout a.0.known m.0.known act step.event).round (All-head LeavesRound act acts leaves)

-- ---- what is not retired
still_closed : IsClosed IsUnretired
still_closed = record { free = tt; held = λ q. tt; ready = λ q. tt }

still_marks : (act : Act) → MarksWell IsUnretired act
still_marks (Mark r epoch) = λ since last q h. absurd h
still_marks _ = tt

unused_still : (f : Fate) → IsUnused f → IsUnretired f
unused_still Free h = tt
unused_still (Held p) h = tt
unused_still (Ready p) h = tt
unused_still (InTree since) h = absurd h
unused_still (Unlinked since last p) h = absurd h
unused_still (Marked since last epoch) h = absurd h

-- what is no pass's is not retired, or marked
still_is : (e : ℕ) (f : Fate) → ((since last q : ℕ) → f ≢ Unlinked since last q) → IsMarkedBy e f → IsUnretired f ⊎ ((since last m : ℕ) × (f ≡ Marked since last m) × (m ≤ e))
still_is e Free none by = inl tt
still_is e (Held p) none by = inl tt
still_is e (Ready p) none by = inl tt
still_is e (InTree since) none by = inl tt
still_is e (Unlinked since last p) none by = absurd (none since last p refl)
still_is e (Marked since last epoch) none by = inr (since, last, epoch, refl, by)

module _ {G : Type 0} (table : TableView) (becomes : G → Event → G → Type 0) (x : Rec) where
  -- steps that are no publishes retire nothing
  pub step_still : (act : Act) (said : Known → List Note) (a b : SeatView × G) → LeavesTree act → StepsWith table becomes act said a b → IsUnretiredAt table.layout a.0 x → IsUnretiredAt table.layout b.0 x
  step_still act said a b plain step was d lone =
      let (there, is) = step_back table becomes act said a b step d lone in
      let c = step.event.core in
      subst (λ (z : Core). IsUnretired (z.fate x)) (sym is) (fate_kept IsUnretired still_closed c a.0.known.pass act plain (still_marks act) x (was c there))

  pub runs_still : (acts : List Act) (a b : SeatView × G) → All LeavesTree acts → Runs table becomes acts a b → IsUnretiredAt table.layout a.0 x → IsUnretiredAt table.layout b.0 x
  runs_still [] a b plain run was = subst (λ (z : SeatView × G). IsUnretiredAt table.layout z.0 x) (sym run) was
  runs_still (act ∷ acts) a b plain (m, step, rest) was =
      runs_still acts m b (All-tail LeavesTree act acts plain) rest (step_still act silent a m (All-head LeavesTree act acts plain) step was)

-- ---- how a round begins
next_epoch : (c : Core) (expected : ℕ) → expected ≡ c.epoch → (if nat_eq c.epoch expected then with_epoch c.shared (suc c.epoch) else c.shared).epoch ≡ c.epoch + 1
next_epoch c expected is = subst (λ z. (if nat_eq c.epoch z then with_epoch c.shared (suc c.epoch) else c.shared).epoch ≡ c.epoch + 1) (sym is) (rw (eq-eqb c.epoch c.epoch refl) (omega arith))

advances : (epoch found : ℕ) → epoch + 1 < EPOCHS → advance_steps epoch found ≡ Advance epoch found ∷ []
advances epoch found low = ap (λ b. if b then Advance epoch found ∷ [] else []) (lt-ltb (epoch + 1) EPOCHS low)

-- what stands in no tree and is of no pass is free, or is retired
out_is : (e : ℕ) (f : Fate) → IsOut f → ((since last q : ℕ) → f ≢ Unlinked since last q) → IsMarkedBy e f → IsUnused f ⊎ ((since last m : ℕ) × (f ≡ Marked since last m) × (m ≤ e))
out_is e Free out none by = inl tt
out_is e (Held p) out none by = inl tt
out_is e (Ready p) out none by = inl tt
out_is e (InTree since) out none by = absurd out
out_is e (Unlinked since last p) out none by = absurd (none since last p refl)
out_is e (Marked since last epoch) out none by = inr (since, last, epoch, refl, by)

one_pin : (n : ℕ) (pins : List Act) → n ≡ 1 → InTurn LoadsPin n pins → (w : ℕ) × (pins ≡ LoadPin 0 w ∷ [])
one_pin zero pins one loads = absurd (omega arith)
one_pin (suc zero) pins one (before, last, first, (w, is), all) = (w, all ∙ ap₂ (λ xs ys. xs ++ ys) first is)
one_pin (suc (suc n)) pins one loads = absurd (omega arith)

module _ {G : Type 0} (table : TableView) (becomes : G → Event → G → Type 0) (one : table.layout.passes ≡ 1) where
  lone_same : (s : SeatView) (c d : Core) → IsLone table.layout s c → IsLone table.layout s d → d ≡ c
  lone_same s c d first second = lead_same (opening table.layout) s.trace c d first.led second.led

  -- the core of a step is that of the trace
  pub step_here : (act : Act) (a b : SeatView × G) (step : Steps table becomes act a b) → IsLone table.layout a.0 step.event.core
  step_here act a b step = let (d, lone) = step_lone table becomes act a b one step in (step_back table becomes act silent a b step d lone).0

  step_core : (act : Act) (a b : SeatView × G) (step : Steps table becomes act a b) (c : Core) → IsLone table.layout a.0 c → (step.event.core ≡ c) × IsLone table.layout b.0 (after c a.0.known.pass act)
  step_core act a b step c lone =
      let (d, on) = step_lone table becomes act a b one step in
      let (there, is) = step_back table becomes act silent a b step d on in
      let same = lone_same a.0 c step.event.core lone there in
      (same, subst (IsLone table.layout b.0) (is ∙ ap (λ z. after z a.0.known.pass act) same) on)

  -- what the pass knows after steps is true
  runs_known : (act : Act) (acts : List Act) (a b : SeatView × G) → Runs table becomes (act ∷ acts) a b → (d : Core) → IsLone table.layout b.0 d → Knows d b.0.known × IsLawful d
  runs_known act [] a b (m, step, end) d lone =
      let (there, is) = step_back table becomes act silent a m step d (subst (λ (z : SeatView × G). IsLone table.layout z.0 d) end lone) in
      (subst (λ (z : SeatView × G). Knows d z.0.known) (sym end) (subst (λ z. Knows z m.0.known) (sym is) (step_knows table becomes act silent a m step)), subst IsLawful (sym is) (step_lawful table becomes act silent a m step))
  runs_known act (x ∷ acts) a b (m, step, rest) d lone = runs_known x acts m b rest d lone

  module _ (a b : SeatView × G) {given_nodes given_leaves : ℕ} (r : IsRound table becomes a b given_nodes given_leaves) (pin : a.0.known.pin ≡ None) (own : a.0.known.own ≡ []) (early : length a.0.trace + 2 < EPOCHS)
      (word : ℕ) (pins_are : r.pins ≡ LoadPin 0 word ∷ []) where
    abbrev beginning : List Act
    beginning = (LoadEpoch r.epoch ∷ advance_steps r.epoch r.found) ++ LoadEpoch r.next ∷ r.pins

    abbrev four : List Act
    four = LoadEpoch r.epoch ∷ Advance r.epoch r.found ∷ LoadEpoch r.next ∷ LoadPin 0 word ∷ []

    four_plain : All LeavesTree four
    four_plain =
        All-cons LeavesTree (LoadEpoch r.epoch) (Advance r.epoch r.found ∷ LoadEpoch r.next ∷ LoadPin 0 word ∷ []) tt (All-cons LeavesTree (Advance r.epoch r.found) (LoadEpoch r.next ∷ LoadPin 0 word ∷ []) tt
        (All-cons LeavesTree (LoadEpoch r.next) (LoadPin 0 word ∷ []) tt (All-cons LeavesTree (LoadPin 0 word) [] tt (All-nil LeavesTree))))

    -- what was retired when it began is committed
    marked_committed : (c : Core) → IsLone table.layout a.0 c → (x : Rec) (since last m : ℕ) → c.fate x ≡ Marked since last m → IsCommitted table.layout r.uncommitted x
    marked_committed c lone x since last m is =
        let same : r.does.steps.1.event.core ≡ c = lone_same a.0 c r.does.steps.1.event.core lone (step_here (LoadEpoch r.epoch) a r.does.steps.0 r.does.steps.1) in
        taken_committed table becomes a b r x (λ free. let e : Free ≡ Marked since last m = sym free ∙ (ap (λ (z : Core). z.fate x) same ∙ is) in absurd cc)

    -- the bound of the round is the next epoch
    bound_is : (s : SeatView × G) → Runs table becomes four a s → (c : Core) → IsLone table.layout a.0 c → s.0.known.round.bound ≡ c.epoch + 1
    bound_is s (s1, st1, (s2, st2, (s3, st3, (s4, st4, end)))) c lone =
        let (is1, lone1) = step_core (LoadEpoch r.epoch) a s1 st1 c lone in
        let c1 = after c a.0.known.pass (LoadEpoch r.epoch) in
        let (is2, lone2) = step_core (Advance r.epoch r.found) s1 s2 st2 c1 lone1 in
        let c2 = after c1 s1.0.known.pass (Advance r.epoch r.found) in
        let (is3, lone3) = step_core (LoadEpoch r.next) s2 s3 st3 c2 lone2 in
        let begun : r.epoch ≡ c.epoch = st1.event.legal.1 ∙ ap (λ (z : Core). z.epoch) is1 in
        let now : c2.epoch ≡ c.epoch + 1 = next_epoch c1 r.epoch begun in
        let round3 : s3.0.known.round.bound ≡ c2.epoch = ap (λ (z : Known). z.round.bound) st3.event.learned_is ∙ ap (λ (z : Core). z.epoch) is3 in
        let q0 : s3.0.known.pass ≡ 0 = (let low = st4.event.knows.pass in let lay = ap (λ (l : Layout). l.passes) st4.event.layout_is in omega (arith, low, lay, one)) in
        let unpinned : s3.0.known.pin ≡ None = (act_leaves table.layout s2.0.known s3.0.known (LoadEpoch r.next) st3.event).pin tt ∙ ((act_leaves table.layout s1.0.known s2.0.known (Advance r.epoch r.found) st2.event).pin tt ∙ ((act_leaves table.layout a.0.known s1.0.known (LoadEpoch r.epoch) st1.event).pin tt ∙ pin)) in
        let none : st4.event.core.pins 0 ≡ None = subst (λ z. st4.event.core.pins z ≡ None) q0 (ap (λ (z : Share). z.pin) st4.event.knows.own ∙ unpinned) in
        let round4 : s4.0.known.round.bound ≡ s3.0.known.round.bound = ap (λ (z : Known). z.round.bound) st4.event.learned_is ∙ ap (lowered s3.0.known.round.bound) none in
        ap (λ (z : SeatView × G). z.0.known.round.bound) end ∙ (round4 ∙ (round3 ∙ now))

    pub round_room : HasSpare table.layout a.0 → HasRoom table.layout b.0
    round_room spare =
        let st1 = r.does.steps.1 in
        let c = st1.event.core in
        let lone = step_here (LoadEpoch r.epoch) a r.does.steps.0 st1 in
        let (marks, few) = run_timely (opening table.layout) a.0.trace c (opening_is_lawful table.layout).0 lone.led (λ z. tt) in
        let (n, low, out) = spare c lone in
        let begun : r.epoch ≡ c.epoch = st1.event.legal.1 in
        let again : advance_steps r.epoch r.found ≡ Advance r.epoch r.found ∷ [] = advances r.epoch r.found (omega (arith, begun, few, early)) in
        let (s5, top, leaves) = runs_split table becomes (beginning ++ r.nodes) r.leaves a b r.does.steps in
        let (s4, begin, nodes) = runs_split table becomes beginning r.nodes a s5 top in
        let as_four : beginning ≡ four = ap₂ (λ xs ys. (LoadEpoch r.epoch ∷ xs) ++ LoadEpoch r.next ∷ ys) again pins_are in
        let bound : b.0.known.round.bound ≡ c.epoch + 1 =
        ap (λ (z : Round). z.bound)
        (runs_round table becomes r.leaves s5 b (visits_leave table.layout r.uncommitted b.0.known.round.bound a_leaf table.layout.leaves r.leaves r.visits_leaves) leaves ∙
        runs_round table becomes r.nodes s4 s5 (visits_leave table.layout r.uncommitted b.0.known.round.bound a_node table.layout.nodes r.nodes r.visits_nodes) nodes) ∙
        bound_is s4 (subst (λ l. Runs table becomes l a s4) as_four begin) c lone in
        let begin_plain : All LeavesTree beginning = subst (All LeavesTree) (sym as_four) four_plain in
        let unlinked : (since last q : ℕ) → c.fate (a_node n) ≢ Unlinked since last q = λ since last q is.
        (let p : q ≡ a.0.known.pass = (let there = st1.event.lawful.records.holders (a_node n) q (ap holder_of is) in let mine = st1.event.knows.pass in let lay = ap (λ (l : Layout). l.passes) st1.event.layout_is in omega (arith, there, mine, lay, one)) in
        let has = one_of a.0.known.own _ ((knows_all c a.0.known st1.event.knows).all_own (a_node n) (UnlinkedBy since last) (is ∙ ap (Unlinked since last) p)) in subst (IsOneOf _) own has) in
        let unused : (d : Core) → IsLone table.layout b.0 d → IsUnused (d.fate (a_node n)) = λ d there. elim (out_is c.epoch (c.fate (a_node n)) out unlinked (marks (a_node n))) [
          | inl idle ↦
              let back = runs_back table becomes ((beginning ++ r.nodes) ++ r.leaves) a b
              (All-append LeavesTree (beginning ++ r.nodes) r.leaves (All-append LeavesTree beginning r.nodes begin_plain (visits_plain table.layout r.uncommitted b.0.known.round.bound a_node table.layout.nodes r.nodes r.visits_nodes))
              (visits_plain table.layout r.uncommitted b.0.known.round.bound a_leaf table.layout.leaves r.leaves r.visits_leaves)) r.does.steps d there in
              back.unused (a_node n) (subst (λ (z : Core). IsUnused (z.fate (a_node n))) (sym (lone_same a.0 c back.core lone back.lone)) idle)
          | inr (since, last, m, is, old) ↦
              let back = runs_back table becomes r.leaves s5 b (visits_plain table.layout r.uncommitted b.0.known.round.bound a_leaf table.layout.leaves r.leaves r.visits_leaves) leaves d there in
              let (i, at4, frees) = visits_free table becomes r.uncommitted a_node m b.0.known.round.bound n table.layout.nodes r.nodes s4 s5 (marked_committed c lone (a_node n) since last m is) (st1.event.lawful.epochs.marked (a_node n) since last m is).0 (omega (arith, bound, old)) low r.visits_nodes nodes back.core back.lone in
              let (o, at0, waits) = runs_wait table becomes m beginning a s4 begin_plain begin i at4 in
              back.unused (a_node n) (frees (waits (a_node n) (subst (λ (z : Core). IsWaiting m (z.fate (a_node n))) (sym (lone_same a.0 c o lone at0)) (subst (IsWaiting m) (sym is) refl))))
        ] in (
          one,
          (
            n,
            low,
            λ d there. (let (knows, lawful) = runs_known (LoadEpoch r.epoch) _ a b r.does.steps d there in
                unused_free d b.0.known (a_node n) lawful knows (ap (λ (l : Layout). l.passes) (lead_layout (opening table.layout) b.0.trace d there.led) ∙ one)
                (λ x has at. absurd (subst (IsOneOf x) (ap (λ (z : Known). z.own) r.does.rest ∙ own) has)) (unused d there)),
          ),
        )

    -- its bound is the next epoch, and it begins with no publish
    round_begins : (c : Core) → IsLone table.layout a.0 c → (b.0.known.round.bound ≡ c.epoch + 1) × All LeavesTree beginning
    round_begins c lone =
        let st1 = r.does.steps.1 in
        let same : st1.event.core ≡ c = lone_same a.0 c st1.event.core lone (step_here (LoadEpoch r.epoch) a r.does.steps.0 st1) in
        let (marks, few) = run_timely (opening table.layout) a.0.trace c (opening_is_lawful table.layout).0 lone.led (λ z. tt) in
        let begun : r.epoch ≡ c.epoch = st1.event.legal.1 ∙ ap (λ (z : Core). z.epoch) same in
        let again : advance_steps r.epoch r.found ≡ Advance r.epoch r.found ∷ [] = advances r.epoch r.found (omega (arith, begun, few, early)) in
        let (s5, top, leaves) = runs_split table becomes (beginning ++ r.nodes) r.leaves a b r.does.steps in
        let (s4, begin, nodes) = runs_split table becomes beginning r.nodes a s5 top in
        let as_four : beginning ≡ four = ap₂ (λ xs ys. (LoadEpoch r.epoch ∷ xs) ++ LoadEpoch r.next ∷ ys) again pins_are in (
          ap (λ (z : Round). z.bound)
              (runs_round table becomes r.leaves s5 b (visits_leave table.layout r.uncommitted b.0.known.round.bound a_leaf table.layout.leaves r.leaves r.visits_leaves) leaves ∙
              runs_round table becomes r.nodes s4 s5 (visits_leave table.layout r.uncommitted b.0.known.round.bound a_node table.layout.nodes r.nodes r.visits_nodes) nodes) ∙
              bound_is s4 (subst (λ l. Runs table becomes l a s4) as_four begin) c lone,
          subst (All LeavesTree) (sym as_four) four_plain,
        )

    -- what was retired when it began is given back by visits of its kind
    visits_give : (kind : ℕ → Rec) (n count : ℕ) (before acts : List Act) (s t : SeatView × G) (c e : Core) → IsLone table.layout a.0 c → IsLone table.layout t.0 e → n < count → All LeavesTree before → Runs table becomes before a s →
        InTurn (λ i. VisitsCommitted table.layout r.uncommitted b.0.known.round.bound (kind i)) count acts → Runs table becomes acts s t → (since last m : ℕ) → c.fate (kind n) ≡ Marked since last m → 1 ≤ m → m < b.0.known.round.bound → IsUnused (e.fate (kind n))
    visits_give kind n count before acts s t c e lone at low plain first visits run since last m is some below =
        let (i, at4, frees) = visits_free table becomes r.uncommitted kind m b.0.known.round.bound n count acts s t (marked_committed c lone (kind n) since last m is) some below low visits run e at in
        let (o, at0, waits) = runs_wait table becomes m before a s plain first i at4 in
        frees (waits (kind n) (subst (λ (z : Core). IsWaiting m (z.fate (kind n))) (sym (lone_same a.0 c o lone at0)) (subst (IsWaiting m) (sym is) refl)))

    round_gives : (x : Rec) → HasRecord table.layout x → (c d : Core) → IsLone table.layout a.0 c → IsLone table.layout b.0 d → (since last m : ℕ) → c.fate x ≡ Marked since last m → 1 ≤ m → m ≤ c.epoch → IsUnused (d.fate x)
    round_gives (a_node n) low c d lone there since last m is some old =
        let (bound, plain) = round_begins c lone in
        let (s5, top, leaves) = runs_split table becomes (beginning ++ r.nodes) r.leaves a b r.does.steps in
        let (s4, begin, nodes) = runs_split table becomes beginning r.nodes a s5 top in
        let back = runs_back table becomes r.leaves s5 b (visits_plain table.layout r.uncommitted b.0.known.round.bound a_leaf table.layout.leaves r.leaves r.visits_leaves) leaves d there in
        back.unused (a_node n) (visits_give a_node n table.layout.nodes beginning r.nodes s4 s5 c back.core lone back.lone low plain begin r.visits_nodes nodes since last m is some (omega (arith, bound, old)))
    round_gives (a_leaf n) low c d lone there since last m is some old =
        let (bound, plain) = round_begins c lone in
        let (s5, top, leaves) = runs_split table becomes (beginning ++ r.nodes) r.leaves a b r.does.steps in
        let before = All-append LeavesTree beginning r.nodes plain (visits_plain table.layout r.uncommitted b.0.known.round.bound a_node table.layout.nodes r.nodes r.visits_nodes) in
        visits_give a_leaf n table.layout.leaves (beginning ++ r.nodes) r.leaves s5 b c d lone there low before top r.visits_leaves leaves since last m is some (omega (arith, bound, old))

    -- so no record is retired after it
    pub round_still : HasNoneRetired table.layout b.0
    round_still x has d there =
        let st1 = r.does.steps.1 in
        let c = st1.event.core in
        let lone = step_here (LoadEpoch r.epoch) a r.does.steps.0 st1 in
        let (marks, few) = run_timely (opening table.layout) a.0.trace c (opening_is_lawful table.layout).0 lone.led (λ z. tt) in
        let (bound, plain) = round_begins c lone in
        let acts_plain = All-append LeavesTree (beginning ++ r.nodes) r.leaves
        (All-append LeavesTree beginning r.nodes plain (visits_plain table.layout r.uncommitted b.0.known.round.bound a_node table.layout.nodes r.nodes r.visits_nodes))
        (visits_plain table.layout r.uncommitted b.0.known.round.bound a_leaf table.layout.leaves r.leaves r.visits_leaves) in
        let unlinked : (since last q : ℕ) → c.fate x ≢ Unlinked since last q = λ since last q is.
        (let p : q ≡ a.0.known.pass = (let there = st1.event.lawful.records.holders x q (ap holder_of is) in let mine = st1.event.knows.pass in let lay = ap (λ (l : Layout). l.passes) st1.event.layout_is in omega (arith, there, mine, lay, one)) in
        let owned = one_of a.0.known.own _ ((knows_all c a.0.known st1.event.knows).all_own x (UnlinkedBy since last) (is ∙ ap (Unlinked since last) p)) in subst (IsOneOf _) own owned) in
        elim (still_is c.epoch (c.fate x) unlinked (marks x)) [
          | inl still ↦ runs_still table becomes x ((beginning ++ r.nodes) ++ r.leaves) a b acts_plain r.does.steps (λ o at. subst (λ (z : Core). IsUnretired (z.fate x)) (sym (lone_same a.0 c o lone at)) still) d there
          | inr (since, last, m, is, old) ↦ unused_still (d.fate x) (round_gives x has c d lone there since last m is (st1.event.lawful.epochs.marked x since last m is).0 old)
        ]

-- ---- what is spare, and how long a trace is
advance_plain : (epoch found : ℕ) → All LeavesTree (advance_steps epoch found)
advance_plain epoch found = cases (nat_lt (epoch + 1) EPOCHS)
  where
    cases : (t : Bool) → All LeavesTree (if t then Advance epoch found ∷ [] else [])
    cases true = All-cons LeavesTree (Advance epoch found) [] tt (All-nil LeavesTree)
    cases false = All-nil LeavesTree

pins_plain : (n : ℕ) (acts : List Act) → InTurn LoadsPin n acts → All LeavesTree acts
pins_plain zero acts none = subst (All LeavesTree) (sym none) (All-nil LeavesTree)
pins_plain (suc n) acts (before, last, first, (w, is), all) =
    subst (All LeavesTree) (sym all) (All-append LeavesTree before last (pins_plain n before first) (subst (All LeavesTree) (sym is) (All-cons LeavesTree (LoadPin n w) [] tt (All-nil LeavesTree))))

each_plain : (bound : ℕ) (recs : List Rec) (acts : List Act) → VisitEach bound recs acts → All LeavesTree acts
each_plain bound [] acts none = subst (All LeavesTree) (sym none) (All-nil LeavesTree)
each_plain bound (r ∷ recs) acts (first, rest, visit, visits, all) = subst (All LeavesTree) (sym all) (All-append LeavesTree first rest (visit_plain bound r first visit) (each_plain bound recs rest visits))

begin_plain : (epoch found next : ℕ) (n : ℕ) (pins : List Act) → InTurn LoadsPin n pins → All LeavesTree ((LoadEpoch epoch ∷ advance_steps epoch found) ++ LoadEpoch next ∷ pins)
begin_plain epoch found next n pins loads =
    All-append LeavesTree (LoadEpoch epoch ∷ advance_steps epoch found) (LoadEpoch next ∷ pins) (All-cons LeavesTree (LoadEpoch epoch) (advance_steps epoch found) tt (advance_plain epoch found))
    (All-cons LeavesTree (LoadEpoch next) pins tt (pins_plain n pins loads))

loads_plain : (kind : ℕ → Rec) (first : ℕ) (tags : List Tag) → All LeavesTree (loads_of kind first tags)
loads_plain kind first [] = All-nil LeavesTree
loads_plain kind first (tag ∷ tags) = All-cons LeavesTree _ _ tt (loads_plain kind (suc first) tags)

module _ {G : Type 0} (table : TableView) (becomes : G → Event → G → Type 0) where
  abbrev pub round_acts : {given_nodes given_leaves : ℕ} {a b : SeatView × G} → IsRound table becomes a b given_nodes given_leaves → List Act
  round_acts r = LoadEpoch r.epoch ∷ advance_steps r.epoch r.found ++ LoadEpoch r.next ∷ r.pins ++ r.nodes ++ r.leaves

  pub round_spare : {given_nodes given_leaves : ℕ} (a b : SeatView × G) → IsRound table becomes a b given_nodes given_leaves → KeepsSpare table.layout a.0 b.0
  round_spare a b r =
      let bound = b.0.known.round.bound in
      let front = (LoadEpoch r.epoch ∷ advance_steps r.epoch r.found) ++ LoadEpoch r.next ∷ r.pins in
      runs_spare table becomes ((front ++ r.nodes) ++ r.leaves) a b
      (All-append LeavesTree (front ++ r.nodes) r.leaves (All-append LeavesTree front r.nodes (begin_plain r.epoch r.found r.next table.layout.passes r.pins r.loads_pins) (visits_plain table.layout r.uncommitted bound a_node table.layout.nodes r.nodes r.visits_nodes))
      (visits_plain table.layout r.uncommitted bound a_leaf table.layout.leaves r.leaves r.visits_leaves)) r.does.steps

  pub small_spare : {most : ℕ} (a b : SeatView × G) → IsSmallRound table becomes most a b → KeepsSpare table.layout a.0 b.0
  small_spare a b r =
      let front = (LoadEpoch r.epoch ∷ advance_steps r.epoch r.found) ++ LoadEpoch r.next ∷ r.pins in
      runs_spare table becomes (front ++ r.visits) a b (All-append LeavesTree front r.visits (begin_plain r.epoch r.found r.next table.layout.passes r.pins r.loads_pins) (each_plain b.0.known.round.bound r.recs r.visits r.visits_each)) r.does.steps

  pin_plain : (epoch : ℕ) → All LeavesTree (LoadEpoch epoch ∷ SetPin epoch ∷ [])
  pin_plain epoch = All-cons LeavesTree (LoadEpoch epoch) (SetPin epoch ∷ []) tt (All-cons LeavesTree (SetPin epoch) [] tt (All-nil LeavesTree))

  pub pin_spare : (a b : SeatView × G) → Pins table becomes a b → KeepsSpare table.layout a.0 b.0
  pin_spare a b (epoch, does) = runs_spare table becomes (LoadEpoch epoch ∷ SetPin epoch ∷ []) a b (pin_plain epoch) does.steps

  pub pin_room : (a b : SeatView × G) → Pins table becomes a b → a.0.known.own ≡ [] → HasRoom table.layout a.0 → HasRoom table.layout b.0
  pin_room a b (epoch, does) own (one, (n, low, free)) =
      (one, (n, low, runs_free table becomes (LoadEpoch epoch ∷ SetPin epoch ∷ []) a b n (pin_plain epoch) does.steps (λ o has is. absurd (subst (IsOneOf o) (ap (λ (z : Known). z.own) does.rest ∙ own) has)) free))

  pub noted_spare : (act : Act) (said : Known → List Note) (a b : SeatView × G) → LeavesTree act → StepsWith table becomes act said a b → KeepsSpare table.layout a.0 b.0
  noted_spare act said a b plain step was d lone =
      let (there, is) = step_back table becomes act said a b step d lone in
      let c = step.event.core in
      let (n, low, out) = was c there in
      (n, low, subst (λ (z : Core). IsOut (z.fate (a_node n))) (sym is) (fate_kept IsOut out_closed c a.0.known.pass act plain (out_marks act) (a_node n) out))

  pub step_longer : (act : Act) (said : Known → List Note) (a b : SeatView × G) → StepsWith table becomes act said a b → length a.0.trace ≤ length b.0.trace
  step_longer act said a b step =
      let last = ap (λ (l : List Event). length l) step.next.next_is in
      let more = ap (λ (l : List Event). length l) step.next.others.1 in
      omega (arith, last, more, length-append step.next.before (record { pass = a.0.known.pass; act = act } ∷ []), length-append a.0.trace step.next.others.0)

  pub runs_longer : (acts : List Act) (a b : SeatView × G) → Runs table becomes acts a b → length a.0.trace ≤ length b.0.trace
  runs_longer [] a b run = let same = ap (λ (z : SeatView × G). length z.0.trace) run in omega (arith, same)
  runs_longer (act ∷ acts) a b (m, step, rest) = let first = step_longer act silent a m step in let later = runs_longer acts m b rest in omega (arith, first, later)

  pub ended_longer : {Are : List Act → Type 0} {said : Known → List Note} (a b : SeatView × G) → HasEnded table becomes Are said a b → length a.0.trace ≤ length b.0.trace
  ended_longer {said = said} a b (acts, are, (m, run, last)) = let first = runs_longer acts a m run in let later = step_longer ClearPin said m b last in omega (arith, first, later)

  pub counts_spare : (tags : FoundTags) (a b : SeatView × G) → Runs table becomes (loads_in table.layout tags) a b → KeepsSpare table.layout a.0 b.0
  counts_spare tags a b run =
      let layout = table.layout in
      runs_spare table becomes (loads_in layout tags) a b
      (All-append LeavesTree _ _ (All-append LeavesTree _ _ (All-append LeavesTree _ _ (All-append LeavesTree _ _ (All-append LeavesTree _ _ (loads_plain a_node 0 tags.nodes) (loads_plain a_leaf 0 tags.short)) (loads_plain a_leaf layout.medium_from tags.medium))
      (loads_plain a_leaf layout.large_from tags.large)) (loads_plain a_leaf layout.wide_from tags.wide)) (loads_plain a_leaf layout.long_from tags.long)) run

  -- a round of a pass that is between two calls leaves a record free
  pub collects_room : {given_nodes given_leaves : ℕ} (a b : SeatView × G) → IsRound table becomes a b given_nodes given_leaves → table.layout.passes ≡ 1 → a.0.known.pin ≡ None → a.0.known.own ≡ [] →
      length a.0.trace + 2 < EPOCHS → HasSpare table.layout a.0 → HasRoom table.layout b.0
  collects_room a b r one pin own early spare =
      let (word, pins_are) = one_pin table.layout.passes r.pins one r.loads_pins in round_room table becomes one a b r pin own early word pins_are spare

  -- and so one that is whole or spared; in a table of one pass it is whole
  pub collects_spare : (a b : SeatView × G) → Collects table becomes a b → KeepsSpare table.layout a.0 b.0
  collects_spare a b (inl (nodes, leaves, r)) = round_spare a b r
  collects_spare a b (inr (several, r)) = small_spare a b r

  pub collecting_room : (a b : SeatView × G) → Collects table becomes a b → table.layout.passes ≡ 1 → a.0.known.pin ≡ None → a.0.known.own ≡ [] → length a.0.trace + 2 < EPOCHS → HasSpare table.layout a.0 →
      HasRoom table.layout b.0
  collecting_room a b (inl (nodes, leaves, r)) one pin own early spare = collects_room a b r one pin own early spare
  collecting_room a b (inr (several, r)) one pin own early spare = absurd (omega (arith, several, one))

  collects_still : {given_nodes given_leaves : ℕ} (a b : SeatView × G) → IsRound table becomes a b given_nodes given_leaves → table.layout.passes ≡ 1 → a.0.known.pin ≡ None → a.0.known.own ≡ [] →
      length a.0.trace + 2 < EPOCHS → HasNoneRetired table.layout b.0
  collects_still a b r one pin own early = let (word, pins_are) = one_pin table.layout.passes r.pins one r.loads_pins in round_still table becomes one a b r pin own early word pins_are

  pub collecting_still : (a b : SeatView × G) → Collects table becomes a b → table.layout.passes ≡ 1 → a.0.known.pin ≡ None → a.0.known.own ≡ [] → length a.0.trace + 2 < EPOCHS → HasNoneRetired table.layout b.0
  collecting_still a b (inl (nodes, leaves, r)) one pin own early = collects_still a b r one pin own early
  collecting_still a b (inr (several, r)) one pin own early = absurd (omega (arith, several, one))
