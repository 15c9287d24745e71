-- In a table with one pass a record that was found not free, and is not its pass's, is in the tree or retired. It stays so after steps that
-- don't give it back.
use Rattle.hot_index_calls.proofs.Common.{◌≡◌, ◌⊎◌, inl, inr, ⊎_elim, ℕ, zero, suc, ◌+◌, ◌<◌, ◌≤◌, List, [], ◌∷◌, ◌++◌, Bool, true, false, nat_eq, nat_lt, if◌then◌else◌, Option, Some, None, refl, sym, ap, subst, ◌∙◌, arith, All, Contains, count_by, cases_lt, eq-eqb, eqb-true, false≢true, All-append, All-cons, All-contains, All-head, All-nil, All-tail, All-weaker, sum_by-append, Note, state_word, EPOCHS, Layout, Rec, a_node, a_leaf, FreeTag, Live, Obsolete, Fate, Shared, Free, Held, Ready, InTree, Unlinked, Marked, is_linked, next_fate, same_rec, unlocked, with_epoch, with_fate, with_lock, Core, IsLawful, holder_of, IsAtomic, Legal, after, anchored, claimed, given_back, marked, next_tree, state_of, target_word, word_of, IsEvent, anchor_learned, blocking_pass_of, claim_learned, failed_with, lock_of, state_at, tag_of, Act, Claim, Fill, MakeReady, Release, LoadRef, LoadFixed, Lock, Unlock, Publish, Mark, LoadEpoch, Advance, SetPin, ClearPin, LoadPin, LoadState, GiveBack, Load, Event, Failed, Known, act_leaves, InTurn, Runs, Steps, StepsWith, silent, SeatView, TableView, LeavesFailed, HasMissedSince, TellsState, IsOfAttempt, IsRound, LoadsPin, Visits, advance_steps, has_given, step_back, Nodes, Leaves}
use Rattle.rowex_core.proofs.Sharing.{at_record}
use Rattle.rowex_core.specs.declared.event.Target.TheVariants.{Anchor, Node as NodeTarget}
use Rattle.rowex_core.specs.declared.known.FailedAct.{FailedAct}
use Rattle.rowex_core.specs.declared.known.FailedAct.TheVariants.{Claim as a_claim, Lock as a_lock, LoadState as a_load}
use Rattle.epochs.proofs.Rounds.{visit_or_none}
use Rattle.epochs.specs.Rounds.{VisitsCommitted}
use Rattle.hot_index_calls.specs.Lacking.{IsUsed, IsUsedAt}
use Rattle.hot_index_calls.specs.Traces.{CollectsNone, HasEnded, IsAttempt}
use Rattle.hot_index_calls.proofs.Noting.{All-behind}

-- ---- one step
-- the step doesn't give this record back
abbrev pub SparesRecord : Rec → Act → Type 0
SparesRecord i (GiveBack r epoch found) = (same_rec i r ≡ false) ⊎ (has_given (GiveBack r epoch found) ≡ false)
SparesRecord i act = Unit {0}

given : (s : Shared) (r : Rec) (f : Fate) → (IsUsed (s.fate r) → IsUsed f) → (i : Rec) → IsUsed (s.fate i) → IsUsed ((with_fate s r f).fate i)
given s r f h i = at_record (λ j g. IsUsed (s.fate j) → IsUsed g) r f s.fate h (λ j other was. was) i

another : (s : Shared) (r : Rec) (f : Fate) (i : Rec) → same_rec i r ≡ false → IsUsed (s.fate i) → IsUsed ((with_fate s r f).fate i)
another s r f i apart was = rw apart was

claim_used : (s : Shared) (q : ℕ) (r : Rec) (f : Fate) → s.fate r ≡ f → (i : Rec) → IsUsed (s.fate i) → IsUsed ((claimed s q r f).fate i)
claim_used s q r Free is i was = given s r (Held q) (λ used. absurd (subst IsUsed is used)) i was
claim_used s q r (Held p) is i was = was
claim_used s q r (Ready p) is i was = was
claim_used s q r (InTree since) is i was = was
claim_used s q r (Unlinked since last p) is i was = was
claim_used s q r (Marked since last epoch) is i was = was

mark_used : (s : Shared) (r : Rec) (epoch : ℕ) (f : Fate) (i : Rec) → IsUsed (s.fate i) → IsUsed ((marked s r epoch f).fate i)
mark_used s r epoch (Unlinked since last p) i was = given (unlocked s r) r (Marked since last epoch) (λ used. tt) i was
mark_used s r epoch Free i was = was
mark_used s r epoch (Held p) i was = was
mark_used s r epoch (Ready p) i was = was
mark_used s r epoch (InTree since) i was = was
mark_used s r epoch (Marked since last m) i was = was

give_used : (c : Core) (r : Rec) (epoch found : ℕ) → found ≡ state_at c r → (f : Fate) → c.fate r ≡ f → (i : Rec) → SparesRecord i (GiveBack r epoch found) → IsUsed (c.fate i) → IsUsed ((given_back c.shared r epoch f).fate i)
give_used c r epoch found legal (Marked since last m) is i spares was = of (nat_eq m epoch) refl spares
  where
    of : (t : Bool) → nat_eq m epoch ≡ t → (same_rec i r ≡ false) ⊎ (nat_eq found (state_word (Obsolete epoch)) ≡ false) → IsUsed ((if t then with_fate c.shared r Free else c.shared).fate i)
    of false e each = was
    of true e (inl apart) = another c.shared r Free i apart was
    of true e (inr none) =
        let word : found ≡ state_word (Obsolete m) = subst (λ (z : Fate). found ≡ state_word (tag_of (lock_of c r) z)) is legal in
        absurd (false≢true (sym none ∙ eq-eqb found (state_word (Obsolete epoch)) (word ∙ ap (λ z. state_word (Obsolete z)) (eqb-true m epoch e))))
give_used c r epoch found legal Free is i spares was = was
give_used c r epoch found legal (Held p) is i spares was = was
give_used c r epoch found legal (Ready p) is i spares was = was
give_used c r epoch found legal (InTree since) is i spares was = was
give_used c r epoch found legal (Unlinked since last p) is i spares was = was

next_used : (now q : ℕ) (linked : Bool) (f : Fate) → IsUsed f → IsUsed (next_fate now q linked f)
next_used now q linked Free used = absurd used
next_used now q linked (Held p) used = absurd used
next_used now q linked (Ready p) used = absurd used
next_used now q true (InTree since) used = tt
next_used now q false (InTree since) used = tt
next_used now q linked (Unlinked since last p) used = tt
next_used now q linked (Marked since last epoch) used = tt

either : (b : Bool) (s t : Shared) (i : Rec) → IsUsed (s.fate i) → IsUsed (t.fate i) → IsUsed ((if b then s else t).fate i)
either true s t i one other = one
either false s t i one other = other

anchor_used : (s : Shared) (q : ℕ) (o : Option ℕ) (i : Rec) → IsUsed (s.fate i) → IsUsed ((anchored s q o).fate i)
anchor_used s q None i was = was
anchor_used s q (Some p) i was = was

used_after : (c : Core) (q : ℕ) (act : Act) → IsAtomic act → Legal c q act → (i : Rec) → SparesRecord i act → IsUsed (c.fate i) → IsUsed ((after c q act).fate i)
used_after c q (Claim r found) atomic legal i spares was = claim_used c.shared q r (c.fate r) refl i was
used_after c q (Fill r offset w) atomic legal i spares was = was
used_after c q (MakeReady r) atomic legal i spares was = given c.shared r (Ready q) (λ used. absurd (subst IsUsed legal.1.1 used)) i was
used_after c q (Release r) atomic legal i spares was = given c.shared r Free (λ used. absurd (subst IsUsed legal.1.1 used)) i was
used_after c q (LoadRef spot w) atomic legal i spares was = was
used_after c q (LoadFixed r offset w) atomic legal i spares was = was
used_after c q (Lock Anchor found) atomic legal i spares was = anchor_used c.shared q c.anchor i was
used_after c q (Lock (NodeTarget n) found) atomic legal i spares was = either (nat_eq found (state_word Live)) (with_lock c.shared n (Some q)) c.shared i was was
used_after c q (Unlock Anchor) atomic legal i spares was = was
used_after c q (Unlock (NodeTarget n)) atomic legal i spares was = was
used_after c q (Publish spot w) atomic legal i spares was = next_used c.past.now q (is_linked (next_tree c spot w) i) (c.fate i) was
used_after c q (Mark r epoch) atomic legal i spares was = mark_used c.shared r epoch (c.fate r) i was
used_after c q (LoadEpoch w) atomic legal i spares was = was
used_after c q (Advance expected found) atomic legal i spares was = either (nat_eq c.epoch expected) (with_epoch c.shared (suc c.epoch)) c.shared i was was
used_after c q (SetPin w) atomic legal i spares was = was
used_after c q ClearPin atomic legal i spares was = was
used_after c q (LoadPin o w) atomic legal i spares was = was
used_after c q (LoadState r w) atomic legal i spares was = was
used_after c q (GiveBack r epoch found) atomic legal i spares was = give_used c r epoch found legal.1.1 (c.fate r) refl i spares was
used_after c q (Load words) atomic legal i spares was = absurd atomic

-- ---- what was found not free
same_record : (s r : Rec) → word_of s 0 ≡ word_of r 0 → s ≡ r
same_record (a_node n) (a_node m) e = let same : n ≡ m = cc in ap a_node same
same_record (a_node n) (a_leaf m) e = absurd cc
same_record (a_leaf n) (a_node m) e = absurd cc
same_record (a_leaf n) (a_leaf m) e = let same : n ≡ m = cc in ap a_leaf same

-- a record of this fate isn't free
abbrev pub IsTaken : Fate → Type 0
IsTaken Free = ⊥
IsTaken f = Unit {0}

-- in this core the record isn't free, and `Whose` holds of the pass that has it, or of none
abbrev pub IsTakenIn : (Rec → Option ℕ → Type 0) → Rec → Core → Type 0
IsTakenIn Whose r c = IsTaken (c.fate r) × Whose r (holder_of (c.fate r))

-- so it is used, where `Whose` holds of no pass
taken_used : (Whose : Rec → Option ℕ → Type 0) (r : Rec) (c : Core) → IsLawful c → ((p : ℕ) → p < c.layout.passes → Whose r (Some p) → ⊥) → IsTakenIn Whose r c → IsUsed (c.fate r)
taken_used Whose r c lawful none taken = of (c.fate r) refl taken
  where
    of : (f : Fate) → c.fate r ≡ f → IsTaken f × Whose r (holder_of f) → IsUsed f
    of Free is taken = absurd taken.0
    of (Held p) is taken = absurd (none p (lawful.records.holders r p (ap holder_of is)) taken.1)
    of (Ready p) is taken = absurd (none p (lawful.records.holders r p (ap holder_of is)) taken.1)
    of (InTree since) is taken = tt
    of (Unlinked since last p) is taken = tt
    of (Marked since last epoch) is taken = tt

module _ {G : Type 0} (table : TableView) (becomes : G → Event → G → Type 0) (Whose : Rec → Option ℕ → Type 0) (r : Rec) where
  -- A step fails, which tells whose the record is where it finds it not free; or what has failed stays.
  record Fails (c : Core) (k j : Known) : Type 0 where
    failed : Failed
    failed_is : j.failed ≡ failed ∷ k.failed
    now : failed.step ≡ k.steps
    tells : TellsState (Whose r) failed.act → failed.location ≡ word_of r 0 → IsTakenIn Whose r c

  abbrev MayFail : Core → Known → Known → Type 0
  MayFail c k j = (j.failed ≡ k.failed) ⊎ Fails c k j

  -- so a step that finds record s, of this fate, not free
  finds : (c : Core) (k j : Known) (s : Rec) (f : Fate) (act : FailedAct) (word : ℕ) → c.fate s ≡ f → IsTaken f → (TellsState (Whose r) act → Whose r (holder_of f)) →
      j.failed ≡ record { act = act; location = word_of s 0; word = word; step = k.steps } ∷ k.failed → MayFail c k j
  finds c k j s f act word is taken whose failed = inr (record {
    failed = record { act = act; location = word_of s 0; word = word; step = k.steps };
    failed_is = failed;
    now = refl;
    tells = λ told at. subst (λ (z : Fate). IsTaken z × Whose r (holder_of z)) (sym is ∙ ap c.fate (same_record s r at)) (taken, whose told);
  })

  module _ (a m : SeatView × G) where
    claims : (s : Rec) (found : ℕ) (c : Core) (f : Fate) → c.fate s ≡ f → m.0.known.failed ≡ (claim_learned c s found f a.0.known).failed → MayFail c a.0.known m.0.known
    claims s found c Free is failed = inl failed
    claims s found c (Held p) is failed = finds c a.0.known m.0.known s (Held p) (a_claim (Some p)) found is tt (λ w. w) failed
    claims s found c (Ready p) is failed = finds c a.0.known m.0.known s (Ready p) (a_claim (Some p)) found is tt (λ w. w) failed
    claims s found c (InTree since) is failed = finds c a.0.known m.0.known s (InTree since) (a_claim None) found is tt (λ w. w) failed
    claims s found c (Unlinked since last p) is failed = finds c a.0.known m.0.known s (Unlinked since last p) (a_claim (Some p)) found is tt (λ w. w) failed
    claims s found c (Marked since last epoch) is failed = finds c a.0.known m.0.known s (Marked since last epoch) (a_claim None) found is tt (λ w. w) failed

    taken_at : (c : Core) (s : Rec) (w : ℕ) (f : Fate) → w ≡ state_word (tag_of (lock_of c s) f) → nat_eq w (state_word FreeTag) ≡ false → IsTaken f
    taken_at c s w Free is other = absurd (false≢true (sym other ∙ eq-eqb w (state_word FreeTag) is))
    taken_at c s w (Held p) is other = tt
    taken_at c s w (Ready p) is other = tt
    taken_at c s w (InTree since) is other = tt
    taken_at c s w (Unlinked since last p) is other = tt
    taken_at c s w (Marked since last epoch) is other = tt

    looks : (s : Rec) (w : ℕ) (c : Core) → w ≡ state_at c s → (t : Bool) → nat_eq w (state_word FreeTag) ≡ t →
        m.0.known.failed ≡ (if t then a.0.known else failed_with a.0.known (a_load (holder_of (c.fate s))) (state_of s) w).failed → MayFail c a.0.known m.0.known
    looks s w c word true e failed = inl failed
    looks s w c word false e failed = finds c a.0.known m.0.known s (c.fate s) (a_load (holder_of (c.fate s))) w refl (taken_at c s w (c.fate s) word e) (λ told. told) failed

    locks_anchor : (c : Core) (found : ℕ) (o : Option ℕ) → m.0.known.failed ≡ (anchor_learned c found o a.0.known).failed → MayFail c a.0.known m.0.known
    locks_anchor c found None failed = inl failed
    locks_anchor c found (Some p) failed =
        inr (record { failed = record { act = a_lock (Some p); location = target_word Anchor; word = found; step = a.0.known.steps }; failed_is = failed; now = refl; tells = λ told at. absurd told })

    locks_node : (c : Core) (n found : ℕ) (t : Bool) → m.0.known.failed ≡ (if t then record a.0.known { locks = record { node = n; words = c.words (a_node n) } ∷ a.0.known.locks; values = [] }
        else failed_with a.0.known (a_lock (blocking_pass_of c n (c.fate (a_node n)))) (target_word (NodeTarget n)) found).failed → MayFail c a.0.known m.0.known
    locks_node c n found true failed = inl failed
    locks_node c n found false failed = inr (record {
      failed = record { act = a_lock (blocking_pass_of c n (c.fate (a_node n))); location = target_word (NodeTarget n); word = found; step = a.0.known.steps };
      failed_is = failed;
      now = refl;
      tells = λ told at. absurd told;
    })

    fails : (act : Act) (step : Steps table becomes act a m) → MayFail step.event.core a.0.known m.0.known
    fails act step = go act step.event (act_leaves table.layout a.0.known m.0.known act step.event).failed
      where
        go : (act : Act) (e : IsEvent table.layout act silent a.0.known m.0.known) → (LeavesFailed act → m.0.known.failed ≡ a.0.known.failed) → MayFail e.core a.0.known m.0.known
        go (Claim s found) e leaves = claims s found e.core (e.core.fate s) refl (ap (λ (z : Known). z.failed) e.learned_is)
        go (LoadState s w) e leaves = looks s w e.core e.legal.1.1 (nat_eq w (state_word FreeTag)) refl (ap (λ (z : Known). z.failed) e.learned_is)
        go (Lock Anchor found) e leaves = locks_anchor e.core found e.core.anchor (ap (λ (z : Known). z.failed) e.learned_is)
        go (Lock (NodeTarget n) found) e leaves = locks_node e.core n found (nat_eq found (state_word Live)) (ap (λ (z : Known). z.failed) e.learned_is)
        go _ e leaves = inl (leaves tt)

  -- what had failed before a step is among what has failed after it, and was no later
  step_before : (act : Act) (a m : SeatView × G) → Steps table becomes act a m → (f : Failed) → f.step < a.0.known.steps → Contains m.0.known.failed f → Contains a.0.known.failed f
  step_before act a m step f early has = of (fails a m act step)
    where
      front : (x : Failed) (xs : List Failed) → x.step ≡ a.0.known.steps → Contains (x ∷ xs) f → Contains xs f
      front x xs now (zero, low, is) = let same : f.step ≡ x.step = ap (λ (z : Failed). z.step) (sym is) in absurd (omega (arith, same, now, early))
      front x xs now (suc i, low, is) = (i, omega arith, is)

      of : MayFail step.event.core a.0.known m.0.known → Contains a.0.known.failed f
      of (inl same) = subst (λ l. Contains l f) same has
      of (inr new) = front new.failed a.0.known.failed new.now (subst (λ l. Contains l f) new.failed_is has)

  runs_before : (acts : List Act) (a b : SeatView × G) → Runs table becomes acts a b → (f : Failed) → f.step < a.0.known.steps → Contains b.0.known.failed f → Contains a.0.known.failed f
  runs_before [] a b run f early has = subst (λ (z : SeatView × G). Contains z.0.known.failed f) run has
  runs_before (act ∷ acts) a b (m, step, rest) f early has =
      let count = (act_leaves table.layout a.0.known m.0.known act step.event).steps in
      step_before act a m step f early (runs_before acts m b rest f (omega (arith, early, count)) has)

  -- such a failed step
  abbrev missed_by : FailedAct → (word step : ℕ) → Failed
  missed_by act word step = record { act = act; location = word_of r 0; word = word; step = step }

  -- the step at which the record was found not free found it so in its core
  step_missed : (act : Act) (a m : SeatView × G) (step : Steps table becomes act a m) (miss : FailedAct) (word i : ℕ) → TellsState (Whose r) miss → a.0.known.steps ≤ i →
      Contains m.0.known.failed (missed_by miss word i) → IsTakenIn Whose r step.event.core
  step_missed act a m step miss word i told late has = of (fails a m act step)
    where
      never : Contains a.0.known.failed (missed_by miss word i) → ⊥
      never there = let early : i < a.0.known.steps = All-contains (λ (f : Failed). f.step < a.0.known.steps) a.0.known.failed (missed_by miss word i) step.event.knows.counted.failed there in omega (arith, early, late)

      front : (x : Failed) → (TellsState (Whose r) x.act → x.location ≡ word_of r 0 → IsTakenIn Whose r step.event.core) → Contains (x ∷ a.0.known.failed) (missed_by miss word i) → IsTakenIn Whose r step.event.core
      front x tells (zero, low, is) = tells (subst (TellsState (Whose r)) (ap (λ (z : Failed). z.act) (sym is)) told) (ap (λ (z : Failed). z.location) is)
      front x tells (suc i, low, is) = absurd (never (i, omega arith, is))

      of : MayFail step.event.core a.0.known m.0.known → IsTakenIn Whose r step.event.core
      of (inl same) = absurd (never (subst (λ l. Contains l (missed_by miss word i)) same has))
      of (inr new) = front new.failed new.tells (subst (λ l. Contains l (missed_by miss word i)) new.failed_is has)

  -- One of these steps found the record not free.
  pub record HasMissedIn (acts : List Act) (a b : SeatView × G) : Type 0 where
    pub before : List Act
    pub act : Act
    pub rest : List Act
    pub acts_are : acts ≡ before ++ act ∷ rest
    pub middle : SeatView × G
    pub next : SeatView × G
    pub first : Runs table becomes before a middle
    pub step : Steps table becomes act middle next
    pub last : Runs table becomes rest next b
    pub taken : IsTakenIn Whose r step.event.core

  -- a failed step that is no earlier is one of them
  pub runs_missed : (acts : List Act) (a b : SeatView × G) → Runs table becomes acts a b → All (λ (f : Failed). f.step < b.0.known.steps) b.0.known.failed → HasMissedSince Whose b.0.known.failed r a.0.known.steps → HasMissedIn acts a b
  runs_missed [] a b run early (i, late, (miss, word, told, some, has)) =
      let low : i < b.0.known.steps = All-contains (λ (f : Failed). f.step < b.0.known.steps) b.0.known.failed (missed_by miss word i) early has in
      let same = ap (λ (z : SeatView × G). z.0.known.steps) run in absurd (omega (arith, low, same, late))
  runs_missed (act ∷ acts) a b (m, step, rest) early (i, late, (miss, word, told, some, has)) = ⊎_elim
      (λ (now : i < m.0.known.steps).
      let there = runs_before acts m b rest (missed_by miss word i) now has in
      record { before = []; act = act; rest = acts; acts_are = refl; middle = a; next = m; first = refl; step = step; last = rest; taken = step_missed act a m step miss word i told late there })
      (λ (later : m.0.known.steps ≤ i).
      let more = runs_missed acts m b rest early (i, later, (miss, word, told, some, has)) in
      record { before = act ∷ more.before; act = more.act; rest = more.rest; acts_are = ap (λ l. act ∷ l) more.acts_are; middle = more.middle; next = more.next; first = (m, step, more.first); step = more.step; last = more.last; taken = more.taken })
      (cases_lt i m.0.known.steps)

-- ---- runs
-- the steps of an attempt give nothing back
of_attempt_spares : (i : Rec) (act : Act) → IsOfAttempt act → SparesRecord i act
of_attempt_spares i (GiveBack r epoch found) of = absurd of
of_attempt_spares i _ of = tt

attempt_spares : (layout : Layout) (i : Rec) (acts : List Act) → IsAttempt layout acts → All (SparesRecord i) acts
attempt_spares layout i acts are =
    subst (All (SparesRecord i)) (sym are.acts_are)
    (All-cons (SparesRecord i) (LoadEpoch are.epoch) (SetPin are.epoch ∷ are.rest) tt (All-cons (SparesRecord i) (SetPin are.epoch) are.rest tt (All-weaker IsOfAttempt (SparesRecord i) (of_attempt_spares i) are.rest are.steps.pinned)))

module _ {G : Type 0} (table : TableView) (becomes : G → Event → G → Type 0) (r : Rec) where
  -- a used record stays so
  step_used : (act : Act) (said : Known → List Note) (a m : SeatView × G) (step : StepsWith table becomes act said a m) → SparesRecord r act → IsUsed (step.event.core.fate r) → IsUsedAt table.layout m.0 r
  step_used act said a m step spares used d lone =
      let (there, is) = step_back table becomes act said a m step d lone in
      subst (λ (z : Core). IsUsed (z.fate r)) (sym is) (used_after step.event.core a.0.known.pass act step.atomic step.event.legal r spares used)

  then_used : (act : Act) (said : Known → List Note) (a m : SeatView × G) → StepsWith table becomes act said a m → SparesRecord r act → IsUsedAt table.layout a.0 r → IsUsedAt table.layout m.0 r
  then_used act said a m step spares was d lone =
      let (there, is) = step_back table becomes act said a m step d lone in step_used act said a m step spares (was step.event.core there) d lone

  pub runs_used : (acts : List Act) (a b : SeatView × G) → All (SparesRecord r) acts → Runs table becomes acts a b → IsUsedAt table.layout a.0 r → IsUsedAt table.layout b.0 r
  runs_used [] a b spares run was = subst (λ (z : SeatView × G). IsUsedAt table.layout z.0 r) (sym run) was
  runs_used (act ∷ acts) a b spares (m, step, rest) was =
      runs_used acts m b (All-tail (SparesRecord r) act acts spares) rest (then_used act silent a m step (All-head (SparesRecord r) act acts spares) was)

  -- and through an attempt
  pub attempt_used : {said : Known → List Note} (a b : SeatView × G) → HasEnded table becomes (IsAttempt table.layout) said a b → IsUsedAt table.layout a.0 r → IsUsedAt table.layout b.0 r
  attempt_used {said = said} a b (acts, are, (m, run, last)) was = then_used ClearPin said m b last tt (runs_used acts a m (attempt_spares table.layout r acts are) run was)

  -- so what an attempt has found not free, and not its pass's
  pub attempt_missed : (Whose : Rec → Option ℕ → Type 0) → ((p : ℕ) → p < table.layout.passes → Whose r (Some p) → ⊥) → {said : Known → List Note} (a b : SeatView × G) → HasEnded table becomes (IsAttempt table.layout) said a b →
      HasMissedSince Whose b.0.known.failed r a.0.known.steps → IsUsedAt table.layout b.0 r
  attempt_missed Whose none {said = said} a b (acts, are, (m, run, last)) missed =
      let same : b.0.known.failed ≡ m.0.known.failed = ap (λ (z : Known). z.failed) last.event.learned_is in
      let at = runs_missed table becomes Whose r acts a m run last.event.knows.counted.failed (subst (λ l. HasMissedSince Whose l r a.0.known.steps) same missed) in
      let spares = All-behind (SparesRecord r) at.before (at.act ∷ at.rest) (subst (All (SparesRecord r)) at.acts_are (attempt_spares table.layout r acts are)) in
      let event = at.step.event in
      let used = taken_used Whose r event.core event.lawful (subst (λ (l : Layout). (p : ℕ) → p < l.passes → Whose r (Some p) → ⊥) (sym event.layout_is) none) at.taken in
      then_used ClearPin said m b last tt
      (runs_used at.rest at.next m (All-tail (SparesRecord r) at.act at.rest spares) at.last (step_used at.act silent at.middle at.next at.step (All-head (SparesRecord r) at.act at.rest spares) used))

-- ---- rounds that give none back
advance_spares : (i : Rec) (epoch found : ℕ) → All (SparesRecord i) (advance_steps epoch found)
advance_spares i epoch found = of (nat_lt (epoch + 1) EPOCHS)
  where
    of : (t : Bool) → All (SparesRecord i) (if t then Advance epoch found ∷ [] else [])
    of true = All-cons (SparesRecord i) (Advance epoch found) [] tt (All-nil (SparesRecord i))
    of false = All-nil (SparesRecord i)

in_turn_spares : (i : Rec) (Parts : ℕ → List Act → Type 0) → ((n : ℕ) (acts : List Act) → Parts n acts → All (SparesRecord i) acts) → (n : ℕ) (acts : List Act) → InTurn Parts n acts → All (SparesRecord i) acts
in_turn_spares i Parts each zero acts none = subst (All (SparesRecord i)) (sym none) (All-nil (SparesRecord i))
in_turn_spares i Parts each (suc n) acts (before, last, first, second, is) =
    subst (All (SparesRecord i)) (sym is) (All-append (SparesRecord i) before last (in_turn_spares i Parts each n before first) (each n last second))

pin_spares : (i : Rec) (n : ℕ) (acts : List Act) → LoadsPin n acts → All (SparesRecord i) acts
pin_spares i n acts (word, is) = subst (All (SparesRecord i)) (sym is) (All-cons (SparesRecord i) (LoadPin n word) [] tt (All-nil (SparesRecord i)))

-- a visit of another record
visit_spares : (i r : Rec) (bound : ℕ) (acts : List Act) → same_rec i r ≡ false → Visits bound r acts → All (SparesRecord i) acts
visit_spares i r bound _ apart (Visits.passes word waits) = All-cons (SparesRecord i) (LoadState r word) [] tt (All-nil (SparesRecord i))
visit_spares i r bound _ apart (Visits.tries epoch found low below) =
    All-cons (SparesRecord i) (LoadState r (state_word (Obsolete epoch))) (GiveBack r epoch found ∷ []) tt (All-cons (SparesRecord i) (GiveBack r epoch found) [] (inl apart) (All-nil (SparesRecord i)))

committed_spares : (i r : Rec) (layout : Layout) (uncommitted : ℕ → ℕ) (bound : ℕ) (acts : List Act) → same_rec i r ≡ false → VisitsCommitted layout uncommitted bound r acts → All (SparesRecord i) acts
committed_spares i r layout uncommitted bound acts apart = visit_or_none (All (SparesRecord i)) layout uncommitted bound r acts (All-nil (SparesRecord i)) (visit_spares i r bound acts apart)

-- steps that give none back
none_given : (i : Rec) (acts : List Act) → count_by has_given acts ≡ 0 → All (SparesRecord i) acts
none_given i [] none = All-nil (SparesRecord i)
none_given i (act ∷ acts) none =
    let parts : count_by has_given (act ∷ acts) ≡ count_by has_given (act ∷ []) + count_by has_given acts = sum_by-append (λ x. if has_given x then 1 else 0) (act ∷ []) acts in
    All-cons (SparesRecord i) act acts (of act (has_given act) refl (omega (arith, parts, none))) (none_given i acts (omega (arith, parts, none)))
  where
    of : (x : Act) (t : Bool) → has_given x ≡ t → count_by has_given (x ∷ []) ≡ 0 → SparesRecord i x
    of (GiveBack r epoch found) false e nought = inr e
    of (GiveBack r epoch found) true e nought =
        let one : 0 + (if has_given (GiveBack r epoch found) then 1 else 0) ≡ 0 = nought in
        let two : 0 + (if true then 1 else 0) ≡ 0 = subst (λ (t : Bool). 0 + (if t then 1 else 0) ≡ 0) e one in absurd (omega (arith, two))
    of _ t e nought = tt

-- the steps with which a round begins
begin_spares : (i : Rec) (epoch found next n : ℕ) (pins : List Act) → InTurn LoadsPin n pins → All (SparesRecord i) ((LoadEpoch epoch ∷ advance_steps epoch found) ++ LoadEpoch next ∷ pins)
begin_spares i epoch found next n pins loads =
    All-append (SparesRecord i) (LoadEpoch epoch ∷ advance_steps epoch found) (LoadEpoch next ∷ pins) (All-cons (SparesRecord i) (LoadEpoch epoch) (advance_steps epoch found) tt (advance_spares i epoch found))
    (All-cons (SparesRecord i) (LoadEpoch next) pins tt (in_turn_spares i LoadsPin (pin_spares i) n pins loads))

module _ {G : Type 0} (table : TableView) (becomes : G → Event → G → Type 0) (one : table.layout.passes ≡ 1) (a b : SeatView × G) where
  -- what is used stays so after a round that gives none of its kind back
  round_used : (i : Rec) {given_nodes given_leaves : ℕ} (r : IsRound table becomes a b given_nodes given_leaves) → All (SparesRecord i) r.nodes → All (SparesRecord i) r.leaves → IsUsedAt table.layout a.0 i → IsUsedAt table.layout b.0 i
  round_used i r nodes leaves was =
      let front = (LoadEpoch r.epoch ∷ advance_steps r.epoch r.found) ++ LoadEpoch r.next ∷ r.pins in
      runs_used table becomes i ((front ++ r.nodes) ++ r.leaves) a b
      (All-append (SparesRecord i) (front ++ r.nodes) r.leaves (All-append (SparesRecord i) front r.nodes (begin_spares i r.epoch r.found r.next table.layout.passes r.pins r.loads_pins) nodes) leaves) r.does.steps was

  pub none_used_node : (n : ℕ) → CollectsNone table becomes Nodes a b → IsUsedAt table.layout a.0 (a_node n) → IsUsedAt table.layout b.0 (a_node n)
  none_used_node n (inl (nodes, leaves, r, none)) was =
      let i = a_node n in let bound = b.0.known.round.bound in
      round_used i r (none_given i r.nodes (sym r.nodes_given ∙ none)) (in_turn_spares i (λ m. VisitsCommitted table.layout r.uncommitted bound (a_leaf m)) (λ m acts. committed_spares i (a_leaf m) table.layout r.uncommitted bound acts refl) table.layout.leaves r.leaves r.visits_leaves) was
  none_used_node n (inr (several, r)) was = absurd (omega (arith, several, one))

  pub none_used_leaf : (n : ℕ) → CollectsNone table becomes Leaves a b → IsUsedAt table.layout a.0 (a_leaf n) → IsUsedAt table.layout b.0 (a_leaf n)
  none_used_leaf n (inl (nodes, leaves, r, none)) was =
      let i = a_leaf n in let bound = b.0.known.round.bound in
      round_used i r (in_turn_spares i (λ m. VisitsCommitted table.layout r.uncommitted bound (a_node m)) (λ m acts. committed_spares i (a_node m) table.layout r.uncommitted bound acts refl) table.layout.nodes r.nodes r.visits_nodes) (none_given i r.leaves (sym r.leaves_given ∙ none)) was
  none_used_leaf n (inr (several, r)) was = absurd (omega (arith, several, one))
