-- In a table with one pass: steps of a change leave a spare node record, and what is free, and a walk finds what is free.
use Rattle.rowex_writing.proofs.Common.{◌≡◌, ◌≢◌, ℕ, zero, suc, ◌<◌, ◌≤◌, List, [], ◌∷◌, ◌++◌, Option, Some, inl, inr, ⊎_elim, refl, sym, ap, subst, ◌∙◌, arith, map, ◌-◌, drop, get_or, length, Result, Ok, Err, All, Contains, slice_get, slice_range, cases_lt, All-cons, All-weaker, slice_get-get_or, PathNode, Layout, Fate, Free, InTree, Unlinked, Marked, IsOneOf, Rec, a_node, a_leaf, all_of, map_of, of_left, of_map, Act, Claim, LoadRef, LoadState, Publish, Load, Event, Spot, Root, Target, HeldBy, ReadyBy, Owned, Core, HasRecord, after, claimed, IsUnlinked, OwnsJust, lock_of, tag_of, state_word, Made, held_as, recs_of, InTurn, Runs, Steps, silent, SeatView, TableView, KeepsRecall, led_more, IsBelowRoot, Looks, Reads, FindsFree, FindsNone, Misses, MissesOne, begin_of, wrapped, begins_low, turned_to, look_free, one_of, runs_free, runs_out, runs_spare, step_back}
use Rattle.std.specs.Prelude.{IfOk}
use Rattle.rowex_table.specs.Seats.{HasFoundBounds}
use Rattle.versions.specs.Core.{Held, Ready}
use Rattle.rowex_core.specs.Opening.{opening}
use Rattle.rowex_core.specs.Runs.{EventsLead}
use Rattle.publish_laws.specs.Lone.{HasFree, HasRoom, HasSpare, IsFreeAt, IsLone, LeavesTree, KeepsSpare}
use Rattle.publish_laws.proofs.Lone.Published.{gone_out, publish_free, publish_spare}
use Rattle.rowex_writing.specs.build.Building.{IsBuilding}
use Rattle.rowex_writing.specs.build.Deeds.{gone_of_span, leaf_gone}
use Rattle.rowex_writing.specs.locks.Going.{IsStepUnderLocks, WorksOn}
use Rattle.rowex_writing.specs.locks.Locks.{LoadsNoRoot, Tries}
use Rattle.rowex_writing.specs.build.Taking.{no_step}
use Rattle.rowex_writing.specs.build.Putting.{AreInTable}
use Rattle.rowex_writing.specs.build.Spare.{WillSpare, WillSpareOne, by_free, by_gone, by_kept}
use Rattle.rowex_writing.specs.build.Walks.{nodes_among}
use Rattle.rowex_writing.specs.declared.plan.job.Job.{Job}
use Rattle.rowex_writing.specs.declared.plan.job.Raised.{Raised}
use Rattle.rowex_writing.specs.declared.plan.Full.{Full}
use Rattle.rowex_writing.specs.declared.plan.Span.{Span}
use Rattle.rowex_writing.proofs.locks.Checks.{drop_has, take_has}
use Rattle.rowex_writing.proofs.build.Changes.{reversed_has}
use Rattle.rowex_writing.proofs.locks.Runs.{plain_recalls, quiet_recalls}

-- what is free is so, whatever the pass has found uncommitted
pub found_free : (layout : Layout) (s t : SeatView) (n : ℕ) → HasFoundBounds s t → IsFreeAt layout s n → IsFreeAt layout t n
found_free layout s t n found free =
    λ core lone. free core (record { passes = lone.passes; led = subst (λ l. EventsLead (opening layout) l core) (ap (λ (z : SeatView). z.trace) found.1) lone.led })

-- ---- kinds of steps
recalls_unpublished : (act : Act) → KeepsRecall act → LeavesTree act
recalls_unpublished (Publish spot w) t = absurd t
recalls_unpublished (Load words) t = absurd t
recalls_unpublished _ t = tt

below_unpublished : (act : Act) → IsBelowRoot act → LeavesTree act
below_unpublished (Publish spot w) t = absurd t
below_unpublished (Load words) t = absurd t
below_unpublished _ t = tt

goes_plain : (acts : List Act) → All IsStepUnderLocks acts → All LeavesTree acts
goes_plain acts plain = All-weaker IsStepUnderLocks LeavesTree (λ act t. recalls_unpublished act (quiet_recalls act t)) acts plain

works_plain : (acts : List Act) → All LoadsNoRoot acts → All LeavesTree acts
works_plain acts plain = All-weaker LoadsNoRoot LeavesTree (λ act t. recalls_unpublished act (plain_recalls act t)) acts plain

pub reads_plain : (acts : List Act) → All IsBelowRoot acts → All LeavesTree acts
reads_plain acts plain = All-weaker IsBelowRoot LeavesTree below_unpublished acts plain

-- ---- what stays
module _ {G : Type 0} (table : TableView) (becomes : G → Event → G → Type 0) where
  pub goes_spare : (a b : SeatView × G) → WorksOn table becomes a b → KeepsSpare table.layout a.0 b.0
  goes_spare a b goes = runs_spare table becomes goes.acts a b (goes_plain goes.acts goes.plain) goes.steps

  pub works_spare : {tried : List Target} (a b : SeatView × G) → Tries table becomes tried a b → KeepsSpare table.layout a.0 b.0
  works_spare a b works = runs_spare table becomes works.acts a b (works_plain works.acts works.each) works.steps

  pub reads_spare : {entries n : ℕ} (a b : SeatView × G) → Reads table becomes entries n a b → KeepsSpare table.layout a.0 b.0
  reads_spare a b reads = runs_spare table becomes reads.acts a b (reads_plain reads.acts reads.below) reads.steps

  looks_plain : (w : ℕ) (acts : List Act) → All IsBelowRoot acts → All LeavesTree (LoadRef Root w ∷ acts)
  looks_plain w acts below = All-cons LeavesTree (LoadRef Root w) acts tt (reads_plain acts below)

  pub looks_spare : {entries n : ℕ} (a b : SeatView × G) → Looks table becomes entries n a b → KeepsSpare table.layout a.0 b.0
  looks_spare a b looks = runs_spare table becomes (LoadRef Root looks.root.0 ∷ looks.rest.acts) a b (looks_plain looks.root.0 looks.rest.acts looks.rest.below) (looks.at, looks.root.1, looks.rest.steps)

  pub act_spare : (act : Act) (a b : SeatView × G) → LeavesTree act → Steps table becomes act a b → KeepsSpare table.layout a.0 b.0
  act_spare act a b plain step = runs_spare table becomes (act ∷ []) a b (one plain) (b, step, refl)
    where
      one : LeavesTree act → All LeavesTree (act ∷ [])
      one plain zero d low = plain
      one plain (suc i) d low = absurd (omega arith)

  -- what is free, if the pass has no record
  pub goes_free : (n : ℕ) (a b : SeatView × G) → WorksOn table becomes a b → b.0.known.own ≡ [] → IsFreeAt table.layout a.0 n → IsFreeAt table.layout b.0 n
  goes_free n a b goes none free = runs_free table becomes goes.acts a b n (goes_plain goes.acts goes.plain) goes.steps (λ o has is. absurd (subst (IsOneOf o) none has)) free

  runs_room : (acts : List Act) (a b : SeatView × G) → All LeavesTree acts → Runs table becomes acts a b → b.0.known.own ≡ [] → HasRoom table.layout a.0 → HasRoom table.layout b.0
  runs_room acts a b plain run none (one, (n, low, free)) = (one, (n, low, runs_free table becomes acts a b n plain run (λ o has is. absurd (subst (IsOneOf o) none has)) free))

  pub goes_room : (a b : SeatView × G) → WorksOn table becomes a b → b.0.known.own ≡ [] → HasRoom table.layout a.0 → HasRoom table.layout b.0
  goes_room a b goes none room = runs_room goes.acts a b (goes_plain goes.acts goes.plain) goes.steps none room

  pub works_room : {tried : List Target} (a b : SeatView × G) → Tries table becomes tried a b → b.0.known.own ≡ [] → HasRoom table.layout a.0 → HasRoom table.layout b.0
  works_room a b works none room = runs_room works.acts a b (works_plain works.acts works.each) works.steps none room

  pub reads_room : {entries n : ℕ} (a b : SeatView × G) → Reads table becomes entries n a b → b.0.known.own ≡ [] → HasRoom table.layout a.0 → HasRoom table.layout b.0
  reads_room a b reads none room = runs_room reads.acts a b (reads_plain reads.acts reads.below) reads.steps none room

  pub looks_room : {entries n : ℕ} (a b : SeatView × G) → Looks table becomes entries n a b → b.0.known.own ≡ [] → HasRoom table.layout a.0 → HasRoom table.layout b.0
  looks_room a b looks none room = runs_room (LoadRef Root looks.root.0 ∷ looks.rest.acts) a b (looks_plain looks.root.0 looks.rest.acts looks.rest.below) (looks.at, looks.root.1, looks.rest.steps) none room

  -- ---- what a look finds
  pub look_finds : (n : ℕ) (a b : SeatView × G) → n < table.layout.nodes → Steps table becomes (LoadState (a_node n) 0) a b → HasFree table.layout b.0
  look_finds n a b low step = (n, low, look_free table becomes n a b step)

  pub look_found : (n w : ℕ) (a b : SeatView × G) → w ≡ 0 → Steps table becomes (LoadState (a_node n) w) a b → HasFree table.layout b.0
  look_found n w a b is step =
      let free = subst (λ z. Steps table becomes (LoadState (a_node n) z) a b) is step in
      look_finds n a b (subst (λ (l : Layout). n < l.nodes) free.event.layout_is free.event.legal.1.0) free

  pub free_found : (end from m number : ℕ) (a b : SeatView × G) → FindsFree table becomes a_node end from m number a b → HasFree table.layout b.0
  free_found end from m number a b found =
      look_finds number found.before b (subst (λ (l : Layout). number < l.nodes) found.free.event.layout_is found.free.event.legal.1.0) found.free

  -- ---- a store
  node_among : (n : ℕ) (made : List Rec) → IsOneOf (a_node n) made → nodes_among made ≡ [] → ⊥
  node_among n [] h none = h
  node_among n (a_node m ∷ made) h none = cc
  node_among n (a_leaf m ∷ made) (inl is) none = cc
  node_among n (a_leaf m ∷ made) (inr h) none = node_among n made h none

  pub store_spares : (spot : Spot) (w : ℕ) (a m p b : SeatView × G) (made gone : List Rec) (news : List Made) → WorksOn table becomes a m → IsBuilding table a.0 made news → m.0.known.own ≡ map (held_as ReadyBy) news →
      Steps table becomes (Publish spot w) m p → OwnsJust p.0.known.own IsUnlinked gone → AreInTable table.layout gone → Tries table becomes [] p b →
      WillSpare table.layout a.0 made gone → HasSpare table.layout b.0
  store_spares spot w a m p b made gone news goes building readied step owns records works (by_free (n, low, free)) d lone =
      let ready = runs_free table becomes goes.acts a m n (goes_plain goes.acts goes.plain) goes.steps
      (λ o has is.
      let (y, at, same) = of_map (held_as ReadyBy) o news (subst (IsOneOf o) readied has) in
      (held_as HeldBy y, subst (IsOneOf (held_as HeldBy y)) (sym building.holds.0) (map_of (held_as HeldBy) y news at), ap (λ (z : Owned). z.rec) (sym same) ∙ is)) free in
      (n, low, runs_out table becomes works.acts p b n (works_plain works.acts works.each) works.steps (publish_free table becomes spot w m p step n ready) d lone)
  store_spares spot w a m p b made gone news goes building readied step owns records works (by_gone n at) d lone =
      let (o, has, is) = owns.each (a_node n) at in
      let (since, last, unlinked) = (owns.only o has).1 in
      (n, all_of (HasRecord table.layout) (a_node n) gone records at, runs_out table becomes works.acts p b n (works_plain works.acts works.each) works.steps (gone_out table becomes spot w m p step n o has is since last unlinked) d lone)
  store_spares spot w a m p b made gone news goes building readied step owns records works (by_kept was none) d lone =
      works_spare p b works
      (publish_spare table becomes spot w m p step
      (λ o has n is.
      let (y, at, same) = of_map (held_as ReadyBy) o news (subst (IsOneOf o) readied has) in
      let rec : a_node n ≡ y.rec = sym is ∙ ap (λ (z : Owned). z.rec) same in
      let listed = one_of made (a_node n) (subst (λ (z : List Rec). Contains z (a_node n)) (sym building.listed) (reversed_has (a_node n) (recs_of news) (subst (λ r. IsOneOf r (recs_of news)) (sym rec) (map_of (λ (z : Made). z.rec) y news at)))) in
      node_among n made listed none)
      (goes_spare a m goes was)) d lone

  -- a store of a value
  pub value_spares : (spot : Spot) (w : ℕ) (a p b : SeatView × G) → a.0.known.own ≡ [] → Steps table becomes (Publish spot w) a p → Tries table becomes [] p b → KeepsSpare table.layout a.0 b.0
  value_spares spot w a p b none step works was = works_spare p b works (publish_spare table becomes spot w a p step (λ o has n is. subst (IsOneOf o) none has) was)

-- ---- a walk over all node records
not_free : (lock : Option ℕ) (f : Fate) (w : ℕ) → 1 ≤ w → w ≡ state_word (tag_of lock f) → f ≢ Free
not_free lock f w some is free = (let z : w ≡ 0 = is ∙ ap (λ g. state_word (tag_of lock g)) free in omega arith)

claim_leaves : (c : Core) (q : ℕ) (r : Rec) (f : Fate) → f ≢ Free → (claimed c.shared q r f).fate ≡ c.fate
claim_leaves c q r Free busy = absurd (busy refl)
claim_leaves c q r (Held p) busy = refl
claim_leaves c q r (Ready p) busy = refl
claim_leaves c q r (InTree since) busy = refl
claim_leaves c q r (Unlinked since last p) busy = refl
claim_leaves c q r (Marked since last epoch) busy = refl

module _ {G : Type 0} (table : TableView) (becomes : G → Event → G → Type 0) where
  pub runs_split : (acts more : List Act) (a b : SeatView × G) → Runs table becomes (acts ++ more) a b → (m : SeatView × G) × Runs table becomes acts a m × Runs table becomes more m b
  runs_split [] more a b run = (a, refl, run)
  runs_split (act ∷ acts) more a b (m, step, rest) = let (o, first, second) = runs_split acts more m b rest in (o, (m, step, first), second)

  -- Back from the core behind tries that found these records not free: they weren't before them, and nothing has changed.
  record WasTaken (taken : Rec → Type 0) (a : SeatView × G) (d : Core) : Type 0 where
    core : Core
    lone : IsLone table.layout a.0 core
    same : d.fate ≡ core.fate
    none : (r : Rec) → taken r → core.fate r ≢ Free

  miss_taken : (r : Rec) (acts : List Act) (a b : SeatView × G) → Misses r acts → Runs table becomes acts a b → (d : Core) → IsLone table.layout b.0 d → WasTaken (λ s. s ≡ r) a d
  miss_taken r acts a b (word, some, inl is) run d lone =
      let (m, step, end) = subst (λ l. Runs table becomes l a b) is run in
      let (there, now) = step_back table becomes (LoadState r word) silent a m step d (subst (λ (z : SeatView × G). IsLone table.layout z.0 d) end lone) in
      record {
        core = step.event.core;
        lone = there;
        same = ap (λ (z : Core). z.fate) now;
        none = λ s at. subst (λ z. step.event.core.fate z ≢ Free) (sym at) (not_free (lock_of step.event.core r) (step.event.core.fate r) word some step.event.legal.1.1);
      }
  miss_taken r acts a b (word, some, inr is) run d lone =
      let (m, look, (i, claim, end)) = subst (λ l. Runs table becomes l a b) is run in
      let (before, now) = step_back table becomes (Claim r word) silent m i claim d (subst (λ (z : SeatView × G). IsLone table.layout z.0 d) end lone) in
      let (there, then) = step_back table becomes (LoadState r 0) silent a m look claim.event.core before in
      let c = claim.event.core in
      let busy = not_free (lock_of c r) (c.fate r) word some claim.event.legal.1.1 in
      let loaded : c.fate ≡ look.event.core.fate = ap (λ (z : Core). z.fate) then in
      record {
        core = look.event.core;
        lone = there;
        same = ap (λ (z : Core). z.fate) now ∙ (claim_leaves c m.0.known.pass r (c.fate r) busy ∙ loaded);
        none = λ s at. subst (λ z. look.event.core.fate z ≢ Free) (sym at) (subst (λ (f : Rec → Fate). f r ≢ Free) loaded busy);
      }

  none_taken : (turn : ℕ → Rec) (m : ℕ) (acts : List Act) (a b : SeatView × G) → InTurn (λ i. Misses (turn i)) m acts → Runs table becomes acts a b → (d : Core) → IsLone table.layout b.0 d →
      WasTaken (λ r. (i : ℕ) × (i < m) × (r ≡ turn i)) a d
  none_taken turn zero acts a b in_turn run d lone =
      let end = subst (λ l. Runs table becomes l a b) in_turn run in
      record { core = d; lone = subst (λ (z : SeatView × G). IsLone table.layout z.0 d) end lone; same = refl; none = λ r (i, low, is). absurd (omega arith) }
  none_taken turn (suc m) acts a b (before, last, first, misses, is) run d lone =
      let (o, one, two) = runs_split before last a b (subst (λ l. Runs table becomes l a b) is run) in
      let newest = miss_taken (turn m) last o b misses two d lone in
      let older = none_taken turn m before a o first one newest.core newest.lone in
      record {
        core = older.core;
        lone = older.lone;
        same = newest.same ∙ older.same;
        none = λ r (i, low, at). ⊎_elim (λ (under : i < m). older.none r (i, under, at))
            (λ (over : m ≤ i). (let last : i ≡ m = omega arith in subst (λ (f : Rec → Fate). f r ≢ Free) older.same (newest.none r (at ∙ ap turn last)))) (cases_lt i m);
      }

  -- after a step there is a core, where the table has one pass
  pub step_lone : (act : Act) (a b : SeatView × G) → table.layout.passes ≡ 1 → Steps table becomes act a b → (d : Core) × IsLone table.layout b.0 d
  step_lone act a b one step =
      let q = a.0.known.pass in
      let c = step.event.core in
      (after c q act, record { passes = one; led = subst (λ l. EventsLead (opening table.layout) l (after c q act)) (sym step.next.next_is) (led_more (opening table.layout) step.next.before c q act step.next.led step.event.legal) })

  pub runs_lone : (act : Act) (acts : List Act) (a b : SeatView × G) → table.layout.passes ≡ 1 → Runs table becomes (act ∷ acts) a b → (d : Core) × IsLone table.layout b.0 d
  runs_lone act [] a b one (m, step, end) = subst (λ (z : SeatView × G). (d : Core) × IsLone table.layout z.0 d) (sym end) (step_lone act a m one step)
  runs_lone act (x ∷ acts) a b one (m, step, rest) = runs_lone x acts m b one rest

  miss_lone : (r : Rec) (acts : List Act) (a b : SeatView × G) → Misses r acts → table.layout.passes ≡ 1 → Runs table becomes acts a b → (d : Core) × IsLone table.layout b.0 d
  miss_lone r acts a b (word, more, inl now) one run = runs_lone (LoadState r word) [] a b one (subst (λ l. Runs table becomes l a b) now run)
  miss_lone r acts a b (word, more, inr now) one run = runs_lone (LoadState r 0) (Claim r word ∷ []) a b one (subst (λ l. Runs table becomes l a b) now run)

  some_lone : (turn : ℕ → Rec) (m : ℕ) (acts : List Act) (a b : SeatView × G) → 0 < m → InTurn (λ i. Misses (turn i)) m acts → table.layout.passes ≡ 1 → Runs table becomes acts a b → (d : Core) × IsLone table.layout b.0 d
  some_lone turn zero acts a b some in_turn one run = absurd (omega arith)
  some_lone turn (suc m) acts a b some (before, last, first, misses, is) one run =
      let (o, _, two) = runs_split before last a b (subst (λ l. Runs table becomes l a b) is run) in miss_lone (turn m) last o b misses one two

  -- so none of those that a walk has gone over was free
  pub walk_taken : (from end m : ℕ) (a b : SeatView × G) → m ≡ end → table.layout.passes ≡ 1 → FindsNone table becomes a_node end (begin_of end from) m a b → (n : ℕ) → n < end → ¬ (IsFreeAt table.layout a.0 n)
  walk_taken from end m a b whole one finds n low free =
      let begin = begin_of end from in
      let turn : ℕ → Rec = λ i. a_node (wrapped end begin i) in
      let (i, under, at) = turned_to end begin n (begins_low end from (omega (arith, low))) low in
      let (d, lone) = some_lone turn m finds.tries a b (omega (arith, whole, low)) finds.in_turn one finds.does.steps in
      let was = none_taken turn m finds.tries a b finds.in_turn finds.does.steps d lone in
      was.none (a_node n) (i, omega (arith, whole, under), ap a_node (sym at)) (free was.core was.lone)

  -- nor one that was missed
  pub miss_none_free : (n : ℕ) (a b : SeatView × G) → table.layout.passes ≡ 1 → MissesOne table becomes (a_node n) a b → ¬ (IsFreeAt table.layout a.0 n)
  miss_none_free n a b one missed free =
      let (d, lone) = miss_lone (a_node n) missed.acts a b missed.misses one missed.does.steps in
      let was = miss_taken (a_node n) missed.acts a b missed.misses missed.does.steps d lone in
      was.none (a_node n) refl (free was.core was.lone)

-- a node of the span goes
pub gone_node : (way : List PathNode) (span : Span) (raised : Raised) → span.end < raised.low → raised.low ≤ span.len → span.len ≤ length way → (n : ℕ) × IsOneOf (a_node n) (gone_of_span way span raised)
gone_node way span raised some upto within =
    let s = get_or way span.end no_step in
    let there : slice_get way span.end ≡ Some s = slice_get-get_or way span.end no_step (omega (arith, some, upto, within)) in
    let has = take_has (drop span.end way) (raised.low - span.end) (span.end - span.end) s (omega (arith, some)) (drop_has way span.end span.end s (omega arith) there) in
    (s.number, of_left (a_node s.number) (map (λ (z : PathNode). a_node z.number) (slice_range way span.end raised.low)) (leaf_gone raised.leaf) (map_of (λ (z : PathNode). a_node z.number) s (slice_range way span.end raised.low) has))

-- so where what is raised comes in the place of a whole span that has a node
pub low_spares : (layout : Layout) (s : SeatView) (made : List Rec) (job : Job) (result : Result Raised Full) → job.span.end < job.span.len → job.span.len ≤ length job.way.now →
    IfOk result (λ raised. raised.low ≡ job.span.len) → IfOk result (WillSpareOne layout s made job)
low_spares layout s made job (Ok raised) some within low =
    let (n, at) = gone_node job.way.now job.span raised (omega (arith, some, low)) (omega (arith, low)) within in by_gone n at
low_spares layout s made job (Err full) some within low = tt

-- and where one is free
pub free_spares : (layout : Layout) (s : SeatView) (made : List Rec) (job : Job) (result : Result Raised Full) → IfOk result (λ raised. HasFree layout s) → IfOk result (WillSpareOne layout s made job)
free_spares layout s made job (Ok raised) free = by_free free
free_spares layout s made job (Err full) free = tt

-- a list of none
pub no_list : {X : Type 0} (xs : List X) → length xs ≡ 0 → xs ≡ []
no_list [] none = refl
no_list (x ∷ xs) none = absurd (omega arith)
