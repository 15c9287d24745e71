-- What a pass's last load of the root has shown it, whatever steps were before and after.
use Rattle.rowex_table.proofs.Common.{◌≡◌, ◌⊎◌, inl, inr, ⊎_elim, ℕ, ◌+◌, ◌<◌, ◌≤◌, List, [], ◌∷◌, ◌++◌, refl, sym, ap, subst, ◌∙◌, arith, append_assoc, append-nil, le_refl, le_trans, All, All-append, All-cons, All-nil, Note, BeginsWith, Layout, Act, LoadRef, Load, Event, Root, Slot, Known, Legal, IsEvent, version_of, seen_by}
use Rattle.rowex_core.specs.declared.known.Fresh.{Fresh}
use Rattle.rowex_table.specs.Runs.{Ends, Runs, SeesAllOfRun, Steps, StepsWith, root_load, silent}
use Rattle.rowex_table.specs.Seats.{TableView, SeatView}
use Rattle.rowex_table.specs.Stays.{LeavesFresh}
use Rattle.rowex_table.specs.Traces.{RunBeginsWith, own_acts}
use Rattle.rowex_table.proofs.Made.ActsLeave.{act_fresh}
use Rattle.rowex_table.proofs.Runs.Linking.{linked_one, own_acts-append}
use Rattle.rowex_table.proofs.Onward.{begins_itself, begins_on, next_begins, others_begin}

-- one step more
step_more : (layout : Layout) (act : Act) (said : Known → List Note) (k j : Known) → IsEvent layout act said k j → j.steps ≡ k.steps + 1
step_more layout act said k j e = ap (λ (z : Known). z.steps) e.learned_is

-- the later view of a seat: the pass has made as many steps at least, and its trace goes on
pub record IsAfter (s t : SeatView) : Type 0 where
  pub pass : t.known.pass ≡ s.known.pass
  pub steps : s.known.steps ≤ t.known.steps
  pub trace : RunBeginsWith t.trace s.trace

pub after_itself : (s : SeatView) → IsAfter s s
after_itself s = record { pass = refl; steps = le_refl s.known.steps; trace = begins_itself s.trace }

pub after_trans : {s t u : SeatView} → IsAfter s t → IsAfter t u → IsAfter s u
after_trans {s} {t} {u} x y = record { pass = y.pass ∙ x.pass; steps = le_trans x.steps y.steps; trace = begins_on s.trace t.trace u.trace x.trace y.trace }

-- steps of the pass none of which loads the root: its trace goes on without such a load
pub record LoadsNone (s t : SeatView) : Type 0 where
  pub fresh : t.known.fresh ≡ s.known.fresh
  pub more : List Event
  pub trace : t.trace ≡ s.trace ++ more
  pub none : All LeavesFresh (own_acts s.known.pass more)

-- the pass's own steps in two lists, none of which loads the root
none_both : (p q : ℕ) (xs ys : List Event) → p ≡ q → All LeavesFresh (own_acts q xs) → All LeavesFresh (own_acts p ys) → All LeavesFresh (own_acts q (xs ++ ys))
none_both p q xs ys same h k = subst (All LeavesFresh) (sym (own_acts-append q xs ys))
    (All-append LeavesFresh (own_acts q xs) (own_acts q ys) h (subst (λ r. All LeavesFresh (own_acts r ys)) same k))

none_then : {s t u : SeatView} → t.known.pass ≡ s.known.pass → LoadsNone s t → LoadsNone t u → LoadsNone s u
none_then {s} {t} {u} same x y = record {
  fresh = y.fresh ∙ x.fresh;
  more = x.more ++ y.more;
  trace = y.trace ∙ (ap (λ l. l ++ y.more) x.trace ∙ append_assoc s.trace x.more y.more);
  none = none_both t.known.pass s.known.pass x.more y.more same x.none y.none;
}

-- what was loaded since an earlier version
sees_since : (layout : Layout) (k i j : SeatView) → IsAfter k i → SeesAllOfRun layout i j → SeesAllOfRun layout k j
sees_since layout k i j later x = record {
  sees = (let s = x.sees in record { core = s.core; lawful = s.lawful; layout_is = s.layout_is; at = s.at; knows = s.knows; pass = s.pass ∙ later.pass; since = le_trans later.steps s.since; until = s.until; fresh = s.fresh; all = s.all });
  run = x.run;
  led = x.led;
  since = begins_on k.trace i.trace x.run later.trace x.since;
  root = x.root;
  legal = subst (λ q. Legal x.sees.core q (LoadRef Root x.root)) later.pass x.legal;
  rest = x.rest;
  until = x.until ∙ ap (λ q. x.run ++ root_load q x.root ∷ x.rest) later.pass;
  last = subst (λ q. All LeavesFresh (own_acts q x.rest)) later.pass x.last;
}

-- and is not loaded again
sees_still : (layout : Layout) (k i j : SeatView) → i.known.pass ≡ k.known.pass → IsAfter i j → SeesAllOfRun layout k i → LoadsNone i j → SeesAllOfRun layout k j
sees_still layout k i j pass later x none = record {
  sees = (let s = x.sees in record {
    core = s.core;
    lawful = s.lawful;
    layout_is = s.layout_is;
    at = s.at;
    knows = s.knows;
    pass = s.pass;
    since = s.since;
    until = (let u = s.until in let more = later.steps in omega (arith, more));
    fresh = none.fresh ∙ s.fresh;
    all = λ o known. subst (λ (z : Fresh). BeginsWith z.front o.front) (sym none.fresh) (s.all o known);
  });
  run = x.run;
  led = x.led;
  since = x.since;
  root = x.root;
  legal = x.legal;
  rest = x.rest ++ none.more;
  until = none.trace ∙ (ap (λ l. l ++ none.more) x.until ∙ append_assoc x.run (root_load k.known.pass x.root ∷ x.rest) none.more);
  last = none_both i.known.pass k.known.pass x.rest none.more pass x.last none.none;
}

-- steps that leave what was loaded before them, or load the root
abbrev pub Shows : Layout → SeatView → SeatView → Type 0
Shows layout s t = LoadsNone s t ⊎ SeesAllOfRun layout s t

-- once loaded, whatever follows
pub sees_then : (layout : Layout) (k i j : SeatView) → IsAfter k i → IsAfter i j → SeesAllOfRun layout k i → Shows layout i j → SeesAllOfRun layout k j
sees_then layout k i j first second s shows = ⊎_elim (sees_still layout k i j first.pass second s) (sees_since layout k i j first) shows

shows_then : (layout : Layout) (k i j : SeatView) → IsAfter k i → IsAfter i j → Shows layout k i → Shows layout i j → Shows layout k j
shows_then layout k i j later more first second = ⊎_elim
    (λ (f : LoadsNone k i). ⊎_elim (λ (e : LoadsNone i j). inl (none_then later.pass f e)) (λ s. inr (sees_since layout k i j later s)) second)
    (λ s. inr (sees_then layout k i j later more s second))
    first

module _ {G : Type 0} (table : TableView) (becomes : G → Event → G → Type 0) where
  -- One step

  pub step_after : (act : Act) (said : Known → List Note) (a b : SeatView × G) → StepsWith table becomes act said a b → IsAfter a.0 b.0
  step_after act said a b step =
      let one = step_more table.layout act said a.0.known b.0.known step.event in
      record { pass = step.seat.2; steps = omega (arith, one); trace = next_begins step.next }

  -- a load of the root
  pub root_shows : (w : ℕ) (said : Known → List Note) (a b : SeatView × G) → StepsWith table becomes (LoadRef Root w) said a b → SeesAllOfRun table.layout a.0 b.0
  root_shows w said a b step =
      let k : Known = a.0.known in
      let j : Known = b.0.known in
      let e = step.event in
      let fresh : j.fresh ≡ record { front = e.core.changes; step = k.steps; pinned = version_of k.pin } = ap (λ (z : Known). z.fresh) e.learned_is in
      let more = step_more table.layout (LoadRef Root w) said k j e in
      record {
        sees = record {
          core = e.core;
          lawful = e.lawful;
          layout_is = e.layout_is;
          at = k;
          knows = e.knows;
          pass = refl;
          since = le_refl k.steps;
          until = omega (arith, more);
          fresh = fresh;
          all = λ o known. subst (λ (z : Fresh). BeginsWith z.front o.front) (sym fresh) (seen_by e.core o known);
        };
        run = step.next.before;
        led = step.next.led;
        since = others_begin k.pass a.0.trace step.next.before step.next.others;
        root = w;
        legal = e.legal;
        rest = [];
        until = step.next.next_is;
        last = All-nil LeavesFresh;
      }

  -- any other step
  step_none : (act : Act) (said : Known → List Note) (a b : SeatView × G) → StepsWith table becomes act said a b → LeavesFresh act → LoadsNone a.0 b.0
  step_none act said a b step leaves =
      let linked = linked_one table becomes act said a b step in
      record {
        fresh = act_fresh table.layout a.0.known b.0.known act said step.event leaves;
        more = linked.steps;
        trace = linked.trace;
        none = subst (All LeavesFresh) (sym linked.own) (All-cons LeavesFresh act [] leaves (All-nil LeavesFresh));
      }

  pub step_shows : (act : Act) (said : Known → List Note) (a b : SeatView × G) → StepsWith table becomes act said a b → Shows table.layout a.0 b.0
  step_shows (LoadRef Root w) said a b step = inr (root_shows w said a b step)
  step_shows (LoadRef (Slot n i) w) said a b step = inl (step_none (LoadRef (Slot n i) w) said a b step tt)
  step_shows (Load words) said a b step = absurd step.atomic
  step_shows act said a b step = inl (step_none act said a b step tt)

  -- Steps one after the other

  pub runs_after : (acts : List Act) (a b : SeatView × G) → Runs table becomes acts a b → IsAfter a.0 b.0
  runs_after [] a b run = subst (λ (z : SeatView × G). IsAfter a.0 z.0) (sym run) (after_itself a.0)
  runs_after (act ∷ acts) a b run = after_trans (step_after act silent a run.0 run.1) (runs_after acts run.0 b run.2)

  pub runs_show : (acts : List Act) (a b : SeatView × G) → Runs table becomes acts a b → Shows table.layout a.0 b.0
  runs_show [] a b run = inl (record {
    fresh = ap (λ (z : SeatView × G). z.0.known.fresh) run;
    more = [];
    trace = ap (λ (z : SeatView × G). z.0.trace) run ∙ sym (append-nil a.0.trace);
    none = All-nil LeavesFresh;
  })
  runs_show (act ∷ acts) a b run =
      shows_then table.layout a.0 run.0.0 b.0 (step_after act silent a run.0 run.1) (runs_after acts run.0 b run.2) (step_shows act silent a run.0 run.1) (runs_show acts run.0 b run.2)

  -- the root was loaded by one of these steps, and then these were made
  pub runs_see : (acts more : List Act) (w : ℕ) (a m n b : SeatView × G) → Runs table becomes acts a m → Steps table becomes (LoadRef Root w) m n → Runs table becomes more n b → SeesAllOfRun table.layout a.0 b.0
  runs_see acts more w a m n b first load rest =
      let before = runs_after acts a m first in
      let one = step_after (LoadRef Root w) silent m n load in
      sees_then table.layout a.0 n.0 b.0 (after_trans before one) (runs_after more n b rest) (sees_since table.layout a.0 m.0 n.0 before (root_shows w silent m n load)) (runs_show more n b rest)

  -- the last load of the root was before the steps to come
  counted : (acts : List Act) (act : Act) (said : Known → List Note) (a b : SeatView × G) → Ends table becomes acts act said a b → a.0.known.fresh.step < a.0.known.steps
  counted [] act said a b ends = subst (λ (z : SeatView × G). z.0.known.fresh.step < z.0.known.steps) ends.1 ends.2.event.knows.counted.loaded
  counted (x ∷ acts) act said a b ends = ends.1.1.event.knows.counted.loaded

  pub ends_show : (acts : List Act) (act : Act) (said : Known → List Note) (a b : SeatView × G) → Ends table becomes acts act said a b → Shows table.layout a.0 b.0
  ends_show acts act said a b ends =
      shows_then table.layout a.0 ends.0.0 b.0 (runs_after acts a ends.0 ends.1) (step_after act said ends.0 b ends.2) (runs_show acts a ends.0 ends.1) (step_shows act said ends.0 b ends.2)

  -- where the last load of the root is one of these steps, it has shown all
  pub ends_see : (acts : List Act) (act : Act) (said : Known → List Note) (a b : SeatView × G) → Ends table becomes acts act said a b → a.0.known.steps ≤ b.0.known.fresh.step →
      SeesAllOfRun table.layout a.0 b.0
  ends_see acts act said a b ends late =
      let old = counted acts act said a b ends in ⊎_elim
      (λ (none : LoadsNone a.0 b.0). let step = ap (λ (z : Fresh). z.step) none.fresh in absurd (omega (arith, old, late, step)))
      (λ s. s)
      (ends_show acts act said a b ends)
