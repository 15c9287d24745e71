-- Steps of a pass, one after the other: what they leave as it was, and what only grows.
use Rattle.rowex_writing.proofs.Common.{runs_same, ◌≡◌, ◌≤◌, ℕ, List, [], ◌∷◌, ◌++◌, map, refl, sym, ap, subst, ◌∙◌, arith, ◌<◌, ◌+◌, All, All-head, All-tail, All-weaker, BeginsWith, begins_itself, begins_on, begins_push, Layout, AreApart, Act, Claim, Fill, Ready, Release, LoadRef, LoadFixed, Lock, Unlock, Publish, Mark, LoadEpoch, Advance, SetPin, ClearPin, LoadPin, LoadState, GiveBack, Load, Event, Root, Slot, Value, Target, Fresh, Known, items_of, loaded_tree, next_change, IsEvent, version_of, Runs, Steps, silent, TableView, SeatView, KeepsRecall, LeavesFresh, LeavesFront, LeavesPin, act_leaves}
use Rattle.versions.specs.Told.{added_change}
use Rattle.rowex_writing.specs.plan.Planned.{HasLoadedRoot}
use Rattle.record_words.specs.Layout.{uncommitted_in}
use Rattle.rowex_table.specs.Committed.{AtMost}
use Rattle.rowex_writing.specs.locks.Going.{IsStepUnderLocks, WorksOn}
use Rattle.rowex_writing.specs.locks.Locks.{IsOfAttempt, LoadsNoRoot, Tries, TriesNodes, TriesNodesBy, TriesOnce, Works, targets_of, HasRun, HasTried, HasTriedOnce}
use Rattle.rowex_writing.proofs.locks.Tried.{once_then, then_once, no_lock_is_tried, tries_more, tries_none, tries_one}

-- ---- kinds of steps
pub plain_recalls : (act : Act) → LoadsNoRoot act → KeepsRecall act
plain_recalls (LoadRef Root w) t = absurd t
plain_recalls (GiveBack r epoch found) t = absurd t
plain_recalls _ t = t

plain_fresh : (act : Act) → LoadsNoRoot act → LeavesFresh act
plain_fresh (LoadRef Root w) t = t
plain_fresh (Load words) t = absurd t
plain_fresh _ t = tt

pub plain_of : (act : Act) → LoadsNoRoot act → IsOfAttempt act
plain_of (SetPin w) t = absurd t
plain_of ClearPin t = absurd t
plain_of (GiveBack r epoch found) t = absurd t
plain_of _ t = tt

pub quiet_of : (act : Act) → IsStepUnderLocks act → IsOfAttempt act
quiet_of (SetPin w) t = absurd t
quiet_of ClearPin t = absurd t
quiet_of (GiveBack r epoch found) t = absurd t
quiet_of _ t = tt

pub of_attempt_pin : (act : Act) → IsOfAttempt act → LeavesPin act
of_attempt_pin (SetPin w) t = absurd t
of_attempt_pin ClearPin t = absurd t
of_attempt_pin _ t = tt

pub quiet_recalls : (act : Act) → IsStepUnderLocks act → KeepsRecall act
quiet_recalls (Lock target found) t = absurd t
quiet_recalls (GiveBack r epoch found) t = absurd t
quiet_recalls _ t = t

-- ---- one step
module _ (layout : Layout) (k j : Known) where
  -- what it has seen only grows
  pub act_front : (act : Act) → IsEvent layout act silent k j → BeginsWith j.front k.front
  act_front act e = grown act (act_leaves layout k j act e).front e
    where
      same : j.front ≡ k.front → BeginsWith j.front k.front
      same is = subst (λ z. BeginsWith z k.front) (sym is) (begins_itself k.front)

      seen : (act : Act) (e : IsEvent layout act silent k j) → j.front ≡ e.core.changes → BeginsWith j.front k.front
      seen act e is = let f = e.knows.seen.front in (f.0, is ∙ f.1)

      grown : (act : Act) → (LeavesFront act → j.front ≡ k.front) → IsEvent layout act silent k j → BeginsWith j.front k.front
      grown (LoadRef Root w) is e = seen (LoadRef Root w) e (ap (λ (z : Known). z.front) e.learned_is)
      grown (LoadRef (Slot n i) w) is e = seen (LoadRef (Slot n i) w) e (ap (λ (z : Known). z.front) e.learned_is)
      grown (LoadRef (Value l) w) is e = seen (LoadRef (Value l) w) e (ap (λ (z : Known). z.front) e.learned_is)
      grown (LoadFixed r offset w) is e = seen (LoadFixed r offset w) e (ap (λ (z : Known). z.front) e.learned_is)
      grown (Publish spot w) is e =
          let f = e.knows.seen.front in let x = next_change e.core k.pass spot w in
          subst (λ z. BeginsWith z k.front) (sym (ap (λ (z : Known). z.front) e.learned_is)) (begins_on k.front e.core.changes (e.core.changes ++ x ∷ []) (f.0, f.1) (begins_push e.core.changes x))
      grown (Claim r found) is e = same (is tt)
      grown (Fill r offset w) is e = same (is tt)
      grown (Ready r) is e = same (is tt)
      grown (Release r) is e = same (is tt)
      grown (Lock target found) is e = same (is tt)
      grown (Unlock target) is e = same (is tt)
      grown (Mark r epoch) is e = same (is tt)
      grown (LoadEpoch w) is e = same (is tt)
      grown (Advance expected found) is e = same (is tt)
      grown (SetPin w) is e = same (is tt)
      grown ClearPin is e = same (is tt)
      grown (LoadPin o w) is e = same (is tt)
      grown (LoadState r w) is e = same (is tt)
      grown (GiveBack r epoch found) is e = same (is tt)
      grown (Load words) is e =
          let f = e.knows.seen.front in let more = map (added_change k.pass) (items_of (loaded_tree e.core.layout words.now)) in
          subst (λ z. BeginsWith z k.front) (sym (ap (λ (z : Known). z.front) e.learned_is)) (begins_on k.front e.core.changes (e.core.changes ++ more) (f.0, f.1) (more, refl))

  -- the root was loaded since, and what was seen then is what is known of it
  module _ (first : Known) (h : HasLoadedRoot first k) where
    pub act_loaded : (act : Act) → IsEvent layout act silent k j → HasLoadedRoot first j
    act_loaded act e = loaded act (act_leaves layout k j act e).fresh e
      where
        next : (act : Act) → IsEvent layout act silent k j → j.steps ≡ k.steps + 1
        next act e = (act_leaves layout k j act e).steps

        same : (act : Act) → IsEvent layout act silent k j → j.fresh ≡ k.fresh → HasLoadedRoot first j
        same act e is = record {
          from = subst (λ (z : Fresh). first.steps ≤ z.step) (sym is) h.from;
          upto = subst (λ (z : Fresh). z.step < j.steps) (sym is) (omega (arith, h.upto, next act e));
          old = subst (λ (z : Fresh). BeginsWith z.front first.front) (sym is) h.old;
          new = subst (λ (z : Fresh). BeginsWith j.front z.front) (sym is) (begins_on k.fresh.front k.front j.front h.new (act_front act e));
        }

        loaded : (act : Act) → (LeavesFresh act → j.fresh ≡ k.fresh) → IsEvent layout act silent k j → HasLoadedRoot first j
        loaded (LoadRef Root w) is e =
            let now : j.fresh ≡ record { front = e.core.changes; step = k.steps; pinned = version_of k.pin } = ap (λ (z : Known). z.fresh) e.learned_is in
            let seen : j.front ≡ e.core.changes = ap (λ (z : Known). z.front) e.learned_is in
            let f = e.knows.seen.front in
            record {
              from = subst (λ (z : Fresh). first.steps ≤ z.step) (sym now) (omega (arith, h.from, h.upto));
              upto = subst (λ (z : Fresh). z.step < j.steps) (sym now) (omega (arith, next (LoadRef Root w) e));
              old = subst (λ (z : Fresh). BeginsWith z.front first.front) (sym now) (begins_on first.front k.front e.core.changes (begins_on first.front k.fresh.front k.front h.old h.new) (f.0, f.1));
              new = subst (λ (z : Fresh). BeginsWith j.front z.front) (sym now) (subst (λ z. BeginsWith z e.core.changes) (sym seen) (begins_itself e.core.changes));
            }
        loaded (LoadRef (Slot n i) w) is e = same (LoadRef (Slot n i) w) e (is tt)
        loaded (LoadRef (Value l) w) is e = same (LoadRef (Value l) w) e (is tt)
        loaded (LoadFixed r offset w) is e = same (LoadFixed r offset w) e (is tt)
        loaded (Publish spot w) is e = same (Publish spot w) e (is tt)
        loaded (Claim r found) is e = same (Claim r found) e (is tt)
        loaded (Fill r offset w) is e = same (Fill r offset w) e (is tt)
        loaded (Ready r) is e = same (Ready r) e (is tt)
        loaded (Release r) is e = same (Release r) e (is tt)
        loaded (Lock target found) is e = same (Lock target found) e (is tt)
        loaded (Unlock target) is e = same (Unlock target) e (is tt)
        loaded (Mark r epoch) is e = same (Mark r epoch) e (is tt)
        loaded (LoadEpoch w) is e = same (LoadEpoch w) e (is tt)
        loaded (Advance expected found) is e = same (Advance expected found) e (is tt)
        loaded (SetPin w) is e = same (SetPin w) e (is tt)
        loaded ClearPin is e = same ClearPin e (is tt)
        loaded (LoadPin o w) is e = same (LoadPin o w) e (is tt)
        loaded (LoadState r w) is e = same (LoadState r w) e (is tt)
        loaded (GiveBack r epoch found) is e = same (GiveBack r epoch found) e (is tt)
        loaded (Load words) is e =
            let more = map (added_change k.pass) (items_of (loaded_tree e.core.layout words.now)) in
            let now : j.fresh ≡ record { front = e.core.changes; step = k.steps; pinned = version_of k.pin } = ap (λ (z : Known). z.fresh) e.learned_is in
            let seen : j.front ≡ e.core.changes ++ more = ap (λ (z : Known). z.front) e.learned_is in
            let f = e.knows.seen.front in
            record {
              from = subst (λ (z : Fresh). first.steps ≤ z.step) (sym now) (omega (arith, h.from, h.upto));
              upto = subst (λ (z : Fresh). z.step < j.steps) (sym now) (omega (arith, next (Load words) e));
              old = subst (λ (z : Fresh). BeginsWith z.front first.front) (sym now) (begins_on first.front k.front e.core.changes (begins_on first.front k.fresh.front k.front h.old h.new) (f.0, f.1));
              new = subst (λ (z : Fresh). BeginsWith j.front z.front) (sym now) (subst (λ z. BeginsWith z e.core.changes) (sym seen) (more, refl));
            }

-- ---- many
module _ {G : Type 0} (table : TableView) (becomes : G → Event → G → Type 0) where
  pub runs_count : (acts : List Act) (a b : SeatView × G) → Runs table becomes acts a b → a.0.known.steps ≤ b.0.known.steps
  runs_count [] a b e = let z : b.0.known.steps ≡ a.0.known.steps = ap (λ (z : SeatView × G). z.0.known.steps) e in omega arith
  runs_count (act ∷ acts) a b (m, s, more) =
      let one = (act_leaves table.layout a.0.known m.0.known act s.event).steps in let rest = runs_count acts m b more in omega (arith, one, rest)

  -- the last load of the root is the same, where none is one
  pub runs_fresh : (acts : List Act) (a b : SeatView × G) → All LeavesFresh acts → Runs table becomes acts a b → b.0.known.fresh ≡ a.0.known.fresh
  runs_fresh [] a b leaves e = ap (λ (z : SeatView × G). z.0.known.fresh) e
  runs_fresh (act ∷ acts) a b leaves (m, s, more) =
      runs_fresh acts m b (All-tail LeavesFresh act acts leaves) more ∙ (act_leaves table.layout a.0.known m.0.known act s.event).fresh (All-head LeavesFresh act acts leaves)

  -- ---- as runs of a call
  pub run_none : (a : SeatView × G) → HasRun table becomes a a
  run_none a = tries_none table becomes a

  pub run_one : (act : Act) (a b : SeatView × G) → IsOfAttempt act → Steps table becomes act a b → HasTried table becomes (targets_of (act ∷ [])) a b
  run_one act a b leaves s = tries_one table becomes act a b leaves s

  pub runs_trans : (a m b : SeatView × G) → HasRun table becomes a m → HasRun table becomes m b → HasRun table becomes a b
  runs_trans a m b first second = tries_more table becomes {s = []} {t = []} a m b first second

  -- each lock is tried once at most, where none is tried after it or before
  pub once_run : {locks : ℕ} (a m b : SeatView × G) → HasTriedOnce table becomes locks a m → HasRun table becomes m b → HasTriedOnce table becomes locks a b
  once_run a m b first second = once_then table becomes a m b first second

  pub run_once : {locks : ℕ} (a m b : SeatView × G) → HasRun table becomes a m → HasTriedOnce table becomes locks m b → HasTriedOnce table becomes locks a b
  run_once a m b first second = then_once table becomes a m b first second

  pub none_once : (a b : SeatView × G) → HasRun table becomes a b → HasTriedOnce table becomes 0 a b
  none_once a b r = ([], r, subst AreApart (sym r.tried_are) tt, refl)

  pub works_run : {tried : List Target} (a b : SeatView × G) → Tries table becomes tried a b → HasTried table becomes tried a b
  works_run a b w = record { acts = w.acts; each = All-weaker LoadsNoRoot IsOfAttempt plain_of w.acts w.each; tried_are = w.tried_are; steps = w.steps }

  pub tries_once : {locks : ℕ} (a b : SeatView × G) → TriesOnce table becomes locks a b → HasTriedOnce table becomes locks a b
  unfolding works_run
  tries_once a b (tried, run, once, count) = (tried, works_run a b run, once, count)

  pub nodes_run : (nodes : List ℕ) (a b : SeatView × G) → TriesNodes table becomes nodes a b → TriesNodesBy IsOfAttempt table becomes nodes a b
  unfolding works_run
  nodes_run nodes a b h = record { tried = h.tried; run = works_run a b h.run; once = h.once; count = h.count; among = h.among }

  pub goes_run : (a b : SeatView × G) → WorksOn table becomes a b → HasRun table becomes a b
  goes_run a b w = record { acts = w.acts; each = All-weaker IsStepUnderLocks IsOfAttempt quiet_of w.acts w.plain; tried_are = no_lock_is_tried w.acts w.plain; steps = w.steps }

  -- what they leave
  pub works_fresh : (a b : SeatView × G) → Works table becomes a b → b.0.known.fresh ≡ a.0.known.fresh
  works_fresh a b w = runs_fresh w.acts a b (All-weaker LoadsNoRoot LeavesFresh plain_fresh w.acts w.each) w.steps

  pub run_count : {tried : List Target} (a b : SeatView × G) → HasTried table becomes tried a b → a.0.known.steps ≤ b.0.known.steps
  run_count a b r = runs_count r.acts a b r.steps

  -- no more is uncommitted than before
  pub run_bounds : {tried : List Target} (a b : SeatView × G) → HasTried table becomes tried a b → AtMost (uncommitted_in b.0.bounds) (uncommitted_in a.0.bounds)
  run_bounds a b r = (runs_same table becomes r.acts a b r.steps).4

  -- a load of the root by which the call goes is not forgotten, nor is one that comes later older
  runs_loaded : (acts : List Act) (first : Known) (a b : SeatView × G) → HasLoadedRoot first a.0.known → Runs table becomes acts a b → HasLoadedRoot first b.0.known
  runs_loaded [] first a b h e = subst (λ (z : SeatView × G). HasLoadedRoot first z.0.known) (sym e) h
  runs_loaded (act ∷ acts) first a b h (m, s, more) = runs_loaded acts first m b (act_loaded table.layout a.0.known m.0.known first h act s.event) more

  pub run_loaded : {tried : List Target} (first : Known) (a b : SeatView × G) → HasLoadedRoot first a.0.known → HasTried table becomes tried a b → HasLoadedRoot first b.0.known
  run_loaded first a b h r = runs_loaded r.acts first a b h r.steps
