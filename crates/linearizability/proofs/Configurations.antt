-- From time to time all stays sound, changes only grow, and each load of the root shows all of them.
pub mod Completing
pub mod Taught
use Rattle.linearizability.proofs.Common.{◌≡◌, ◌≢◌, ◌⊎◌, inl, inr, ℕ, Option, Some, None, zero, suc, ◌<◌, ◌≤◌, List, [], ◌∷◌, ◌++◌, refl, sym, ap, subst, ◌∙◌, arith, ⊎_elim, append_assoc, length, length-append, All, cases_eq, All-tail, Change, Note, BeginsWith, OthersGoOn, begins_itself, begins_on, Layout, Act, Known, Core, IsLawful, Legal, after, Knows, learned, keeps}
use Rattle.rowex_core.specs.declared.known.View.TheVariants.{Pass, Witness}
use Rattle.rowex_core.proofs.Knowing.{learns}
use Rattle.rowex_core.proofs.Cores.{stays_lawful}
use Rattle.linearizability.specs.Configurations.{Continues, Happening, IsCallTurn, IsConfigurationStep, IsShowing, IsSoundConfiguration, IsWholeRun, Configuration, Pending, invokes, refuses, responds, shows, steps}
use Rattle.linearizability.specs.Statements.{RunsAreEvents, RunsStaySound}
use Rattle.rowex_core.specs.declared.event.Event.{Event}
use Rattle.rowex_core.specs.Runs.{EventsLead}
use Rattle.linearizability.proofs.Configurations.Taught.{teaches}

-- Fronts

pub longer : (later front : List Change) → BeginsWith later front → length front ≤ length later
longer later front b = let e = ap length b.1 ∙ length-append front b.0 in omega arith

pub cancelled : (a xs ys : List Change) → a ++ xs ≡ a ++ ys → xs ≡ ys
cancelled [] xs ys e = e
cancelled (x ∷ a) xs ys e = cancelled a xs ys cc

pub all_behind : {X : Type 0} (P : X → Type 0) (xs ys : List X) → All P (xs ++ ys) → All P ys
all_behind P [] ys h = h
all_behind P (x ∷ xs) ys h = all_behind P xs ys (All-tail P x (xs ++ ys) h)

-- from a front between, others alone go on too
others_after : (q : ℕ) (a b c : List Change) → OthersGoOn q a c → BeginsWith b a → BeginsWith c b → OthersGoOn q b c
others_after q a b c h g m =
    let same : h.0 ≡ g.0 ++ m.0 = cancelled a h.0 (g.0 ++ m.0) (sym h.1 ∙ m.1 ∙ ap (λ z. z ++ m.0) g.1 ∙ append_assoc a g.0 m.0) in
    (m.0, m.1, all_behind (λ x. x.pass ≢ q) g.0 m.0 (subst (All (λ x. x.pass ≢ q)) same h.2))

-- What passes know

knows_noted : (c : Core) (k : Known) (notes : List Note) → Knows c k → Knows c (record k { notes = notes })
knows_noted c k notes h = record { pass = h.pass; counted = h.counted; seen = h.seen; own = h.own; values = h.values }

knows_shown : (c : Core) (k : Known) (front : List Change) → Knows c k → BeginsWith front k.front → BeginsWith c.changes front → Knows c (record k { front = front })
knows_shown c k front h g m = record {
  pass = h.pass;
  counted = h.counted;
  seen = record { front = others_after k.pass k.front front c.changes h.seen.front g m; fresh = begins_on k.fresh.front k.front front h.seen.fresh g; facts = h.seen.facts };
  own = h.own;
  values = h.values;
}

-- A step

module _ (layout : Layout) (a b : Configuration) (s : IsSoundConfiguration layout a) where
  module _ (q : ℕ) (act : Act) (notes : List Note) (x : IsConfigurationStep a b q act notes) where
    below : q < layout.passes
    below = subst (λ (z : Layout). q < z.passes) s.layout_is x.legal.0

    own_named : (b.known q).pass ≡ q
    own_named = ap (λ (z : Known). z.pass) x.own ∙ (teaches a.core act (a.known q)).0 ∙ s.named q below

    legal_own : Legal a.core (a.known q).pass act
    legal_own = subst (λ z. Legal a.core z act) (sym (s.named q below)) x.legal

    own_known : Knows b.core (b.known q)
    own_known = subst (λ z. Knows b.core z) (sym x.own)
        (knows_noted b.core (learned a.core act (a.known q)) ((a.known q).notes ++ notes)
        (subst (λ z. Knows z (learned a.core act (a.known q))) (sym x.core)
        (subst (λ z. Knows (after a.core z act) (learned a.core act (a.known q))) (s.named q below) (learns a.core (a.known q) act s.lawful (s.knows q below) legal_own))))

    other_named : (o : ℕ) → o < layout.passes → o ≢ q → (b.known o).pass ≡ o
    other_named o low ne = ap (λ (z : Known). z.pass) (x.others o ne) ∙ s.named o low

    other_known : (o : ℕ) → o < layout.passes → o ≢ q → Knows b.core (b.known o)
    other_known o low ne = subst (λ z. Knows b.core z) (sym (x.others o ne)) (subst (λ z. Knows z (a.known o)) (sym x.core)
        (keeps a.core q act (Pass (a.known o)) s.lawful x.legal (λ e. ne (sym (s.named o low) ∙ e)) (s.knows o low)))

    pub step_sound : IsSoundConfiguration layout b
    step_sound = record {
      layout_is = ap (λ (z : Core). z.layout) x.core ∙ s.layout_is;
      lawful = subst IsLawful (sym x.core) (stays_lawful a.core q act s.lawful x.legal);
      named = λ o low. ⊎_elim (λ e. subst (λ z. (b.known z).pass ≡ z) (sym e) own_named) (λ ne. other_named o low ne) (cases_eq o q);
      knows = λ o low. ⊎_elim (λ e. subst (λ z. Knows b.core (b.known z)) (sym e) own_known) (λ ne. other_known o low ne) (cases_eq o q);
    }

    pub step_grows : BeginsWith b.core.changes a.core.changes
    step_grows = subst (λ (z : Core). BeginsWith z.changes a.core.changes) (sym x.core)
        (keeps a.core q act (Witness a.core.changes) s.lawful x.legal (λ h. h) (begins_itself a.core.changes))

  module _ (q : ℕ) (front : List Change) (x : IsShowing a b q front) where
    shown_known : q < layout.passes → Knows b.core (b.known q)
    shown_known low = subst (λ z. Knows b.core z) (sym x.own)
        (subst (λ z. Knows z (record (a.known q) { front = front })) (sym x.core) (knows_shown a.core (a.known q) front (s.knows q low) x.more x.made))

    pub shown_sound : IsSoundConfiguration layout b
    shown_sound = record {
      layout_is = ap (λ (z : Core). z.layout) x.core ∙ s.layout_is;
      lawful = subst IsLawful (sym x.core) s.lawful;
      named = λ o low. ⊎_elim (λ e. subst (λ z. z < layout.passes → (b.known z).pass ≡ z) (sym e) (λ l. ap (λ (z : Known). z.pass) x.own ∙ s.named q l) low)
          (λ ne. ap (λ (z : Known). z.pass) (x.others o ne) ∙ s.named o low) (cases_eq o q);
      knows = λ o low. ⊎_elim (λ e. subst (λ z. z < layout.passes → Knows b.core (b.known z)) (sym e) shown_known low)
          (λ ne. subst (λ z. Knows b.core z) (sym (x.others o ne)) (subst (λ z. Knows z (a.known o)) (sym x.core) (s.knows o low))) (cases_eq o q);
    }

  module _ (q : ℕ) (call : Option Pending) (x : IsCallTurn layout a b q call) where
    pub turn_sound : IsSoundConfiguration layout b
    turn_sound = record {
      layout_is = ap (λ (z : Core). z.layout) x.core ∙ s.layout_is;
      lawful = subst IsLawful (sym x.core) s.lawful;
      named = λ o low. ap (λ (z : ℕ → Known). (z o).pass) x.known ∙ s.named o low;
      knows = λ o low. subst (λ (z : ℕ → Known). Knows b.core (z o)) (sym x.known) (subst (λ z. Knows z (a.known o)) (sym x.core) (s.knows o low));
    }

    pub turn_grows : BeginsWith b.core.changes a.core.changes
    turn_grows = subst (λ (z : Core). BeginsWith z.changes a.core.changes) (sym x.core) (begins_itself a.core.changes)

module _ (layout : Layout) (at : ℕ → Configuration) (t : ℕ) (s : IsSoundConfiguration layout (at t)) where
  pub next_sound : (h : Happening) → Continues layout at t h → IsSoundConfiguration layout (at (suc t))
  next_sound (steps q act notes) x = step_sound layout (at t) (at (suc t)) s q act notes x
  next_sound (shows q front) x = shown_sound layout (at t) (at (suc t)) s q front x
  next_sound (invokes q calls) x = turn_sound layout (at t) (at (suc t)) s q (Some (record { since = t; calls = calls })) x.1
  next_sound (responds q notes) x = turn_sound layout (at t) (at (suc t)) s q None x.2
  next_sound (refuses q) x = turn_sound layout (at t) (at (suc t)) s q None x.2

  pub next_grows : (h : Happening) → Continues layout at t h → BeginsWith (at (suc t)).core.changes (at t).core.changes
  next_grows (steps q act notes) x = step_grows layout (at t) (at (suc t)) s q act notes x
  next_grows (shows q front) x = subst (λ (z : Core). BeginsWith z.changes (at t).core.changes) (sym x.core) (begins_itself (at t).core.changes)
  next_grows (invokes q calls) x = turn_grows layout (at t) (at (suc t)) s q (Some (record { since = t; calls = calls })) x.1
  next_grows (responds q notes) x = turn_grows layout (at t) (at (suc t)) s q None x.2
  next_grows (refuses q) x = turn_grows layout (at t) (at (suc t)) s q None x.2

-- what a time teaches a pass of the root: nothing, or all changes
pub next_teaches : (layout : Layout) (at : ℕ → Configuration) (t : ℕ) (h : Happening) → Continues layout at t h → (o : ℕ) →
    (((at (suc t)).known o).fresh ≡ ((at t).known o).fresh) ⊎ (((at (suc t)).known o).fresh.front ≡ (at t).core.changes)
next_teaches layout at t (steps q act notes) x o = ⊎_elim
    (λ e. subst (λ z. (((at (suc t)).known z).fresh ≡ ((at t).known z).fresh) ⊎ (((at (suc t)).known z).fresh.front ≡ (at t).core.changes)) (sym e)
    (⊎_elim (λ f. inl (ap (λ (z : Known). z.fresh) x.own ∙ f)) (λ f. inr (ap (λ (z : Known). z.fresh.front) x.own ∙ f)) (teaches (at t).core act ((at t).known q)).1))
    (λ ne. inl (ap (λ (z : Known). z.fresh) (x.others o ne))) (cases_eq o q)
next_teaches layout at t (shows q front) x o = ⊎_elim
    (λ e. inl (subst (λ z. ((at (suc t)).known z).fresh ≡ ((at t).known z).fresh) (sym e) (ap (λ (z : Known). z.fresh) x.own)))
    (λ ne. inl (ap (λ (z : Known). z.fresh) (x.others o ne))) (cases_eq o q)
next_teaches layout at t (invokes q calls) x o = inl (ap (λ (z : ℕ → Known). (z o).fresh) x.1.known)
next_teaches layout at t (responds q notes) x o = inl (ap (λ (z : ℕ → Known). (z o).fresh) x.2.known)
next_teaches layout at t (refuses q) x o = inl (ap (λ (z : ℕ → Known). (z o).fresh) x.2.known)

-- Runs

pub runs_stay_sound : RunsStaySound
runs_stay_sound layout last at happens run zero low = run.new.sound
runs_stay_sound layout last at happens run (suc t) low = next_sound layout at t (runs_stay_sound layout last at happens run t (omega arith)) (happens t) (run.next t (omega arith))

-- what holds at a time, and is kept, holds at each later one
from_moment : (last : ℕ) (P : ℕ → Type 0) (s : ℕ) → P s → ((t : ℕ) → s ≤ t → t < last → P t → P (suc t)) → (t : ℕ) → s ≤ t → t ≤ last → P t
from_moment last P s h next zero low high = subst P (let e : s ≡ zero = omega arith in e) h
from_moment last P s h next (suc t) low high = ⊎_elim (λ e. subst P e h) (λ ne. next t (omega arith) (omega arith) (from_moment last P s h next t (omega arith) (omega arith))) (cases_eq s (suc t))

module _ (layout : Layout) (last : ℕ) (at : ℕ → Configuration) (happens : ℕ → Happening) (run : IsWholeRun layout last at happens) (s : ℕ) where
  -- changes stay made
  pub grown : (t : ℕ) → s ≤ t → t ≤ last → BeginsWith (at t).core.changes (at s).core.changes
  grown = from_moment last (λ t. BeginsWith (at t).core.changes (at s).core.changes) s (begins_itself (at s).core.changes)
      (λ t low high h. begins_on (at s).core.changes (at t).core.changes (at (suc t)).core.changes h
      (next_grows layout at t (runs_stay_sound layout last at happens run t (omega arith)) (happens t) (run.next t high)))

  -- a load of the root that pass q has made since then showed it all changes that had been made by then
  pub loaded_since : (q : ℕ) → q < layout.passes → (t : ℕ) → s ≤ t → t ≤ last → ((at s).known q).steps ≤ ((at t).known q).fresh.step → BeginsWith ((at t).known q).fresh.front (at s).core.changes
  loaded_since q below t low high = from_moment last Sees s first next t low high
    where
      Sees : ℕ → Type 0
      Sees t = ((at s).known q).steps ≤ ((at t).known q).fresh.step → BeginsWith ((at t).known q).fresh.front (at s).core.changes

      first : Sees s
      first h = let counted = ((runs_stay_sound layout last at happens run s (omega (arith, low, high))).knows q below).counted.loaded in absurd (omega (arith, counted, h))

      next : (t : ℕ) → s ≤ t → t < last → Sees t → Sees (suc t)
      next t from upto h = ⊎_elim
          (λ same since. subst (λ z. BeginsWith z.front (at s).core.changes) (sym same) (h (subst (λ z. ((at s).known q).steps ≤ z.step) same since)))
          (λ all since. subst (λ z. BeginsWith z (at s).core.changes) (sym all) (grown t from (omega arith)))
          (next_teaches layout at t (happens t) (run.next t upto) q)

-- Events

one_more : (c : Core) (xs : List Event) (d : Core) (q : ℕ) (act : Act) (e : Core) → EventsLead c xs d → Legal d q act → e ≡ after d q act → EventsLead c (xs ++ record { pass = q; act = act } ∷ []) e
one_more c [] d q act e h l is = (subst (λ z. Legal z q act) h l, is ∙ ap (λ z. after z q act) h)
one_more c (x ∷ xs) d q act e h l is = (h.0, one_more (after c x.pass x.act) xs d q act e h.1 l is)

events_next : (layout : Layout) (c : Core) (at : ℕ → Configuration) (t : ℕ) (h : Happening) → Continues layout at t h → (events : List Event) × EventsLead c events (at t).core →
    (events : List Event) × EventsLead c events (at (suc t)).core
events_next layout c at t (steps q act notes) x (events, h) = (events ++ record { pass = q; act = act } ∷ [], one_more c events (at t).core q act (at (suc t)).core h x.legal x.core)
events_next layout c at t (shows q front) x (events, h) = (events, subst (EventsLead c events) (sym x.core) h)
events_next layout c at t (invokes q calls) x (events, h) = (events, subst (EventsLead c events) (sym x.1.core) h)
events_next layout c at t (responds q notes) x (events, h) = (events, subst (EventsLead c events) (sym x.2.core) h)
events_next layout c at t (refuses q) x (events, h) = (events, subst (EventsLead c events) (sym x.2.core) h)

pub runs_are_events : RunsAreEvents
runs_are_events layout last at happens run zero within = ([], refl)
runs_are_events layout last at happens run (suc t) within = events_next layout (at 0).core at t (happens t) (run.next t (omega arith)) (runs_are_events layout last at happens run t (omega arith))
