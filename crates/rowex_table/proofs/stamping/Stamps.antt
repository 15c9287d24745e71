-- Stamps: how one is split from a pass, and how it is joined to another.
use Rattle.rowex_table.proofs.Common.{◌≡◌, ℕ, ◌<◌, [], List, Option, refl, sym, subst, ◌∙◌, inl, ⊎_elim, All, Me, Allows, Splits, Joins, Change, Layout, Event, Known, Core, seen_by}
use Rattle.std.proofs.Common.{Some}
use mathlib.Core.Option.{none}
use Rattle.atomic_table.specs.Table as table
use Rattle.rowex_table.specs.declared.traces.Trace.{Trace}
use Rattle.rowex_table.specs.declared.traces.TracedView.{TracedView}
use Rattle.rowex_table.specs.declared.traces.TracedView.TheVariants.{Spent, Pass, Witness, Follower}
use Rattle.rowex_table.specs.Rule.{Ruled, Following, followed, following, stamped, stamping, with_front}
use Rattle.rowex_table.proofs.Seats.{allows_view, joins_as, met_knows, shown, shown_run, splits}
use Rattle.rowex_table.proofs.Onward.{others_begin, others_none}

-- The split: the pass keeps all that it has
pub stamps : {S : Type 0} (layout : Layout) (id : ℕ) (v : TracedView) (k : Known) (t : Trace) → v ≡ Pass k t → Splits {S = S} {V = TracedView} (Ruled layout) id v (stamping v) (stamped v)
stamps {S = S} layout id v k t is = subst (λ (z : TracedView). Splits {S = S} {V = TracedView} (Ruled layout) id z (stamping z) (stamped z)) (sym is)
    (splits layout id (Pass k t) (stamping (Pass k t)) (Witness k.front t.events) (λ c run uncommitted at h. (h, (seen_by c k h.0, others_begin k.pass t.events run h.1, tt))) (λ q o. o) (λ q o. absurd o) (λ q a b. b)
    (λ q o. inl o))

-- The join
pub joins_stamp : {S : Type 0} (layout : Layout) (id other : ℕ) (v w : TracedView) (k : Known) (t : Trace) (stamp : List Change) (steps : List Event) → v ≡ Pass k t → w ≡ Witness stamp steps →
    Joins {S = S} {V = TracedView} (Ruled layout) id v other w (following v w) Spent
joins_stamp {S = S} layout id other v w k t stamp steps isv isw =
    subst (λ (z : TracedView × TracedView). Joins {S = S} {V = TracedView} (Ruled layout) id z.0 other z.1 (following z.0 z.1) Spent) (λ i. (sym isv i, sym isw i))
    (joins_as layout id other (Pass k t) (Witness stamp steps) (Follower k t stamp steps) (λ c run uncommitted a b apart. ((a.0, b.0), (a.1, b.1), a.2)) (λ q o. inl o) (λ q o. ⊎_elim (λ p. p) (λ p. absurd p) o))

pub following_me : {S : Type 0} (me a b : Me S TracedView) (k : Known) (t : Trace) (stamp : List Change) (steps : List Event) → me ≡ (following a.0 b.0, a.1) → a ≡ (Pass k t, []) → b ≡ (Witness stamp steps, []) →
    me ≡ (Follower k t stamp steps, [])
following_me {S = S} me a b k t stamp steps e is was = e ∙ (λ i. (following (is i).0 (was i).0, (is i).1))

-- The load
pub follows : {S : Type 0} (layout : Layout) (of : Option Layout) → of ≡ Some layout → (slots id i : ℕ) (me : Me S TracedView) (k : Known) (t : Trace) (stamp : List Change) (steps : List Event) → me ≡ (Follower k t stamp steps, [])
    → Allows {S = S} {V = TracedView} (Ruled layout) slots id me i (λ n. n) (followed of (table.step slots i 0 0 none) me)
follows layout of is_of slots id i me k t stamp steps is = allows_view layout of is_of slots id i me (Follower k t stamp steps) is Following (λ s r here.
    let c : Core = r.core in
    let both = (r.knows id (Follower k t stamp steps) here).0 in
    let traces = (r.knows id (Follower k t stamp steps) here).1 in (
      Pass (with_front c.changes k) (shown r.run t),
      (met_knows c k both.0, others_none k.pass r.run, (r.knows id (Follower k t stamp steps) here).2),
      (λ q o. o),
      (λ q o. o),
      (
        with_front c.changes k,
        shown r.run t,
        refl,
        (c.changes, refl, r.lawful.core.told.legal, both.0.seen.front, both.1, subst (λ (z : Layout). All (λ x. x.pass < z.passes) c.changes) r.layout_is r.lawful.makers),
        (shown_run layout s r k t traces.0, refl, refl, refl),
        traces.1,
      ),
    ))
