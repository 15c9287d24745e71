-- Another pass that stands in the way of a lock, by the run of the table.
use Rattle.rowex_writing.proofs.Common.{◌≡◌, ◌≢◌, ◌⊎◌, inl, inr, ℕ, ◌<◌, ◌≤◌, List, [], ◌∷◌, length, Option, Some, None, refl, sym, ap, subst, ◌∙◌, arith, slice_get, Change, Layout, Spans, Fate, Free, InTree, Unlinked, Marked, life_of, pin_version, IsOneOf, Node, EntryStoodSince, Act, Lock, Event, Target, Anchor, NodeTarget, Known, a_node, Core, IsPinnedSince, blocking_pass_of, maker_of, version_of, recalls, pin_is, IsLater, nodes_of, Runs, Steps, silent, TableView, SeatView, next_begins, others_begin, IsSure}
use Rattle.versions.specs.Core.{Held, Ready}
use Rattle.rowex_table.specs.Traces.{RunBeginsWith}
use Rattle.rowex_table.proofs.Onward.{begins_itself, begins_on}
use Rattle.rowex_writing.specs.locks.Locks.{HasMadeNoChange, HasMetLock, TriesBy}
use Rattle.rowex_writing.specs.locks.Others.{HoldsLock, HasMadeSince, HasMetOther, IsBlocked, IsHindered}
use Rattle.rowex_writing.proofs.locks.Locks.{anchor_taker, node_taker}

-- ---- between views that are further apart
pub met_between : (layout : Layout) (m : ℕ) (s t u v : SeatView) → t.known.pass ≡ s.known.pass → RunBeginsWith t.trace s.trace → RunBeginsWith v.trace u.trace → HasMetOther layout m t u → HasMetOther layout m s v
met_between layout m s t u v pass first last h = record {
  run = h.run;
  core = h.core;
  led = h.led;
  since = begins_on s.trace t.trace h.run first h.since;
  until = begins_on h.run u.trace v.trace h.until last;
  by = h.by;
  another = subst (λ q. h.by ≢ q) pass h.another;
  below = h.below;
  is = h.is;
}

-- and by the pin that the pass has had all along
pub met_under_pin : (layout : Layout) (s t u v : SeatView) → IsLater s.known t.known → RunBeginsWith t.trace s.trace → RunBeginsWith v.trace u.trace → HasMetOther layout (version_of t.known.pin) t u → HasMetOther layout (version_of s.known.pin) s v
met_under_pin layout s t u v later first last h = met_between layout (version_of s.known.pin) s t u v later.pass first last (subst (λ p. HasMetOther layout (version_of p) t u) later.pin h)

pub hindered_later : (layout : Layout) (s t u : SeatView) → IsLater s.known t.known → RunBeginsWith t.trace s.trace → IsHindered layout t u → IsHindered layout s u
hindered_later layout s t u later first (inl met) = inl (met_under_pin layout s t u u later first (begins_itself u.trace) met)
hindered_later layout s t u later first (inr seen) = inr (subst (λ p. version_of p < length u.known.front) later.pin seen)

pub seen_since : (layout : Layout) (s t : SeatView) (m : ℕ) → IsPinnedSince s.known m → m < length t.known.front → IsHindered layout s t
seen_since layout s t m (p, pinned, early) low = inr (let version = ap version_of pinned in omega (arith, early, low, version))

-- a lock that was refused, or a change that the pass has seen
pub met_or_moved : (layout : Layout) (s t : SeatView) (m : ℕ) → IsBlocked layout s t ⊎ (m < length t.known.front) → HasMetLock layout s.known t.known ⊎ (m < length t.known.front)
met_or_moved layout s t m (inl blocked) = inl blocked.0
met_or_moved layout s t m (inr moved) = inr moved

pub blocked_hindered : (layout : Layout) (s t : SeatView) (m : ℕ) → IsPinnedSince s.known m → IsBlocked layout s t ⊎ (m < length t.known.front) → IsHindered layout s t
blocked_hindered layout s t m pinned (inl blocked) = inl blocked.1
blocked_hindered layout s t m pinned (inr moved) = seen_since layout s t m pinned moved

module _ {G : Type 0} (table : TableView) (becomes : G → Event → G → Type 0) where
  pub runs_begin : (acts : List Act) (a b : SeatView × G) → Runs table becomes acts a b → RunBeginsWith b.0.trace a.0.trace
  runs_begin [] a b e = subst (λ (z : SeatView × G). RunBeginsWith z.0.trace a.0.trace) (sym e) (begins_itself a.0.trace)
  runs_begin (act ∷ acts) a b (m, s, more) = begins_on a.0.trace m.0.trace b.0.trace (next_begins s.next) (runs_begin acts m b more)

  pub tried_begin : {Is : Act → Type 0} {tried : List Target} (a b : SeatView × G) → TriesBy Is table becomes tried a b → RunBeginsWith b.0.trace a.0.trace
  tried_begin a b run = runs_begin run.acts a b run.steps

-- ---- a lock that is refused
-- the pass in the way has the node's lock, or has made the change that unlinked it
in_way : (c : Core) (n by at m : ℕ) → m ≤ at → (f : Fate) → Spans c.past.now (life_of f) at → blocking_pass_of c n f ≡ Some by → HoldsLock c by ⊎ HasMadeSince c m by
in_way c n by at m low (Marked f l epoch) spans is = made (slice_get c.changes l) refl is
  where
    made : (o : Option Change) → slice_get c.changes l ≡ o → maker_of o ≡ Some by → HoldsLock c by ⊎ HasMadeSince c m by
    made None there none = absurd (cc)
    made (Some x) there some = inr (l, x, omega (arith, low, spans.1), there, (let same : x.pass ≡ by = cc in same))
in_way c n by at m low Free spans is = absurd spans
in_way c n by at m low (Held p) spans is = absurd spans
in_way c n by at m low (Ready p) spans is = absurd spans
in_way c n by at m low (InTree f) spans is = inl (inr (n, is))
in_way c n by at m low (Unlinked f l p) spans is = inl (inr (n, is))

module _ {G : Type 0} (table : TableView) (becomes : G → Event → G → Type 0) (a b : SeatView × G) where
  met_at : (target : Target) (found m by : ℕ) (step : Steps table becomes (Lock target found) a b) → by ≢ a.0.known.pass → by < step.event.core.layout.passes →
      HoldsLock step.event.core by ⊎ HasMadeSince step.event.core m by → HasMetOther table.layout m a.0 b.0
  met_at target found m by step another below is = record {
    run = step.next.before;
    core = step.event.core;
    led = step.next.led;
    since = others_begin a.0.known.pass a.0.trace step.next.before step.next.others;
    until = (record { pass = a.0.known.pass; act = Lock target found } ∷ [], step.next.next_is);
    by = by;
    another = another;
    below = subst (λ (z : Layout). by < z.passes) step.event.layout_is below;
    is = is;
  }

  pub node_blocked : (n m h found : ℕ) → IsPinnedSince a.0.known m → IsSure a.0.known (λ past. EntryStoodSince past m (Node n h)) → a.0.known.own ≡ [] → ¬ (IsOneOf n (nodes_of a.0.known.locks)) → HasMadeNoChange a.0.known →
      Steps table becomes (Lock (NodeTarget n) found) a b → found ≢ 2 → HasMetOther table.layout (version_of a.0.known.pin) a.0 b.0
  node_blocked n m h found (pin, pinned, early) sure own free quiet step ne =
      let e = step.event in
      let c = e.core in
      let k = a.0.known in
      let (at, u, lo, hi, stands, subtrie_is) = sure c e.lawful (recalls c k e.knows) in
      let spans = e.lawful.core.state.reach k.pass pin.version (ap pin_version (pin_is c k e.knows ∙ pinned)) at (omega (arith, early, lo)) hi (a_node n) u stands in
      let is = e.legal.1.1 in
      let (by, by_is, another, below) = node_taker c k e.lawful e.knows own n free pin.version at (quiet pin pinned) (omega (arith, early, lo)) (c.fate (a_node n)) refl spans (λ z. ne (is ∙ z)) in
      met_at (NodeTarget n) found (version_of k.pin) by step another below
      (in_way c n by at (version_of k.pin) (let version = ap version_of pinned in omega (arith, early, lo, version)) (c.fate (a_node n)) spans by_is)

  pub anchor_blocked : (found m : ℕ) → a.0.known.anchor ≡ None → Steps table becomes (Lock Anchor found) a b → found ≢ 2 → HasMetOther table.layout m a.0 b.0
  anchor_blocked found m free step ne =
      let e = step.event in
      let (by, by_is, another, below) = anchor_taker e.core a.0.known e.lawful e.knows free e.core.anchor refl (λ z. ne (e.legal.1 ∙ z)) in
      met_at Anchor found m by step another below (inl (inl by_is))
