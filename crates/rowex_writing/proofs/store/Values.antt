-- The value of a leaf that a search has found: loaded again under the lock of what names it, and stored.
use Rattle.rowex_writing.proofs.Common.{◌≡◌, ◌≢◌, ◌⊎◌, inl, inr, ℕ, ◌+◌, ◌<◌, ◌≤◌, List, [], ◌∷◌, length, Option, Some, None, refl, sym, ap, subst, ◌∙◌, arith, zero, suc, ◌-◌, Bool, true, false, IsSome, cases_lt, length-append, All-cons, LeafEntry, Change, BeginsWith, begins_on, PathNode, Layout, Key, leaf, Holds, holds_value, IsRead, KeepsFixedWordsSince, Past, Stands, IsOneOf, a_leaf, LoadRef, Publish, Event, Spot, Value, Fresh, Known, Locked, IsEvent, IsPinnedSince, recalls, IsLater, Made, nodes_of, HasPublished, record_number, Steps, silent, SeatView, TableView, value_loaded, act_leaves, runs_one, IsPossible, seen, IsLedTo, Sure, IsFoundAt, IsWayOf, end_of, named, RootWas, Found, Nothing, Leaf, event_later, event_possible, later_reflexive, read_stable, seen_steady, since_later, sure_later, way_later, IsAtRest, HasLoaded, still_locked, Rec, AreKept, LocksJust, map_of, led_in_table}
use Rattle.version_laws.proofs.Statements.Search.{holds_within}
use Rattle.rowex_reading.proofs.Seen.Valuing.{both_read, value_read}
use Rattle.rowex_writing.specs.store.Values.{HasLoadedFound, revalued}
use Rattle.rowex_writing.specs.build.Changes.{HasChanged}
use Rattle.rowex_writing.specs.locks.Checks.{HasTakenSpan}
use Rattle.rowex_writing.specs.plan.Counts.{held_loads}
use Rattle.rowex_writing.specs.locks.Going.{WorksOnKeepingRecords, IsStepUnderLocks}
use Rattle.rowex_writing.specs.locks.Jobs.{IsJobFrom, HoldsSpan}
use Rattle.rowex_writing.specs.declared.plan.job.Job.{Job}
use Rattle.rowex_writing.specs.declared.plan.Span.{Span}
use Rattle.rowex_writing.proofs.locks.Checks.{span_later}
use Rattle.rowex_writing.proofs.locks.Going.{seat_of}
use Rattle.rowex_writing.proofs.build.Building.{goes_possible}
use Rattle.rowex_writing.specs.build.Putting.{IsAnchored}
use Rattle.rowex_writing.specs.build.Deeds.{MayReplace}
use Rattle.rowex_writing.specs.build.Building.{IsBuilding}
use Rattle.rowex_writing.specs.declared.plan.job.Raised.{Raised}
use Rattle.rowex_writing.proofs.build.Putting.{some_spot}

-- ---- in one version a leaf has one value
one_value : (s : Past) (m n : ℕ) → KeepsFixedWordsSince s m → (key : Key) (v w : ℕ) → IsRead s m n key v → IsRead s m n key w → v ≢ w → m < s.now
one_value s m n steady key v w (o, lo, hi, st) (a, la, ha, sa) differ = go (cases_lt m s.now)
  where
    same : s.now ≤ m → v ≡ w
    same none =
        let at : a ≡ o = omega (arith, none, lo, hi, la, ha) in
        let su : Stands s o (a_leaf n) (leaf n key w) = subst (λ i. Stands s i (a_leaf n) (leaf n key w)) at sa in
        let both : Some st.tree ≡ Some su.tree = sym st.is_version ∙ su.is_version in
        let tree : st.tree ≡ su.tree = cc in
        let trie = (steady.trees o st.tree hi st.is_version).0 in
        let first = holds_value st.tree trie key v (holds_within st.within key v (refl, refl)) in
        let second = holds_value st.tree trie key w (subst (λ t. Holds t key w) (sym tree) (holds_within su.within key w (refl, refl))) in
        let values : Some v ≡ Some w = sym first ∙ second in
        cc

    go : (m < s.now) ⊎ (s.now ≤ m) → m < s.now
    go (inl more) = more
    go (inr none) = absurd (differ (same none))

-- ---- the load of the value of a leaf that was found
module _ {layout : Layout} {k j : Known} (n v w m : ℕ) (key : Key) (found : IsFoundAt k m key (Leaf n v None)) (pinned : IsPinnedSince k m) (e : IsEvent layout (LoadRef (Value n) w) silent k j) where
  later : IsLater k j
  later = event_later e tt

  was_read : Sure j (λ s. IsRead s m n key v)
  was_read = sure_later (read_stable m n key v) later (subst (λ z. Sure k (λ s. IsRead s m n z v)) (sym found.2) found.1)

  led : IsLedTo k m (LeafEntry n)
  led = (pinned, λ c law known. let (i, lo, hi, st) = found.1 c law known in (i, leaf n found.0 v, lo, hi, st, refl))

  now_read : Sure j (λ s. IsRead s m n key w)
  now_read = both_read j m n key w (since_later later pinned) (λ c law known. (v, was_read c law known)) (value_read layout k k j n w (later_reflexive k) e m led)

  -- it is found again
  pub found_now : IsFoundAt j m key (Leaf n w None)
  found_now = (key, now_read, refl)

  -- with another value it has been changed since
  pub moved_since : v ≢ w → m < length j.front
  moved_since differ =
      let possible = event_possible e in
      let c = possible.core in
      let known = recalls c j possible.knows in
      one_value (seen c j) m n (seen_steady possible.lawful known (since_later later pinned)) key v w (was_read c possible.lawful known) (now_read c possible.lawful known) differ

pub found_in_table : (layout : Layout) (k : Known) (m : ℕ) (key : Key) (n v : ℕ) → IsPossible layout k → IsPinnedSince k m → IsFoundAt k m key (Leaf n v None) → n < layout.leaves
found_in_table layout k m key n v possible pinned found =
    led_in_table layout k m (LeafEntry n) possible (pinned, λ c law known. let (i, lo, hi, st) = found.1 c law known in (i, leaf n found.0 v, lo, hi, st, refl))

pub found_loaded : {layout : Layout} {k j : Known} (n w : ℕ) → IsEvent layout (LoadRef (Value n) w) silent k j → HasLoadedFound j (Leaf n w None)
found_loaded {layout} {k} {j} n w e number value is =
    let here : IsOneOf (record { leaf = n; value = w }) j.values = subst (IsOneOf (record { leaf = n; value = w })) (sym (value_loaded layout silent k j n w e)) (inl refl) in
    let number_is : n ≡ number = cc in
    let value_is : w ≡ value = cc in
    subst (λ z. HasLoaded j z value) number_is (subst (HasLoaded j n) value_is here)

-- a load of a located leaf's value, by the leaf's number
pub of_leaf : {G : Type 0} {table : TableView} {becomes : G → Event → G → Type 0} {r : Rec} {n w : ℕ} {a b : SeatView × G} → r ≡ a_leaf n →
    Steps table becomes (LoadRef (Value (record_number r)) w) a b → Steps table becomes (LoadRef (Value n) w) a b
of_leaf {table = table} {becomes = becomes} {w = w} {a = a} {b = b} is steps = subst (λ z. Steps table becomes (LoadRef (Value z) w) a b) (ap record_number is) steps

pub value_reads : {G : Type 0} (table : TableView) (becomes : G → Event → G → Type 0) (n w : ℕ) (a b : SeatView × G) → Steps table becomes (LoadRef (Value n) w) a b → WorksOnKeepingRecords table becomes a b
value_reads table becomes n w a b s = record {
  goes = record {
    acts = LoadRef (Value n) w ∷ [];
    plain = All-cons IsStepUnderLocks (LoadRef (Value n) w) [] tt (λ i d low. absurd (omega arith));
    steps = runs_one table becomes (LoadRef (Value n) w) a b s;
    stays = still_locked table.layout a.0.known b.0.known (LoadRef (Value n) w) tt tt tt tt s.event;
  };
  own = ap (λ (z : Known). z.own) s.event.learned_is;
}

-- ---- what was found, with another value
end_again : (found : Found) (value : ℕ) → end_of (revalued found value) ≡ end_of found
end_again Nothing value = refl
end_again (Leaf n v None) value = refl
end_again (Leaf n v (Some p)) value = refl

named_again : (way : List PathNode) (found : Found) (value i : ℕ) → named way (revalued found value) i ≡ named way found i
named_again [] found value i = end_again found value
named_again (s ∷ way) found value zero = refl
named_again (s ∷ way) found value (suc i) = named_again way found value i

way_again : (layout : Layout) (k : Known) (m : ℕ) (key : Key) (way : List PathNode) (found : Found) (value : ℕ) → IsWayOf layout k m key way found → IsFoundAt k m key (revalued found value) →
    IsWayOf layout k m key way (revalued found value)
way_again layout k m key way found value w found_at = record {
  is_key = w.is_key;
  since = w.since;
  root = subst (RootWas k m) (sym (named_again way found value 0)) w.root;
  nodes = λ i s at. let (e, is, node) = w.nodes i s at in (e, named_again way found value (i + 1) ∙ is, node);
  found_at = found_at;
  depth = w.depth;
}

-- the span is taken still
pub taken_again : {G : Type 0} (table : TableView) (becomes : G → Event → G → Type 0) (a b : SeatView × G) (m : ℕ) (key : Key) (way : List PathNode) (found : Found) (value : ℕ) (span : Span) →
    HasTakenSpan table a.0 m key way found span → WorksOnKeepingRecords table becomes a b → IsFoundAt b.0.known m key (revalued found value) → HasTakenSpan table b.0 m key way (revalued found value) span
taken_again table becomes a b m key way found value span t reads found_at = record {
  seat = seat_of table becomes a b reads.goes t.seat;
  possible = goes_possible table becomes a b reads.goes t.possible;
  own = reads.own ∙ t.own;
  within = t.within;
  way_of = way_again table.layout b.0.known m key way found value (way_later table.layout a.0.known b.0.known m key way found reads.goes.stays.0 t.way_of) found_at;
  locked = span_later a.0.known b.0.known way span reads.goes.stays.1 reads.goes.stays.2 t.locked;
  checked = record {
    root = λ top. reads.goes.stays.2 ∙ (t.checked.root top ∙ ap Some (sym (named_again way found value 0)));
    entries = λ i s low high at words h. named_again way found value (i + 1) ∙
        t.checked.entries i s low high at words (subst (λ locks. IsOneOf (record { node = s.number; words = words }) locks) reads.goes.stays.1 h);
  };
}

-- ---- the end of a change
-- so a change's records are those that the pass has made
pub replaced_made : (table : TableView) (a : SeatView) (made : List Rec) (job : Job) (raised : Raised) (x : Change) (was : Option ℕ) → job.span.end ≤ length job.way.now → MayReplace table a made job raised x was →
    (news : List Made) × IsBuilding table a made news
replaced_made table a made job raised x was low may = let (spot, over) = some_spot job.way.now job.span.end low in let m = may.ends spot over in (m.news, m.building)

-- a search may be gone on with
pub job_later : (layout : Layout) (k j : Known) (m : ℕ) (job : Job) → IsLater k j → IsJobFrom layout k m job → IsJobFrom layout j m job
job_later layout k j m job later w = way_later layout k j m job.key.now job.way.now job.found later w

pub holds_reads : {G : Type 0} (table : TableView) (becomes : G → Event → G → Type 0) (a b : SeatView × G) (job : Job) → WorksOnKeepingRecords table becomes a b → HoldsSpan table a.0 job → HoldsSpan table b.0 job
holds_reads table becomes a b job reads held = record {
  seat = seat_of table becomes a b reads.goes held.seat;
  possible = goes_possible table becomes a b reads.goes held.possible;
  within = held.within;
  from = (held.from.0, job_later table.layout a.0.known b.0.known held.from.0 job reads.goes.stays.0 held.from.1);
  locked = span_later a.0.known b.0.known job.way.now job.span reads.goes.stays.1 reads.goes.stays.2 held.locked;
}

pub holds_taken : (table : TableView) (a : SeatView) (m : ℕ) (job : Job) → HasTakenSpan table a m job.key.now job.way.now job.found job.span → HoldsSpan table a job
holds_taken table a m job t = record { seat = t.seat; possible = t.possible; within = t.within; from = (m, t.way_of); locked = t.locked }

-- where nothing goes all that is locked is kept
pub all_kept : (locks : List Locked) (kept : List ℕ) → LocksJust locks kept → AreKept (nodes_of locks) [] kept
all_kept locks kept just = record {
  only = λ n i. let (l, there, is) = of_mapped locks n i in inl (subst (λ z. IsOneOf z kept) is (just.only l there));
  each = λ n i. let (l, there, is) = just.each n i in (subst (λ z. IsOneOf z (nodes_of locks)) is (map_of (λ (z : Locked). z.node) l locks there), λ gone. absurd gone);
}
  where
    of_mapped : (ls : List Locked) (n : ℕ) → IsOneOf n (nodes_of ls) → (l : Locked) × IsOneOf l ls × (l.node ≡ n)
    of_mapped [] n i = absurd i
    of_mapped (l ∷ ls) n (inl e) = (l, inl refl, sym e)
    of_mapped (l ∷ ls) n (inr i) = let (k, there, is) = of_mapped ls n i in (k, inr there, is)

-- the anchor is locked as it was
pub anchored_on : (b : Bool) (k j : Known) → (k.anchor ≡ None → j.anchor ≡ None) × (IsSome k.anchor → IsSome j.anchor) → IsAnchored b k → IsAnchored b j
anchored_on true k j kept is = kept.1 is
anchored_on false k j kept is = kept.0 is

pub held_again : (found : Found) (value : ℕ) → held_loads (revalued found value) ≡ held_loads found
held_again Nothing value = refl
held_again (Leaf n v None) value = refl
held_again (Leaf n v (Some p)) value = refl

pub held_few : (found : Found) → held_loads found ≤ 1
held_few Nothing = omega arith
held_few (Leaf n v None) = omega arith
held_few (Leaf n v (Some p)) = omega arith

-- the front has grown
pub front_grown : {k j : Known} → IsLater k j → length k.front ≤ length j.front
front_grown {k} {j} later = omega (arith, ap length later.front.1, length-append k.front later.front.0)

-- a change that a store of a value has made
pub value_changed : (layout : Layout) (k j i : Known) (spot : Spot) (w : ℕ) (x : Change) (was : Option ℕ) (kept : List ℕ) → HasPublished k j x was [] kept → IsEvent layout (Publish spot w) silent k j →
    IsAtRest i → i.front ≡ j.front → i.fresh ≡ j.fresh → HasChanged k i x was
value_changed layout k j i spot w x was kept p e rest front fresh = record {
  rest = rest;
  before = p.before;
  others = p.others;
  front = front ∙ p.front;
  fresh = subst (λ (z : Fresh). BeginsWith p.before z.front) (sym (fresh ∙ (act_leaves layout k j (Publish spot w) e).fresh tt))
      (begins_on k.fresh.front k.front p.before e.knows.seen.fresh (p.others.0, p.others.1));
  fits = p.fits;
  was_held = p.was_held;
}
