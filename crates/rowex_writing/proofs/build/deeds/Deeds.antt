-- What goes and what stays for what a deed has raised, and where that is stored.
use Rattle.rowex_writing.proofs.Common.{slice_range, ◌≡◌, ◌≢◌, inl, inr, ℕ, suc, zero, ◌+◌, ◌-◌, ◌<◌, ◌≤◌, Bool, true, false, List, [], ◌++◌, length, map, Option, Some, None, Result, Ok, Err, IfOk, IfErr, refl, sym, ap, subst, ◌∙◌, arith, eqb-true, length-append, length-map, All-append, PathNode, IsOneOf, AreApart, Rec, a_node, of_append, of_left, Layout, Key, spot_below, HasRecord, AreKept, Event, Spot, Root, Slot, Value, Known, nodes_of, Made, HasSpot, IsWayOf, Found, Leaf, IsLater, TableView, SeatView, IsSeatOf, added_change, removed_change, item, IsPossible, Change, HasReady, later_transitive}
use Rattle.std.specs.Prelude.{nat_eq}
use Rattle.rowex_writing.specs.build.Building.{IsBuilding}
use Rattle.record_words.specs.Layout.{uncommitted_in}
use Rattle.rowex_table.specs.Committed.{AtMost}
use Rattle.rowex_writing.specs.build.Changes.{IsFull, IsPutChange, IsTakeChange, MayPublishOnceReady}
use Rattle.rowex_writing.specs.build.Deeds.{CarriesOut, HasNoneFree, HasRaised, MayReplace, bounds_of_deed, gone_of_span, kept_of_span, leaf_gone}
use Rattle.rowex_writing.specs.plan.Counts.{leaf_steps, spare_steps}
use Rattle.rowex_writing.specs.locks.Going.{WorksOn}
use Rattle.rowex_writing.specs.declared.build.kept.Build.{Build}
use Rattle.rowex_writing.specs.declared.plan.job.Job.{Job}
use Rattle.rowex_writing.specs.declared.plan.Deed.{Deed}
use Rattle.rowex_writing.specs.declared.plan.Deed.TheVariants.{Empty, Grow, PushDown, Put, Take, TakeTop, Value as NewValue}
use Rattle.rowex_writing.specs.declared.plan.Full.{Full}
use Rattle.rowex_writing.specs.declared.plan.Full.TheVariants.{Nodes, Leaves}
use Rattle.rowex_writing.specs.locks.Locks.{AreNodes, HasLockedSpan, numbers_of, KeepsLocksAndRecords}
use Rattle.rowex_writing.specs.build.Putting.{IsSpotAbove, AreInTable, IsAnchored}
use Rattle.rowex_writing.specs.declared.plan.job.Raised.{Raised}
use Rattle.rowex_writing.specs.declared.plan.Span.{Span}
use Rattle.rowex_writing.proofs.build.Growths.{full_since, kept_span, range_records, two_nodes}
use Rattle.rowex_writing.proofs.locks.Spans.{slice_none, slice_few}

-- ---- what goes
no_node : (leaf : Option ℕ) (n : ℕ) → IsOneOf (a_node n) (leaf_gone leaf) → ⊥
no_node None n h = h
no_node (Some number) n (inl e) = cc
no_node (Some number) n (inr h) = h

with_leaf : (held : List ℕ) (nodes : List Rec) (kept : List ℕ) (leaf : Option ℕ) → AreKept held nodes kept → AreKept held (nodes ++ leaf_gone leaf) kept
with_leaf held nodes kept leaf k = record {
  only = λ n h. elim (k.only n h) [ inl i ↦ inl i | inr i ↦ inr (of_left (a_node n) nodes (leaf_gone leaf) i) ];
  each = λ n h. ((k.each n h).0, λ g. elim (of_append (a_node n) nodes (leaf_gone leaf) g) [ inl i ↦ (k.each n h).1 i | inr i ↦ no_node leaf n i ]);
}

-- none is in any table
pub none_in_table : (layout : Layout) → AreInTable layout []
none_in_table layout = λ i d low. absurd (omega arith)

-- where no node goes
pub just_leaf_gone : (way : List PathNode) (end low : ℕ) (leaf : Option ℕ) → low ≡ end → map (λ (s : PathNode). a_node s.number) (slice_range way end low) ++ leaf_gone leaf ≡ leaf_gone leaf
just_leaf_gone way end low leaf same = ap (λ (steps : List PathNode). map (λ (s : PathNode). a_node s.number) steps ++ leaf_gone leaf) (ap (slice_range way end) same ∙ slice_none way end)

module _ (way : List PathNode) (span : Span) (raised : Raised) where
  pub gone_few : length (gone_of_span way span raised) ≤ raised.low - span.end + length (leaf_gone raised.leaf)
  gone_few =
      let nodes = map (λ (s : PathNode). a_node s.number) (slice_range way span.end raised.low) in
      omega (arith, length-append nodes (leaf_gone raised.leaf), length-map (slice_range way span.end raised.low) (λ (s : PathNode). a_node s.number), slice_few way span.end raised.low)

  pub kept_few : length (kept_of_span way span raised) ≤ span.end - (span.end - 1) + (span.len - raised.low)
  kept_few = omega (arith, length-append (slice_range way (span.end - 1) span.end) (slice_range way raised.low span.len), slice_few way (span.end - 1) span.end, slice_few way raised.low span.len)

  pub gone_records : (layout : Layout) → AreNodes layout way → AreInTable layout (leaf_gone raised.leaf) → AreInTable layout (gone_of_span way span raised)
  gone_records layout nodes leaf = All-append (HasRecord layout) (map (λ (s : PathNode). a_node s.number) (slice_range way span.end raised.low)) (leaf_gone raised.leaf) (range_records layout way span.end raised.low nodes) leaf

  pub kept_nodes : (layout : Layout) → AreNodes layout way → AreNodes layout (kept_of_span way span raised)
  kept_nodes layout nodes = two_nodes layout way (span.end - 1) span.end raised.low span.len nodes

  pub kept_raised : (k : Known) → HasLockedSpan k way span → span.end ≤ raised.low → raised.low ≤ span.len →
      AreKept (nodes_of k.locks) (gone_of_span way span raised) (numbers_of (kept_of_span way span raised)) × AreApart (numbers_of (kept_of_span way span raised))
  kept_raised k locked from upto =
      let (kept, apart) = kept_span k.locks way span.end raised.low span.len from upto locked.nodes.0 locked.nodes.1 in
      (with_leaf (nodes_of k.locks) (map (λ (s : PathNode). a_node s.number) (slice_range way span.end raised.low)) (numbers_of (kept_of_span way span raised)) raised.leaf kept, apart)

-- ---- where it is stored
above_zero : (n : ℕ) → nat_eq n 0 ≡ false → 0 < n
above_zero zero e = absurd cc
above_zero (suc n) e = omega arith

pub span_anchor : (k : Known) (way : List PathNode) (span : Span) → HasLockedSpan k way span → IsAnchored (nat_eq span.end 0) k
span_anchor k way span locked = go (nat_eq span.end 0) refl
  where
    go : (is : Bool) → nat_eq span.end 0 ≡ is → IsAnchored is k
    go true e = locked.top (eqb-true span.end 0 e)
    go false e = locked.below (above_zero span.end e)

pub spot_there : (layout : Layout) (k : Known) (m : ℕ) (key : Key) (way : List PathNode) (found : Found) → IsWayOf layout k m key way found → (end : ℕ) (spot : Spot) → IsSpotAbove way end spot → HasSpot layout spot
spot_there layout k m key way found w end Root is = tt
spot_there layout k m key way found w end (Value l) is = absurd is
spot_there layout k m key way found w end (Slot n i) (s, low, at, number, place) =
    let node = (w.nodes (end - 1) s at).2 in
    let within = spot_below key node.forks in
    (omega (arith, number, node.range), omega (arith, place, node.at, within, node.room))

-- ---- what is raised for a deed
pub grown_raised : (table : TableView) (a m : Known) (b : SeatView) (made : List Rec) (job : Job) (position leaf : ℕ) (r : Result Raised Full) → IsLater a m →
    IsPutChange a.pass job.key.now job.value job.found (added_change a.pass (item leaf job.key.now job.value)) None →
    IfOk r (λ raised. MayReplace table b made job raised (added_change m.pass (item leaf job.key.now job.value)) None) → IfOk r (HasRaised table a b made job (Grow position))
grown_raised table a m b made job position leaf (Ok raised) later stored may = (
  added_change a.pass (item leaf job.key.now job.value),
  None,
  stored,
  subst (λ q. MayReplace table b made job raised (added_change q (item leaf job.key.now job.value)) None) later.pass may,
)
grown_raised table a m b made job position leaf (Err full) later stored may = tt

pub taken_raised : (table : TableView) (a : Known) (b : SeatView) (made : List Rec) (job : Job) (number value : ℕ) (r : Result Raised Full) → job.found ≡ Leaf number value None →
    IfOk r (λ raised. MayReplace table b made job raised (removed_change a.pass (item number job.key.now value)) (Some value)) → IfOk r (HasRaised table a b made job TakeTop)
taken_raised table a b made job number value (Ok raised) is may = (
  removed_change a.pass (item number job.key.now value),
  Some value,
  subst (λ f. IsTakeChange a.pass job.key.now f (removed_change a.pass (item number job.key.now value)) (Some value)) (sym is) (refl, refl),
  may,
)
taken_raised table a b made job number value (Err full) is may = tt

-- none was free since an earlier version
pub none_free_since : (table : TableView) (a m b : SeatView) (made : List Rec) (job : Job) (r : Result Raised Full) → AtMost (uncommitted_in m.bounds) (uncommitted_in a.bounds) → a.known.steps ≤ m.known.steps →
    IfErr r (HasNoneFree table m.bounds m.known b made job) → IfErr r (HasNoneFree table a.bounds a.known b made job)
none_free_since table a m b made job (Ok raised) falls count none = tt
none_free_since table a m b made job (Err full) falls count none = record {
  not_made = none.not_made;
  few = none.few;
  full_of = full_since table.layout m.bounds a.bounds job.key.now a.known m.known b.known made full falls count none.full_of;
}

-- where it was a node record, it was no leaf record
pub nodes_alone : {X : Type 0} (r : Result X Full) (P : Full → Type 0) → IfErr r (λ full. (full ≡ Nodes) × P full) → r ≢ Err Leaves
nodes_alone (Ok x) P h = λ e. cc
nodes_alone (Err Nodes) P h = λ e. cc
nodes_alone (Err Leaves) P h = absurd (let z = h.0 in cc)

-- a deed that makes a leaf's record looks at the committed records alone
makes_leaf : (deed : Deed) (bounds : List ℕ) → spare_steps deed ≡ 0 → bounds_of_deed deed bounds ≡ bounds
makes_leaf Take bounds none = absurd (omega (arith, none))
makes_leaf TakeTop bounds none = absurd (omega (arith, none))
makes_leaf Empty bounds none = absurd (omega (arith, none))
makes_leaf NewValue bounds none = absurd (omega (arith, none))
makes_leaf Put bounds none = refl
makes_leaf (PushDown position) bounds none = refl
makes_leaf (Grow position) bounds none = refl

-- no leaf record was free, the first that a deed wants
pub no_leaf_free : {G : Type 0} {table : TableView} {becomes : G → Event → G → Type 0} {a b : (SeatView × G) × Build} {job : Job} {deed : Deed} → WorksOn table becomes a.0 b.0 →
    IsBuilding table b.0.0 b.1.made.items [] × IsFull table.layout a.0.0.bounds job.key.now a.0.0.known b.0.0.known b.1.made.items Leaves → b.0.0.known.steps ≤ a.0.0.known.steps + leaf_steps table.layout → spare_steps deed ≡ 0 → CarriesOut table becomes a b job deed (Err Leaves)
no_leaf_free {table = table} {a = a} {b} {job} {deed} goes (building, missed) few none = record {
  goes = goes;
  raised = tt;
  full = record { not_made = record { news = []; building = building }; few = omega (arith, ap length building.listed); full_of = subst (λ bounds. IsFull table.layout bounds job.key.now a.0.0.known b.0.0.known b.1.made.items Leaves) (sym (makes_leaf deed a.0.0.bounds none)) missed };
  few = omega (arith, few, none);
}

pub building_same : (table : TableView) (a b : SeatView) (made : List Rec) (news : List Made) → IsSeatOf table b → IsPossible table.layout b.known → b.known.own ≡ a.known.own → IsBuilding table a made news → IsBuilding table b made news
building_same table a b made news seat possible own was = record { seat = seat; possible = possible; holds = (own ∙ was.holds.0, was.holds.1); packed = was.packed; listed = was.listed }

pub replace_later : (table : TableView) (a b : SeatView) (made after : List Rec) (job : Job) (raised : Raised) (x : Change) (was : Option ℕ) → IsSeatOf table b → IsPossible table.layout b.known → IsLater a.known b.known → KeepsLocksAndRecords a.known b.known →
    after ≡ made → MayReplace table a made job raised x was → MayReplace table b after job raised x was
replace_later table a b made after job raised x was seat possible later (locks, anchor, own) same may = subst (λ z. MayReplace table b z job raised x was) (sym same) (record {
  from = may.from;
  upto = may.upto;
  most = may.most;
  leaf = may.leaf;
  ends = λ spot over. ends_there (may.ends spot over);
  few = may.few;
  takes = may.takes;
})
  where
    ends_there : {spot : Spot} {w : ℕ} {gone : List Rec} → MayPublishOnceReady table a made spot w x was gone → MayPublishOnceReady table b made spot w x was gone
    ends_there m = record {
      news = m.news;
      building = building_same table a b made m.news seat possible own m.building;
      publishes = λ j after ready kept told. m.publishes j (later_transitive a.known b.known j later after) (subst (λ z. HasReady j z m.news) locks ready) (kept ∙ anchor) told;
    }
