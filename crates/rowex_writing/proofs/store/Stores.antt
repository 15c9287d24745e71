-- What may be stored for a change, and for a removal that merges.
use Rattle.rowex_writing.proofs.Common.{◌≡◌, ℕ, ◌-◌, List, Option, Some, nat_eq, sym, subst, arith, inl, inr, [], ◌∷◌, None, map, refl, slice_range, eq-eqb, ne_eqb, Entry, Change, PathNode, entry_word, AreApart, IsOneOf, Rec, HasSpot, AreKept, Spot, Root, Slot, Value, Known, nodes_of, TableView, SeatView, IsOfEntry, HasLoaded, a_node, a_leaf, of_append, Key, Found, FoundLeaf}
use Rattle.rowex_writing.specs.build.Changes.{MayPublishOnceReady, IsTakeChange, KnowsWas}
use Rattle.rowex_writing.specs.build.Deeds.{MayReplace, gone_of_span, kept_of_span, leaf_gone}
use Rattle.rowex_writing.specs.locks.Jobs.{HoldsSpan}
use Rattle.rowex_writing.specs.locks.Locks.{AreNodes, numbers_of}
use Rattle.rowex_writing.specs.build.Putting.{IsSpotAbove, AreInTable, IsAnchored}
use Rattle.rowex_writing.specs.store.Retiring.{MayStore, is_root}
use Rattle.rowex_writing.specs.declared.build.kept.Build.{Build}
use Rattle.rowex_writing.specs.declared.plan.job.Job.{Job}
use Rattle.rowex_writing.specs.declared.plan.job.Raised.{Raised}
use Rattle.rowex_writing.proofs.build.Changes.{step_nodes}
use Rattle.rowex_writing.proofs.build.deeds.Deeds.{gone_records, kept_nodes, kept_raised, span_anchor, spot_there}
use Rattle.rowex_writing.specs.store.Values.{HasLoadedFound}

-- the spot above the first nodes of a way is the root if there are none
root_anchor : (k : Known) (way : List PathNode) (end : ℕ) (spot : Spot) → IsSpotAbove way end spot → IsAnchored (nat_eq end 0) k → IsAnchored (is_root spot) k
root_anchor k way end Root top h = subst (λ z. IsAnchored z k) (eq-eqb end 0 top) h
root_anchor k way end (Value l) over h = absurd over
root_anchor k way end (Slot n i) (s, low, at, number, place) h = subst (λ z. IsAnchored z k) (ne_eqb end 0 (λ e. omega (arith, low, e))) h

-- and it is that of an entry
spot_of_entry : (way : List PathNode) (end : ℕ) (spot : Spot) → IsSpotAbove way end spot → IsOfEntry spot
spot_of_entry way end Root over = tt
spot_of_entry way end (Slot n i) over = tt
spot_of_entry way end (Value l) over = absurd over

-- what was loaded of the found leaf is told of the leaf that goes: for a change,
no_node_leaf : (leaf : ℕ) (steps : List PathNode) → IsOneOf (a_leaf leaf) (map (λ (s : PathNode). a_node s.number) steps) → ⊥
no_node_leaf leaf [] i = absurd i
no_node_leaf leaf (s ∷ steps) (inl e) = absurd cc
no_node_leaf leaf (s ∷ steps) (inr i) = no_node_leaf leaf steps i

change_told : (table : TableView) (a : SeatView) (made : List Rec) (job : Job) (raised : Raised) (x : Change) (was : Option ℕ) → MayReplace table a made job raised x was → HasLoadedFound a.known job.found →
    KnowsWas a.known (gone_of_span job.way.now job.span raised) was
change_told table a made job raised x was may loaded leaf i =
    elim (of_append (a_leaf leaf) (map (λ (s : PathNode). a_node s.number) (slice_range job.way.now job.span.end raised.low)) (leaf_gone raised.leaf) i) [
      | inl node ↦ absurd (no_node_leaf leaf (slice_range job.way.now job.span.end raised.low) node)
      | inr here ↦ go raised.leaf refl here
    ]
  where
    go : (l : Option ℕ) → raised.leaf ≡ l → IsOneOf (a_leaf leaf) (leaf_gone l) → (value : ℕ) × (was ≡ Some value) × HasLoaded a.known leaf value
    go None is h = absurd h
    go (Some number) is (inl e) =
        let (value, found_is, was_is) = may.takes number is in
        let same : leaf ≡ number = cc in
        (value, was_is, subst (λ n. HasLoaded a.known n value) (sym same) (loaded number value found_is))
    go (Some number) is (inr h) = absurd h

-- and for a merge
pub take_was : (q : ℕ) (key : Key) (found : Found) (x : Change) (was : Option ℕ) (leaf value : ℕ) → found ≡ FoundLeaf leaf value None → IsTakeChange q key found x was → was ≡ Some value
take_was q key found x was leaf value is takes = (subst (λ f. IsTakeChange q key f x was) is takes).1

-- the records are listed so, and the nodes are these
module _ (table : TableView) (a : SeatView) (build : Build) (way kept shown : List PathNode) (end : ℕ) (spot : Spot) (e : Option Entry) (gone : List Rec) (x : Change) (was : Option ℕ) where
  pub store_of : KnowsWas a.known gone was → build.gone.items ≡ gone → shown ≡ kept → IsSpotAbove way end spot → MayPublishOnceReady table a build.made.items spot (entry_word e) x was gone → HasSpot table.layout spot →
      AreInTable table.layout gone → AreNodes table.layout kept → AreKept (nodes_of a.known.locks) gone (numbers_of kept) × AreApart (numbers_of kept) → IsAnchored (nat_eq end 0) a.known → MayStore table a build shown spot e x was
  store_of told gone_is kept_is over ready there records nodes keeps anchored = subst (λ k. MayStore table a build k spot e x was) (sym kept_is) (record {
    ready = subst (MayPublishOnceReady table a build.made.items spot (entry_word e) x was) (sym gone_is) ready;
    of_entry = spot_of_entry way end spot over;
    told = subst (λ z. KnowsWas a.known z was) (sym gone_is) told;
    there = there;
    records = subst (AreInTable table.layout) (sym gone_is) records;
    nodes = nodes;
    keeps = subst (λ z. AreKept (nodes_of a.known.locks) z (numbers_of kept)) (sym gone_is) keeps.0;
    apart = keeps.1;
    anchored = root_anchor a.known way end spot over anchored;
  })

-- for a change
pub change_store : (table : TableView) (a : SeatView) (made : List Rec) (build : Build) (shown : List PathNode) (job : Job) (raised : Raised) (spot : Spot) (x : Change) (was : Option ℕ) → HoldsSpan table a job → HasLoadedFound a.known job.found →
    build.made.items ≡ made → build.gone.items ≡ gone_of_span job.way.now job.span raised → shown ≡ kept_of_span job.way.now job.span raised → IsSpotAbove job.way.now job.span.end spot →
    MayReplace table a made job raised x was → MayStore table a build shown spot raised.entry x was
change_store table a made build shown job raised spot x was held loaded made_is gone_is kept_is over may =
    let (m, w) = held.from in
    let nodes = step_nodes table.layout a.known m job.key.now job.way.now job.found w in
    let gone : List Rec = gone_of_span job.way.now job.span raised in
    store_of table a build job.way.now (kept_of_span job.way.now job.span raised) shown job.span.end spot raised.entry gone x was (change_told table a made job raised x was may loaded) gone_is kept_is over
    (subst (λ z. MayPublishOnceReady table a z spot (entry_word raised.entry) x was gone) (sym made_is) (may.ends spot over))
    (spot_there table.layout a.known m job.key.now job.way.now job.found w job.span.end spot over) (gone_records job.way.now job.span raised table.layout nodes may.leaf)
    (kept_nodes job.way.now job.span raised table.layout nodes) (kept_raised job.way.now job.span raised a.known held.locked may.from may.upto) (span_anchor a.known job.way.now job.span held.locked)
