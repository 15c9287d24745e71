-- Under the wider locks: what the pass knows of the two nodes, and the store that makes them one.
use Rattle.rowex_writing.proofs.Common.{◌≡◌, inl, inr, ◌⊎◌, ℕ, ◌+◌, ◌-◌, ◌<◌, ◌≤◌, List, [], ◌∷◌, ◌++◌, length, nat_eq, Option, Some, None, refl, sym, ap, subst, ◌∙◌, arith, IfSome, MatchOption, slice_range, eq-eqb, ne_eqb, All-cons, get_or_from_slice_get, NodeView, IsBuiltFrom, IsEntry, StandsBelow, greatest_height, height_of, piece, Entry, LeafEntry, Node, Change, PathNode, some_injective, beside, collapsed, without, Place, RisesFrom, places, size, Layout, HasEntryWord, entry_word, CanCloseAt, HasNodeWords, node_words, item, Key, bit, fork_of, spot, subtrie_collapsed, subtrie_sibling, subtrie_without, seek, Subtrie, size-piece, spot_below, collapsed_spot, without_spot, NodeWords, AreApart, IsOneOf, Rec, a_node, a_leaf, all_of, map_of, of_map, HasRecord, AreKept, node_words_of, IsLocked, Event, Spot, Root, Slot, Value, Known, Locked, knows_all, Made, nodes_of, Publishes, TableView, SeatView, IsPossible, IsWayOf, named, Found, Leaf, FoundLeaf, later_trans, named_at, way_later, StaysLocked, IsSide, made_of_node, one, anew, HoldsAt, FitsAt, at_root, in_node, AreBeside, merged, HasLoaded, later_transitive, collapsed_low, merge, merged_low, merged_rises, removed_change}
use Rattle.std.specs.Prelude.{IsSome}
use Rattle.rowex_writing.specs.build.Building.{HasNotMade, IsBuilding}
use Rattle.rowex_writing.specs.build.Changes.{IsTakeChange, MayPublishOnceReady, KnowsWas}
use Rattle.rowex_writing.specs.locks.Checks.{HasTakenPlan}
use Rattle.rowex_writing.specs.locks.Going.{HasLocked, IsNodeOf, WorksOn}
use Rattle.rowex_writing.specs.locks.Jobs.{HoldsSpan}
use Rattle.rowex_writing.specs.locks.Locks.{numbers_of, span_numbers}
use Rattle.rowex_writing.specs.merging.Merging.{AreNoNode, ClosesFork, IsNeighbour, HasWiderLocks, LocksAbove, MayMergeInto, by_anchor, by_node, merged_gone, HasListed}
use Rattle.rowex_writing.specs.build.Taking.{HasHeight, IsTaking, TakesOn, lower, no_step, upper}
use Rattle.rowex_writing.specs.build.Putting.{IsSpotAbove, AreInTable, IsAnchored}
use Rattle.rowex_writing.specs.declared.plan.job.Job.{Job}
use Rattle.rowex_writing.specs.declared.merging.ClosedFork.{ClosedFork}
use Rattle.rowex_writing.specs.declared.plan.job.Merge.{Merge}
use Rattle.rowex_writing.proofs.build.Above.{lower_entry}
use Rattle.rowex_writing.proofs.merging.Beside.{lower_at, lower_locked, lower_range, upper_at, upper_locked, upper_range}
use Rattle.rowex_writing.proofs.locks.Checks.{span_later}
use Rattle.rowex_writing.proofs.locks.Going.{locked_on, seat_of, locked_node}
use Rattle.rowex_writing.proofs.build.Building.{goes_possible}
use Rattle.rowex_writing.proofs.build.remaking.Remaking.{entries_under}
use Rattle.rowex_writing.specs.declared.plan.Deed.{Deed}
use Rattle.rowex_writing.specs.declared.plan.Deed.TheVariants.{Take}
use Rattle.rowex_writing.proofs.build.taking.Taking.{has_read, leaf_gone_record, leaf_there, low_names, taken_below, told_value, side_low}
use Rattle.rowex_writing.proofs.locks.Shapes.{way_node_locked}
use Rattle.rowex_writing.proofs.locks.Spans.{slice_more, slice_none}
use Rattle.rowex_writing.proofs.store.Stores.{take_was, store_of}
use Rattle.rowex_writing.specs.store.Values.{HasLoadedFound}
use Rattle.rowex_writing.specs.store.Retiring.{MayStore}
use Rattle.rowex_writing.specs.declared.build.kept.Build.{Build}
use Rattle.rowex_writing.proofs.build.Growths.{range_nodes}
use Rattle.rowex_writing.proofs.build.Changes.{step_nodes}
use Rattle.rowex_writing.proofs.build.deeds.Deeds.{spot_there}

-- a locked node has just these words
pub same_words : (layout : Layout) (k : Known) (n : ℕ) (xs ys : List ℕ) → IsPossible layout k → HasLocked k n xs → HasLocked k n ys → xs ≡ ys
same_words layout k n xs ys possible h i =
    let c = possible.core in
    let locks = (knows_all c k possible.knows).locks in
    let (lock, tree, is) = all_of (IsLocked k.pass c) (record { node = n; words = xs }) k.locks locks h in
    let (lock, tree, same) = all_of (IsLocked k.pass c) (record { node = n; words = ys }) k.locks locks i in
    sym is ∙ same

-- the same by another list of the same locks
pub moved : {held kept : List Locked} {key : Key} {o n m j : ℕ} → kept ≡ held → (s : AreBeside kept key o n m j) → (z : AreBeside held key o n m j) × (merged z ≡ merged s) × (z.position ≡ s.position)
moved same s = (
  record {
    upper = s.upper;
    lower = s.lower;
    other = s.other;
    has_upper = subst (IsOneOf (record { node = _; words = s.upper })) same s.has_upper;
    has_lower = subst (IsOneOf (record { node = _; words = s.lower })) same s.has_lower;
    has_other = subst (IsOneOf (record { node = _; words = s.other })) same s.has_other;
    leaf = s.leaf;
    height = s.height;
    entry = s.entry;
    position = s.position;
    other_height = s.other_height;
    sibling = s.sibling;
  },
  refl,
  refl,
)

-- the numbers of records
node_number : (n m : ℕ) → a_node n ≡ a_node m → n ≡ m
node_number n m e = ap number_of e
  where
    number_of : Rec → ℕ
    number_of (a_node i) = i
    number_of (a_leaf i) = i

-- what was locked first is locked still, with the node beside
held_above : (held : List Locked) (key : Key) (way : List PathNode) (found : Found) (end : ℕ) (j : Known) (l : Locked) → LocksAbove held key way found end j → IsOneOf l held → IsOneOf l j.locks
held_above held key way found end j l (by_anchor top locks anchor) i = subst (IsOneOf l) (sym locks) i
held_above held key way found end j l (by_node s low at ((words, is), new) free names) i = subst (IsOneOf l) (sym is) (inr i)

-- the pass goes on
abbrev pub wide_on : {G : Type 0} (table : TableView) (becomes : G → Event → G → Type 0) (a b : SeatView × G) (job : Job) (number : ℕ) → WorksOn table becomes a b → HasWiderLocks table a.0 job number → HasWiderLocks table b.0 job number
wide_on table becomes a b job number goes w = record {
  taking = w.taking;
  seat = seat_of table becomes a b goes w.seat;
  possible = goes_possible table becomes a b goes w.possible;
  later = later_trans w.later goes.stays.0;
  words = w.words;
  new = w.new;
  low = w.low;
  above = still w.above;
}
  where
    still : {held : List Locked} {key : Key} {way : List PathNode} {found : Found} {end : ℕ} → LocksAbove held key way found end a.0.known → LocksAbove held key way found end b.0.known
    still (by_anchor top locks anchor) = by_anchor top (goes.stays.1 ∙ locks) (goes.stays.2 ∙ anchor)
    still (by_node s low at ((words, is), new) free names) =
        by_node s low at ((words, goes.stays.1 ∙ is), new) (goes.stays.2 ∙ free) (λ ws h. names ws (locked_on b.0.known a.0.known s.number ws (sym goes.stays.1) h))

abbrev pub beside_on : (a b : Known) (job : Job) (x : Merge) → b.locks ≡ a.locks → IsNeighbour a job x → IsNeighbour b job x
beside_on a b job x same is = record { words = is.words; has = locked_on a b (upper job).number is.words same is.has; forks = is.forks; height = is.height; sibling = is.sibling }

module _ (table : TableView) (b : SeatView) (job : Job) (number : ℕ) (w : HasWiderLocks table b job number) where
  abbrev t : IsTaking table job
  t = w.taking

  abbrev found : Found
  found = Leaf t.number t.value None

  pub way_wide : IsWayOf table.layout b.known t.since job.key.now job.way.now found
  way_wide = way_later table.layout t.before.known b.known t.since job.key.now job.way.now found w.later t.below.taken.way_of

  pub held_wide : (n : ℕ) (words : List ℕ) → HasLocked t.before.known n words → HasLocked b.known n words
  held_wide n words h = held_above _ job.key.now job.way.now job.found (job.span.end - 1) b.known (record { node = n; words = words }) w.above (inr h)

  pub other_wide : HasLocked b.known number w.words
  other_wide = held_above _ job.key.now job.way.now job.found (job.span.end - 1) b.known (record { node = number; words = w.words }) w.above (inl refl)

  -- the two nodes are beside each other
  pub beside_wide : (x : Merge) → x.number ≡ number → (is : IsNeighbour b.known job x) → (s : AreBeside b.known.locks job.key.now (upper job).number (lower job).number number t.number) × (s.position ≡ x.position) × (s.upper ≡ is.words)
  beside_wide x same is =
      let (up, h) = upper_locked table job t in
      let (low, i) = lower_locked table job t in
      let checked = t.below.taken.checked.entries (job.span.end - 1) (upper job) (omega arith) (let e = t.below.last in omega (arith, e)) (upper_at table job t) up h in
      let next : job.span.end - 1 + 1 ≡ job.span.end = let some = t.some in omega (arith, some) in
      let names = some_injective (sym checked ∙ (ap (named job.way.now found) next ∙ named_at job.way.now found job.span.end (lower job) (lower_at table job t))) in
      let shown : up ≡ is.words = same_words table.layout b.known (upper job).number up is.words w.possible (held_wide (upper job).number up h) is.has in (
        record {
          upper = is.words;
          lower = low;
          other = w.words;
          has_upper = is.has;
          has_lower = held_wide (lower job).number low i;
          has_other = other_wide;
          leaf = low_names table t.before t.since job t.number t.value t.below (lower job) (lower_at table job t) low i;
          height = (lower job).height;
          entry = subst (λ ws. seek job.key.now (node_words_of ws).subtrie ≡ Node (lower job).number (lower job).height) shown names;
          position = x.position;
          other_height = is.height;
          sibling = subst (λ n. subtrie_sibling job.key.now (node_words_of is.words).subtrie ≡ Some (x.position, Place (Node n is.height))) same is.sibling;
        },
        refl,
        refl,
      )

  -- ---- what goes and what stays
  span_two : slice_range job.way.now (job.span.end - 1) job.span.len ≡ upper job ∷ lower job ∷ []
  span_two =
      let e = t.below.last in
      let n = t.below.len in
      let some = t.some in
      let next : job.span.end - 1 + 1 ≡ job.span.end = omega (arith, some) in
      slice_more job.way.now (job.span.end - 1) job.span.len no_step (omega (arith, e)) (omega (arith, n)) ∙
      ap (λ z. upper job ∷ z) (ap (λ i. slice_range job.way.now i job.span.len) next ∙ (slice_more job.way.now job.span.end job.span.len no_step (omega (arith, e)) (omega (arith, n)) ∙
      ap (λ z. lower job ∷ z) (ap (λ i. slice_range job.way.now i job.span.len) e ∙ slice_none job.way.now job.span.len)))

  span_goes : (leaf n : ℕ) → IsOneOf n (span_numbers job.way.now job.span) → IsOneOf (a_node n) (merged_gone job number leaf)
  span_goes leaf n i = go (subst (λ (z : List PathNode). IsOneOf n (numbers_of z)) span_two i)
    where
      go : IsOneOf n (numbers_of (upper job ∷ lower job ∷ [])) → IsOneOf (a_node n) (merged_gone job number leaf)
      go (inl e) = inl (ap (λ z. a_node z) e)
      go (inr (inl e)) = inr (inl (ap (λ z. a_node z) e))
      go (inr (inr z)) = absurd z

  goes_span : (leaf n : ℕ) → IsOneOf (a_node n) (merged_gone job number leaf) → IsOneOf n (span_numbers job.way.now job.span) ⊎ (n ≡ number)
  goes_span leaf n (inl e) = inl (subst (λ (z : List PathNode). IsOneOf n (numbers_of z)) (sym span_two) (inl (node_number n (upper job).number e)))
  goes_span leaf n (inr (inl e)) = inl (subst (λ (z : List PathNode). IsOneOf n (numbers_of z)) (sym span_two) (inr (inl (node_number n (lower job).number e))))
  goes_span leaf n (inr (inr (inl e))) = inr (node_number n number e)
  goes_span leaf n (inr (inr (inr (inl e)))) = cc
  goes_span leaf n (inr (inr (inr (inr z)))) = absurd z

  -- what names the upper node stays locked
  pub kept_wide : (leaf : ℕ) → AreKept (nodes_of b.known.locks) (merged_gone job number leaf) (numbers_of (slice_range job.way.now (job.span.end - 1 - 1) (job.span.end - 1))) ×
      AreApart (numbers_of (slice_range job.way.now (job.span.end - 1 - 1) (job.span.end - 1)))
  kept_wide leaf = go w.above
    where
      just : (n : ℕ) → IsOneOf n (nodes_of t.before.known.locks) → IsOneOf n (span_numbers job.way.now job.span)
      just n i = let (l, there, is) = of_map (λ (z : Locked). z.node) n t.before.known.locks i in subst (λ z. IsOneOf z (span_numbers job.way.now job.span)) (sym is) (t.below.taken.locked.nodes.0.only l there)

      there : (n : ℕ) → IsOneOf n (span_numbers job.way.now job.span) → IsOneOf n (nodes_of t.before.known.locks)
      there n i = let (l, at, is) = t.below.taken.locked.nodes.0.each n i in subst (λ z. IsOneOf z (nodes_of t.before.known.locks)) is (map_of (λ (z : Locked). z.node) l t.before.known.locks at)

      held : List Locked
      held = record { node = number; words = w.words } ∷ t.before.known.locks

      all_go : (n : ℕ) → IsOneOf n (number ∷ nodes_of t.before.known.locks) → IsOneOf (a_node n) (merged_gone job number leaf)
      all_go n (inl e) = inr (inr (inl (ap (λ z. a_node z) e)))
      all_go n (inr i) = span_goes leaf n (just n i)

      go : LocksAbove (record { node = number; words = w.words } ∷ t.before.known.locks) job.key.now job.way.now job.found (job.span.end - 1) b.known →
          AreKept (nodes_of b.known.locks) (merged_gone job number leaf) (numbers_of (slice_range job.way.now (job.span.end - 1 - 1) (job.span.end - 1))) ×
          AreApart (numbers_of (slice_range job.way.now (job.span.end - 1 - 1) (job.span.end - 1)))
      go (by_anchor top locks anchor) =
          let first : job.span.end - 1 - 1 ≡ job.span.end - 1 = omega (arith, top) in
          let none : slice_range job.way.now (job.span.end - 1 - 1) (job.span.end - 1) ≡ [] = ap (λ i. slice_range job.way.now i (job.span.end - 1)) first ∙ slice_none job.way.now (job.span.end - 1) in
          subst (λ (z : List PathNode). AreKept (nodes_of b.known.locks) (merged_gone job number leaf) (numbers_of z) × AreApart (numbers_of z)) (sym none)
          (record { only = λ n i. inr (all_go n (subst (λ z. IsOneOf n (nodes_of z)) locks i)); each = λ n i. absurd i }, tt)
      go (by_node s low at ((words, is), new) free names) =
          let e = t.below.last in
          let n = t.below.len in
          let next : job.span.end - 1 - 1 + 1 ≡ job.span.end - 1 = omega (arith, low) in
          let one : slice_range job.way.now (job.span.end - 1 - 1) (job.span.end - 1) ≡ s ∷ [] =
          slice_more job.way.now (job.span.end - 1 - 1) (job.span.end - 1) s (omega (arith, low)) (omega (arith, e, n)) ∙
          (ap (λ z. z ∷ slice_range job.way.now (job.span.end - 1 - 1 + 1) (job.span.end - 1)) (get_or_from_slice_get job.way.now (job.span.end - 1 - 1) s s at) ∙
          ap (λ z. s ∷ z) (ap (λ i. slice_range job.way.now i (job.span.end - 1)) next ∙ slice_none job.way.now (job.span.end - 1))) in
          subst (λ (z : List PathNode). AreKept (nodes_of b.known.locks) (merged_gone job number leaf) (numbers_of z) × AreApart (numbers_of z)) (sym one) (
            record {
              only = λ i there. over i (subst (λ z. IsOneOf i (nodes_of z)) is there);
              each = λ i there. elim there [
                | inl same ↦ (subst (λ z. IsOneOf i (nodes_of z)) (sym is) (inl same), λ gone. new (subst (λ z. IsOneOf z (number ∷ nodes_of t.before.known.locks)) same (stays_held i (goes_span leaf i gone))))
                | inr nothing ↦ absurd nothing
              ];
            },
            ((λ z. z), tt),
          )
        where
          over : (i : ℕ) → IsOneOf i (s.number ∷ number ∷ nodes_of t.before.known.locks) → IsOneOf i (s.number ∷ []) ⊎ IsOneOf (a_node i) (merged_gone job number leaf)
          over i (inl same) = inl (inl same)
          over i (inr rest) = inr (all_go i rest)

          stays_held : (i : ℕ) → IsOneOf i (span_numbers job.way.now job.span) ⊎ (i ≡ number) → IsOneOf i (number ∷ nodes_of t.before.known.locks)
          stays_held i (inl span) = inr (there i span)
          stays_held i (inr same) = inl same

  pub anchor_wide : IsAnchored (nat_eq (job.span.end - 1) 0) b.known
  anchor_wide = go w.above
    where
      go : LocksAbove (record { node = number; words = w.words } ∷ t.before.known.locks) job.key.now job.way.now job.found (job.span.end - 1) b.known → IsAnchored (nat_eq (job.span.end - 1) 0) b.known
      go (by_anchor top locks anchor) = subst (λ z. IsAnchored z b.known) (sym (eq-eqb (job.span.end - 1) 0 top)) (subst (λ z. IsSome z) (sym anchor) refl)
      go (by_node s low at last free names) = subst (λ z. IsAnchored z b.known) (sym (ne_eqb (job.span.end - 1) 0 (λ e. omega (arith, low, e)))) free

  pub records_wide : AreInTable table.layout (merged_gone job number t.number)
  records_wide =
      All-cons (HasRecord table.layout) (a_node (upper job).number) (a_node (lower job).number ∷ a_node number ∷ a_leaf t.number ∷ []) (upper_range table job t)
      (All-cons (HasRecord table.layout) (a_node (lower job).number) (a_node number ∷ a_leaf t.number ∷ []) (lower_range table job t)
      (All-cons (HasRecord table.layout) (a_node number) (a_leaf t.number ∷ []) w.low
      (leaf_gone_record table t.before t.since job t.number t.value t.below (lower job) (lower_at table job t))))

  -- ---- the store
  -- what names the upper node is locked, and another entry that is no higher may stand there
  pub record HoldsOver (j : Known) (held : List Locked) (at : Spot) : Type 0 where
    pub holds : HoldsAt j held job.key.now (Node (upper job).number (upper job).height) at
    pub fits : (e : Entry) → height_of e ≤ (upper job).height → FitsAt holds e

  pub holds_over : (j : Known) → j.anchor ≡ b.known.anchor → (at : Spot) → IsSpotAbove job.way.now (job.span.end - 1) at → HoldsOver j b.known.locks at
  holds_over j anchored at over = go w.above at over
    where
      names_upper : named job.way.now job.found (job.span.end - 1) ≡ Some (Node (upper job).number (upper job).height)
      names_upper = named_at job.way.now job.found (job.span.end - 1) (upper job) (upper_at table job t)

      go : LocksAbove (record { node = number; words = w.words } ∷ t.before.known.locks) job.key.now job.way.now job.found (job.span.end - 1) b.known → (at : Spot) → IsSpotAbove job.way.now (job.span.end - 1) at → HoldsOver j b.known.locks at
      go (by_anchor top locks anchor) Root over = record {
        holds = at_root (anchored ∙ (anchor ∙ ap Some (ap (named job.way.now job.found) (sym top) ∙ names_upper)));
        fits = λ e low. tt;
      }
      go (by_anchor top locks anchor) (Value l) over = absurd over
      go (by_anchor top locks anchor) (Slot o i) (s, low, at, number_is, place) = absurd (omega (arith, top, low))
      go (by_node s low at last free names) (Value l) over = absurd over
      go (by_node s low at last free names) Root over = absurd (omega (arith, low, over))
      go (by_node s low at ((words, is), new) free names) (Slot o i) (z, some, there, number_is, place) =
          let same : s ≡ z = some_injective (sym at ∙ there) in
          let has : HasLocked b.known s.number words = subst (IsOneOf (record { node = s.number; words = words })) (sym is) (inl refl) in
          let (e, e_is, node) = way_wide.nodes (job.span.end - 1 - 1) s at in
          let next : job.span.end - 1 - 1 + 1 ≡ job.span.end - 1 = omega (arith, low) in
          let shows = way_node_locked table.layout b.known t.since job.key.now s e words w.possible way_wide.since node has in
          let entry_is : e ≡ Node (upper job).number (upper job).height = some_injective (sym e_is ∙ (ap (named job.way.now found) next ∙ named_at job.way.now found (job.span.end - 1) (upper job) (upper_at table job t))) in
          let under : (upper job).height < s.height = subst (λ x. height_of x < s.height) entry_is node.below in
          record {
            holds = in_node o i words (subst (λ n. IsOneOf (record { node = n; words = words }) b.known.locks) (sym (number_is ∙ ap (λ (x : PathNode). x.number) (sym same))) has) (some_injective (sym (names words has) ∙ names_upper))
                (shows.at ∙ (ap (λ (x : PathNode). x.slot) same ∙ sym place));
            fits = λ e low. lower_entry (node_words_of words).fixed.height e (let g = shows.height in omega (arith, low, under, g));
          }

module _ (table : TableView) (b : SeatView) (job : Job) (number : ℕ) (w : HasWiderLocks table b job number) (x : Merge) (same : x.number ≡ number) (is : IsNeighbour b.known job x) where
  abbrev its : IsTaking table job
  its = w.taking

  abbrev above : NodeWords
  above = node_words_of is.words

  abbrev side : AreBeside b.known.locks job.key.now (upper job).number (lower job).number number its.number
  side = (beside_wide table b job number w x same is).0

  upper_high : above.fixed.height ≡ (upper job).height
  upper_high =
      let (e, e_is, node) = (way_wide table b job number w).nodes (job.span.end - 1) (upper job) (upper_at table job its) in
      (way_node_locked table.layout b.known its.since job.key.now (upper job) e is.words w.possible (way_wide table b job number w).since node is.has).height

  pub upper_spot : spot job.key.now above.subtrie ≡ (upper job).slot
  upper_spot =
      let (e, e_is, node) = (way_wide table b job number w).nodes (job.span.end - 1) (upper job) (upper_at table job its) in
      (way_node_locked table.layout b.known its.since job.key.now (upper job) e is.words w.possible (way_wide table b job number w).since node is.has).at

  upper_under : greatest_height (places above.subtrie) < above.fixed.height
  upper_under =
      let (view, node) = locked_node table.layout b.known (upper job).number is.words w.possible is.has in
      subst (λ (z : NodeWords). greatest_height (places z.subtrie) < z.fixed.height) (sym node.shows) (entries_under view node.has.lawful)

  -- the node of both is lower than the upper one
  module _ (view : NodeView) (built : IsBuiltFrom view (merged side)) where
    pub joined_low : view.height < above.fixed.height
    joined_low =
        let p = w.possible in
        let low = merged_low table.layout b.known p.core p.lawful p.layout_is p.knows job.key.now (upper job).number (lower job).number number its.number side in
        let g : greatest_height view.entries ≡ greatest_height (places (merged side)) = ap greatest_height built.lawful.shows.entries_are ∙ ap (λ (z : Subtrie). greatest_height (places z)) built.shows_it in
        let up = ap (λ (ws : List ℕ). (node_words_of ws).fixed.height) (beside_wide table b job number w x same is).2 in
        omega (arith, low, g, built.height_is, up)

    pub joined_stands : (z : ℕ) → StandsBelow above.fixed.height (Node z view.height)
    joined_stands z =
        let (node, has) = locked_node table.layout b.known (upper job).number is.words w.possible is.has in
        let bound = has.has.lawful.bound in
        let tall = ap (λ (y : NodeWords). y.fixed.height) has.shows in
        ((omega (arith, built.height_is), omega (arith, joined_low, tall, bound)), joined_low)

  -- the fork above the two may be closed by its entry
  pub closes_fork : (e : Entry) → StandsBelow above.fixed.height e → ClosesFork b.known job.key.now (record { step = upper job; slot = x.slot; entry = e })
  closes_fork e stands words h =
      subst (λ ws. (spot job.key.now (node_words_of ws).subtrie ≡ (upper job).slot) × ((position : ℕ) × (beside (upper job).slot (node_words_of ws).subtrie ≡ Some (x.slot, position))) × StandsBelow (node_words_of ws).fixed.height e)
      (same_words table.layout b.known (upper job).number is.words words w.possible is.has h)
      (upper_spot, (x.position, ap (λ i. beside i above.subtrie) (sym upper_spot) ∙ is.forks), stands)

  -- all is made
  pub may_merge_into : (made : List Rec) (us : List Made) (z : ℕ) (view : NodeView) (e : Entry) → IsBuilding table b made (us ++ made_of_node z view ∷ []) → HasNodeWords view → IsBuiltFrom view (merged side) →
      IsSide (subtrie_collapsed job.key.now (Node z view.height) above.subtrie) e us → HasEntryWord (Some e) → length made ≤ 2 → MayMergeInto table b made job number e
  may_merge_into made us z view e building has built closed word few = record {
    change = removed_change b.known.pass (item its.number job.key.now its.value);
    was = Some its.value;
    takes = subst (λ f. IsTakeChange b.known.pass job.key.now f (removed_change b.known.pass (item its.number job.key.now its.value)) (Some its.value)) (sym its.found) (refl, refl);
    ends = λ leaf value at found over.
        subst (λ n. MayPublishOnceReady table b made at (entry_word (Some e)) (removed_change b.known.pass (item its.number job.key.now its.value)) (Some its.value) (merged_gone job number n)) (the_leaf leaf value (sym its.found ∙ found)) (ends_at at over);
    few = few;
  }
    where
      the_leaf : (leaf value : ℕ) → Leaf its.number its.value None ≡ Leaf leaf value None → its.number ≡ leaf
      the_leaf leaf value e = cc

      ends_at : (at : Spot) → IsSpotAbove job.way.now (job.span.end - 1) at →
          MayPublishOnceReady table b made at (entry_word (Some e)) (removed_change b.known.pass (item its.number job.key.now its.value)) (Some its.value) (merged_gone job number its.number)
      ends_at at over = record {
        news = us ++ made_of_node z view ∷ [];
        building = building;
        publishes = λ j later ready anchor told.
            let holds = holds_over table b job number w j anchor at over in
            let high = side_low _ e us above.fixed.height closed (collapsed_low job.key.now (Node z view.height) above.subtrie above.fixed.height upper_under (joined_low view built)) in
            subst (λ q. Publishes table.layout j at (entry_word (Some e)) (removed_change q (item its.number job.key.now its.value)) (Some its.value) (merged_gone job number its.number)) later.pass
            (merge table.layout j b.known.locks us job.key.now (upper job).number (lower job).number number its.number z (upper job).height (entry_word (Some e)) its.value view e at ready side (has, built.height_is) built.shows_it
            (subst (λ ws. IsSide (subtrie_collapsed job.key.now (Node z view.height) (node_words_of ws).subtrie) e us) (sym (beside_wide table b job number w x same is).2) closed)
            holds.holds (holds.fits e (omega (arith, high, upper_high)))
            (leaf_there table.layout its.before.known j b.known.locks (us ++ made_of_node z view ∷ []) its.number job.key.now its.value (later_transitive its.before.known b.known j w.later later)
            (has_read table its.before its.since job its.number its.value its.below (lower job) (lower_at table job its)))
            (told_value j (merged_gone job number its.number) its.number its.value told (inr (inr (inr (inl refl))))) (word, refl));
      }

  -- what a node built of both shows
  pub shown_merged : (leaf : ℕ) (s : AreBeside b.known.locks job.key.now (upper job).number (lower job).number number leaf) → s.position ≡ x.position → (node left other : NodeView) →
      ((words : List ℕ) → HasLocked b.known (lower job).number words → IsNodeOf words node) → ((words : List ℕ) → HasLocked b.known number words → IsNodeOf words other) →
      piece left ≡ without (lower job).slot (piece node) → fork_of (bit job.key.now x.position) x.position (piece left) (piece other) ≡ merged s
  shown_merged leaf s at node left other node_is other_is left_is =
      let own = node_is s.lower s.has_lower in
      let (e, e_is, on) = (way_wide table b job number w).nodes job.span.end (lower job) (lower_at table job its) in
      let leads = (way_node_locked table.layout b.known its.since job.key.now (lower job) e s.lower w.possible (way_wide table b job number w).since on s.has_lower).at in
      let sub : (node_words_of s.lower).subtrie ≡ piece node = ap (λ (z : NodeWords). z.subtrie) own.shows in
      let beside_sub : (node_words_of s.other).subtrie ≡ piece other = ap (λ (z : NodeWords). z.subtrie) (other_is s.other s.has_other).shows in
      let spot_is : spot job.key.now (piece node) ≡ (lower job).slot = sym (ap (spot job.key.now) sub) ∙ leads in
      let rest : piece left ≡ subtrie_without job.key.now (node_words_of s.lower).subtrie =
      left_is ∙ (ap (λ i. without i (piece node)) (sym spot_is) ∙ (without_spot job.key.now (piece node) ∙ ap (subtrie_without job.key.now) (sym sub))) in
      ap (λ q. fork_of (bit job.key.now q) q (piece left) (piece other)) (sym at) ∙
      (ap (λ z. fork_of (bit job.key.now s.position) s.position z (piece other)) rest ∙ ap (λ z. fork_of (bit job.key.now s.position) s.position (subtrie_without job.key.now (node_words_of s.lower).subtrie) z) (sym beside_sub))

  -- so its forks rise
  pub joined_rises : (node left other : NodeView) → ((words : List ℕ) → HasLocked b.known (lower job).number words → IsNodeOf words node) → ((words : List ℕ) → HasLocked b.known number words → IsNodeOf words other) →
      piece left ≡ without (lower job).slot (piece node) → RisesFrom 0 (fork_of (bit job.key.now x.position) x.position (piece left) (piece other))
  joined_rises node left other node_is other_is left_is =
      let p = w.possible in
      subst (RisesFrom 0) (sym (shown_merged its.number side (beside_wide table b job number w x same is).1 node left other node_is other_is left_is))
      (merged_rises table.layout b.known p.core p.lawful p.layout_is p.knows job.key.now (upper job).number (lower job).number number its.number side)

-- where they can't be one
same_piece : (words : List ℕ) (a b : NodeView) → IsNodeOf words a → IsNodeOf words b → piece a ≡ piece b
same_piece words a b x y = sym (ap (λ (z : NodeWords). z.subtrie) x.shows) ∙ ap (λ (z : NodeWords). z.subtrie) y.shows

pub too_many : (words also : List ℕ) (own node theirs other left : NodeView) (at : ℕ) → IsNodeOf words own → IsNodeOf words node → IsNodeOf also theirs → IsNodeOf also other → IsBuiltFrom left (without at (piece own)) →
    32 < length left.entries + length theirs.entries → AreNoNode (without at (piece node)) (piece other)
too_many words also own node theirs other left at x y z u built more =
    let shown = ap (λ (p : Subtrie). size p) (built.shows_it ∙ ap (without at) (same_piece words own node x y)) in
    let same = ap (λ (p : Subtrie). size p) (same_piece also theirs other z u) in
    inr (omega (arith, more, shown, same, size-piece left built.lawful, size-piece theirs z.has.lawful))

-- ---- what is left of the upper node
module _ (k : Known) (key : Key) (fork : ClosedFork) (closes : ClosesFork k key fork) (words : List ℕ) (h : HasLocked k fork.step.number words) (view : NodeView) (is : IsNodeOf words view) where
  sub_is : (node_words_of words).subtrie ≡ piece view
  sub_is = ap (λ (z : NodeWords). z.subtrie) is.shows

  leads_is : spot key (piece view) ≡ fork.step.slot
  leads_is = sym (ap (spot key) sub_is) ∙ (closes words h).0

  pub can_close : (loaded : List ℕ) → node_words view ≡ loaded → CanCloseAt loaded view fork.step.slot fork.slot fork.entry
  can_close loaded spells =
      let (leads, (position, forks), stands) = closes words h in
      record {
        has = is.has;
        spells = spells;
        in_range = (let low : fork.step.slot < size (piece view) = subst (λ i. i < size (piece view)) leads_is (spot_below key (piece view)) in omega (arith, low, size-piece view is.has.lawful));
        position = position;
        is_beside = ap (beside fork.step.slot) (sym sub_is) ∙ forks;
        stands = subst (λ (z : NodeWords). StandsBelow z.fixed.height fork.entry) is.shows stands;
      }

  pub closed_shown : collapsed fork.step.slot fork.entry (piece view) ≡ subtrie_collapsed key fork.entry (node_words_of words).subtrie
  closed_shown = ap (λ i. collapsed i fork.entry (piece view)) (sym leads_is) ∙ (collapsed_spot key fork.entry (piece view) ∙ ap (subtrie_collapsed key fork.entry) (sym sub_is))

pub closed_over : (table : TableView) (c : SeatView) (made : List Rec) (news : List Made) (view : NodeView) (shown other : Subtrie) (answer : Option Entry) → shown ≡ other → IsBuiltFrom view shown → HasNodeWords view →
    MatchOption answer (HasNotMade table c made) (λ e. (m : ℕ) × (e ≡ Node m view.height) × IsBuilding table c made (made_of_node m view ∷ news)) →
    IfSome answer (λ e. (us : List Made) × IsSide other e us × IsBuilding table c made (us ++ news))
closed_over table c made news view shown other None is built has none = tt
closed_over table c made news view shown other (Some e) is built has (m, e_is, building) =
    (made_of_node m view ∷ [], subst (λ z. IsSide other z (made_of_node m view ∷ [])) (sym e_is) (anew m view (has, built.height_is) (built.shows_it ∙ is)), building)

pub entry_height : (e : Entry) → IsEntry e → HasHeight e
entry_height (LeafEntry n) h = tt
entry_height (Node n g) h = (h.0, omega (arith, h.1))

pub closed_height : (view : NodeView) (shown : Subtrie) (answer : Option Entry) (none : Type 0) (Q : ℕ → Type 0) → IsBuiltFrom view shown → MatchOption answer none (λ e. (m : ℕ) × (e ≡ Node m view.height) × Q m) → IfSome answer HasHeight
closed_height view shown None none Q built made = tt
closed_height view shown (Some e) none Q built (m, is, rest) = subst HasHeight (sym is) (omega (arith, built.height_is), omega (arith, built.lawful.bound))

-- ---- one node of the two, some loads later
module _ {G : Type 0} (table : TableView) (becomes : G → Event → G → Type 0) (a b : SeatView × G) (job : Job) (x : Merge) (goes : WorksOn table becomes a b) (w : HasWiderLocks table a.0 job x.number) (is : IsNeighbour a.0.known job x) (view : NodeView)
    (joined : (leaf : ℕ) (s : AreBeside a.0.known.locks job.key.now (upper job).number (lower job).number x.number leaf) → s.position ≡ x.position → IsBuiltFrom view (merged s)) where
  abbrev pub wide_now : HasWiderLocks table b.0 job x.number
  wide_now = wide_on table becomes a b job x.number goes w

  abbrev pub beside_now : IsNeighbour b.0.known job x
  beside_now = beside_on a.0.known b.0.known job x goes.stays.1 is

  pub merged_for : IsBuiltFrom view (merged (beside_wide table b.0 job x.number wide_now x refl beside_now).0)
  merged_for =
      let s = beside_wide table b.0 job x.number wide_now x refl beside_now in
      let (z, same, at) = moved {held = a.0.known.locks} {kept = b.0.known.locks} goes.stays.1 s.0 in
      subst (IsBuiltFrom view) same (joined w.taking.number z (at ∙ s.1))

  -- the fork, and its entry of this height in this record
  abbrev pub fork_at : (n h : ℕ) → ClosedFork
  fork_at n h = record { step = upper job; slot = x.slot; entry = Node n h }

  pub closes_for : (n : ℕ) → ClosesFork b.0.known job.key.now (fork_at n view.height)
  closes_for n = closes_fork table b.0 job x.number wide_now x refl beside_now (Node n view.height) (joined_stands table b.0 job x.number wide_now x refl beside_now view merged_for n)

  -- with the records for what is left of the upper one
  pub closed_made : (made after : List Rec) (n h : ℕ) (e : Entry) (c : SeatView) → h ≡ view.height → IsBuilding table b.0 made (made_of_node n view ∷ []) →
      ((key : Key) (words : List ℕ) (news : List Made) → ClosesFork b.0.known key (fork_at n h) → HasLocked b.0.known (upper job).number words → IsBuilding table b.0 made news →
      (us : List Made) × IsSide (subtrie_collapsed key (Node n h) (node_words_of words).subtrie) e us × IsBuilding table c after (us ++ news)) →
      (us : List Made) × IsSide (subtrie_collapsed job.key.now (Node n view.height) (node_words_of is.words).subtrie) e us × IsBuilding table c after (us ++ made_of_node n view ∷ [])
  closed_made made after n h e c high building raised =
      let (us, side, built) = raised job.key.now beside_now.words (made_of_node n view ∷ []) (subst (λ z. ClosesFork b.0.known job.key.now (fork_at n z)) (sym high) (closes_for n)) beside_now.has building in
      (us, subst (λ z. IsSide (subtrie_collapsed job.key.now (Node n z) (node_words_of is.words).subtrie) e us) high side, built)

-- so under the wider locks
pub beside_wider : (table : TableView) (k : Known) (b : SeatView) (job : Job) (x : Merge) (w : HasWiderLocks table b job x.number) → w.taking.before.known.locks ≡ k.locks → IsNeighbour k job x → IsNeighbour b.known job x
beside_wider table k b job x w same is = record {
  words = is.words;
  has = held_wide table b job x.number w (upper job).number is.words (locked_on k w.taking.before.known (upper job).number is.words same is.has);
  forks = is.forks;
  height = is.height;
  sibling = is.sibling;
}

-- ---- the end of a removal
pub is_taking : (table : TableView) (a : SeatView) (job : Job) → HasTakenPlan table a job Take → 0 < job.span.end → (t : IsTaking table job) × (t.before ≡ a)
is_taking table a job (m, aim, taken, planned) some =
    let (number, value, found_is, below) = taken_below table a m job aim Take tt taken planned (let w = taken.within.0 in omega (arith, w, some)) in
    (record { before = a; since = m; number = number; value = value; found = found_is; below = below; some = some }, refl)

-- it goes on once what is left of the lower node is made
pub takes_taken : {G : Type 0} (table : TableView) (becomes : G → Event → G → Type 0) (a b : SeatView × G) (job : Job) → WorksOn table becomes a b → HasTakenPlan table a.0 job Take → 0 < job.span.end → TakesOn table b.0 job
takes_taken table becomes a b job goes taken some =
    let (t, same) = is_taking table a.0 job taken some in
    (t, seat_of table becomes a b goes taken.2.seat, goes_possible table becomes a b goes taken.2.possible, subst (λ z. StaysLocked z.known b.0.known) (sym same) goes.stays)

-- a change goes on under the locks of its span
pub holds_on : {G : Type 0} (table : TableView) (becomes : G → Event → G → Type 0) (a b : SeatView × G) (job : Job) (deed : Deed) → WorksOn table becomes a b → HasTakenPlan table a.0 job deed → HoldsSpan table b.0 job
holds_on table becomes a b job deed goes (m, aim, t, planned) = record {
  seat = seat_of table becomes a b goes t.seat;
  possible = goes_possible table becomes a b goes t.possible;
  within = t.within;
  from = (m, way_later table.layout a.0.known b.0.known m job.key.now job.way.now job.found goes.stays.0 t.way_of);
  locked = span_later a.0.known b.0.known job.way.now job.span goes.stays.1 goes.stays.2 t.locked;
}

merge_told : (k : Known) (q : ℕ) (job : Job) (number leaf value : ℕ) (x : Change) (was : Option ℕ) → job.found ≡ FoundLeaf leaf value None → IsTakeChange q job.key.now job.found x was → HasLoadedFound k job.found →
    KnowsWas k (merged_gone job number leaf) was
merge_told k q job number leaf value x was is takes loaded other (inl e) = absurd cc
merge_told k q job number leaf value x was is takes loaded other (inr (inl e)) = absurd cc
merge_told k q job number leaf value x was is takes loaded other (inr (inr (inl e))) = absurd cc
merge_told k q job number leaf value x was is takes loaded other (inr (inr (inr (inl e)))) =
    let same : other ≡ leaf = cc in
    (value, take_was q job.key.now job.found x was leaf value is takes, subst (λ n. HasLoaded k n value) (sym same) (loaded leaf value is))
merge_told k q job number leaf value x was is takes loaded other (inr (inr (inr (inr h)))) = absurd h

-- for a removal that merges
pub merge_store : (table : TableView) (a : SeatView) (build : Build) (shown : List PathNode) (job : Job) (number : ℕ) (e : Entry) (spot : Spot) (w : HasWiderLocks table a job number) (may : MayMergeInto table a build.made.items job number e) → HasLoadedFound a.known job.found →
    HasListed build.gone.items job number → shown ≡ slice_range job.way.now (job.span.end - 1 - 1) (job.span.end - 1) → IsSpotAbove job.way.now (job.span.end - 1) spot → MayStore table a build shown spot (Some e) may.change may.was
merge_store table a build shown job number e spot w may loaded listed kept_is over =
    let t = w.taking in
    let way = t.below.taken.way_of in
    store_of table a build job.way.now (slice_range job.way.now (job.span.end - 1 - 1) (job.span.end - 1)) shown (job.span.end - 1) spot (Some e) _ may.change may.was (merge_told a.known a.known.pass job number t.number t.value may.change may.was t.found may.takes loaded) (listed t.number t.value t.found) kept_is over
    (may.ends t.number t.value spot t.found over) (spot_there table.layout t.before.known t.since job.key.now job.way.now _ way (job.span.end - 1) spot over) (records_wide table a job number w)
    (range_nodes table.layout job.way.now (job.span.end - 1 - 1) (job.span.end - 1) (step_nodes table.layout t.before.known t.since job.key.now job.way.now _ way)) (kept_wide table a job number w t.number) (anchor_wide table a job number w)
