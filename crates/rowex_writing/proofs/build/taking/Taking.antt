-- From what a pass knows under its locks to the publish of a removal.
use Rattle.rowex_writing.proofs.Common.{◌≡◌, inl, inr, ℕ, ◌+◌, ◌-◌, ◌<◌, ◌≤◌, Bool, true, false, List, [], ◌∷◌, ◌++◌, get_or, length, take, drop, Option, Some, None, refl, sym, ap, subst, ◌∙◌, arith, map, All, slice_get, slice_range, Contains, All-cons, get_or_from_slice_get, slice_get-get_or, NodeView, IsEntry, height_of, piece, greatest_height, Entry, LeafEntry, Node, MapChange, PathNode, some_injective, Place, Fork, places, Layout, HasEntryWord, entry_word, Key, bit, joined, subtrie_without, spot, seek, Subtrie, leaf, NodeWords, Rec, a_node, a_leaf, IsOneOf, all_of, none_of, of_append, of_left, of_right, Spot, Root, Slot, Value, Known, Locked, HasRecord, node_words_of, IsPacked, IsRead, removed_change, IsLater, Made, Publishes, TableView, SeatView, IsSeatOf, IsPossible, Sure, read_stable, since_later, led_in_table, IsSide, one, anew, HasLoaded, HasReady, IsLeafThere, later_transitive, leaf_stays, remove, remove_the_last, seen_is_sure, sure_stays, Case, LeafPushdown, NormalInsert, Overflow, Choice, IsWayOf, named_at, named_end, way_later, Found, Nothing, Leaf, FoundLeaf, item, Held, IsClaimed, same_rec, same_rec_refl, Event, SetsAll, fill_with}
use Rattle.std.specs.Prelude.{if◌then◌else◌}
use Rattle.rowex_writing.specs.build.Building.{IsBuilding}
use Rattle.rowex_writing.specs.build.Changes.{MayPublishOnceReady, KnowsWas}
use Rattle.rowex_writing.specs.locks.Checks.{HasTakenSpan}
use Rattle.rowex_writing.specs.plan.Planned.{IsPlanned}
use Rattle.rowex_writing.specs.plan.Plans.{change, IsCase, IsNewLeafPlan, IsPlan, TakesLeaf, removal_deed}
use Rattle.rowex_writing.specs.declared.plan.Aim.{Aim}
use Rattle.rowex_writing.specs.declared.plan.Aim.TheVariants.{Insert, Upsert, Remove}
use Rattle.rowex_writing.specs.declared.plan.Deed.{Deed}
use Rattle.rowex_writing.specs.declared.plan.Deed.TheVariants.{Empty, Take, TakeTop}
use Rattle.rowex_writing.specs.declared.plan.Plan.{Plan}
use Rattle.rowex_writing.specs.declared.plan.Plan.TheVariants.{Answer, Change}
use Rattle.rowex_writing.specs.locks.Going.{HasLocked, IsLockedBy, LeadsLocked}
use Rattle.rowex_writing.specs.locks.Locks.{numbers_of}
use Rattle.rowex_writing.specs.build.Putting.{IsSpotAbove, AreInTable}
use Rattle.rowex_writing.specs.build.Taking.{HasLeafBelow, HasOnlyLeaf, HasReadLeaf, TakesOn, HasHeight, lower, HasClaimed}
use Rattle.rowex_writing.specs.declared.plan.job.Job.{Job}
use Rattle.rowex_writing.proofs.build.Above.{locked_at, holds_above}
use Rattle.rowex_writing.proofs.locks.Going.{locked_node, seat_of}
use Rattle.rowex_writing.proofs.plan.Plans.{below_taking, none_taking, same_deed, same_span, top_taking}
use Rattle.rowex_writing.proofs.locks.Shapes.{way_node_locked}
use Rattle.rowex_writing.proofs.locks.Spans.{slice_more, slice_none}
use Rattle.rowex_writing.specs.build.Growths.{HasNumber}
use Rattle.rowex_writing.specs.build.Deeds.{MayReplace}
use Rattle.rowex_writing.proofs.build.remaking.Remaking.{left_under}
use Rattle.rowex_writing.proofs.build.Building.{goes_possible, set_all_on}

-- ---- the leaf
-- in each stage it has the key
pub leaf_there : (layout : Layout) (k j : Known) (held : List Locked) (news : List Made) (number : ℕ) (key : Key) (value : ℕ) → IsLater k j → HasReadLeaf k number key value → IsLeafThere layout j held news number key
leaf_there layout k j held news number key value later (m, pinned, read) =
    leaf_stays layout j held news m number key value (since_later later pinned)
    (sure_stays k j (λ s. IsRead s m number key value) later (seen_is_sure k (λ s. IsRead s m number key value) (read_stable m number key value) read))

-- and the value that was loaded of what goes
pub told_value : (j : Known) (gone : List Rec) (n value : ℕ) → KnowsWas j gone (Some value) → IsOneOf (a_leaf n) gone → HasLoaded j n value
told_value j gone n value told i =
    let (v, is, loaded) = told n i in let same : value ≡ v = cc in subst (HasLoaded j n) (sym same) loaded

-- it is one of the table's
pub leaf_record : (layout : Layout) (k : Known) (number : ℕ) (key : Key) (value : ℕ) → IsPossible layout k → HasReadLeaf k number key value → number < layout.leaves
leaf_record layout k number key value possible (m, pinned, read) =
    led_in_table layout k m (LeafEntry number) possible (pinned, λ c lawful known. let (n, low, high, stands) = read c lawful known in (n, leaf number key value, low, high, stands, refl))

-- ---- the root's only leaf
module _ (table : TableView) (a : SeatView) (number : ℕ) (key : Key) (value : ℕ) (o : HasOnlyLeaf table a number key value) where
  pub may_empty : (way : List PathNode) (end : ℕ) → end ≡ 0 → (spot : Spot) → IsSpotAbove way end spot → MayPublishOnceReady table a [] spot 0 (removed_change a.known.pass (item number key value)) (Some value) (a_leaf number ∷ [])
  may_empty way end top (Slot n i) (s, low, there, number_is, place) = absurd (omega (arith, top, low))
  may_empty way end top (Value l) over = absurd over
  may_empty way end top Root over = record {
    news = [];
    building = record { seat = o.seat; possible = o.possible; holds = (o.own, tt); packed = tt; listed = refl };
    publishes = λ j later ready anchor told. subst (λ q. Publishes table.layout j Root 0 (removed_change q (item number key value)) (Some value) (a_leaf number ∷ [])) later.pass
        (remove_the_last table.layout j a.known.locks number value key ready (anchor ∙ o.anchor) (leaf_there table.layout a.known j a.known.locks [] number key value later o.read) (told_value j (a_leaf number ∷ []) number value told (inl refl)));
  }

  pub only_records : AreInTable table.layout (a_leaf number ∷ [])
  only_records = All-cons (HasRecord table.layout) (a_leaf number) [] (leaf_record table.layout a.known number key value o.possible o.read) (λ i d low. absurd (omega arith))

-- ---- the way
-- what stands past its end
abbrev pub no_step : PathNode
no_step = record { number = 0; height = 0; first_position = 0; count = 0; slot = 0 }

-- the last node of the way that a leaf below it leaves
pub low_step : (table : TableView) (a : SeatView) (m : ℕ) (job : Job) (number value : ℕ) → HasLeafBelow table a m job number value → slice_get job.way.now job.span.end ≡ Some (get_or job.way.now job.span.end no_step)
low_step table a m job number value b = slice_get-get_or job.way.now job.span.end no_step (let e = b.last in let n = b.len in omega (arith, e, n))

-- ---- the plan
-- a plan by which a leaf goes
abbrev IsTakePlan : Plan → Type 0
IsTakePlan (Answer reply) = ⊥
IsTakePlan (Change span deed) = TakesLeaf deed

-- the span of such a plan is the last node of the way, and the found leaf has the key
pub record IsTakeOf (way : List PathNode) (found : Found) (len end : ℕ) (deed : Deed) : Type 0 where
  pub number : ℕ
  pub value : ℕ
  pub found_is : found ≡ Leaf number value None
  pub len_is : len ≡ length way
  pub end_is : end ≡ length way - 1
  pub deed_is : deed ≡ removal_deed way

no_take : (plan other : Plan) → plan ≡ other → IsTakePlan plan → (IsTakePlan other → ⊥) → ⊥
no_take plan other is takes never = never (subst IsTakePlan is takes)

case_takes : (way : List PathNode) (p : ℕ) (c : Choice) (case : Case) (plan : Plan) → IsCase way p c case plan → IsTakePlan plan → ⊥
case_takes way p c LeafPushdown plan is take = no_take plan _ is take (λ z. z)
case_takes way p c NormalInsert plan is take = no_take plan _ is take (λ z. z)
case_takes way p c Overflow plan is take = no_take plan _ is.2 take (λ z. z)

new_takes : (way : List PathNode) (p first last : ℕ) (plan : Plan) → IsNewLeafPlan way p first last plan → IsTakePlan plan → ⊥
new_takes [] p first last plan is take = no_take plan _ is take (λ z. z)
new_takes (s ∷ way) p first last plan is take = let beside = is.2 in case_takes (s ∷ way) p beside.0 beside.0.case plan beside.2 take

plan_takes : (way : List PathNode) (first last : ℕ) (aim : Aim) (found : Found) (len end : ℕ) (deed : Deed) → TakesLeaf deed → IsPlan way first last aim found (change len end deed) → IsTakeOf way found len end deed
plan_takes way first last Insert Nothing len end deed takes is = absurd (no_take (change len end deed) _ is takes (λ z. z))
plan_takes way first last Upsert Nothing len end deed takes is = absurd (no_take (change len end deed) _ is takes (λ z. z))
plan_takes way first last Insert (Leaf n v (Some p)) len end deed takes is = absurd (new_takes way p first last (change len end deed) is takes)
plan_takes way first last Upsert (Leaf n v (Some p)) len end deed takes is = absurd (new_takes way p first last (change len end deed) is takes)
plan_takes way first last Insert (Leaf n v None) len end deed takes is = absurd (no_take (change len end deed) _ is takes (λ z. z))
plan_takes way first last Upsert (Leaf n v None) len end deed takes is = absurd (no_take (change len end deed) _ is takes (λ z. z))
plan_takes way first last Remove Nothing len end deed takes is = absurd (no_take (change len end deed) _ is takes (λ z. z))
plan_takes way first last Remove (Leaf n v (Some p)) len end deed takes is = absurd (no_take (change len end deed) _ is takes (λ z. z))
plan_takes way first last Remove (Leaf n v None) len end deed takes is = record { number = n; value = v; found_is = refl; len_is = (same_span is).0; end_is = (same_span is).1; deed_is = same_deed is }

module _ (table : TableView) (a : SeatView) (m : ℕ) (job : Job) (aim : Aim) (deed : Deed) (takes : TakesLeaf deed) (taken : HasTakenSpan table a m job.key.now job.way.now job.found job.span)
    (planned : IsPlanned a.known m job.key.now job.way.now aim job.found (change job.span.len job.span.end deed)) (number value : ℕ) (mismatch : Option ℕ) (is_leaf : job.found ≡ Leaf number value mismatch) where
  the_plan : IsTakeOf job.way.now job.found job.span.len job.span.end deed
  the_plan = let (first, last, is, affected) = planned in plan_takes job.way.now first last aim job.found job.span.len job.span.end deed takes is

  pub found_key : job.found ≡ Leaf number value None
  found_key =
      let both : Leaf number value mismatch ≡ Leaf the_plan.number the_plan.value None = sym is_leaf ∙ the_plan.found_is in
      let none : mismatch ≡ None = cc in
      is_leaf ∙ ap (λ o. Leaf number value o) none

  found_span : HasTakenSpan table a m job.key.now job.way.now (Leaf number value None) job.span
  found_span = subst (λ f. HasTakenSpan table a m job.key.now job.way.now f job.span) found_key taken

  -- a way with a node
  pub take_below : 0 < job.span.len → HasLeafBelow table a m job number value
  take_below some = record { taken = found_span; is_found = found_key; len = the_plan.len_is; last = (let e = the_plan.end_is in let n = the_plan.len_is in omega (arith, e, n, some)) }

  no_locks : (n : ℕ) → job.span.len ≡ 0 → IsOneOf n (numbers_of (slice_range job.way.now (job.span.end - 1) job.span.len)) → ⊥
  no_locks n low i =
      let none : job.span.len - (job.span.end - 1) ≡ 0 = omega (arith, low) in
      absurd (subst (λ z. IsOneOf n (numbers_of (take z (drop (job.span.end - 1) job.way.now)))) none i)

  -- a way of none
  pub take_only : job.span.len ≤ 0 → HasOnlyLeaf table a number job.key.now value × (job.span.end ≡ 0) × (job.span.len ≡ 0)
  take_only none =
      let t = found_span in
      let n = the_plan.len_is in
      let e = the_plan.end_is in
      let empty : length job.way.now ≡ 0 = omega (arith, n, none) in
      let top : job.span.end ≡ 0 = omega (arith, e, empty) in
      let low : job.span.len ≡ 0 = omega (arith, none) in
      let (l, read, same) = t.way_of.found_at in (
        record {
          seat = t.seat;
          possible = t.possible;
          own = t.own;
          locks = none_of a.known.locks (λ l there. no_locks l.node low (t.locked.nodes.0.only l there));
          anchor = t.checked.root top ∙ ap Some (named_end job.way.now (Leaf number value None) 0 (omega (arith, empty)));
          read = (m, t.way_of.since, subst (λ z. Sure a.known (λ past. IsRead past m number z value)) (sym same) read);
        },
        top,
        low,
      )

-- so on a way with a node, whatever the search found
pub taken_below : (table : TableView) (a : SeatView) (m : ℕ) (job : Job) (aim : Aim) (deed : Deed) → TakesLeaf deed → HasTakenSpan table a m job.key.now job.way.now job.found job.span → IsPlanned a.known m job.key.now job.way.now aim job.found (change job.span.len job.span.end deed) → 0 < job.span.len →
    (number : ℕ) × (value : ℕ) × (job.found ≡ Leaf number value None) × HasLeafBelow table a m job number value
taken_below table a m job aim deed takes taken planned some =
    let (first, last, is, affected) = planned in
    let p = plan_takes job.way.now first last aim job.found job.span.len job.span.end deed takes is in
    (p.number, p.value, p.found_is, take_below table a m job aim deed takes taken planned p.number p.value None p.found_is some)

-- by its deed the way has several nodes, one, or none
module _ (k : Known) (m : ℕ) (job : Job) (aim : Aim) (deed : Deed) (takes : TakesLeaf deed) (planned : IsPlanned k m job.key.now job.way.now aim job.found (change job.span.len job.span.end deed)) where
  of_plan : IsTakeOf job.way.now job.found job.span.len job.span.end deed
  of_plan = let (first, last, is, affected) = planned in plan_takes job.way.now first last aim job.found job.span.len job.span.end deed takes is

  pub found_leaf : (number : ℕ) × (value : ℕ) × (job.found ≡ Leaf number value None)
  found_leaf = (of_plan.number, of_plan.value, of_plan.found_is)

  pub take_above : deed ≡ Take → 0 < job.span.end
  take_above e = let n = below_taking job.way.now (sym e ∙ of_plan.deed_is) in let same = of_plan.end_is in omega (arith, n, same)

  pub take_top : deed ≡ TakeTop → 0 < job.span.len
  take_top e = let n = top_taking job.way.now (sym e ∙ of_plan.deed_is) in let same = of_plan.len_is in omega (arith, n, same)

  pub take_all : deed ≡ Empty → job.span.len ≤ 0
  take_all e = let n = none_taking job.way.now (sym e ∙ of_plan.deed_is) in let same = of_plan.len_is in omega (arith, n, same)

-- ---- entries
-- a node's height is at least 1
abbrev pub IsRaised : Entry → Type 0
IsRaised (LeafEntry n) = Unit {0}
IsRaised (Node n h) = 1 ≤ h

entry_raised : (e : Entry) → IsEntry e → IsRaised e
entry_raised (LeafEntry n) h = tt
entry_raised (Node n g) h = h.0

-- what is left of a subtrie was on it
joined_of : (q : ℕ) (b : Bool) (x y r : Subtrie) (e : Entry) → (IsOneOf e (places r) → IsOneOf e (places (if b then y else x))) → IsOneOf e (places (joined q b x y r)) → IsOneOf e (places x ++ places y)
joined_of q true x (Place d) r e f h = of_left e (places x) (d ∷ []) h
joined_of q true x (Fork p a b) r e f h = elim (of_append e (places x) (places r) h) [ inl i ↦ of_left e (places x) (places a ++ places b) i | inr i ↦ of_right e (places x) (places a ++ places b) (f i) ]
joined_of q false (Place d) y r e f h = of_right e (d ∷ []) (places y) h
joined_of q false (Fork p a b) y r e f h = elim (of_append e (places r) (places y) h) [ inl i ↦ of_left e (places a ++ places b) (places y) (f i) | inr i ↦ of_right e (places a ++ places b) (places y) i ]

left_of : (k : Key) (x : Subtrie) (e : Entry) → IsOneOf e (places (subtrie_without k x)) → IsOneOf e (places x)
left_of k (Place d) e h = h
left_of k (Fork q x y) e h = sides (left_of k x e) (left_of k y e) (bit k q) h
  where
    sides : (IsOneOf e (places (subtrie_without k x)) → IsOneOf e (places x)) → (IsOneOf e (places (subtrie_without k y)) → IsOneOf e (places y)) → (b : Bool) →
        IsOneOf e (places (joined q b x y (if b then subtrie_without k y else subtrie_without k x))) → IsOneOf e (places x ++ places y)
    sides f g true h = joined_of q true x y (subtrie_without k y) e g h
    sides f g false h = joined_of q false x y (subtrie_without k x) e f h

side_raised : (k : Key) (view : NodeView) (e : Entry) (news : List Made) → All IsEntry (places (piece view)) → IsSide (subtrie_without k (piece view)) e news → IsRaised e
side_raised k view e news all (one d is) = entry_raised e (all_of IsEntry e (places (piece view)) all (left_of k (piece view) e (subst (λ (z : Subtrie). IsOneOf e (places z)) (sym is) (inl refl))))
side_raised k view e news all (anew m made is shows) = let high = is.1 in omega (arith, high)

-- so the entry for what is left has a height
pub left_raised : (layout : Layout) (k : Known) (n : ℕ) (words : List ℕ) (key : Key) (e : Entry) (news : List Made) → IsPossible layout k → HasLocked k n words → IsSide (subtrie_without key (node_words_of words).subtrie) e news → IsRaised e
left_raised layout k n words key e news possible h side =
    let (view, is) = locked_node layout k n words possible h in
    side_raised key view e news (subst (All IsEntry) is.has.lawful.shows.entries_are is.has.lawful.children) (subst (λ (z : Subtrie). IsSide (subtrie_without key z) e news) (ap (λ (z : NodeWords). z.subtrie) is.shows) side)

-- ---- the node that names the leaf
module _ (table : TableView) (a : SeatView) (m : ℕ) (job : Job) (number value : ℕ) (b : HasLeafBelow table a m job number value) (s : PathNode) (at : slice_get job.way.now job.span.end ≡ Some s) where
  abbrev found : Found
  found = Leaf number value None

  w : IsWayOf table.layout a.known m job.key.now job.way.now found
  w = b.taken.way_of

  pub has_read : HasReadLeaf a.known number job.key.now value
  has_read = let (l, read, same) = w.found_at in (m, w.since, subst (λ z. Sure a.known (λ past. IsRead past m number z value)) (sym same) read)

  pub lowest_locked : IsLockedBy a.known s.number
  lowest_locked = locked_at a.known job.way.now job.span b.taken.locked job.span.end s (omega arith) (let e = b.last in omega (arith, e)) at

  -- the key's search takes the same entry in it as it did before
  pub lowest_leads : LeadsLocked a.known s.number job.key.now s.slot
  lowest_leads words h = let (e, is, node) = w.nodes job.span.end s at in (way_node_locked table.layout a.known m job.key.now s e words b.taken.possible w.since node h).at

  pub low_names : (words : List ℕ) → HasLocked a.known s.number words → seek job.key.now (node_words_of words).subtrie ≡ LeafEntry number
  low_names words h =
      let e = b.last in
      let n = b.len in
      let checked = b.taken.checked.entries job.span.end s (omega arith) (omega (arith, e)) at words h in
      some_injective (sym checked ∙ named_end job.way.now found (job.span.end + 1) (omega (arith, e, n)))

  pub leaf_gone_record : AreInTable table.layout (a_leaf number ∷ [])
  leaf_gone_record = All-cons (HasRecord table.layout) (a_leaf number) [] (leaf_record table.layout a.known number job.key.now value b.taken.possible has_read) (λ i d low. absurd (omega arith))

  -- it is the last one of the span
  pub last_one : slice_range job.way.now job.span.end job.span.len ≡ s ∷ []
  last_one =
      let e = b.last in
      let n = b.len in
      slice_more job.way.now job.span.end job.span.len s (omega (arith, e)) (omega (arith, n)) ∙
      (ap (λ z. z ∷ slice_range job.way.now (job.span.end + 1) job.span.len) (get_or_from_slice_get job.way.now job.span.end s s at) ∙
      ap (λ z. s ∷ z) (ap (λ i. slice_range job.way.now i job.span.len) e ∙ slice_none job.way.now job.span.len))

  -- what is left may take the node's place
  module _ (c : SeatView) (made : List Rec) (news : List Made) (words : List ℕ) (h : HasLocked a.known s.number words) (e : Entry) (stays : IsLater a.known c.known × (c.known.locks ≡ a.known.locks) × (c.known.anchor ≡ a.known.anchor)) (building : IsBuilding table c made news)
      (side : IsSide (subtrie_without job.key.now (node_words_of words).subtrie) e news) (low : height_of e ≤ (node_words_of words).fixed.height) (word : HasEntryWord (Some e)) where
    abbrev gone : List Rec
    gone = a_node s.number ∷ a_leaf number ∷ []

    abbrev gone_change : ℕ → MapChange
    gone_change q = removed_change q (item number job.key.now value)

    publishes : (spot : Spot) → IsSpotAbove job.way.now job.span.end spot → (j : Known) → IsLater c.known j → HasReady j c.known.locks news → j.anchor ≡ c.known.anchor → KnowsWas j gone (Some value) → Publishes table.layout j spot (entry_word (Some e)) (gone_change j.pass) (Some value) gone
    publishes spot is j later ready anchor told =
        let t = b.taken in
        let above = holds_above table.layout a.known m job.key.now job.way.now found job.span t.possible w t.locked t.checked t.within.0 (Node s.number s.height) (named_at job.way.now found job.span.end s at) j c.known.locks stays.1 (anchor ∙ stays.2) spot is in
        let (f, f_is, own) = w.nodes job.span.end s at in
        let node = way_node_locked table.layout a.known m job.key.now s f words t.possible w.since own h in
        remove table.layout j c.known.locks news job.key.now s.number number s.height (entry_word (Some e)) value e words spot ready side (subst (IsOneOf (record { node = s.number; words = words })) (sym stays.1) h) (low_names words h)
        above.holds (above.fits e (λ u on. let falls = on.node.below in omega (arith, low, falls, node.height)))
        (leaf_there table.layout a.known j c.known.locks news number job.key.now value (later_transitive a.known c.known j stays.0 later) has_read) (told_value j gone number value told (inr (inl refl))) (word, refl)

    pub may_remake : (spot : Spot) → IsSpotAbove job.way.now job.span.end spot → MayPublishOnceReady table c made spot (entry_word (Some e)) (gone_change c.known.pass) (Some value) gone
    may_remake spot is = record {
      news = news;
      building = building;
      publishes = λ j later ready anchor told. subst (λ q. Publishes table.layout j spot (entry_word (Some e)) (gone_change q) (Some value) gone) later.pass (publishes spot is j later ready anchor told);
    }

-- some steps later the way is as it was
pub way_on : (table : TableView) (a : SeatView) (job : Job) (takes : TakesOn table a job) → IsWayOf table.layout a.known takes.0.since job.key.now job.way.now (Leaf takes.0.number takes.0.value None)
way_on table a job (t, seat, possible, stays) = way_later table.layout t.before.known a.known t.since job.key.now job.way.now (Leaf t.number t.value None) stays.0 t.below.taken.way_of

-- an entry for a subtrie of lower ones is no higher
pub side_low : (x : Subtrie) (e : Entry) (us : List Made) (h : ℕ) → IsSide x e us → greatest_height (places x) < h → height_of e ≤ h
side_low x e us h (one d is) low = let g = ap (λ (z : Subtrie). greatest_height (places z)) is in omega (arith, low, g)
side_low x e us h (anew m view built is) low =
    let g : greatest_height view.entries ≡ greatest_height (places x) = ap greatest_height built.0.lawful.shows.entries_are ∙ ap (λ (z : Subtrie). greatest_height (places z)) is in
    let high = built.1 in
    omega (arith, low, g, high)

-- so it has a word
pub word_of : (e : Entry) → HasNumber e → HasHeight e → HasEntryWord (Some e)
word_of (LeafEntry n) number high = omega (arith, number)
word_of (Node n h) number high = (omega (arith, number), high.0, omega (arith, high.1))

module _ (table : TableView) (a : SeatView) (m : ℕ) (job : Job) (number value : ℕ) (b : HasLeafBelow table a m job number value) where
  -- no higher than the node
  left_fits : (words : List ℕ) → HasLocked a.known (lower job).number words → (e : Entry) (news : List Made) → IsSide (subtrie_without job.key.now (node_words_of words).subtrie) e news →
      height_of e ≤ (node_words_of words).fixed.height
  left_fits words h e news side =
      let (view, is) = locked_node table.layout a.known (lower job).number words b.taken.possible h in
      side_low (subtrie_without job.key.now (node_words_of words).subtrie) e news (node_words_of words).fixed.height side
      (subst (λ (z : NodeWords). greatest_height (places (subtrie_without job.key.now z.subtrie)) < z.fixed.height) (sym is.shows) (left_under job.key.now view is.has.lawful))

  pub replaces_alone : (c : SeatView) (made : List Rec) (news : List Made) (words : List ℕ) → HasLocked a.known (lower job).number words → (e : Entry) → IsLater a.known c.known × (c.known.locks ≡ a.known.locks) × (c.known.anchor ≡ a.known.anchor) → IsBuilding table c made news →
      IsSide (subtrie_without job.key.now (node_words_of words).subtrie) e news → HasEntryWord (Some e) → length made ≤ 1 →
      MayReplace table c made job (record { entry = Some e; low = job.span.len; leaf = Some number }) (removed_change a.known.pass (item number job.key.now value)) (Some value)
  replaces_alone c made news words h e stays building side word few =
      let at = low_step table a m job number value b in
      let last = b.last in
      let gone = ap (λ (steps : List PathNode). map (λ (s : PathNode). a_node s.number) steps ++ a_leaf number ∷ []) (last_one table a m job number value b (lower job) at) in
      let now = ap (λ q. removed_change q (item number job.key.now value)) stays.0.pass in
      record {
        from = omega (arith, last);
        upto = omega arith;
        most = omega arith;
        leaf = leaf_gone_record table a m job number value b (lower job) at;
        ends = λ spot over.
            subst (MayPublishOnceReady table c made spot (entry_word (Some e)) (removed_change a.known.pass (item number job.key.now value)) (Some value)) (sym gone)
            (subst (λ y. MayPublishOnceReady table c made spot (entry_word (Some e)) y (Some value) (a_node (lower job).number ∷ a_leaf number ∷ [])) now
            (may_remake table a m job number value b (lower job) at c made news words h e stays building side (left_fits words h e news side) word spot over));
        few = omega (arith, few);
        takes = λ leaf is. (let same : number ≡ leaf = cc in (value, b.is_found ∙ ap (λ n. FoundLeaf n value None) same, refl));
      }

pub claimed_held : {table : TableView} {k : Known} {n : ℕ} → HasClaimed table k n → IsClaimed k (a_node n)
claimed_held {n = n} has = (has.words, has.sized, subst (λ l. Contains l (record { rec = a_node n; holding = Held; words = has.words })) (sym has.own) (0, omega arith, refl))

module _ {G : Type 0} (table : TableView) (becomes : G → Event → G → Type 0) (n : ℕ) (words : List ℕ) (a b : SeatView × G) (has : HasClaimed table a.0.known n) (sets : SetsAll table becomes (a_node n) words a b) where
  filled_own : b.0.known.own ≡ record { rec = a_node n; holding = Held; words = words } ∷ []
  filled_own = sets.own ∙ (ap (map (fill_with (a_node n) words)) has.own ∙ (let same : same_rec (a_node n) (a_node n) ≡ true = same_rec_refl (a_node n) in rw same refl))

  -- it stays so when it is filled
  pub claimed_again : HasClaimed table b.0.known n
  claimed_again = record { low = has.low; words = words; sized = sets.sized; own = filled_own }

  -- and is a record that is made then
  pub claimed_filled : IsSeatOf table a.0 → IsPossible table.layout a.0.known → IsPacked (a_node n) words → IsBuilding table b.0 (a_node n ∷ []) (record { rec = a_node n; words = words } ∷ [])
  claimed_filled seat possible packed =
      let goes = set_all_on table becomes (a_node n) words a b sets in
      record {
        seat = seat_of table becomes a b goes seat;
        possible = goes_possible table becomes a b goes possible;
        holds = (filled_own, ((λ z. z), tt));
        packed = ((packed, tt), tt);
        listed = refl;
      }
