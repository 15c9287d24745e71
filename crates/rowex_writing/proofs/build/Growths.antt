-- What rises is put at its spot; what goes for it, and what is kept of the locked nodes.
use Rattle.rowex_writing.proofs.build.Spared.{range_split}
use Rattle.rowex_writing.proofs.Common.{le_refl, ◌≡◌, inl, inr, ◌⊎◌, ℕ, ◌+◌, ◌-◌, ◌*◌, ◌<◌, ◌≤◌, Bool, true, false, List, [], ◌∷◌, ◌++◌, length, map, take, drop, refl, sym, ap, ap₂, subst, ◌∙◌, arith, if◌then◌else◌, Some, None, IsSome, get_or, le_trans, slice_get, slice_range, append-nil, drop-take, map-append, All-append, All-cons, All-drop, All-head, All-map, All-tail, All-take, slice_get-get_or, IsEntry, Entry, LeafEntry, Node, PathNode, IsOneOf, AreApart, Rec, a_node, map_of, of_append, of_left, of_map, of_right, Place, HasEntryWord, entry_word, Layout, Item, item, Key, HasRecord, AreKept, LocksJust, Spot, Root, Slot, Value, Known, Locked, IsSpotOf, HasFoundBelow, HasRisen, spot_stays, insertion, risen_stays, IsLater, nodes_of, Publishes, HasSpot, words_for, some_at, tip_entry, StaysLocked, found_stays, spot_below, IsWayOf, Found, TableView, SeatView, entry, added_change, Event, IsAtRest, later_transitive, HasMissedSince, IsAnothers, IsAnothersBut, anothers_among, missed_so}
use Rattle.rowex_writing.specs.plan.Plans.{change}
use Rattle.rowex_writing.specs.declared.plan.Aim.{Aim}
use Rattle.rowex_writing.specs.declared.plan.Deed.TheVariants.{Grow}
use Rattle.rowex_writing.specs.declared.plan.Full.{Full}
use Rattle.rowex_writing.specs.declared.plan.Full.TheVariants.{Nodes, Leaves}
use Rattle.rowex_writing.specs.build.Building.{FitsAbove, HasLeafMade, IsLockedSpan, HasRisenTo, gone_unless_whole, gone_with_way, newcomer_of}
use Rattle.rowex_writing.specs.build.Changes.{HasNoRoom, IsFull, IsPutChange, LacksLeaves, LacksNodes, MayPublishOnceReady}
use Rattle.rowex_writing.specs.locks.Checks.{HasTakenSpan, IsChecked}
use Rattle.rowex_writing.specs.plan.Planned.{IsPlanned}
use Rattle.rowex_writing.specs.locks.Going.{HasLocked, WorksOn}
use Rattle.rowex_writing.specs.build.Growths.{HasNumber, MayGrow}
use Rattle.record_words.specs.Layout.{uncommitted_in}
use Rattle.rowex_table.specs.Committed.{AtMost}
use Rattle.rowex_writing.specs.plan.Counts.{most_nodes}
use Rattle.rowex_writing.specs.locks.Locks.{AreNodes, HasLockedSpan, Works, numbers_of, span_numbers, HasRun}
use Rattle.rowex_writing.specs.build.Putting.{IsSpotAbove, AreInTable}
use Rattle.rowex_writing.specs.build.Walks.{HasMissedEach, IsOwnOf, nodes_among}
use Rattle.rowex_writing.specs.declared.plan.job.Job.{Job}
use Rattle.rowex_writing.specs.declared.plan.Span.{Span}
use Rattle.rowex_writing.specs.declared.build.remaking.NewLeaf.{NewLeaf}
use Rattle.rowex_writing.proofs.build.growing.Growing.{IsGrowPlan, chain_at, found_below, grow_plan, part_at, leads_at, pulled_full, spot_of, top_within}
use Rattle.rowex_writing.proofs.build.Above.{locked_at}
use Rattle.rowex_writing.proofs.build.rising.Rising.{gone_more}
use Rattle.rowex_writing.proofs.locks.Runs.{works_run}
use Rattle.rowex_writing.proofs.build.Counts.{all_nodes, among_nodes, nodes_apart}
use Rattle.rowex_records.proofs.Claims.{upto_falls}
use Rattle.rowex_writing.proofs.build.Changes.{lacks_so, missed_from_on, missed_there}
use Rattle.rowex_writing.proofs.locks.Spans.{locked_same, numbers_few}
use Rattle.rowex_writing.proofs.locks.Locks.{works_later}
use Rattle.rowex_writing.proofs.build.Staging.{risen_subtrie}

-- ---- what goes
gone_list : (way : List PathNode) (end low : ℕ) → end ≤ low → gone_with_way way end low [] ≡ map (λ (s : PathNode). a_node s.number) (slice_range way end low)
gone_list way end low h =
    let there : end + (low - end) ≡ low = omega arith in
    append-nil (map (λ (s : PathNode). a_node s.number) (drop end (take low way))) ∙ ap (map (λ (s : PathNode). a_node s.number)) (ap (λ n. drop end (take n way)) (sym there) ∙ drop-take end (low - end) way)

-- the nodes of the span, without the lowest where that stays
pub gone_is : (way : List PathNode) (end top len low : ℕ) (stays : Bool) (s : PathNode) → end ≤ top → top + 1 ≡ len → low ≡ (if stays then top else len) → slice_get way top ≡ Some s →
    gone_with_way way end top (gone_unless_whole stays s.number) ≡ map (λ (s : PathNode). a_node s.number) (slice_range way end low)
gone_is way end top len low true s h next low_is at = gone_list way end top h ∙ ap (λ n. map (λ (s : PathNode). a_node s.number) (slice_range way end n)) (sym low_is)
gone_is way end top len low false s h next low_is at =
    gone_more way end top len [] s next h at ∙ (gone_list way end len (omega arith) ∙ ap (λ n. map (λ (s : PathNode). a_node s.number) (slice_range way end n)) (sym low_is))

-- ---- what is kept
apart_right : {X : Type 0} (xs ys : List X) → AreApart (xs ++ ys) → AreApart ys
apart_right [] ys a = a
apart_right (x ∷ xs) ys a = apart_right xs ys a.1

apart_from : {X : Type 0} (x : X) (xs ys : List X) → AreApart (xs ++ ys) → IsOneOf x xs → IsOneOf x ys → ⊥
apart_from x [] ys a h i = h
apart_from x (y ∷ xs) ys a (inl e) i = a.0 (of_right y xs ys (subst (λ z. IsOneOf z ys) e i))
apart_from x (y ∷ xs) ys a (inr h) i = apart_from x xs ys a.1 h i

apart_without : {X : Type 0} (xs ys zs : List X) → AreApart (xs ++ (ys ++ zs)) → AreApart (xs ++ zs)
apart_without [] ys zs a = apart_right ys zs a
apart_without (x ∷ xs) ys zs a = (
  λ h. a.0 (elim (of_append x xs zs h) [ inl i ↦ of_left x xs (ys ++ zs) i | inr i ↦ of_right x xs (ys ++ zs) (of_right x ys zs i) ]),
  apart_without xs ys zs a.1,
)

node_is_one : (n : ℕ) (steps : List PathNode) → IsOneOf (a_node n) (map (λ (s : PathNode). a_node s.number) steps) → IsOneOf n (numbers_of steps)
node_is_one n [] h = absurd h
node_is_one n (s ∷ steps) (inl e) = inl (ap number_of e)
  where
    number_of : Rec → ℕ
    number_of (a_node i) = i
    number_of r = 0
node_is_one n (s ∷ steps) (inr h) = inr (node_is_one n steps h)

one_is_node : (n : ℕ) (steps : List PathNode) → IsOneOf n (numbers_of steps) → IsOneOf (a_node n) (map (λ (s : PathNode). a_node s.number) steps)
one_is_node n [] h = absurd h
one_is_node n (s ∷ steps) (inl e) = inl (ap a_node e)
one_is_node n (s ∷ steps) (inr h) = inr (one_is_node n steps h)

kept_parts : (locks : List Locked) (us gs cs : List PathNode) → LocksJust locks (numbers_of us ++ (numbers_of gs ++ numbers_of cs)) → AreApart (numbers_of us ++ (numbers_of gs ++ numbers_of cs)) →
    AreKept (nodes_of locks) (map (λ (s : PathNode). a_node s.number) gs) (numbers_of us ++ numbers_of cs) × AreApart (numbers_of us ++ numbers_of cs)
kept_parts locks us gs cs just apart = (
  record {
    only = λ n h. (let (l, there, is) = of_map (λ (l : Locked). l.node) n locks h in sort n (subst (λ z. IsOneOf z (numbers_of us ++ (numbers_of gs ++ numbers_of cs))) (sym is) (just.only l there)));
    each = λ n h. (held n h, λ g. outside n h (node_is_one n gs g));
  },
  apart_without (numbers_of us) (numbers_of gs) (numbers_of cs) apart,
)
  where
    sort : (n : ℕ) → IsOneOf n (numbers_of us ++ (numbers_of gs ++ numbers_of cs)) → IsOneOf n (numbers_of us ++ numbers_of cs) ⊎ IsOneOf (a_node n) (map (λ (s : PathNode). a_node s.number) gs)
    sort n h = elim (of_append n (numbers_of us) (numbers_of gs ++ numbers_of cs) h) [
      | inl i ↦ inl (of_left n (numbers_of us) (numbers_of cs) i)
      | inr i ↦ elim (of_append n (numbers_of gs) (numbers_of cs) i) [ inl j ↦ inr (one_is_node n gs j) | inr j ↦ inl (of_right n (numbers_of us) (numbers_of cs) j) ]
    ]

    within : (n : ℕ) → IsOneOf n (numbers_of us ++ numbers_of cs) → IsOneOf n (numbers_of us ++ (numbers_of gs ++ numbers_of cs))
    within n h = elim (of_append n (numbers_of us) (numbers_of cs) h) [
      | inl i ↦ of_left n (numbers_of us) (numbers_of gs ++ numbers_of cs) i
      | inr i ↦ of_right n (numbers_of us) (numbers_of gs ++ numbers_of cs) (of_right n (numbers_of gs) (numbers_of cs) i)
    ]

    held : (n : ℕ) → IsOneOf n (numbers_of us ++ numbers_of cs) → IsOneOf n (nodes_of locks)
    held n h = let (l, there, is) = just.each n (within n h) in subst (λ z. IsOneOf z (nodes_of locks)) is (map_of (λ (z : Locked). z.node) l locks there)

    outside : (n : ℕ) → IsOneOf n (numbers_of us ++ numbers_of cs) → IsOneOf n (numbers_of gs) → ⊥
    outside n h g = elim (of_append n (numbers_of us) (numbers_of cs) h) [
      | inl i ↦ apart_from n (numbers_of us) (numbers_of gs ++ numbers_of cs) apart i (of_left n (numbers_of gs) (numbers_of cs) g)
      | inr i ↦ apart_from n (numbers_of gs) (numbers_of cs) (apart_right (numbers_of us) (numbers_of gs ++ numbers_of cs) apart) g i
    ]

pub kept_span : (locks : List Locked) (way : List PathNode) (end low len : ℕ) → end ≤ low → low ≤ len → LocksJust locks (numbers_of (slice_range way (end - 1) len)) → AreApart (numbers_of (slice_range way (end - 1) len)) →
    AreKept (nodes_of locks) (map (λ (s : PathNode). a_node s.number) (slice_range way end low)) (numbers_of (slice_range way (end - 1) end ++ slice_range way low len)) × AreApart (numbers_of (slice_range way (end - 1) end ++ slice_range way low len))
kept_span locks way end low len h l just apart =
    let us = slice_range way (end - 1) end in
    let gs = slice_range way end low in
    let cs = slice_range way low len in
    let f : PathNode → ℕ = λ (s : PathNode). s.number in
    let parts : numbers_of (slice_range way (end - 1) len) ≡ numbers_of us ++ (numbers_of gs ++ numbers_of cs) =
    ap numbers_of (range_split way (end - 1) end len (omega arith) (omega arith) ∙ ap (λ ys. us ++ ys) (range_split way end low len h l)) ∙ (map-append f us (gs ++ cs) ∙ ap (λ ys. numbers_of us ++ ys) (map-append f gs cs)) in
    subst (λ ys. AreKept (nodes_of locks) (map (λ (s : PathNode). a_node s.number) gs) ys × AreApart ys) (sym (map-append f us cs))
    (kept_parts locks us gs cs (subst (LocksJust locks) parts just) (subst AreApart parts apart))

-- ---- nodes of the table
pub range_nodes : (layout : Layout) (way : List PathNode) (b d : ℕ) → AreNodes layout way → AreNodes layout (slice_range way b d)
range_nodes layout way b d nodes = All-take (λ (s : PathNode). s.number < layout.nodes) (d - b) (drop b way) (All-drop (λ (s : PathNode). s.number < layout.nodes) b way nodes)

pub two_nodes : (layout : Layout) (way : List PathNode) (b e l d : ℕ) → AreNodes layout way → AreNodes layout (slice_range way b e ++ slice_range way l d)
two_nodes layout way b e l d nodes = All-append (λ (s : PathNode). s.number < layout.nodes) (slice_range way b e) (slice_range way l d) (range_nodes layout way b e nodes) (range_nodes layout way l d nodes)

node_records : (layout : Layout) (steps : List PathNode) → AreNodes layout steps → AreInTable layout (map (λ (s : PathNode). a_node s.number) steps)
node_records layout [] nodes = λ i d low. absurd (omega arith)
node_records layout (s ∷ steps) nodes =
    All-cons (HasRecord layout) (a_node s.number) (map (λ (s : PathNode). a_node s.number) steps) (All-head (λ (s : PathNode). s.number < layout.nodes) s steps nodes)
    (node_records layout steps (All-tail (λ (s : PathNode). s.number < layout.nodes) s steps nodes))

pub range_records : (layout : Layout) (way : List PathNode) (b d : ℕ) → AreNodes layout way → AreInTable layout (map (λ (s : PathNode). a_node s.number) (slice_range way b d))
range_records layout way b d nodes = node_records layout (slice_range way b d) (range_nodes layout way b d nodes)

-- ---- none was free
-- The pass has locked a span, and has made two node records for each node of it and one, or fewer.
pub lacks_nodes : (layout : Layout) (k : Known) (bounds : List ℕ) (since : ℕ) (j : Known) (way : List PathNode) (span : Span) (made : List Rec) → AreNodes layout way → HasLockedSpan k way span → j.locks ≡ k.locks →
    span.end ≤ span.len → span.len ≤ length way → span.len ≤ span.end - 1 + most_nodes → length (nodes_among made) ≤ 2 * (span.len - span.end) + 1 →
    HasMissedEach layout bounds since j made → LacksNodes layout bounds j.pass j.failed since (nodes_among made)
lacks_nodes layout k bounds since j way span made nodes taken same order within depth few each = record {
  locked = numbers;
  few = omega (arith, size, few, order);
  most = omega (arith, size, depth);
  apart = taken.nodes.1;
  low = All-map (λ n. n < layout.nodes) (λ (s : PathNode). s.number) (slice_range way (span.end - 1) span.len) (range_nodes layout way (span.end - 1) span.len nodes);
  missed = λ q low committed. missed_so (IsAnothersBut layout j made) (IsAnothers layout j.pass (nodes_among made) numbers) j.failed (a_node q) since
      (λ by. anothers_among layout j.pass made (nodes_among made) (nodes_of j.locks) numbers (a_node q) by (among_nodes made q) held) (each.missed q low committed);
  own_is = all_nodes (λ r. HasMissedSince (IsOwnOf j.pass) j.failed r since) made each.own;
  once = nodes_apart made each.apart;
}
  where
    numbers : List ℕ
    numbers = span_numbers way span

    size : length numbers ≡ span.len - (span.end - 1)
    size = numbers_few way (span.end - 1) span.len (omega (arith, order)) within

    held : (n : ℕ) → IsOneOf n numbers → IsOneOf n (nodes_of j.locks)
    held n there =
        let (l, at, is) = taken.nodes.0.each n there in
        subst (λ (z : List Locked). IsOneOf n (nodes_of z)) (sym same) (subst (λ m. IsOneOf m (nodes_of k.locks)) is (map_of (λ (z : Locked). z.node) l k.locks at))

-- what was so is so still, after more steps
full_on : {G : Type 0} (table : TableView) (becomes : G → Event → G → Type 0) (bounds : List ℕ) (key : Key) (k : Known) (b c : SeatView × G) (made : List Rec) (full : Full) → c.0.known.pass ≡ b.0.known.pass → HasRun table becomes b c → IsFull table.layout bounds key k b.0.known made full →
    IsFull table.layout bounds key k c.0.known made full
full_on table becomes bounds key k b c made Nodes same run l =
    subst (λ q. LacksNodes table.layout bounds q c.0.known.failed k.steps (nodes_among made)) (sym same)
    (lacks_so table.layout bounds bounds b.0.known.pass b.0.known.failed c.0.known.failed k.steps k.steps (nodes_among made) (λ kind. le_refl (uncommitted_in bounds kind)) l (λ Whose r. missed_there table becomes Whose r k.steps b c run))
full_on table becomes bounds key k b c made Leaves same run missed =
    subst (λ q. LacksLeaves table.layout bounds key q c.0.known.failed k.steps) (sym same)
    (missed_from_on table becomes (IsAnothers table.layout b.0.known.pass [] []) bounds (words_for (length key)) k.steps b c run missed)

pub no_room : {G : Type 0} (table : TableView) (becomes : G → Event → G → Type 0) (bounds : List ℕ) (key : Key) (a b c : SeatView × G) (made : List Rec) (full : Full) → WorksOn table becomes a b → Works table becomes b c → IsAtRest c.0.known →
    IsFull table.layout bounds key a.0.known b.0.known made full → HasNoRoom table.layout bounds key a.0.known c.0.known made full
no_room table becomes bounds key a b c made full goes works rest missed = record {
  rest = rest;
  later = later_transitive a.0.known b.0.known c.0.known goes.stays.0 (works_later table becomes b c works);
  full_of = full_on table becomes bounds key a.0.known b c made full (works_later table becomes b c works).pass (works_run table becomes b c works) missed;
}

-- nor since an earlier version, when the pass knew no more to be committed
pub full_since : (layout : Layout) (few many : List ℕ) (key : Key) (a b c : Known) (made : List Rec) (full : Full) → AtMost (uncommitted_in few) (uncommitted_in many) → a.steps ≤ b.steps → IsFull layout few key b c made full → IsFull layout many key a c made full
full_since layout few many key a b c made Nodes falls count l =
    lacks_so layout few many c.pass c.failed c.failed b.steps a.steps (nodes_among made) falls l (λ Whose r missed. (let (step, late, miss) = missed in (step, le_trans count late, miss)))
full_since layout few many key a b c made Leaves falls count missed = λ q low room upto.
    (let (step, late, miss) = missed q low room (upto_falls layout few many (words_for (length key)) q falls upto) in (step, le_trans count late, miss))

-- ---- the leaf's record is made
pub may_grow : (table : TableView) (a b : SeatView) (made : List Rec) (m : ℕ) (job : Job) (aim : Aim) (new : NewLeaf) → HasTakenSpan table a m new.key.now job.way.now job.found job.span →
    IsPlanned a.known m new.key.now job.way.now aim job.found (change job.span.len job.span.end (Grow new.position)) → ((s : PathNode) → slice_get job.way.now (job.span.len - 1) ≡ Some s → s.slot ≡ new.slot) → StaysLocked a.known b.known → HasLeafMade table b made (item new.number new.key.now job.value) →
    MayGrow table b made job new
may_grow table a b made m job aim new t planned is_took stays made_leaf = record {
  within = (omega (arith, upto, len_is), omega (arith, len_is, within));
  depth = w.depth;
  nodes = λ n d low. (w.nodes n (get_or job.way.now n d) (slice_get-get_or job.way.now n d low)).2.range;
  locked = record {
    nodes = locked_same a.known b.known (span_numbers job.way.now job.span) stays.1 t.locked.nodes;
    top = λ z. subst IsSome (sym stays.2) (t.locked.top z);
    below = λ l. stays.2 ∙ t.locked.below l;
  };
  growing = record {
    step = s;
    at = ap (slice_get job.way.now) last_is ∙ at;
    upto = omega (arith, upto, len_is);
    low = (w.nodes plan.chosen.level s at).2.range;
    lowest = record {
      since = m;
      item = x;
      like = below.0;
      words = words;
      key_is = refl;
      leaf_is = refl;
      made_leaf = made_leaf;
      found = subst (λ held. HasFoundBelow b.known held (record { since = m; item = x; mismatch = new.position; like = below.0 }) s.number words) (sym stays.1) (found_stays a.known b.known a.known.locks (record { since = m; item = x; mismatch = new.position; like = below.0 }) s.number words stays.0 below.1);
      part = part_at table.layout a.known m new.key.now job.way.now job.found job.span t.possible t.own w t.locked t.checked new.position plan s at words held;
      leads = leads_at table.layout a.known m new.key.now job.way.now job.found job.span t.possible t.own w t.locked t.checked new.position plan s at words held ∙ is_took s (ap (slice_get job.way.now) last_is ∙ at);
    };
    full = λ more. pulled_full table.layout a.known m new.key.now job.way.now job.found job.span t.possible t.own w t.locked t.checked new.position plan plan.chosen.level s (omega (arith, more, len_is)) (omega arith) at words held;
    chain = subst (λ n. IsLockedSpan table.layout.nodes b.known.locks job.way.now new.key.now new.position job.span.end n) (sym last_is)
        (subst (λ ls. IsLockedSpan table.layout.nodes ls job.way.now new.key.now new.position job.span.end plan.chosen.level) (sym stays.1) (chain_at table.layout a.known m new.key.now job.way.now job.found job.span t.possible t.own w t.locked t.checked new.position plan));
  };
  item_is = refl;
  place = λ u us e spot there locked fits where_it_is.
      let here : HasLocked a.known u.number us = subst (IsOneOf (record { node = u.number; words = us })) stays.1 locked in
      let (on, is_slot) = place u us e there here fits spot where_it_is in
      (subst (λ ls. IsSpotOf b.known ls new.key.now new.position u.number e spot) (sym stays.1) (spot_stays a.known b.known a.known.locks new.key.now new.position u.number e spot stays.2 on), is_slot);
}
  where
    w : IsWayOf table.layout a.known m new.key.now job.way.now job.found
    w = t.way_of

    plan : IsGrowPlan a.known m new.key.now job.way.now job.found job.span.len job.span.end new.position
    plan = grow_plan a.known m new.key.now job.way.now job.span.len job.span.end new.position aim job.found planned

    x : Item
    x = item new.number new.key.now job.value

    upto : job.span.end ≤ plan.chosen.level
    upto = plan.chain.upto

    len_is : job.span.len ≡ plan.chosen.level + 1
    len_is = plan.len_is

    last_is : job.span.len - 1 ≡ plan.chosen.level
    last_is = omega (arith, len_is)

    within : plan.chosen.level < length job.way.now
    within = top_within table.layout a.known m new.key.now job.way.now job.found job.span t.possible t.own w t.locked t.checked new.position plan

    s : PathNode
    s = (some_at job.way.now plan.chosen.level within).0

    at : slice_get job.way.now plan.chosen.level ≡ Some s
    at = (some_at job.way.now plan.chosen.level within).1

    words : List ℕ
    words = (locked_at a.known job.way.now job.span t.locked plan.chosen.level s (omega (arith, upto)) (omega (arith, len_is)) at).0

    held : HasLocked a.known s.number words
    held = (locked_at a.known job.way.now job.span t.locked plan.chosen.level s (omega (arith, upto)) (omega (arith, len_is)) at).1

    below : (l : Key) × HasFoundBelow a.known a.known.locks (record { since = m; item = x; mismatch = new.position; like = l }) s.number words
    below =
        found_below table.layout a.known m new.key.now job.way.now plan.number plan.value new.position job.span (subst (IsWayOf table.layout a.known m new.key.now job.way.now) plan.found_is w) (subst (λ f. IsChecked a.known new.key.now job.way.now f job.span) plan.found_is t.checked) new.number job.value made_leaf.spelled.0
        plan.chosen.level s words (omega (arith, upto)) (omega (arith, len_is)) at held

    in_table : (spot : Spot) → IsSpotAbove job.way.now job.span.end spot → HasSpot table.layout spot
    in_table Root none = tt
    in_table (Value l) none = absurd none
    in_table (Slot n i) (above, low, at_above, n_is, i_is) =
        let node = (w.nodes (job.span.end - 1) above at_above).2 in
        let small = spot_below new.key.now node.forks in
        (omega (arith, n_is, node.range), omega (arith, i_is, node.at, small, node.room))

    place : (u : PathNode) (us : List ℕ) (e : Entry) → slice_get job.way.now job.span.end ≡ Some u → HasLocked a.known u.number us → FitsAbove us e → (spot : Spot) → IsSpotAbove job.way.now job.span.end spot →
        IsSpotOf a.known a.known.locks new.key.now new.position u.number e spot × HasSpot table.layout spot
    place u us e there locked fits spot is = (spot_of table.layout a.known m new.key.now job.way.now job.found job.span t.possible t.own w t.locked t.checked new.position plan u us e there locked fits spot is, in_table spot is)

-- the change is that of a key which was absent
pub grown_stored : (k : Known) (m : ℕ) (key : Key) (value : ℕ) (way : List PathNode) (found : Found) (span : Span) (aim : Aim) (position leaf : ℕ) →
    IsPlanned k m key way aim found (change span.len span.end (Grow position)) → IsPutChange k.pass key value found (added_change k.pass (item leaf key value)) None
grown_stored k m key value way found span aim position leaf planned =
    let plan = grow_plan k m key way span.len span.end position aim found planned in
    subst (λ f. IsPutChange k.pass key value f (added_change k.pass (item leaf key value)) None) (sym plan.found_is) (refl, refl)

-- ---- the store
entry_has : (e : Entry) → HasNumber e → IsEntry e → HasEntryWord (Some e)
entry_has (LeafEntry n) low is = omega (arith, low)
entry_has (Node n h) low is = (omega (arith, low), omega (arith, is.0), omega (arith, is.1))

module _ (table : TableView) (a b : SeatView) (made after : List Rec) (job : Job) (new : NewLeaf)
    (may : MayGrow table a made job new) (later : IsLater a.known b.known) (locks : b.known.locks ≡ a.known.locks) (anchor : b.known.anchor ≡ a.known.anchor) (e : Entry) (number : HasNumber e) (stays : Bool)
    (risen : HasRisenTo table b after job.way.now (newcomer_of may.growing.lowest) job.span.end (gone_with_way job.way.now job.span.end (job.span.len - 1) (gone_unless_whole stays may.growing.step.number)) e)
    (low : (s : PathNode) (words : List ℕ) → slice_get job.way.now job.span.end ≡ Some s → HasLocked a.known s.number words → FitsAbove words e) where
  -- the words of the topmost node
  top_words : (words : List ℕ) × HasLocked a.known risen.0.number words
  top_words = locked_at a.known job.way.now job.span may.locked job.span.end risen.0 (omega arith) may.within.0 risen.1

  pub grown_spot : (spot : Spot) → IsSpotAbove job.way.now job.span.end spot → IsSpotOf a.known a.known.locks new.key.now new.position risen.0.number e spot
  grown_spot spot at = (may.place risen.0 top_words.0 e spot risen.1 top_words.1 (low risen.0 top_words.0 risen.1 top_words.1) at).0

  pub grown_ends : (spot : Spot) (gone : List Rec) → IsSpotAbove job.way.now job.span.end spot → gone ≡ gone_with_way job.way.now job.span.end (job.span.len - 1) (gone_unless_whole stays may.growing.step.number) →
      MayPublishOnceReady table b after spot (entry_word (Some e)) (added_change a.known.pass (item new.number new.key.now job.value)) None gone
  grown_ends spot gone at gone_is = record {
    news = risen.2.news;
    building = risen.2.building;
    publishes = λ j on ready same told.
        let b_risen = risen.2 in
        let x = may.growing.lowest.item in
        let key_is : x.key ≡ new.key.now = ap (λ (z : Item). z.key) may.item_is in
        let here : HasLocked b.known risen.0.number top_words.0 = subst (IsOneOf (record { node = risen.0.number; words = top_words.0 })) (sym locks) top_words.1 in
        let (t, subtrie_is, trie, built) = risen_subtrie table.layout b.known risen.2.news (gone_with_way job.way.now job.span.end (job.span.len - 1) (gone_unless_whole stays may.growing.step.number)) (newcomer_of may.growing.lowest) (entry risen.0.number) top_words.0
        (Place e) b_risen.building.possible b_risen.building.holds b_risen.building.packed b_risen.leaf here b_risen.risen in
        let still : HasRisen table.layout j b.known.locks risen.2.news (newcomer_of may.growing.lowest) (entry risen.0.number) (Place e) gone =
        subst (HasRisen table.layout j b.known.locks risen.2.news (newcomer_of may.growing.lowest) (entry risen.0.number) (Place e)) (sym gone_is)
        (risen_stays table.layout b.known j on b.known.locks risen.2.news (gone_with_way job.way.now job.span.end (job.span.len - 1) (gone_unless_whole stays may.growing.step.number)) (newcomer_of may.growing.lowest) (entry risen.0.number) (Place e)
        b_risen.risen) in
        let place : IsSpotOf j b.known.locks x.key new.position risen.0.number e spot =
        subst (λ k. IsSpotOf j b.known.locks k new.position risen.0.number e spot) (sym key_is)
        (subst (λ held. IsSpotOf j held new.key.now new.position risen.0.number e spot) (sym locks) (spot_stays a.known j a.known.locks new.key.now new.position risen.0.number e spot (same ∙ anchor) (grown_spot spot at))) in
        subst (λ y. Publishes table.layout j spot (entry_word (Some e)) y None gone) (ap₂ added_change (on.pass ∙ later.pass) may.item_is)
        (insertion table.layout j b.known.locks risen.2.news gone ready (newcomer_of may.growing.lowest) risen.0.number (entry_word (Some e)) e spot still b_risen.leaf place
        (entry_has e number (tip_entry e t subtrie_is built), refl));
  }
