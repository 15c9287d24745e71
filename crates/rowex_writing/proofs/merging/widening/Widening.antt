-- Locks beyond those of a span: taken, tried once each, and given back.
use Rattle.rowex_writing.proofs.Common.{◌≡◌, inl, inr, ℕ, zero, suc, ◌+◌, ◌-◌, ◌*◌, ◌<◌, ◌≤◌, Bool, true, false, List, [], ◌∷◌, length, get_or, take, drop, Option, Some, None, refl, sym, ap, subst, ◌∙◌, arith, nat_eq, slice_get, slice_range, get_or_from_slice_get, PathNode, Layout, Key, entry_at, seek, seek_spot, IsOneOf, AreApart, IsEvent, without_lock, node_words_of, Unlock, Event, Target, Anchor, NodeTarget, Known, Locked, Node, HasPlace, room_stable, seen_stable, since_later, sure_later, IsSure, seen_is_sure, EntryStoodSince, IsLater, nodes_of, MayStep, silent, TableView, SeatView, locks_exact, unlocks_node, Entry, IsPossible, IsWayOf, named, Found}
use Rattle.std.proofs.Common.{eq-eqb, ne_eqb}
use Rattle.rowex_writing.specs.plan.Counts.{level_steps}
use Rattle.rowex_writing.specs.locks.Going.{HasLocked}
use Rattle.rowex_writing.specs.locks.Locks.{LocksLast, LocksOne, numbers_of, span_numbers, HasTried}
use Rattle.rowex_writing.specs.declared.plan.job.Job.{Job}
use Rattle.rowex_writing.specs.declared.plan.Span.{Span}
use Rattle.rowex_writing.specs.merging.Merging.{HasChangeStepsAfterTries, IsFarFromSpan, IsTargetAbove, LocksAbove, HasFewStepsAfterTries, HasTriedUpToTwoMore, by_anchor, by_node}
use Rattle.rowex_writing.specs.build.Taking.{IsTaking}
use Rattle.rowex_writing.proofs.locks.Spans.{numbers_few}
use Rattle.rowex_writing.proofs.locks.Shapes.{way_node_locked}
use Rattle.rowex_writing.proofs.locks.Ways.{way_apart}
use Rattle.rowex_writing.proofs.locks.Tried.{anchor_more, nodes_more, nodes_once, nodes_then, number_new, once_then}

-- ---- the lock that was taken last
-- none of these is it
none_goes : (n : ℕ) (held : List Locked) → ¬ (IsOneOf n (nodes_of held)) → without_lock n held ≡ held
none_goes n [] new = refl
none_goes n (l ∷ held) new =
    let other : nat_eq l.node n ≡ false = ne_eqb l.node n (λ e. new (inl (sym e))) in rw other (ap (λ z. l ∷ z) (none_goes n held (λ i. new (inr i))))

first_goes : (n : ℕ) (words : List ℕ) (held : List Locked) → ¬ (IsOneOf n (nodes_of held)) → without_lock n (record { node = n; words = words } ∷ held) ≡ held
first_goes n words held new = let same : nat_eq n n ≡ true = eq-eqb n n refl in rw same (none_goes n held new)

pub last_unlocked : (layout : Layout) (k j : Known) (n : ℕ) (held : List Locked) → LocksLast n held k → IsEvent layout (Unlock (NodeTarget n)) silent k j → j.locks ≡ held
last_unlocked layout k j n held ((words, is), new) e = ap (λ (z : Known). z.locks) e.learned_is ∙ (ap (without_lock n) is ∙ first_goes n words held new)

pub last_may : (layout : Layout) (k : Known) (n : ℕ) (held : List Locked) → LocksLast n held k → MayStep layout (λ found. Unlock (NodeTarget n)) k
last_may layout k n held ((words, is), new) = unlocks_node layout k (nodes_of k.locks) n (locks_exact k.locks) (subst (λ z. IsOneOf n (nodes_of z)) (sym is) (inl refl))

pub one_last : (n : ℕ) (k j : Known) → LocksOne n k j → LocksLast n k.locks j
one_last n k j (is, new, own, anchor) = (is, new)

pub last_same : (n : ℕ) (held : List Locked) (k j : Known) → j.locks ≡ k.locks → LocksLast n held k → LocksLast n held j
last_same n held k j same ((words, is), new) = ((words, same ∙ is), new)

pub last_locked : (n : ℕ) (held : List Locked) (k : Known) → LocksLast n held k → (words : List ℕ) × HasLocked k n words
last_locked n held k ((words, is), new) = (words, subst (IsOneOf (record { node = n; words = words })) (sym is) (inl refl))

-- ---- nodes of a part of a way
of_taken : (way : List PathNode) (count n : ℕ) → IsOneOf n (numbers_of (take count way)) → (i : ℕ) × (s : PathNode) × (slice_get way i ≡ Some s) × (i < count) × (n ≡ s.number)
of_taken way zero n i = absurd i
of_taken [] (suc count) n i = absurd i
of_taken (s ∷ way) (suc count) n (inl e) = (0, s, refl, omega arith, e)
of_taken (s ∷ way) (suc count) n (inr i) = let (j, t, at, low, is) = of_taken way count n i in (suc j, t, at, omega (arith, low), is)

of_dropped : (way : List PathNode) (from i : ℕ) (s : PathNode) → slice_get (drop from way) i ≡ Some s → slice_get way (from + i) ≡ Some s
of_dropped way zero i s at = let e : 0 + i ≡ i = omega arith in ap (slice_get way) e ∙ at
of_dropped [] (suc from) i s at = absurd (let z : None ≡ Some s = at in cc)
of_dropped (x ∷ way) (suc from) i s at = let e : suc from + i ≡ suc (from + i) = omega arith in ap (slice_get (x ∷ way)) e ∙ of_dropped way from i s at

pub of_range : (way : List PathNode) (from upto n : ℕ) → IsOneOf n (numbers_of (slice_range way from upto)) → (i : ℕ) × (s : PathNode) × (slice_get way i ≡ Some s) × (from ≤ i) × (i < upto) × (n ≡ s.number)
of_range way from upto n there =
    let (i, s, at, low, is) = of_taken (drop from way) (upto - from) n there in (from + i, s, of_dropped way from i s at, omega arith, omega (arith, low), is)

pub far_none : (way : List PathNode) (span : Span) (n : ℕ) → IsFarFromSpan way span n → ¬ (IsOneOf n (span_numbers way span))
far_none way span n far there = let (i, s, at, from, upto, is) = of_range way (span.end - 1) span.len n there in far s i at (omega (arith, from)) upto is

pub above_none : (way : List PathNode) (span : Span) (n : ℕ) → AreApart (numbers_of way) → span.end ≤ span.len → span.len ≤ length way → IsFarFromSpan way span n → (s : PathNode) → 0 < span.end - 1 → slice_get way (span.end - 1 - 1) ≡ Some s →
    ¬ (IsOneOf s.number (n ∷ span_numbers way span))
above_none way span n apart within upto far s low at (inl e) = far s (span.end - 1 - 1) at (omega (arith, low)) (omega (arith, low, within)) (sym e)
above_none way span n apart within upto far s low at (inr there) =
    let i : ℕ = span.end - 1 - 1 in
    let next : span.end - 1 ≡ i + 1 = omega (arith, low) in
    let is : get_or way i s ≡ s = get_or_from_slice_get way i s s at in
    number_new way i span.len s (omega (arith, low, within)) upto apart
    (subst (λ (x : PathNode). IsOneOf x.number (numbers_of (slice_range way (i + 1) span.len))) (sym is) (subst (λ b. IsOneOf s.number (numbers_of (slice_range way b span.len))) next there))

-- ---- locks that are tried
module _ {G : Type 0} (table : TableView) (becomes : G → Event → G → Type 0) where
  -- none more
  pub more_none : (nodes : List ℕ) (b c : SeatView × G) → HasTried table becomes [] b c → HasTriedUpToTwoMore table becomes nodes false b c
  more_none nodes b c run a h = (length nodes, nodes_once table becomes nodes a c (nodes_then table becomes nodes a b c h run), omega arith, omega arith, λ e. absurd (let z : false ≡ true = e in cc))

  -- that of a node
  pub more_one : (nodes : List ℕ) (n : ℕ) (b m c : SeatView × G) → ¬ (IsOneOf n nodes) → HasTried table becomes (NodeTarget n ∷ []) b m → HasTried table becomes [] m c → HasTriedUpToTwoMore table becomes nodes false b c
  more_one nodes n b m c new lock run a h =
      let one = nodes_more table becomes n nodes a b m new h lock in
      (length (n ∷ nodes), nodes_once table becomes (n ∷ nodes) a c (nodes_then table becomes (n ∷ nodes) a m c one run), omega arith, omega arith, λ e. absurd (let z : false ≡ true = e in cc))

  -- and that of what names it
  pub more_two : (nodes : List ℕ) (n : ℕ) (way : List PathNode) (end : ℕ) (both : Bool) (b m c d : SeatView × G) → ¬ (IsOneOf n nodes) → HasTried table becomes (NodeTarget n ∷ []) b m →
      (target : Target) → HasTried table becomes (target ∷ []) m c → IsTargetAbove way end target → ((s : PathNode) → 0 < end → slice_get way (end - 1) ≡ Some s → ¬ (IsOneOf s.number (n ∷ nodes))) →
      HasTried table becomes [] c d → HasTriedUpToTwoMore table becomes nodes both b d
  more_two nodes n way end both b m c d new lock Anchor above top others run a h =
      let one = nodes_more table becomes n nodes a b m new h lock in
      (suc (length (n ∷ nodes)), once_then table becomes a c d (anchor_more table becomes (n ∷ nodes) a m c one above) run, omega arith, omega arith, λ e. omega arith)
  more_two nodes n way end both b m c d new lock (NodeTarget g) above (s, low, at, same) others run a h =
      let one = nodes_more table becomes n nodes a b m new h lock in
      let none = subst (λ z. ¬ (IsOneOf z (n ∷ nodes))) (sym same) (others s low at) in
      let two = nodes_more table becomes g (n ∷ nodes) a m c none one above in
      (length (g ∷ n ∷ nodes), nodes_once table becomes (g ∷ n ∷ nodes) a d (nodes_then table becomes (g ∷ n ∷ nodes) a c d two run), omega arith, omega arith, λ e. omega arith)

  -- so for the sibling and what names the upper node
  pub two_tried : (job : Job) (number : ℕ) (t : IsTaking table job) (both : Bool) (a m b c : SeatView × G) → IsFarFromSpan job.way.now job.span number → HasTried table becomes (NodeTarget number ∷ []) a m →
      (target : Target) × HasTried table becomes (target ∷ []) m b × IsTargetAbove job.way.now (job.span.end - 1) target → HasTried table becomes [] b c → HasTriedUpToTwoMore table becomes (span_numbers job.way.now job.span) both a c
  two_tried job number t both a m b c far lock (target, above, top) rest =
      let apart = way_apart table.layout t.before.known t.since job.key.now _ job.way.now t.below.taken.possible t.below.taken.way_of in
      more_two (span_numbers job.way.now job.span) number job.way.now (job.span.end - 1) both a m b c (far_none job.way.now job.span number far) lock target above top
      (above_none job.way.now job.span number apart t.below.taken.within.0 t.below.taken.within.1 far) rest

  -- few steps
  pub few_none : (nodes : List ℕ) (left more : ℕ) (b c : SeatView × G) → HasTried table becomes [] b c → c.0.known.steps ≤ b.0.known.steps + more → HasFewStepsAfterTries table becomes nodes left more b c
  few_none nodes left more b c run few a h = (length nodes, nodes_once table becomes nodes a c (nodes_then table becomes nodes a b c h run), omega arith, omega arith, omega (arith, few))

  pub few_more : (nodes : List ℕ) (left more : ℕ) (both : Bool) (b m c : SeatView × G) → HasTried table becomes [] b m → HasTriedUpToTwoMore table becomes nodes both m c → c.0.known.steps ≤ b.0.known.steps + more → HasFewStepsAfterTries table becomes nodes left more b c
  few_more nodes left more both b m c run tries few a h =
      let (locks, tried, least, most, all) = tries a (nodes_then table becomes nodes a b m h run) in (locks, tried, least, most, omega (arith, few))

  pub few_both : (nodes : List ℕ) (left : ℕ) (b m c d : SeatView × G) → HasTried table becomes [] b m → HasTriedUpToTwoMore table becomes nodes true m c → HasTried table becomes [] c d → d.0.known.steps ≤ b.0.known.steps + 2 * left + 600 →
      HasFewStepsAfterTries table becomes nodes left 53 b d
  few_both nodes left b m c d run tries rest few a h =
      let (locks, tried, least, most, all) = tries a (nodes_then table becomes nodes a b m h run) in
      let two = all refl in
      (locks, once_then table becomes a c d tried rest, least, most, omega (arith, few, two))

  -- and some before
  pub few_before : (nodes : List ℕ) (left less more : ℕ) (b m c : SeatView × G) → HasTried table becomes [] b m → HasFewStepsAfterTries table becomes nodes left less m c → m.0.known.steps + less ≤ b.0.known.steps + more →
      HasFewStepsAfterTries table becomes nodes left more b c
  few_before nodes left less more b m c run tries before a h =
      let (locks, tried, least, most, few) = tries a (nodes_then table becomes nodes a b m h run) in (locks, tried, least, most, omega (arith, few, before))

  -- and then some more
  pub few_then : (nodes : List ℕ) (left more : ℕ) (b c d : SeatView × G) → HasFewStepsAfterTries table becomes nodes left 63 b c → HasTried table becomes [] c d → d.0.known.steps + 63 ≤ c.0.known.steps + more → HasFewStepsAfterTries table becomes nodes left more b d
  few_then nodes left more b c d tries rest few a h =
      let (locks, tried, least, most, spent) = tries a h in (locks, once_then table becomes a c d tried rest, least, most, omega (arith, few, spent))

  -- so for a removal, once what is left of the lower node is made
  pub removal_changes : (job : Job) (t : IsTaking table job) (left spent more : ℕ) (b m c : SeatView × G) → spent + more ≤ level_steps + 85 → HasTried table becomes [] b m → m.0.known.steps + 2 * left ≤ b.0.known.steps + 2 * table.layout.nodes + spent →
      HasFewStepsAfterTries table becomes (span_numbers job.way.now job.span) left more m c → HasChangeStepsAfterTries table becomes (span_numbers job.way.now job.span) 1 b c
  removal_changes job t left spent more b m c upto run walk tries a h =
      let (locks, tried, least, most, few) = tries a (nodes_then table becomes (span_numbers job.way.now job.span) a b m h run) in
      let low = t.below.taken.within.0 in
      let last = t.below.last in
      let some = t.some in
      let count = numbers_few job.way.now (job.span.end - 1) job.span.len (omega (arith, low)) t.below.taken.within.1 in
      (locks, tried, least, most, omega (arith, few, walk, count, last, some, least, upto))

-- ---- a place to which the pass was led
pub place_led : (k : Known) (m n h i : ℕ) → HasPlace k m n h i → IsSure k (λ past. EntryStoodSince past m (Node n h))
place_led k m n h i has = seen_is_sure k (λ past. EntryStoodSince past m (Node n h)) (seen_stable m (Node n h)) has.0.1

pub place_later : (k j : Known) (m n h i : ℕ) → IsLater k j → HasPlace k m n h i → HasPlace j m n h i
place_later k j m n h i later has = ((since_later later has.0.0, sure_later (seen_stable m (Node n h)) later has.0.1), sure_later (room_stable m n i) later has.1)

-- ---- what names the upper node
pub root_above : (held : List Locked) (key : Key) (way : List PathNode) (found : Found) (end : ℕ) (j : Known) (root : Option Entry) → end ≡ 0 → root ≡ named way found end → (j.locks ≡ held) × (j.anchor ≡ Some root) →
    LocksAbove held key way found end j
root_above held key way found end j root top is (locks, anchor) = by_anchor top locks (anchor ∙ ap Some (is ∙ ap (named way found) top))

pub step_above : (layout : Layout) (held : List Locked) (key : Key) (way : List PathNode) (found : Found) (end : ℕ) (j : Known) (m : ℕ) (entry : Option Entry) (s : PathNode) → IsPossible layout j → IsWayOf layout j m key way found →
    0 < end → slice_get way (end - 1) ≡ Some s → entry ≡ named way found end → LocksLast s.number held j → j.anchor ≡ None →
    ((words : List ℕ) → HasLocked j s.number words → entry ≡ Some (entry_at (node_words_of words).subtrie s.slot)) → LocksAbove held key way found end j
step_above layout held key way found end j m entry s possible w low at is last free names = by_node s low at last free (λ words h.
    let (e, name, node) = w.nodes (end - 1) s at in
    let shows = way_node_locked layout j m key s e words possible w.since node h in
    sym is ∙ (names words h ∙ ap Some (ap (entry_at (node_words_of words).subtrie) (sym shows.at) ∙ sym (seek_spot key (node_words_of words).subtrie))))

pub no_root : (held : List Locked) (key : Key) (way : List PathNode) (found : Found) (end : ℕ) (j : Known) → LocksAbove held key way found end j → end ≡ 0 → (j.locks ≡ held) × (j.anchor ≡ Some (named way found 0))
no_root held key way found end j (by_anchor top locks anchor) z = (locks, anchor)
no_root held key way found end j (by_node s low at last free names) z = absurd (omega (arith, low, z))

-- The node above is locked.
pub record IsOver (held : List Locked) (key : Key) (way : List PathNode) (found : Found) (end : ℕ) (j : Known) : Type 0 where
  pub step : PathNode
  pub at : slice_get way (end - 1) ≡ Some step
  pub last : LocksLast step.number held j
  pub free : j.anchor ≡ None
  pub names : (words : List ℕ) → HasLocked j step.number words → named way found end ≡ Some (seek key (node_words_of words).subtrie)

pub is_over : (held : List Locked) (key : Key) (way : List PathNode) (found : Found) (end : ℕ) (j : Known) → LocksAbove held key way found end j → 0 < end → IsOver held key way found end j
is_over held key way found end j (by_anchor top locks anchor) some = absurd (omega (arith, top, some))
is_over held key way found end j (by_node s low at last free names) some = record { step = s; at = at; last = last; free = free; names = names }
