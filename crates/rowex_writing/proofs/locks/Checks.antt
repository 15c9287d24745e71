-- What a load under a lock tells of what a search has found.
use Rattle.rowex_writing.proofs.Common.{◌≡◌, ◌≢◌, inl, inr, ◌⊎◌, ℕ, zero, suc, ◌+◌, ◌-◌, ◌<◌, ◌≤◌, ◌^◌, List, [], ◌∷◌, length, take, drop, nat_lt, if◌then◌else◌, true, false, Option, Some, None, IsSome, refl, sym, ap, subst, ◌∙◌, arith, ltb, All, slice_get, slice_range, cases_lt, Entry, Node, PathNode, Place, size, Layout, HasEntryWord, entry_word, Key, entry_at, seek, Subtrie, Tree, subtrie, seek_spot, spot_below, Heap, NodeWords, IsTop, a_node, IsOneOf, all_of, map_of, LoadRef, Slot, Root, Event, Fresh, Known, heap_of, IsEvent, IsPinnedSince, Recalls, entry_of, node_words_of, IsLocked, knows_all, recalls, entry_of_word, entry_at_is, IsLater, silent, TableView, SeatView, entry_of_locked, runs_one, IsPlaced, IsRooted, IsBlank, placed_same, rooted_same, IsPossible, ReadsRoot, seen, since, HasPlace, RootIs, Sure, event_knows, event_later, slot_later, slot_some, slot_placed, seen_steady, since_later, sure_later, blank_stable, placed_stable, rooted_stable, seen_stable, shaped_stable, All-cons, All-nil, still_locked, IsWayOf, RootWas, named, Found}
use Rattle.versions.specs.declared.Pin.{Pin}
use Rattle.rowex_reading.proofs.Possible.Rooting.{root_fresh}
use Rattle.rowex_writing.specs.locks.Checks.{EntriesStand}
use Rattle.rowex_writing.specs.locks.Going.{HasLocked, IsLockedBy, WorksOnKeepingRecords, IsStepUnderLocks}
use Rattle.rowex_writing.specs.locks.Locks.{HasLockedSpan, span_numbers}
use Rattle.rowex_writing.specs.declared.plan.Span.{Span}
use Rattle.rowex_writing.proofs.locks.Going.{locked_spells}
use Rattle.rowex_writing.proofs.locks.Shapes.{way_node_locked}
use Rattle.rowex_writing.proofs.locks.Spans.{locked_same}

pub some_of : (o : Option Entry) → IsSome o → (e : Entry) × (o ≡ Some e)
some_of None h = absurd (let e : ⊥ = cc in e)
some_of (Some e) h = (e, refl)

-- the entry at a place, where the subtrie has the place
placed_in : (p : Subtrie) (i : ℕ) (o : Option Entry) → IsSome o → o ≡ (if nat_lt i (size p) then Some (entry_at p i) else None) → o ≡ Some (entry_at p i)
placed_in p i o some is = go (ltb i (size p)) is
  where
    none : ◌≡◌ {A = Option Entry} o None → ⊥
    none is = let s = (some_of o some).1 in cc

    go : (b : _) → o ≡ (if b then Some (entry_at p i) else None) → o ≡ Some (entry_at p i)
    go true is = is
    go false is = absurd (none is)

-- ---- a load of an entry of a locked node
module _ {layout : Layout} {k j : Known} (n i w : ℕ) (e : IsEvent layout (LoadRef (Slot n i) w) silent k j) where
  -- the word is that of the entry at the place
  locked_entry : (words : List ℕ) → HasLocked k n words → i < 32 → entry_of w ≡ (if nat_lt i (size (node_words_of words).subtrie) then Some (entry_at (node_words_of words).subtrie i) else None)
  locked_entry words h low =
      let (lock, tree, same) = all_of (IsLocked k.pass e.core) (record { node = n; words = words }) k.locks (knows_all e.core k e.knows).locks h in
      let (view, is) = locked_spells e n words h in
      let small = subst (All (λ z. z < 2 ^ 64)) same (e.lawful.records.sized (a_node n)).1 in
      ap entry_of (entry_of_locked layout silent k j n i w words e h).0 ∙ (entry_at_is view words small is.has is.spells i low ∙
      ap (λ (z : NodeWords). if nat_lt i (size z.subtrie) then Some (entry_at z.subtrie i) else None) (sym is.shows))

  module _ (m h : ℕ) (has : HasPlace k m n h i) (o : Option Entry) (word : HasEntryWord o) (spells : entry_word o ≡ w) where
    pub entry_is : (words : List ℕ) → HasLocked k n words → i < 32 → o ≡ Some (entry_at (node_words_of words).subtrie i)
    entry_is words locked low =
        placed_in (node_words_of words).subtrie i o (slot_some layout k j n i w e m h has o word spells) (sym (entry_of_word o word) ∙ (ap entry_of spells ∙ locked_entry words locked low))

    -- Where it isn't the one that was read there since m, something has changed.
    pub entry_changed : (old : Entry) → Sure k (λ past. IsPlaced past m n i old) → o ≢ Some old → m < length j.front
    entry_changed old read ne = go (cases_lt m (length j.front))
      where
        go : (m < length j.front) ⊎ (length j.front ≤ m) → m < length j.front
        go (inl low) = low
        go (inr high) =
            let c = e.core in
            let later = slot_later layout k j n i w e m h has in
            let now = recalls c j (event_knows e) in
            let (f, is) = some_of o (slot_some layout k j n i w e m h has o word spells) in
            let fresh = slot_placed layout k j n i w e m h has o word spells f is c e.lawful now in
            let before = sure_later (placed_stable m n i old) later read c e.lawful now in
            let lo = before.1.since in
            let hi = before.1.until in
            let newest : m ≡ length j.front = omega arith in
            let same = placed_same (seen c j) m (seen_steady e.lawful now (since_later later has.0.0)) newest n i old f before fresh in
            absurd (ne (is ∙ ap Some (sym same)))

-- ---- a load of the root
module _ {G : Type 0} (table : TableView) (becomes : G → Event → G → Type 0) where
  pub reads_root : (a b : SeatView × G) → ReadsRoot table becomes a b → WorksOnKeepingRecords table becomes a b
  reads_root a b (w, s) = record {
    goes = record {
      acts = LoadRef Root w ∷ [];
      plain = All-cons IsStepUnderLocks (LoadRef Root w) [] tt (All-nil IsStepUnderLocks);
      steps = runs_one table becomes (LoadRef Root w) a b s;
      stays = still_locked table.layout a.0.known b.0.known (LoadRef Root w) tt tt tt tt s.event;
    };
    own = ap (λ (z : Known). z.own) s.event.learned_is;
  }

blank_top : (heap : Heap) (r : Option Entry) (t : Option Tree) → t ≡ None → IsTop heap r t → None ≡ r
blank_top heap None t is top = refl
blank_top heap (Some x) None is top = absurd top
blank_top heap (Some x) (Some u) is top = absurd cc

rooted_top : (heap : Heap) (r : Option Entry) (t : Option Tree) (u : Tree) (e : Entry) → t ≡ Some u → subtrie u ≡ Place e → IsTop heap r t → Some e ≡ r
rooted_top heap None None u e is pg top = absurd cc
rooted_top heap None (Some v) u e is pg top = absurd top
rooted_top heap (Some x) None u e is pg top = absurd top
rooted_top heap (Some x) (Some v) u e is pg top = let one : v ≡ u = cc in let both : Place e ≡ Place x = sym pg ∙ (ap subtrie (sym one) ∙ top.0) in cc

module _ {layout : Layout} {k j : Known} (p : Pin) (pinned : k.pin ≡ Some p) (w : ℕ) (e : IsEvent layout (LoadRef Root w) silent k j) where
  fresh_now : since j ≡ length j.front
  fresh_now = ap (λ (z : Fresh). length z.front) (root_fresh layout k j p pinned w e)

  front_now : length j.front ≡ e.core.past.now
  front_now = ap (λ (z : Known). length z.front) e.learned_is ∙ e.lawful.core.told.count

  there : Recalls e.core j
  there = recalls e.core j (event_knows e)

  root_is : (o : Option Entry) → RootIs j o → o ≡ e.core.root
  root_is None h =
      let (n, lo, hi, blank) = h e.core e.lawful there in
      let now : n ≡ e.core.past.now = let a = fresh_now in let b = front_now in omega arith in
      blank_top (heap_of e.core.words) e.core.root (e.core.past.version e.core.past.now) (ap e.core.past.version (sym now) ∙ blank) e.lawful.core.state.top
  root_is (Some x) h =
      let (n, t, lo, hi, is, pg) = h e.core e.lawful there in
      let now : n ≡ e.core.past.now = let a = fresh_now in let b = front_now in omega arith in
      rooted_top (heap_of e.core.words) e.core.root (e.core.past.version e.core.past.now) t x (ap e.core.past.version (sym now) ∙ is) pg e.lawful.core.state.top

  -- under the anchor's lock it is the one that the pass knows
  pub anchor_is : IsSome k.anchor → (o : Option Entry) → RootIs j o → j.anchor ≡ Some o
  anchor_is some o h =
      let (r, is) = anchored k.anchor some in
      let still = ap (λ (z : Known). z.anchor) e.learned_is ∙ is in
      still ∙ ap Some (sym ((knows_all e.core k e.knows).anchor r is).1 ∙ sym (root_is o h))
    where
      anchored : (a : Option (Option Entry)) → IsSome a → (r : Option Entry) × (a ≡ Some r)
      anchored None h = absurd (let e : ⊥ = cc in e)
      anchored (Some r) h = (r, refl)

  -- Where it isn't the one that was read since m, something has changed.
  pub root_changed : (m : ℕ) (old o : Option Entry) → RootWas k m old → RootIs j o → o ≢ old → m < length j.front
  root_changed m old o was is ne = go (cases_lt m (length j.front))
    where
      later : IsLater k j
      later = event_later e tt

      two : length j.front ≤ m → (old o : Option Entry) → RootWas k m old → RootIs j o → o ≡ old
      two high None None was is = refl
      two high None (Some f) was is =
          let before = sure_later (blank_stable m) later was e.core e.lawful there in
          let now : m ≡ length j.front = let lo = before.1 in let hi = before.2 in omega arith in
          let fresh = subst (λ n. IsRooted (seen e.core j) n f) (fresh_now ∙ sym now) (is e.core e.lawful there) in
          absurd ((rooted_same (seen e.core j) m now).1 f fresh before)
      two high (Some d) None was is =
          let before = sure_later (rooted_stable m d) later was e.core e.lawful there in
          let now : m ≡ length j.front = let lo = before.2 in let hi = before.3 in omega arith in
          let fresh = subst (λ n. IsBlank (seen e.core j) n) (fresh_now ∙ sym now) (is e.core e.lawful there) in
          absurd ((rooted_same (seen e.core j) m now).1 d before fresh)
      two high (Some d) (Some f) was is =
          let before = sure_later (rooted_stable m d) later was e.core e.lawful there in
          let now : m ≡ length j.front = let lo = before.2 in let hi = before.3 in omega arith in
          let fresh = subst (λ n. IsRooted (seen e.core j) n f) (fresh_now ∙ sym now) (is e.core e.lawful there) in
          ap Some ((rooted_same (seen e.core j) m now).0 f d fresh before)

      go : (m < length j.front) ⊎ (length j.front ≤ m) → m < length j.front
      go (inl low) = low
      go (inr high) = absurd (ne (two high old o was is))

-- ---- the nodes of a span

-- each node above the index stands as the search found it
abbrev pub StandBelow : Layout → Known → List PathNode → Found → Span → ℕ → Type 0
StandBelow layout k way found span index = (m : ℕ) (key : Key) → IsWayOf layout k m key way found → EntriesStand k key way found (record { len = index; end = span.end })

pub none_stand : (layout : Layout) (k : Known) (way : List PathNode) (found : Found) (span : Span) (index : ℕ) → index ≡ span.end - 1 → StandBelow layout k way found span index
none_stand layout k way found span index is m key w i s low high at words h = absurd (omega arith)

pub more_stand : (layout : Layout) (k : Known) (way : List PathNode) (found : Found) (span : Span) (index : ℕ) → IsPossible layout k → StandBelow layout k way found span index →
    ((s : PathNode) → slice_get way index ≡ Some s → (words : List ℕ) → HasLocked k s.number words → named way found (index + 1) ≡ Some (entry_at (node_words_of words).subtrie s.slot)) →
    StandBelow layout k way found span (index + 1)
more_stand layout k way found span index possible above here m key w i s low high at words h = go (cases_lt i index)
  where
    go : (i < index) ⊎ (index ≤ i) → named way found (i + 1) ≡ Some (seek key (node_words_of words).subtrie)
    go (inl less) = above m key w i s low less at words h
    go (inr more) =
        let one : i ≡ index = omega arith in
        let (e, name, is) = w.nodes i s at in
        let step = way_node_locked layout k m key s e words possible w.since is h in
        ap (λ n. named way found (n + 1)) one ∙ (here s (ap (slice_get way) (sym one) ∙ at) words h ∙
        ap Some (ap (entry_at (node_words_of words).subtrie) (sym step.at) ∙ sym (seek_spot key (node_words_of words).subtrie)))

-- ---- a step of the way, some loads later
module _ (layout : Layout) (k j : Known) (m : ℕ) (key : Key) (way : List PathNode) (found : Found) (later : IsLater k j) (w : IsWayOf layout k m key way found) (i : ℕ) (s : PathNode)
    (at : slice_get way i ≡ Some s) where
  pub step_place : HasPlace j m s.number s.height s.slot
  step_place =
      let (e, name, is) = w.nodes i s at in
      let low : s.slot < size is.forks = subst (λ n. n < size is.forks) (sym is.at) (spot_below key is.forks) in (
        (since_later later w.since, sure_later (seen_stable m (Node s.number s.height)) later is.seen),
        λ c law known. (is.forks, sure_later (shaped_stable m s.number is.forks) later is.shaped c law known, low),
      )

  pub step_read : (e : Entry) × (named way found (i + 1) ≡ Some e) × Sure j (λ past. IsPlaced past m s.number s.slot e)
  step_read = let (e, name, is) = w.nodes i s at in (e, name, sure_later (placed_stable m s.number s.slot e) later is.placed)

pub drop_has : {X : Type 0} (xs : List X) (a i : ℕ) (x : X) → a ≤ i → slice_get xs i ≡ Some x → slice_get (drop a xs) (i - a) ≡ Some x
drop_has xs zero i x low at = let e : i ≡ i - 0 = omega arith in ap (slice_get xs) (sym e) ∙ at
drop_has [] (suc a) i x low at = absurd cc
drop_has (y ∷ xs) (suc a) zero x low at = absurd (omega arith)
drop_has (y ∷ xs) (suc a) (suc i) x low at = let e : suc i - suc a ≡ i - a = omega arith in ap (slice_get (drop a xs)) e ∙ drop_has xs a i x (omega arith) at

pub take_has : {X : Type 0} (xs : List X) (n i : ℕ) (x : X) → i < n → slice_get xs i ≡ Some x → IsOneOf x (take n xs)
take_has xs zero i x low at = absurd (omega arith)
take_has [] (suc n) i x low at = absurd cc
take_has (y ∷ xs) (suc n) zero x low at = inl (let e : x ≡ y = cc in e)
take_has (y ∷ xs) (suc n) (suc i) x low at = inr (take_has xs n i x (omega arith) at)

-- each node of the span is locked
pub span_locked : (k j : Known) (way : List PathNode) (span : Span) → j.locks ≡ k.locks → HasLockedSpan k way span → (i : ℕ) (s : PathNode) → span.end ≤ i + 1 → i < span.len → slice_get way i ≡ Some s →
    IsLockedBy j s.number
span_locked k j way span same locked i s low high at =
    let inside = take_has (drop (span.end - 1) way) (span.len - (span.end - 1)) (i - (span.end - 1)) s (omega arith) (drop_has way (span.end - 1) i s (omega arith) at) in
    let (l, there, is) = locked.nodes.0.each s.number (map_of (λ (z : PathNode). z.number) s (slice_range way (span.end - 1) span.len) inside) in
    (l.words, subst (λ locks. IsOneOf (record { node = s.number; words = l.words }) locks) (sym same) (subst (λ n. IsOneOf (record { node = n; words = l.words }) k.locks) is there))

pub span_later : (k j : Known) (way : List PathNode) (span : Span) → j.locks ≡ k.locks → j.anchor ≡ k.anchor → HasLockedSpan k way span → HasLockedSpan j way span
span_later k j way span locks anchor locked = record {
  nodes = locked_same k j (span_numbers way span) locks locked.nodes;
  top = λ z. subst (λ a. IsSome a) (sym anchor) (locked.top z);
  below = λ z. anchor ∙ locked.below z;
}

pub since_pinned : (k : Known) (m : ℕ) → IsPinnedSince k m → IsSome k.pin
since_pinned k m (p, is, low) = subst (λ a. IsSome a) (sym is) refl
