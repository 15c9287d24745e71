-- What a walk has seen at the places that come next, and what it comes to behind their leaves.
use Rattle.rowex_scanning.proofs.Common.{◌≡◌, ℕ, ◌+◌, ◌<◌, ◌≤◌, List, length, Bool, false, get_or, set, take, ap, sym, ◌∙◌, subst, arith, ⊎_elim, cases_lt, get_or-set_other, length-take-le, height_of, Entry, Leaf, Node, PathNode, Layout, a_leaf, Known, IsLater, IsStartOf, Range, EntryStoodSince, IsPlaced, HasPlace, HasMorePlaces, IsLedTo, Sure, since, placed_stable, room_stable, seen_stable, since_later, sure_later, first_key, gap_after, gap_before, gap_behind, place_ahead, to_come, Direction}
use Rattle.std.proofs.lemmas.List.{get_or-take}
use Rattle.std.proofs.lemmas.Grind.{get_or-set_at}
use Rattle.rowex_scanning.specs.Ahead.{AreAhead, AreNext, LeavesBeginAt, FirstLeavesBeginAt, AreJudged, HasPlaces, HavePassed, IsNodeAhead}
use Rattle.rowex_scanning.specs.Scanning.{IsBound, IsLeafJudged, IsReached, IsWalk, Request}
use Rattle.rowex_scanning.specs.Tallies.{IsKept, Tally}
use Rattle.rowex_scanning.specs.declared.scan.Verdict.{Verdict}
use Rattle.rowex_scanning.specs.declared.scan.Verdict.TheVariants.{Further, Past as IsPast}
use Rattle.rowex_scanning.proofs.direction.Directed.{come_most, gap_before_place, gap_behind_place, gap_none}
use Rattle.rowex_scanning.proofs.Walking.{IsAtEntry, bound_later, bound_leaf, bound_next, bound_since, entry_led, taken_more, tallied_kept, walk_at_place, walk_fits, walk_further, walk_later, walk_since, walk_tallied}

-- a node with another gap
abbrev at_gap : PathNode → ℕ → PathNode
at_gap top gap = record top { slot = gap }

module _ (d : Direction) (m : ℕ) (top : PathNode) where
  -- after more loads
  module _ {k j : Known} (l : IsLater k j) where
    pub places_later : HasPlaces d k m top → HasPlaces d j m top
    places_later has i low = let ((pinned, stood), room) = has i low in (
      (since_later l pinned, sure_later {P = λ s. EntryStoodSince s m (Node top.number top.height)} (seen_stable m (Node top.number top.height)) l stood),
      sure_later {P = λ s. HasMorePlaces s m top.number (place_ahead d top.slot i)} (room_stable m top.number (place_ahead d top.slot i)) l room,
    )

    pub ahead_later : (count : ℕ) (leaves : List ℕ) → AreAhead d k m top count leaves → AreAhead d j m top count leaves
    ahead_later count leaves are i low = sure_later (placed_stable m top.number (place_ahead d top.slot i) (Leaf (get_or leaves i 0))) l (are i low)

    pub node_later : (count n : ℕ) → IsNodeAhead d k m top count n → IsNodeAhead d j m top count n
    node_later count n (h, low, placed) = (h, low, sure_later (placed_stable m top.number (place_ahead d top.slot count) (Node n h)) l placed)

  -- the entry that was loaded behind so many others
  pub loaded_at : {k j : Known} (i place : ℕ) (e : Entry) → place ≡ place_ahead d top.slot i → HasPlace k m top.number top.height (place_ahead d top.slot i) →
      ((n h : ℕ) → HasPlace k n top.number h place → (height_of e < h) × Sure j (λ s. IsPlaced s n top.number place e)) → (height_of e < top.height) × Sure j (λ s. IsPlaced s m top.number (place_ahead d top.slot i) e)
  loaded_at {k} {j} i place e is has loaded =
      subst (λ z. (height_of e < top.height) × Sure j (λ s. IsPlaced s m top.number z e)) is (loaded m top.height (subst (λ z. HasPlace k m top.number top.height z) (sym is) has))

  -- as the first of them, with no others
  pub ahead_first : {k : Known} (count : ℕ) (leaves : List ℕ) → count ≤ length leaves → AreAhead d k m top count leaves → AreAhead d k m top (length (take count leaves)) (take count leaves)
  ahead_first {k} count leaves fits are i low =
      let long = length-take-le count leaves fits in let less : i < count = omega (arith, long, low) in
      subst (λ z. Sure k (λ s. IsPlaced s m top.number (place_ahead d top.slot i) (Leaf z))) (sym (get_or-take count leaves i 0 less)) (are i less)

  -- one leaf more
  pub ahead_more : {k : Known} (i : ℕ) (leaves : List ℕ) (n : ℕ) → AreAhead d k m top i leaves → i < length leaves → Sure k (λ s. IsPlaced s m top.number (place_ahead d top.slot i) (Leaf n)) → AreAhead d k m top (i + 1) (set leaves i n)
  ahead_more {k} i leaves n are room placed o low = ⊎_elim
      (λ (less : o < i). subst (λ z. Sure k (λ s. IsPlaced s m top.number (place_ahead d top.slot o) (Leaf z))) (sym (get_or-set_other leaves i o n 0 (omega arith))) (are o less))
      (λ (more : i ≤ o). let is : o ≡ i = omega (arith, more, low) in
      subst (λ z. Sure k (λ s. IsPlaced s m top.number (place_ahead d top.slot o) (Leaf z))) (sym (get_or-set_at leaves i o n 0 is room)) (subst (λ z. Sure k (λ s. IsPlaced s m top.number (place_ahead d top.slot z) (Leaf n))) (sym is) placed))
      (cases_lt o i)

-- Where the records of leaves begin: one more, and the first of them with no others.
module _ (layout : Layout) where
  pub starts_more : (i : ℕ) (leaves starts : List ℕ) (n start : ℕ) → FirstLeavesBeginAt layout i leaves starts → i < length leaves → i < length starts → IsStartOf layout (a_leaf n) start → FirstLeavesBeginAt layout (i + 1) (set leaves i n) (set starts i start)
  starts_more i leaves starts n start are room wide begins o low = ⊎_elim
      (λ (less : o < i). subst (λ z. IsStartOf layout (a_leaf z) (get_or (set starts i start) o 0)) (sym (get_or-set_other leaves i o n 0 (omega arith)))
      (subst (λ z. IsStartOf layout (a_leaf (get_or leaves o 0)) z) (sym (get_or-set_other starts i o start 0 (omega arith))) (are o less)))
      (λ (more : i ≤ o). let is : o ≡ i = omega (arith, more, low) in
      subst (λ z. IsStartOf layout (a_leaf z) (get_or (set starts i start) o 0)) (sym (get_or-set_at leaves i o n 0 is room))
      (subst (λ z. IsStartOf layout (a_leaf n) z) (sym (get_or-set_at starts i o start 0 is wide)) begins))
      (cases_lt o i)

  pub starts_first : (count : ℕ) (leaves starts : List ℕ) → count ≤ length leaves → count ≤ length starts → FirstLeavesBeginAt layout count leaves starts → LeavesBeginAt layout (take count leaves) (take count starts)
  starts_first count leaves starts fits wide are =
      let long = length-take-le count leaves fits in let more = length-take-le count starts wide in (
        more ∙ sym long,
        λ i low. let less : i < count = omega (arith, long, low) in
            subst (λ z. IsStartOf layout (a_leaf z) (get_or (take count starts) i 0)) (sym (get_or-take count leaves i 0 less))
            (subst (λ z. IsStartOf layout (a_leaf (get_or leaves i 0)) z) (sym (get_or-take count starts i 0 less)) (are i less)),
      )

-- Before any leaf.
pub passed_none : {d : Direction} {k : Known} {m : ℕ} {g : Range} {top : PathNode} {frames : List PathNode} {t : Tally} → IsWalk k m (d, g) top frames t → IsBound d k m (first_key d g) top frames → HavePassed k m (d, g) frames top t.size 0 t
passed_none {d} {k} {m} {g} {top} {frames} {t} w b = record {
  more = omega arith;
  walk = subst (λ (z : PathNode). IsWalk k m (d, g) z frames t) same w;
  bound = subst (λ (z : PathNode). IsBound d k m (first_key d g) z frames) same b;
}
  where
    same : top ≡ record top { slot = gap_after d top.slot 0 }
    same = ap (at_gap top) (sym (gap_none d top.slot))

-- Behind some leaves, at one more.
module _ {d : Direction} {k : Known} {m : ℕ} {g : Range} {top : PathNode} {frames : List PathNode} {size i : ℕ} {t : Tally} (fits : top.slot ≤ top.count) (come : i < to_come d top.count top.slot) (p : HavePassed k m (d, g) frames top size i t)
    {number : ℕ} (placed : Sure k (λ s. IsPlaced s m top.number (place_ahead d top.slot i) (Leaf number))) where
  pub leaf_at : IsAtEntry d k m g (record top { slot = place_ahead d top.slot i }) frames t (Leaf number)
  leaf_at = record { walk = walk_at_place i fits come p.walk; placed = placed }

  bound_at : IsBound d k m (first_key d g) (record (record top { slot = place_ahead d top.slot i }) { slot = gap_before d (place_ahead d top.slot i) }) frames
  bound_at = subst (λ z. IsBound d k m (first_key d g) (at_gap top z) frames) (gap_before_place d top.count top.slot i come) p.bound

  -- which doesn't come before the range
  pub leaf_reached : (layout : Layout) → IsLedTo k m (Leaf number) × IsReached d layout k m (first_key d g) number
  leaf_reached layout = (entry_led leaf_at, bound_leaf d m (first_key d g) (record top { slot = place_ahead d top.slot i }) bound_at number leaf_at.walk.stands.pinned placed)

  -- the walk behind it
  pub passed_on : {j : Known} {u : Tally} → IsLater k j → u.size ≡ t.size + 1 → IsWalk j m (d, g) (record top { slot = gap_behind d (place_ahead d top.slot i) }) frames u → HavePassed j m (d, g) frames top size (i + 1) u
  passed_on {j} {u} l one w = record {
    more = let before = p.more in omega (arith, one, before);
    walk = subst (λ z. IsWalk j m (d, g) (at_gap top z) frames u) (gap_behind_place d top.slot i) w;
    bound = subst (λ z. IsBound d j m (first_key d g) (at_gap top z) frames) (gap_behind_place d top.slot i)
        (bound_next d m (first_key d g) (record top { slot = place_ahead d top.slot i }) (bound_later d m (first_key d g) l bound_at));
  }

  -- and which was taken
  pub passed_more : {j : Known} {u : Tally} {verdict : Verdict} → IsLater k j → IsLeafJudged k j (d, g) number t u verdict → verdict ≡ Further → HavePassed j m (d, g) frames top size (i + 1) u
  passed_more l a is = passed_on l (taken_more leaf_at l a is) (walk_further leaf_at l a is)

-- All were taken.
pub taken_all : (Passed : Type 0) (Ended : Bool → Type 0) {verdict : Verdict} → AreJudged Passed Ended verdict → verdict ≡ Further → Passed
taken_all Passed Ended taken is = subst (λ z. AreJudged Passed Ended z) is taken

-- The scan has ended at one.
pub taken_past : (Passed : Type 0) (Ended : Bool → Type 0) {verdict : Verdict} → AreJudged Passed Ended verdict → verdict ≡ IsPast → Ended false
taken_past Passed Ended taken is = subst (λ z. AreJudged Passed Ended z) is taken

-- After more loads.
pub passed_later : {k j : Known} {m : ℕ} {r : Request} {frames : List PathNode} {top : PathNode} {size count : ℕ} {t : Tally} → IsLater k j → HavePassed k m r frames top size count t → HavePassed j m r frames top size count t
passed_later {m = m} {r = r} l p = record { more = p.more; walk = walk_later l p.walk; bound = bound_later r.0 m (first_key r.0 r.1) l p.bound }

-- Since another load of the root that is the same, and for another number of pairs before that is the same.
pub passed_as : {j : Known} {m n : ℕ} {r : Request} {frames : List PathNode} {top : PathNode} {size before count : ℕ} {t : Tally} → m ≡ n → size ≡ before → HavePassed j m r frames top size count t → HavePassed j n r frames top before count t
passed_as {j} {m} {n} {r} {frames} {top} {size} {before} {count} {t} same is p = subst (λ z. HavePassed j n r frames top z count t) is (subst (λ z. HavePassed j z r frames top size count t) same p)

-- Leaves that come next come next after more loads, where as much is said of the pairs so far, and the first of them alone.
pub next_later : {k j : Known} {r : Request} {top : PathNode} {frames : List PathNode} {t : Tally} {leaves : List ℕ} → IsLater k j → since j ≡ since k → AreNext k r top frames t leaves → AreNext j r top frames t leaves
next_later {k} {j} {r} {top} {frames} {t} {leaves} l same n = record {
  bound = (walk_since same (walk_later l n.bound.0), bound_since r.0 (since k) (first_key r.0 r.1) same (bound_later r.0 (since k) (first_key r.0 r.1) l n.bound.1));
  ahead = subst (λ z. AreAhead r.0 j z top (length leaves) leaves) (sym same) (ahead_later r.0 (since k) top l (length leaves) leaves n.ahead);
  come = n.come;
}

pub next_kept : {k : Known} {r : Request} {top : PathNode} {frames : List PathNode} {t u : Tally} {leaves : List ℕ} → IsKept t u → AreNext k r top frames t leaves → AreNext k r top frames u leaves
next_kept {t = t} {u = u} kept n = record { bound = (walk_tallied (tallied_kept t u kept) n.bound.0, n.bound.1); ahead = n.ahead; come = n.come }

pub next_first : {k : Known} {r : Request} {top : PathNode} {frames : List PathNode} {t : Tally} {leaves : List ℕ} (count : ℕ) → count ≤ length leaves → AreNext k r top frames t leaves → AreNext k r top frames t (take count leaves)
next_first {k} {r} {top} {leaves = leaves} count fits n = record {
  bound = n.bound;
  ahead = ahead_first r.0 (since k) top count leaves fits (λ i low. n.ahead i (omega (arith, low, fits)));
  come = let long = length-take-le count leaves fits in let come = n.come in omega (arith, long, come, fits);
}

-- They are no more than a node has entries.
pub next_few : {k : Known} {r : Request} {top : PathNode} {frames : List PathNode} {t : Tally} {leaves : List ℕ} → AreNext k r top frames t leaves → length leaves ≤ 32
next_few {r = r} {top = top} n =
    let w = n.bound.0 in let room : top.count ≤ 32 = subst (λ z. z ≤ 32) (sym (ap (λ (z : PathNode). z.count) w.top_is)) w.room in
    let most = come_most r.0 top.count top.slot (walk_fits w) in let come = n.come in omega (arith, come, most, room)

-- At the node that comes behind them.
pub node_at : {d : Direction} {k : Known} {m : ℕ} {g : Range} {top : PathNode} {frames : List PathNode} {size count number : ℕ} {t : Tally} → top.slot ≤ top.count → count < to_come d top.count top.slot → HavePassed k m (d, g) frames top size count t →
    (ahead : IsNodeAhead d k m top count number) → IsAtEntry d k m g (record top { slot = place_ahead d top.slot count }) frames t (Node number ahead.0)
node_at {count = count} fits come p ahead = record { walk = walk_at_place count fits come p.walk; placed = ahead.2 }
