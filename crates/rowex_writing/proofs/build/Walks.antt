-- The walk of a change over the records of a kind: how it begins, goes on and ends.
use Rattle.rowex_writing.proofs.Common.{◌≡◌, ◌⊎◌, inl, inr, ℕ, suc, ◌+◌, ◌-◌, ◌<◌, ◌≤◌, List, [], ◌∷◌, ◌++◌, Bool, true, false, nat_eq, nat_lt, Option, length, get_or, if◌then◌else◌, refl, sym, ap, subst, ◌∙◌, arith, le_refl, le_trans, Some, None, All, Contains, eqb-false, eqb-true, cases_lt, ltb-true, ltb-false, lt-ltb, le-ltb, get_or_default, All-contains, Contains-append_left, Contains-push, Layout, state_word, Rec, a_node, LoadState, Event, Failed, Known, Locked, Owned, Held, Fate, AreApart, Core, HasRecord, holder_of, word_of, failed_with, IsOwned, lock_of, tag_of, a_load, knows_all, Made, nodes_of, IsClaimed, OwnsAs, Steps, TableView, SeatView, does_count, Claims, FindsNone, HasMissedSince, IsAnothers, IsAnothersBut, IsAnothersTo, MissesOne, begin_of, begins_low, claiming, records_had, wrapped, anothers_among, anothers_before, held_misses, missed_among, missed_earlier, missed_so, turned_to, counted, looks_one}
use Rattle.std.specs.Prelude.{map, min, MatchOption}
use Rattle.record_words.specs.Layout.{uncommitted_in}
use Rattle.rowex_table.specs.Committed.{AtMost}
use Rattle.rowex_table.proofs.Committed.{committed_falls}
use Rattle.rowex_records.specs.Claims.{AllCommittedMissed}
use Rattle.versions.specs.Core.{Held as HeldBy}
use Rattle.rowex_writing.specs.declared.build.kept.Build.{Build}
use Rattle.rowex_writing.specs.build.Building.{IsBuilding}
use Rattle.rowex_writing.specs.locks.Going.{WorksOn}
use Rattle.rowex_writing.specs.declared.build.kept.NodeWalk.{NodeWalk}
use Rattle.rowex_writing.specs.build.Walks.{HasMissedEach, HasNoOther, HasNoneLeft, HasWalked, IsClaimWalk, IsCommittedWalk, IsOwnOf, Makes, bounds_of_walk, left_below}
use Rattle.rowex_writing.proofs.build.Changes.{made_alone, made_held, made_records, run_failed}
use Rattle.rowex_writing.proofs.locks.Going.{goes_bounds, goes_more, goes_none}
use Rattle.rowex_writing.proofs.build.Building.{miss_on, steps_rise}

-- ---- numbers in turn
by_order : (n x : ℕ) (P : ℕ → Type 0) → (x < n → P x) → (n ≤ x → P (x - n)) → P (if nat_lt x n then x else x - n)
by_order n x P below above = go (nat_lt x n) refl
  where
    go : (b : Bool) → nat_lt x n ≡ b → P (if b then x else x - n)
    go true is = below (ltb-true x n is)
    go false is = above (ltb-false x n is)

low_is : (n x : ℕ) → x < n → (if nat_lt x n then x else x - n) ≡ x
low_is n x low = let is : nat_lt x n ≡ true = lt-ltb x n low in rw is refl

high_is : (n x : ℕ) → n ≤ x → (if nat_lt x n then x else x - n) ≡ x - n
high_is n x high = let is : nat_lt x n ≡ false = le-ltb x n high in rw is refl

-- some on from a number in turn
wrapped_on : (n begin t m : ℕ) → begin < n → t < n → t + m ≤ n → wrapped n (wrapped n begin t) m ≡ wrapped n begin (t + m)
wrapped_on n begin t m low within few = by_order n (begin + t) (λ p. wrapped n p m ≡ wrapped n begin (t + m))
    (λ below. let same : begin + t + m ≡ begin + (t + m) = omega arith in ap (λ z. if nat_lt z n then z else z - n) same)
    (λ above. low_is n (begin + t - n + m) (omega arith) ∙ (let same : begin + t - n + m ≡ begin + (t + m) - n = omega arith in same ∙ sym (high_is n (begin + (t + m)) (omega arith))))

-- and the one after it
next_on : (n begin t number : ℕ) → begin < n → t < n → number ≡ wrapped n begin t → begin_of n (number + 1) ≡ wrapped n begin (t + 1)
next_on n begin t number low within is = subst (λ z. begin_of n (z + 1) ≡ wrapped n begin (t + 1)) (sym is) (by_order n (begin + t) (λ p. begin_of n (p + 1) ≡ wrapped n begin (t + 1)) before after)
  where
    before : begin + t < n → begin_of n (begin + t + 1) ≡ wrapped n begin (t + 1)
    before below = go (nat_lt (begin + t + 1) n) refl
      where
        go : (b : Bool) → nat_lt (begin + t + 1) n ≡ b → (if nat_lt (begin + t + 1) n then begin + t + 1 else 0) ≡ wrapped n begin (t + 1)
        go true e = let inside = ltb-true (begin + t + 1) n e in rw e ((let same : begin + t + 1 ≡ begin + (t + 1) = omega arith in same) ∙ sym (low_is n (begin + (t + 1)) (omega arith)))
        go false e = let past = ltb-false (begin + t + 1) n e in rw e ((let same : 0 ≡ begin + (t + 1) - n = omega arith in same) ∙ sym (high_is n (begin + (t + 1)) (omega arith)))

    after : n ≤ begin + t → begin_of n (begin + t - n + 1) ≡ wrapped n begin (t + 1)
    after above =
        let inside : nat_lt (begin + t - n + 1) n ≡ true = lt-ltb (begin + t - n + 1) n (omega arith) in
        rw inside ((let same : begin + t - n + 1 ≡ begin + (t + 1) - n = omega arith in same) ∙ sym (high_is n (begin + (t + 1)) (omega arith)))

-- ---- whose it was
-- what is said of the pass is said of the same one later, which may have more records
pub missed_as : (layout : Layout) (k j : Known) (own more : List Rec) (failed : List Failed) (r : Rec) (since : ℕ) → j.pass ≡ k.pass → j.locks ≡ k.locks → (Contains own r → Contains more r) →
    HasMissedSince (IsAnothersBut layout k own) failed r since → HasMissedSince (IsAnothersBut layout j more) failed r since
missed_as layout k j own more failed r since same locks among missed =
    subst (λ q. HasMissedSince (IsAnothers layout q more (nodes_of j.locks)) failed r since) (sym same)
    (subst (λ (l : List Locked). HasMissedSince (IsAnothers layout k.pass more (nodes_of l)) failed r since) (sym locks)
    (missed_so (IsAnothersBut layout k own) (IsAnothersBut layout k more) failed r since (λ by. anothers_among layout k.pass own more (nodes_of k.locks) (nodes_of k.locks) r by among (λ n there. there)) missed))

-- and of more failed steps
missed_more : (Whose : Rec → Option ℕ → Type 0) (failed more : List Failed) (r : Rec) (since : ℕ) → ((x : Failed) → Contains failed x → Contains more x) → HasMissedSince Whose failed r since → HasMissedSince Whose more r since
missed_more Whose failed more r since kept (step, late, (act, word, tells, one, has)) = (step, late, (act, word, tells, one, kept _ has))

-- a pass that has the same records has no other still
pub alone_still : (k j : Known) (made : List Rec) → j.own ≡ k.own → HasNoOther k made → HasNoOther j made
alone_still k j made same alone r has = alone r (subst (λ own. Contains (map (λ (o : Owned). o.rec) own) r) same has)

-- ---- the walk
-- a walk that is to try each record begins at any number
pub claims_begin : (layout : Layout) (end since : ℕ) (k : Known) (made : List Rec) (next left : ℕ) → since ≤ k.steps → 0 < end → left ≡ end → IsClaimWalk layout end since k made next left
claims_begin layout end since k made next left early some whole = record {
  early = early;
  begin = begin_of end next;
  low = begins_low end next some;
  tried = 0;
  count = omega arith;
  next_is = λ more. sym ((let same : begin_of end next + 0 ≡ begin_of end next = omega arith in ap (λ z. if nat_lt z end then z else z - end) same) ∙ low_is end (begin_of end next) (begins_low end next some));
  each = λ i low. absurd (omega arith);
}

pub walk_begins : (layout : Layout) (s : SeatView) (build : Build) (all : Layout) → build.walk.left ≡ all.nodes → build.walk.end ≡ all.nodes → all ≡ layout → HasWalked layout s s build
walk_begins layout s build all left end same =
    let whole : all.nodes ≡ layout.nodes = ap (λ (z : Layout). z.nodes) same in
    let some = layout.nodes_in_range.0 in
    record {
      claims = claims_begin layout build.walk.end s.known.steps s.known build.made.items build.nodes.next (left_below layout.nodes build.walk) (le_refl s.known.steps) (omega (arith, whole, end, some)) (omega (arith, whole, left, end));
      within = omega (arith, whole, end);
      rest = omega (arith, whole, left);
      falls = le_refl (uncommitted_in s.bounds 0);
      whole = omega (arith, whole, end);
      begun = inl (left ∙ whole, end ∙ whole);
    }

-- it goes on being one, where failed steps and records come to those that there are
pub walk_stays : {end : ℕ} (layout : Layout) (since : ℕ) (k j : Known) (made more : List Rec) (next left : ℕ) → j.pass ≡ k.pass → j.locks ≡ k.locks → k.steps ≤ j.steps → ((x : Failed) → Contains k.failed x → Contains j.failed x) → ((r : Rec) → Contains made r → Contains more r)
    → IsClaimWalk layout end since k made next left → IsClaimWalk layout end since j more next left
walk_stays {end} layout since k j made more next left same locks later failed kept w = record {
  early = let early = w.early in omega arith;
  begin = w.begin;
  low = w.low;
  tried = w.tried;
  count = w.count;
  next_is = w.next_is;
  each = λ i low. elim (w.each i low) [
    | inl missed ↦ inl (missed_as layout k j made more j.failed (a_node (wrapped end w.begin i)) since same locks (kept (a_node (wrapped end w.begin i)))
        (missed_more (IsAnothersBut layout k made) k.failed j.failed (a_node (wrapped end w.begin i)) since failed missed))
    | inr has ↦ inr (kept _ has)
  ];
}

-- where all below its end have been tried, each that is committed by bounds that leave no more was found not free, if those that are made were
pub walk_ends : (layout : Layout) (bounds : List ℕ) (since end : ℕ) (k : Known) (made : List Rec) (next left : ℕ) → left ≡ 0 → layout.nodes ≤ end + uncommitted_in bounds 0 →
    ((r : Rec) → Contains made r → HasMissedSince (IsAnothersBut layout k made) k.failed r since) →
    All (λ r. HasMissedSince (IsOwnOf k.pass) k.failed r since) made → AreApart made → IsClaimWalk layout end since k made next left → HasMissedEach layout bounds since k made
walk_ends layout bounds since end k made next left none whole looked own apart w = record { missed = each; own = own; apart = apart }
  where
    each : AllCommittedMissed (IsAnothersBut layout k made) layout bounds a_node layout.nodes k.failed since
    each q low committed =
        let below : q < end = omega (arith, whole, committed) in
        let (i, within, is) = turned_to end w.begin q w.low below in
        let all = w.count in
        subst (λ z. HasMissedSince (IsAnothersBut layout k made) k.failed (a_node z) since) is (elim (w.each i (omega arith)) [ inl missed ↦ missed | inr has ↦ looked _ has ])

-- By more bounds a walk must find no more than those that were known to be committed when it began.
pub walk_bounds_fewer : (walk : NodeWalk) (first : SeatView) → AtMost (uncommitted_in (bounds_of_walk walk first)) (uncommitted_in first.bounds)
walk_bounds_fewer walk first kind = go walk.commits
  where
    go : (commits : Bool) → uncommitted_in (if commits then [] else first.bounds) kind ≤ uncommitted_in first.bounds kind
    go true = omega arith
    go false = le_refl (uncommitted_in first.bounds kind)

-- so what it has missed are those, and all if it commits
pub missed_known : (layout : Layout) (walk : NodeWalk) (first : SeatView) (since : ℕ) (k : Known) (made : List Rec) → HasMissedEach layout (bounds_of_walk walk first) since k made → HasMissedEach layout first.bounds since k made
missed_known layout walk first since k made each = record {
  missed = λ q low committed. each.missed q low (committed_falls layout (uncommitted_in (bounds_of_walk walk first)) (uncommitted_in first.bounds) (a_node q) (walk_bounds_fewer walk first) committed);
  own = each.own;
  apart = each.apart;
}

pub missed_all : (layout : Layout) (walk : NodeWalk) (first : SeatView) (since : ℕ) (k : Known) (made : List Rec) → walk.commits ≡ true → HasMissedEach layout (bounds_of_walk walk first) since k made → HasMissedEach layout [] since k made
missed_all layout walk first since k made commits each = subst (λ b. HasMissedEach layout (if b then [] else first.bounds) since k made) commits each

-- none is left, where a walk that doesn't commit has none left below its end, or another walk has gone on over all
pub none_left_below : (layout : Layout) (first s : SeatView) (made : List Rec) (next : ℕ) (walk : NodeWalk) → left_below layout.nodes walk ≡ 0 → IsCommittedWalk layout first s made next walk → walk.commits ≡ false →
    HasNoneLeft layout first s made next walk
none_left_below layout first s made next walk none walked keeps = record {
  none = none;
  walked = walked;
  all = subst (λ b. layout.nodes ≤ walk.end + uncommitted_in (if b then [] else first.bounds) 0) (sym keeps) walked.whole;
}

pub none_left_past : (layout : Layout) (first s : SeatView) (made : List Rec) (next : ℕ) (walk : NodeWalk) (r : Option ℕ) →
    MatchOption r ((left_below layout.nodes walk ≡ 0) × IsCommittedWalk layout first s made next walk × (layout.nodes ≤ walk.end)) (λ number. IsCommittedWalk layout first s (made ++ a_node number ∷ []) next walk) →
    MatchOption r (HasNoneLeft layout first s made next walk) (λ number. IsCommittedWalk layout first s (made ++ a_node number ∷ []) next walk)
none_left_past layout first s made next walk None (none, walked, past) = record { none = none; walked = walked; all = omega (arith, past) }
none_left_past layout first s made next walk (Some number) walked = walked

-- a walk that has ended below a number, and then tried that number, has ended behind it
pub walk_past : (layout : Layout) (end since : ℕ) (k : Known) (made : List Rec) (next left more : ℕ) → left ≡ 0 → IsClaimWalk layout end since k made next left →
    HasMissedSince (IsAnothersBut layout k made) k.failed (a_node end) since ⊎ Contains made (a_node end) → IsClaimWalk layout (end + 1) since k made more 0
walk_past layout end since k made next left more none w last = record {
  early = w.early;
  begin = 0;
  low = omega arith;
  tried = end + 1;
  count = omega arith;
  next_is = λ more. absurd (omega arith);
  each = λ i low. subst Tried (sym (low_is (end + 1) (0 + i) (omega (arith, low)) ∙ (let same : 0 + i ≡ i = omega arith in same))) (each i low (cases_lt i end));
}
  where
    Tried : ℕ → Type 0
    Tried i = HasMissedSince (IsAnothersBut layout k made) k.failed (a_node i) since ⊎ Contains made (a_node i)

    each : (i : ℕ) → i < end + 1 → (i < end) ⊎ (end ≤ i) → Tried i
    each i low (inl below) = let (at, within, is) = turned_to end w.begin i w.low below in let all = w.count in subst Tried is (w.each at (omega arith))
    each i low (inr past) = (let same : end ≡ i = omega arith in subst Tried same last)

-- ---- a walk over committed records
-- Where `count` are found to be committed, a walk goes on over those below its end and below `count`. It begins anew if none was tried.
module _ (layout : Layout) (first s : SeatView) (made : List Rec) (next : ℕ) (walk : NodeWalk) (w : IsCommittedWalk layout first s made next walk) (count end most : ℕ) (rest : layout.nodes ≤ count + uncommitted_in s.bounds 0)
    (end_is : end ≡ min count walk.end) (most_is : most ≡ min (left_below layout.nodes walk) end) where
  -- what is left is not more than its records
  few_left : left_below layout.nodes walk ≤ walk.end
  few_left = let all = w.claims.count in omega (arith, all)

  -- no fewer are committed than before, if some were tried
  none_tried : count < walk.end → (walk.left ≡ layout.nodes) × (walk.end ≡ layout.nodes)
  none_tried fewer = elim w.begun [ inl none ↦ none | inr some ↦ absurd (omega (arith, some, rest, fewer)) ]

  pub walk_narrows : 0 < count → IsClaimWalk layout end first.known.steps s.known made next most
  walk_narrows some = go (cases_lt count walk.end)
    where
      go : (count < walk.end) ⊎ (walk.end ≤ count) → IsClaimWalk layout end first.known.steps s.known made next most
      go (inl fewer) = (let (left, all) = none_tried fewer in claims_begin layout end first.known.steps s.known made next most w.claims.early (omega (arith, some, end_is, fewer)) (omega (arith, left, all, most_is, end_is, fewer)))
      go (inr more) = (let same : walk.end ≡ end = omega (arith, end_is, more) in let left : left_below layout.nodes walk ≡ most = omega (arith, most_is, same, few_left) in
          subst (λ z. IsClaimWalk layout z first.known.steps s.known made next most) same (subst (IsClaimWalk layout walk.end first.known.steps s.known made next) left w.claims))

  -- where so many of those are left
  module _ (after : ℕ) (less : after ≤ most) (fits : count ≤ layout.nodes) where
    abbrev now : NodeWalk
    now = record { left = walk.left - (most - after); end = end; commits = walk.commits }

    walk_left : (left_below layout.nodes now ≡ after) × (layout.nodes ≤ now.left + end)
    walk_left = go (cases_lt count walk.end)
      where
        go : (count < walk.end) ⊎ (walk.end ≤ count) → (left_below layout.nodes now ≡ after) × (layout.nodes ≤ now.left + end)
        go (inl fewer) = (let (left, all) = none_tried fewer in (omega (arith, left, all, most_is, end_is, fewer, less, fits), omega (arith, left, all, most_is, end_is, fewer, less, fits)))
        go (inr more) = (let was = w.rest in let within = w.within in (omega (arith, most_is, end_is, more, few_left, less, was, within), omega (arith, most_is, end_is, more, few_left, less, was, within)))

    -- the seat after the claim, and where the walk goes on
    module _ (b : SeatView) (from : ℕ) (falls : uncommitted_in b.bounds 0 ≤ uncommitted_in s.bounds 0) (committed : uncommitted_in b.bounds 0 + count ≤ layout.nodes) where
      walk_widens : (more : List Rec) → IsClaimWalk layout end first.known.steps b.known more from after → IsCommittedWalk layout first b more from now
      walk_widens more claims =
          let (left, upto) = walk_left in
          let within = w.within in
          record {
            claims = subst (IsClaimWalk layout end first.known.steps b.known more from) (sym left) claims;
            within = omega (arith, end_is, within);
            rest = upto;
            falls = le_trans falls w.falls;
            whole = (let fell = w.falls in let whole = w.whole in omega (arith, end_is, whole, fell, rest));
            begun = inr (omega (arith, committed, end_is));
          }

      pub walk_answers : (r : Option ℕ) →
          MatchOption r ((after ≡ 0) × IsClaimWalk layout end first.known.steps b.known made from after) (λ number. IsClaimWalk layout end first.known.steps b.known (made ++ a_node number ∷ []) from after) →
          MatchOption r ((left_below layout.nodes now ≡ 0) × IsCommittedWalk layout first b made from now) (λ number. IsCommittedWalk layout first b (made ++ a_node number ∷ []) from now)
      walk_answers None (none, claims) = (walk_left.0 ∙ none, walk_widens made claims)
      walk_answers (Some number) claims = walk_widens (made ++ a_node number ∷ []) claims

-- what was found the pass's own was found so since an earlier step
pub own_as : (k j : Known) (failed : List Failed) (made more : List Rec) (since later : ℕ) → j.pass ≡ k.pass → made ≡ more → since ≤ later → All (λ r. HasMissedSince (IsOwnOf k.pass) failed r later) made →
    All (λ r. HasMissedSince (IsOwnOf j.pass) failed r since) more
own_as k j failed made more since later pass same early all =
    subst (λ q. All (λ r. HasMissedSince (IsOwnOf q) failed r since) more) (sym pass)
    (subst (λ (l : List Rec). All (λ r. HasMissedSince (IsOwnOf k.pass) failed r since) l) same (λ i d low. missed_earlier (IsOwnOf k.pass) failed (get_or made i d) since later early (all i d low)))

module _ {G : Type 0} (table : TableView) (becomes : G → Event → G → Type 0) where
  pub walk_on : {end : ℕ} (since : ℕ) (a b : SeatView × G) (made more : List Rec) (next left : ℕ) → WorksOn table becomes a b → ((r : Rec) → Contains made r → Contains more r)
      → IsClaimWalk table.layout end since a.0.known made next left → IsClaimWalk table.layout end since b.0.known more next left
  walk_on since a b made more next left goes kept w =
      walk_stays table.layout since a.0.known b.0.known made more next left goes.stays.0.pass goes.stays.1 (steps_rise table becomes goes.acts a b goes.steps) (λ x has. run_failed table becomes goes.acts a b goes.steps x has) kept w

  -- and so does one over committed records
  pub committed_on : (first : SeatView) (a b : SeatView × G) (made more : List Rec) (next : ℕ) (walk : NodeWalk) → WorksOn table becomes a b → ((r : Rec) → Contains made r → Contains more r)
      → IsCommittedWalk table.layout first a.0 made next walk → IsCommittedWalk table.layout first b.0 more next walk
  committed_on first a b made more next walk goes kept w =
      let less : uncommitted_in b.0.bounds 0 ≤ uncommitted_in a.0.bounds 0 = goes_bounds table becomes a b goes 0 in
      record {
        claims = walk_on first.known.steps a b made more next (left_below table.layout.nodes walk) goes kept w.claims;
        within = w.within;
        rest = w.rest;
        falls = le_trans less w.falls;
        whole = w.whole;
        begun = elim w.begun [ inl none ↦ inl none | inr some ↦ inr (omega (arith, less, some)) ];
      }

  -- after tries that found none free
  module _ {end : ℕ} (since m : ℕ) (a b : SeatView × G) (made : List Rec) (next left : ℕ) (alone : HasNoOther a.0.known made) (w : IsClaimWalk table.layout end since a.0.known made next left) (within : m ≤ left)
      (none : FindsNone table becomes a_node end (begin_of end next) m a b) where
    abbrev Whose : Rec → Option ℕ → Type 0
    Whose = IsAnothersBut table.layout b.0.known made

    same : b.0.known.pass ≡ a.0.known.pass
    same = ap (λ (z : Known). z.pass) none.does.rest

    locks : b.0.known.locks ≡ a.0.known.locks
    locks = ap (λ (z : Known). z.locks) none.does.rest

    pub each_tried : (i : ℕ) → i < w.tried + m → HasMissedSince (IsAnothersBut table.layout b.0.known made) b.0.known.failed (a_node (wrapped end w.begin i)) since ⊎ Contains made (a_node (wrapped end w.begin i))
    each_tried i low = go (nat_lt i w.tried) refl
      where
        count : w.tried + left ≡ end
        count = w.count

        go : (t : Bool) → nat_lt i w.tried ≡ t → HasMissedSince Whose b.0.known.failed (a_node (wrapped end w.begin i)) since ⊎ Contains made (a_node (wrapped end w.begin i))
        go true e = elim (w.each i (ltb-true i w.tried e)) [
          | inl missed ↦ inl (subst (λ l. HasMissedSince Whose l (a_node (wrapped end w.begin i)) since) (sym none.failed) (beyond none.missed a.0.known.failed (a_node (wrapped end w.begin i)) since
              (missed_as table.layout a.0.known b.0.known made made a.0.known.failed (a_node (wrapped end w.begin i)) since same locks (λ h. h) missed)))
          | inr has ↦ inr has
        ]
          where
            beyond : (missed failed : List Failed) (r : Rec) (since : ℕ) → HasMissedSince Whose failed r since → HasMissedSince Whose (missed ++ failed) r since
            beyond [] failed r since h = h
            beyond (x ∷ missed) failed r since h = let (step, late, (act, word, tells, one, (at, inside, is))) = beyond missed failed r since h in (step, late, (act, word, tells, one, (suc at, omega arith, is)))
        go false e =
            let past = ltb-false i w.tried e in
            let early = w.early in
            let at : wrapped end (begin_of end next) (i - w.tried) ≡ wrapped end w.begin i =
            ap (λ z. wrapped end z (i - w.tried)) (w.next_is (omega arith)) ∙
            (wrapped_on end w.begin w.tried (i - w.tried) w.low (omega arith) (omega arith) ∙ ap (wrapped end w.begin) (let same : w.tried + (i - w.tried) ≡ i = omega arith in same)) in
            let r : Rec = a_node (wrapped end w.begin i) in
            inl (subst (λ l. HasMissedSince Whose l r since) (sym none.failed) (missed_among Whose none.missed a.0.known.failed r since (missed_earlier Whose none.missed r since a.0.known.steps early
            (missed_as table.layout a.0.known b.0.known (records_had a.0.known) made none.missed r a.0.known.steps same locks (alone r)
            (subst (λ z. HasMissedSince (IsAnothersTo table.layout a.0.known) none.missed (a_node z) a.0.known.steps) at (none.each (i - w.tried) (omega arith)))))))

  -- none of those that were left is free
  pub walk_out : {end : ℕ} (since left less : ℕ) (a b : SeatView × G) (made : List Rec) (next m : ℕ) → HasNoOther a.0.known made → WorksOn table becomes a b → m ≡ left → less ≡ 0 → FindsNone table becomes a_node end (begin_of end next) m a b
      → IsClaimWalk table.layout end since a.0.known made next left → IsClaimWalk table.layout end since b.0.known made next less
  walk_out {end} since left less a b made next m alone goes all out none w = record {
    early = let rise = steps_rise table becomes goes.acts a b goes.steps in let early = w.early in omega arith;
    begin = w.begin;
    low = w.low;
    tried = w.tried + m;
    count = let count = w.count in omega arith;
    next_is = λ more. absurd (omega arith);
    each = each_tried since m a b made next left alone w (omega arith) none;
  }

  -- one of them is claimed
  pub walk_claims : {end : ℕ} (since left less number : ℕ) (a b : SeatView × G) (made : List Rec) (next : ℕ) → HasNoOther a.0.known made → WorksOn table becomes a b → (claims : Claims table becomes a_node end (begin_of end next) number a b) → less + claims.tried + 1 ≡ left
      → IsClaimWalk table.layout end since a.0.known made next left → IsClaimWalk table.layout end since b.0.known (made ++ a_node number ∷ []) (number + 1) less
  walk_claims {end} since left less number a b made next alone goes claims spent w = record {
    early = let rise = steps_rise table becomes goes.acts a b goes.steps in let early = w.early in omega arith;
    begin = w.begin;
    low = w.low;
    tried = w.tried + claims.tried + 1;
    count = let count = w.count in omega arith;
    next_is = λ more. next_on end w.begin (w.tried + claims.tried) number w.low inside here;
    each = each;
  }
    where
      count : w.tried + left ≡ end
      count = w.count

      inside : w.tried + claims.tried < end
      inside = omega arith

      here : number ≡ wrapped end w.begin (w.tried + claims.tried)
      here = claims.number_is ∙ (ap (λ z. wrapped end z claims.tried) (w.next_is (omega arith)) ∙ wrapped_on end w.begin w.tried claims.tried w.low (omega arith) (omega arith))

      Whose : Rec → Option ℕ → Type 0
      Whose = IsAnothersBut table.layout b.0.known (made ++ a_node number ∷ [])

      each : (i : ℕ) → i < w.tried + claims.tried + 1 → HasMissedSince Whose b.0.known.failed (a_node (wrapped end w.begin i)) since ⊎ Contains (made ++ a_node number ∷ []) (a_node (wrapped end w.begin i))
      each i low = go (nat_lt i (w.tried + claims.tried)) refl
        where
          go : (t : Bool) → nat_lt i (w.tried + claims.tried) ≡ t → HasMissedSince Whose b.0.known.failed (a_node (wrapped end w.begin i)) since ⊎ Contains (made ++ a_node number ∷ []) (a_node (wrapped end w.begin i))
          go true e = elim (each_tried since claims.tried a claims.before made next left alone w (omega arith) claims.none i (ltb-true i (w.tried + claims.tried) e)) [
            | inl missed ↦ inl (subst (λ l. HasMissedSince Whose l (a_node (wrapped end w.begin i)) since) (sym claims.one.failed)
                (missed_as table.layout claims.before.0.known b.0.known made (made ++ a_node number ∷ []) claims.before.0.known.failed (a_node (wrapped end w.begin i)) since
                (ap (λ (z : Known). z.pass) claims.one.does.rest) (ap (λ (z : Known). z.locks) claims.one.does.rest) (Contains-append_left made (a_node number ∷ []) (a_node (wrapped end w.begin i))) missed))
            | inr has ↦ inr (Contains-append_left made (a_node number ∷ []) (a_node (wrapped end w.begin i)) has)
          ]
          go false e =
              let past = ltb-false i (w.tried + claims.tried) e in
              let same : w.tried + claims.tried ≡ i = omega arith in
              inr (subst (λ z. Contains (made ++ a_node number ∷ []) (a_node z)) (here ∙ ap (wrapped end w.begin) same) (Contains-push made (a_node number)))

-- ---- the records that are made
pub look_record : (table : TableView) (a : SeatView) (made : List Rec) (news : List Made) → IsBuilding table a made news → (index : ℕ) (d : Rec) → index < length made → HasRecord table.layout (get_or made index d)
look_record table a made news building index d low = made_records table a made news building index d low

module _ {G : Type 0} (table : TableView) (becomes : G → Event → G → Type 0) where
  -- a load of what the pass holds finds that it is its own
  own_missed : (r : Rec) (words : List ℕ) (word : ℕ) (a b : SeatView × G) → OwnsAs a.0.known r Held words → Steps table becomes (LoadState r word) a b →
      HasMissedSince (IsOwnOf a.0.known.pass) b.0.known.failed r a.0.known.steps
  own_missed r words word a b has step = go (nat_eq word 0) refl step.event.learned_is
    where
      c : Core
      c = step.event.core

      q : ℕ
      q = a.0.known.pass

      held : c.fate r ≡ HeldBy q
      held = (All-contains (IsOwned q c) a.0.known.own (record { rec = r; holding = Held; words = words }) (knows_all c a.0.known step.event.knows).own has).0

      go : (free : Bool) → nat_eq word 0 ≡ free → b.0.known ≡ counted a.0.known (if free then a.0.known else failed_with a.0.known (a_load (holder_of (c.fate r))) (word_of r 0) word) →
          HasMissedSince (IsOwnOf q) b.0.known.failed r a.0.known.steps
      go true is learned =
          let same : 0 ≡ state_word (tag_of (lock_of c r) (HeldBy q)) = sym (eqb-true word 0 is) ∙ (step.event.legal.1.1 ∙ ap (λ (f : Fate). state_word (tag_of (lock_of c r) f)) held) in
          absurd (omega (arith, same))
      go false is learned =
          let by : Option ℕ = holder_of (c.fate r) in
          let some = eqb-false word 0 is in
          let x : Failed = record { act = a_load by; location = word_of r 0; word = word; step = a.0.known.steps } in
          (a.0.known.steps, le_refl a.0.known.steps, (a_load by, word, ap holder_of held, omega (arith, some), subst (λ (l : List Failed). Contains l x) (sym (ap (λ (z : Known). z.failed) learned)) (0, omega arith, refl)))

module _ {G : Type 0} (table : TableView) (becomes : G → Event → G → Type 0) (made : List Rec) where
  -- those before this index were found not free, by a load of each
  pub record HasLooked (index : ℕ) (a b : SeatView × G) : Type 0 where
    pub goes : WorksOn table becomes a b
    pub own : b.0.known.own ≡ a.0.known.own
    pub seen : (i : ℕ) (d : Rec) → i < index → HasMissedSince (IsAnothersBut table.layout a.0.known made) b.0.known.failed (get_or made i d) a.0.known.steps
    pub mine : (i : ℕ) (d : Rec) → i < index → HasMissedSince (IsOwnOf a.0.known.pass) b.0.known.failed (get_or made i d) a.0.known.steps
    pub few : b.0.known.steps ≤ a.0.known.steps + index

  pub looked_none : (a : SeatView × G) → HasLooked 0 a a
  looked_none a = record { goes = goes_none table becomes a; own = refl; seen = λ i d low. absurd (omega arith); mine = λ i d low. absurd (omega arith); few = omega arith }

  pub looked_more : (index : ℕ) (a m b : SeatView × G) → index < length made → (news : List Made) → IsBuilding table a.0 made news → HasLooked index a m → (d : Rec) (word : ℕ) →
      Steps table becomes (LoadState (get_or made index d) word) m b → HasLooked (index + 1) a b
  looked_more index a m b low news building looked d word step = record {
    goes = goes_more table becomes a m b looked.goes goes;
    own = one.own ∙ looked.own;
    seen = each Whose looked.seen tells;
    mine = each (IsOwnOf a.0.known.pass) looked.mine (subst (λ q. HasMissedSince (IsOwnOf q) b.0.known.failed r m.0.known.steps) looked.goes.stays.0.pass
        (own_missed table becomes r held.0 word m b still step));
    few = (let few = looked.few in let count = does_count table becomes claiming (LoadState r word ∷ []) m b (looks_one table becomes r word m b step) in omega arith);
  }
    where
      r : Rec
      r = get_or made index d

      held : IsClaimed a.0.known r
      held = (made_held table a.0 made news building).each index d low

      still : OwnsAs m.0.known r Held held.0
      still = subst (λ l. Contains l (record { rec = r; holding = Held; words = held.0 })) (sym looked.own) held.2

      one : MissesOne table becomes r m b
      one = held_misses table becomes r held.0 word m b still step

      goes : WorksOn table becomes m b
      goes = miss_on table becomes r m b one

      later : a.0.known.steps ≤ m.0.known.steps
      later = steps_rise table becomes looked.goes.acts a m looked.goes.steps

      Whose : Rec → Option ℕ → Type 0
      Whose = IsAnothersBut table.layout a.0.known made

      tells : HasMissedSince Whose b.0.known.failed r m.0.known.steps
      tells = subst (λ l. HasMissedSince Whose l r m.0.known.steps) (sym one.failed_is)
          (missed_among Whose (one.failed ∷ []) m.0.known.failed r m.0.known.steps (missed_so (IsAnothersTo table.layout m.0.known) Whose (one.failed ∷ []) r m.0.known.steps
          (λ by h. anothers_among table.layout a.0.known.pass (records_had a.0.known) made (nodes_of a.0.known.locks) (nodes_of a.0.known.locks) r by (made_alone table a.0 made news building r) (λ n there. there)
          (anothers_before table.layout a.0.known m.0.known r by looked.goes.stays.0.pass looked.own looked.goes.stays.1 h)) one.tells))

      -- what was found of those before, and is found of this one
      each : (Their : Rec → Option ℕ → Type 0) → ((i : ℕ) (e : Rec) → i < index → HasMissedSince Their m.0.known.failed (get_or made i e) a.0.known.steps) → HasMissedSince Their b.0.known.failed r m.0.known.steps →
          (i : ℕ) (e : Rec) → i < index + 1 → HasMissedSince Their b.0.known.failed (get_or made i e) a.0.known.steps
      each Their before now i e below = go (nat_lt i index) refl
        where
          go : (t : Bool) → nat_lt i index ≡ t → HasMissedSince Their b.0.known.failed (get_or made i e) a.0.known.steps
          go true is =
              let (since, late, (act, found, tells, some, has)) = before i e (ltb-true i index is) in
              (since, late, (act, found, tells, some, run_failed table becomes goes.acts m b goes.steps _ has))
          go false is =
              let past = ltb-false i index is in
              let same : index ≡ i = omega arith in
              subst (λ z. HasMissedSince Their b.0.known.failed (get_or made z e) a.0.known.steps) same
              (subst (λ z. HasMissedSince Their b.0.known.failed z a.0.known.steps) (get_or_default made index d e low)
              (missed_earlier Their b.0.known.failed r a.0.known.steps m.0.known.steps later now))

  pub looked_all : (index : ℕ) (a b : SeatView × G) → length made ≤ index → HasLooked index a b → (r : Rec) → Contains made r → HasMissedSince (IsAnothersBut table.layout a.0.known made) b.0.known.failed r a.0.known.steps
  looked_all index a b all looked r (i, low, is) = subst (λ z. HasMissedSince (IsAnothersBut table.layout a.0.known made) b.0.known.failed z a.0.known.steps) is (looked.seen i r (omega arith))

  pub looked_own : (index : ℕ) (a b : SeatView × G) → length made ≤ index → HasLooked index a b → All (λ r. HasMissedSince (IsOwnOf a.0.known.pass) b.0.known.failed r a.0.known.steps) made
  looked_own index a b all looked = λ i d low. looked.mine i d (omega (arith, all, low))

module _ {G : Type 0} (table : TableView) (becomes : G → Event → G → Type 0) where
  -- what looks at the records made tell, they tell since an earlier step
  pub looked_since : (since : ℕ) (a b : SeatView × G) (made listed : List Rec) → listed ≡ made → since ≤ a.0.known.steps → WorksOn table becomes a b →
      ((r : Rec) → Contains listed r → HasMissedSince (IsAnothersBut table.layout a.0.known listed) b.0.known.failed r a.0.known.steps) →
      All (λ r. HasMissedSince (IsOwnOf a.0.known.pass) b.0.known.failed r a.0.known.steps) listed →
      ((r : Rec) → Contains made r → HasMissedSince (IsAnothersBut table.layout b.0.known made) b.0.known.failed r since) ×
      All (λ r. HasMissedSince (IsOwnOf b.0.known.pass) b.0.known.failed r since) made
  looked_since since a b made listed same early goes seen mine = (
    λ r has. missed_as table.layout a.0.known b.0.known made made b.0.known.failed r since goes.stays.0.pass goes.stays.1 (λ h. h)
        (missed_earlier (IsAnothersBut table.layout a.0.known made) b.0.known.failed r since a.0.known.steps early
        (subst (λ z. HasMissedSince (IsAnothersBut table.layout a.0.known z) b.0.known.failed r a.0.known.steps) same (seen r (subst (λ z. Contains z r) (sym same) has)))),
    own_as a.0.known b.0.known b.0.known.failed listed made since a.0.known.steps goes.stays.0.pass same early mine,
  )

-- ---- what makes records
module _ {G : Type 0} {table : TableView} {becomes : G → Event → G → Type 0} where
  -- what needs none
  pub makes_none : {X : Type 0} {most steps : ℕ} {x : X} (a : (SeatView × G) × Build) → Makes most steps table becomes a a (Some x)
  makes_none a = record { goes = goes_none table becomes a.0; more = omega arith; nodes = omega arith; walk = λ first w. w; commits = refl; few = omega arith }

  -- another answer, where one is given, and where none was free
  pub makes_as : {X Y : Type 0} {m s : ℕ} {a b : (SeatView × G) × Build} {x : X} {y : Y} → Makes m s table becomes a b (Some x) → Makes m s table becomes a b (Some y)
  makes_as makes = record { goes = makes.goes; more = makes.more; nodes = makes.nodes; walk = makes.walk; commits = makes.commits; few = makes.few }

  pub makes_failed : {X Y : Type 0} {m s : ℕ} {a b : (SeatView × G) × Build} → Makes {X = X} m s table becomes a b None → Makes {X = Y} m s table becomes a b None
  makes_failed makes = record { goes = makes.goes; more = makes.more; nodes = makes.nodes; walk = makes.walk; commits = makes.commits; few = makes.few }

  -- more at most
  pub makes_within : {X : Type 0} {m s most steps : ℕ} {a b : (SeatView × G) × Build} {answer : Option X} → Makes m s table becomes a b answer → m ≤ most → s ≤ steps → Makes most steps table becomes a b answer
  makes_within makes more longer = record {
    goes = makes.goes;
    more = omega (arith, makes.more);
    nodes = omega (arith, makes.nodes);
    walk = makes.walk;
    commits = makes.commits;
    few = omega (arith, makes.few);
  }

  -- one after another
  pub makes_then : {X Y : Type 0} {m s n t most steps : ℕ} {a b c : (SeatView × G) × Build} {x : X} {answer : Option Y} → Makes m s table becomes a b (Some x) → Makes n t table becomes b c answer →
      m + n ≤ most → s + t ≤ steps → Makes most steps table becomes a c answer
  makes_then {a = a} {b} {c} one two more longer = record {
    goes = goes_more table becomes a.0 b.0 c.0 one.goes two.goes;
    more = omega (arith, one.more, two.more);
    nodes = omega (arith, one.nodes, two.nodes);
    walk = λ first w. two.walk first (one.walk first w);
    commits = two.commits ∙ one.commits;
    few = omega (arith, one.few, two.few);
  }

  -- after so many loads
  pub makes_after : {X : Type 0} {m s most steps : ℕ} {a b : SeatView × G} {build : Build} {c : (SeatView × G) × Build} {answer : Option X} (loads : ℕ) → WorksOn table becomes a b → b.0.known.steps ≤ a.0.known.steps + loads →
      Makes m s table becomes (b, build) c answer → m ≤ most → loads + s ≤ steps → Makes most steps table becomes (a, build) c answer
  makes_after {a = a} {b} {build} {c} loads goes few makes more longer = record {
    goes = goes_more table becomes a b c.0 goes makes.goes;
    more = omega (arith, makes.more);
    nodes = omega (arith, makes.nodes);
    walk = λ first w. makes.walk first (committed_on table becomes first a b build.made.items build.made.items build.nodes.next build.walk goes (λ r has. has) w);
    commits = makes.commits;
    few = omega (arith, few, makes.few);
  }
