-- One record more for a change, or none.
use Rattle.rowex_writing.proofs.Common.{◌≡◌, ◌≢◌, inl, inr, ℕ, zero, suc, ◌+◌, ◌-◌, ◌≤◌, List, [], ◌∷◌, ◌++◌, length, get_or, map, refl, sym, ap, ap₂, subst, ◌∙◌, arith, Bool, true, false, nat_eq, if◌then◌else◌, Option, Some, None, All, MatchOption, reverse_onto, All-append, All-cons, IsBuiltFrom, NodeView, Entry, Node, Half, Many, act_leaves, leaf_size, HasLeafWords, leaf_words, words_for, HasNodeWords, Item, Subtrie, IsOneOf, Rec, a_node, a_leaf, same_rec, same_rec_refl, all_of, of_map, map_of, Act, Claim, Fill, LoadState, Event, Held, Known, Owned, FitsIn, holder_of, word_count_of, word_of, failed_with, a_load, IsPacked, IsLater, Made, held_as, recs_of, Runs, Does, InTurn, Steps, TableView, SeatView, IsSeatOf, runs_same, claiming, wrapped, Misses, MissesOne, MissesNumber, HoldsOneMore, ClaimsOne, FindsFree, FindsNone, Claims, fill_with, owning, stored, stored_in, SetsAll, SetsSome, StoresWord, counted, looks_one, StaysLocked, made_of_node, IsPossible, same_later, HasLoaded}
use Rattle.rowex_core.proofs.Reading.Leafing.{leaf_size_is}
use Rattle.rowex_records.proofs.Records.{leaf_stored, left_beside}
use Rattle.rowex_writing.proofs.locks.Onward.{runs_possible}
use Rattle.rowex_writing.specs.build.Building.{IsBuilding, IsHalfMade, HasLeafMade, HasNotMade}
use Rattle.rowex_writing.specs.locks.Going.{WorksOn, IsStepUnderLocks}
use Rattle.rowex_writing.proofs.locks.Going.{goes_none, goes_more}

-- ---- steps that change what the pass owns
-- steps in turn, each part of which is plain
pub in_turn_plain : (Parts : ℕ → List Act → Type 0) → ((i : ℕ) (acts : List Act) → Parts i acts → All IsStepUnderLocks acts) → (n : ℕ) (acts : List Act) → InTurn Parts n acts → All IsStepUnderLocks acts
in_turn_plain Parts each zero acts none = subst (All IsStepUnderLocks) (sym none) (λ i d low. absurd (omega arith))
in_turn_plain Parts each (suc n) acts (before, last, first, second, is) =
    subst (All IsStepUnderLocks) (sym is) (All-append IsStepUnderLocks before last (in_turn_plain Parts each n before first) (each n last second))

-- a load of a state, and a claim after it
look_plain : (r : Rec) (word : ℕ) → All IsStepUnderLocks (LoadState r word ∷ [])
look_plain r word = All-cons IsStepUnderLocks (LoadState r word) [] tt (λ i d low. absurd (omega arith))

own_looked : (r : Rec) (word : ℕ) (free : Bool) (by : Option ℕ) (k j : Known) → j ≡ counted k (if free then k else failed_with k (a_load by) (word_of r 0) word) → j.own ≡ k.own
own_looked r word true by k j e = ap (λ (z : Known). z.own) e
own_looked r word false by k j e = ap (λ (z : Known). z.own) e

try_plain : (r : Rec) (word : ℕ) → All IsStepUnderLocks (LoadState r 0 ∷ Claim r word ∷ [])
try_plain r word = All-cons IsStepUnderLocks (LoadState r 0) (Claim r word ∷ []) tt (All-cons IsStepUnderLocks (Claim r word) [] tt (λ i d low. absurd (omega arith)))

miss_plain : (r : Rec) (acts : List Act) → Misses r acts → All IsStepUnderLocks acts
miss_plain r acts (word, low, inl is) = subst (All IsStepUnderLocks) (sym is) (look_plain r word)
miss_plain r acts (word, low, inr is) = subst (All IsStepUnderLocks) (sym is) (try_plain r word)

misses_plain : (kind : ℕ → Rec) (n from m : ℕ) (acts : List Act) → InTurn (λ i. Misses (kind (wrapped n from i))) m acts → All IsStepUnderLocks acts
misses_plain kind n from m acts turn = in_turn_plain (λ i. Misses (kind (wrapped n from i))) (λ i. miss_plain (kind (wrapped n from i))) m acts turn

sets_plain : (r : Rec) (words : List ℕ) (n : ℕ) (acts : List Act) → InTurn (λ i. StoresWord r (i + 1) (get_or words i 0)) n acts → All IsStepUnderLocks acts
sets_plain r words n acts turn = in_turn_plain (λ i. StoresWord r (i + 1) (get_or words i 0)) (λ i. stored (i + 1) (get_or words i 0)) n acts turn
  where
    stored : (offset word : ℕ) (acts : List Act) → StoresWord r offset word acts → All IsStepUnderLocks acts
    stored offset word acts is = subst (All IsStepUnderLocks) (sym is) (All-cons IsStepUnderLocks (Fill r offset word) [] tt (λ i d low. absurd (omega arith)))

module _ {G : Type 0} (table : TableView) (becomes : G → Event → G → Type 0) where
  stays_on : {j : Known} (acts : List Act) (a b : SeatView × G) → All IsStepUnderLocks acts → Runs table becomes acts a b → b.0.known ≡ j → StaysLocked a.0.known j → WorksOn table becomes a b
  stays_on acts a b plain steps is stays = record { acts = acts; plain = plain; steps = steps; stays = subst (StaysLocked a.0.known) (sym is) stays }

  pub claims_on : (acts : List Act) (a b : SeatView × G) → All IsStepUnderLocks acts → Does table becomes claiming acts a b → WorksOn table becomes a b
  claims_on acts a b plain does = stays_on acts a b plain does.steps does.rest (same_later a.0.known _ refl refl refl refl, refl, refl, λ leaf value h. h)

  pub owns_on : (acts : List Act) (a b : SeatView × G) → All IsStepUnderLocks acts → Does table becomes owning acts a b → WorksOn table becomes a b
  owns_on acts a b plain does = stays_on acts a b plain does.steps does.rest (same_later a.0.known _ refl refl refl refl, refl, refl, λ leaf value h. h)

  -- what a pass knows stays possible
  pub goes_possible : (a b : SeatView × G) → WorksOn table becomes a b → IsPossible table.layout a.0.known → IsPossible table.layout b.0.known
  goes_possible a b goes possible = runs_possible table becomes goes.acts a b goes.steps possible

  -- ---- a claim
  pub none_on : (kind : ℕ → Rec) (n from m : ℕ) (a b : SeatView × G) → FindsNone table becomes kind n from m a b → WorksOn table becomes a b
  none_on kind n from m a b none = claims_on none.tries a b (misses_plain kind n from m none.tries none.in_turn) none.does

  pub miss_on : (r : Rec) (a b : SeatView × G) → MissesOne table becomes r a b → WorksOn table becomes a b
  miss_on r a b one = claims_on one.acts a b (miss_plain r one.acts one.misses) one.does

  -- a load of a state, whatever it finds
  pub look_on : (r : Rec) (word : ℕ) (a b : SeatView × G) → Steps table becomes (LoadState r word) a b → WorksOn table becomes a b
  look_on r word a b step = claims_on (LoadState r word ∷ []) a b (look_plain r word) (looks_one table becomes r word a b step)

  pub look_own : (r : Rec) (word : ℕ) (a b : SeatView × G) → Steps table becomes (LoadState r word) a b → b.0.known.own ≡ a.0.known.own
  look_own r word a b step = own_looked r word (nat_eq word 0) (holder_of (step.event.core.fate r)) a.0.known b.0.known step.event.learned_is

  pub look_steps : (r : Rec) (word : ℕ) (a b : SeatView × G) → Steps table becomes (LoadState r word) a b → b.0.known.steps ≡ a.0.known.steps + 1
  look_steps r word a b step = ap (λ (z : Known). z.steps) (looks_one table becomes r word a b step).rest

  -- one that finds some record free, after others that were not
  pub free_on : (kind : ℕ → Rec) (n from m number : ℕ) (a b : SeatView × G) → FindsFree table becomes kind n from m number a b → WorksOn table becomes a b
  free_on kind n from m number a b free =
      goes_more table becomes a free.before b (none_on kind n from free.tried a free.before free.none) (look_on (kind number) 0 free.before b free.free)

  pub free_own : (kind : ℕ → Rec) (n from m number : ℕ) (a b : SeatView × G) → FindsFree table becomes kind n from m number a b → b.0.known.own ≡ a.0.known.own
  free_own kind n from m number a b free = look_own (kind number) 0 free.before b free.free ∙ free.none.own

  pub number_on : (kind : ℕ → Rec) (n number : ℕ) (a b : SeatView × G) → MissesNumber table becomes kind n number a b → WorksOn table becomes a b
  number_on kind n number a b (inl (out, same)) = subst (λ (z : SeatView × G). WorksOn table becomes a z) (sym same) (goes_none table becomes a)
  number_on kind n number a b (inr (low, one)) = miss_on (kind number) a b one

  pub one_on : (r : Rec) (a b : SeatView × G) → ClaimsOne table becomes r a b → WorksOn table becomes a b
  one_on r a b one = claims_on (LoadState r 0 ∷ Claim r 0 ∷ []) a b (try_plain r 0) one.does

  pub one_steps : (r : Rec) (a b : SeatView × G) → ClaimsOne table becomes r a b → b.0.known.steps ≡ a.0.known.steps + 2
  one_steps r a b one = ap (λ (z : Known). z.steps) one.does.rest

  pub claim_on : (kind : ℕ → Rec) (n from m : ℕ) (a b : SeatView × G) → Claims table becomes kind n from m a b → WorksOn table becomes a b
  claim_on kind n from m a b claim = goes_more table becomes a claim.before b (none_on kind n from claim.tried a claim.before claim.none) (one_on (kind m) claim.before b claim.one)

  set_on : (r : Rec) (words : List ℕ) (n : ℕ) (acts : List Act) (a b : SeatView × G) → InTurn (λ i. StoresWord r (i + 1) (get_or words i 0)) n acts → Does table becomes owning acts a b →
      IsLater a.0.known b.0.known → WorksOn table becomes a b
  set_on r words n acts a b in_turn does later = record {
    acts = acts;
    plain = sets_plain r words n acts in_turn;
    steps = does.steps;
    stays = (later, ap (λ (z : Known). z.locks) does.rest, ap (λ (z : Known). z.anchor) does.rest, λ leaf value h. subst (λ (z : Known). HasLoaded z leaf value) (sym does.rest) h);
  }

  pub set_all_on : (r : Rec) (words : List ℕ) (a b : SeatView × G) → SetsAll table becomes r words a b → WorksOn table becomes a b
  set_all_on r words a b sets = set_on r words (word_count_of r) sets.acts a b sets.in_turn sets.does sets.later

  pub set_some_on : (r : Rec) (words : List ℕ) (n : ℕ) (a b : SeatView × G) → SetsSome table becomes r words n a b → WorksOn table becomes a b
  set_some_on r words n a b sets = set_on r words n sets.acts a b sets.in_turn sets.does sets.later

  -- the same records, after steps that leave them
  pub building_on : (a b : SeatView × G) (made : List Rec) (news : List Made) → WorksOn table becomes a b → b.0.known.own ≡ a.0.known.own → IsBuilding table a.0 made news → IsBuilding table b.0 made news
  building_on a b made news goes own i = record {
    seat = (runs_same table becomes goes.acts a b goes.steps).0 ∙ i.seat;
    possible = goes_possible a b goes i.possible;
    holds = (own ∙ i.holds.0, i.holds.1);
    packed = i.packed;
    listed = i.listed;
  }

  -- one record more, which was claimed and then filled, a node's or a leaf's
  building_more : (r : Rec) (words : List ℕ) (fill : Owned → Owned) (a i b : SeatView × G) (made : List Rec) (news : List Made) → WorksOn table becomes a i → (held : HoldsOneMore r a.0.known i.0.known) →
      WorksOn table becomes i b → b.0.known.own ≡ map fill i.0.known.own → fill (record { rec = r; holding = Held; words = held.words }) ≡ record { rec = r; holding = Held; words = words } →
      ((o : Owned) → same_rec o.rec r ≡ false → fill o ≡ o) → IsPacked r words → FitsIn table.layout r words → IsBuilding table a.0 made news → IsBuilding table b.0 (made ++ r ∷ []) (record { rec = r; words = words } ∷ news)
  building_more r words fill a i b made news claim held on filled first just packed fit was =
      let newest : Made = record { rec = r; words = words } in
      let goes = goes_more table becomes a i b claim on in
      let others : map fill a.0.known.own ≡ a.0.known.own = left_beside r fill just a.0.known.own held.apart in
      let own : b.0.known.own ≡ held_as Held newest ∷ map (held_as Held) news =
      filled ∙ (ap (map fill) held.own ∙ ap₂ (λ y ys. y ∷ ys) first (others ∙ was.holds.0)) in
      record {
        seat = (runs_same table becomes goes.acts a b goes.steps).0 ∙ was.seat;
        possible = goes_possible a b goes was.possible;
        holds = (
          own,
          (
            λ h. (let (y, at, is) = of_map (λ (y : Made). y.rec) r news h in
                all_of (λ (o : Owned). o.rec ≢ r) (held_as Held y) a.0.known.own held.apart (subst (IsOneOf (held_as Held y)) (sym was.holds.0) (map_of (held_as Held) y news at)) (sym is)),
            was.holds.1,
          ),
        );
        packed = ((packed, fit), was.packed);
        listed = ap (λ z. z ++ r ∷ []) was.listed ∙ sym (reverse_onto (recs_of news) r []);
      }

  -- a node's, of which all words are stored,
  pub building_node : (n : ℕ) (words : List ℕ) (a i b : SeatView × G) (made : List Rec) (news : List Made) → WorksOn table becomes a i → HoldsOneMore (a_node n) a.0.known i.0.known →
      SetsAll table becomes (a_node n) words i b → IsPacked (a_node n) words → IsBuilding table a.0 made news → IsBuilding table b.0 (made ++ a_node n ∷ []) (record { rec = a_node n; words = words } ∷ news)
  building_node n words a i b made news claim held sets packed was =
      building_more (a_node n) words (fill_with (a_node n) words) a i b made news claim held (set_all_on (a_node n) words i b sets) sets.own (rw (same_rec_refl (a_node n)) refl) (λ o e. rw e refl) packed tt was

  -- and a leaf's, of which those up to the end of its key are
  pub building_leaf : (x : Item) (a i b : SeatView × G) → HasLeafWords (x.key, x.value) → words_for (length x.key) ≤ leaf_size table.layout x.number → WorksOn table becomes a i → HoldsOneMore (a_leaf x.number) a.0.known i.0.known →
      SetsSome table becomes (a_leaf x.number) (leaf_words (x.key, x.value)) (words_for (length x.key) - 1) i b → IsBuilding table a.0 [] [] → HasLeafMade table b.0 (a_leaf x.number ∷ []) x
  unfolding IsPacked
  building_leaf x a i b has room claim held sets was =
      let r = a_leaf x.number in
      let pair : List ℕ × ℕ = (x.key, x.value) in
      let n : ℕ = words_for (length x.key) - 1 in
      let fresh = stored (leaf_words pair) n held.words in
      let spells = leaf_stored pair held.words has held.sized in
      let size : get_or fresh 1 0 ≡ length x.key = leaf_size_is pair fresh spells in
      record {
        fresh = fresh;
        spelled = (has, spells);
        building = building_more r fresh (stored_in r (leaf_words pair) n) a i b [] [] claim held (set_some_on r (leaf_words pair) n i b sets) sets.own (rw (same_rec_refl r) refl) (λ o e. rw e refl)
            (pair, has, spells) (subst (λ z. words_for z ≤ leaf_size table.layout x.number) (sym size) room) was;
      }

-- a pass that has nothing has made none yet
pub building_none : (table : TableView) (a : SeatView) → IsSeatOf table a → IsPossible table.layout a.known → a.known.own ≡ [] → IsBuilding table a [] []
building_none table a seat possible none = record { seat = seat; possible = possible; holds = (none, tt); packed = tt; listed = refl }

-- each step is counted
pub steps_rise : {G : Type 0} (table : TableView) (becomes : G → Event → G → Type 0) (acts : List Act) (a b : SeatView × G) → Runs table becomes acts a b → a.0.known.steps ≤ b.0.known.steps
steps_rise table becomes [] a b run = let e = ap (λ (z : SeatView × _). z.0.known.steps) run in omega arith
steps_rise table becomes (act ∷ acts) a b run =
    let next = (act_leaves table.layout a.0.known run.0.0.known act run.1.event).steps in omega (arith, next, steps_rise table becomes acts run.0 b run.2)

-- ---- none was free
pub not_made : {G : Type 0} (table : TableView) (becomes : G → Event → G → Type 0) (a b : SeatView × G) (made more : List Rec) (news : List Made) → WorksOn table becomes a b →
    b.0.known.own ≡ a.0.known.own → more ≡ made → IsBuilding table a.0 made news → HasNotMade table b.0 more
not_made table becomes a b made more news goes own same was = record { news = news; building = subst (λ z. IsBuilding table b.0 z news) (sym same) (building_on table becomes a b made news goes own was) }

-- ---- a node's record
-- a node that is made has words
pub has_made : (table : TableView) (b : SeatView) (made : List Rec) (news : List Made) (view : NodeView) (answer : Option Entry) → HasNodeWords view →
    MatchOption answer (HasNotMade table b made) (λ e. (m : ℕ) × (e ≡ Node m view.height) × IsBuilding table b made (made_of_node m view ∷ news)) →
    MatchOption answer (HasNotMade table b made) (λ e. (m : ℕ) × (e ≡ Node m view.height) × HasNodeWords view × IsBuilding table b made (made_of_node m view ∷ news))
has_made table b made news view None has h = h
has_made table b made news view (Some e) has (m, entry, building) = (m, entry, has, building)

-- and so has one that was built for a subtrie
pub low_made : (table : TableView) (b : SeatView) (made : List Rec) (news : List Made) (view : NodeView) (shown : Subtrie) (answer : Option Entry) → HasNodeWords view → IsBuiltFrom view shown →
    MatchOption answer (HasNotMade table b made) (λ e. (m : ℕ) × (e ≡ Node m view.height) × IsBuilding table b made (made_of_node m view ∷ news)) →
    MatchOption answer (HasNotMade table b made)
    (λ e. (after : NodeView) × IsBuiltFrom after shown × (m : ℕ) × (e ≡ Node m after.height) × HasNodeWords after × IsBuilding table b made (made_of_node m after ∷ news))
low_made table b made news view shown None has built h = h
low_made table b made news view shown (Some e) has built (m, entry, building) = (view, built, m, entry, has, building)

-- ---- halves
pub half_of_node : (table : TableView) (a b : SeatView) (made : List Rec) (news : List Made) (old : Entry) (half : Half) (view : NodeView) (answer : Option Entry) → half ≡ Many view →
    MatchOption answer (HasNotMade table b made) (λ e. (m : ℕ) × (e ≡ Node m view.height) × HasNodeWords view × IsBuilding table b made (made_of_node m view ∷ news)) →
    MatchOption answer (HasNotMade table b made) (λ e. (more : List Made) × IsHalfMade old half e more × IsBuilding table b made (more ++ news))
half_of_node table a b made news old half view None is h = h
half_of_node table a b made news old half view (Some e) is (m, entry, has, building) =
    (made_of_node m view ∷ [], subst (λ z. IsHalfMade old z e (made_of_node m view ∷ [])) (sym is) (m, entry, refl, has), building)
