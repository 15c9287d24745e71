-- What a search for one pair says, by what a scan for one pair left in the handle's list.
use Rattle.hot_c.proofs.Common.{◌≡◌, ℕ, ◌≤◌, List, [], ◌∷◌, length, Bool, Option, Some, inl, inr, refl, subst, arith, option_to_list, Layout, range_from, PassView}
use Rattle.std.proofs.Common.{slice_get}
use Rattle.hot_c.specs.Calls.{KeepsAll}
use Rattle.hot_c.specs.Ends.{FindsBy, FindsFirstIn}
use Rattle.hot_c.specs.Orders.{IsFilledIn}
use Rattle.hot_c.specs.Pairs.{IsPairTold}
use Rattle.hot_c.specs.Scans.{HasFilledList, ListsNothing}
use Rattle.hot_c.specs.declared.opened.Opened.{Opened}
use Rattle.hot_c.specs.declared.pairs.Order.{Order}
use Rattle.hot_c.specs.declared.pairs.Pair.{Pair}
use Rattle.hot_c.proofs.Orders.{few_here, made_here, not_closed, reads, stays}

-- a list of at most one pair is its first pair, or empty
one_at_most : (pairs : List (List ℕ × ℕ)) → length pairs ≤ 1 → pairs ≡ option_to_list (slice_get pairs 0)
one_at_most [] few = refl
one_at_most (pair ∷ []) few = refl
one_at_most (pair ∷ next ∷ pairs) few = absurd (omega (arith, few))

module _ (order : Order) {from upto : List ℕ} {old new : Option Opened} {before after : Pair} {status : ℕ} where
  pub found : {mid : Option Opened} {count : ℕ} {is_more : Bool} (h : HasFilledList (IsFilledIn order) (range_from from upto 1) old mid count is_more) (u v : Opened) → mid ≡ Some u → new ≡ Some v → KeepsAll u v
      → IsPairTold (slice_get u.list 0) before after status → FindsFirstIn order from upto old new before after status
  found {is_more = is_more} h u v is last kept told = record {
    closed = λ none. absurd (not_closed h u is none);
    long = λ some no. absurd (no h.fit);
    made = λ some fit. inl (
      slice_get u.list 0,
      stays h u is (λ layout k j. (more : Bool) × IsFilledIn order layout k j (range_from from upto 1) (option_to_list (slice_get u.list 0)) more) new v last kept
          (is_more, subst (λ (l : List (List ℕ × ℕ)). IsFilledIn order h.before.handle.index.layout h.before.handle.pass u.handle.pass (range_from from upto 1) l is_more) (one_at_most u.list (few_here h u is)) (made_here h u is)),
      told,
    );
    read = λ some fit. reads h u is new v last kept;
  }

  pub unfound : ListsNothing (range_from from upto 1) old new status → after ≡ before → FindsFirstIn order from upto old new before after status
  unfound h kept = record {
    closed = λ none. (let e = h.closed none in (e.0, e.1, kept));
    long = λ some no. (let e = h.long some no in (e.0, e.1, kept));
    made = λ some fit. (let e = h.full some fit.0 fit.1 in inr (e.0, e.1, kept));
    read = λ some fit. h.read some fit.0 fit.1;
  }

-- keys fit where others do
pub as_fit : {Fits Others : Type 0} {IsFound : Layout → PassView → PassView → Option (List ℕ × ℕ) → Type 0} {HasPair : Layout → PassView → PassView → Type 0} {old new : Option Opened} {before after : Pair} {status : ℕ}
    → (Fits → Others) → (Others → Fits) → FindsBy Others IsFound HasPair old new before after status → FindsBy Fits IsFound HasPair old new before after status
as_fit to back h = record { closed = h.closed; long = λ some no. h.long some (λ others. no (back others)); made = λ some fit. h.made some (to fit); read = λ some fit. h.read some (to fit) }
