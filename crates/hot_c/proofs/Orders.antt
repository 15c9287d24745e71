-- What a scan for C says, by what it left in the handle's list.
pub mod Parted
use denote.RawPtr.{null_ptr}
use Rattle.hot_c.proofs.Common.{◌≡◌, ℕ, ◌<◌, ◌≤◌, ◌^◌, List, length, Bool, Option, None, Some, Result, inl, refl, sym, ap, ◌∙◌, subst, le_refl, length-reverse, reverse-reverse, AllocError, Scan, IsLawfulReverseScan, IsLawfulScan, Layout, Range, IsLawfulBy, ScanLaw, HasFoundPair, IsListed, IsListedBy, IsUnnoted, range_from, IsListReadBy, IsRangeRead, HandleView, Stays, PassView, HasMadeScanSteps, untold}
use Rattle.hot_index_calls.specs.Reverse.{IsReverseListed}
use Rattle.hot_index.proofs.Reading.{range_whole}
use Rattle.hot_c.specs.Calls.{FitsInKey, KeepsAll, StaysOpen}
use Rattle.hot_c.specs.Orders.{ScanClaim, IsFilledIn, IsListedIn, direction_of, in_order}
use Rattle.hot_handles.specs.Owning.{heap}
use Rattle.hot_c.specs.Packs.{IsListedByParts}
use Rattle.hot_c.specs.Scans.{HasFilledList, ListsInto, ListsNothing}
use Rattle.hot_c.specs.declared.opened.Opened.{Opened}
use Rattle.hot_c.specs.declared.pairs.Order.{Order}
use Rattle.hot_c.specs.declared.pairs.Order.TheVariants.{Upwards, Downwards, LastUpwards}
use Rattle.hot_c.specs.declared.status.TheConstants.{DONE, NO_MEMORY}
use Rattle.hot_c.proofs.Orders.Parted.{MayBeCut, cut_falling, cut_rising}

none_is_some : (s : Opened) → None ≡ Some s → ⊥
none_is_some s e = cc

same : (s u : Opened) → Some s ≡ Some u → s ≡ u
same s u e = cc

-- a scan with these pairs
abbrev scan_of : (pairs : List (List ℕ × ℕ)) → Bool → length pairs < 2 ^ 63 → Scan
scan_of pairs is_more short = record {
  pairs = record { ptr = null_ptr; len = length pairs; cap = length pairs; alloc = heap; items = pairs; ok = (refl, le_refl (length pairs)); small = short };
  more = is_more;
}

module _ (layout : Layout) (k j : PassView) (range : Range) (pairs : List (List ℕ × ℕ)) (is_more : Bool) where
  few_listed : IsListed layout k j range pairs is_more → length pairs < 2 ^ 63 → length pairs ≤ range.limit
  few_listed h small = (h.lawful (scan_of pairs is_more small) refl refl).short

  few_reverse_listed : IsReverseListed layout k j range pairs is_more → length pairs < 2 ^ 63 → length pairs ≤ range.limit
  few_reverse_listed h small = (h.lawful (scan_of pairs is_more small) refl refl).short

-- a list has no more pairs than it was to have
few_filled : (order : Order) (layout : Layout) (k j : PassView) (range : Range) (pairs : List (List ℕ × ℕ)) (is_more : Bool)
    → IsFilledIn order layout k j range pairs is_more → length pairs < 2 ^ 63 → length pairs ≤ range.limit
few_filled Upwards layout k j range pairs is_more h small = few_listed layout k j range pairs is_more h small
few_filled Downwards layout k j range pairs is_more h small = few_reverse_listed layout k j range pairs is_more h small
few_filled LastUpwards layout k j range pairs is_more h small = few_reverse_listed layout k j range pairs is_more h small

-- what a scan left in the list is answered in this order
pub in_its_order : (order : Order) (layout : Layout) (k j : PassView) (range : Range) (pairs : List (List ℕ × ℕ)) (is_more : Bool)
    → IsFilledIn order layout k j range pairs is_more → IsListedIn order layout k j range (in_order order pairs) is_more
in_its_order Upwards layout k j range pairs is_more h = h
in_its_order Downwards layout k j range pairs is_more h = h
in_its_order LastUpwards layout k j range pairs is_more h = subst (λ (l : List (List ℕ × ℕ)). IsReverseListed layout k j range l is_more) (sym (reverse-reverse pairs)) h

-- of a scan into a list, whatever part it leaves
pub without_part : {IsLawful : ScanLaw} {range : Range} {pairs : List (List ℕ × ℕ)} {r : Result Bool AllocError} {old new : HandleView}
    → Stays (λ index k j. IsListReadBy IsLawful range pairs r index untold (k, tt) (j, tt)) old new → Stays (IsRangeRead (λ layout k j. IsListedBy IsLawful layout k j range pairs) range r) old new
without_part {r = r} h = record { index = h.index; pass = range_whole r h.pass }

-- what is left by a scan in the direction of an order is left in that order
pub filled_in : (order : Order) {range : Range} {pairs : List (List ℕ × ℕ)} {r : Result Bool AllocError} {old new : HandleView}
    → Stays (λ index k j. IsListReadBy (IsLawfulBy (direction_of order)) range pairs r index untold (k, tt) (j, tt)) old new → Stays (IsRangeRead (λ layout k j. IsFilledIn order layout k j range pairs) range r) old new
filled_in Upwards h = without_part h
filled_in Downwards h = without_part h
filled_in LastUpwards h = without_part h

pub as_many : (order : Order) (pairs : List (List ℕ × ℕ)) → length (in_order order pairs) ≡ length pairs
as_many Upwards pairs = refl
as_many Downwards pairs = refl
as_many LastUpwards pairs = length-reverse pairs

module _ (from upto k l : List ℕ) (old new : Option Opened) (limit : ℕ) (s u : Opened) (was : old ≡ Some s) (first : (k ≡ from) × FitsInKey from) (last : (l ≡ upto) × FitsInKey upto) where
  pub filled : (order : Order) (count : ℕ) (is_more : Bool) → new ≡ Some u → u.handle.index ≡ s.handle.index → IsFilledIn order s.handle.index.layout s.handle.pass u.handle.pass (range_from k l limit) u.list is_more
      → HasMadeScanSteps s.handle.index untold limit (s.handle.pass, tt) (u.handle.pass, tt) → count ≡ length u.list → length u.list < 2 ^ 63 →
      u.kept.items ≡ s.kept.items → HasFilledList (IsFilledIn order) (range_from from upto limit) old new count is_more
  filled order count is_more is index made read many small keeps = record {
    before = s;
    after = u;
    was = was;
    is = is;
    fit = (first.1, last.1);
    index = index;
    keeps = keeps;
    count_is = many;
    few = subst (λ n. n ≤ limit) (sym many) (few_filled order s.handle.index.layout s.handle.pass u.handle.pass (range_from k l limit) u.list is_more made small);
    made = subst (λ (x : List ℕ). IsFilledIn order s.handle.index.layout s.handle.pass u.handle.pass (range_from x upto limit) u.list is_more) first.0
        (subst (λ (x : List ℕ). IsFilledIn order s.handle.index.layout s.handle.pass u.handle.pass (range_from k x limit) u.list is_more) last.0 made);
    read = read;
  }

  -- the list that the scan left was emptied
  pub unfilled : (v : Opened) (status : ℕ) → new ≡ Some v → KeepsAll u v → u.kept.items ≡ s.kept.items → u.handle.index ≡ s.handle.index → IsUnnoted s.handle.index.layout s.handle.pass u.handle.pass
      → HasFoundPair s.handle.index.layout s.handle.pass u.handle.pass (range_from k l limit) → HasMadeScanSteps s.handle.index untold limit (s.handle.pass, tt) (u.handle.pass, tt) → status ≡ NO_MEMORY → ListsNothing (range_from from upto limit) old new status
  unfilled v status is kept keeps index unnoted pair read full =
      let here = subst (λ (x : List ℕ). HasFoundPair s.handle.index.layout s.handle.pass u.handle.pass (range_from x upto limit)) first.0 (subst (λ (x : List ℕ). HasFoundPair s.handle.index.layout s.handle.pass u.handle.pass (range_from k x limit)) last.0 pair) in
      record {
        closed = λ none. absurd (none_is_some s (sym none ∙ was));
        long = λ some no. absurd (no (first.1, last.1));
        full = λ some f t. (full, record { before = s; after = v; was = was; is = is; stays = subst (Stays (λ index k j. IsUnnoted index.layout k j × HasFoundPair index.layout k j (range_from from upto limit)) s.handle) (sym kept.0) (record { index = index; pass = (unnoted, here) }); keeps = kept.1 ∙ keeps });
        read = λ some f t. record { before = s; after = v; was = was; is = is; stays = subst (Stays (λ index k j. HasMadeScanSteps index untold limit (k, tt) (j, tt)) s.handle) (sym kept.0) (record { index = index; pass = read }); keeps = kept.1 ∙ keeps };
      }

-- the scan has left this list, which was read and then emptied
module _ {IsMade : ScanClaim} {range : Range} {old mid : Option Opened} {count : ℕ} {is_more : Bool} (h : HasFilledList IsMade range old mid count is_more) (u : Opened) (is : mid ≡ Some u) where
  pub count_here : count ≡ length u.list
  count_here = h.count_is ∙ ap (λ (x : Opened). length x.list) (same h.after u (sym h.is ∙ is))

  pub few_here : length u.list ≤ range.limit
  few_here = subst (λ n. n ≤ range.limit) count_here h.few

  pub made_here : IsMade h.before.handle.index.layout h.before.handle.pass u.handle.pass range u.list is_more
  made_here = subst (λ (x : Opened). IsMade h.before.handle.index.layout h.before.handle.pass x.handle.pass range x.list is_more) (same h.after u (sym h.is ∙ is)) h.made

  kept_by_scan : u.kept.items ≡ h.before.kept.items
  kept_by_scan = ap (λ (x : Opened). x.kept.items) (same u h.after (sym is ∙ h.is)) ∙ h.keeps

  pub stays : (Became : Layout → PassView → PassView → Type 0) (new : Option Opened) (v : Opened) → new ≡ Some v → KeepsAll u v
      → Became h.before.handle.index.layout h.before.handle.pass u.handle.pass → StaysOpen (λ index k j. Became index.layout k j) old new
  stays Became new v last kept became = record {
    before = h.before;
    after = v;
    was = h.was;
    is = last;
    stays = subst (Stays (λ index k j. Became index.layout k j) h.before.handle) (sym kept.0) (record { index = ap (λ (x : Opened). x.handle.index) (same u h.after (sym is ∙ h.is)) ∙ h.index; pass = became });
    keeps = kept.1 ∙ kept_by_scan;
  }

  pub reads : (new : Option Opened) (v : Opened) → new ≡ Some v → KeepsAll u v → StaysOpen (λ index k j. HasMadeScanSteps index untold range.limit (k, tt) (j, tt)) old new
  reads new v last kept = record {
    before = h.before;
    after = v;
    was = h.was;
    is = last;
    stays = subst (Stays (λ index k j. HasMadeScanSteps index untold range.limit (k, tt) (j, tt)) h.before.handle) (sym (kept.0 ∙ ap (λ (x : Opened). x.handle) (same u h.after (sym is ∙ h.is)))) (record { index = h.index; pass = h.read });
    keeps = kept.1 ∙ kept_by_scan;
  }

  pub not_closed : old ≡ None → ⊥
  not_closed none = none_is_some h.before (sym none ∙ h.was)

module _ {Room : Type 0} {IsWritten : List (List ℕ × ℕ) → Bool → Room → Room → Type 0} {range : Range} {old new : Option Opened} {before after : Room} {status : ℕ} (IsTold : ScanClaim) where
  -- the pairs of the list were written
  pub listed : {IsMade : ScanClaim} {mid : Option Opened} {count : ℕ} {is_more : Bool} (h : HasFilledList IsMade range old mid count is_more) (u v : Opened) (pairs : List (List ℕ × ℕ))
      → mid ≡ Some u → new ≡ Some v → KeepsAll u v → status ≡ DONE
      → IsTold h.before.handle.index.layout h.before.handle.pass u.handle.pass range pairs is_more → IsWritten pairs is_more before after → ListsInto IsWritten IsTold range old new before after status
  listed h u v pairs is last kept done told written = record {
    closed = λ none. absurd (not_closed h u is none);
    long = λ some no. absurd (no h.fit);
    made = λ some f t. inl (done, pairs, _, stays h u is (λ layout k j. IsTold layout k j range pairs _) new v last kept told, written);
    read = λ some f t. reads h u is new v last kept;
  }

-- the first pairs of a list are those of a scan that was cut after them
cut_in_parts : (IsLawful : ScanLaw) → MayBeCut IsLawful → (layout : Layout) (k j : PassView) (range : Range) (pairs : List (List ℕ × ℕ)) (is_more : Bool) → length pairs < 2 ^ 63
    → IsListedBy IsLawful layout k j range pairs is_more → IsListedByParts (IsListedBy IsLawful) layout k j range pairs is_more
cut_in_parts IsLawful cut layout k j range pairs is_more small h = record {
  whole = h;
  parts = λ n few. record {
    on = h.on;
    notes = h.notes;
    lawful = λ scan is more. cut j.fresh.front j.front range.from range.upto range.limit (scan_of pairs is_more small) (h.lawful (scan_of pairs is_more small) refl refl) pairs refl n few scan is more;
    legal = h.legal;
  };
}

pub by_parts : (order : Order) (layout : Layout) (k j : PassView) (range : Range) (pairs : List (List ℕ × ℕ)) (is_more : Bool) → length pairs < 2 ^ 63 → IsFilledIn order layout k j range pairs is_more
    → IsListedByParts (IsFilledIn order) layout k j range pairs is_more
by_parts Upwards layout k j range pairs is_more small h = cut_in_parts IsLawfulScan cut_rising layout k j range pairs is_more small h
by_parts Downwards layout k j range pairs is_more small h = cut_in_parts IsLawfulReverseScan cut_falling layout k j range pairs is_more small h
by_parts LastUpwards layout k j range pairs is_more small h = cut_in_parts IsLawfulReverseScan cut_falling layout k j range pairs is_more small h
