-- What a count of a range for C says, and a scan of its values, where it was made.
use Rattle.hot_c.proofs.Common.{◌≡◌, ℕ, ◌-◌, ◌^◌, List, length, Bool, Option, None, Some, Ok, Err, inl, inr, sym, ◌∙◌, subst, AllocError, Range, TableView, AreValuesListed, HasFoundPair, IsUnnoted, range_from, IsCountRead, IsValuesRead, PassView, HasMadeScanSteps, untold, Stays}
use Rattle.hot_c.specs.Calls.{FitsInKey, StaysOpen}
use Rattle.hot_c.specs.Values.{AreWritten, ListsValues, ValueListing}
use Rattle.hot_c.specs.Counting.{CountsRange}
use Rattle.hot_c.specs.declared.opened.Opened.{Opened}
use Rattle.hot_c.specs.declared.status.TheConstants.{DONE, NO_MEMORY}

none_is_some : (s : Opened) → Some s ≡ None → ⊥
none_is_some s e = cc

-- A call for a range was made on an open handle, whose ends are these keys.
module _ (from upto k l : List ℕ) (limit : ℕ) (old new : Option Opened) (s u : Opened) (was : old ≡ Some s) (is : new ≡ Some u) (first : (k ≡ from) × FitsInKey from) (last : (l ≡ upto) × FitsInKey upto) (keeps : u.kept.items ≡ s.kept.items) where
  ranged : (Became : Range → TableView → PassView → PassView → Type 0) → Stays (Became (range_from k l limit)) s.handle u.handle → StaysOpen (Became (range_from from upto limit)) old new
  ranged Became stays = record {
    before = s;
    after = u;
    was = was;
    is = is;
    stays = subst (λ (x : List ℕ). Stays (Became (range_from x upto limit)) s.handle u.handle) first.0 (subst (λ (x : List ℕ). Stays (Became (range_from k x limit)) s.handle u.handle) last.0 stays);
    keeps = keeps;
  }

  not_closed : old ≡ None → ⊥
  not_closed none = none_is_some s (sym was ∙ none)

  -- The values of the range were listed, or memory was refused for one.
  module _ (before after : ValueListing) (status : ℕ) (room : length before.room ≡ limit) (values : List ℕ) where
    pub values_listed : (more : Bool) → Stays (IsValuesRead {E = AllocError} (range_from k l limit) values (Ok more)) s.handle u.handle → status ≡ DONE → AreWritten values more before after → ListsValues from upto old new before after status
    values_listed more stays done written = record {
      closed = λ none. absurd (not_closed none);
      long = λ some no. absurd (no (first.1, last.1));
      made = λ some low high. inl (
        done,
        values,
        more,
        subst (λ n. StaysOpen (λ index k j. AreValuesListed index.layout k j (range_from from upto n) values more) old new) (sym room)
            (ranged (λ range index k j. AreValuesListed index.layout k j range values more) (record { index = stays.index; pass = stays.pass.ok })),
        written,
      );
      read = λ some low high. subst (λ n. StaysOpen (λ index k j. HasMadeScanSteps index untold n (k, tt) (j, tt)) old new) (sym room)
          (ranged (λ range index k j. HasMadeScanSteps index untold range.limit (k, tt) (j, tt)) (record { index = stays.index; pass = stays.pass.read }));
    }

    pub values_refused : (e : AllocError) → Stays (IsValuesRead (range_from k l limit) values (Err e)) s.handle u.handle → status ≡ NO_MEMORY → after ≡ before → ListsValues from upto old new before after status
    values_refused e stays refused kept = record {
      closed = λ none. absurd (not_closed none);
      long = λ some no. absurd (no (first.1, last.1));
      made = λ some low high. inr (
        refused,
        subst (λ n. StaysOpen (λ index k j. IsUnnoted index.layout k j × HasFoundPair index.layout k j (range_from from upto n)) old new) (sym room)
            (ranged (λ range index k j. IsUnnoted index.layout k j × HasFoundPair index.layout k j range) (record { index = stays.index; pass = (stays.pass.err, stays.pass.memory) })),
        kept,
      );
      read = λ some low high. subst (λ n. StaysOpen (λ index k j. HasMadeScanSteps index untold n (k, tt) (j, tt)) old new) (sym room)
          (ranged (λ range index k j. HasMadeScanSteps index untold range.limit (k, tt) (j, tt)) (record { index = stays.index; pass = stays.pass.read }));
    }

-- It was counted.
pub counted : (from upto k l : List ℕ) (old new : Option Opened) (s u : Opened) (before after status : ℕ) → old ≡ Some s → new ≡ Some u → (k ≡ from) × FitsInKey from → (l ≡ upto) × FitsInKey upto →
    Stays (IsCountRead (range_from k l (2 ^ 63 - 1)) after) s.handle u.handle → u.kept.items ≡ s.kept.items → status ≡ DONE → CountsRange from upto old new before after status
counted from upto k l old new s u before after status was is first last stays keeps done = record {
  closed = λ none. absurd (none_is_some s (sym was ∙ none));
  long = λ some no. absurd (no (first.1, last.1));
  made = λ some low high. (done, ranged from upto k l (2 ^ 63 - 1) old new s u was is first last keeps (λ range. IsCountRead range after) stays);
}
