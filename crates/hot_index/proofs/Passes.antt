-- The passes of a new index, one after the other.
use Rattle.hot_index.proofs.Common.{rules, ◌≡◌, ◌↔◌, ◌∙◌, ℕ, zero, suc, ◌+◌, List, [], ◌∷◌, map, Some, Result, Ok, Err, refl, sym, ap, subst, arith, All-nil, All-cons, All-head, All-tail, IfOk, HasStock, Layout, slice_get, Known, opening_of, TableView, SeatView, IsNewSeatOf, Owns, IsNewPass, IsSettled, PassView, pass_of}
use Rattle.std.proofs.Common.{All}
use Rattle.record_words.specs.declared.layout.Stock.{Stock}
use Rattle.hot_index.specs.Kept.{HasOneKept, kept_stock, with_one_kept}
use mathlib.Core.Option.{some}
use lib.ListN.{get_elem?}
use Rattle.hot_index.specs.KeyCounts.{IsCountOf}
use Rattle.hot_index.specs.declared.key_counts.KeyCount.{KeyCount}
use Rattle.insert_cases.proofs.Ways.{some_injective}
use Rattle.hot_index.specs.Passes.{AreSettled, HasNoCall}

-- what holds of each pass, by its number, where the passes are those of seats
pub passes_of : (P : ℕ → PassView → Type 0) (seats : List SeatView) → ((q : ℕ) (s : SeatView) → get_elem? seats q ≡ some s → P q (pass_of s)) →
    (q : ℕ) (p : PassView) → slice_get (map pass_of seats) q ≡ Some p → P q p
passes_of P [] h q p e = absurd cc
passes_of P (s ∷ ss) h zero p e = subst (P zero) (some_injective e) (h 0 s refl)
passes_of P (s ∷ ss) h (suc q) p e = passes_of (λ i. P (suc i)) ss (λ i t f. h (suc i) t f) q p e

-- the seats that are left are of the passes from this one on
abbrev pub AreFrom : TableView → ℕ → List SeatView → Type 0
AreFrom table first seats = (q : ℕ) (s : SeatView) → get_elem? seats q ≡ some s → IsNewSeatOf table (first + q) s

all_from : (table : TableView) (seats : List SeatView) → ((q : ℕ) (s : SeatView) → get_elem? seats q ≡ some s → IsNewSeatOf table q s) → AreFrom table 0 seats
all_from table seats h q s e = subst (λ i. IsNewSeatOf table i s) (omega arith) (h q s e)

first_of : (table : TableView) (first : ℕ) (s : SeatView) (seats : List SeatView) → AreFrom table first (s ∷ seats) → IsNewSeatOf table first s
first_of table first s seats h = subst (λ q. IsNewSeatOf table q s) (omega arith) (h 0 s refl)

rest_of : (table : TableView) (first : ℕ) (s : SeatView) (seats : List SeatView) → AreFrom table first (s ∷ seats) → AreFrom table (suc first) seats
rest_of table first s seats h q t e = subst (λ i. IsNewSeatOf table i t) (omega arith) (h (suc q) t e)

-- the pass of a new seat is new
pub new_pass : (table : TableView) (q : ℕ) (s : SeatView) → IsNewSeatOf table q s → Owns table (pass_of s) × IsNewPass q (pass_of s)
new_pass table q s new = (new.0, (ap (λ (k : Known). k.pass) new.1, ap (λ (k : Known). k.front) new.1, ap (λ (k : Known). k.notes) new.1, new.1, new.2, new.3))

-- no call was answered
no_call : (table : TableView) (q : ℕ) (s : SeatView) → IsNewSeatOf table q s → HasNoCall s
no_call table q s new = (subst IsSettled (sym new.1) settled, ap (λ (k : Known). k.notes) new.1)
  where
    settled : IsSettled (opening_of q)
    settled = search rules

pub no_calls_from : (table : TableView) (first : ℕ) (seats : List SeatView) → AreFrom table first seats → All HasNoCall seats
no_calls_from table first [] h = All-nil HasNoCall
no_calls_from table first (s ∷ ss) h =
    All-cons HasNoCall s ss (no_call table first s (first_of table first s ss h)) (no_calls_from table (suc first) ss (rest_of table first s ss h))

-- seats of which no call was answered, with a count of none
pub none_settled : (count : KeyCount) → ((q : ℕ) → IsCountOf q [] count) → (seats : List SeatView) → All HasNoCall seats → AreSettled count seats
none_settled count none [] h = tt
none_settled count none (s ∷ ss) h =
    let here = All-head HasNoCall s ss h in
    (record { settled = here.0; counts = subst (λ ns. IsCountOf s.known.pass ns count) (sym here.1) (none s.known.pass) }, All-tail HasNoCall s ss h)

pub new_settled : (table : TableView) (count : KeyCount) → ((q : ℕ) → IsCountOf q [] count) → (seats : List SeatView) →
    ((q : ℕ) (s : SeatView) → get_elem? seats q ≡ some s → IsNewSeatOf table q s) → AreSettled count seats
new_settled table count none seats h = none_settled count none seats (no_calls_from table 0 seats (all_from table seats h))

-- what is told just if something was found is told just if what that means holds
pub told_as_found : {Told Found Means : Type 0} → (Told ↔ Found) → (Found ↔ Means) → (Told ↔ Means)
told_as_found told found = ((λ t. found.0 (told.0 t)), (λ m. told.1 (found.1 m)))

-- what was found of the layout that was asked for holds of the one that is made, but for the record that is kept
pub made_kept : {X E F : Type 0} (layout_of : X → Layout) (found : Result Layout F) (result : Result X E) (Asked Made : Layout → Type 0) → IfOk found Asked →
    IfOk result (λ made. (asked : Layout) × (found ≡ Ok asked) × HasOneKept asked (layout_of made)) → ((a b : Layout) → Asked a → HasOneKept a b → Made b) → IfOk result (λ made. Made (layout_of made))
made_kept layout_of found (Ok made) Asked Made ok (asked, is, kept) so = so asked (layout_of made) (subst (λ r. IfOk r Asked) is ok) kept
made_kept layout_of found (Err fault) Asked Made ok kept so = tt

pub kept_has : (asked layout : Layout) (stock : Stock) → HasOneKept asked layout → HasStock asked stock → HasStock layout (kept_stock stock)
kept_has asked layout stock kept has = record {
  nodes = kept.nodes ∙ ap with_one_kept has.nodes;
  short = kept.medium ∙ has.short;
  medium = (let k = kept.large in let m = kept.medium in let h = has.medium in omega (arith, k, m, h));
  large = (let k = kept.wide in let m = kept.large in let h = has.large in omega (arith, k, m, h));
  wide = (let k = kept.long in let m = kept.wide in let h = has.wide in omega (arith, k, m, h));
  long = (let k = kept.leaves in let m = kept.long in let h = has.long in omega (arith, k, m, h));
}
