-- The opening, and how seats are split and joined.
pub mod Seeing
use Rattle.rowex_table.proofs.Common.{◌≡◌, ◌≢◌, ◌⊎◌, ℕ, zero, suc, ◌+◌, ◌<◌, ◌≤◌, List, [], ◌∷◌, ◌++◌, length, set, get_or, Bool, true, false, eqb, Option, None, refl, sym, ap, subst, ◌∙◌, arith, inl, inr, ⊎_elim, set-get_or, All-from_recursion, All-nil, All-cons, All-weaker, All, IfOk, Result, Ok, Err, State, Me, Step, Allows, Splits, Joins, first_state, at_set, at_longer, at_last, set_else, cases_lt, eqb_tells, le_refl, Change, BeginsWith, OthersGoOn, Layout, Event, Known, Core, Shows, IsFact, IsStillLoaded, IsUntouched, Knows, IsViewOf, Act, IsLawful, IsLoad, Legal, after, keeps, stays_lawful, opening, opening_words, opening_is_lawful}
use Rattle.std.proofs.Common.{Some}
use mathlib.Core.Option.{none, some, some-ne-none, some-injective}
use lib.ListN.{get_elem?}
use Rattle.atomic_table.specs.Table as table
use Rattle.rowex_core.specs.declared.known.View.TheVariants as seen
use Rattle.rowex_core.specs.Events.{loaded_tree}
use Rattle.record_words.specs.declared.records.Rec.{Rec}
use Rattle.versions.specs.State.{IsLinked}
use Rattle.rowex_table.specs.declared.traces.Trace.{Trace}
use Rattle.rowex_table.specs.declared.traces.TracedView.{TracedView}
use Rattle.rowex_table.specs.declared.traces.TracedView.TheVariants.{Spent, Dealer, Founder, Pass, Pair}
use Rattle.rowex_table.specs.Rule.{Ruled, IsTrueOf, bounds_of, dealer_at, dealt_at, first_view, load_of, load_trace, loader_of, opening_of, next_dealer, dealt, paired, first_of_two, second_of_two, with_front, HasBeenShown, SeatsHaveMet, Meeting, met, IsSomeSeats}
use Rattle.record_words.specs.Layout.{uncommitted_in, uncommitted_word}
use Rattle.rowex_table.specs.Committed.{AtMost, IsCommitted, IsTaken}
use Rattle.std.proofs.lemmas.List.{get_or-set_other, get_or-set_same, length-set}
use Rattle.record_words.specs.Layout.{address}
use Rattle.record_words.specs.declared.TheConstants.{FIRST_UNCOMMITTED, RECORD_KINDS}
use Rattle.rowex_table.proofs.Committed.{uncommitted_apart, word_of_kind}
use Rattle.rowex_table.specs.Traces.{HasTraces, IsShownRun, OthersStepOn, new_trace, view_of}
use Rattle.rowex_table.specs.Seats.{TableView, SeatView, IsDealtSeat, IsNewSeatOf, IsNewSeat}
use Rattle.rowex_table.proofs.Rule.{Apart, apart_set, each_set, set_at, true_after}
use Rattle.rowex_table.proofs.Onward.{others_none}

-- Seats by their numbers, and each of them

numbered : (P : ℕ → SeatView → Type 0) (first : ℕ) (items : List SeatView) → ((q : ℕ) (s : SeatView) → get_elem? items q ≡ some s → P (first + q) s) → All (λ s. (q : ℕ) × (q < first + length items) × P q s) items
numbered P first [] h = All-nil (λ s. (q : ℕ) × (q < first + 0) × P q s)
numbered P first (x ∷ xs) h =
    All-cons (λ s. (q : ℕ) × (q < first + suc (length xs)) × P q s) x xs (first, omega arith, subst (λ z. P z x) (omega arith) (h 0 x refl))
    (All-weaker (λ s. (q : ℕ) × (q < suc first + length xs) × P q s) (λ s. (q : ℕ) × (q < first + suc (length xs)) × P q s) (λ s t. let low = t.1 in (t.0, omega arith, t.2)) xs
    (numbered P (suc first) xs (λ q s e. subst (λ z. P z s) (omega arith) (h (suc q) s e))))

-- the seats of new passes, each of its number, are seats of new passes
pub all_new : (table : TableView) (items : List SeatView) → length items ≡ table.layout.passes → ((q : ℕ) (s : SeatView) → get_elem? items q ≡ some s → IsNewSeatOf table q s) → All (IsNewSeat table) items
all_new table items long h = All-weaker (λ s. (q : ℕ) × (q < 0 + length items) × IsNewSeatOf table q s) (IsNewSeat table)
    (λ s u. let low = u.1 in let is : s.known.pass ≡ u.0 = ap (λ (k : Known). k.pass) u.2.1 in ((u.2.0, omega arith), u.2.1 ∙ ap opening_of (sym is), u.2.2, u.2.3))
    items (numbered (IsNewSeatOf table) 0 items (λ q s e. subst (λ z. IsNewSeatOf table z s) (omega arith) (h q s e)))

-- two facts of a result that has a value
pub both_ok : {X Y : Type 0} (r : Result X Y) (P Q R : X → Type 0) → ((x : X) → P x → Q x → R x) → IfOk r P → IfOk r Q → IfOk r R
both_ok (Ok x) P Q R f p q = f x p q
both_ok (Err e) P Q R f p q = tt

-- The opening

-- however many of its records are uncommitted
pub opens_reserved : {S : Type 0} (layout : Layout) (words : List ℕ) → Shows (opening layout) words → Ruled {S = S} layout (first_state words [] (Dealer 0 words))
opens_reserved {S = S} layout words shows = record {
  core = opening layout;
  lawful = (opening_is_lawful layout).0;
  layout_is = refl;
  shows = shows;
  run = [];
  led = refl;
  committed = λ rec taken. absurd taken;
  knows = λ i v e. only (λ v. IsTrueOf (opening layout) [] (uncommitted_in words) v) ((opening_is_lawful layout).2, All-nil (λ x. x.pass < 0), λ kind. le_refl (uncommitted_in words kind)) i v e;
  apart = λ i j q v w a b ov ow. first i v a ∙ sym (first j w b);
  each = λ q low. (0, Dealer 0 words, refl, omega arith);
}
  where
    only : (P : TracedView → Type 0) → P (Dealer 0 words) → (i : ℕ) (v : TracedView) → get_elem? (Dealer 0 words ∷ []) i ≡ some v → P v
    only P p zero v e = subst P (some-injective (Dealer 0 words) v e) p
    only P p (suc i) v e = absurd (some-ne-none v (sym e))

    first : (i : ℕ) (v : TracedView) → get_elem? (Dealer 0 words ∷ []) i ≡ some v → i ≡ 0
    first zero v e = refl
    first (suc i) v e = absurd (some-ne-none v (sym e))

pub shows_reserved : (c : Core) (words : List ℕ) (kind n : ℕ) → Shows c words → Shows c (set words (uncommitted_word kind) n)
shows_reserved c words kind n shows = record {
  size = length-set words (uncommitted_word kind) n ∙ shows.size;
  each = λ l has. get_or-set_other words (uncommitted_word kind) (address c.layout l) n 0 (λ e. uncommitted_apart c.layout l kind (sym e)) ∙ shows.each l has;
}

-- one count more
pub reserves_more : (layout : Layout) (words counts : List ℕ) (kind : ℕ) → kind < RECORD_KINDS → Shows (opening layout) words → ((other : ℕ) → other < kind → get_or words (FIRST_UNCOMMITTED + other) 0 ≡ get_or counts other 0) →
    Shows (opening layout) (set words (FIRST_UNCOMMITTED + kind) (get_or counts kind 0)) × ((other : ℕ) → other < kind + 1 → get_or (set words (FIRST_UNCOMMITTED + kind) (get_or counts kind 0)) (FIRST_UNCOMMITTED + other) 0 ≡ get_or counts other 0)
reserves_more layout words counts kind low shows before =
    let n : ℕ = get_or counts kind 0 in
    let inside : FIRST_UNCOMMITTED + kind < length words = (let size = shows.size in omega arith) in (
      subst (λ i. Shows (opening layout) (set words i n)) (sym (word_of_kind kind low)) (shows_reserved (opening layout) words kind n shows),
      λ other less. ⊎_elim
          (λ (lower : other < kind). get_or-set_other words (FIRST_UNCOMMITTED + kind) (FIRST_UNCOMMITTED + other) n 0 (λ e. omega arith) ∙ before other lower)
          (λ (from : kind ≤ other). let is : other ≡ kind = omega arith in
          ap (λ k. get_or (set words (FIRST_UNCOMMITTED + kind) n) (FIRST_UNCOMMITTED + k) 0) is ∙ (get_or-set_same words (FIRST_UNCOMMITTED + kind) n 0 inside ∙ sym (ap (λ k. get_or counts k 0) is)))
          (cases_lt other kind),
    )

pub opens : {S : Type 0} (layout : Layout) (words : List ℕ) → words ≡ opening_words layout → Ruled {S = S} layout (first_state words [] (Dealer 0 words))
opens {S = S} layout words is = opens_reserved layout words (subst (Shows (opening layout)) (sym is) (opening_is_lawful layout).1)

-- what a new pass knows is true where it has made no step
pub new_knows : (c : Core) (m : ℕ) → m < c.layout.passes → IsUntouched c m → Knows c (opening_of m)
new_knows c m low h = record {
  pass = low;
  counted = record { loaded = omega arith; failed = All-from_recursion (λ f. f.step < 1) [] tt };
  seen = record { front = (c.changes, refl, h.changes); fresh = ([], refl); facts = All-from_recursion (IsFact c.past) [] tt };
  own = h.own;
  values = All-from_recursion (IsStillLoaded m c) [] tt;
}

-- The opening of a loaded table: pass 0 has made the load, and all others are new

module _ (layout : Layout) (words : List ℕ) (some_pass : 0 < layout.passes) (load : IsLoad layout words) (shows : Shows (after (opening layout) 0 (load_of words)) words) (committed : (rec : Rec) → IsLinked (loaded_tree layout words) rec → IsCommitted layout (uncommitted_in words) rec) where
  abbrev act : Act
  act = load_of words

  abbrev new_core : Core
  new_core = after (opening layout) 0 act

  legal : Legal (opening layout) 0 act
  legal = (some_pass, (refl, load))

  abbrev lawful : IsLawful (opening layout)
  lawful = (opening_is_lawful layout).0

  founder_true : IsTrueOf new_core (load_trace words).events (uncommitted_in words) (Founder (loader_of layout words) (load_trace words) 1)
  founder_true =
      let first = true_after (opening layout) [] (opening_of 0) (loader_of layout words) (new_trace words) act lawful (new_knows (opening layout) 0 some_pass ((opening_is_lawful layout).2 0 (omega arith))) legal (loader_of layout words).notes refl (uncommitted_in words) (λ kind. le_refl (uncommitted_in words kind)) in
      let rest = keeps (opening layout) 0 act (seen.Dealer 1) lawful legal (λ low. omega arith) (λ q low. (opening_is_lawful layout).2 q (omega arith)) in
      ((first.0, rest), (first.1, All-cons (λ x. x.pass < 1) _ [] (omega arith) (All-nil (λ x. x.pass < 1))), first.2)

  abbrev founder : TracedView
  founder = Founder (loader_of layout words) (load_trace words) 1

  pub opens_loaded : {S : Type 0} → Ruled {S = S} layout (first_state words [] (first_view layout true words))
  opens_loaded = record {
    core = new_core;
    lawful = stays_lawful (opening layout) 0 act lawful legal;
    layout_is = refl;
    shows = shows;
    run = (load_trace words).events;
    led = (legal, refl);
    committed = λ rec taken. ⊎_elim (committed rec) (λ none. absurd none) taken;
    knows = λ i v e. only (λ v. IsTrueOf new_core (load_trace words).events (uncommitted_in words) v) founder_true i v e;
    apart = λ i j q v w a b ov ow. first i v a ∙ sym (first j w b);
    each = λ q low. (0, founder, refl, owned q (cases_lt 0 q));
  }
    where
      owned : (q : ℕ) → ((0 < q) ⊎ (q ≤ 0)) → (0 ≡ q) ⊎ (1 ≤ q)
      owned q (inl h) = inr (omega arith)
      owned q (inr h) = inl (omega arith)

      only : (P : TracedView → Type 0) → P founder → (i : ℕ) (v : TracedView) → get_elem? (founder ∷ []) i ≡ some v → P v
      only P p zero v e = subst P (some-injective founder v e) p
      only P p (suc i) v e = absurd (some-ne-none v (sym e))

      first : (i : ℕ) (v : TracedView) → get_elem? (founder ∷ []) i ≡ some v → i ≡ 0
      first zero v e = refl
      first (suc i) v e = absurd (some-ne-none v (sym e))

-- Splitting

at_end : {A : Type 0} (l : List A) (a b : A) (j : ℕ) → get_elem? (l ++ a ∷ []) j ≡ some b → (get_elem? l j ≡ some b) ⊎ ((j ≡ length l) × (a ≡ b))
at_end [] a b zero e = inr (refl, some-injective a b e)
at_end [] a b (suc j) e = absurd (some-ne-none b (sym e))
at_end (x ∷ xs) a b zero e = inl e
at_end (x ∷ xs) a b (suc j) e = ⊎_elim inl (λ t. inr (ap suc t.0, t.1)) (at_end xs a b j e)

-- The rule is kept where the words stay, and the views of seats are true, apart and of each number.
still_ruled : {S : Type 0} (layout : Layout) (s t : State S TracedView) (r : Ruled layout s) → t.words ≡ s.words → ((i : ℕ) (v : TracedView) → get_elem? t.views i ≡ some v → IsTrueOf r.core r.run (uncommitted_in s.words) v) → Apart t.views →
    ((q : ℕ) → q < layout.passes → IsSomeSeats t.views q) → Ruled layout t
still_ruled layout s t r same knows apart each = record {
  core = r.core;
  lawful = r.lawful;
  layout_is = r.layout_is;
  shows = subst (Shows r.core) (sym same) r.shows;
  run = r.run;
  led = r.led;
  committed = λ rec taken. subst (λ (ws : List ℕ). IsCommitted layout (uncommitted_in ws) rec) (sym same) (r.committed rec taken);
  knows = λ i v e. subst (λ (ws : List ℕ). IsTrueOf r.core r.run (uncommitted_in ws) v) (sym same) (knows i v e);
  apart = apart;
  each = each;
}

-- The seat's view becomes another by a load, which is true and has the same numbers, and of both views `Then` holds.
pub allows_view : {S : Type 0} (layout : Layout) (of : Option Layout) → of ≡ Some layout → (slots id i : ℕ) (me : Me S TracedView) (v : TracedView) → me ≡ (v, []) → (Then : Option Layout → TracedView → TracedView → Type 0) →
    ((s : State S TracedView) (r : Ruled layout s) → get_elem? s.views id ≡ some v → (new : TracedView) × IsTrueOf r.core r.run (uncommitted_in s.words) new ×
    ((q : ℕ) → IsViewOf (view_of new) q → IsViewOf (view_of v) q) × ((q : ℕ) → IsViewOf (view_of v) q → IsViewOf (view_of new) q) × Then (Some layout) v new) →
    Allows {S = S} {V = TracedView} (Ruled layout) slots id me i (λ n. n) (λ told m'. (m'.1 ≡ me.1) × Then of me.0 m'.0)
allows_view {S = S} layout of is_of slots id i me v is Then becomes =
    subst (λ (o : Option Layout). Allows {S = S} {V = TracedView} (Ruled layout) slots id me i (λ n. n) (λ told m'. (m'.1 ≡ me.1) × Then o me.0 m'.0)) (sym is_of)
    (subst (λ (m : Me S TracedView). Allows {S = S} {V = TracedView} (Ruled layout) slots id m i (λ n. n) (λ told m'. (m'.1 ≡ m.1) × Then (Some layout) m.0 m'.0)) (sym is) go)
  where
    go : Allows {S = S} {V = TracedView} (Ruled layout) slots id (v, []) i (λ n. n) (λ told m'. (m'.1 ≡ []) × Then (Some layout) v m'.0)
    go s r deep here low =
        let (new, is_true, owns, keeps, holds) = becomes s r here in (
          new,
          table.keeps,
          tt,
          still_ruled layout s _ r (set-get_or s.words i 0)
              (λ m w e. ⊎_elim
              (λ (h : (m ≡ id) × (new ≡ w)). subst (IsTrueOf r.core r.run (uncommitted_in s.words)) h.1 is_true)
              (λ (h : (m ≢ id) × (get_elem? s.views m ≡ some w)). r.knows m w h.1)
              (at_set s.views id m new w e))
              (apart_set s.views id v new here owns r.apart)
              (λ q low. each_set s.views id q v new here (keeps q) (r.each q low)),
          (refl, holds),
        )

module _ {S : Type 0} (layout : Layout) (id : ℕ) (v left right : TracedView) where
  -- each part keeps to the numbers and the knowledge of the whole, and they have no number in common
  pub splits : ((c : Core) (run : List Event) (uncommitted : ℕ → ℕ) → c.layout ≡ layout → IsTrueOf c run uncommitted v → IsTrueOf c run uncommitted left × IsTrueOf c run uncommitted right) → ((q : ℕ) → IsViewOf (view_of left) q → IsViewOf (view_of v) q) → ((q : ℕ) → IsViewOf (view_of right) q → IsViewOf (view_of v) q) → ((q : ℕ) → IsViewOf (view_of left) q → IsViewOf (view_of right) q → ⊥) → ((q : ℕ) → IsViewOf (view_of v) q → IsViewOf (view_of left) q ⊎ IsViewOf (view_of right) q)
      → Splits {S = S} {V = TracedView} (Ruled layout) id v left right
  splits knowing lo ro lr vs s r here =
      let parts = knowing r.core r.run (uncommitted_in s.words) r.layout_is (r.knows id v here) in
      let views : List TracedView = set s.views id left in
      let apart : Apart views = apart_set s.views id v left here lo r.apart in
      let alone : (i q : ℕ) (w : TracedView) → get_elem? views i ≡ some w → IsViewOf (view_of w) q → IsViewOf (view_of right) q → ⊥ = λ i q w e ow oright. ⊎_elim
      (λ (t : (i ≡ id) × (left ≡ w)). lr q (subst (λ z. IsViewOf (view_of z) q) (sym t.1) ow) oright)
      (λ (t : (i ≢ id) × (get_elem? s.views i ≡ some w)). t.0 (r.apart i id q w v t.1 here ow (ro q oright)))
      (at_set s.views id i left w e) in
      still_ruled layout s _ r refl
      (λ i w e. ⊎_elim
      (λ old. ⊎_elim (λ (t : (i ≡ id) × (left ≡ w)). subst (IsTrueOf r.core r.run (uncommitted_in s.words)) t.1 parts.0) (λ (t : (i ≢ id) × (get_elem? s.views i ≡ some w)). r.knows i w t.1) (at_set s.views id i left w old))
      (λ (t : (i ≡ length views) × (right ≡ w)). subst (IsTrueOf r.core r.run (uncommitted_in s.words)) t.1 parts.1)
      (at_end views right w i e))
      (λ i j q x y a b ox oy. ⊎_elim
      (λ (olda : get_elem? views i ≡ some x). ⊎_elim (λ (oldb : get_elem? views j ≡ some y). apart i j q x y olda oldb ox oy) (λ (t : (j ≡ length views) × (right ≡ y)). absurd (alone i q x olda ox (subst (λ z. IsViewOf (view_of z) q) (sym t.1) oy))) (at_end views right y j b))
      (λ (t : (i ≡ length views) × (right ≡ x)). ⊎_elim (λ (oldb : get_elem? views j ≡ some y). absurd (alone j q y oldb oy (subst (λ z. IsViewOf (view_of z) q) (sym t.1) ox))) (λ (u : (j ≡ length views) × (right ≡ y)). t.0 ∙ sym u.0) (at_end views right y j b))
      (at_end views right x i a))
      (λ q low. let seat = r.each q low in ⊎_elim
      (λ (e : (eqb seat.0 id ≡ true) × (seat.0 ≡ id)). ⊎_elim
      (λ (o : IsViewOf (view_of left) q). (id, left, at_longer views (right ∷ []) id left (set_at s.views id left v here), o))
      (λ (o : IsViewOf (view_of right) q). (length views, right, at_last views right (length views) refl, o))
      (vs q (subst (λ z. IsViewOf (view_of z) q) (some-injective seat.1 v (sym seat.2 ∙ (ap (λ n. get_elem? s.views n) e.1 ∙ here))) seat.3)))
      (λ (n : (eqb seat.0 id ≡ false) × (seat.0 ≢ id)). (seat.0, seat.1, at_longer views (right ∷ []) seat.0 seat.1 (set_else s.views id seat.0 left n.1 ∙ seat.2), seat.3))
      (eqb_tells seat.0 id))

-- the run of a table some of whose passes are still to be dealt: the next of them has made no step
deals_trace : (m : ℕ) (bounds : List ℕ) (run : List Event) → All (λ x. x.pass < m) run → HasTraces run (Dealer (m + 1) bounds) × HasTraces run (Pass (opening_of m) (new_trace bounds))
deals_trace m bounds run h = (All-weaker (λ x. x.pass < m) (λ x. x.pass < m + 1) (λ x low. omega (arith, low)) run h, (run, refl, All-weaker (λ x. x.pass < m) (λ x. x.pass ≢ m) (λ x low e. omega (arith, low, e)) run h))

pub deals : {S : Type 0} (layout : Layout) (id : ℕ) (v : TracedView) (m : ℕ) (bounds : List ℕ) → m < layout.passes → v ≡ Dealer m bounds → Splits {S = S} {V = TracedView} (Ruled layout) id v (next_dealer v) (dealt v)
deals {S = S} layout id v m bounds low is = subst (λ (z : TracedView). Splits {S = S} {V = TracedView} (Ruled layout) id z (next_dealer z) (dealt z)) (sym is)
    (splits layout id (Dealer m bounds) (Dealer (m + 1) bounds) (Pass (opening_of m) (new_trace bounds))
    (λ c run uncommitted at k. (((λ q low. k.0 q (omega arith)), (deals_trace m bounds run k.1).0, k.2), (new_knows c m (subst (λ (z : Layout). m < z.passes) (sym at) low) (k.0 m (omega arith)), (deals_trace m bounds run k.1).1, k.2)))
    (λ q low. omega arith)
    (λ q e. omega arith)
    (λ q low e. omega arith)
    (λ q low. ⊎_elim (λ (h : m < q). inl (omega arith)) (λ (h : q ≤ m). inr (omega arith)) (cases_lt m q)))

-- the first pass, and then those that are still to be dealt
deals_founder : {S : Type 0} (layout : Layout) (id : ℕ) (k : Known) (t : Trace) (m : ℕ) → k.pass < m → Splits {S = S} {V = TracedView} (Ruled layout) id (Founder k t m) (Dealer m t.bounds) (Pass k t)
deals_founder {S = S} layout id k t m low = splits layout id (Founder k t m) (Dealer m t.bounds) (Pass k t)
    (λ c run uncommitted at h. ((h.0.1, h.1.1, h.2), (h.0.0, h.1.0, h.2)))
    (λ q o. inr o)
    (λ q o. inl o)
    (λ q o e. omega (arith, o, e, low))
    (λ q. ⊎_elim (λ e. inr e) (λ o. inl o))

pub deals_next : {S : Type 0} (layout : Layout) (id : ℕ) (v : TracedView) (made : Layout) (loads : Bool) (words : List ℕ) (m : ℕ) → m < layout.passes → v ≡ dealer_at (first_view made loads words) m →
    Splits {S = S} {V = TracedView} (Ruled layout) id v (next_dealer v) (dealt v)
deals_next layout id v made false words zero low is = deals layout id v 0 words low is
deals_next {S = S} layout id v made true words zero low is = subst (λ (z : TracedView). Splits {S = S} {V = TracedView} (Ruled layout) id z (next_dealer z) (dealt z)) (sym is)
    (deals_founder layout id (loader_of made words) (load_trace words) 1 (omega arith))
deals_next layout id v made loads words (suc m) low is = deals layout id v (suc m) (bounds_of (first_view made loads words)) low is

pub dealer_next : (layout : Layout) (loads : Bool) (words : List ℕ) (m : ℕ) → next_dealer (dealer_at (first_view layout loads words) m) ≡ dealer_at (first_view layout loads words) (m + 1)
dealer_next layout false words zero = refl
dealer_next layout true words zero = refl
dealer_next layout loads words (suc m) = let e : suc (suc m) ≡ suc m + 1 = omega arith in
    sym (ap (λ n. Dealer n (bounds_of (first_view layout loads words))) e) ∙ ap (λ n. dealer_at (first_view layout loads words) n) e

pub dealt_next : (first : TracedView) (m : ℕ) → dealt (dealer_at first m) ≡ dealt_at first m
dealt_next first zero = refl
dealt_next first (suc m) = refl

-- of a new table all seats are new, and of a loaded one all but the first
pub dealt_new : (table : TableView) (words : List ℕ) (q : ℕ) (s : SeatView) → IsDealtSeat table (Dealer 0 words) q s → IsNewSeatOf table q s
dealt_new table words zero s h = (h.0, h.1, h.2, h.3)
dealt_new table words (suc q) s h = (h.0, h.1, h.2, h.3)

pub dealt_other : (table : TableView) (first : TracedView) (q : ℕ) (s : SeatView) → 1 ≤ q → IsDealtSeat table first q s → IsNewSeatOf table q s
dealt_other table first zero s low h = absurd (omega arith)
dealt_other table first (suc q) s low h = (h.0, h.1, h.2, h.3)

-- each has the table's first words for its bounds
pub dealt_bounds : (table : TableView) (layout : Layout) (loads : Bool) (words : List ℕ) (q : ℕ) (s : SeatView) → IsDealtSeat table (first_view layout loads words) q s → s.bounds ≡ words
dealt_bounds table layout false words zero s h = h.4
dealt_bounds table layout true words zero s h = h.4
dealt_bounds table layout false words (suc q) s h = h.4
dealt_bounds table layout true words (suc q) s h = h.4

pub parts : {S : Type 0} (layout : Layout) (id : ℕ) (v : TracedView) (j : Known) (t : Trace) (k : Known) (u : Trace) → v ≡ Pair j t k u → j.pass ≢ k.pass →
    Splits {S = S} {V = TracedView} (Ruled layout) id v (first_of_two v) (second_of_two v)
parts {S = S} layout id v j t k u is ne = subst (λ (z : TracedView). Splits {S = S} {V = TracedView} (Ruled layout) id z (first_of_two z) (second_of_two z)) (sym is)
    (splits layout id (Pair j t k u) (Pass j t) (Pass k u) (λ c run uncommitted at h. ((h.0.0, h.1.0, h.2.0), (h.0.1, h.1.1, h.2.1))) (λ q o. inl o) (λ q o. inr o) (λ q a b. ne (a ∙ sym b)) (λ q o. o))

-- Joining

module _ {S : Type 0} (layout : Layout) (id other : ℕ) (v w both : TracedView) where
  -- the two are one seat now, which has the numbers of both; the other has none
  pub joins_as : ((c : Core) (run : List Event) (uncommitted : ℕ → ℕ) → IsTrueOf c run uncommitted v → IsTrueOf c run uncommitted w → ((q : ℕ) → IsViewOf (view_of v) q → IsViewOf (view_of w) q → ⊥) → IsTrueOf c run uncommitted both) → ((q : ℕ) → IsViewOf (view_of both) q → IsViewOf (view_of v) q ⊎ IsViewOf (view_of w) q) → ((q : ℕ) → IsViewOf (view_of v) q ⊎ IsViewOf (view_of w) q → IsViewOf (view_of both) q)
      → Joins {S = S} {V = TracedView} (Ruled layout) id v other w both Spent
  joins_as knowing of_both to_both s r here ne there =
      let second : get_elem? s.views other ≡ some w = ⊎_elim (λ (t : (other ≡ id) × (both ≡ w)). absurd (ne t.0)) (λ (t : (other ≢ id) × (get_elem? s.views other ≡ some w)). t.1) (at_set s.views id other both w there) in
      let views : List TracedView = set s.views id both in
      -- a seat of the new list is one of the old that owns the same, or the joined one
      let from : (i q : ℕ) (x : TracedView) → get_elem? (set views other Spent) i ≡ some x → IsViewOf (view_of x) q → ((i ≡ id) × (IsViewOf (view_of v) q ⊎ IsViewOf (view_of w) q)) ⊎ ((i ≢ id) × (i ≢ other) × (get_elem? s.views i ≡ some x)) = λ i q x e o. ⊎_elim
      (λ (t : (i ≡ other) × (Spent ≡ x)). absurd (subst (λ z. IsViewOf (view_of z) q) (sym t.1) o))
      (λ (t : (i ≢ other) × (get_elem? views i ≡ some x)). ⊎_elim
      (λ (u : (i ≡ id) × (both ≡ x)). inl (u.0, of_both q (subst (λ z. IsViewOf (view_of z) q) (sym u.1) o)))
      (λ (u : (i ≢ id) × (get_elem? s.views i ≡ some x)). inr (u.0, t.0, u.1))
      (at_set s.views id i both x t.1))
      (at_set views other i Spent x e) in
      let clash : (i q : ℕ) (x : TracedView) → i ≢ id → i ≢ other → get_elem? s.views i ≡ some x → IsViewOf (view_of x) q → IsViewOf (view_of v) q ⊎ IsViewOf (view_of w) q → ⊥ = λ i q x a b e o own. ⊎_elim
      (λ (p : IsViewOf (view_of v) q). a (r.apart i id q x v e here o p))
      (λ (p : IsViewOf (view_of w) q). b (r.apart i other q x w e second o p))
      own in
      still_ruled layout s _ r refl
      (λ i x e. ⊎_elim
      (λ (t : (i ≡ other) × (Spent ≡ x)). subst (IsTrueOf r.core r.run (uncommitted_in s.words)) t.1 (tt, tt, tt))
      (λ (t : (i ≢ other) × (get_elem? views i ≡ some x)). ⊎_elim
      (λ (u : (i ≡ id) × (both ≡ x)). subst (IsTrueOf r.core r.run (uncommitted_in s.words)) u.1 (knowing r.core r.run (uncommitted_in s.words) (r.knows id v here) (r.knows other w second) (λ q o p. ne (r.apart other id q w v second here p o))))
      (λ (u : (i ≢ id) × (get_elem? s.views i ≡ some x)). r.knows i x u.1)
      (at_set s.views id i both x t.1))
      (at_set views other i Spent x e))
      (λ i l q x y a b ox oy. ⊎_elim
      (λ s1. ⊎_elim (λ s2. s1.0 ∙ sym s2.0) (λ s2. absurd (clash l q y s2.0 s2.1 s2.2 oy s1.1)) (from l q y b oy))
      (λ s1. ⊎_elim (λ s2. absurd (clash i q x s1.0 s1.1 s1.2 ox s2.1)) (λ s2. r.apart i l q x y s1.2 s2.2 ox oy) (from l q y b oy))
      (from i q x a ox))
      (λ q low. let seat = r.each q low in ⊎_elim
      (λ (e : (eqb seat.0 other ≡ true) × (seat.0 ≡ other)).
      let is : IsViewOf (view_of w) q = subst (λ z. IsViewOf (view_of z) q) (some-injective seat.1 w (sym seat.2 ∙ (ap (λ n. get_elem? s.views n) e.1 ∙ second))) seat.3 in
      (id, both, set_else views other id Spent (λ same. ne (sym same)) ∙ set_at s.views id both v here, to_both q (inr is)))
      (λ (n : (eqb seat.0 other ≡ false) × (seat.0 ≢ other)). ⊎_elim
      (λ (e : (eqb seat.0 id ≡ true) × (seat.0 ≡ id)).
      let is : IsViewOf (view_of v) q = subst (λ z. IsViewOf (view_of z) q) (some-injective seat.1 v (sym seat.2 ∙ (ap (λ m. get_elem? s.views m) e.1 ∙ here))) seat.3 in
      (id, both, set_else views other id Spent (λ same. ne (sym same)) ∙ set_at s.views id both v here, to_both q (inl is)))
      (λ (m : (eqb seat.0 id ≡ false) × (seat.0 ≢ id)). (seat.0, seat.1, set_else views other seat.0 Spent n.1 ∙ (set_else s.views id seat.0 both m.1 ∙ seat.2), seat.3))
      (eqb_tells seat.0 id))
      (eqb_tells seat.0 other))

pub joins : {S : Type 0} (layout : Layout) (id other : ℕ) (v w : TracedView) (j : Known) (t : Trace) (k : Known) (u : Trace) → v ≡ Pass j t → w ≡ Pass k u →
    Joins {S = S} {V = TracedView} (Ruled layout) id v other w (paired v w) Spent
joins {S = S} layout id other v w j t k u isv isw = subst (λ (z : TracedView × TracedView). Joins {S = S} {V = TracedView} (Ruled layout) id z.0 other z.1 (paired z.0 z.1) Spent) (λ i. (sym isv i, sym isw i))
    (joins_as layout id other (Pass j t) (Pass k u) (Pair j t k u) (λ c run uncommitted a b apart. ((a.0, b.0, λ e. apart k.pass e refl), (a.1, b.1), (a.2, b.2))) (λ q o. o) (λ q o. o))

-- The load of a meeting

fresh_begins : (q : ℕ) (a b c : List Change) → OthersGoOn q a b → BeginsWith a c → BeginsWith b c
fresh_begins q a b c x y = (y.0 ++ x.0, x.1 ∙ (ap (λ (z : List Change). z ++ x.0) y.1 ∙ Rattle.std.proofs.Common.append_assoc c y.0 x.0))

pub met_knows : (c : Core) (k : Known) → Knows c k → Knows c (with_front c.changes k)
met_knows c k h = record {
  pass = h.pass;
  counted = h.counted;
  seen = record {
    front = ([], sym (Rattle.std.proofs.Common.append-nil c.changes), All-from_recursion (λ (x : Change). x.pass ≢ k.pass) [] tt);
    fresh = fresh_begins k.pass k.front c.changes k.fresh.front h.seen.front h.seen.fresh;
    facts = h.seen.facts;
  };
  own = h.own;
  values = h.values;
}

-- a trace that is shown the whole run
abbrev pub shown : List Event → Trace → Trace
shown run t = record { events = run; asides = suc t.asides; touches = t.touches; bounds = t.bounds }

pub shown_run : {S : Type 0} (layout : Layout) (s : State S TracedView) (r : Ruled layout s) (k : Known) (t : Trace) → OthersStepOn k.pass t.events r.run →
    IsShownRun layout k.pass t.events r.run r.core.changes
shown_run layout s r k t others = record { core = r.core; led = r.led; changes = refl; others = others }

pub meets : {S : Type 0} (layout : Layout) (of : Option Layout) → of ≡ Some layout → (slots id i : ℕ) (me : Me S TracedView) (j : Known) (t : Trace) (k : Known) (u : Trace) → me ≡ (Pair j t k u, [])
    → Allows {S = S} {V = TracedView} (Ruled layout) slots id me i (λ n. n) (met of (table.step slots i 0 0 none) me)
meets layout of is_of slots id i me j t k u is = allows_view layout of is_of slots id i me (Pair j t k u) is Meeting (λ s r here.
    let c : Core = r.core in
    let both = (r.knows id (Pair j t k u) here).0 in
    let traces = (r.knows id (Pair j t k u) here).1 in
    let bounds = (r.knows id (Pair j t k u) here).2 in (
      Pair (with_front c.changes j) (shown r.run t) (with_front c.changes k) (shown r.run u),
      ((met_knows c j both.0, met_knows c k both.1, both.2), (others_none j.pass r.run, others_none k.pass r.run), bounds),
      (λ q o. o),
      (λ q o. o),
      (
        with_front c.changes j,
        shown r.run t,
        with_front c.changes k,
        shown r.run u,
        refl,
        (c.changes, refl, refl, r.lawful.core.told.legal, both.0.seen.front, both.1.seen.front, both.2, subst (λ (z : Layout). All (λ x. x.pass < z.passes) c.changes) r.layout_is r.lawful.makers),
        refl,
        (shown_run layout s r j t traces.0, refl, refl, refl),
        (shown_run layout s r k u traces.1, refl, refl, refl),
      ),
    ))

-- one more at the end of a list
pub each_longer : {A : Type 0} (P : ℕ → A → Type 0) (xs : List A) (x : A) (n : ℕ) → length xs ≡ n → ((q : ℕ) (h : A) → get_elem? xs q ≡ some h → P q h) → P n x → (q : ℕ) (h : A) → get_elem? (xs ++ x ∷ []) q ≡ some h → P q h
each_longer {A = A} P xs x n len each new q h e = ⊎_elim (each q h) (λ (t : (q ≡ length xs) × (x ≡ h)). subst (λ (z : ℕ × A). P z.0 z.1) (λ i. (sym (t.0 ∙ len) i, t.1 i)) new) (at_end xs x h q e)

-- What a meeting's steps leave

pub paired_me : {S : Type 0} (me a b : Me S TracedView) (j : Known) (t : Trace) (k : Known) (u : Trace) → me ≡ (paired a.0 b.0, a.1) → a ≡ (Pass j t, []) → b ≡ (Pass k u, []) → me ≡ (Pair j t k u, [])
paired_me {S = S} me a b j t k u e is was = e ∙ (λ i. (paired (is i).0 (was i).0, (is i).1))

pub meeting : {S : Type 0} (layout : Layout) (of : Option Layout) → of ≡ Some layout → (me m' : Me S TracedView) (j : Known) (t : Trace) (k : Known) (u : Trace) → me ≡ (Pair j t k u, []) → (m'.1 ≡ me.1) × Meeting of me.0 m'.0
    → (j' : Known) × (t' : Trace) × (k' : Known) × (u' : Trace) × (m' ≡ (Pair j' t' k' u', [])) × SeatsHaveMet layout j k j' k' × (t'.events ≡ u'.events) × HasBeenShown layout j t j' t' × HasBeenShown layout k u k' u'
meeting {S = S} layout of is_of me m' j t k u is h =
    let met = subst (λ (v : TracedView). Meeting (Some layout) v m'.0) (ap (λ (z : Me S TracedView). z.0) is) (subst (λ (o : Option Layout). Meeting o me.0 m'.0) is_of h.1) in
    (met.0, met.1, met.2, met.3, (λ i. (met.4 i, (h.0 ∙ ap (λ (z : Me S TracedView). z.1) is) i)), met.5, met.6, met.7, met.8)

-- those who have met have different numbers
pub apart_met : (layout : Layout) (j k j' k' : Known) → SeatsHaveMet layout j k j' k' → j'.pass ≢ k'.pass
apart_met layout j k j' k' (front, e, f, legal, a, b, ne, makers) = λ q. ne (sym (ap (λ (z : Known). z.pass) e) ∙ (q ∙ ap (λ (z : Known). z.pass) f))
