-- Steps on the words that say how many records are uncommitted.
use Rattle.rowex_table.proofs.Common.{◌≡◌, ◌≢◌, ⊎_elim, inl, inr, ℕ, ◌+◌, ◌<◌, ◌≤◌, Option, List, [], ◌∷◌, set, get_or, length, refl, sym, ap, subst, ◌∙◌, arith, le_trans, le_refl, Allows, Me, State, at_set, address, word_count, Layout, Known, Shows}
use Rattle.std.proofs.Common.{Some, nat_eq}
use Rattle.std.proofs.lemmas.Bool.{cases_Bool, eqb-true}
use Rattle.std.proofs.lemmas.List.{get_or-set_other, get_or-set_same, length-set, set-get_or}
use Rattle.std.proofs.Math.Nat.{min-le_right}
use mathlib.Core.Option.{none, some}
use lib.ListN.{get_elem?}
use Rattle.atomic_table.specs.Seated.{TableId}
use Rattle.atomic_table.specs.Table as table
use Rattle.rowex_core.specs.Events.{exchanged}
use Rattle.record_words.specs.declared.TheConstants.{FIRST_UNCOMMITTED, LEAF_CLASSES, RECORD_KINDS}
use Rattle.rowex_table.specs.declared.traces.Trace.{Trace}
use Rattle.rowex_table.specs.declared.traces.TracedView.{TracedView}
use Rattle.rowex_table.specs.declared.traces.TracedView.TheVariants.{Pass}
use Rattle.record_words.specs.Layout.{uncommitted_in, uncommitted_word}
use Rattle.rowex_table.specs.Committed.{AtMost, IsCommitted, TakenAreCommitted, record_kind}
use Rattle.rowex_table.specs.Rule.{MayBeUncommitted, IsTrueOf, Ruled, bounding, bounded, known_of, committing, trace_of}
use Rattle.rowex_table.proofs.Committed.{bounds_fall, committed_falls, set_uncommitted, taken_begin, uncommitted_apart}
use Rattle.rowex_table.proofs.Onward.{others_begin}
use Rattle.rowex_table.specs.Seats.{SeatView, bounded_seat}
use Rattle.rowex_table.proofs.Rule.{apart_set, each_set, seat_of}

-- what was found is a bound
found_bounds : (words bounds : List ℕ) (kind count : ℕ) → uncommitted_in words kind ≤ count → AtMost (uncommitted_in words) (uncommitted_in bounds) →
    AtMost (uncommitted_in words) (uncommitted_in (set bounds (uncommitted_word kind) count))
found_bounds words bounds kind count low less other = let old = less other in ⊎_elim
    (λ (e : uncommitted_in (set bounds (uncommitted_word kind) count) other ≡ uncommitted_in bounds other). omega arith)
    (λ (h : (uncommitted_word other ≡ uncommitted_word kind) × (uncommitted_in (set bounds (uncommitted_word kind) count) other ≡ count)).
    let e = h.1 in let same : uncommitted_in words other ≡ uncommitted_in words kind = ap (λ i. get_or words i 0) h.0 in omega arith)
    (set_uncommitted bounds kind other count)

-- what a pass finds is no more than its bound, and of no record that it knows to be taken
may_be : {S : Type 0} (layout : Layout) (s : State S TracedView) (r : Ruled layout s) (id : ℕ) (k : Known) (t : Trace) → get_elem? s.views id ≡ some (Pass k t) → (kind : ℕ) →
    MayBeUncommitted (Some layout) kind (uncommitted_in s.words kind) (Pass k t)
may_be layout s r id k t here kind = let mine = r.knows id (Pass k t) here in (
  mine.2 kind,
  λ rec taken kinds. let is_committed = r.committed rec (taken_begin layout r.run t.events rec (others_begin k.pass t.events r.run mine.1) taken) in
      let e : uncommitted_in s.words (record_kind layout rec) ≡ uncommitted_in s.words kind = ap (uncommitted_in s.words) kinds in omega arith,
)

-- The load: the rule stays, and the pass knows one bound more
pub bounds : {S : Type 0} (layout : Layout) (of : Option Layout) → of ≡ Some layout → (slots id i kind : ℕ) → i ≡ uncommitted_word kind → (me : Me S TracedView) (k : Known) (t : Trace) → me ≡ (Pass k t, []) →
    Allows {S = S} {V = TracedView} (Ruled layout) slots id me i (λ n. n) (bounding of kind (table.step slots i 0 0 none) me)
bounds {S = S} layout of is_of slots id i kind at me k t is =
    subst (λ (o : Option Layout). Allows {S = S} {V = TracedView} (Ruled layout) slots id me i (λ n. n) (bounding o kind (table.step slots i 0 0 none) me)) (sym is_of)
    (subst (λ (m : Me S TracedView). Allows {S = S} {V = TracedView} (Ruled layout) slots id m i (λ n. n) (bounding (Some layout) kind (table.step slots i 0 0 none) m)) (sym is) go)
  where
    go : Allows {S = S} {V = TracedView} (Ruled layout) slots id (Pass k t, []) i (λ n. n) (bounding (Some layout) kind (table.step slots i 0 0 none) (Pass k t, []))
    go s r deep here low =
        let w : ℕ = get_or s.words i 0 in
        let there : w ≡ uncommitted_in s.words kind = ap (λ z. get_or s.words z 0) at in
        let mine = r.knows id (Pass k t) here in
        let new : TracedView = bounded kind w (Pass k t) in
        let same : set s.words i w ≡ s.words = set-get_or s.words i 0 in
        let true_now : IsTrueOf r.core r.run (uncommitted_in s.words) new = (mine.0, mine.1, found_bounds s.words t.bounds kind w (omega arith) mine.2) in (
          new,
          table.keeps,
          tt,
          record {
            core = r.core;
            lawful = r.lawful;
            layout_is = r.layout_is;
            shows = subst (Shows r.core) (sym same) r.shows;
            run = r.run;
            led = r.led;
            committed = λ rec taken. subst (λ (ws : List ℕ). IsCommitted layout (uncommitted_in ws) rec) (sym same) (r.committed rec taken);
            knows = λ m v e. subst (λ (ws : List ℕ). IsTrueOf r.core r.run (uncommitted_in ws) v) (sym same) (⊎_elim
                (λ (h : (m ≡ id) × (new ≡ v)). subst (IsTrueOf r.core r.run (uncommitted_in s.words)) h.1 true_now)
                (λ (h : (m ≢ id) × (get_elem? s.views m ≡ some v)). r.knows m v h.1)
                (at_set s.views id m new v e));
            apart = apart_set s.views id (Pass k t) new here (λ q o. o) r.apart;
            each = λ q few. each_set s.views id q (Pass k t) new here (λ o. o) (r.each q few);
          },
          (refl, refl, subst (λ z. MayBeUncommitted (Some layout) kind z (Pass k t)) (sym there) (may_be layout s r id k t here kind)),
        )

-- The exchange: the word falls or stays, so all that passes know of it stays true
exchange_falls : (w expected count : ℕ) → count ≤ expected → exchanged w expected count ≤ w
exchange_falls w expected count low = elim (cases_Bool (nat_eq w expected)) [ inl e ↦ rw e (let same = eqb-true w expected e in omega arith) | inr e ↦ rw e (le_refl w) ]

-- the words after it
pub record IsLess (words new : List ℕ) (kind n : ℕ) : Type 0 where
  pub same : uncommitted_in new kind ≡ n
  pub less : AtMost (uncommitted_in new) (uncommitted_in words)

word_less : (words : List ℕ) (kind n : ℕ) → uncommitted_word kind < length words → n ≤ uncommitted_in words kind → IsLess words (set words (uncommitted_word kind) n) kind n
word_less words kind n low falls = record {
  same = get_or-set_same words (uncommitted_word kind) n 0 low;
  less = λ other. ⊎_elim (λ (e : uncommitted_in (set words (uncommitted_word kind) n) other ≡ uncommitted_in words other). omega arith)
      (λ (h : (uncommitted_word other ≡ uncommitted_word kind) × (uncommitted_in (set words (uncommitted_word kind) n) other ≡ n)).
      let e = h.1 in let old : uncommitted_in words other ≡ uncommitted_in words kind = ap (λ i. get_or words i 0) h.0 in omega arith)
      (set_uncommitted words kind other n);
}

pub commits : {S : Type 0} (layout : Layout) (of : Option Layout) → of ≡ Some layout → (slots id i kind expected count : ℕ) (f : ℕ → ℕ) → ((w : ℕ) → f w ≡ exchanged w expected count) → count ≤ expected → i ≡ uncommitted_word kind → (me : Me S TracedView) (k : Known) (t : Trace) → me ≡ (Pass k t, []) →
    Allows {S = S} {V = TracedView} (Ruled layout) slots id me i f (committing of kind expected count (table.step slots i expected count none) me)
commits {S = S} layout of is_of slots id i kind expected count f is_f lower at me k t is =
    subst (λ (o : Option Layout). Allows {S = S} {V = TracedView} (Ruled layout) slots id me i f (committing o kind expected count (table.step slots i expected count none) me)) (sym is_of)
    (subst (λ (m : Me S TracedView). Allows {S = S} {V = TracedView} (Ruled layout) slots id m i f (committing (Some layout) kind expected count (table.step slots i expected count none) m)) (sym is)
    (subst (λ (j : ℕ). Allows {S = S} {V = TracedView} (Ruled layout) slots id (Pass k t, []) j f (committing (Some layout) kind expected count (table.step slots j expected count none) (Pass k t, []))) (sym at) go))
  where
    go : Allows {S = S} {V = TracedView} (Ruled layout) slots id (Pass k t, []) (uncommitted_word kind) f (committing (Some layout) kind expected count (table.step slots (uncommitted_word kind) expected count none) (Pass k t, []))
    go s r deep here low =
        let w : ℕ = uncommitted_in s.words kind in
        let n : ℕ = exchanged w expected count in
        let words : List ℕ = set s.words (uncommitted_word kind) (f w) in
        let mine = r.knows id (Pass k t) here in
        let new : TracedView = bounded kind n (Pass k t) in
        let inside : uncommitted_word kind < length s.words = (let few = min-le_right kind LEAF_CLASSES in let size = r.shows.size in omega arith) in
        let falls : f w ≤ uncommitted_in s.words kind = (let e = is_f w in let g = exchange_falls w expected count lower in omega arith) in
        let after : IsLess s.words words kind (f w) = word_less s.words kind (f w) inside falls in
        let bound : AtMost (uncommitted_in words) (uncommitted_in t.bounds) = (λ other. le_trans (after.less other) (mine.2 other)) in
        let true_now : IsTrueOf r.core r.run (uncommitted_in words) new = (mine.0, mine.1, found_bounds words t.bounds kind n (let e = is_f w in let h = after.same in omega arith) bound) in (
          new,
          table.keeps,
          tt,
          record {
            core = r.core;
            lawful = r.lawful;
            layout_is = r.layout_is;
            shows = record {
              size = length-set s.words (uncommitted_word kind) (f w) ∙ r.shows.size;
              each = λ l has. get_or-set_other s.words (uncommitted_word kind) (address r.core.layout l) (f w) 0 (λ e. uncommitted_apart r.core.layout l kind (sym e)) ∙ r.shows.each l has;
            };
            run = r.run;
            led = r.led;
            committed = λ rec taken. committed_falls layout (uncommitted_in words) (uncommitted_in s.words) rec after.less (r.committed rec taken);
            knows = λ m v e. ⊎_elim
                (λ (h : (m ≡ id) × (new ≡ v)). subst (IsTrueOf r.core r.run (uncommitted_in words)) h.1 true_now)
                (λ (h : (m ≢ id) × (get_elem? s.views m ≡ some v)). let was = r.knows m v h.1 in (was.0, was.1, bounds_fall (uncommitted_in words) (uncommitted_in s.words) v after.less was.2))
                (at_set s.views id m new v e);
            apart = apart_set s.views id (Pass k t) new here (λ q o. o) r.apart;
            each = λ q few. each_set s.views id q (Pass k t) new here (λ o. o) (r.each q few);
          },
          (refl, refl, may_be layout s r id k t here kind),
        )

-- which is one of the table's
pub uncommitted_in_words : (words kind : ℕ) (own : Layout) → words ≡ word_count own → kind < RECORD_KINDS → FIRST_UNCOMMITTED + kind < words
uncommitted_in_words words kind own count low = omega arith

-- What both leave the seat

pub bounds_seat : {S : Type 0} (x y : TableId) (i j kind q count : ℕ) (me m' : Me S TracedView) → q ≡ kind → me ≡ (Pass (known_of me.0) (trace_of me.0), []) → y ≡ x → j ≡ i → m'.0 ≡ bounded q count me.0 → (s : SeatView) → seat_of x i me ≡ s →
    seat_of y j m' ≡ bounded_seat kind count s
bounds_seat {S = S} x y i j kind q count me m' kinds is tables ids e s seen =
    let k : Known = known_of me.0 in
    let t : Trace = trace_of me.0 in
    let was : me.0 ≡ Pass k t = ap (λ (z : Me S TracedView). z.0) is in
    let now : m'.0 ≡ bounded kind count (Pass k t) = e ∙ (λ l. bounded (kinds l) count (was l)) in
    let both : seat_of y j m' ≡ bounded_seat kind count (seat_of x i me) = (λ l. record { table = tables l; id = ids l; known = known_of (now l); trace = (trace_of (now l)).events; asides = (trace_of (now l)).asides; touches = (trace_of (now l)).touches; bounds = (trace_of (now l)).bounds }) in
    both ∙ ap (bounded_seat kind count) seen

-- what both say of the seat
pub bounds_committed : {S : Type 0} (layout : Layout) (of : Option Layout) (x : TableId) (i kind q count : ℕ) (me : Me S TracedView) → of ≡ Some layout → q ≡ kind → me ≡ (Pass (known_of me.0) (trace_of me.0), []) → MayBeUncommitted of q count me.0 →
    (s : SeatView) → seat_of x i me ≡ s → (count ≤ uncommitted_in s.bounds kind) × TakenAreCommitted layout s.trace kind count
bounds_committed {S = S} layout of x i kind q count me is_of kinds is all s seen =
    let was : me.0 ≡ Pass (known_of me.0) (trace_of me.0) = ap (λ (z : Me S TracedView). z.0) is in
    let named : MayBeUncommitted (Some layout) kind count me.0 = subst (λ (o : Option Layout). MayBeUncommitted o kind count me.0) is_of (subst (λ n. MayBeUncommitted of n count me.0) kinds all) in
    let here : MayBeUncommitted (Some layout) kind count (Pass (known_of me.0) (trace_of me.0)) = subst (λ (v : TracedView). MayBeUncommitted (Some layout) kind count v) was named in
    subst (λ (z : SeatView). (count ≤ uncommitted_in z.bounds kind) × TakenAreCommitted layout z.trace kind count) seen here
