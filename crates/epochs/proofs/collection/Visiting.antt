-- What visits of records come to.
use Rattle.epochs.proofs.Common.{a_node, zero, suc, inl, inr, a_leaf, LEAF_CLASSES, RECORD_KINDS, ◌-◌, ◌⊎◌, length, le-ltb, lt-ltb, ◌≡◌, ◌≢◌, ℕ, ◌+◌, ◌^◌, ◌<◌, ◌≤◌, [], ◌∷◌, ◌++◌, Bool, true, false, nat_eq, if◌then◌else◌, refl, sym, ap, subst, ◌∙◌, arith, List, length-append, count_by, Layout, leaf_size, leaf_start, Obsolete, state_word, Rec, Round, Act, LoadState, GiveBack, Known, IsEvent, Event, silent, Steps, InTurn, TableView, SeatView, in_turn_more, does_none}
use Rattle.std.proofs.lemmas.List.{append_assoc, append-nil}
use Rattle.std.proofs.lemmas.List.Sums.{sum_by-append}
use Rattle.std.proofs.lemmas.Bool.{cases_Bool, cases_lt, ltb-false, ltb-true}
use Rattle.std.proofs.lemmas.List.{get_or-set_other, get_or-set_same}
use Rattle.std.proofs.Math.Nat.{min-eq_left, min-le_right}
use Rattle.std.specs.Prelude.{get_or, min, nat_lt, set}
use Rattle.record_words.specs.Layout.{uncommitted_in, uncommitted_word}
use Rattle.rowex_table.proofs.Committed.Chains.{bound_found, finds_bounds, found_more, found_none}
use Rattle.record_words.specs.declared.TheConstants.{FIRST_UNCOMMITTED}
use Rattle.rowex_table.specs.Committed.{AtMost, IsCommitted, TakenAreCommitted, count_from, record_kind}
use Rattle.rowex_table.specs.Seats.{HasFoundBounds, bounded_seat}
use Rattle.rowex_core.proofs.Sharing.Owning.{round_is}
use Rattle.epochs.specs.Runs.{collecting}
use Rattle.epochs.specs.Rounds.{IsUncommitted, LoadsUncommitted, Visits, VisitsCommitted, VisitEach, count_of_kind, has_given, GoesOnVisiting, VisitsOne, VisitsFirst, VisitsSome}
use Rattle.epochs.proofs.Runs.{does_one, collects, collects_look, collects_append}

-- Where records begin

-- a leaf record begins where the one before ends
pub next_start : (layout : Layout) (n start size : ℕ) → start ≡ leaf_start layout n → size ≡ leaf_size layout n → start + size ≡ leaf_start layout (n + 1)
next_start layout n start size begins sized = grind arith

-- Which records are committed

-- records of one class are of one kind and size, and have one end
pub class_same : (layout : Layout) (n q : ℕ) → n ≤ q → q < n + count_from layout (a_leaf n) →
    (record_kind layout (a_leaf q) ≡ record_kind layout (a_leaf n)) × (leaf_size layout q ≡ leaf_size layout n) × (q + count_from layout (a_leaf q) ≡ n + count_from layout (a_leaf n))
class_same layout n q low few =
    let order = layout.classes_in_order in
    elim (cases_Bool (nat_lt n layout.medium_from)) [
      | inl e ↦ (let at = ltb-true n layout.medium_from e in let f = rw e at few in
          rw e (rw (lt-ltb q layout.medium_from (omega arith)) (refl, refl, omega arith)))
      | inr e ↦ (let at = ltb-false n layout.medium_from e in let f = rw e at few in
          rw e (rw (le-ltb q layout.medium_from (omega arith)) (elim (cases_Bool (nat_lt n layout.large_from)) [
            | inl e2 ↦ (let at2 = ltb-true n layout.large_from e2 in let f2 = rw e2 at f in
                rw e2 (rw (lt-ltb q layout.large_from (omega arith)) (refl, refl, omega arith)))
            | inr e2 ↦ (let at2 = ltb-false n layout.large_from e2 in let f2 = rw e2 at f in
                rw e2 (rw (le-ltb q layout.large_from (omega arith)) (elim (cases_Bool (nat_lt n layout.wide_from)) [
                  | inl e3 ↦ (let at3 = ltb-true n layout.wide_from e3 in let f3 = rw e3 at f2 in
                      rw e3 (rw (lt-ltb q layout.wide_from (omega arith)) (refl, refl, omega arith)))
                  | inr e3 ↦ (let at3 = ltb-false n layout.wide_from e3 in let f3 = rw e3 at f2 in
                      rw e3 (rw (le-ltb q layout.wide_from (omega arith)) (elim (cases_Bool (nat_lt n layout.long_from)) [
                        | inl e4 ↦ (let at4 = ltb-true n layout.long_from e4 in let f4 = rw e4 at f3 in
                            rw e4 (rw (lt-ltb q layout.long_from (omega arith)) (refl, refl, omega arith)))
                        | inr e4 ↦ (let at4 = ltb-false n layout.long_from e4 in let f4 = rw e4 at f3 in
                            rw e4 (rw (le-ltb q layout.long_from (omega arith)) (refl, refl, omega arith)))
                      ])))
                ])))
          ])))
    ]

-- so are those that are committed
pub class_sized : (layout : Layout) (n q count here : ℕ) → count ≡ count_from layout (a_leaf n) → here ≤ count → n ≤ q → q < n + here → leaf_size layout q ≡ leaf_size layout n
class_sized layout n q count here is few low below = (class_same layout n q low (omega (arith, is, few, below))).1

-- where the last of them are uncommitted, the others are committed
class_committed : (layout : Layout) (uncommitted : ℕ → ℕ) (n q : ℕ) → n ≤ q → q < n + (count_from layout (a_leaf n) - uncommitted (record_kind layout (a_leaf n))) →
    IsCommitted layout uncommitted (a_leaf q)
class_committed layout uncommitted n q low few =
    let same = class_same layout n q low (omega (arith, few)) in
    let u : uncommitted (record_kind layout (a_leaf q)) ≡ uncommitted (record_kind layout (a_leaf n)) = ap uncommitted same.0 in
    omega (arith, few, u, same.2, low)

class_uncommitted : (layout : Layout) (uncommitted : ℕ → ℕ) (n q : ℕ) → n + (count_from layout (a_leaf n) - uncommitted (record_kind layout (a_leaf n))) ≤ q →
    q < n + count_from layout (a_leaf n) → IsUncommitted layout uncommitted (a_leaf q)
class_uncommitted layout uncommitted n q high few =
    let same = class_same layout n q (omega (arith, high)) few in
    let u : uncommitted (record_kind layout (a_leaf q)) ≡ uncommitted (record_kind layout (a_leaf n)) = ap uncommitted same.0 in
    omega (arith, high, u, same.2)

-- Counts of uncommitted records

pub count_is : (counts : List ℕ) (kind : ℕ) → kind < RECORD_KINDS → count_of_kind counts kind ≡ get_or counts kind 0
count_is counts kind low = ap (λ i. get_or counts i 0) (min-eq_left {n = kind} {m = LEAF_CLASSES} (omega arith))

kind_six : (kind : ℕ) → min (min kind LEAF_CLASSES) LEAF_CLASSES ≡ min kind LEAF_CLASSES
kind_six kind = min-eq_left {n = min kind LEAF_CLASSES} {m = LEAF_CLASSES} (min-le_right kind LEAF_CLASSES)

-- of the kinds of a table, and of all numbers, which name one of these
count_six : (counts words : List ℕ) (kind : ℕ) → (count_of_kind counts kind ≡ count_of_kind counts (min kind LEAF_CLASSES)) × (uncommitted_in words kind ≡ uncommitted_in words (min kind LEAF_CLASSES))
count_six counts words kind = (ap (λ i. get_or counts i 0) (sym (kind_six kind)), ap (λ i. get_or words (FIRST_UNCOMMITTED + i) 0) (sym (kind_six kind)))

-- the counts are bounds, and no more than were known
pub few_found : (layout : Layout) (counts : List ℕ) (s t : SeatView) → LoadsUncommitted layout RECORD_KINDS counts s t → AtMost (count_of_kind counts) (uncommitted_in s.bounds)
few_found layout counts s t loads kind =
    let low = min-le_right kind LEAF_CLASSES in
    let few = loads.few (min kind LEAF_CLASSES) (omega (arith, low)) in
    let same = count_six counts s.bounds kind in
    omega (arith, few, same.0, same.1)

pub least_found : (layout : Layout) (counts : List ℕ) (s t : SeatView) → LoadsUncommitted layout RECORD_KINDS counts s t → AtMost (uncommitted_in t.bounds) (count_of_kind counts)
least_found layout counts s t loads kind =
    let low = min-le_right kind LEAF_CLASSES in
    let least = loads.least (min kind LEAF_CLASSES) (omega (arith, low)) in
    let same = count_six counts t.bounds kind in
    omega (arith, least, same.0, same.1)

kind_few : (layout : Layout) (r : Rec) → record_kind layout r < RECORD_KINDS
kind_few layout (a_node n) = omega arith
kind_few layout (a_leaf n) = of (nat_lt n layout.medium_from) (nat_lt n layout.large_from) (nat_lt n layout.wide_from) (nat_lt n layout.long_from)
  where
    of : (a b c d : Bool) → (if a then 1 else (if b then 2 else (if c then 3 else (if d then 4 else 5)))) < RECORD_KINDS
    of true b c d = omega arith
    of false true c d = omega arith
    of false false true d = omega arith
    of false false false true = omega arith
    of false false false false = omega arith

pub taken_found : (layout : Layout) (counts : List ℕ) (s t : SeatView) → LoadsUncommitted layout RECORD_KINDS counts s t → (r : Rec) → TakenAreCommitted layout t.trace (record_kind layout r) (count_of_kind counts (record_kind layout r))
taken_found layout counts s t loads r =
    subst (λ l. TakenAreCommitted layout l (record_kind layout r) (count_of_kind counts (record_kind layout r))) (sym (ap (λ (z : SeatView). z.trace) loads.found.1)) (loads.taken (record_kind layout r) (kind_few layout r))

pub loads_none : (layout : Layout) (counts : List ℕ) (s : SeatView) → LoadsUncommitted layout 0 counts s s
loads_none layout counts s = record {
  found = found_none s;
  few = λ kind low. absurd (omega arith);
  least = λ kind low. absurd (omega arith);
  taken = λ kind low. absurd (omega arith);
}

-- a count that takes its place leaves those of the kinds before
count_other : (counts : List ℕ) (kind other count : ℕ) → kind < RECORD_KINDS → other < kind → count_of_kind (set counts kind count) other ≡ count_of_kind counts other
count_other counts kind other count low less =
    let same = min-eq_left {n = other} {m = LEAF_CLASSES} (omega arith) in get_or-set_other counts kind (min other LEAF_CLASSES) count 0 (λ e. omega (arith, e, same, less))

count_same : (counts : List ℕ) (kind count : ℕ) → kind < RECORD_KINDS → length counts ≡ RECORD_KINDS → count_of_kind (set counts kind count) kind ≡ count
count_same counts kind count low long =
    ap (λ i. get_or (set counts kind count) i 0) (min-eq_left {n = kind} {m = LEAF_CLASSES} (omega arith)) ∙ get_or-set_same counts kind count 0 (omega (arith, low, long))

-- one count more
pub loads_more : (layout : Layout) (kind count : ℕ) (counts : List ℕ) (s t u : SeatView) → kind < RECORD_KINDS → length counts ≡ RECORD_KINDS → LoadsUncommitted layout kind counts s t →
    u ≡ bounded_seat kind count t → count ≤ uncommitted_in t.bounds kind → TakenAreCommitted layout t.trace kind count → LoadsUncommitted layout (kind + 1) (set counts kind count) s u
loads_more layout kind count counts s t u low long loads is few taken = record {
  found = found;
  few = λ other less. either other (cases_lt other kind) less
      (λ lower e. let f = loads.few other lower in omega (arith, e, f))
      (λ same e. let f = (loads.found.2) kind in let b : uncommitted_in t.bounds kind ≡ uncommitted_in loads.found.0 kind = ap (λ (z : SeatView). uncommitted_in z.bounds kind) loads.found.1 in
      let o : uncommitted_in s.bounds other ≡ uncommitted_in s.bounds kind = ap (λ n. uncommitted_in s.bounds n) same in omega (arith, e, few, f, b, o));
  least = λ other less. either other (cases_lt other kind) less
      (λ lower e. let f = loads.least other lower in let b = now.2 other in
      let c : uncommitted_in u.bounds other ≡ uncommitted_in now.0 other = ap (λ (z : SeatView). uncommitted_in z.bounds other) now.1 in omega (arith, e, f, b, c))
      (λ same e. let b = bound_found t.bounds kind count in let c : uncommitted_in u.bounds other ≡ uncommitted_in (set t.bounds (uncommitted_word kind) count) kind =
      ap (λ (z : SeatView). uncommitted_in z.bounds other) is ∙ ap (λ n. uncommitted_in (set t.bounds (uncommitted_word kind) count) n) same in omega (arith, e, b, c));
  taken = λ other less. either other (cases_lt other kind) less
      (λ lower e. subst (λ n. TakenAreCommitted layout s.trace other n) (sym e) (loads.taken other lower))
      (λ same e. subst (λ n. TakenAreCommitted layout s.trace other n) (sym e) (subst (λ n. TakenAreCommitted layout s.trace n count) (sym same) (subst (λ l. TakenAreCommitted layout l kind count) known taken)));
}
  where
    now : HasFoundBounds t u
    now = subst (HasFoundBounds t) (sym is) (finds_bounds kind count t few)

    found : HasFoundBounds s u
    found = found_more s t u loads.found now

    known : t.trace ≡ s.trace
    known = ap (λ (z : SeatView). z.trace) loads.found.1

    either : {P : Type 0} (other : ℕ) → (other < kind) ⊎ (kind ≤ other) → other < kind + 1 → (other < kind → count_of_kind (set counts kind count) other ≡ count_of_kind counts other → P) →
        (other ≡ kind → count_of_kind (set counts kind count) other ≡ count → P) → P
    either other (inl lower) less before last = before lower (count_other counts kind other count low lower)
    either other (inr from) less before last = let same : other ≡ kind = omega (arith, less, from) in last same (ap (count_of_kind (set counts kind count)) same ∙ count_same counts kind count low long)

-- One visit

-- a visit gives back one record at most
pub one_most : (t : Bool) → (if t then 1 else 0) ≤ 1
one_most true = omega arith
one_most false = omega arith

-- the bound of a round is a number of an epoch
bound_top : (layout : Layout) (act : Act) (k j : Known) → IsEvent layout act silent k j → k.round.bound < 2 ^ 60
bound_top layout act k j e =
    let low = e.lawful.core.paced.loads k.pass in
    let now = e.lawful.epochs.now in
    subst (λ (z : Round). z.bound < 2 ^ 60) (round_is e.core k e.knows) (omega arith)

module _ {G : Type 0} (table : TableView) (becomes : G → Event → G → Type 0) where
  pub visit_passes : (bound : ℕ) (r : Rec) (word : ℕ) (a b : SeatView × G) → Steps table becomes (LoadState r word) a b → a.0.known.round.bound ≡ bound
      → ((epoch : ℕ) → 1 ≤ epoch → epoch < 2 ^ 60 → epoch < bound → word ≢ state_word (Obsolete epoch)) → VisitsOne table becomes bound r false a b
  visit_passes bound r word a b e least none =
      let top = bound_top table.layout (LoadState r word) a.0.known b.0.known e.event in
      (LoadState r word ∷ [], Visits.passes word (λ epoch low below. none epoch low (omega arith) below), collects_look table becomes r word a b e, refl)

  pub visit_tries : (bound epoch found : ℕ) (r : Rec) (word : ℕ) (a m b : SeatView × G) → word ≡ state_word (Obsolete epoch) → 1 ≤ epoch → epoch < bound
      → Steps table becomes (LoadState r word) a m → Steps table becomes (GiveBack r epoch found) m b → VisitsOne table becomes bound r (nat_eq found word) a b
  visit_tries bound epoch found r word a m b is low below load give = subst (λ w. VisitsOne table becomes bound r (nat_eq found w) a b) (sym is) (
    LoadState r (state_word (Obsolete epoch)) ∷ GiveBack r epoch found ∷ [],
    Visits.tries epoch found low below,
    collects_append table becomes (LoadState r (state_word (Obsolete epoch)) ∷ []) (GiveBack r epoch found ∷ []) a m b
        (collects_look table becomes r (state_word (Obsolete epoch)) a m (subst (λ w. Steps table becomes (LoadState r w) a m) is load))
        (collects table becomes (GiveBack r epoch found ∷ []) m b (does_one table becomes (GiveBack r epoch found) m b tt give)),
    given (nat_eq found (state_word (Obsolete epoch))) refl,
  )
    where
      given : (t : Bool) → nat_eq found (state_word (Obsolete epoch)) ≡ t → count_by has_given (LoadState r (state_word (Obsolete epoch)) ∷ GiveBack r epoch found ∷ []) ≡ if nat_eq found (state_word (Obsolete epoch)) then 1 else 0
      given true e = rw e refl
      given false e = rw e refl

  -- Visits in turn

  -- one more record, which is committed, given back or not
  pub visits_more : (uncommitted : ℕ → ℕ) (bound : ℕ) (kind : ℕ → Rec) (n given more : ℕ) (t : Bool) (a m b : SeatView × G) → VisitsFirst table becomes uncommitted bound kind n given a m
      → IsCommitted table.layout uncommitted (kind n) → VisitsOne table becomes bound (kind n) t m b → more ≡ given + (if t then 1 else 0) → VisitsFirst table becomes uncommitted bound kind (n + 1) more a b
  visits_more uncommitted bound kind n given more t a m b all committed one is = (
    all.0 ++ one.0,
    in_turn_more (λ m. VisitsCommitted table.layout uncommitted bound (kind m)) n all.0 one.0 all.1 (inl (committed, one.1)),
    collects_append table becomes all.0 one.0 a m b all.2 one.2,
    is ∙ (ap (λ z. z + (if t then 1 else 0)) all.3 ∙ (ap (λ z. count_by has_given all.0 + z) (sym one.3) ∙ sym (sum_by-append (λ x. if has_given x then 1 else 0) all.0 one.0))),
  )

  -- and one that is not
  passes_one : (uncommitted : ℕ → ℕ) (bound : ℕ) (kind : ℕ → Rec) (n given : ℕ) (a b : SeatView × G) → VisitsFirst table becomes uncommitted bound kind n given a b → IsUncommitted table.layout uncommitted (kind n)
      → VisitsFirst table becomes uncommitted bound kind (n + 1) given a b
  passes_one uncommitted bound kind n given a b all rest =
      let Parts : ℕ → List Act → Type 0 = λ m. VisitsCommitted table.layout uncommitted bound (kind m) in
      (all.0, subst (InTurn Parts (n + 1)) (append-nil all.0) (in_turn_more Parts n all.0 [] all.1 (inr (rest, refl))), all.2, all.3)

  -- and so many
  pub passes_on : (uncommitted : ℕ → ℕ) (bound : ℕ) (kind : ℕ → Rec) (n more given : ℕ) (a b : SeatView × G) → VisitsFirst table becomes uncommitted bound kind n given a b
      → ((q : ℕ) → n ≤ q → q < n + more → IsUncommitted table.layout uncommitted (kind q)) → VisitsFirst table becomes uncommitted bound kind (n + more) given a b
  passes_on uncommitted bound kind n zero given a b all rest = subst (λ m. VisitsFirst table becomes uncommitted bound kind m given a b) (omega arith) all
  passes_on uncommitted bound kind n (suc more) given a b all rest = subst (λ m. VisitsFirst table becomes uncommitted bound kind m given a b) (omega arith)
      (passes_one uncommitted bound kind (n + more) given a b (passes_on uncommitted bound kind n more given a b all (λ q low few. rest q low (omega arith))) (rest (n + more) (omega arith) (omega arith)))

  -- a class more of leaf records
  pub visits_class : (uncommitted : ℕ → ℕ) (bound n kind count here given more : ℕ) (a m b : SeatView × G) → kind ≡ record_kind table.layout (a_leaf n) → count ≡ count_from table.layout (a_leaf n) → here ≡ count - uncommitted kind
      → VisitsFirst table becomes uncommitted bound a_leaf n given a m
      → (((q : ℕ) → n ≤ q → q < n + here → IsCommitted table.layout uncommitted (a_leaf q)) → GoesOnVisiting table becomes uncommitted bound a_leaf (n, given) (n + here, more) m b)
      → VisitsFirst table becomes uncommitted bound a_leaf (n + count) more a b
  visits_class uncommitted bound n kind count here given more a m b is_kind is_count is_here all goes =
      let u : uncommitted kind ≡ uncommitted (record_kind table.layout (a_leaf n)) = ap uncommitted is_kind in
      let end : n + here + (count - here) ≡ n + count = omega (arith, is_here) in
      subst (λ z. VisitsFirst table becomes uncommitted bound a_leaf z more a b) end
      (passes_on uncommitted bound a_leaf (n + here) (count - here) more a b
      (goes (λ q low few. class_committed table.layout uncommitted n q low (omega (arith, few, is_here, is_count, u))) a all)
      (λ q low few. class_uncommitted table.layout uncommitted n q (omega (arith, low, is_here, is_count, u)) (omega (arith, few, end, is_count))))

  -- Visits of a list

  pub some_none : (bound most : ℕ) (a : SeatView × G) → VisitsSome table becomes bound most a a
  some_none bound most a = ([], [], refl, does_none table becomes collecting a (λ k. refl), omega arith)

  pub some_one : (bound : ℕ) (r : Rec) (t : Bool) (a b : SeatView × G) → VisitsOne table becomes bound r t a b → VisitsSome table becomes bound 1 a b
  some_one bound r t a b one = (r ∷ [], one.0, (one.0, [], one.1, refl, sym (append-nil one.0)), one.2, omega arith)

  each_append : (bound : ℕ) (recs rest : List Rec) (acts more : List Act) → VisitEach bound recs acts → VisitEach bound rest more → VisitEach bound (recs ++ rest) (acts ++ more)
  each_append bound [] rest acts more none each = subst (λ l. VisitEach bound rest (l ++ more)) (sym none) each
  each_append bound (r ∷ recs) rest acts more (first, last, visit, visits, all) each =
      (first, last ++ more, visit, each_append bound recs rest last more visits each, ap (λ (l : List Act). l ++ more) all ∙ append_assoc first last more)

  pub some_append : (bound n m most : ℕ) (a b c : SeatView × G) → VisitsSome table becomes bound n a b → VisitsSome table becomes bound m b c → n + m ≤ most → VisitsSome table becomes bound most a c
  some_append bound n m most a b c (recs, acts, each, does, few) (rest, more, each', does', few') le = (
    recs ++ rest,
    acts ++ more,
    each_append bound recs rest acts more each each',
    collects_append table becomes acts more a b c does does',
    omega (arith, few, few', le, length-append recs rest),
  )
