-- A round of its parts.
pub mod Bounding
use Rattle.epochs.proofs.Common.{◌≢◌, Bool, true, false, if◌then◌else◌, nat_lt, count_by, length-append, lt-ltb, le-ltb, cases_lt, Layout, zero, suc, inl, inr, List, [], arith, length, ◌+◌, ◌<◌, ◌≤◌, ⊎_elim, Free, Act, Known, Rec, ◌≡◌, ℕ, ◌∷◌, ◌++◌, refl, sym, ap, subst, ◌∙◌, a_node, a_leaf, Round, LoadEpoch, Event, Does, InTurn, TableView, SeatView}
use Rattle.std.proofs.lemmas.List.{append_assoc}
use Rattle.std.proofs.lemmas.List.Sums.{sum_by_push}
use Rattle.std.specs.List.{range_with_len}
use Rattle.std.specs.Prelude.{◌*◌}
use Rattle.record_words.specs.Layout.{uncommitted_in}
use Rattle.rowex_table.proofs.Committed.{all_committed, at_most_trans, never_taken, taken_begin}
use Rattle.rowex_table.proofs.Committed.Chains.{runs_then_bounds}
use Rattle.rowex_table.proofs.Runs.{runs_append, runs_same}
use Rattle.rowex_table.proofs.Runs.Linking.{steps_are_in_one_run}
use Rattle.rowex_table.specs.Committed.{AtMost, IsCommitted, TakenAreCommitted, count_from, record_kind}
use Rattle.rowex_table.specs.Runs.{Runs}
use Rattle.rowex_table.specs.Seats.{HasFoundBounds}
use Rattle.rowex_table.specs.Traces.{RunBeginsWith}
use Rattle.epochs.specs.Rounds.{VisitsCommitted, committed_below, count_of_kind, Visits, VisitEach, advance_steps, BeginsRound, HasBound, VisitsSome, VisitsTable, IsRound, IsSmallRound, IsSparedRound}
use Rattle.epochs.specs.Statements.{CommittedAreVisited}
use Rattle.rowex_core.specs.Cores.{HasRecord}
use Rattle.epochs.specs.Runs.{collecting, paced}
use Rattle.epochs.proofs.Runs.{does_append, collects, collects_append}
use Rattle.epochs.proofs.collection.Visiting.{few_found, least_found, one_most, some_none, taken_found}

-- the first steps of each round
begins : {G : Type 0} (table : TableView) (becomes : G → Event → G → Type 0) (a c : SeatView × G) (h : BeginsRound table becomes a c) →
    Does table becomes collecting (LoadEpoch h.1.0 ∷ advance_steps h.1.0 h.1.1 ++ LoadEpoch h.2.0 ∷ h.2.1) a c
begins table becomes a c (b, advances, finds) =
    let first = LoadEpoch advances.0 ∷ advance_steps advances.0 advances.1 in
    let second = LoadEpoch finds.0 ∷ finds.1 in
    collects table becomes (first ++ second) a c (does_append table becomes first second a b c advances.2 finds.3)

-- Bounds that are found right after its begin are found in it.
then_bounds : {G : Type 0} (table : TableView) (becomes : G → Event → G → Type 0) (changed : Known → Known → Known) (act : Act) (acts : List Act) (a : SeatView × G) (s t : SeatView) (g : G) →
    Does table becomes changed (act ∷ acts) a (s, g) → HasFoundBounds s t → Does table becomes changed (act ∷ acts) a (t, g)
then_bounds table becomes changed act acts a s t g does found = record {
  seat = runs_same table becomes (act ∷ acts) a (t, g) steps;
  steps = steps;
  rest = subst (λ (z : Known). z ≡ record (changed a.0.known z) { steps = a.0.known.steps + length (act ∷ acts) }) (sym (ap (λ (z : SeatView). z.known) found.1)) does.rest;
}
  where
    steps : Runs table becomes (act ∷ acts) a (t, g)
    steps = runs_then_bounds table becomes act acts a s t g does.steps found

begins_then_bounds : {G : Type 0} (table : TableView) (becomes : G → Event → G → Type 0) (a : SeatView × G) (s t : SeatView) (g : G) → BeginsRound table becomes a (s, g) → HasFoundBounds s t → BeginsRound table becomes a (t, g)
begins_then_bounds table becomes a s t g (b, advances, (next, pins, loads, does)) found = (b, advances, (next, pins, loads, then_bounds table becomes paced (LoadEpoch next) pins b s t g does found))

-- What no step has taken that is known after steps was free when the first of them was made.
first_free : {G : Type 0} (table : TableView) (becomes : G → Event → G → Type 0) (act : Act) (acts : List Act) (a b : SeatView × G) (runs : Runs table becomes (act ∷ acts) a b) (r : Rec) (count : ℕ) →
    TakenAreCommitted table.layout b.0.trace (record_kind table.layout r) count → count_from table.layout r ≤ count → runs.1.event.core.fate r ≡ Free
first_free table becomes act acts a b runs r count committed beyond =
    let next = runs.1.next in
    let later = steps_are_in_one_run becomes table acts runs.0 b runs.2 in
    let event : Event = record { pass = a.0.known.pass; act = act } in
    let begins : RunBeginsWith b.0.trace next.before =
    ((event ∷ []) ++ later.steps, later.trace ∙ (ap (λ (l : List Event). l ++ later.steps) next.next_is ∙ append_assoc next.before (event ∷ []) later.steps)) in
    ⊎_elim (λ free. free) (λ taken. let low = committed r (taken_begin table.layout b.0.trace next.before r begins taken) refl in absurd (omega (arith, low, beyond)))
    (never_taken table.layout next.before runs.1.event.core r next.led)

-- Visits follow, and the first step stays the same.
then_visits : {G : Type 0} (table : TableView) (becomes : G → Event → G → Type 0) (act : Act) (begin nodes leaves : List Act) (a c d e : SeatView × G) → Does table becomes collecting (act ∷ begin) a c
    → Does table becomes collecting nodes c d → Does table becomes collecting leaves d e → Does table becomes collecting ((act ∷ begin ++ nodes) ++ leaves) a e
then_visits table becomes act begin nodes leaves a c d e first of_nodes of_leaves =
    let does = collects_append table becomes (act ∷ begin ++ nodes) leaves a d e (collects_append table becomes (act ∷ begin) nodes a c d first of_nodes) of_leaves in
    record {
      seat = does.seat;
      steps = (
        first.steps.0,
        first.steps.1,
        runs_append table becomes (begin ++ nodes) leaves first.steps.0 d e (runs_append table becomes begin nodes first.steps.0 c d first.steps.2 of_nodes.steps) of_leaves.steps,
      );
      rest = does.rest;
    }

pub round_of : {G : Type 0} (table : TableView) (becomes : G → Event → G → Type 0) (bound nodes leaves : ℕ) (a c e : SeatView × G) → BeginsRound table becomes a c
    → HasBound table.layout.passes bound c.0.known → VisitsTable table becomes bound nodes leaves c e → e.0.known.round ≡ c.0.known.round → IsRound table becomes a e nodes leaves
unfolding then_visits
round_of table becomes bound nodes leaves a c e begun has visits same =
    let loads = visits.loads in
    let s : SeatView × _ = (visits.begun, c.1) in
    let h = begins_then_bounds table becomes a c.0 visits.begun c.1 begun loads.found in
    let of_nodes = visits.nodes in
    let of_leaves = visits.leaves in
    let d = visits.middle in
    let is : bound ≡ e.0.known.round.bound = sym (ap (λ (z : Round). z.bound) same ∙ has.least) in
    let does = begins table becomes a s h in
    let uncommitted = count_of_kind visits.counts in
    record {
      epoch = h.1.0;
      found = h.1.1;
      next = h.2.0;
      uncommitted = uncommitted;
      pins = h.2.1;
      nodes = of_nodes.0;
      leaves = of_leaves.0;
      does = then_visits table becomes (LoadEpoch h.1.0) (advance_steps h.1.0 h.1.1 ++ LoadEpoch h.2.0 ∷ h.2.1) of_nodes.0 of_leaves.0 a s d e does of_nodes.2 of_leaves.2;
      few = at_most_trans uncommitted (uncommitted_in c.0.bounds) (uncommitted_in a.0.bounds) (few_found table.layout visits.counts c.0 visits.begun loads) (begins table becomes a c begun).seat.4;
      least = at_most_trans (uncommitted_in e.0.bounds) (uncommitted_in visits.begun.bounds) uncommitted
          (at_most_trans (uncommitted_in e.0.bounds) (uncommitted_in d.0.bounds) (uncommitted_in visits.begun.bounds) of_leaves.2.seat.4 of_nodes.2.seat.4) (least_found table.layout visits.counts c.0 visits.begun loads);
      rest = λ r beyond. first_free table becomes (LoadEpoch h.1.0) _ a s does.steps r (uncommitted (record_kind table.layout r)) (taken_found table.layout visits.counts c.0 visits.begun loads r) beyond;
      loads_pins = h.2.2;
      visits_nodes = subst (λ m. InTurn (λ n. VisitsCommitted table.layout uncommitted m (a_node n)) table.layout.nodes of_nodes.0) is of_nodes.1;
      visits_leaves = subst (λ m. InTurn (λ n. VisitsCommitted table.layout uncommitted m (a_leaf n)) table.layout.leaves of_leaves.0) is of_leaves.1;
      nodes_given = of_nodes.3;
      leaves_given = of_leaves.3;
    }

-- How many records are committed

range_more : (from n : ℕ) → range_with_len from (suc n) ≡ range_with_len from n ++ (from + n) ∷ []
range_more from zero = let e : from ≡ from + 0 = omega arith in ap (λ z. z ∷ []) e
range_more from (suc n) = let e : from + 1 + n ≡ from + suc n = omega arith in ap (λ l. from ∷ l) (range_more (from + 1) n ∙ ap (λ z. range_with_len (from + 1) n ++ z ∷ []) e)

-- one number more
committed_more : (layout : Layout) (uncommitted : ℕ → ℕ) (kind : ℕ → Rec) (n : ℕ) → committed_below layout uncommitted kind (suc n) ≡
    committed_below layout uncommitted kind n + (if nat_lt (uncommitted (record_kind layout (kind n))) (count_from layout (kind n)) then 1 else 0)
committed_more layout uncommitted kind n =
    let is : ℕ → Bool = λ m. nat_lt (uncommitted (record_kind layout (kind m))) (count_from layout (kind m)) in
    let f : ℕ → ℕ = λ m. if is m then 1 else 0 in
    let e : 0 + n ≡ n = omega arith in
    ap (λ l. count_by is l) (range_more 0 n) ∙ (sum_by_push f (range_with_len 0 n) (0 + n) ∙ ap (λ m. count_by is (range_with_len 0 n) + f m) e)

-- no more than there are
pub committed_few : (layout : Layout) (uncommitted : ℕ → ℕ) (kind : ℕ → Rec) (n : ℕ) → committed_below layout uncommitted kind n ≤ n
committed_few layout uncommitted kind zero = omega arith
committed_few layout uncommitted kind (suc n) =
    let before = committed_few layout uncommitted kind n in
    let more = committed_more layout uncommitted kind n in
    omega (arith, before, more, one_most (nat_lt (uncommitted (record_kind layout (kind n))) (count_from layout (kind n))))

-- and the more the fewer are uncommitted
pub committed_rise : (layout : Layout) (less more : ℕ → ℕ) (kind : ℕ → Rec) (n : ℕ) → AtMost less more → committed_below layout more kind n ≤ committed_below layout less kind n
committed_rise layout less more kind zero at = omega arith
committed_rise layout less more kind (suc n) at =
    let before = committed_rise layout less more kind n at in
    let first = committed_more layout less kind n in
    let second = committed_more layout more kind n in
    let this : (if nat_lt (more k) m then 1 else 0) ≤ (if nat_lt (less k) m then 1 else 0) = ⊎_elim
    (λ (low : more k < m). rw (lt-ltb (more k) m low) (rw (lt-ltb (less k) m (let l = at k in omega (arith, l, low))) (omega arith)))
    (λ (high : m ≤ more k). rw (le-ltb (more k) m high) (omega arith))
    (cases_lt (more k) m) in
    omega (arith, before, first, second, this)
  where
    k : ℕ
    k = record_kind layout (kind n)

    m : ℕ
    m = count_from layout (kind n)

-- What is true of the acts of a visit, and of none, is true of those of a visit of a record that may be uncommitted.
pub visit_or_none : (P : List Act → Type 0) (layout : Layout) (uncommitted : ℕ → ℕ) (bound : ℕ) (r : Rec) (acts : List Act) → P [] → (Visits bound r acts → P acts) → VisitsCommitted layout uncommitted bound r acts → P acts
visit_or_none P layout uncommitted bound r acts none some (inl visit) = some visit.1
visit_or_none P layout uncommitted bound r acts none some (inr past) = subst P (sym past.1) none

-- A committed record is visited.
pub visit_committed : (layout : Layout) (uncommitted : ℕ → ℕ) (bound : ℕ) (r : Rec) (acts : List Act) → IsCommitted layout uncommitted r → VisitsCommitted layout uncommitted bound r acts → Visits bound r acts
visit_committed layout uncommitted bound r acts committed (inl visit) = visit.1
visit_committed layout uncommitted bound r acts committed (inr past) = let beyond = past.0 in absurd (omega (arith, committed, beyond))

-- What wasn't free at a round's first step is committed.
pub taken_committed : {G : Type 0} (table : TableView) (becomes : G → Event → G → Type 0) (a b : SeatView × G) {nodes leaves : ℕ} (r : IsRound table becomes a b nodes leaves) (rec : Rec) →
    r.does.steps.1.event.core.fate rec ≢ Free → IsCommitted table.layout r.uncommitted rec
taken_committed table becomes a b r rec ne =
    ⊎_elim (λ low. low) (λ high. absurd (ne (r.rest rec high))) (cases_lt (r.uncommitted (record_kind table.layout rec)) (count_from table.layout rec))

-- Visits are two steps at most for each committed record.
few_acts : (bound : ℕ) (r : Rec) (acts : List Act) → Visits bound r acts → length acts ≤ 2
few_acts bound r _ (Visits.passes word not) = omega arith
few_acts bound r _ (Visits.tries epoch found low below) = omega arith

pub few_visits : (layout : Layout) (uncommitted : ℕ → ℕ) (bound : ℕ) (kind : ℕ → Rec) (n : ℕ) (acts : List Act) → InTurn (λ m. VisitsCommitted layout uncommitted bound (kind m)) n acts →
    length acts ≤ 2 * committed_below layout uncommitted kind n
few_visits layout uncommitted bound kind zero acts none = let z : length acts ≡ 0 = ap (λ (l : List Act). length l) none in omega (arith, z)
few_visits layout uncommitted bound kind (suc n) acts (before, last, first, visit, all) =
    let z : length acts ≡ length (before ++ last) = ap (λ (l : List Act). length l) all in
    let earlier = few_visits layout uncommitted bound kind n before first in
    let more = committed_more layout uncommitted kind n in
    omega (arith, z, length-append before last, earlier, more, one visit)
  where
    one : VisitsCommitted layout uncommitted bound (kind n) last → length last ≤ 2 * (if nat_lt (uncommitted (record_kind layout (kind n))) (count_from layout (kind n)) then 1 else 0)
    one (inl visit) = rw (lt-ltb (uncommitted (record_kind layout (kind n))) (count_from layout (kind n)) visit.0) (few_acts bound (kind n) last visit.1)
    one (inr past) = let none : length last ≡ 0 = ap (λ (l : List Act). length l) past.1 in omega (arith, none)

-- Where all records are committed each is visited.
pub visits_all : (layout : Layout) (uncommitted : ℕ → ℕ) (bound : ℕ) (kind : ℕ → Rec) (n : ℕ) (acts : List Act) → ((k : ℕ) → uncommitted k ≡ 0) → ((q : ℕ) → q < n → HasRecord layout (kind q)) →
    InTurn (λ m. VisitsCommitted layout uncommitted bound (kind m)) n acts → InTurn (λ m. Visits bound (kind m)) n acts
visits_all layout uncommitted bound kind zero acts none has all = all
visits_all layout uncommitted bound kind (suc n) acts none has (before, last, first, inl visit, is) =
    (before, last, visits_all layout uncommitted bound kind n before none (λ q low. has q (omega arith)) first, visit.1, is)
visits_all layout uncommitted bound kind (suc n) acts none has (before, last, first, inr past, is) =
    let committed = all_committed layout uncommitted (kind n) none (has n (omega arith)) in let beyond = past.0 in absurd (omega (arith, committed, beyond))

pub committed_are_visited : {G : Type 0} (becomes : G → Event → G → Type 0) → CommittedAreVisited becomes
committed_are_visited becomes table a b nodes leaves r all =
    let none : (k : ℕ) → r.uncommitted k ≡ 0 = λ k. (let few = r.few k in let zero = all k in omega (arith, few, zero)) in (
      visits_all table.layout r.uncommitted b.0.known.round.bound a_node table.layout.nodes r.nodes none (λ q low. low) r.visits_nodes,
      visits_all table.layout r.uncommitted b.0.known.round.bound a_leaf table.layout.leaves r.leaves none (λ q low. low) r.visits_leaves,
    )

-- and a small round of its parts
pub small_round_of : {G : Type 0} (table : TableView) (becomes : G → Event → G → Type 0) (bound most : ℕ) (a c d : SeatView × G) → BeginsRound table becomes a c
    → HasBound table.layout.passes bound c.0.known → VisitsSome table becomes bound most c d → d.0.known.round ≡ c.0.known.round → IsSmallRound table becomes most a d
small_round_of table becomes bound most a c d h has (recs, visits, each, does, few) same =
    let is : bound ≡ d.0.known.round.bound = sym (ap (λ (z : Round). z.bound) same ∙ has.least) in
    record {
      epoch = h.1.0;
      found = h.1.1;
      next = h.2.0;
      pins = h.2.1;
      recs = recs;
      visits = visits;
      does = collects_append table becomes (LoadEpoch h.1.0 ∷ advance_steps h.1.0 h.1.1 ++ LoadEpoch h.2.0 ∷ h.2.1) visits a c d (begins table becomes a c h) does;
      loads_pins = h.2.2;
      visits_each = subst (λ m. VisitEach m recs visits) is each;
      few = few;
    }

-- and one that is spared of its beginning alone
pub spared_of : {G : Type 0} (table : TableView) (becomes : G → Event → G → Type 0) (bound : ℕ) (a c : SeatView × G) → BeginsRound table becomes a c
    → HasBound table.layout.passes bound c.0.known → IsSparedRound table becomes a c
spared_of table becomes bound a c h has = small_round_of table becomes bound 0 a c c h has (some_none table becomes bound 0 c) refl
