-- A round of collection leaves a settled pass settled.
use Rattle.hot_index_calls.proofs.Common.{◌≡◌, ℕ, zero, suc, inl, inr, refl, ◌+◌, ◌*◌, ◌<◌, ◌≤◌, List, [], ◌∷◌, ◌++◌, length, nat_lt, true, false, Bool, if◌then◌else◌, None, sym, ap, subst, ◌∙◌, arith, length-append, append-nil, EPOCHS, Rec, a_node, a_leaf, Act, Advance, LoadEpoch, Event, Known, Does, InTurn, TableView, SeatView, LegalCalls, BeginsWith, IsRound, IsSmallRound, LoadsPin, VisitEach, Visits, advance_steps, collecting, Full}
use Rattle.hot_index_calls.specs.Answers.{IsUnnoted}
use Rattle.hot_index_calls.specs.Asked.{IsIdle}
use Rattle.hot_index_calls.specs.Counts.{round_steps, visiting_steps}
use Rattle.epochs.proofs.Rounds.{committed_few, committed_rise, few_visits}
use Rattle.epochs.specs.Rounds.{committed_records}
use Rattle.record_words.specs.Layout.{uncommitted_in}
use Rattle.hot_index_calls.specs.Passes.{AreByPasses, IsSettled, pass_of}
use Rattle.hot_index_calls.specs.Traces.{AreSmallSteps, AreStepsBetween, Collects, CollectsNone, GiveNoneBetween, of_kind}
use Rattle.hot_index_calls.proofs.Noting.{event_makers}

-- how many steps the parts of a round have
parts_count : (first next : Act) (begin pins nodes leaves : List Act) → length (first ∷ begin ++ next ∷ pins ++ nodes ++ leaves) ≡ 2 + length begin + length pins + length nodes + length leaves
parts_count first next begin pins nodes leaves =
    length-append (first ∷ begin ++ next ∷ pins ++ nodes) leaves ∙ ap (λ n. n + length leaves)
    (length-append (first ∷ begin ++ next ∷ pins) nodes ∙ ap (λ n. n + length nodes) (length-append (first ∷ begin) (next ∷ pins))) ∙
    omega arith

advance_few : (epoch found : ℕ) → length (advance_steps epoch found) ≤ 1
advance_few epoch found = cases (nat_lt (epoch + 1) EPOCHS)
  where
    cases : (t : Bool) → length (if t then Advance epoch found ∷ [] else []) ≤ 1
    cases true = omega arith
    cases false = omega arith

pins_few : (n : ℕ) (acts : List Act) → InTurn LoadsPin n acts → length acts ≤ n
pins_few zero acts none = let z : length acts ≡ 0 = ap (λ (l : List Act). length l) none in omega (arith, z)
pins_few (suc n) acts (before, last, first, (word, is), all) =
    let z : length acts ≡ length (before ++ last) = ap (λ (l : List Act). length l) all in
    let one : length last ≡ 1 = ap (λ (l : List Act). length l) is in
    omega (arith, z, one, length-append before last, pins_few n before first)

visit_few : (bound : ℕ) (r : Rec) (acts : List Act) → Visits bound r acts → length acts ≤ 2
visit_few bound r _ (Visits.passes word not) = omega arith
visit_few bound r _ (Visits.tries epoch found low below) = omega arith

each_few : (bound : ℕ) (recs : List Rec) (acts : List Act) → VisitEach bound recs acts → length acts ≤ 2 * length recs
each_few bound [] acts none = let z : length acts ≡ 0 = ap (λ (l : List Act). length l) none in omega (arith, z)
each_few bound (r ∷ recs) acts (first, rest, visit, visits, all) =
    let z : length acts ≡ length (first ++ rest) = ap (λ (l : List Act). length l) all in
    omega (arith, z, length-append first rest, visit_few bound r first visit, each_few bound recs rest visits)

-- Steps of a round, of which there is a first
module _ {G : Type 0} {table : TableView} {becomes : G → Event → G → Type 0} {first : Act} {acts : List Act} {a b : SeatView × G} (does : Does table becomes collecting (first ∷ acts) a b) where
  -- of what the pass knows its pin, its round, its steps and those that failed alone have changed
  pub does_settled : b.0.known.pin ≡ None → IsSettled a.0.known → IsSettled b.0.known
  does_settled free s = record {
    own = ap (λ (z : Known). z.own) does.rest ∙ s.own;
    locks = ap (λ (z : Known). z.locks) does.rest ∙ s.locks;
    anchor = ap (λ (z : Known). z.anchor) does.rest ∙ s.anchor;
    pin = free;
    fresh = subst (λ (z : Known). BeginsWith z.front z.fresh.front) (sym does.rest) s.fresh;
    loaded = subst (λ (z : Known). z.fresh.step < z.steps) (sym does.rest) (let l = s.loaded in omega arith);
    legal = subst (λ (z : Known). LegalCalls z.front z.pass z.notes) (sym does.rest) s.legal;
  }

  pub does_idle : b.0.known.pin ≡ None → IsIdle table a.0 → IsIdle table b.0
  does_idle free idle = (does.seat.0 ∙ idle.0, does_settled free idle.1)

  -- before the first step the pass's front is of a lawful core
  makers : AreByPasses table.layout a.0.known.front
  makers = event_makers does.steps.1.event

  pub does_unnoted : IsSettled a.0.known → IsUnnoted table.layout (pass_of a.0) (pass_of b.0)
  does_unnoted s = record {
    number = ap (λ (z : Known). z.pass) does.rest;
    front = subst (λ (z : Known). BeginsWith z.front a.0.known.front) (sym does.rest) ([], sym (append-nil a.0.known.front));
    notes = ap (λ (z : Known). z.notes) does.rest;
    legal = subst (λ (z : Known). LegalCalls z.front z.pass z.notes) (sym does.rest) s.legal;
    makers = subst (λ (z : Known). AreByPasses table.layout z.front) (sym does.rest) makers;
  }

module _ {G : Type 0} {table : TableView} {becomes : G → Event → G → Type 0} {a b : SeatView × G} {nodes leaves : ℕ} (r : IsRound table becomes a b nodes leaves) where
  pub round_settled : b.0.known.pin ≡ None → IsSettled a.0.known → IsSettled b.0.known
  round_settled = does_settled r.does

  pub round_unnoted : IsSettled a.0.known → IsUnnoted table.layout (pass_of a.0) (pass_of b.0)
  round_unnoted = does_unnoted r.does

  -- the epoch twice and its exchange, each pin, and each record that is committed by what the pass knows then, in at most two steps
  pub round_few : b.0.known.steps ≤ a.0.known.steps + visiting_steps table.layout (committed_records table.layout (uncommitted_in b.0.bounds))
  round_few =
      let count : b.0.known.steps ≡ a.0.known.steps + (2 + length (advance_steps r.epoch r.found) + length r.pins + length r.nodes + length r.leaves) =
      ap (λ (z : Known). z.steps) r.does.rest ∙ ap (λ n. a.0.known.steps + n) (parts_count (LoadEpoch r.epoch) (LoadEpoch r.next) (advance_steps r.epoch r.found) r.pins r.nodes r.leaves) in
      omega (
        arith,
        count,
        advance_few r.epoch r.found,
        pins_few table.layout.passes r.pins r.loads_pins,
        few_visits table.layout r.uncommitted b.0.known.round.bound a_node table.layout.nodes r.nodes r.visits_nodes,
        few_visits table.layout r.uncommitted b.0.known.round.bound a_leaf table.layout.leaves r.leaves r.visits_leaves,
        committed_rise table.layout (uncommitted_in b.0.bounds) r.uncommitted a_node table.layout.nodes r.least,
        committed_rise table.layout (uncommitted_in b.0.bounds) r.uncommitted a_leaf table.layout.leaves r.least,
      )

  -- that is no more than of all records
  pub round_most : b.0.known.steps ≤ a.0.known.steps + round_steps table.layout
  round_most =
      omega (arith, round_few, committed_few table.layout (uncommitted_in b.0.bounds) a_node table.layout.nodes, committed_few table.layout (uncommitted_in b.0.bounds) a_leaf table.layout.leaves)

module _ {G : Type 0} {table : TableView} {becomes : G → Event → G → Type 0} {most : ℕ} {a b : SeatView × G} (r : IsSmallRound table becomes most a b) where
  pub small_unnoted : IsSettled a.0.known → IsUnnoted table.layout (pass_of a.0) (pass_of b.0)
  small_unnoted = does_unnoted r.does

  pub small_later : a.0.known.steps ≤ b.0.known.steps
  small_later = let s = ap (λ (z : Known). z.steps) r.does.rest in omega arith

  -- the epoch twice and its exchange, each pin, and each record that is visited in at most two steps
  pub small_few : b.0.known.steps ≤ a.0.known.steps + (3 + table.layout.passes + 2 * most)
  small_few =
      let count : b.0.known.steps ≡ a.0.known.steps + (2 + length (advance_steps r.epoch r.found) + length r.pins + length r.visits + 0) =
      ap (λ (z : Known). z.steps) r.does.rest ∙ ap (λ n. a.0.known.steps + n) (ap (λ (l : List Act). length l) (sym (append-nil (LoadEpoch r.epoch ∷ advance_steps r.epoch r.found ++ LoadEpoch r.next ∷ r.pins ++ r.visits)))
      ∙ parts_count (LoadEpoch r.epoch) (LoadEpoch r.next) (advance_steps r.epoch r.found) r.pins r.visits []) in
      omega (
        arith,
        count,
        advance_few r.epoch r.found,
        pins_few table.layout.passes r.pins r.loads_pins,
        each_few b.0.known.round.bound r.recs r.visits r.visits_each,
        r.few,
      )

-- The steps of a small round.
pub small_steps_of : {G : Type 0} {table : TableView} {becomes : G → Event → G → Type 0} {most : ℕ} {a b : SeatView × G} (r : IsSmallRound table becomes most a b) →
    AreSmallSteps table.layout most (LoadEpoch r.epoch ∷ advance_steps r.epoch r.found ++ LoadEpoch r.next ∷ r.pins ++ r.visits)
small_steps_of {b = b} r = record {
  epoch = r.epoch;
  found = r.found;
  next = r.next;
  bound = b.0.known.round.bound;
  pins = r.pins;
  recs = r.recs;
  visits = r.visits;
  acts_are = refl;
  loads_pins = r.loads_pins;
  visits_each = r.visits_each;
  few = r.few;
}

-- A round, whole or spared, as steps of which there is a first.
pub record AreBetween {G : Type 0} (table : TableView) (becomes : G → Event → G → Type 0) (a b : SeatView × G) : Type 0 where
  pub first : Act
  pub rest : List Act
  pub does : Does table becomes collecting (first ∷ rest) a b
  pub few : b.0.known.steps ≤ a.0.known.steps + round_steps table.layout
  pub are : AreStepsBetween table.layout (uncommitted_in a.0.bounds) (first ∷ rest)

pub between : {G : Type 0} {table : TableView} {becomes : G → Event → G → Type 0} {a b : SeatView × G} → Collects table becomes a b → AreBetween table becomes a b
between {b = b} (inl (nodes, leaves, r)) = record {
  first = LoadEpoch r.epoch;
  rest = advance_steps r.epoch r.found ++ LoadEpoch r.next ∷ r.pins ++ r.nodes ++ r.leaves;
  does = r.does;
  few = round_most r;
  are = inl (record {
    epoch = r.epoch;
    found = r.found;
    next = r.next;
    bound = b.0.known.round.bound;
    uncommitted = r.uncommitted;
    pins = r.pins;
    nodes = r.nodes;
    leaves = r.leaves;
    acts_are = refl;
    few = r.few;
    loads_pins = r.loads_pins;
    visits_nodes = r.visits_nodes;
    visits_leaves = r.visits_leaves;
  });
}
between (inr (several, r)) = record {
  first = LoadEpoch r.epoch;
  rest = advance_steps r.epoch r.found ++ LoadEpoch r.next ∷ r.pins ++ r.visits;
  does = r.does;
  few = (let few = small_few r in omega (arith, few));
  are = inr (several, small_steps_of r);
}

-- so, and it gives back no record of this kind
none_of_kind : (kind : Full) (n l m k : ℕ) → n ≡ m → l ≡ k → of_kind kind n l ≡ 0 → of_kind kind m k ≡ 0
none_of_kind kind n l m k nodes leaves none = subst (λ z. of_kind kind z k ≡ 0) nodes (subst (λ z. of_kind kind n z ≡ 0) leaves none)

pub none_between : {G : Type 0} {table : TableView} {becomes : G → Event → G → Type 0} {a b : SeatView × G} (kind : Full) → CollectsNone table becomes kind a b →
    (round : AreBetween table becomes a b) × GiveNoneBetween table.layout (uncommitted_in a.0.bounds) kind (round.first ∷ round.rest)
unfolding between
none_between {b = b} kind (inl (nodes, leaves, r, none)) = (
  between (inl (nodes, leaves, r)),
  inl (
    record {
      epoch = r.epoch;
      found = r.found;
      next = r.next;
      bound = b.0.known.round.bound;
      uncommitted = r.uncommitted;
      pins = r.pins;
      nodes = r.nodes;
      leaves = r.leaves;
      acts_are = refl;
      few = r.few;
      loads_pins = r.loads_pins;
      visits_nodes = r.visits_nodes;
      visits_leaves = r.visits_leaves;
    },
    none_of_kind kind nodes leaves _ _ r.nodes_given r.leaves_given none,
  ),
)
none_between kind (inr (several, r)) = (between (inr (several, r)), inr (several, small_steps_of r))
