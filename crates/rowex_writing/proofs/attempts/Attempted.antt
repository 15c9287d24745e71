-- The steps of an attempt: a search, and what comes after it.
use Rattle.rowex_writing.proofs.Common.{◌≡◌, inl, inr, Bool, true, ℕ, zero, suc, ◌+◌, ◌-◌, ◌*◌, ◌<◌, ◌≤◌, List, [], ◌∷◌, ◌++◌, length, refl, sym, ap, subst, ◌∙◌, arith, ◌≢◌, All, ⊤, All-append, All-cons, All-head, All-tail, All-weaker, Layout, Act, LoadFixed, LoadRef, Lock, Event, Root, Slot, Value, Runs, TableView, SeatView, runs_append, HasSearched, IsBelowRoot, Reads, entries_in, looks_count, runs_count, HEAD_WORDS, Known, IsLater, later_trans, Rec}
use Rattle.std.specs.Prelude.{IfErr, Result, Ok, Err}
use Rattle.rowex_writing.specs.attempts.Attempts.{AreAttemptSteps, HasAttempted, IsOfSearch, HasFailed, refusal_of}
use Rattle.rowex_writing.proofs.locks.Onward.{reads_run}
use Rattle.rowex_writing.proofs.locks.Runs.{once_run, run_once, goes_run, runs_trans}
use Rattle.rowex_writing.specs.plan.Counts.{attempt_steps, change_steps, most_locks, most_nodes, most_steps, rest_steps, search_steps, span_steps}
use Rattle.rowex_writing.specs.locks.Locks.{IsOfAttempt, TriesNodesBy, locks_of, span_numbers, targets_of, HasRun, HasTriedOnce}
use Rattle.rowex_writing.specs.merging.Merging.{EndsChange}
use Rattle.rowex_writing.specs.declared.plan.job.Job.{Job}
use Rattle.rowex_writing.proofs.locks.Spans.{numbers_few}
use Rattle.rowex_writing.proofs.locks.Tried.{once_after, targets_append, nodes_then}
use Rattle.rowex_writing.proofs.store.Values.{job_later}
use Rattle.rowex_writing.specs.declared.attempts.TryFault.{TryFault}
use Rattle.rowex_writing.specs.declared.attempts.TryFault.TheVariants.{Busy, FullNodes, FullLeaves}
use Rattle.rowex_writing.specs.locks.Going.{WorksOnKeepingRecords}
use Rattle.rowex_writing.specs.build.Changes.{HasNoRoom}
use Rattle.rowex_writing.specs.declared.plan.Full.{Full}
use Rattle.rowex_writing.specs.declared.plan.Full.TheVariants.{Nodes, Leaves}

below_search : (act : Act) → IsBelowRoot act → IsOfSearch act
below_search (LoadRef Root w) t = tt
below_search (LoadRef (Slot n i) w) t = t
below_search (LoadRef (Value l) w) t = t
below_search _ t = t

search_pin : (act : Act) → IsOfSearch act → IsOfAttempt act
search_pin (LoadRef spot w) t = tt
search_pin (LoadFixed r offset w) t = tt
search_pin _ t = absurd t

search_targets : (acts : List Act) → All IsOfSearch acts → targets_of acts ≡ []
search_targets [] all = refl
search_targets (Lock target found ∷ acts) all = absurd (All-head IsOfSearch (Lock target found) acts all)
search_targets (act ∷ acts) all = search_targets acts (All-tail IsOfSearch act acts all)

-- ---- what follows the search
pub rest_few : (k j : ℕ) (layout : Layout) (locks : ℕ) → 0 < locks → j ≤ k + span_steps locks + change_steps layout locks → j ≤ k + rest_steps layout locks
rest_few k j layout zero some few = absurd (omega (arith, some))
rest_few k j layout (suc others) some few = omega (arith, few)

rest_most : (layout : Layout) (locks : ℕ) → locks ≤ most_locks → rest_steps layout locks ≤ rest_steps layout most_locks
rest_most layout zero most = omega arith
rest_most layout (suc others) most = omega (arith, most)

-- ---- an attempt
module _ {G : Type 0} (table : TableView) (becomes : G → Event → G → Type 0) (a m b : SeatView × G) (searched : HasSearched table becomes a m) {locks : ℕ}
    (tried : HasTriedOnce table becomes locks m b) (most : locks ≤ most_locks) (few : b.0.known.steps ≤ m.0.known.steps + rest_steps table.layout locks) where
  abbrev search : List Act
  search = LoadRef Root searched.looks.root.0 ∷ searched.looks.rest.acts

  abbrev rest : List Act
  rest = tried.1.acts

  runs : Runs table becomes (search ++ rest) a b
  runs =
      let first : Runs table becomes search a m = (searched.looks.at, searched.looks.root.1, searched.looks.rest.steps) in runs_append table becomes search rest a m b first tried.1.steps

  searches : All IsOfSearch search
  searches = All-cons IsOfSearch (LoadRef Root searched.looks.root.0) searched.looks.rest.acts tt (All-weaker IsBelowRoot IsOfSearch below_search searched.looks.rest.acts searched.looks.rest.below)

  nodes_are : entries_in search ≡ searched.nodes
  nodes_are = searched.looks.rest.entries_are

  none : targets_of search ≡ []
  none = search_targets search searches

  targets_are : length (targets_of (search ++ rest)) ≡ locks
  targets_are = ap length (targets_append search rest ∙ (ap (λ z. z ++ targets_of rest) none ∙ tried.1.tried_are)) ∙ tried.3

  count : length (search ++ rest) + a.0.known.steps ≤ 33 + 26 * searched.nodes + rest_steps table.layout locks + a.0.known.steps
  count =
      let all = runs_count table becomes (search ++ rest) a b runs in
      let looked = looks_count table becomes searched.nodes searched.loaded a m searched.looks in
      omega (arith, all, looked, searched.few, few)

  steps_are : AreAttemptSteps table.layout (search ++ rest)
  steps_are = record {
    search = search;
    rest = rest;
    acts_are = refl;
    searches = searches;
    pinned = All-append IsOfAttempt search rest (All-weaker IsOfSearch IsOfAttempt search_pin search searches) tried.1.each;
    once = once_after search rest none tried.2;
    depth = omega (arith, nodes_are, searched.low);
    locks = omega (arith, targets_are, most);
    few = subst (λ n. length (search ++ rest) ≤ attempt_steps table.layout (entries_in search) n) (sym targets_are) (omega (arith, nodes_are, count));
  }

  pub attempted : HasAttempted table becomes a b
  attempted = (search ++ rest, steps_are, runs)

  -- so many at most for any attempt
  pub attempted_few : b.0.known.steps ≤ a.0.known.steps + most_steps table.layout
  attempted_few =
      let looked = looks_count table becomes searched.nodes searched.loaded a m searched.looks in
      omega (arith, looked, searched.few, searched.low, few, rest_most table.layout locks most)

-- ---- a search alone
pub searched_few : {G : Type 0} (table : TableView) (becomes : G → Event → G → Type 0) (a m : SeatView × G) → HasSearched table becomes a m → m.0.known.steps ≤ a.0.known.steps + search_steps most_nodes
searched_few table becomes a m searched =
    let looked = looks_count table becomes searched.nodes searched.loaded a m searched.looks in omega (arith, looked, searched.few, searched.low)

-- ---- a change that was tried
-- locks that were all taken, and the change under them
pub changed_run : {G : Type 0} (table : TableView) (becomes : G → Event → G → Type 0) (a m b : SeatView × G) (taken : Bool) (all : ℕ) → ((locks : ℕ) × HasTriedOnce table becomes locks a m ×
    (0 < locks) × (locks ≤ all) × (taken ≡ true → locks ≡ all) × (m.0.known.steps ≤ a.0.known.steps + 3 * locks + 1)) → taken ≡ true → all ≤ most_locks → HasRun table becomes m b →
    b.0.known.steps ≤ m.0.known.steps + change_steps table.layout all →
    (locks : ℕ) × HasTriedOnce table becomes locks a b × (0 < locks) × (locks ≤ most_locks) × (b.0.known.steps + HEAD_WORDS ≤ a.0.known.steps + span_steps locks + change_steps table.layout locks)
changed_run table becomes a m b taken all (locks, tried, some, upto, each, few) is most run spent =
    let whole = each is in (locks, once_run table becomes a m b tried run, some, omega (arith, upto, most), omega (arith, whole, few, spent))

-- or a change that tries more of them
pub ended_run : {G : Type 0} (table : TableView) (becomes : G → Event → G → Type 0) (job : Job) (a m b : SeatView × G) (taken : Bool) → ((locks : ℕ) × HasTriedOnce table becomes locks a m ×
    (0 < locks) × (locks ≤ locks_of job.span) × (taken ≡ true → locks ≡ locks_of job.span) × (m.0.known.steps ≤ a.0.known.steps + 3 * locks + 1)) →
    (0 < job.span.end → TriesNodesBy IsOfAttempt table becomes (span_numbers job.way.now job.span) a m × (m.0.known.steps ≤ a.0.known.steps + 3 * locks_of job.span + 1)) → taken ≡ true →
    (job.span.end ≤ job.span.len) × (job.span.len ≤ length job.way.now) → length job.way.now ≤ most_nodes → EndsChange table becomes job 0 m b →
    (locks : ℕ) × HasTriedOnce table becomes locks a b × (0 < locks) × (locks ≤ most_locks) × (b.0.known.steps + HEAD_WORDS ≤ a.0.known.steps + span_steps locks + change_steps table.layout locks)
ended_run table becomes job a m b taken took nodes is within depth (inl (run, few)) = changed_run table becomes a m b taken (locks_of job.span) took is (omega (arith, within.1, depth)) run (omega (arith, few))
ended_run table becomes job a m b taken took nodes is within depth (inr (some, last, ends)) =
    let (tried, spent) = nodes some in
    let (locks, all, least, upto, few) = ends a tried in
    let count = numbers_few job.way.now (job.span.end - 1) job.span.len (omega (arith, within.0)) within.1 in
    (locks, all, omega (arith, least, count, some, last), omega (arith, upto, count, some, last), omega (arith, few, spent, least, count, some, last))

-- after a search and a plan
pub tried_after : {G : Type 0} (table : TableView) (becomes : G → Event → G → Type 0) (e n : ℕ) (a m p b : SeatView × G) → HasSearched table becomes a m → Reads table becomes e n m p → p.0.known.steps ≤ m.0.known.steps + HEAD_WORDS →
    ((locks : ℕ) × HasTriedOnce table becomes locks p b × (0 < locks) × (locks ≤ most_locks) × (b.0.known.steps + HEAD_WORDS ≤ p.0.known.steps + span_steps locks + change_steps table.layout locks)) →
    HasAttempted table becomes a b × (b.0.known.steps ≤ a.0.known.steps + most_steps table.layout)
tried_after table becomes e n a m p b searched reads planned (locks, tried, some, most, few) =
    let whole = run_once table becomes m p b (reads_run table becomes e n m p reads) tried in
    let low = rest_few m.0.known.steps b.0.known.steps table.layout locks some (omega (arith, few, planned)) in
    (attempted table becomes a m b searched whole most low, attempted_few table becomes a m b searched whole most low)

-- a failure since an earlier version
module _ (layout : Layout) (few many : List ℕ) (job : Job) (a b c : Known) (made : List Rec) (later : IsLater a b) where
  failed_since : (fault : TryFault) → fault ≡ Busy → HasFailed layout few job b c made fault → HasFailed layout many job a c made fault
  failed_since Busy is (rest, after, moved) = (rest, later_trans later after, λ m from. moved m (job_later layout a b m job later from))
  failed_since FullNodes is failed = absurd (cc)
  failed_since FullLeaves is failed = absurd (cc)

  pub failed_before : (r : Result ⊤ TryFault) → IfErr r (λ fault. (fault ≡ Busy) × HasFailed layout few job b c made fault) → IfErr r (HasFailed layout many job a c made)
  failed_before (Ok x) h = tt
  failed_before (Err fault) h = failed_since fault h.0 h.1

  pub busy_since : (r : Result ⊤ TryFault) → IfErr r (λ fault. (fault ≡ Busy) × HasFailed layout few job b c made fault) → IfErr r (λ fault. (fault ≡ Busy) × HasFailed layout many job a c made fault)
  busy_since (Ok x) h = tt
  busy_since (Err fault) (is, h) = (is, failed_since fault is h)

pub busy_leafless : {X : Type 0} (r : Result X TryFault) (P : TryFault → Type 0) → IfErr r (λ fault. (fault ≡ Busy) × P fault) → r ≢ Err FullLeaves
busy_leafless (Ok x) P h = λ e. cc
busy_leafless (Err Busy) P h = λ e. cc
busy_leafless (Err FullNodes) P h = λ e. cc
busy_leafless (Err FullLeaves) P h = absurd (let z = h.0 in cc)

pub busy_roomy : {X : Type 0} (r : Result X TryFault) (P : TryFault → Type 0) → IfErr r (λ fault. (fault ≡ Busy) × P fault) → r ≢ Err FullNodes
busy_roomy (Ok x) P h = λ e. cc
busy_roomy (Err Busy) P h = λ e. cc
busy_roomy (Err FullNodes) P h = absurd (let z = h.0 in cc)
busy_roomy (Err FullLeaves) P h = λ e. cc

-- the load before it has room
pub ends_after : {G : Type 0} (table : TableView) (becomes : G → Event → G → Type 0) (job : Job) (room : ℕ) (m b c : SeatView × G) → WorksOnKeepingRecords table becomes m b → b.0.known.steps ≤ m.0.known.steps + room →
    EndsChange table becomes job room b c → EndsChange table becomes job 0 m c
ends_after table becomes job room m b c reads few (inl (run, count)) =
    inl (runs_trans table becomes m b c (goes_run table becomes m b reads.goes) run, omega (arith, few, count))
ends_after table becomes job room m b c reads few (inr (some, last, changes)) =
    inr (
      some,
      last,
      λ a tries.
          let (locks, once, least, most, count) = changes a (nodes_then table becomes (span_numbers job.way.now job.span) a m b tries (goes_run table becomes m b reads.goes)) in
          (locks, once, least, most, omega (arith, few, count)),
    )

-- no record was free
pub full_failed : (layout : Layout) (bounds : List ℕ) (job : Job) (k j : Known) (made : List Rec) (full : Full) → HasNoRoom layout bounds job.key.now k j made full → HasFailed layout bounds job k j made (refusal_of full)
full_failed layout bounds job k j made Nodes none = none
full_failed layout bounds job k j made Leaves none = none
