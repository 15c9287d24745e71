-- A count of all records, after a try that found none free.
use Rattle.hot_index_calls.proofs.Common.{le_refl, ◌≡◌, ℕ, zero, suc, take, get_or, ◌+◌, ◌<◌, ◌≤◌, List, [], ◌∷◌, ◌++◌, length, Err, inl, inr, ⊎_elim, refl, sym, ap, subst, ◌∙◌, arith, Call, key_of, Layout, Rec, a_node, a_leaf, Act, Event, Failed, Fresh, Known, word_of, Does, Ends, Runs, silent, SeatView, TableView, runs_append, runs_one, collecting, HasMissedSince, IsAnothers, LacksLeaves, LacksNodes, Full, Nodes, Leaves, nodes_among, lacks_so, run_failed, HasMetTaken}
use Rattle.record_words.specs.Layout.{uncommitted_in}
use Rattle.rowex_table.specs.Seats.{HasAllCommitted}
use Rattle.rowex_writing.specs.attempts.Attempts.{bounds_for}
use Rattle.hot_index_calls.specs.Answers.{HasConflict, IsCause, IsOvertaken, fault_of}
use Rattle.hot_index_calls.specs.Asked.{HasLacked, HasReplied}
use Rattle.hot_index_calls.specs.Calls.{IsTriedAndCounted}
use Rattle.hot_index_calls.specs.Census.{CountsAll}
use Rattle.hot_index_calls.specs.Passes.{PassView, pass_of}
use Rattle.hot_index_calls.specs.Rooms.{IsEarly}
use Rattle.hot_index_calls.specs.Refusals.{AreAllAtRest, HasNodeLeft, IsPassing, IsShortOf, FollowsRefusal, IsRefusalByCounts, NeedsBeside, fault_in}
use Rattle.hot_index_calls.specs.Traces.{HasStepped}
use Rattle.hot_index_calls.specs.declared.census.RecordCounts.{RecordCounts}
use Rattle.hot_index_calls.specs.declared.refusals.Refusal.{Refusal}
use Rattle.hot_index_calls.specs.declared.refusals.Refusal.TheVariants.{Busy as IsBusy, HeldBack, Full as IsFull}
use Rattle.hot_index_calls.proofs.changing.Conflicts.{may_take_from_before, no_further}
use Rattle.hot_index_calls.proofs.Counted.{counts_settled, counts_unnoted, has_counted}
use Rattle.hot_index_calls.proofs.Traces.{HasSteps}
use Rattle.hot_index_calls.proofs.Counts.{unnoted_then}

-- ---- steps
module _ {G : Type 0} {table : TableView} {becomes : G → Event → G → Type 0} where
  -- steps that ended with no note, and more
  pub stepped_on : (acts more : List Act) (last : Act) (a m b : SeatView × G) → Ends table becomes acts last silent a m → Runs table becomes more m b → HasStepped table becomes silent a b
  stepped_on acts [] last a m b ends run = (acts, last, subst (λ (z : SeatView × G). Ends table becomes acts last silent a z) (sym run) ends)
  stepped_on acts (act ∷ more) last a m b (i, first, end) (n, step, rest) =
      stepped_on (acts ++ last ∷ []) more act a n b (m, runs_append table becomes acts (last ∷ []) a i m first (runs_one table becomes last i m end), step) rest

  -- a run, and one more that stepped
  pub stepped_then : (a b c : SeatView × G) → HasSteps table becomes a b → HasStepped table becomes silent b c → HasSteps table becomes a c
  stepped_then a b c (acts, run) (more, last, (m, rest, end)) =
      (acts ++ (more ++ last ∷ []), runs_append table becomes acts (more ++ last ∷ []) a b c run (runs_append table becomes more (last ∷ []) b m c rest (runs_one table becomes last m c end)))

  pub stepped_out : {said : Known → List _} (a b c : SeatView × G) → HasSteps table becomes a b → HasStepped table becomes said b c → HasStepped table becomes said a c
  stepped_out a b c (acts, run) (more, last, (m, rest, end)) = (acts ++ more, last, (m, runs_append table becomes acts more a b m run rest, end))

-- ---- what the try was refused for stays a cause
module _ {G : Type 0} {table : TableView} {becomes : G → Event → G → Type 0} {acts : List Act} (call : Call) (k : PassView) (b d : SeatView × G) (does : Does table becomes collecting acts b d) where
  same : d.0.known.pass ≡ b.0.known.pass
  same = ap (λ (z : Known). z.pass) does.rest

  missed_still : (Whose : Rec → _ → Type 0) (r : Rec) → HasMissedSince Whose b.0.known.failed r k.steps → HasMissedSince Whose d.0.known.failed r k.steps
  missed_still Whose r (step, late, (act, word, tells, one, has)) =
      let x : Failed = record { act = act; location = word_of r 0; word = word; step = step } in
      (step, late, (act, word, tells, one, run_failed table becomes acts b d does.steps x has))

  pub cause_counted : (fault : Full) → IsCause table.layout call k (pass_of b.0) (fault_of fault) → IsCause table.layout call k (pass_of d.0) (fault_of fault)
  cause_counted Nodes (own, l) = (
    own,
    subst (λ q. LacksNodes table.layout (bounds_for call k.seat.bounds) q d.0.known.failed k.steps own) (sym same)
        (lacks_so table.layout (bounds_for call k.seat.bounds) (bounds_for call k.seat.bounds) b.0.known.pass b.0.known.failed d.0.known.failed k.steps k.steps own (λ kind. le_refl (uncommitted_in (bounds_for call k.seat.bounds) kind)) l missed_still),
  )
  cause_counted Leaves all =
      subst (λ q. LacksLeaves table.layout k.seat.bounds (key_of call) q d.0.known.failed k.steps) (sym same) (λ q low room upto. missed_still (IsAnothers table.layout b.0.known.pass [] []) (a_leaf q) (all q low room upto))

-- ---- the call has ended with the count
module _ {G : Type 0} {table : TableView} {becomes : G → Event → G → Type 0} {counts : RecordCounts} {m b : SeatView × G} (all : CountsAll table becomes counts m b) (some : 1 ≤ table.layout.nodes)
    (pin : b.0.known.pin ≡ m.0.known.pin) (call : Call) (s : SeatView) (lacks : Full) (replied : HasReplied table call (Err (fault_of lacks)) s m.0) (early : s.known.steps ≤ m.0.known.steps) where
  pub counted_replied : HasReplied table call (Err (fault_of lacks)) s b.0
  counted_replied = record {
    idle = (all.4.seat.0 ∙ replied.idle.0, counts_settled all some (pin ∙ replied.idle.1.pin) replied.idle.1);
    noted = tt;
    refused = record {
      refused = record {
        unnoted = unnoted_then table.layout (pass_of s) (pass_of m.0) (pass_of b.0) replied.refused.refused.unnoted early (counts_unnoted all some replied.idle.1);
        full = λ full. may_take_from_before call (pass_of s) (pass_of s) (pass_of m.0) (pass_of b.0) (no_further refl)
            (no_further (ap (λ (z : Known). z.front) all.4.rest)) (ap (λ (z : Known). z.fresh) all.4.rest) (replied.refused.refused.full full);
      };
      cause = cause_counted call (pass_of s) m b all.4 lacks replied.refused.cause;
    };
    leafless = replied.leafless;
    loaded = subst (λ (z : Fresh). s.known.steps ≤ z.step) (sym (ap (λ (z : Known). z.fresh) all.4.rest)) replied.loaded;
  }

-- ---- what the count says
-- what it lacked it needs, beside its own
needed : (table : TableView) (made : List Rec) (lacks : Full) (s t : SeatView) (needs : ℕ) → HasLacked table made (Err (fault_of lacks)) s t → needs ≡ length (nodes_among made) + 1 → NeedsBeside table.layout (pass_of s) (pass_of t) lacks needs
needed table made Nodes s t needs lacked is = (nodes_among made, lacked refl, omega (arith, is))
needed table made Leaves s t needs lacked is = tt

pub judged_fault : (passes : ℕ) (lacks : Full) (needs size : ℕ) (counts : RecordCounts) (refusal : Refusal) → IsRefusalByCounts passes lacks needs size counts refusal → fault_in refusal ≡ fault_of lacks
judged_fault passes lacks needs size counts IsBusy j = absurd j
judged_fault passes lacks needs size counts (HeldBack full) j = ap fault_of j.0
judged_fault passes lacks needs size counts (IsFull full shown) j = ap fault_of j.0

pub told_after : {G : Type 0} {table : TableView} {becomes : G → Event → G → Type 0} {counts : RecordCounts} {m b : SeatView × G} (all : CountsAll table becomes counts m b) (some : 1 ≤ table.layout.nodes) (call : Call) (s : SeatView) (g : G) (lacks : Full) (made : List Rec) (needs : ℕ) →
    HasLacked table made (Err (fault_of lacks)) s m.0 → needs ≡ length (nodes_among made) + 1 → ¬ (HasNodeLeft table.layout.passes call) → (table.layout.passes ≡ 1 → IsEarly b.0 → AreAllAtRest counts × (HasAllCommitted s → IsShortOf lacks needs (length (key_of call)) counts)) → (refusal : Refusal) → IsRefusalByCounts table.layout.passes lacks needs (length (key_of call)) counts refusal →
    FollowsRefusal call table becomes (pass_of s, g) (pass_of m.0, m.1) (pass_of b.0, b.1) refusal
told_after {table = table} all some call s g lacks made needs lacked is other rest IsBusy j = absurd j
told_after {table = table} {becomes = becomes} {counts = counts} {m = m} {b = b} all some call s g lacks made needs lacked is other rest (HeldBack full) j = inr (record {
  needs = needs;
  needed = subst (λ z. NeedsBeside table.layout (pass_of s) (pass_of m.0) z needs) (sym j.0) (needed table made lacks s m.0 needs lacked is);
  counts = counts;
  counted = has_counted all some;
  judged = subst (λ z. IsRefusalByCounts table.layout.passes z needs (length (key_of call)) counts (HeldBack full)) (sym j.0) j;
  alone = λ one early. (rest one early).0;
  short = λ one early none. subst (λ z. IsShortOf z needs (length (key_of call)) counts) (sym j.0) ((rest one early).1 none);
})
told_after {table = table} {becomes = becomes} {counts = counts} {m = m} {b = b} all some call s g lacks made needs lacked is other rest (IsFull full shown) j = (
  other,
  record {
    needs = needs;
    needed = subst (λ z. NeedsBeside table.layout (pass_of s) (pass_of m.0) z needs) (sym j.0) (needed table made lacks s m.0 needs lacked is);
    counts = counts;
    counted = has_counted all some;
    judged = subst (λ z. IsRefusalByCounts table.layout.passes z needs (length (key_of call)) counts (IsFull full shown)) (sym j.0) j;
    alone = λ one early. (rest one early).0;
    short = λ one early none. subst (λ z. IsShortOf z needs (length (key_of call)) counts) (sym j.0) ((rest one early).1 none);
  },
)

-- ---- in an index of one pass
pub no_other : (passes pass other : ℕ) → passes ≡ 1 → pass < passes → other < passes → other ≡ pass
no_other passes pass other one mine its = omega arith

never_busy : (layout : Layout) (k j : PassView) → layout.passes ≡ 1 → HasConflict layout k j → ⊥
never_busy layout k j one conflict =
    ⊎_elim
    (λ (met : HasMetTaken layout j.number k.steps j.failed). met.another (no_other layout.passes j.number met.by one conflict.pass met.below))
    (λ (o : IsOvertaken layout k j). o.another (no_other layout.passes j.number o.change.pass one conflict.pass o.below))
    conflict.met

-- each refusal is final
pub passes_never : {G : Type 0} (call : Call) (refusal : Refusal) (table : TableView) (becomes : G → Event → G → Type 0) (a b : PassView × G) → table.layout.passes ≡ 1 →
    IsTriedAndCounted call (Err refusal) table becomes a b → IsPassing refusal → ⊥
passes_never call IsBusy table becomes a b one it passing = never_busy table.layout a.0 it.mid.0 one it.tried.cause
passes_never call (HeldBack lacks) table becomes a b one it passing = elim it.told [ inl (left, same) ↦ omega (arith, left.0, one) | inr counted ↦ counted.judged.1 (inl one) ]
passes_never call (IsFull lacks counts) table becomes a b one it passing = passing

-- a removal in one of several is never full
pub left_never : {G : Type 0} (call : Call) (lacks : Full) (counts : RecordCounts) (table : TableView) (becomes : G → Event → G → Type 0) (a b : PassView × G) → HasNodeLeft table.layout.passes call →
    IsTriedAndCounted call (Err (IsFull lacks counts)) table becomes a b → ⊥
left_never call lacks counts table becomes a b left it = it.told.0 left

-- ---- node records of a list
same_more : (r : Rec) (xs ys : List Rec) (n : ℕ) → length (nodes_among xs) ≡ length (nodes_among ys) + n → length (nodes_among (r ∷ xs)) ≡ length (nodes_among (r ∷ ys)) + n
same_more (a_node m) xs ys n is = omega (arith, is)
same_more (a_leaf m) xs ys n is = is

pub nodes_taken : (recs : List Rec) (i : ℕ) (d : Rec) → i < length recs → length (nodes_among (take (i + 1) recs)) ≡ length (nodes_among (take i recs)) + length (nodes_among (get_or recs i d ∷ []))
nodes_taken [] i d low = absurd (omega arith)
nodes_taken (r ∷ recs) zero d low = omega arith
nodes_taken (r ∷ recs) (suc i) d low =
    let next : suc i + 1 ≡ suc (i + 1) = omega arith in
    subst (λ n. length (nodes_among (take n (r ∷ recs))) ≡ length (nodes_among (take (suc i) (r ∷ recs))) + length (nodes_among (get_or (r ∷ recs) (suc i) d ∷ []))) (sym next)
    (same_more r (take (i + 1) recs) (take i recs) (length (nodes_among (get_or recs i d ∷ []))) (nodes_taken recs i d (omega arith)))

pub nodes_most : (recs : List Rec) → length (nodes_among recs) ≤ length recs
nodes_most [] = omega arith
nodes_most (a_node m ∷ recs) = let most = nodes_most recs in omega (arith, most)
nodes_most (a_leaf m ∷ recs) = let most = nodes_most recs in omega (arith, most)

pub nodes_few : (r : Rec) → length (nodes_among (r ∷ [])) ≤ 1
nodes_few (a_node m) = omega arith
nodes_few (a_leaf m) = omega arith
