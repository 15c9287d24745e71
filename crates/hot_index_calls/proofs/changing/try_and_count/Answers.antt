-- The try, and the count after it.
use Rattle.hot_index_calls.proofs.Common.{FullNodes, ◌≡◌, ◌≤◌, ◌+◌, ◌∙◌, ℕ, List, Err, length, ap, inl, refl, sym, subst, arith, false≢true, key_of, Layout, Rec, ClearPin, Known, TryFault, nodes_among, MAX_BYTES}
use Rattle.hot_index_calls.proofs.Rooms.{counts_spare, runs_longer}
use Rattle.rowex_table.specs.Seats.{HasAllCommitted}
use Rattle.hot_index_calls.specs.Answers.{fault_of}
use Rattle.hot_index_calls.specs.Asked.{HasAsked, HasLacked, HasReplied}
use Rattle.hot_index_calls.specs.Calls.{IsTried}
use Rattle.hot_index_calls.specs.Census.{loads_in}
use Rattle.hot_index_calls.specs.Passes.{pass_of}
use Rattle.hot_index_calls.specs.Refusals.{AreAllAtRest, HasNodeLeft, IsShortOf, IsRefusalByCounts, fault_in}
use Rattle.hot_index_calls.specs.Rooms.{FindsRoom, IsEarly}
use Rattle.hot_index_calls.specs.Traces.{AreAttempts, is_full}
use Rattle.hot_index_calls.proofs.changing.Resting.{lacked_full}
use Rattle.hot_index_calls.specs.Lacking.{LeavesUsed}
use Rattle.hot_index_calls.proofs.Lacked.{counts_short}
use Rattle.hot_index_calls.proofs.Passes.Settled.{counts_rest}
use Rattle.hot_index_calls.proofs.Refusing.{counted_replied, judged_fault, nodes_most, stepped_on, told_after}
use Rattle.hot_index_calls.proofs.Counts.{has_tried}
use Rattle.hot_index_calls.proofs.changing.try_and_count.Goals as goal

pub try_change-requires : goal.try_change-requires
try_change-requires g c = record { idle = c.requires.idle }

pub returns-in-Ok : goal.returns-in-Ok
returns-in-Ok g c =
    let asked = c.in-Ok.ensures.asked in
    let (acts, are, ends) = asked.ended in
    record {
      replied = asked.replied;
      stepped = (acts, ClearPin, ends);
      later = asked.later;
      tried = record { mid = (pass_of c.try_change.new.seat, c.try_change.new.gate); tried = has_tried asked c.in-Ok.ensures.few c.in-Ok.ensures.spares c.in-Ok.ensures.room; told = refl };
      spares = c.in-Ok.ensures.spares;
      room = λ removal one was early is. cc;
    }

pub returns-in_default : goal.returns-in_default
returns-in_default g c =
    let table = c.args.table.now in
    let call = c.args.call.now in
    let asked = subst (λ (f : TryFault). HasAsked table g.G.Gate.becomes (AreAttempts table g.G.Gate.becomes call (Err f)) call (Err f) (c.args.seat.now, c.args.gate.now) (c.try_change.new.seat, c.try_change.new.gate)) (c.lack_of.ensures.none c.in_default.is) c.in-Err.ensures.asked in
    let (acts, are, ends) = asked.ended in
    record {
      replied = asked.replied;
      stepped = (acts, ClearPin, ends);
      later = asked.later;
      tried = record { mid = (pass_of c.try_change.new.seat, c.try_change.new.gate); tried = has_tried asked c.in-Err.ensures.few c.in-Err.ensures.spares (λ removal one was early is. cc); told = refl };
      spares = c.in-Err.ensures.spares;
      room = λ removal one was early is. cc;
    }

pub count_records-counts-requires : goal.count_records-counts-requires
count_records-counts-requires g c = c.in-Err.ensures.asked.replied.idle.0

pub returns-then-has_node_left : goal.returns-then-has_node_left
returns-then-has_node_left g c =
    let table = c.args.table.now in
    let call = c.args.call.now in
    let asked = subst (λ (f : TryFault). HasAsked table g.G.Gate.becomes (AreAttempts table g.G.Gate.becomes call (Err f)) call (Err f) (c.args.seat.now, c.args.gate.now) (c.try_change.new.seat, c.try_change.new.gate)) c.in-Some.ensures.some c.in-Err.ensures.asked in
    let (acts, are, ends) = asked.ended in
    let finds : FindsRoom table.layout call (Err (fault_of c.in-Some.lacks)) c.args.seat.now c.try_change.new.seat = λ removal one was early is. c.in-Err.ensures.room removal one was early (ap Err c.in-Some.ensures.some ∙ is) in
    let left = subst (λ (l : Layout). HasNodeLeft l.passes call) c.layout-passes.ensures (c.has_node_left.ensures.0 c.if-has_node_left.true) in
    record {
      replied = asked.replied;
      stepped = (acts, ClearPin, ends);
      later = asked.later;
      tried = record { mid = (pass_of c.try_change.new.seat, c.try_change.new.gate); tried = has_tried asked c.in-Err.ensures.few c.in-Err.ensures.spares finds; told = inl (left, refl) };
      spares = c.in-Err.ensures.spares;
      room = finds;
    }

pub returns-else-has_node_left-clause-replied : goal.returns-else-has_node_left-clause-replied
returns-else-has_node_left-clause-replied g c =
    let table = c.args.table.now in
    let call = c.args.call.now in
    let asked = subst (λ (f : TryFault). HasAsked table g.G.Gate.becomes (AreAttempts table g.G.Gate.becomes call (Err f)) call (Err f) (c.args.seat.now, c.args.gate.now) (c.try_change.new.seat, c.try_change.new.gate)) c.in-Some.ensures.some c.in-Err.ensures.asked in
    subst (λ (f : TryFault). HasReplied table call (Err f) c.args.seat.now c.count_records-counts.new.seat) (sym (judged_fault _ _ _ _ _ c.judge_lack.result c.judge_lack.ensures))
    (counted_replied {m = (c.try_change.new.seat, c.try_change.new.gate)} {b = (c.count_records-counts.new.seat, c.count_records-counts.new.gate)} c.count_records-counts.ensures.steps table.layout.nodes_in_range.0 c.count_records-counts.ensures.pin call c.args.seat.now c.in-Some.lacks asked.replied asked.later)

pub returns-else-has_node_left-clause-stepped : goal.returns-else-has_node_left-clause-stepped
returns-else-has_node_left-clause-stepped g c =
    let (acts, are, ends) = c.in-Err.ensures.asked.ended in
    stepped_on acts (loads_in c.args.table.now.layout c.count_records-counts.ensures.steps.0) ClearPin (c.args.seat.now, c.args.gate.now) (c.try_change.new.seat, c.try_change.new.gate) (c.count_records-counts.new.seat, c.count_records-counts.new.gate) ends
    c.count_records-counts.ensures.steps.4.steps

pub returns-else-has_node_left-clause-later : goal.returns-else-has_node_left-clause-later
returns-else-has_node_left-clause-later g c =
    let n : c.count_records-counts.new.seat.known.steps ≡ c.try_change.new.seat.known.steps + length (loads_in c.args.table.now.layout c.count_records-counts.ensures.steps.0) = ap (λ (z : Known). z.steps) c.count_records-counts.ensures.steps.4.rest in
    omega (arith, n, c.in-Err.ensures.asked.later)

pub returns-else-has_node_left-clause-tried : goal.returns-else-has_node_left-clause-tried
returns-else-has_node_left-clause-tried g c =
    let table = c.args.table.now in
    let call = c.args.call.now in
    let fault = fault_of c.in-Some.lacks in
    let asked = subst (λ (f : TryFault). HasAsked table g.G.Gate.becomes (AreAttempts table g.G.Gate.becomes call (Err f)) call (Err f) (c.args.seat.now, c.args.gate.now) (c.try_change.new.seat, c.try_change.new.gate)) c.in-Some.ensures.some c.in-Err.ensures.asked in
    let lacked = subst (λ (f : TryFault). HasLacked table c.try_change.new.scratch.build.made.items (Err f) c.args.seat.now c.try_change.new.seat) c.in-Some.ensures.some c.in-Err.ensures.lacks in
    let judged : IsRefusalByCounts table.layout.passes c.in-Some.lacks c.saturating_add-needs.result (length (key_of call)) c.count_records-counts.result c.judge_lack.result =
    subst (λ (l : Layout). IsRefusalByCounts l.passes c.in-Some.lacks c.saturating_add-needs.result (length (key_of call)) c.count_records-counts.result c.judge_lack.result) c.layout-passes.ensures
    (subst (λ (k : List ℕ). IsRefusalByCounts c.layout-passes.result.passes c.in-Some.lacks c.saturating_add-needs.result (length k) c.count_records-counts.result c.judge_lack.result) (c.as_bytes-size.ensures.bytes ∙ c.key.ensures) c.judge_lack.ensures) in
    let needs : c.saturating_add-needs.result ≡ length (nodes_among c.try_change.new.scratch.build.made.items) + 1 =
    omega (arith, c.saturating_add-needs.ensures, c.count_node_records.ensures, ap (λ (l : List Rec). length (nodes_among l)) c.as_slice.ensures.value, nodes_most c.as_slice.result.now, c.as_slice.ensures.fits) in
    let steps = c.count_records-counts.ensures.steps in
    let full = ap (λ (f : TryFault). is_full (Err f)) c.in-Some.ensures.some ∙ lacked_full c.in-Some.lacks in
    let rest : table.layout.passes ≡ 1 → IsEarly c.count_records-counts.new.seat → AreAllAtRest c.count_records-counts.result × (HasAllCommitted c.args.seat.now → IsShortOf c.in-Some.lacks c.saturating_add-needs.result (length (key_of call)) c.count_records-counts.result) = λ one early.
    let longer = runs_longer table g.G.Gate.becomes (loads_in table.layout steps.0) (c.try_change.new.seat, c.try_change.new.gate) (c.count_records-counts.new.seat, c.count_records-counts.new.gate) steps.4.steps in
    let all = counts_rest table g.G.Gate.becomes one steps.0 (c.try_change.new.seat, c.try_change.new.gate) (c.count_records-counts.new.seat, c.count_records-counts.new.gate) steps.4.steps asked.replied.idle.1.own (c.in-Err.ensures.none one full (omega (arith, early, longer))) in
    let key : length (key_of call) ≤ MAX_BYTES = subst (λ (k : List ℕ). length k ≤ MAX_BYTES) c.key.ensures c.as_bytes-size.ensures.key.short in
    let used = subst (λ (f : TryFault). LeavesUsed table.layout (key_of call) (nodes_among c.try_change.new.scratch.build.made.items) (Err f) c.args.seat.now c.try_change.new.seat) c.in-Some.ensures.some c.in-Err.ensures.used in
    subst (λ z. AreAllAtRest z × (HasAllCommitted c.args.seat.now → IsShortOf c.in-Some.lacks c.saturating_add-needs.result (length (key_of call)) z)) (sym steps.3) (
      all,
      λ none. counts_short table g.G.Gate.becomes one _ steps.0 c.args.seat.now none (c.try_change.new.seat, c.try_change.new.gate) (c.count_records-counts.new.seat, c.count_records-counts.new.gate) steps.2 steps.4.steps (key_of call) key (nodes_among c.try_change.new.scratch.build.made.items) c.in-Some.lacks used all c.saturating_add-needs.result needs,
    ) in
    let other = λ (left : HasNodeLeft table.layout.passes call). false≢true (sym c.if-has_node_left.false ∙ c.has_node_left.ensures.1 (subst (λ (l : Layout). HasNodeLeft l.passes call) (sym c.layout-passes.ensures) left)) in
    record {
      mid = (pass_of c.try_change.new.seat, c.try_change.new.gate);
      tried = subst (λ (f : TryFault). IsTried call (Err f) table g.G.Gate.becomes (pass_of c.args.seat.now, c.args.gate.now) (pass_of c.try_change.new.seat, c.try_change.new.gate)) (sym (judged_fault _ _ _ _ _ c.judge_lack.result c.judge_lack.ensures))
          (has_tried asked c.in-Err.ensures.few c.in-Err.ensures.spares (λ removal one was early is. c.in-Err.ensures.room removal one was early (ap Err c.in-Some.ensures.some ∙ is)));
      told = told_after {m = (c.try_change.new.seat, c.try_change.new.gate)} {b = (c.count_records-counts.new.seat, c.count_records-counts.new.gate)} c.count_records-counts.ensures.steps table.layout.nodes_in_range.0 call c.args.seat.now c.args.gate.now c.in-Some.lacks
          c.try_change.new.scratch.build.made.items c.saturating_add-needs.result lacked needs other rest c.judge_lack.result judged;
    }

pub returns-else-has_node_left-clause-spares : goal.returns-else-has_node_left-clause-spares
returns-else-has_node_left-clause-spares g c = λ was.
    counts_spare c.args.table.now g.G.Gate.becomes c.count_records-counts.ensures.steps.0 (c.try_change.new.seat, c.try_change.new.gate) (c.count_records-counts.new.seat, c.count_records-counts.new.gate) c.count_records-counts.ensures.steps.4.steps (c.in-Err.ensures.spares was)

pub returns-else-has_node_left-clause-room : goal.returns-else-has_node_left-clause-room
returns-else-has_node_left-clause-room g c = λ removal one was early is.
    let longer = runs_longer c.args.table.now g.G.Gate.becomes (loads_in c.args.table.now.layout c.count_records-counts.ensures.steps.0) (c.try_change.new.seat, c.try_change.new.gate) (c.count_records-counts.new.seat, c.count_records-counts.new.gate) c.count_records-counts.ensures.steps.4.steps in
    let judged = judged_fault _ _ _ _ _ c.judge_lack.result c.judge_lack.ensures in
    let same : fault_in c.judge_lack.result ≡ FullNodes = cc in
    c.in-Err.ensures.room removal one was (omega (arith, early, longer)) (ap Err (c.in-Some.ensures.some ∙ (sym judged ∙ same)))
