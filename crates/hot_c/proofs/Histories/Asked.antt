-- How a call for a key has ended: the steps of its pass, its response, and what was told of it.
use Rattle.hot_c.proofs.Common.{◌≡◌, ◌≢◌, ⊎_elim, ℕ, List, [], ◌∷◌, ◌++◌, map, Option, None, Some, Result, Ok, Err, inl, inr, refl, sym, ap, subst, ◌∙◌, IsPermutation, option_to_list, cases_eq, IsPermutation-refl, Call, Add, Exchange, Get, Insert, Remove, RemoveIf, Upsert, Note, Reply, Absent, Differs, Exchanged, Exists, Inserted, New, Removed, Value, Was, Act, Known, Ends, Runs, silent, SeatView, TableView, Leaves, Nodes, IsNoted, IsRefused, IsRefusedFor, MayRefuse, GetsOr, GetsOrCounts, IsTriedAndCounted, HasCounted, loads_in, PassView, pass_of, FollowsRefusal, fault_in, HasMadeChangeSteps, HasRead, reading, untold, Refusal, IsBusy, HeldBack, IsFull, notes_of_response, Happening, refuses, responds, HasEndedAs, answered, refused, silent_steps_end}
use Rattle.rowex_core.specs.declared.event.Act.TheVariants.{ClearPin}
use Rattle.rowex_table.proofs.Runs.{runs_append}
use Rattle.rowex_writing.specs.attempts.Attempts.{LacksNoLeaf}
use Rattle.rowex_writing.specs.declared.attempts.TryFault.{TryFault}
use Rattle.rowex_writing.specs.declared.attempts.TryFault.TheVariants.{Busy, FullLeaves, FullNodes}
use Rattle.hot_index_calls.specs.Noting.{change_notes}
use Rattle.hot_index_calls.specs.declared.census.RecordCounts.{RecordCounts}
use Rattle.hot_c.specs.Calls.{TellsOutcome}
use Rattle.hot_c.specs.Histories.{told_of, told_reply}
use Rattle.hot_c.specs.Refusals.{TellsRefusal}
use Rattle.hot_c.specs.Statuses.{reply_status, value_after}
use Rattle.hot_c.specs.declared.status.TheConstants.{BUSY, KEY_TOO_LONG}

-- What was told

told_some : (reply : Reply) (before : ℕ) → told_reply (reply_status reply) (value_after before (Ok reply)) ≡ Some reply
told_some (Value value) before = refl
told_some Absent before = refl
told_some Inserted before = refl
told_some (Exists value) before = refl
told_some New before = refl
told_some (Was value) before = refl
told_some Exchanged before = refl
told_some (Differs value) before = refl
told_some (Removed value) before = refl

-- a status that tells no reply tells nothing of the call
pub nothing_told : (call : Call) (status other value : ℕ) → status ≡ other → told_reply other value ≡ None → told_of call status value ≡ []
nothing_told call status other value is none = ap (λ s. told_of call s value) is ∙ ap (λ (o : Option Reply). map (λ (reply : Reply). (call, reply)) (option_to_list o)) none

pub reply_told : (call : Call) (reply : Reply) (before after status : ℕ) → status ≡ reply_status reply → after ≡ value_after before (Ok reply) → told_of call status after ≡ (call, reply) ∷ []
reply_told call reply before after status is left =
    ap (λ (z : ℕ × ℕ). told_of call z.0 z.1) (λ i. (is i, left i)) ∙ ap (λ (o : Option Reply). map (λ (r : Reply). (call, r)) (option_to_list o)) (told_some reply before)

refusal_told : (size : ℕ) (call : Call) (refusal : Refusal) (status value : ℕ) → TellsRefusal size refusal status → told_of call status value ≡ []
refusal_told size call IsBusy status value told = nothing_told call status 8 value told refl
refusal_told size call (HeldBack lacks) status value told = nothing_told call status 18 value told refl
refusal_told size call (IsFull Nodes counts) status value told = nothing_told call status 9 value told refl
refusal_told size call (IsFull Leaves counts) status value told = ⊎_elim
    (λ (long : status ≡ KEY_TOO_LONG). nothing_told call status 11 value long refl)
    (λ (ne : status ≢ KEY_TOO_LONG). nothing_told call status 10 value (told.taken (λ all. ne (told.none all))) refl)
    (cases_eq status KEY_TOO_LONG)

-- The steps

-- The pass made these steps, from the seat that it had to the one that it has.
pub record Made (index : TableView) (k j : PassView) : Type 0 where
  pub acts : List Act
  pub last : Act
  pub said : Known → List Note
  pub seat : j ≡ pass_of j.seat
  pub ends : Ends index untold acts last said (k.seat, tt) (j.seat, tt)

pub read_made : {index : TableView} {k j : PassView} → HasRead index untold (k, tt) (j, tt) → Made index k j
read_made x = record { acts = reading x.epoch x.root x.loads; last = ClearPin; said = x.said; seat = x.ends; ends = x.steps }

try_made : {index : TableView} {call : Call} {result : Result Reply TryFault} {k j : PassView} → HasMadeChangeSteps index untold call result (k, tt) (j, tt) → Made index k j
try_made {call = call} {result = result} x = record { acts = x.acts; last = ClearPin; said = change_notes call result; seat = x.ends; ends = x.steps }

module _ (index : TableView) where
  -- more steps behind a last one that came with no notes
  more_steps : (acts : List Act) (last : Act) (more : List Act) (s m e : SeatView) → Ends index untold acts last silent (s, tt) (m, tt) → Runs index untold more (m, tt) (e, tt) →
      (before : List Act) × (end : Act) × Ends index untold before end silent (s, tt) (e, tt)
  more_steps acts last [] s m e ends same = (acts, last, subst (λ (z : SeatView × Unit {0}). Ends index untold acts last silent (s, tt) z) (sym same) ends)
  more_steps acts last (act ∷ rest) s m e (i, run, step) runs =
      let h = silent_steps_end index act rest m e runs in
      let first : Runs index untold (acts ++ last ∷ []) (s, tt) (m, tt) = runs_append index untold acts (last ∷ []) (s, tt) i (m, tt) run ((m, tt), step, refl) in
      ((acts ++ last ∷ []) ++ h.0, h.1, (h.3.0, runs_append index untold (acts ++ last ∷ []) h.0 (s, tt) (m, tt) h.3.0 first h.3.1, h.3.2))

  counted_made : {call : Call} {fault : TryFault} {k m j : PassView} {counts : RecordCounts} → HasMadeChangeSteps index untold call (Err fault) (k, tt) (m, tt) → HasCounted index untold (m, tt) (j, tt) counts → Made index k j
  counted_made {k = k} {m = m} {j = j} x y =
      let h = more_steps x.acts ClearPin (loads_in index.layout y.tags) k.seat m.seat j.seat x.steps y.steps in
      record { acts = h.0; last = h.1; said = silent; seat = y.ends; ends = h.2 }

  told_made : {call : Call} {fault : TryFault} {k m j : PassView} (refusal : Refusal) → HasMadeChangeSteps index untold call (Err fault) (k, tt) (m, tt) →
      FollowsRefusal call index untold (k, tt) (m, tt) (j, tt) refusal → Made index k j
  told_made {k = k} IsBusy x same = subst (λ (z : PassView × Unit {0}). Made index k z.0) (sym same) (try_made x)
  told_made {k = k} (HeldBack lacks) x (inl (left, same)) = subst (λ (z : PassView × Unit {0}). Made index k z.0) (sym same) (try_made x)
  told_made (HeldBack lacks) x (inr y) = counted_made x y.counted
  told_made (IsFull lacks counts) x (not, y) = counted_made x y.counted

  change_made : {call : Call} (outcome : Result Reply Refusal) {k j : PassView} → IsTriedAndCounted call outcome index untold (k, tt) (j, tt) → Made index k j
  change_made (Ok reply) {k = k} x = subst (λ (z : PassView × Unit {0}). Made index k z.0) (sym x.told) (try_made x.tried.made)
  change_made (Err refusal) x = told_made refusal x.tried.made x.told

  pub ends_of : (call : Call) (outcome : Result Reply Refusal) (k j : PassView) → GetsOrCounts call outcome index untold (k, tt) (j, tt) → Made index k j
  ends_of (Get key) outcome k j x = read_made x.read
  ends_of (Insert key value) outcome k j x = change_made outcome x
  ends_of (Upsert key value) outcome k j x = change_made outcome x
  ends_of (Exchange key expected value) outcome k j x = change_made outcome x
  ends_of (Add key delta) outcome k j x = change_made outcome x
  ends_of (Remove key) outcome k j x = change_made outcome x
  ends_of (RemoveIf key expected) outcome k j x = change_made outcome x

  -- Refusals

  leafless_of : (call : Call) (refusal : Refusal) (k j : PassView) → GetsOrCounts call (Err refusal) index untold (k, tt) (j, tt) → LacksNoLeaf FullLeaves call (Err (fault_in refusal))
  leafless_of (Get key) refusal k j x = tt
  leafless_of (Insert key value) refusal k j x = tt
  leafless_of (Upsert key value) refusal k j x = tt
  leafless_of (Exchange key expected value) refusal k j x = tt
  leafless_of (Add key delta) refusal k j x = tt
  leafless_of (Remove key) refusal k j x = x.tried.leafless
  leafless_of (RemoveIf key expected) refusal k j x = x.tried.leafless

  may_fault : (call : Call) (fault : TryFault) (k j : PassView) → IsRefused index.layout call k j fault → LacksNoLeaf FullLeaves call (Err fault) → GetsOr call (fault ≢ Busy) (Unit {0}) → MayRefuse call fault
  may_fault (Insert key value) fault k j x leafless never = tt
  may_fault (Upsert key value) fault k j x leafless never = tt
  may_fault (Exchange key expected value) Busy k j x leafless never = tt
  may_fault (Exchange key expected value) FullNodes k j x leafless never = absurd (x.full tt)
  may_fault (Exchange key expected value) FullLeaves k j x leafless never = absurd (x.full tt)
  may_fault (Add key delta) Busy k j x leafless never = tt
  may_fault (Add key delta) FullNodes k j x leafless never = absurd (x.full tt)
  may_fault (Add key delta) FullLeaves k j x leafless never = absurd (x.full tt)
  may_fault (Get key) Busy k j x leafless never = absurd (never refl)
  may_fault (Get key) FullNodes k j x leafless never = absurd (x.full tt)
  may_fault (Get key) FullLeaves k j x leafless never = absurd (x.full tt)
  may_fault (Remove key) Busy k j x leafless never = tt
  may_fault (Remove key) FullNodes k j x leafless never = tt
  may_fault (Remove key) FullLeaves k j x leafless never = absurd (leafless refl)
  may_fault (RemoveIf key expected) Busy k j x leafless never = tt
  may_fault (RemoveIf key expected) FullNodes k j x leafless never = tt
  may_fault (RemoveIf key expected) FullLeaves k j x leafless never = absurd (leafless refl)

-- a look-up that isn't told busy was not refused so
not_busy : (size : ℕ) (refusal : Refusal) (status : ℕ) → TellsRefusal size refusal status → status ≢ BUSY → fault_in refusal ≢ Busy
not_busy size IsBusy status told never is = never told
not_busy size (HeldBack Nodes) status told never is = cc
not_busy size (HeldBack Leaves) status told never is = cc
not_busy size (IsFull Nodes counts) status told never is = cc
not_busy size (IsFull Leaves counts) status told never is = cc

never_busy : (size : ℕ) (call : Call) (refusal : Refusal) (status : ℕ) → TellsRefusal size refusal status → GetsOr call (status ≢ BUSY) (Unit {0}) → GetsOr call (fault_in refusal ≢ Busy) (Unit {0})
never_busy size (Get key) refusal status told never = not_busy size refusal status told never
never_busy size (Insert key value) refusal status told never = tt
never_busy size (Upsert key value) refusal status told never = tt
never_busy size (Exchange key expected value) refusal status told never = tt
never_busy size (Add key delta) refusal status told never = tt
never_busy size (Remove key) refusal status told never = tt
never_busy size (RemoveIf key expected) refusal status told never = tt

-- The end

-- The call of pass q ended so, and its response is what was told.
pub record Ended (index : TableView) (q : ℕ) (call : Call) (replies : List (Call × Reply)) (k j : PassView) : Type 0 where
  pub made : Made index k j
  pub ended : Happening
  pub so : HasEndedAs index.layout q (call ∷ []) k.seat j.seat ended
  pub told : IsPermutation replies (map (λ (n : Note). (n.call, n.reply)) (notes_of_response ended))

pub call_ended : (index : TableView) (q size : ℕ) (call : Call) (before after status : ℕ) (outcome : Result Reply Refusal) (k j : PassView) → k ≡ pass_of k.seat →
    TellsOutcome size call status outcome index k j → GetsOr call (status ≢ BUSY) (Unit {0}) → after ≡ value_after before outcome → Ended index q call (told_of call status after) k j
call_ended index q size call before after status (Ok reply) k j is ((noted, cause, gets), told) never left =
    let made = ends_of index call (Ok reply) k j gets in
    let seen : IsNoted index.layout (pass_of k.seat) (pass_of j.seat) call reply = subst (λ (z : PassView × PassView). IsNoted index.layout z.0 z.1 call reply) (λ i. (is i, made.seat i)) noted in
    record {
      made = made;
      ended = responds q (record { place = seen.place; call = call; reply = reply } ∷ []);
      so = answered call reply refl seen;
      told = subst (λ l. IsPermutation l ((call, reply) ∷ [])) (sym (reply_told call reply before after status told left)) (IsPermutation-refl ((call, reply) ∷ []));
    }
call_ended index q size call before after status (Err refusal) k j is ((denied, cause, gets), told) never left =
    let made = ends_of index call (Err refusal) k j gets in
    let fault : TryFault = fault_in refusal in
    let may = may_fault index call fault k j denied (leafless_of index call refusal k j gets) (never_busy size call refusal status told never) in
    let both : IsRefusedFor index.layout call k j fault = record { refused = denied; cause = cause } in
    record {
      made = made;
      ended = refuses q;
      so = refused call fault refl (subst (λ (z : PassView × PassView). IsRefusedFor index.layout call z.0 z.1 fault) (λ i. (is i, made.seat i)) both) may;
      told = subst (λ l. IsPermutation l []) (sym (refusal_told size call refusal status after told)) (IsPermutation-refl []);
    }
