-- What an attempt to change the map leaves: it is noted where it was answered, and has changed nothing where it was refused.
use Rattle.hot_index_calls.proofs.Common.{le_refl, ◌≡◌, ◌≢◌, ◌⊎◌, inl, inr, ⊎_elim, ℕ, ◌+◌, ◌*◌, ◌-◌, ◌<◌, ◌≤◌, List, [], ◌∷◌, ◌++◌, length, take, Bool, true, false, Option, Some, None, IsSome, Result, Ok, Err, refl, sym, ap, subst, ◌∙◌, arith, le_trans, length-append, All, IfOk, IfErr, MatchResult, is_some, MAX_BYTES, All-head, All-tail, Call, Insert, Upsert, Exchange, Add, Get, Remove, RemoveIf, Change, Note, Reply, Exchanged, Removed, LegalCalls, change_of, effect_of, BeginsWith, LegalFront, OthersGoOn, map_of, Map, key_of, reply_of, step_if, step_where, value_at, begins_on, legal_front_part, legal_change, legal_longer, Layout, Key, Rec, a_leaf, Act, ClearPin, Event, Target, Failed, Known, Core, IsLawful, IsEvent, IsPinnedSince, Recalls, Runs, StepsWith, MakesNoAside, SeatView, TableView, event_recalls, act_leaves, runs_same, HasMissed, IsAnothers, Pins, KeepsSpare, HasAnswered, HasRefused, IsChangeOf, LacksNoLeaf, HasLoadedRoot, HasChanged, LacksLeaves, LacksNodes, HasMetLock, HasMetTaken, HasTried, IsOfAttempt, nodes_among, Full, OfNodes, OfLeaves, TryFault, Busy, FullNodes, FullLeaves, lacks_so, of_attempt_pin, runs_begin, IsHindered, RunBeginsWith, run_begins_on}
use Rattle.std.specs.Prelude.{nat_eq}
use Rattle.std.specs.Option.{option_map}
use Rattle.finite_map.specs.declared.Kind.{Kind}
use Rattle.record_words.specs.Leaf.{words_for}
use Rattle.record_words.specs.Layout.{uncommitted_in}
use Rattle.rowex_table.specs.Committed.{AtMost}
use Rattle.rowex_table.proofs.Committed.{at_most_trans}
use Rattle.rowex_records.proofs.Claims.{upto_falls}
use Rattle.publish_laws.specs.Ending.{IsAtRest}
use Rattle.rowex_writing.specs.plan.Asking.{reply_to}
use Rattle.rowex_writing.specs.attempts.Attempts as tries
use Rattle.rowex_writing.specs.attempts.Attempts.{bounds_for}
use Rattle.hot_index_calls.proofs.Removing.{call_bounds_fall, call_bounds_few}
use Rattle.hot_index_calls.specs.Alone.{HasBeenHindered}
use Rattle.hot_index_calls.specs.Answers.{IsCause, IsNoted, IsRefused, IsRefusedFor, IsUnnoted, MayLack, MayRefuse, MayTake, WasFound, fault_of}
use Rattle.hot_index_calls.specs.Asked.{HasAsked, HasLacked, HasReplied, last_try}
use Rattle.hot_index_calls.specs.Calls.{AreTriesRefused, GetsOr, HasCause, IsOutcome, IsTried, IsTriedAndCounted, MakesTries}
use Rattle.hot_index_calls.specs.declared.refusals.Refusal.{Refusal}
use Rattle.hot_index_calls.specs.Refusals.{IsPassing}
use Rattle.hot_index_calls.specs.Counts.{once_steps, round_steps, try_steps, twice_steps}
use Rattle.hot_index_calls.specs.Noting.{change_notes, place_by}
use Rattle.hot_index_calls.specs.Passes.{IsSettled, Owns, PassView, pass_of}
use Rattle.hot_index_calls.specs.Rooms.{FindsRoom, LeavesRoom}
use Rattle.hot_index_calls.specs.Traces.{AreAttempts, AreTries, HasMadeChangeSteps, HasStepped, HasMadeCallSteps, IsOneAttempt, Tidies, is_full}
use Rattle.hot_index_calls.proofs.Noting.{HasGoneOn, HasLooked, WasRight, event_makers, found_had, goes_on, legal_front, longer, met_had, missed_had, noted, note_of, pinned_front, pinned_pass, settles}
use Rattle.hot_index_calls.proofs.changing.Conflicts.{conflict_from_before, found_from_before, may_take_from_before, met_from_before, no_further, overtaken, pins_after, under_pin}
use Rattle.hot_index_calls.proofs.Passes.Collected.{AreBetween, does_unnoted, small_few, small_later, small_unnoted}
use Rattle.hot_index_calls.proofs.Hindered.{does_begin, hindered_in_attempt}
use Rattle.hot_index_calls.proofs.Noting.Scanned.{scan_refused, scan_settled}
use Rattle.hot_index_calls.proofs.Traces.{ended_once, ended_tidied, has_made, has_told}

-- Replies

-- a call that expects a value replies so, whatever else the map holds
either_reply : (b : Bool) (m n : Map) (held : ℕ) (p q : Map) (reply : Reply) → (step_if b m held (p, reply)).1 ≡ (step_if b n held (q, reply)).1
either_reply true m n held p q reply = refl
either_reply false m n held p q reply = refl

any_map : (call : Call) (held : Option ℕ) (m : Map) → (step_where held m call).1 ≡ reply_to call held
any_map (Insert key value) None m = refl
any_map (Insert key value) (Some held) m = refl
any_map (Upsert key value) None m = refl
any_map (Upsert key value) (Some held) m = refl
any_map (Exchange key expected value) None m = refl
any_map (Exchange key expected value) (Some held) m = either_reply (nat_eq held expected) m [] held _ _ Exchanged
any_map (Add key delta) None m = refl
any_map (Add key delta) (Some held) m = refl
any_map (Get key) None m = refl
any_map (Get key) (Some held) m = refl
any_map (Remove key) None m = refl
any_map (Remove key) (Some held) m = refl
any_map (RemoveIf key expected) None m = refl
any_map (RemoveIf key expected) (Some held) m = either_reply (nat_eq held expected) m [] held _ _ (Removed held)

-- the reply of a map that holds this for the call's key
replies_so : (call : Call) (m : Map) (held : Option ℕ) → value_at m (key_of call) ≡ held → reply_of m call ≡ reply_to call held
replies_so call m held e = ap (λ h. (step_where h m call).1) e ∙ any_map call held m

-- what an attempt found that changed nothing was right
looked_right : (j : Known) (call : Call) (reply : Reply) → tries.HasLooked j call reply → (c : Core) → IsLawful c → Recalls c j → WasRight j call reply
looked_right j call reply (held, found, is, quiet) c l r =
    let f = found_had j (key_of call) held found c l r in (f.0, f.1, f.2, replies_so call (map_of (take f.0 j.front)) held f.3 ∙ sym is)

-- and its call told of no change
looked_changes_nothing : (j : Known) (call : Call) (reply : Reply) → tries.HasLooked j call reply → is_some (effect_of call reply) ≡ false
looked_changes_nothing j call reply (held, found, is, quiet) = ap is_some quiet

-- The call with this reply tells of the change x, and a map where the key has this value, or none, replies so.
record Tells (q : ℕ) (call : Call) (reply : Reply) (x : Change) (was : Option ℕ) : Type 0 where
  changed : is_some (effect_of call reply) ≡ true
  change : (n : ℕ) → change_of q (record { place = n; call = call; reply = reply }) ≡ Some x
  right : (m : Map) → value_at m x.key ≡ was → reply ≡ reply_of m call

-- a change is told of where there is an effect, and it is one of the call's key
is_effect : {A B : Type 0} (f : A → B) (o : Option A) (b : B) → option_map f o ≡ Some b → is_some o ≡ true
is_effect f None b e = absurd (cc)
is_effect f (Some a) b e = refl

change_key : (q : ℕ) (call : Call) (o : Option (Kind × ℕ)) (x : Change) → option_map (λ effect. record { pass = q; key = key_of call; value = effect.1; kind = effect.0 }) o ≡ Some x → x.key ≡ key_of call
change_key q call None x e = absurd (cc)
change_key q call (Some effect) x e = let same : Some (key_of call) ≡ Some x.key = ap (option_map (λ (c : Change). c.key)) e in cc

change_told : (q : ℕ) (call : Call) (reply : Reply) (x : Change) (was : Option ℕ) → IsChangeOf q call reply x was → Tells q call reply x was
change_told q call reply x was (is, told) = record {
  changed = is_effect _ (effect_of call reply) x told;
  change = λ n. told;
  right = λ m e. is ∙ sym (replies_so call m was (ap (λ (k : Key). value_at m k) (sym (change_key q call (effect_of call reply) x told)) ∙ e));
}

-- The note of a change

-- the note of a call whose change is the last of the front
abbrev note_last : Call → Reply → Known → List Note
note_last call reply k = record { place = length k.front - 1; call = call; reply = reply } ∷ []

-- a call that changed the map is noted as its pass clears the pin
change_noted : (layout : Layout) (call : Call) (reply : Reply) (s : SeatView) (i : Known) (t : SeatView) (x : Change) (was : Option ℕ) (before : List Change) → IsSettled s.known → HasGoneOn s.known i →
    IsEvent layout ClearPin (note_last call reply) i t.known → OthersGoOn s.known.pass s.known.front before → i.front ≡ before ++ x ∷ [] → BeginsWith before i.fresh.front →
    value_at (map_of before) x.key ≡ was → Tells s.known.pass call reply x was → IsNoted layout (pass_of s) (pass_of t) call reply × IsSettled t.known
change_noted layout call reply s i t x was before settled gone event others front fresh held tells = (told, settles s t gone event legal)
  where
    place : ℕ
    place = length i.front - 1

    note : Note
    note = record { place = place; call = call; reply = reply }

    at : place ≡ length before
    at = let l = ap length front ∙ length-append before (x ∷ []) in omega arith

    low : length i.fresh.front ≤ place
    low = let l = longer before i.fresh.front fresh in omega (arith, at)

    high : place ≤ length i.front
    high = omega arith

    earlier : LegalFront before
    earlier = legal_front_part before i.front (x ∷ [], front) (legal_front s t gone event)

    calls : LegalCalls (before ++ x ∷ []) s.known.pass (s.known.notes ++ note ∷ [])
    calls = legal_change before s.known.pass s.known.notes note x (legal_longer s.known.front before s.known.pass s.known.notes settled.legal others earlier) at (tells.right (map_of before) held) (tells.change place)

    legal : LegalCalls i.front i.pass (i.notes ++ note ∷ [])
    legal = subst (λ (z : List Change). LegalCalls z i.pass (i.notes ++ note ∷ [])) (sym front)
        (subst (λ (z : ℕ × List Note). LegalCalls (before ++ x ∷ []) z.0 (z.1 ++ note ∷ [])) (λ e. (sym gone.pass e, sym gone.notes e)) calls)

    told : IsNoted layout (pass_of s) (pass_of t) call reply
    told = record {
      on = goes_on s t gone event;
      place = place;
      notes = ap (λ (z : Known). z.notes) event.learned_is ∙ ap (λ (z : List Note). z ++ note ∷ []) gone.notes;
      low = subst (λ (z : Known). length z.fresh.front ≤ place) (sym event.learned_is) low;
      high = subst (λ (z : Known). place ≤ length z.front) (sym event.learned_is) high;
      legal = subst (λ (z : Known). LegalCalls z.front z.pass z.notes) (sym event.learned_is) legal;
    }

-- Causes

-- what a part of a call lacks, the call lacks: it knew no more to be committed when it began
pub lacks_from_before : (layout : Layout) (few many : List ℕ) (p q : ℕ) (tried more : List Failed) (since later : ℕ) (own : List Rec) → AtMost (uncommitted_in few) (uncommitted_in many) → since ≤ later → q ≡ p → more ≡ tried → LacksNodes layout few p tried later own →
    LacksNodes layout many q more since own
lacks_from_before layout few many p q tried more since later own falls le number same l =
    subst (λ z. LacksNodes layout many z more since own) (sym number)
    (lacks_so layout few many p tried more later since own falls l (λ Whose r one. (one.0, le_trans le one.1, subst (λ (z : List Failed). HasMissed Whose z r one.0) (sym same) one.2)))

pub leaves_from_before : (layout : Layout) (few many : List ℕ) (key : Key) (k j h i : PassView) → AtMost (uncommitted_in few) (uncommitted_in many) → k.steps ≤ j.steps → i.number ≡ h.number → i.failed ≡ h.failed → LacksLeaves layout few key h.number h.failed j.steps →
    LacksLeaves layout many key i.number i.failed k.steps
leaves_from_before layout few many key k j h i falls steps number failed all =
    subst (λ q. LacksLeaves layout many key q i.failed k.steps) (sym number)
    (λ q low room upto. let one = all q low room (upto_falls layout few many (words_for (length key)) q falls upto) in
    (one.0, le_trans steps one.1, subst (λ (z : List Failed). HasMissed (IsAnothers layout h.number [] []) z (a_leaf q) one.0) (sym failed) one.2))

-- the cause of a part of a call is one of the call
cause_from_before : (layout : Layout) (call : Call) (k j i : PassView) (fault : TryFault) → AtMost (uncommitted_in j.seat.bounds) (uncommitted_in k.seat.bounds) → k.steps ≤ j.steps → RunBeginsWith j.seat.trace k.seat.trace → IsCause layout call j i fault → IsCause layout call k i fault
cause_from_before layout call k j i Busy falls steps grown conflict = conflict_from_before layout k j i steps grown conflict
cause_from_before layout call k j i FullNodes falls steps grown (own, l) = (own, lacks_from_before layout (bounds_for call j.seat.bounds) (bounds_for call k.seat.bounds) i.number i.number i.failed i.failed k.steps j.steps own (call_bounds_fall call j.seat.bounds k.seat.bounds falls) steps refl refl l)
cause_from_before layout call k j i FullLeaves falls steps grown all = leaves_from_before layout j.seat.bounds k.seat.bounds (key_of call) k j i i falls steps refl refl all

-- A part of a call that was not noted, and the rest of the call

module _ (layout : Layout) (k j i : PassView) (first : IsUnnoted layout k j) (steps : k.steps ≤ j.steps) where
  pub unnoted_then : IsUnnoted layout j i → IsUnnoted layout k i
  unnoted_then n = record {
    number = n.number ∙ first.number;
    front = begins_on k.front j.front i.front first.front n.front;
    notes = n.notes ∙ first.notes;
    legal = n.legal;
    makers = n.makers;
  }

  refused_then : AtMost (uncommitted_in j.seat.bounds) (uncommitted_in k.seat.bounds) → RunBeginsWith j.seat.trace k.seat.trace → (call : Call) (fault : TryFault) → IsRefusedFor layout call j i fault → IsRefusedFor layout call k i fault
  refused_then falls grown call fault r = record {
    refused = record {
      unnoted = unnoted_then r.refused.unnoted;
      full = λ full. may_take_from_before call k j i i first.front (no_further refl) refl (r.refused.full full);
    };
    cause = cause_from_before layout call k j i fault falls steps grown r.cause;
  }

  noted_then : (call : Call) (reply : Reply) → IsNoted layout j i call reply → IsNoted layout k i call reply
  noted_then call reply n = record {
    on = record {
      number = n.on.number ∙ first.number;
      front = begins_on k.front j.front i.front first.front n.on.front;
      fresh = begins_on k.front j.front i.fresh.front first.front n.on.fresh;
      seen = n.on.seen;
      now = (le_trans steps n.on.now.0, n.on.now.1);
      makers = n.on.makers;
    };
    place = n.place;
    notes = n.notes ∙ ap (λ (z : List Note). z ++ record { place = n.place; call = call; reply = reply } ∷ []) first.notes;
    low = n.low;
    high = n.high;
    legal = n.legal;
  }

  pub outcome_then : AtMost (uncommitted_in j.seat.bounds) (uncommitted_in k.seat.bounds) → RunBeginsWith j.seat.trace k.seat.trace → (call : Call) (r : Result Reply TryFault) → IfOk r (IsNoted layout j i call) → IfErr r (IsRefusedFor layout call j i) → IfOk r (IsNoted layout k i call) × IfErr r (IsRefusedFor layout call k i)
  outcome_then falls grown call (Ok reply) told refused = (noted_then call reply told, tt)
  outcome_then falls grown call (Err fault) told refused = (tt, refused_then falls grown call fault refused)

-- A part that was refused, and a round of collection, together are not noted.
module _ {G : Type 0} {table : TableView} {becomes : G → Event → G → Type 0} (k : PassView) (b c : SeatView × G) (first : IsUnnoted table.layout k (pass_of b.0)) (steps : k.steps ≤ b.0.known.steps)
    (settled : IsSettled b.0.known) (round : AreBetween table becomes b c) where
  pub round_later : k.steps ≤ c.0.known.steps
  round_later = let s = ap (λ (z : Known). z.steps) round.does.rest in omega arith

  pub then_collected : IsUnnoted table.layout k (pass_of c.0)
  then_collected = unnoted_then table.layout k (pass_of b.0) (pass_of c.0) first steps (does_unnoted round.does settled)

-- an attempt whose answer stands
pub once_asked : {G : Type 0} {table : TableView} {becomes : G → Event → G → Type 0} {a b : SeatView × G} (call : Call) (r : Result Reply TryFault) → is_full r ≡ false →
    HasAsked table becomes (IsOneAttempt table) call r a b → HasAsked table becomes (AreTries table becomes call r) call r a b
once_asked {table = table} {becomes = becomes} {a = a} {b = b} call r stands once = record { replied = once.replied; ended = ended_once table becomes call r a b stands once.ended; later = once.later }

-- a small round, or nothing, leaves no more uncommitted
pub tidied_bounds : {G : Type 0} {table : TableView} {becomes : G → Event → G → Type 0} (a b : SeatView × G) → Tidies table becomes a b → AtMost (uncommitted_in b.0.bounds) (uncommitted_in a.0.bounds)
tidied_bounds {G = G} a b (inl none) = λ kind. subst (λ (z : SeatView × G). uncommitted_in b.0.bounds kind ≤ uncommitted_in z.0.bounds kind) none (le_refl (uncommitted_in b.0.bounds kind))
tidied_bounds a b (inr small) = small.does.seat.4

-- a small round or nothing, and then the tries
module _ {G : Type 0} {table : TableView} {becomes : G → Event → G → Type 0} (a b c : SeatView × G) (call : Call) (r : Result Reply TryFault) (settled : IsSettled a.0.known)
    (asked : HasAsked table becomes (AreTries table becomes call r) call r b c) where
  pub tidied_asked : Tidies table becomes a b → HasAsked table becomes (AreAttempts table becomes call r) call r a c
  tidied_asked (inl none) =
      let seats : b.0 ≡ a.0 = ap (λ (z : SeatView × G). z.0) none in
      record {
        replied = subst (λ (z : SeatView). HasReplied table call r z c.0) seats asked.replied;
        ended = ended_tidied table becomes a b c (inl none) asked.ended;
        later = subst (λ (z : SeatView). z.known.steps ≤ c.0.known.steps) seats asked.later;
      }
  tidied_asked (inr small) =
      let later = small_later small in
      let both = outcome_then table.layout (pass_of a.0) (pass_of b.0) (pass_of c.0) (small_unnoted small settled) later small.does.seat.4 (does_begin table becomes a b small.does) call r asked.replied.noted asked.replied.refused in
      record {
        replied = record { idle = asked.replied.idle; noted = both.0; refused = both.1; leafless = asked.replied.leafless; loaded = le_trans later asked.replied.loaded };
        ended = ended_tidied table becomes a b c (inr small) asked.ended;
        later = le_trans later asked.later;
      }

  -- what it lacked
  pub tidied_lacks : (made : List Rec) → Tidies table becomes a b → HasLacked table made r b.0 c.0 → HasLacked table made r a.0 c.0
  tidied_lacks made (inl none) h = subst (λ (z : SeatView). HasLacked table made r z c.0) (ap (λ (z : SeatView × G). z.0) none) h
  tidied_lacks made (inr small) h = λ is.
      lacks_from_before table.layout b.0.bounds a.0.bounds c.0.known.pass c.0.known.pass c.0.known.failed c.0.known.failed a.0.known.steps b.0.known.steps (nodes_among made) small.does.seat.4 (small_later small) refl refl (h is)

  -- the small round is bounded, too
  pub tidied_few : Tidies table becomes a b → c.0.known.steps ≤ b.0.known.steps + twice_steps call table.layout → c.0.known.steps ≤ a.0.known.steps + try_steps call table.layout
  tidied_few (inl none) few = let s = ap (λ (z : SeatView × G). z.0.known.steps) none in omega (arith, few, s)
  tidied_few (inr small) few = let count = small_few small in omega (arith, few, count)

-- an attempt makes no more steps than two
pub once_few : (call : Call) (layout : Layout) → once_steps call layout ≤ twice_steps call layout
once_few (Insert key value) layout = omega arith
once_few (Upsert key value) layout = omega arith
once_few (Exchange key expected value) layout = omega arith
once_few (Add key delta) layout = omega arith
once_few (Get key) layout = omega arith
once_few (Remove key) layout = omega arith
once_few (RemoveIf key expected) layout = omega arith

-- a call that may be full may make two, and a round
pub twice_few : (call : Call) (layout : Layout) (k j : PassView) → MayTake call k j → twice_steps call layout ≡ 2 * once_steps call layout + round_steps layout
twice_few (Insert key value) layout k j may = refl
twice_few (Upsert key value) layout k j may = refl
twice_few (Exchange key expected value) layout k j may = absurd may
twice_few (Add key delta) layout k j may = absurd may
twice_few (Get key) layout k j may = absurd may
twice_few (Remove key) layout k j may = refl
twice_few (RemoveIf key expected) layout k j may = refl

-- nor does a get
pub get_few : (call : Call) (layout : Layout) (j k entries : ℕ) → j ≤ k + 36 + 26 * entries → entries ≤ 9 * MAX_BYTES → j ≤ k + try_steps call layout
get_few (Insert key value) layout j k entries few depth = omega (arith, few, depth)
get_few (Upsert key value) layout j k entries few depth = omega (arith, few, depth)
get_few (Exchange key expected value) layout j k entries few depth = omega (arith, few, depth)
get_few (Add key delta) layout j k entries few depth = omega (arith, few, depth)
get_few (Get key) layout j k entries few depth = omega (arith, few, depth)
get_few (Remove key) layout j k entries few depth = omega (arith, few, depth)
get_few (RemoveIf key expected) layout j k entries few depth = omega (arith, few, depth)

-- a fault for want of records is one
pub full_fault : (full : Full) → tries.IsFullFault (fault_of full)
full_fault OfNodes = tt
full_fault OfLeaves = tt

-- a call has not tried yet, or each try was refused
abbrev pub HasWaited : Layout → PassView → PassView → Type 0
HasWaited layout k j =
    (j ≡ k) ⊎ (IsUnnoted layout k j × (k.steps ≤ j.steps) × AtMost (uncommitted_in j.seat.bounds) (uncommitted_in k.seat.bounds) × RunBeginsWith j.seat.trace k.seat.trace)

-- it has been refused once more
pub waited_from_before : (layout : Layout) (k j i : PassView) → HasWaited layout k j → IsUnnoted layout j i → j.steps ≤ i.steps → AtMost (uncommitted_in i.seat.bounds) (uncommitted_in j.seat.bounds) → RunBeginsWith i.seat.trace j.seat.trace → HasWaited layout k i
waited_from_before layout k j i (inl none) next steps falls grown =
    inr (subst (λ (z : PassView). IsUnnoted layout z i × (z.steps ≤ i.steps) × AtMost (uncommitted_in i.seat.bounds) (uncommitted_in z.seat.bounds) × RunBeginsWith i.seat.trace z.seat.trace) none (next, steps, falls, grown))
waited_from_before layout k j i (inr (unnoted, early, fell, began)) next steps falls grown =
    inr (
      unnoted_then layout k j i unnoted early next,
      le_trans early steps,
      at_most_trans (uncommitted_in i.seat.bounds) (uncommitted_in j.seat.bounds) (uncommitted_in k.seat.bounds) falls fell,
      run_begins_on k.seat.trace j.seat.trace i.seat.trace began grown,
    )

-- the outcome of the last try is that of the call
pub waited_out : (table : TableView) (s m t : SeatView) (call : Call) (r : Result Reply TryFault) → HasWaited table.layout (pass_of s) (pass_of m) → HasReplied table call r m t → HasReplied table call r s t
waited_out table s m t call r (inl none) last = record {
  idle = last.idle;
  noted = subst (λ (z : PassView). IfOk r (IsNoted table.layout z (pass_of t) call)) none last.noted;
  refused = subst (λ (z : PassView). IfErr r (IsRefusedFor table.layout call z (pass_of t))) none last.refused;
  leafless = last.leafless;
  loaded = subst (λ (z : PassView). z.steps ≤ t.known.fresh.step) none last.loaded;
}
waited_out table s m t call r (inr some) last =
    let both = outcome_then table.layout (pass_of s) (pass_of m) (pass_of t) some.0 some.1 some.2 some.3 call r last.noted last.refused in record { idle = last.idle; noted = both.0; refused = both.1; leafless = last.leafless; loaded = le_trans some.1 last.loaded }

-- An attempt

module _ {G : Type 0} (table : TableView) (becomes : G → Event → G → Type 0) where
  -- steps that set and clear no pin leave it, and add no note
  pin_stays : (acts : List Act) (a b : SeatView × G) → All IsOfAttempt acts → Runs table becomes acts a b → b.0.known.pin ≡ a.0.known.pin
  pin_stays [] a b leave e = ap (λ (z : SeatView × G). z.0.known.pin) e
  pin_stays (act ∷ acts) a b leave (m, s, more) =
      pin_stays acts m b (All-tail IsOfAttempt act acts leave) more ∙ (act_leaves table.layout a.0.known m.0.known act s.event).pin (of_attempt_pin act (All-head IsOfAttempt act acts leave))

  notes_stay : (acts : List Act) (a b : SeatView × G) → Runs table becomes acts a b → b.0.known.notes ≡ a.0.known.notes
  notes_stay [] a b e = ap (λ (z : SeatView × G). z.0.known.notes) e
  notes_stay (act ∷ acts) a b (m, s, more) = notes_stay acts m b more ∙ (act_leaves table.layout a.0.known m.0.known act s.event).notes

  pub run_pinned : {locks : List Target} (a b : SeatView × G) → HasTried table becomes locks a b → IsSome a.0.known.pin → IsSome b.0.known.pin
  run_pinned a b run pinned = subst IsSome (sym (pin_stays run.acts a b run.each run.steps)) pinned

  pub run_same : {locks : List Target} (a b : SeatView × G) → HasTried table becomes locks a b → MakesNoAside a.0 b.0
  run_same a b run = runs_same table becomes run.acts a b run.steps

-- A pass that was settled is pinned, makes an attempt, has nothing then, and clears its pin.
module _ {G : Type 0} {table : TableView} {becomes : G → Event → G → Type 0} {locks : List Target} {a b c : SeatView × G} (d : SeatView × G) (settled : IsSettled a.0.known) (pins : Pins table becomes a b) (run : HasTried table becomes locks b c)
    (loaded : HasLoadedRoot b.0.known c.0.known) (rest : IsAtRest c.0.known) where
  pinned : b.0.known ≡ record a.0.known { pin = b.0.known.pin; round = b.0.known.round; steps = a.0.known.steps + 2 }
  pinned = pins.1.rest

  counted : a.0.known.steps ≤ b.0.known.steps
  counted = let s = ap (λ (z : Known). z.steps) pinned in omega arith

  gone_on : HasGoneOn a.0.known c.0.known
  gone_on = record {
    pass = (run_same table becomes b c run).2 ∙ pinned_pass pins;
    notes = notes_stay table becomes run.acts b c run.steps ∙ ap (λ (z : Known). z.notes) pinned;
    own = rest.own;
    locks = rest.locks;
    anchor = rest.anchor;
    front = begins_on a.0.known.front c.0.known.fresh.front c.0.known.front fresh loaded.new;
    fresh = fresh;
    now = le_trans counted loaded.from;
  }
    where
      fresh : BeginsWith c.0.known.fresh.front a.0.known.front
      fresh = subst (λ (z : List Change). BeginsWith c.0.known.fresh.front z) (pinned_front pins) loaded.old

  others_since : (later : List Change) → OthersGoOn b.0.known.pass b.0.known.front later → OthersGoOn a.0.known.pass a.0.known.front later
  others_since later h = subst (λ (z : ℕ × List Change). OthersGoOn z.0 z.1 later) (λ x. (pinned_pass pins x, pinned_front pins x)) h

  quiet : OthersGoOn b.0.known.pass b.0.known.front c.0.known.front → HasLooked a.0.known c.0.known
  quiet h = record { on = gone_on; others = others_since c.0.known.front h }

  -- what the call leaves that had this outcome
  abbrev Leaves : Call → Result Reply TryFault → Type 0
  Leaves call r = (IfOk r (IsNoted table.layout (pass_of a.0) (pass_of d.0) call) × IfErr r (IsRefusedFor table.layout call (pass_of a.0) (pass_of d.0))) × IsSettled d.0.known

  -- it found that nothing was to change
  when_looked : (call : Call) (reply : Reply) → tries.HasLooked c.0.known call reply → OthersGoOn b.0.known.pass b.0.known.front c.0.known.front →
      IsEvent table.layout ClearPin (change_notes {F = TryFault} call (Ok reply)) c.0.known d.0.known → Leaves call (Ok reply)
  when_looked call reply found h event =
      let no = looked_changes_nothing c.0.known call reply found in
      let silent : change_notes {F = TryFault} call (Ok reply) ≡ note_of call reply = ap (λ t k. record { place = place_by t call reply k; call = call; reply = reply } ∷ []) no in
      let n =
      noted table.layout call reply a.0 c.0.known d.0 settled (quiet h) (subst (λ s. IsEvent table.layout ClearPin s c.0.known d.0.known) silent event)
      (looked_right c.0.known call reply found) (λ p. no) in
      ((n.0, tt), n.1)

  -- it made its change
  when_changed : (call : Call) (reply : Reply) (x : Change) (was : Option ℕ) → IsChangeOf b.0.known.pass call reply x was → HasChanged b.0.known c.0.known x was →
      IsEvent table.layout ClearPin (change_notes {F = TryFault} call (Ok reply)) c.0.known d.0.known → Leaves call (Ok reply)
  when_changed call reply x was is changed event =
      let tells = change_told a.0.known.pass call reply x was (subst (λ q. IsChangeOf q call reply x was) (pinned_pass pins) is) in
      let last : change_notes {F = TryFault} call (Ok reply) ≡ note_last call reply = ap (λ t k. record { place = place_by t call reply k; call = call; reply = reply } ∷ []) tells.changed in
      let n =
      change_noted table.layout call reply a.0 c.0.known d.0 x was changed.before settled gone_on (subst (λ s. IsEvent table.layout ClearPin s c.0.known d.0.known) last event)
      (others_since changed.before changed.others) changed.front changed.fresh changed.was_held tells in
      ((n.0, tt), n.1)

  -- it had loaded the root before, in another call
  before : b.0.known.fresh.step < b.0.known.steps
  before =
      let s = ap (λ (z : Known). z.steps) pinned in
      let f = ap (λ (z : Known). z.fresh.step) pinned in
      omega (arith, settled.loaded, s, f)

  -- none is left out but those that the pass didn't know to be committed at the start
  falls : (call : Call) → AtMost (uncommitted_in (bounds_for call b.0.bounds)) (uncommitted_in a.0.bounds)
  falls call = at_most_trans (uncommitted_in (bounds_for call b.0.bounds)) (uncommitted_in b.0.bounds) (uncommitted_in a.0.bounds) (call_bounds_few call b.0.bounds) pins.1.seat.4

  -- the cause of an attempt is one by what contracts see
  cause_seen : (call : Call) (made : List Rec) (fault : TryFault) {said : Known → List Note} → StepsWith table becomes ClearPin said c d → OthersGoOn b.0.known.pass b.0.known.front c.0.known.front →
      (fault ≡ Busy → IsHindered table.layout b.0 c.0) → tries.IsAttemptCause table.layout (bounds_for call b.0.bounds) (key_of call) b.0.known c.0.known made fault → IsCause table.layout call (pass_of a.0) (pass_of d.0) fault
  cause_seen call made FullNodes step others hindered h =
      (nodes_among made, lacks_from_before table.layout (bounds_for call b.0.bounds) (bounds_for call a.0.bounds) c.0.known.pass d.0.known.pass c.0.known.failed d.0.known.failed a.0.known.steps b.0.known.steps (nodes_among made) (call_bounds_fall call b.0.bounds a.0.bounds pins.1.seat.4) counted step.seat.2 (ap (λ (z : Known). z.failed) step.event.learned_is) h)
  cause_seen call made FullLeaves step others hindered h =
      leaves_from_before table.layout (bounds_for call b.0.bounds) a.0.bounds (key_of call) (pass_of a.0) (pass_of b.0) (pass_of c.0) (pass_of d.0) (falls call) counted step.seat.2 (ap (λ (z : Known). z.failed) step.event.learned_is) h
  cause_seen call made Busy step others hindered h = record {
    pass = subst (λ q. q < table.layout.passes) (sym step.seat.2) (subst (λ (z : Layout). c.0.known.pass < z.passes) step.event.layout_is step.event.knows.pass);
    met = met_from_before table.layout (pass_of a.0) (pass_of b.0) (pass_of c.0) (pass_of d.0) counted step.seat.2 (ap (λ (z : Known). z.failed) step.event.learned_is)
        (ap (λ (z : Known). z.front) step.event.learned_is) (ap (λ (z : Known). z.fresh) step.event.learned_is) (⊎_elim
        (λ (met : HasMetLock table.layout b.0.known c.0.known). inl (subst (λ q. HasMetTaken table.layout q b.0.known.steps c.0.known.failed) (sym same) met))
        (λ (moved : (m : ℕ) × IsPinnedSince b.0.known m × (m < length c.0.known.front)). inr (overtaken pins run loaded before others (event_makers step.event) same moved.0 moved.1 moved.2))
        h);
    hindered = subst (λ q. HasBeenHindered table.layout q a.0 d.0) (sym (step.seat.2 ∙ (same ∙ pinned_pass pins))) (hindered_in_attempt pins step same others (runs_begin table becomes run.acts b c run.steps) (hindered refl));
  }
    where
      same : c.0.known.pass ≡ b.0.known.pass
      same = (run_same table becomes b c run).2

  -- what its search found since its pin was so by what contracts see
  found_seen : (key : Key) (held : Option ℕ) (m : ℕ) {said : Known → List Note} → IsEvent table.layout ClearPin said c.0.known d.0.known → IsPinnedSince c.0.known m →
      ((n : ℕ) × (m ≤ n) × (n ≤ length c.0.known.front) × (value_at (map_of (take n c.0.known.front)) key ≡ held)) → WasFound key held (pass_of a.0) (pass_of d.0)
  found_seen key held m event (p, pin, early) had = found_from_before key held (pass_of a.0) (pass_of a.0) (pass_of c.0) (pass_of d.0) (no_further refl)
      (no_further (ap (λ (z : Known). z.front) event.learned_is)) (ap (λ (z : Known). z.fresh) event.learned_is) there
    where
      set : b.0.known.pin ≡ Some p
      set = sym (pin_stays table becomes run.acts b c run.each run.steps) ∙ pin

      there : WasFound key held (pass_of a.0) (pass_of c.0)
      there = record {
        place = had.0;
        begun = le_trans (pins_after pins p set) (le_trans early had.1);
        since = subst (λ z. z ≤ had.0) (sym (under_pin pins run loaded before p set)) (le_trans early had.1);
        upto = had.2;
        found = had.3;
      }

  absent_seen : (key : Key) {said : Known → List Note} → IsEvent table.layout ClearPin said c.0.known d.0.known → tries.HasSeenKeyAbsent c.0.known key → WasFound key None (pass_of a.0) (pass_of d.0)
  absent_seen key event (m, pinned, missed) = found_seen key None m event pinned (missed_had c.0.known key m missed event.core event.lawful (event_recalls event))

  held_seen : (key : Key) (value : ℕ) {said : Known → List Note} → IsEvent table.layout ClearPin said c.0.known d.0.known → tries.HasSeenKeyHeld c.0.known key value → WasFound key (Some value) (pass_of a.0) (pass_of d.0)
  held_seen key value event (m, pinned, met) = found_seen key (Some value) m event pinned (met_had c.0.known key value m met event.core event.lawful (event_recalls event))

  may_take_seen : (call : Call) {said : Known → List Note} → IsEvent table.layout ClearPin said c.0.known d.0.known → tries.WantsRecord c.0.known call → MayTake call (pass_of a.0) (pass_of d.0)
  may_take_seen (Insert key value) event missed = absent_seen key event missed
  may_take_seen (Upsert key value) event missed = absent_seen key event missed
  may_take_seen (Exchange key expected value) event missed = absurd missed
  may_take_seen (Add key delta) event missed = absurd missed
  may_take_seen (Get key) event missed = absurd missed
  may_take_seen (Remove key) event (value, met) = (value, held_seen key value event met)
  may_take_seen (RemoveIf key expected) event met = held_seen key expected event met

  -- it was refused
  when_refused : (call : Call) (made : List Rec) (fault : TryFault) → HasRefused table.layout (bounds_for call b.0.bounds) (key_of call) b.0.known c.0.known made fault → tries.IsFullOnlyIfWanting c.0.known call fault →
      (fault ≡ Busy → IsHindered table.layout b.0 c.0) → StepsWith table becomes ClearPin (change_notes call (Err fault)) c d → Leaves call (Err fault)
  when_refused call made fault h new hindered step = (
    (
      tt,
      record {
        refused = record { unnoted = scan_refused a.0 d.0 settled (quiet h.others) step.event; full = λ full. may_take_seen call step.event (new full) };
        cause = cause_seen call made fault step h.others hindered h.cause;
      },
    ),
    scan_settled a.0 d.0 settled (quiet h.others) step.event,
  )

  -- whatever came of it
  pub tried : (call : Call) (made : List Rec) (r : Result Reply TryFault) → IfOk r (HasAnswered b.0.known c.0.known call) → IfErr r (HasRefused table.layout (bounds_for call b.0.bounds) (key_of call) b.0.known c.0.known made) →
      IfErr r (tries.IsFullOnlyIfWanting c.0.known call) → IfErr r (λ fault. fault ≡ Busy → IsHindered table.layout b.0 c.0) → StepsWith table becomes ClearPin (change_notes call r) c d → Leaves call r
  tried call made (Ok reply) (inl looked) refused new hindered step = when_looked call reply looked.0 looked.1 step.event
  tried call made (Ok reply) (inr (x, was, is, changed)) refused new hindered step = when_changed call reply x was is changed step.event
  tried call made (Err fault) answered refused new hindered step = when_refused call made fault refused new hindered step

  -- and what it lacked
  pub tried_lacks : {said : Known → List Note} (call : Call) (made : List Rec) (r : Result Reply TryFault) → IfErr r (HasRefused table.layout (bounds_for call b.0.bounds) (key_of call) b.0.known c.0.known made) → StepsWith table becomes ClearPin said c d → HasLacked table made r a.0 d.0
  tried_lacks call made (Ok reply) refused step = λ is. absurd (cc)
  tried_lacks call made (Err Busy) refused step = λ is. absurd (cc)
  tried_lacks call made (Err FullLeaves) refused step = λ is. absurd (cc)
  tried_lacks call made (Err FullNodes) refused step = λ is.
      lacks_from_before table.layout (bounds_for call b.0.bounds) a.0.bounds c.0.known.pass d.0.known.pass c.0.known.failed d.0.known.failed a.0.known.steps b.0.known.steps (nodes_among made) (falls call) counted
      (ap (λ (z : Known). z.pass) step.event.learned_is) (ap (λ (z : Known). z.failed) step.event.learned_is) refused.cause

  -- it has loaded the root
  pub tried_loaded : {said : Known → List Note} → StepsWith table becomes ClearPin said c d → a.0.known.steps ≤ d.0.known.fresh.step
  tried_loaded step = subst (λ (z : Known). a.0.known.steps ≤ z.fresh.step) (sym step.event.learned_is) (le_trans counted loaded.from)

  -- it has made no fewer steps
  pub tried_later : {said : Known → List Note} → StepsWith table becomes ClearPin said c d → a.0.known.steps ≤ d.0.known.steps
  tried_later step =
      let cleared : d.0.known.steps ≡ c.0.known.steps + 1 = ap (λ (z : Known). z.steps) step.event.learned_is in
      omega (arith, counted, loaded.from, loaded.upto, cleared)

pub waited_leafless : (call : Call) (r : Result Reply Full) → LacksNoLeaf FullLeaves call (last_try r) → LacksNoLeaf OfLeaves call r
waited_leafless (Get key) r h = tt
waited_leafless (Insert key value) r h = tt
waited_leafless (Upsert key value) r h = tt
waited_leafless (Exchange key expected value) r h = tt
waited_leafless (Add key delta) r h = tt
waited_leafless (Remove key) r h = λ is. h (ap last_try is)
waited_leafless (RemoveIf key expected) r h = λ is. h (ap last_try is)

-- a call that waits, and lacks no leaf record, is never refused so
leaves_of : (full : Full) → fault_of full ≡ FullLeaves → full ≡ OfLeaves
leaves_of OfNodes e = absurd (cc)
leaves_of OfLeaves e = refl

waits_leafless : (call : Call) (full : Full) → LacksNoLeaf {F = Full} OfLeaves call (Err full) → LacksNoLeaf FullLeaves call (Err (fault_of full))
waits_leafless (Get key) full h = tt
waits_leafless (Insert key value) full h = tt
waits_leafless (Upsert key value) full h = tt
waits_leafless (Exchange key expected value) full h = tt
waits_leafless (Add key delta) full h = tt
waits_leafless (Remove key) full h = λ e. h (ap Err (leaves_of full (let same : fault_of full ≡ FullLeaves = cc in same)))
waits_leafless (RemoveIf key expected) full h = λ e. h (ap Err (leaves_of full (let same : fault_of full ≡ FullLeaves = cc in same)))

-- a call that is no get is refused where it may be
may : (call : Call) (k j : PassView) (fault : TryFault) → ((key : Key) → call ≢ Get key) → LacksNoLeaf FullLeaves call (Err fault) → (tries.IsFullFault fault → MayTake call k j) → MayRefuse call fault
may (Insert key value) k j fault change h full = tt
may (Upsert key value) k j fault change h full = tt
may (Exchange key expected value) k j Busy change h full = tt
may (Exchange key expected value) k j FullNodes change h full = full tt
may (Exchange key expected value) k j FullLeaves change h full = full tt
may (Add key delta) k j Busy change h full = tt
may (Add key delta) k j FullNodes change h full = full tt
may (Add key delta) k j FullLeaves change h full = full tt
may (Get key) k j fault change h full = absurd (change key refl)
may (Remove key) k j Busy change h full = tt
may (Remove key) k j FullNodes change h full = tt
may (Remove key) k j FullLeaves change h full = h refl
may (RemoveIf key expected) k j Busy change h full = tt
may (RemoveIf key expected) k j FullNodes change h full = tt
may (RemoveIf key expected) k j FullLeaves change h full = h refl

module _ (layout : Layout) (k j : PassView) (call : Call) (change : (key : Key) → call ≢ Get key) where
  pub may_refuse : (r : Result Reply TryFault) → LacksNoLeaf FullLeaves call r → MatchResult r (IsNoted layout k j call) (IsRefused layout call k j) → IfErr r (MayRefuse call)
  may_refuse (Ok reply) h made = tt
  may_refuse (Err fault) h made = may call k j fault change h made.full

  -- where it waits
  pub waited_lacks : (r : Result Reply Full) → LacksNoLeaf OfLeaves call r → MatchResult (last_try r) (IsNoted layout k j call) (IsRefused layout call k j) → IfErr r (MayLack call)
  waited_lacks (Ok reply) h made = tt
  waited_lacks (Err full) h made = may call k j (fault_of full) change (waits_leafless call full h) made.full

-- and lacks then what it may lack
pub may_lack : (call : Call) (r : Result Reply TryFault) → IfErr r (MayRefuse call) → IfErr r (λ fault. (full : Full) → fault ≡ fault_of full → MayLack call full)
may_lack call (Ok reply) h = tt
may_lack call (Err fault) h = λ full e. subst (MayRefuse call) e h

-- what is said of changes is said of it
pub unless_get : (call : Call) (Gets Changes : Type 0) → ((key : Key) → call ≢ Get key) → Changes → GetsOr call Gets Changes
unless_get (Insert key value) Gets Changes change is = is
unless_get (Upsert key value) Gets Changes change is = is
unless_get (Exchange key expected value) Gets Changes change is = is
unless_get (Add key delta) Gets Changes change is = is
unless_get (Get key) Gets Changes change is = absurd (change key refl)
unless_get (Remove key) Gets Changes change is = is
unless_get (RemoveIf key expected) Gets Changes change is = is

-- A call on the seat of a pass of an index, as the index and the pass see it.
module _ {table index : TableView} {k : PassView} {s t : SeatView} {call : Call} (index_is : table ≡ index) (pass_is : pass_of s ≡ k) where
  pub replied_own : {r : Result Reply TryFault} → HasReplied table call r s t → Owns index (pass_of t)
  replied_own h = h.idle.0 ∙ ap (λ (z : TableView). z.id) index_is

  pub replied_outcome : (r : Result Reply TryFault) → HasReplied table call r s t → IsOutcome call r index k (pass_of t)
  replied_outcome r h = subst (λ (x : TableView × PassView). IsOutcome call r x.0 x.1 (pass_of t)) (λ e. (index_is e, pass_is e)) (both r h.noted h.refused)
    where
      both : (r : Result Reply TryFault) → IfOk r (IsNoted table.layout (pass_of s) (pass_of t) call) → IfErr r (IsRefusedFor table.layout call (pass_of s) (pass_of t)) →
          IsOutcome call r table (pass_of s) (pass_of t)
      both (Ok reply) noted refused = noted
      both (Err fault) noted refused = refused.refused

  pub replied_cause : (r : Result Reply TryFault) → HasReplied table call r s t → HasCause call r index k (pass_of t)
  replied_cause r h = subst (λ (x : TableView × PassView). HasCause call r x.0 x.1 (pass_of t)) (λ e. (index_is e, pass_is e)) (why r h.refused)
    where
      why : (r : Result Reply TryFault) → IfErr r (IsRefusedFor table.layout call (pass_of s) (pass_of t)) → HasCause call r table (pass_of s) (pass_of t)
      why (Ok reply) refused = tt
      why (Err fault) refused = refused.cause

  pub room_seen : (r : Result Reply TryFault) → KeepsSpare table.layout s t → FindsRoom table.layout call r s t → LeavesRoom index.layout call r k.seat t
  room_seen r spares finds = subst (λ (x : TableView × PassView). LeavesRoom x.0.layout call r x.1.seat t) (λ e. (index_is e, pass_is e)) (record { spares = spares; finds = finds })

  pub made_seen : {G : Type 0} {becomes : G → Event → G → Type 0} {g h : G} {r : Result Reply TryFault} → HasAsked table becomes (AreAttempts table becomes call r) call r (s, g) (t, h) → t.known.steps ≤ s.known.steps + try_steps call table.layout →
      HasMadeChangeSteps index becomes call r (k, g) (pass_of t, h)
  made_seen {becomes = becomes} {g = g} {h = h} {r = r} asked few =
      subst (λ (x : TableView × PassView). HasMadeChangeSteps x.0 becomes call r (x.1, g) (pass_of t, h)) (λ e. (index_is e, pass_is e)) (has_made table becomes (s, g) (t, h) asked.ended few asked.replied.loaded)

  -- a change that waits
  pub tries_seen : {G : Type 0} {becomes : G → Event → G → Type 0} {g h : G} (r : Result Reply Full) → MakesTries call r table becomes (pass_of s, g) (pass_of t, h) → MakesTries call r index becomes (k, g) (pass_of t, h)
  tries_seen {becomes = becomes} {g = g} {h = h} r made = subst (λ (x : TableView × PassView). MakesTries call r x.0 becomes (x.1, g) (pass_of t, h)) (λ e. (index_is e, pass_is e)) made

  -- a change that was tried and counted
  pub counted_seen : {G : Type 0} {becomes : G → Event → G → Type 0} {g h : G} (r : Result Reply Refusal) → IsTriedAndCounted call r table becomes (pass_of s, g) (pass_of t, h) → IsTriedAndCounted call r index becomes (k, g) (pass_of t, h)
  counted_seen {becomes = becomes} {g = g} {h = h} r made = subst (λ (x : TableView × PassView). IsTriedAndCounted call r x.0 becomes (x.1, g) (pass_of t, h)) (λ e. (index_is e, pass_is e)) made

-- a whole try of a change on its own seat
pub has_tried : {table : TableView} {s t : SeatView} {call : Call} {G : Type 0} {becomes : G → Event → G → Type 0} {g h : G} {r : Result Reply TryFault} → HasAsked table becomes (AreAttempts table becomes call r) call r (s, g) (t, h) → t.known.steps ≤ s.known.steps + try_steps call table.layout →
    KeepsSpare table.layout s t → FindsRoom table.layout call r s t → IsTried call r table becomes (pass_of s, g) (pass_of t, h)
has_tried {r = r} asked few spares finds = record {
  own = replied_own refl refl asked.replied;
  call = replied_outcome refl refl r asked.replied;
  cause = replied_cause refl refl r asked.replied;
  leafless = asked.replied.leafless;
  made = made_seen refl refl asked few;
  room = record { spares = spares; finds = finds };
}

-- and its steps, as the index and the pass see them
pub stepped_told : {table index : TableView} {k : PassView} {s t : SeatView} {G : Type 0} {becomes : G → Event → G → Type 0} {g h : G} {said : Known → List Note} → table ≡ index → pass_of s ≡ k →
    HasStepped table becomes said (s, g) (t, h) → s.known.steps ≤ t.known.fresh.step → HasMadeCallSteps index becomes (k, g) (pass_of t, h)
stepped_told {table = table} {s = s} {t = t} {becomes = becomes} {g = g} {h = h} index_is pass_is stepped loaded =
    subst (λ (x : TableView × PassView). HasMadeCallSteps x.0 becomes (x.1, g) (pass_of t, h)) (λ e. (index_is e, pass_is e)) (has_told table becomes (s, g) (t, h) stepped loaded)

-- one try more was refused
pub refused_again : {G : Type 0} {call : Call} {index : TableView} {becomes : G → Event → G → Type 0} (a b c : PassView × G) (refusals : List Refusal) (refusal : Refusal) →
    AreTriesRefused call refusals index becomes a b → IsTriedAndCounted call (Err refusal) index becomes b c → IsPassing refusal → AreTriesRefused call (refusals ++ refusal ∷ []) index becomes a c
refused_again {G = G} {call = call} {index = index} {becomes = becomes} a b c [] refusal none last passing =
    (c, subst (λ (z : PassView × G). IsTriedAndCounted call (Err refusal) index becomes z c) none last, passing, refl)
refused_again a b c (first ∷ refusals) refusal (m, one, passing, rest) last still = (m, one, passing, refused_again m b c refusals refusal rest last still)
