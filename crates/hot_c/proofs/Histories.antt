-- What calls have told is what their passes have done.
pub mod Asked
pub mod Quiet
pub mod Telling
use Rattle.hot_c.proofs.Common.{◌≡◌, ⊎_elim, ℕ, suc, ◌<◌, ◌≤◌, List, [], ◌∷◌, ◌++◌, map, Option, None, Some, refl, sym, ap, subst, ◌∙◌, arith, append_assoc, append-nil, length, Result, IsPermutation, cases_lt, IsPermutation-refl, MAX_BYTES, Call, Get, Insert, Change, Note, Reply, Absent, Inserted, Value, LegalCalls, Layout, Act, Known, Does, Ends, Runs, silent, SeatView, TableView, GetsOr, loads_in, AreNoted, HasMadeGetManySteps, gets, IsNewPass, PassView, pass_of, untold, Refusal, HandleView, Stays, IsLoaderPass, pairs_noted, notes_of_response, Happening, responds, shows, steps, HandleHasDone, HasEndedAs, HasGoneThrough, HasSeenLeader, call_of, called, load_call, loader, many_ended, new, notes_of_end, quiet, shown, stamped, steps_of, handles_are_linearizable, seeing_is_done, silent_steps_end}
use Rattle.std.specs.Prelude.{All, ◌≢◌}
use Rattle.rowex_core.specs.Events.{after}
use Rattle.rowex_core.specs.Opening.{opening}
use Rattle.rowex_table.specs.Rule.{load_of}
use Rattle.rowex_table.specs.Traces.{IsTableRun}
use Rattle.rowex_table.proofs.Onward.{led_more}
use Rattle.tries.specs.Keys.{Key}
use Rattle.index_laws.specs.Executions.{insertion_notes}
use Rattle.index_laws.specs.Joined.{MadeNoLaterStep, caught_up, idle}
use Rattle.rowex_core.specs.declared.event.Event.{Event}
use Rattle.hot_c.specs.Calls.{Answers, FitsInKey, StaysOpen, TellsOutcome}
use Rattle.hot_c.specs.Committing.{TellsUncommitted}
use Rattle.hot_c.specs.Histories.{AreNotesOf, AsksNothing, CallsAreLinearizable, HasSeenAnother, HasToldAll, HaveTold, IsAt, asked, committed, followed, loaded, loaded_each, looked_up, more, none, answered_notes, opened, rested, saw, steps_known, told_of, told_of_each, was_seen, went_on}
use Rattle.hot_c.specs.Lookups.{LooksUpAll, are_answered, key_in}
use Rattle.hot_c.specs.Statuses.{value_after}
use Rattle.hot_c.specs.declared.lookups.Lookup.{Lookup}
use Rattle.hot_c.specs.declared.opened.Opened.{Opened}
use Rattle.hot_c.specs.declared.status.TheConstants.{BUSY, DONE, KEY_TOO_LONG}
use Rattle.hot_c.proofs.Histories.Asked.{Ended, call_ended, nothing_told, read_made}

-- The notes of happenings

answered_notes-append : (xs ys : List Happening) → answered_notes (xs ++ ys) ≡ answered_notes xs ++ answered_notes ys
answered_notes-append [] ys = refl
answered_notes-append (x ∷ xs) ys = ap (λ (l : List Note). notes_of_response x ++ l) (answered_notes-append xs ys) ∙ sym (append_assoc (notes_of_response x) (answered_notes xs) (answered_notes ys))

answered_notes-steps : (q : ℕ) (acts : List Act) (ys : List Happening) → answered_notes (steps_of q acts ++ ys) ≡ answered_notes ys
answered_notes-steps q [] ys = refl
answered_notes-steps q (act ∷ acts) ys = answered_notes-steps q acts ys

answered_notes-call : (q : ℕ) (calls : List Call) (acts : List Act) (last : Act) (notes : List Note) (ended : Happening) → answered_notes (call_of q calls acts last notes ended) ≡ notes_of_response ended
answered_notes-call q calls acts last notes ended = answered_notes-steps q acts (steps q last notes ∷ ended ∷ []) ∙ append-nil (notes_of_response ended)

-- The calls of one handle

-- what a handle's pass has done that has told this
pub record IsDone (index : TableView) (q : ℕ) (told : List (List (Call × Reply))) (h : HandleView) : Type 0 where
  pub done : List Happening
  pub gone : HandleHasDone index q done h
  pub notes : AreNotesOf told (answered_notes done)

some_in : (o p : Opened) → Some o ≡ Some p → o ≡ p
some_in o p e = cc

pub stays_at : {Became : TableView → PassView → PassView → Type 0} {o p : Opened} → StaysOpen Became (Some o) (Some p) → Stays Became o.handle p.handle
stays_at {Became} {o} {p} s = subst (λ (z : Opened). Stays Became z.handle p.handle) (sym (some_in o s.before s.was))
    (subst (λ (z : Opened). Stays Became s.before.handle z.handle) (sym (some_in p s.after s.is)) s.stays)

-- it goes on by steps of a call that ended so
module _ {index : TableView} {q : ℕ} {told : List (List (Call × Reply))} {h g : HandleView} (x : IsDone index q told h) (same : g.index ≡ h.index)
    (seat : g.pass ≡ pass_of g.pass.seat) (calls : List Call) (acts : List Act) (last : Act) (said : Known → List Note)
    (ends : Ends index untold acts last said (h.pass.seat, tt) (g.pass.seat, tt)) {ended : Happening} (so : HasEndedAs index.layout q calls h.pass.seat g.pass.seat ended) where
  abbrev the_call : List Happening
  the_call = call_of q calls acts last (notes_of_end index acts last said h.pass.seat g.pass.seat ends) ended

  gone_then : HandleHasDone index q (x.done ++ the_call) g
  gone_then = (same ∙ x.gone.0, seat, called x.gone.2 calls acts last said ends so)

  notes_then : answered_notes (x.done ++ the_call) ≡ answered_notes x.done ++ notes_of_response ended
  notes_then = answered_notes-append x.done the_call ∙ ap (λ (l : List Note). answered_notes x.done ++ l)
      (answered_notes-call q calls acts last (notes_of_end index acts last said h.pass.seat g.pass.seat ends) ended)

  pub tells : (replies : List (Call × Reply)) → IsPermutation replies (map (λ (n : Note). (n.call, n.reply)) (notes_of_response ended)) → IsDone index q (told ++ replies ∷ []) g
  tells replies are = record {
    done = x.done ++ the_call;
    gone = gone_then;
    notes = subst (AreNotesOf (told ++ replies ∷ [])) (sym notes_then) (more x.notes replies (notes_of_response ended) are);
  }

  pub tells_nothing : notes_of_response ended ≡ [] → IsDone index q told g
  tells_nothing silent = record {
    done = x.done ++ the_call;
    gone = gone_then;
    notes = subst (AreNotesOf told) (sym (notes_then ∙ ap (λ (l : List Note). answered_notes x.done ++ l) silent ∙ append-nil (answered_notes x.done))) x.notes;
  }

-- a call for a key

too_long : {index : TableView} {q : ℕ} {told : List (List (Call × Reply))} {o p : Opened} → IsDone index q told o.handle → (call : Call) (after status : ℕ) → status ≡ KEY_TOO_LONG → Some p ≡ Some o →
    IsDone index q (told ++ told_of call status after ∷ []) p.handle
too_long {index} {q} {told} {o} {p} x call after status long same =
    let silent : told_of call status after ≡ [] = nothing_told call status KEY_TOO_LONG after long refl in
    subst (λ (z : Opened). IsDone index q (told ++ told_of call status after ∷ []) z.handle) (sym (some_in p o same)) (record {
      done = x.done;
      gone = x.gone;
      notes = subst (λ (l : List (Call × Reply)). AreNotesOf (told ++ l ∷ []) (answered_notes x.done)) (sym silent)
          (subst (AreNotesOf (told ++ [] ∷ [])) (append-nil (answered_notes x.done)) (more x.notes [] [] (IsPermutation-refl [])));
    })

asked_done : {index : TableView} {q : ℕ} {told : List (List (Call × Reply))} {o p : Opened} → IsDone index q told o.handle → (key : List ℕ) (call : Call) (before after status : ℕ) →
    Answers key call (Some o) (Some p) before after status → GetsOr call (status ≢ BUSY) (Unit {0}) → IsDone index q (told ++ told_of call status after ∷ []) p.handle
asked_done {index} {q} {told} {o} {p} x key call before after status is never = ⊎_elim
    (λ (long : MAX_BYTES < length key). let h = is.long refl (λ fits. lt_not_le fits long) in too_long x call after status h.0 h.1)
    (λ (fits : length key ≤ MAX_BYTES). let h = is.made refl fits in came_to h.0 (stays_at h.1) h.2)
    (cases_lt MAX_BYTES (length key))
  where
    lt_not_le : length key ≤ MAX_BYTES → MAX_BYTES < length key → ⊥
    lt_not_le low high = omega (arith, low, high)

    came_to : (outcome : Result Reply Refusal) → Stays (TellsOutcome (length key) call status outcome) o.handle p.handle → after ≡ value_after before outcome →
        IsDone index q (told ++ told_of call status after ∷ []) p.handle
    came_to outcome stays left =
        let h : Ended index q call (told_of call status after) o.handle.pass p.handle.pass = call_ended index q (length key) call before after status outcome o.handle.pass p.handle.pass x.gone.1
        (subst (λ (t : TableView). TellsOutcome (length key) call status outcome t o.handle.pass p.handle.pass) x.gone.0 stays.pass) never left in
        tells x stays.index h.made.seat (call ∷ []) h.made.acts h.made.last h.made.said h.made.ends h.so (told_of call status after) h.told

-- many look-ups

each_told : (before : List Lookup) (found : List (Option ℕ)) → length found ≡ length before → told_of_each (are_answered before found) ≡ gets (map key_in before) found
each_told [] found same = refl
each_told (it ∷ rest) [] same = absurd (omega (arith, same))
each_told (it ∷ rest) (None ∷ found) same = ap (λ (l : List (Call × Reply)). (Get (key_in it), Absent) ∷ l) (each_told rest found (omega (arith, same)))
each_told (it ∷ rest) (Some value ∷ found) same = ap (λ (l : List (Call × Reply)). (Get (key_in it), Value value) ∷ l) (each_told rest found (omega (arith, same)))

looked_done : {index : TableView} {q : ℕ} {told : List (List (Call × Reply))} {o p : Opened} → IsDone index q told o.handle → (before after : List Lookup) → All (λ (it : Lookup). FitsInKey (key_in it)) before →
    LooksUpAll (Some o) (Some p) before after DONE → IsDone index q (told ++ told_of_each after ∷ []) p.handle
looked_done {index} {q} {told} {o} {p} x before after fit is = ⊎_elim
    (λ h. found_all h.1 h.2 (stays_at h.3) h.4)
    (λ h. absurd (omega (arith, h.0)))
    (is.made refl fit)
  where
    found_all : (found : List (Option ℕ)) → length found ≡ length before →
        Stays (λ t k j. AreNoted t.layout k j (gets (map key_in before) found) × HasMadeGetManySteps t untold (length before) (k, tt) (j, tt)) o.handle p.handle → after ≡ are_answered before found →
        IsDone index q (told ++ told_of_each after ∷ []) p.handle
    found_all found many stays told_are =
        let asked_for : List (Call × Reply) = gets (map key_in before) found in
        let both = subst (λ (t : TableView). AreNoted t.layout o.handle.pass p.handle.pass asked_for × HasMadeGetManySteps t untold (length before) (o.handle.pass, tt) (p.handle.pass, tt)) x.gone.0 stays.pass in
        let made = read_made both.1.read in
        let noted : AreNoted index.layout (pass_of o.handle.pass.seat) (pass_of p.handle.pass.seat) asked_for =
        subst (λ (z : PassView × PassView). AreNoted index.layout z.0 z.1 asked_for) (λ i. (x.gone.1 i, made.seat i)) both.0 in
        tells x stays.index made.seat (map (λ (z : Call × Reply). z.0) asked_for) made.acts made.last made.said made.ends (many_ended asked_for refl noted) (told_of_each after)
        (subst (λ (l : List (Call × Reply)). IsPermutation l (map (λ (n : Note). (n.call, n.reply)) noted.added)) (sym (ap told_of_each told_are ∙ each_told before found many)) noted.calls_are)

-- a call that asked nothing

quiet_end : {layout : Layout} {q : ℕ} {k j : PassView} → k ≡ pass_of k.seat → j ≡ pass_of j.seat → j.notes ≡ k.notes → LegalCalls j.front j.number j.notes →
    HasEndedAs layout q [] k.seat j.seat (responds q [])
quiet_end {k = k} {j = j} is made same legal = quiet refl (sym (ap (λ (z : PassView). z.notes) made) ∙ same ∙ ap (λ (z : PassView). z.notes) is)
    (subst (λ (z : PassView). LegalCalls z.front z.number z.notes) made legal)

module _ {index : TableView} {q : ℕ} {told : List (List (Call × Reply))} {h g : HandleView} (x : IsDone index q told h) (same : g.index ≡ h.index)
    (notes : g.pass.notes ≡ h.pass.notes) (legal : LegalCalls g.pass.front g.pass.number g.pass.notes) (seat : g.pass ≡ pass_of g.pass.seat) where
  steps_done : (acts : List Act) → Runs index untold acts (h.pass.seat, tt) (g.pass.seat, tt) → IsDone index q told g
  steps_done [] still = record {
    done = x.done;
    gone = (same ∙ x.gone.0, seat, subst (HasGoneThrough index q x.done) (sym (ap (λ (z : SeatView × Unit {0}). z.0) still)) x.gone.2);
    notes = x.notes;
  }
  steps_done (act ∷ acts) runs =
      let r = silent_steps_end index act acts h.pass.seat g.pass.seat runs in
      tells_nothing x same seat [] r.0 r.1 silent r.3 (quiet_end x.gone.1 seat notes legal) refl

-- the steps of what was done
done_by : {index : TableView} {changed : Known → Known → Known} {acts : List Act} {a b : SeatView × Unit {0}} → Does index untold changed acts a b → (steps : List Act) × Runs index untold steps a b
done_by {acts = acts} x = (acts, x.steps)

went_done : {index : TableView} {q : ℕ} {told : List (List (Call × Reply))} {o p : Opened} → IsDone index q told o.handle → StaysOpen AsksNothing (Some o) (Some p) → IsDone index q told p.handle
went_done {index} {q} {told} {o} {p} x is =
    let stays = stays_at is in
    let nothing : AsksNothing index o.handle.pass p.handle.pass = subst (λ (t : TableView). AsksNothing t o.handle.pass p.handle.pass) x.gone.0 stays.pass in
    ⊎_elim
    (λ h. let made = read_made h.1.read in
    tells_nothing x stays.index made.seat [] made.acts made.last made.said made.ends (quiet_end x.gone.1 made.seat nothing.same nothing.legal) refl)
    (λ h. ⊎_elim
    (λ round. let r = done_by round.2.round.does in steps_done x stays.index nothing.same nothing.legal round.2.ends r.0 r.1)
    (λ count. steps_done x stays.index nothing.same nothing.legal count.1.ends (loads_in index.layout count.1.tags) count.1.steps) h)
    nothing.made

-- what another had seen

leader_seen : {o p l m : Opened} → HasSeenAnother o p l m → HasSeenLeader o.handle p.handle l.handle m.handle
leader_seen {o} {p} {l} {m} x =
    let h = x.sees.seen l refl refl in
    let by = x.steps o p l m refl refl refl refl in
    record { follows = stays_at h.1; traced = by.0; stamped = record { index = (stays_at h.2).index; pass = by.1 } }

shown_done : {index : TableView} {q : ℕ} {told : List (List (Call × Reply))} {h g : HandleView} (x : IsDone index q told h) (front : List Change) → HandleHasDone index q (x.done ++ shows q front ∷ []) g →
    IsDone index q told g
shown_done {q = q} {told = told} x front gone = record {
  done = x.done ++ shows q front ∷ [];
  gone = gone;
  notes = subst (AreNotesOf told) (sym (answered_notes-append x.done (shows q front ∷ []) ∙ append-nil (answered_notes x.done))) x.notes;
}

-- a call that committed records, or found how many are uncommitted
committed_done : {index : TableView} {q : ℕ} {told : List (List (Call × Reply))} {o p : Opened} → IsDone index q told o.handle → (kind count : ℕ) →
    StaysOpen (TellsUncommitted kind count) (Some o) (Some p) → IsDone index q told p.handle
committed_done {o = o} {p = p} x kind count is =
    let stays = stays_at is in let found = stays.pass.2.0 in
    shown_done x o.handle.pass.seat.known.front (
      stays.index ∙ x.gone.0,
      found ∙ ap pass_of (sym (ap (λ (k : PassView). k.seat) found)),
      stamped x.gone.2 (ap (λ (k : PassView). k.seat.known) found) (ap (λ (k : PassView). k.seat.trace) found),
    )

-- a handle that was opened

new_done : {index : TableView} {q : ℕ} {h : HandleView} → IsNewPass q h.pass → IsAt index h → IsDone index q [] h
new_done {index} is at = record {
  done = [];
  gone = (at.index_is, at.seat, new (sym (ap (λ (k : PassView). k.table) at.seat) ∙ at.own, is.3, is.4, is.5));
  notes = none;
}

pairs_told : (n : ℕ) (pairs : List (Key × ℕ)) → map (λ (z : Note). (z.call, z.reply)) (pairs_noted n pairs) ≡ loaded_each pairs
pairs_told n [] = refl
pairs_told n (x ∷ xs) = ap (λ (l : List (Call × Reply)). (Insert x.0 x.1, Inserted) ∷ l) (pairs_told (suc n) xs)

loaded_done : {index : TableView} {q : ℕ} {h : HandleView} → q ≡ 0 → (pairs : List (Key × ℕ)) → IsLoaderPass index pairs h.pass → IsAt index h → IsDone index q (loaded_each pairs ∷ []) h
loaded_done {index} {q} {h} first pairs is at =
    let notes : List Note = insertion_notes index.layout is.words in
    let noted : notes ≡ pairs_noted 0 pairs = sym (ap (λ (k : PassView). k.notes) at.seat ∙ ap (λ (k : Known). k.notes) is.seat.1) ∙ is.notes in
    let are : map (λ (z : Note). (z.call, z.reply)) notes ≡ loaded_each pairs = ap (map (λ (z : Note). (z.call, z.reply))) noted ∙ pairs_told 0 pairs in
    record {
      done = load_call index.layout q is.words;
      gone = (at.index_is, at.seat, loader first is.words is.load is.seat);
      notes = subst (AreNotesOf (loaded_each pairs ∷ [])) (sym (append-nil notes))
          (more none (loaded_each pairs) notes (subst (IsPermutation (loaded_each pairs)) (sym are) (IsPermutation-refl (loaded_each pairs))));
    }

-- each handle has done what its calls have told
pub is_done : {index : TableView} {q : ℕ} {told : List (List (Call × Reply))} {h : HandleView} → HaveTold index q told h → IsDone index q told h
is_done (opened is at) = new_done is at
is_done (loaded first pairs is at) = loaded_done first pairs is at
is_done (asked x key call before after status is never) = asked_done (is_done x) key call before after status is never
is_done (looked_up x before after fit is) = looked_done (is_done x) before after fit is
is_done (went_on x is) = went_done (is_done x) is
is_done (committed x kind count is) = committed_done (is_done x) kind count is
is_done {index} (saw {pass = q} {other = r} {old = o} {new = p} {leader = l} {led = m} x y seen) =
    let mine = is_done x in let other = is_done y in
    shown_done mine p.handle.pass.seat.known.front (seeing_is_done index q r mine.done other.done o.handle p.handle l.handle m.handle mine.gone other.gone (leader_seen seen)).0
is_done {index} (was_seen {pass = q} {other = r} {old = o} {new = p} {leader = l} {led = m} x y seen) =
    let mine = is_done x in let other = is_done y in
    shown_done mine l.handle.pass.seat.known.front (seeing_is_done index r q other.done mine.done o.handle p.handle l.handle m.handle other.gone mine.gone (leader_seen seen)).1

-- All handles

-- the steps of which a pass knows are a run of its table
gone_is_run : {index : TableView} {q : ℕ} {done : List Happening} {s : SeatView} → q < index.layout.passes → HasGoneThrough index q done s → IsTableRun index.layout s.trace
gone_is_run {index} low (new is) = subst (IsTableRun index.layout) (sym is.2) (opening index.layout, refl)
gone_is_run {index} low (loader first words load is) =
    let some : 0 < index.layout.passes = subst (λ n. n < index.layout.passes) first low in
    subst (IsTableRun index.layout) (sym is.2) (after (opening index.layout) 0 (load_of words), ((some, (refl, load)), refl))
gone_is_run {index} low (called x calls acts last said ends so) =
    let step = ends.2 in
    let q : ℕ = ends.0.0.known.pass in
    subst (IsTableRun index.layout) (sym step.next.next_is) (after step.event.core q last, led_more (opening index.layout) step.next.before step.event.core q last step.next.led step.event.legal)
gone_is_run low (shown x all front known) = (all.run.core, all.run.led)
gone_is_run {index} low (stamped x known trace) = subst (IsTableRun index.layout) (sym trace) (gone_is_run low x)

-- what a pass has told that has told all, and that it rests
told_so : {index : TableView} {run : List Event} {q : ℕ} {told : List (List (Call × Reply))} {h : HandleView} → HasToldAll index run q told h → HaveTold index q told h
told_so (rested has others) = has
told_so (followed has begun seen leads) = has

rests : {index : TableView} {run : List Event} {q : ℕ} {told : List (List (Call × Reply))} {h : HandleView} → HasToldAll index run q told h → MadeNoLaterStep q run h
rests (rested has others) = idle others
rests (followed {now = now} {leader = leader} {led = led} has begun seen leads) = caught_up now.handle leader.handle led.handle begun (leader_seen seen) leads

module _ (index : TableView) (told : ℕ → List (List (Call × Reply))) (was : ℕ → HandleView) (each : (q : ℕ) → q < index.layout.passes → HaveTold index q (told q) (was q)) where
  -- what each pass has done; nothing for a number that is no pass's
  record Lived (q : ℕ) : Type 0 where
    pub done : List Happening
    pub gone : q < index.layout.passes → HandleHasDone index q done (was q)
    pub notes : q < index.layout.passes → AreNotesOf (told q) (answered_notes done)

  lived : (q : ℕ) → Lived q
  lived q = ⊎_elim
      (λ (low : q < index.layout.passes). let x = is_done (each q low) in record { done = x.done; gone = λ _. x.gone; notes = λ _. x.notes })
      (λ (high : index.layout.passes ≤ q). record { done = []; gone = λ low. absurd (never low high); notes = λ low. absurd (never low high) })
      (cases_lt q index.layout.passes)
    where
      never : {n m : ℕ} → n < m → m ≤ n → ⊥
      never low high = omega (arith, low, high)

pub calls_are_linearizable : CallsAreLinearizable
calls_are_linearizable index told was p low others all so told_all =
    let each : (q : ℕ) → q < index.layout.passes → HaveTold index q (told q) (was q) = λ q below. told_so (told_all q below) in
    let done : ℕ → List Happening = λ q. (lived index told was each q).done in
    let r = handles_are_linearizable index (steps_known all) done was
    (gone_is_run low (is_done so).gone.2) (λ q. (lived index told was each q).gone) (λ q below. rests (told_all q below)) in
    (done, r.0, r.1, r.2, (λ q. (lived index told was each q).notes), r.3, r.4)
