-- Where passes have ended in one run, and that their calls are linearizable then.
pub mod Coming
pub mod Interleaving
pub mod Moving
pub mod Placing
use Rattle.index_laws.proofs.Common.{◌≡◌, ◌≢◌, ⊎_elim, ℕ, suc, ◌<◌, List, [], ◌∷◌, if◌then◌else◌, refl, sym, ap, subst, ◌∙◌, arith, le_refl, cases_eq, ne_eqb, All-cons, All-nil, Event, after, opening, load_of, with_front, StepsWith, silent, SeatView, TableView, OthersStepOn, Change, BeginsWith, PassView, pass_of, untold, Happening, Configuration, none_some, begins_on, others_none}
use Rattle.rowex_table.specs.Seats.{IsShownAll}
use Rattle.rowex_table.specs.Traces.{RunBeginsWith}
use Rattle.hot_index.specs.Handles.{HandleView}
use Rattle.hot_index.specs.Stamps.{HasCaughtUp, HasStamped}
use Rattle.linearizability.specs.Histories.{PendingEndOrChangeAsAsked}
use Rattle.hot_index_calls.proofs.Traces.{ends_untold, runs_untold}
use Rattle.index_laws.specs.Joined.{HandleHasDone, HandlesAreLinearizable, HasGoneThrough, MadeNoLaterStep, HasSeenLeader, LoadedHaveEnded, OneRunIsAnExecution, SeeingIsDone, ShownHaveEnded, SilentStepsEnd, StepsNeedNoGate, TwoThatMeetHaveEnded, caught_up, idle, load_call, loader, new, of_two, shown as is_shown, stamped as has_stamped}
use Rattle.index_laws.specs.Traced.{configuration_of}
use Rattle.index_laws.proofs.Joined.Interleaving.{named_by, one_execution}
use Rattle.index_laws.proofs.Joined.Placing.{others_between}
use Rattle.index_laws.proofs.Executions.{executions_are_linearizable}
use Rattle.index_laws.proofs.Traced.{traced_are_executions}

pub one_run_is_an_execution : OneRunIsAnExecution
one_run_is_an_execution table run done seat x =
    let r = one_execution table run done seat x in
    let last : ℕ = r.0 in
    let moments : ℕ → Configuration = λ t. configuration_of table.layout (r.1 t) in
    let ends : PendingEndOrChangeAsAsked table.layout last last moments = λ q low call is. none_some call _ (sym (r.3.idle q low) ∙ is) in
    (last, r.1, r.2, r.3, executions_are_linearizable table.layout last last moments r.2 (le_refl last) (traced_are_executions table last r.1 r.2 r.3.traced) ends)

-- a pass that is shown a run that it began has made no other step of the run
others_shown : (table : TableView) (q : ℕ) (run : List Event) (done : List Happening) (seat shown : SeatView) → HasGoneThrough table q done seat → RunBeginsWith run seat.trace →
    IsShownAll table.layout seat shown → RunBeginsWith shown.trace run → OthersStepOn q seat.trace run
others_shown table q run done seat shown gone begun later begins =
    others_between q seat.trace run shown.trace (subst (λ p. OthersStepOn p seat.trace shown.trace) (named_by gone) later.run.others) begun begins

pub shown_have_ended : ShownHaveEnded
shown_have_ended table run done seat shown led each begun later begins = record {
  led = led;
  each = each;
  others = λ q low. others_shown table q run (done q) (seat q) (shown q) (each q low) (begun q low) (later q low) (begins q low);
}

-- Handles

-- what one has seen that follows, at the index
caught_at : {index : TableView} {was now leader led : HandleView} → was.index ≡ index → HasSeenLeader was now leader led → HasCaughtUp index.layout leader.pass.front was.pass now.pass
caught_at {was = was} {now = now} {leader = leader} here x = subst (λ (t : TableView). HasCaughtUp t.layout leader.pass.front was.pass now.pass) here x.follows.pass

pub seeing_is_done : SeeingIsDone
seeing_is_done index p q ours theirs was now leader led (here, is_seat, gone) (there, is_too, went) x =
    let caught = caught_at here x in
    let seat : now.pass ≡ pass_of now.pass.seat = caught.rest ∙ ap pass_of (sym (ap (λ (k : PassView). k.seat) caught.rest)) in
    let front : now.pass.front ≡ now.pass.seat.known.front = ap (λ (k : PassView). k.front) seat in
    let known : now.pass.seat.known ≡ with_front now.pass.seat.known.front was.pass.seat.known =
    ap (λ (k : PassView). k.seat.known) caught.rest ∙ ap (λ (l : List Change). with_front l was.pass.seat.known) front in
    let begins : BeginsWith now.pass.seat.known.front was.pass.seat.known.front =
    subst (λ (z : List Change × List Change). BeginsWith z.0 z.1) (λ i. (front i, ap (λ (k : PassView). k.front) is_seat i)) caught.unnoted.front in (
      (x.follows.index ∙ here, seat, is_shown gone caught.shown begins known),
      (
        x.stamped.index ∙ there,
        stamp is_too x.stamped.pass,
        has_stamped went (ap (λ (k : PassView). k.seat.known) x.stamped.pass) (ap (λ (k : PassView). k.seat.trace) x.stamped.pass),
      ),
      (caught.shown.run.core, caught.shown.run.led),
      x.traced,
    )
  where
    stamp : {k j : PassView} → k ≡ pass_of k.seat → HasStamped k j → j ≡ pass_of j.seat
    stamp {k} {j} is has =
        let now : j ≡ pass_of (record k.seat { asides = suc k.seat.asides }) = has ∙ ap (λ (z : PassView). let y : PassView = record z { seat = record k.seat { asides = suc k.seat.asides } } in y) is in
        now ∙ ap pass_of (sym (ap (λ (z : PassView). z.seat) now))

-- a handle that saw a leader has made no step of the run but those that it knew
saw_others : (index : TableView) (q : ℕ) (run : List Event) (done : List Happening) (was now leader led : HandleView) → HandleHasDone index q done was → RunBeginsWith run was.pass.seat.trace →
    HasSeenLeader was now leader led → RunBeginsWith leader.pass.seat.trace run → OthersStepOn q was.pass.seat.trace run
saw_others index q run done was now leader led (here, is_seat, gone) begun seen leads =
    others_shown index q run done was.pass.seat now.pass.seat gone begun (caught_at here seen).shown (begins_on run leader.pass.seat.trace now.pass.seat.trace leads seen.traced)

rested_others : (index : TableView) (q : ℕ) (run : List Event) (done : List Happening) (was : HandleView) → HandleHasDone index q done was → MadeNoLaterStep q run was → OthersStepOn q was.pass.seat.trace run
rested_others index q run done was does (idle others) = others
rested_others index q run done was does (caught_up now leader led begun seen leads) = saw_others index q run done was now leader led does begun seen leads

pub handles_are_linearizable : HandlesAreLinearizable
handles_are_linearizable index run done was table each rest =
    one_run_is_an_execution index run done (λ q. (was q).pass.seat) (record {
      led = table;
      each = λ q low. (each q low).2;
      others = λ q low. rested_others index q run (done q) (was q) (each q low) (rest q low);
    })

-- what is so of pass 0 and pass 1
pub of_both : {A : Type 0} (P : ℕ → A → Type 0) (x y : A) → P 0 x → P 1 y → (passes : ℕ) → passes ≡ 2 → (q : ℕ) → q < passes → P q (of_two x y q)
of_both P x y here there passes two q low = ⊎_elim
    (λ (e : q ≡ 0). subst (λ k. P k (of_two x y k)) (sym e) here)
    (λ (ne : q ≢ 0). let e : 1 ≡ q = omega (arith, two, low, ne) in subst (λ k. P k (of_two x y k)) e there)
    (cases_eq q 0)

pub both_done : (table : TableView) (ours theirs : List Happening) (s t : SeatView) → HasGoneThrough table 0 ours s → HasGoneThrough table 1 theirs t → (passes : ℕ) → passes ≡ 2 →
    (q : ℕ) → q < passes → HasGoneThrough table q (of_two ours theirs q) (of_two s t q)
both_done table ours theirs s t first second passes is q low = ⊎_elim
    (λ (e : q ≡ 0). subst (λ k. HasGoneThrough table k (of_two ours theirs k) (of_two s t k)) (sym e) first)
    (λ (ne : q ≢ 0). let e : 1 ≡ q = omega (arith, is, low, ne) in subst (λ k. HasGoneThrough table k (of_two ours theirs k) (of_two s t k)) e second)
    (cases_eq q 0)

pub two_that_meet_have_ended : TwoThatMeetHaveEnded
two_that_meet_have_ended table ours theirs s t u v two first second shown other same =
    let n : ℕ = table.layout.passes in
    let run : List Event = u.trace in
    record {
      led = (shown.run.core, shown.run.led);
      each = both_done table ours theirs s t first second n two;
      others = of_both (λ q (z : SeatView). OthersStepOn q z.trace run) s t
          (subst (λ p. OthersStepOn p s.trace run) (named_by first) shown.run.others)
          (subst (λ l. OthersStepOn 1 t.trace l) (sym same) (subst (λ p. OthersStepOn p t.trace v.trace) (named_by second) other.run.others)) n two;
    }

pub loaded_have_ended : LoadedHaveEnded
loaded_have_ended table words seat some load is fresh = record {
  led = (after (opening table.layout) 0 (load_of words), ((some, (refl, load)), refl));
  each = λ q low. ⊎_elim
      (λ (e : q ≡ 0). subst (λ k. HasGoneThrough table k (of_two ours [] k) (seat k)) (sym e) (loader refl words load is))
      (λ (ne : q ≢ 0). subst (λ d. HasGoneThrough table q d (seat q)) (sym (ap (λ b. if b then ours else []) (ne_eqb q 0 ne))) (new (fresh q (omega (arith, ne)) low)))
      (cases_eq q 0);
  others = λ q low. ⊎_elim
      (λ (e : q ≡ 0). subst (λ k. OthersStepOn k (seat k).trace run) (sym e) (subst (λ l. OthersStepOn 0 l run) (sym is.2) (others_none 0 run)))
      (λ (ne : q ≢ 0). subst (λ l. OthersStepOn q l run) (sym (fresh q (omega (arith, ne)) low).2)
      (run, refl, All-cons (λ (x : Event). x.pass ≢ q) the_load [] (λ e. ne (sym e)) (All-nil (λ (x : Event). x.pass ≢ q))))
      (cases_eq q 0);
}
  where
    the_load : Event
    the_load = record { pass = 0; act = load_of words }

    run : List Event
    run = the_load ∷ []

    ours : List Happening
    ours = load_call table.layout 0 words

pub silent_steps_end : SilentStepsEnd
silent_steps_end table act [] s e (m, step, is) =
    ([], act, refl, ((s, tt), refl, subst (λ (z : SeatView × Unit {0}). StepsWith table untold act silent (s, tt) z) (sym is) step))
silent_steps_end table act (next ∷ acts) s e (m, step, runs) =
    let h = silent_steps_end table next acts m.0 e runs in
    (act ∷ h.0, h.1, ap (λ l. act ∷ l) h.2, (h.3.0, (m, step, h.3.1), h.3.2))

-- Steps with a gate

pub steps_need_no_gate : {G : Type 0} (becomes : G → Event → G → Type 0) → StepsNeedNoGate becomes
steps_need_no_gate becomes table acts a b = (runs_untold table becomes acts a b, λ last said ends. ends_untold table becomes acts last said a b ends)
