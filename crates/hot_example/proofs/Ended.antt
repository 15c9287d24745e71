-- What passes of the example have asked, call by call, and that it has ended in one run.
use Rattle.std.proofs.Common.{◌≡◌, ℕ, List, [], ◌∷◌, ◌++◌, refl, sym, ap, subst, ◌∙◌}
use Rattle.std.specs.Prelude.{Result, Ok, Err}
use Rattle.std.proofs.lemmas.List.{append_assoc}
use Rattle.finite_map.specs.declared.Call.{Call}
use Rattle.finite_map.specs.declared.Call.TheVariants.{Insert}
use Rattle.finite_map.specs.declared.Note.{Note}
use Rattle.finite_map.specs.declared.Reply.{Reply}
use Rattle.hot_index.specs.Handles.{HandleView, Stays}
use Rattle.hot_index.specs.Stamps.{HasSeenMore}
use Rattle.hot_index_calls.specs.Answers.{IsNoted, IsRefusedFor, fault_of}
use Rattle.hot_index_calls.specs.Asked.{last_try}
use Rattle.hot_index_calls.specs.Calls.{HasCause, IsOutcome, IsWaitedFor}
use Rattle.hot_index_calls.specs.Passes.{IsNewPass, Owns, PassView, pass_of}
use Rattle.hot_index_calls.specs.Traces.{HasMadeCallSteps, untold}
use Rattle.index_laws.specs.Joined.{HasGoneThrough, HasEndedAs, answered, call_of, called, new, notes_of_end, refused, steps_of}
use Rattle.index_laws.proofs.Joined.{two_that_meet_have_ended}
use Rattle.linearizability.specs.Configurations.{Happening, invokes, refuses, responds, shows, steps}
use Rattle.rowex_core.specs.declared.event.Act.{Act}
use Rattle.rowex_table.specs.Seats.{IsShownAll, TableView}
use Rattle.rowex_writing.specs.declared.plan.Full.{Full}
use Rattle.hot_example.specs.Ended.{HasMadeCalls, HaveEnded, asked_in}

asked_append : (xs ys : List Happening) → asked_in (xs ++ ys) ≡ asked_in xs ++ asked_in ys
asked_append [] ys = refl
asked_append (invokes q calls ∷ xs) ys = ap (λ l. calls ++ l) (asked_append xs ys) ∙ sym (append_assoc calls (asked_in xs) (asked_in ys))
asked_append (steps q act notes ∷ xs) ys = asked_append xs ys
asked_append (shows q front ∷ xs) ys = asked_append xs ys
asked_append (responds q notes ∷ xs) ys = asked_append xs ys
asked_append (refuses q ∷ xs) ys = asked_append xs ys

-- steps ask nothing
asked_stepping : (q : ℕ) (acts : List Act) (ys : List Happening) → asked_in (steps_of q acts ++ ys) ≡ asked_in ys
asked_stepping q [] ys = refl
asked_stepping q (act ∷ acts) ys = asked_stepping q acts ys

-- Pass q of the index, which was k, has inserted the key, and is j now.
module _ (q : ℕ) (key : List ℕ) (value : ℕ) (index : TableView) (k j : PassView) where
  abbrev call : Call
  call = Insert key value

  -- its call has ended, and so asks nothing more
  abbrev HasCeased : Type 0
  HasCeased = (ended : Happening) × HasEndedAs index.layout q (call ∷ []) k.seat j.seat ended × (asked_in (ended ∷ []) ≡ [])

  ceased : (begins : k ≡ pass_of k.seat) (ends : j ≡ pass_of j.seat) (result : Result Reply Full) →
      IsOutcome call (last_try result) index k j → HasCause call (last_try result) index k j → HasCeased
  ceased begins ends (Ok reply) h cause =
      let noted : IsNoted index.layout (pass_of k.seat) (pass_of j.seat) call reply =
      subst (λ x. IsNoted index.layout (pass_of k.seat) x call reply) ends (subst (λ x. IsNoted index.layout x j call reply) begins h) in
      (responds q (record { place = noted.place; call = call; reply = reply } ∷ []), answered call reply refl noted, refl)
  ceased begins ends (Err full) h cause =
      let denied : IsRefusedFor index.layout call (pass_of k.seat) (pass_of j.seat) (fault_of full) =
      subst (λ x. IsRefusedFor index.layout call (pass_of k.seat) x (fault_of full)) ends
      (subst (λ x. IsRefusedFor index.layout call x j (fault_of full)) begins (record { refused = h; cause = cause })) in
      (refuses q, refused call (fault_of full) refl denied tt, refl)

  inserted : (result : Result Reply Full) → IsOutcome call (last_try result) index k j → HasCause call (last_try result) index k j → HasMadeCallSteps index untold (k, tt) (j, tt) → (done : List Happening) →
      HasGoneThrough index q done k.seat → (then : List Happening) × HasGoneThrough index q then j.seat × (asked_in then ≡ asked_in done ++ call ∷ [])
  inserted result h cause told done was =
      let end = ceased told.begins told.ends result h cause in
      let notes : List Note = notes_of_end index told.acts told.last told.said k.seat j.seat told.steps in
      let rest : List Happening = steps q told.last notes ∷ end.0 ∷ [] in (
        done ++ call_of q (call ∷ []) told.acts told.last notes end.0,
        called was (call ∷ []) told.acts told.last told.said told.steps end.1,
        asked_append done (call_of q (call ∷ []) told.acts told.last notes end.0) ∙
            ap (λ l. asked_in done ++ call ∷ l) (asked_stepping q told.acts rest ∙ end.2),
      )

-- An insert is asked behind all before,
pub asks_more : (q : ℕ) (asked : List Call) (key : List ℕ) (value : ℕ) (result : Result Reply Full) (h j : HandleView) → HasMadeCalls q asked h →
    Stays (λ index k i. IsWaitedFor (Insert key value) result index untold (k, tt) (i, tt)) h j →
    HasMadeCalls q (asked ++ Insert key value ∷ []) j
asks_more q asked key value result h j was waited =
    let x = inserted q key value h.index h.pass j.pass result waited.pass.call waited.pass.cause waited.pass.told was.0 was.1 in
    (x.0, subst (λ i. HasGoneThrough i q x.0 j.pass.seat) (sym waited.index) x.1, x.2 ∙ ap (λ l. l ++ Insert key value ∷ []) was.2)

-- and by a new pass at first.
pub asks_first : (q : ℕ) (key : List ℕ) (value : ℕ) (result : Result Reply Full) (h j : HandleView) → IsNewPass q h.pass → Owns h.index h.pass →
    Stays (λ index k i. IsWaitedFor (Insert key value) result index untold (k, tt) (i, tt)) h j →
    HasMadeCalls q (Insert key value ∷ []) j
asks_first q key value result h j fresh own waited =
    let at : h.pass.seat.table ≡ h.index.id = sym (ap (λ (p : PassView). p.table) waited.pass.told.begins) ∙ own in
    asks_more q [] key value result h j ([], new (at, fresh.3, fresh.4, fresh.5), refl) waited

-- The passes of two handles, a and b, have asked these calls. Then they have met, and are c and d.
pub have_ended : (index : TableView) (asked asked_too : List Call) (a b c d : HandleView) → a.index ≡ index → b.index ≡ index → index.layout.passes ≡ 2 →
    HasMadeCalls 0 asked a → HasMadeCalls 1 asked_too b → IsShownAll a.index.layout a.pass.seat c.pass.seat × IsShownAll a.index.layout b.pass.seat d.pass.seat →
    c.pass.seat.trace ≡ d.pass.seat.trace → HasSeenMore a.pass c.pass × HasSeenMore b.pass d.pass → HaveEnded index asked asked_too c d
have_ended index asked asked_too a b c d here there two ours theirs shown traces more = record {
  ours = ours.0;
  theirs = theirs.0;
  one = a.pass.seat;
  other = b.pass.seat;
  ended = two_that_meet_have_ended index ours.0 theirs.0 a.pass.seat b.pass.seat c.pass.seat d.pass.seat two
      (subst (λ i. HasGoneThrough i 0 ours.0 a.pass.seat) here ours.1) (subst (λ i. HasGoneThrough i 1 theirs.0 b.pass.seat) there theirs.1)
      (subst (λ (i : TableView). IsShownAll i.layout a.pass.seat c.pass.seat) here shown.0)
      (subst (λ (i : TableView). IsShownAll i.layout b.pass.seat d.pass.seat) here shown.1) traces;
  calls = (ours.2, theirs.2);
  met = more;
}
