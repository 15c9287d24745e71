-- An attempt that does nothing, and what the one before it was refused for.
use Rattle.rowex_writing.specs.attempts.Attempts.{bounds_for}
use Rattle.hot_index_calls.proofs.Common.{Call, key_of, le_refl, ◌≡◌, ℕ, ◌+◌, List, [], ◌∷◌, Option, None, Err, true, refl, sym, ap, subst, ◌∙◌, arith, Contains, false≢true, append-nil, All-nil, Note, LegalCalls, BeginsWith, ClearPin, Event, Layout, Rec, a_leaf, Failed, Known, word_of, StepsWith, silent, TableView, SeatView, IsOfAttempt, Pins, HasMissedSince, IsAnothers, LacksLeaves, LacksNodes, AreAttemptSteps, IsOfSearch, TryFault, Busy, FullNodes, FullLeaves, Full, Nodes, Leaves, lacks_so, run_failed}
use Rattle.record_words.specs.Layout.{uncommitted_in}
use Rattle.hot_index_calls.specs.Answers.{IsCause, IsUnnoted, fault_of}
use Rattle.hot_index_calls.specs.Passes.{AreByPasses, IsSettled, PassView, pass_of}
use Rattle.hot_index_calls.specs.Traces.{HasEnded, IsAttempt, is_full}
use Rattle.hot_index_calls.proofs.Noting.{cleared, event_makers}
use Rattle.hot_index_calls.proofs.Passes.Collected.{AreBetween}
use Rattle.hot_index_calls.proofs.Traces.{attempt_ended}

no_steps : {layout : Layout} → AreAttemptSteps layout []
no_steps = record {
  search = [];
  rest = [];
  acts_are = refl;
  searches = All-nil IsOfSearch;
  pinned = All-nil IsOfAttempt;
  once = tt;
  depth = omega arith;
  locks = omega arith;
  few = omega arith;
}

module _ {G : Type 0} {table : TableView} {becomes : G → Event → G → Type 0} (a b d : SeatView × G) (settled : IsSettled a.0.known) (pins : Pins table becomes a b) (clears : StepsWith table becomes ClearPin silent b d) where
  -- but for the round and the number of its steps the pass knows what it knew
  kept : d.0.known ≡ record a.0.known { pin = None; round = b.0.known.round; steps = a.0.known.steps + 2 + 1 }
  kept =
      clears.event.learned_is ∙ (ap (λ (z : List Note). record (cleared b.0.known) { notes = z }) (append-nil b.0.known.notes) ∙ ap (λ (z : Known). record (cleared z) { notes = z.notes }) pins.1.rest)

  pub rests_settled : IsSettled d.0.known
  rests_settled = subst IsSettled (sym kept) (record {
    own = settled.own;
    locks = settled.locks;
    anchor = settled.anchor;
    pin = refl;
    fresh = settled.fresh;
    loaded = (let l = settled.loaded in omega arith);
    legal = settled.legal;
  })

  pub rests_unnoted : IsUnnoted table.layout (pass_of a.0) (pass_of d.0)
  rests_unnoted = record {
    number = ap (λ (z : Known). z.pass) kept;
    front = subst (λ (z : Known). BeginsWith z.front a.0.known.front) (sym kept) ([], sym (append-nil a.0.known.front));
    notes = ap (λ (z : Known). z.notes) kept;
    legal = subst (λ (z : Known). LegalCalls z.front z.pass z.notes) (sym kept) settled.legal;
    makers = subst (λ (z : Known). AreByPasses table.layout z.front) (sym kept) (event_makers pins.1.steps.1.event);
  }

  pub rests_failed : d.0.known.failed ≡ a.0.known.failed
  rests_failed = ap (λ (z : Known). z.failed) kept

  pub rests_fresh : d.0.known.fresh ≡ a.0.known.fresh
  rests_fresh = ap (λ (z : Known). z.fresh) kept

  pub rests_steps : d.0.known.steps ≡ a.0.known.steps + 3
  rests_steps = let e = ap (λ (z : Known). z.steps) kept in omega (arith, e)

  pub rests_ended : HasEnded table becomes (IsAttempt table.layout) silent a d
  rests_ended = attempt_ended table becomes a b b d pins ([], no_steps, refl) clears

-- A round of collection follows, and then no step fails: what the call was refused for as full stays a cause.
module _ {G : Type 0} {table : TableView} {becomes : G → Event → G → Type 0} (call : Call) (k : PassView) (b c d : SeatView × G) (round : AreBetween table becomes b c)
    (failed : d.0.known.failed ≡ c.0.known.failed) (number : d.0.known.pass ≡ c.0.known.pass) where
  same : d.0.known.pass ≡ b.0.known.pass
  same = number ∙ ap (λ (z : Known). z.pass) round.does.rest

  missed_still : (Whose : Rec → Option ℕ → Type 0) (r : Rec) → HasMissedSince Whose b.0.known.failed r k.steps → HasMissedSince Whose d.0.known.failed r k.steps
  missed_still Whose r (step, late, (act, word, tells, one, has)) =
      let x : Failed = record { act = act; location = word_of r 0; word = word; step = step } in
      (step, late, (act, word, tells, one, subst (λ (z : List Failed). Contains z x) (sym failed) (run_failed table becomes (round.first ∷ round.rest) b c round.does.steps x has)))

  pub lacks_still : (bounds : List ℕ) (own : List Rec) → LacksNodes table.layout bounds b.0.known.pass b.0.known.failed k.steps own → LacksNodes table.layout bounds d.0.known.pass d.0.known.failed k.steps own
  lacks_still bounds own l =
      subst (λ q. LacksNodes table.layout bounds q d.0.known.failed k.steps own) (sym same)
      (lacks_so table.layout bounds bounds b.0.known.pass b.0.known.failed d.0.known.failed k.steps k.steps own (λ kind. le_refl (uncommitted_in bounds kind)) l missed_still)

  pub cause_still : (fault : TryFault) → is_full (Err fault) ≡ true → IsCause table.layout call k (pass_of b.0) fault → IsCause table.layout call k (pass_of d.0) fault
  cause_still Busy full cause = absurd (false≢true full)
  cause_still FullNodes full (own, l) = (own, lacks_still (bounds_for call k.seat.bounds) own l)
  cause_still FullLeaves full all =
      subst (λ q. LacksLeaves table.layout k.seat.bounds (key_of call) q d.0.known.failed k.steps) (sym same) (λ q low room upto. missed_still (IsAnothers table.layout b.0.known.pass [] []) (a_leaf q) (all q low room upto))

-- one that lacked these was refused as full
pub lacked_full : (full : Full) → is_full (Err (fault_of full)) ≡ true
lacked_full Nodes = refl
lacked_full Leaves = refl
