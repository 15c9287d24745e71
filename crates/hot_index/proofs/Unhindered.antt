-- A call that is alone is not hindered: what no other pass had when it began, none has while it runs.
use Rattle.hot_index.proofs.Common.{◌≡◌, ◌≢◌, inl, inr, ⊎_elim, ℕ, ◌<◌, ◌≤◌, List, [], ◌∷◌, ◌++◌, length, Bool, true, false, ◌&&◌, if◌then◌else◌, Option, Some, None, Result, Ok, Err, IsOk, refl, sym, ap, subst, ◌∙◌, arith, append-nil, append_assoc, length-append, All, ne_eqb, append_cancel_left, All-head, All-nil, All-tail, get_or_from_slice_get, slice_get_within, Call, Change, Reply, BeginsWith, Layout, Rec, a_node, IsLockable, ClearPin, Event, Known, Core, IsLawful, holder_of, IsFact, IsStillLoaded, Knows, after, opening, AreOthers, EventsLead, knows_all, SeatView, TableView, lead_layout, front_on, Full, TryFault, Busy, FullLeaves, FullNodes, NoChangeFrom, no_change_from_later, runs_begin, IsCause, MayTake, AreTriesRefused, HasCause, IsResultOfLast, IsOutcome, IsTried, IsTriedAndCounted, MakesTries, loads_in, change_notes, FollowsTry, IsCountedAfter, as_tried, Refusal, IsNewPass, PassView, All-part}
use Rattle.std.specs.Prelude.{Contains}
use Rattle.std.specs.Result.{IsErr}
use Rattle.std.proofs.lemmas.List.Elements.{All-cons}
use Rattle.rowex_core.specs.Events.{Legal}
use Rattle.rowex_core.specs.declared.event.Act.{Act}
use Rattle.rowex_core.proofs.Cores.{stays_lawful}
use Rattle.versions.specs.Core.{Fate, Free, Held, Ready, InTree, Unlinked, Marked}
use Rattle.rowex_core.specs.declared.known.Holding.TheVariants.{Held as HeldRecord, Ready as ReadyRecord, Unlinked as UnlinkedRecord}
use Rattle.rowex_core.specs.declared.known.View.TheVariants.{Pass as a_pass}
use Rattle.rowex_core.specs.Sharing.{anchored_at, holding_of, is_by, is_in_tree, locked, owned}
use Rattle.rowex_core.proofs.Runs.{runs_keep, runs_stay_lawful}
use Rattle.rowex_table.specs.Traces.{OthersStepOn, RunBeginsWith}
use Rattle.rowex_table.proofs.Runs.Linking.{lead_rest}
use Rattle.rowex_table.proofs.Onward.{begins_itself, begins_on, of_one_run, others_begin}
use Rattle.rowex_table.proofs.Runs.{runs_same}
use Rattle.rowex_writing.specs.locks.Others.{HoldsLock, HasMadeSince}
use Rattle.hot_index_calls.specs.Alone.{HasBeenHindered, HoldsNone, RunsAlone}
use Rattle.hot_index_calls.specs.declared.refusals.Refusal.TheVariants.{Busy as IsBusy, HeldBack, Full as IsFull}
use Rattle.hot_index_calls.proofs.Hindered.{ends_begin}
use Rattle.hot_index.specs.Alone.{AloneCallsEnd, TakesNone}

-- ---- a pass that has nothing
-- what it knows, if it has seen all changes
abbrev pub known_bare : Core → ℕ → Known
known_bare c p = record {
  pass = p;
  front = c.changes;
  fresh = record { front = []; step = 0; pinned = 0 };
  notes = [];
  steps = 1;
  failed = [];
  facts = [];
  own = [];
  locks = [];
  anchor = None;
  values = [];
  pin = c.pins p;
  round = c.rounds p;
}

not_held : (p : ℕ) (f : Fate) → holder_of f ≢ Some p → holding_of p f ≡ None
not_held p Free none = refl
not_held p (Held q) none = ap (λ b. if b then Some HeldRecord else None) (ne_eqb q p (λ e. none (ap Some e)))
not_held p (Ready q) none = ap (λ b. if b then Some ReadyRecord else None) (ne_eqb q p (λ e. none (ap Some e)))
not_held p (InTree since) none = refl
not_held p (Unlinked since last q) none = ap (λ b. if b then Some (UnlinkedRecord since last) else None) (ne_eqb q p (λ e. none (ap Some e)))
not_held p (Marked since last epoch) none = refl

not_by : (p : ℕ) (o : Option ℕ) → o ≢ Some p → is_by p o ≡ false
not_by p None none = refl
not_by p (Some q) none = ne_eqb q p (λ e. none (ap Some e))

neither : (b c : Bool) → c ≡ false → (b && c) ≡ false
neither true c none = none
neither false c none = refl

knows_bare : (c : Core) (p : ℕ) → p < c.layout.passes → HoldsNone c p → Knows c (known_bare c p)
knows_bare c p low none = record {
  pass = low;
  counted = record { loaded = omega arith; failed = All-nil _ };
  seen = record { front = ([], sym (append-nil c.changes), All-nil (λ (x : Change). x.pass ≢ p)); fresh = (c.changes, refl); facts = All-nil (IsFact c.past) };
  own = λ i. record {
    own = λ r. owned r (c.words r) (not_held p (c.fate r) (none.own r) i);
    locks = λ n. locked n (c.words (a_node n)) (neither (is_in_tree (c.fate (a_node n))) (is_by p (c.lock n)) (not_by p (c.lock n) (λ has. none.locks (inr (n, has)))) i);
    anchor = anchored_at c.root (not_by p c.anchor (λ has. none.locks (inl has)) i);
    pin = c.pins p;
    round = c.rounds p;
  };
  values = All-nil (IsStillLoaded p c);
}

pub none_there : {X : Type 0} (xs : List X) (x : X) → xs ≡ [] → Contains xs x → ⊥
none_there xs x none (i, low, is) = let size = ap length none in absurd (omega (arith, low, size))

-- a pass that knows of no record and no lock of its own has no lock
pub no_lock : (d : Core) (k : Known) → IsLawful d → Knows d k → k.own ≡ [] → k.locks ≡ [] → k.anchor ≡ None → ¬ (HoldsLock d k.pass)
no_lock d k law knows own locks anchor (inl held) = let z : None ≡ Some d.root = sym anchor ∙ (knows_all d k knows).all_anchor held in absurd (cc)
no_lock d k law knows own locks anchor (inr (n, held)) = of (d.fate (a_node n)) refl (law.core.locked n k.pass held)
  where
    of : (f : Fate) → d.fate (a_node n) ≡ f → IsLockable k.pass (d.fate (a_node n)) → ⊥
    of (InTree since) is may = none_there k.locks _ locks ((knows_all d k knows).all_locks n held (since, is))
    of (Unlinked since last q) is may =
        let mine : q ≡ k.pass = subst (IsLockable k.pass) is may in
        none_there k.own _ own ((knows_all d k knows).all_own (a_node n) (UnlinkedRecord since last) (is ∙ ap (Unlinked since last) mine))
    of Free is may = subst (IsLockable k.pass) is may
    of (Held q) is may = subst (IsLockable k.pass) is may
    of (Ready q) is may = subst (IsLockable k.pass) is may
    of (Marked since last epoch) is may = subst (IsLockable k.pass) is may

-- ---- steps of one pass alone
own_others : (c : Core) (p q : ℕ) (xs : List Event) → p ≢ q → All (λ x. x.pass ≡ q) xs → AreOthers (a_pass (known_bare c p)) xs
own_others c p q [] another own = tt
own_others c p q (x ∷ xs) another own = ((λ same. another (same ∙ All-head (λ y. y.pass ≡ q) x xs own)), own_others c p q xs another (All-tail (λ y. y.pass ≡ q) x xs own))

pub still_bare : (c : Core) (p q : ℕ) (xs : List Event) (d : Core) → IsLawful c → p < c.layout.passes → HoldsNone c p → p ≢ q → All (λ x. x.pass ≡ q) xs → EventsLead c xs d → Knows d (known_bare c p)
still_bare c p q xs d law low none another own lead = runs_keep c xs d (a_pass (known_bare c p)) law lead (own_others c p q xs another own) (knows_bare c p low none)

-- so it has nothing after one
pub still_none : (c : Core) (p q : ℕ) (act : Act) → IsLawful c → Legal c q act → p < c.layout.passes → p ≢ q → HoldsNone c p → HoldsNone (after c q act) p
still_none c p q act law legal low another none = record { locks = no_lock d (known_bare c p) (stays_lawful c q act law legal) knows refl refl refl; own = λ r. unheld r (d.fate r) refl }
  where
    d : Core
    d = after c q act

    x : Event
    x = record { pass = q; act = act }

    knows : Knows d (known_bare c p)
    knows = still_bare c p q (x ∷ []) d law low none another (All-cons (λ (y : Event). y.pass ≡ q) x [] refl (All-nil (λ (y : Event). y.pass ≡ q))) (legal, refl)

    unheld : (r : Rec) (f : Fate) → d.fate r ≡ f → holder_of (d.fate r) ≢ Some p
    unheld r f is held = of f is (sym (ap holder_of is) ∙ held)
      where
        of : (f : Fate) → d.fate r ≡ f → holder_of f ≡ Some p → ⊥
        of Free is held = absurd cc
        of (Held o) is held = let same : o ≡ p = cc in none_there [] _ refl ((knows_all d (known_bare c p) knows).all_own r HeldRecord (is ∙ ap Held same))
        of (Ready o) is held = let same : o ≡ p = cc in none_there [] _ refl ((knows_all d (known_bare c p) knows).all_own r ReadyRecord (is ∙ ap Ready same))
        of (InTree since) is held = absurd cc
        of (Unlinked since last o) is held = let same : o ≡ p = cc in none_there [] _ refl ((knows_all d (known_bare c p) knows).all_own r (UnlinkedRecord since last) (is ∙ ap (Unlinked since last) same))
        of (Marked since last epoch) is held = absurd cc

-- they add no change of another pass
none_made : (c : Core) (p : ℕ) (d : Core) (m : ℕ) → Knows d (known_bare c p) → length c.changes ≤ m → HasMadeSince d m p → ⊥
none_made c p d m knows low (place, x, late, there, made) =
    let none : NoChangeFrom p (length c.changes) c.changes = λ i e from below. absurd (omega (arith, from, below)) in
    no_change_from_later p (length c.changes) c.changes d.changes none knows.seen.front place x (omega (arith, low, late)) (slice_get_within d.changes place x there)
    (ap (λ (z : Change). z.pass) (get_or_from_slice_get d.changes place x x there) ∙ made)

-- ---- lists of steps
-- what the run has behind the steps before, where it begins with more of them
behind : (before own run later : List Event) (q : ℕ) → later ≡ before ++ own → All (λ x. x.pass ≡ q) own → (grown : RunBeginsWith run before) → RunBeginsWith later run → All (λ x. x.pass ≡ q) grown.0
behind before own run later q is each grown more =
    All-part (λ x. x.pass ≡ q) grown.0 more.0
    (subst (All (λ x. x.pass ≡ q)) (append_cancel_left before own (grown.0 ++ more.0) (sym is ∙ (more.1 ∙ (ap (λ l. l ++ more.0) grown.1 ∙ append_assoc before grown.0 more.0)))) each)

-- a step of the pass doesn't stand among those of others
not_among : (q : ℕ) (trace before early : List Event) (x : Event) → OthersStepOn q trace before → x.pass ≡ q → RunBeginsWith early trace → RunBeginsWith before (early ++ x ∷ []) → ⊥
not_among q trace before early x (others, is, each) own (y, early_is) (z, more) =
    let same : others ≡ y ++ (x ∷ z) = append_cancel_left trace others (y ++ (x ∷ z))
    (sym is ∙ (more ∙ (append_assoc early (x ∷ []) z ∙ (ap (λ l. l ++ (x ∷ z)) early_is ∙ append_assoc trace y (x ∷ z))))) in
    in_middle y (subst (All (λ w. w.pass ≢ q)) same each)
  where
    in_middle : (y : List Event) → All (λ w. w.pass ≢ q) (y ++ (x ∷ z)) → ⊥
    in_middle [] all = All-head (λ w. w.pass ≢ q) x z all own
    in_middle (w ∷ y) all = in_middle y (All-tail (λ v. v.pass ≢ q) w (y ++ (x ∷ z)) all)

-- ---- the call
-- what goes on from a step of the call goes on from where the call began
from_begin : (layout : Layout) (q : ℕ) (s m t : SeatView) (alone : RunsAlone layout q s t) (early : List Event) (x : Event) → x.pass ≡ q → RunBeginsWith early s.trace →
    RunBeginsWith m.trace (early ++ x ∷ []) → RunBeginsWith t.trace m.trace → RunBeginsWith m.trace alone.before
from_begin layout q s m t alone early x own behind within more = ⊎_elim
    (λ (later : RunBeginsWith (early ++ x ∷ []) alone.before). begins_on alone.before (early ++ x ∷ []) m.trace later within)
    (λ (earlier : RunBeginsWith alone.before (early ++ x ∷ [])). absurd (not_among q s.trace alone.before early x alone.others own behind earlier))
    (of_one_run t.trace alone.before (early ++ x ∷ []) (alone.own, alone.until) (begins_on (early ++ x ∷ []) m.trace t.trace within more))

module _ (layout : Layout) (q : ℕ) (s t : SeatView) (alone : RunsAlone layout q s t) (h : HasBeenHindered layout q s t) where
  since : RunBeginsWith t.trace h.at.trace
  since = begins_on h.at.trace h.met.run t.trace h.met.since h.met.until

  another : h.met.by ≢ q
  another = subst (λ z. h.met.by ≢ z) h.pass h.met.another

  low : h.met.by < alone.core.layout.passes
  low = subst (λ (z : Layout). h.met.by < z.passes) (sym (lead_layout (opening layout) alone.before alone.core alone.led)) h.met.below

  -- what is known of the other pass once these steps have been made
  bare : (run : List Event) (d : Core) → EventsLead (opening layout) run d → RunBeginsWith run alone.before → RunBeginsWith t.trace run → Knows d (known_bare alone.core h.met.by)
  bare run d led grown more =
      still_bare alone.core h.met.by q grown.0 d (runs_stay_lawful layout alone.before alone.core alone.led) low (alone.none h.met.by h.met.below another) another
      (behind alone.before alone.own run t.trace q alone.until alone.each grown more)
      (lead_rest (opening layout) alone.before alone.core grown.0 d (subst (λ l. EventsLead (opening layout) l d) grown.1 led) alone.led)

  not_met : RunBeginsWith h.at.trace alone.before → ⊥
  not_met grown =
      let knows = bare h.met.run h.met.core h.met.led (begins_on alone.before h.at.trace h.met.run grown h.met.since) h.met.until in
      let early = bare h.at.trace h.pinned h.led grown since in
      let more = early.seen.front in
      let count = length-append alone.core.changes more.0 in
      let size : length alone.core.changes ≤ length h.pinned.changes = omega (arith, ap length more.1, count) in
      ⊎_elim
      (λ (has : HoldsLock h.met.core h.met.by). no_lock h.met.core (known_bare alone.core h.met.by) (runs_stay_lawful layout h.met.run h.met.core h.met.led) knows refl refl refl has)
      (λ (made : HasMadeSince h.met.core (length h.pinned.changes) h.met.by). none_made alone.core h.met.by h.met.core (length h.pinned.changes) knows size made)
      h.met.is

  unhindered : ⊥
  unhindered = not_met (from_begin layout q s h.at t alone h.before h.first h.own h.behind h.within since)

pub never_busy : (layout : Layout) (call : Call) (k j : PassView) → RunsAlone layout j.number k.seat j.seat → IsCause layout call k j Busy → ⊥
never_busy layout call k j alone conflict = unhindered layout j.number k.seat j.seat alone conflict.hindered

replies : (index : TableView) (call : Call) (result : Result Reply TryFault) (k j : PassView) → IsOutcome call result index k j → HasCause call result index k j → RunsAlone index.layout j.number k.seat j.seat → ¬ (MayTake call k j) → IsOk result
replies index call (Ok reply) k j outcome cause alone never = refl
replies index call (Err Busy) k j outcome cause alone never = absurd (never_busy index.layout call k j alone cause)
replies index call (Err FullNodes) k j outcome cause alone never = absurd (never (outcome.full tt))
replies index call (Err FullLeaves) k j outcome cause alone never = absurd (never (outcome.full tt))

-- ---- a call that waits
-- its first part is alone, too, and begins in the same core
alone_before : (layout : Layout) (q : ℕ) (s m t : SeatView) (early : List Event) (x : Event) → x.pass ≡ q → RunBeginsWith early s.trace → RunBeginsWith m.trace (early ++ x ∷ []) → RunBeginsWith t.trace m.trace →
    (alone : RunsAlone layout q s t) → (first : RunsAlone layout q s m) × (first.core ≡ alone.core)
alone_before layout q s m t early x own behind_it within more alone =
    let grown = from_begin layout q s m t alone early x own behind_it within more in (
      record {
        before = alone.before;
        others = alone.others;
        core = alone.core;
        led = alone.led;
        none = alone.none;
        own = grown.0;
        until = grown.1;
        each = behind alone.before alone.own m.trace t.trace q alone.until alone.each grown more;
      },
      refl,
    )

module _ {G : Type 0} (index : TableView) (becomes : G → Event → G → Type 0) where
  -- the pass knows of more steps and of more changes
  abbrev pub GoneOn : PassView × G → PassView × G → Type 0
  GoneOn a b = RunBeginsWith b.0.seat.trace a.0.seat.trace × BeginsWith b.0.front a.0.front

  on_same : (a b : PassView × G) → b ≡ a → GoneOn a b
  on_same a b same = subst (λ (z : PassView × G). GoneOn a z) (sym same) (begins_itself a.0.seat.trace, ([], sym (append-nil a.0.front)))

  on_more : (a m b : PassView × G) → GoneOn a m → GoneOn m b → GoneOn a b
  on_more a m b first second = (begins_on a.0.seat.trace m.0.seat.trace b.0.seat.trace first.0 second.0, front_on a.0.front m.0.front b.0.front first.1 second.1)

  outcome_on : (call : Call) (r : Result Reply TryFault) (k j : PassView) → IsOutcome call r index k j → BeginsWith j.front k.front
  outcome_on call (Ok reply) k j noted = noted.on.front
  outcome_on call (Err fault) k j refused = refused.unnoted.front

  tried_on : (call : Call) (r : Result Reply TryFault) (a m : PassView × G) → IsTried call r index becomes a m → GoneOn a m
  tried_on call r a m tried = (
    ends_begin index becomes tried.made.acts ClearPin (change_notes call r) (a.0.seat, a.1) (m.0.seat, m.1) tried.made.steps,
    outcome_on call r a.0 m.0 tried.call,
  )

  count_on : (call : Call) (lacks : Full) (refusal : Refusal) (a m b : PassView × G) → IsCountedAfter call lacks refusal index becomes a m b → GoneOn m b
  count_on call lacks refusal a m b after = (
    runs_begin index becomes (loads_in index.layout after.counted.tags) (m.0.seat, m.1) (b.0.seat, b.1) after.counted.steps,
    ([], after.counted.front ∙ sym (append-nil m.0.front)),
  )

  told_on : (call : Call) (r : Result Reply Refusal) (a m b : PassView × G) → FollowsTry call r index becomes a m b → GoneOn m b
  told_on call (Ok reply) a m b told = on_same m b told
  told_on call (Err IsBusy) a m b told = on_same m b told
  told_on call (Err (HeldBack lacks)) a m b (inl told) = on_same m b told.1
  told_on call (Err (HeldBack lacks)) a m b (inr after) = count_on call lacks (HeldBack lacks) a m b after
  told_on call (Err (IsFull lacks counts)) a m b told = count_on call lacks (IsFull lacks counts) a m b told.1

  counted_on : (call : Call) (r : Result Reply Refusal) (a b : PassView × G) → IsTriedAndCounted call r index becomes a b → GoneOn a b
  counted_on call r a b h = on_more a h.mid b (tried_on call (as_tried r) a h.mid h.tried) (told_on call r a h.mid b h.told)

  refused_on : (call : Call) (refusals : List Refusal) (a b : PassView × G) → AreTriesRefused call refusals index becomes a b → GoneOn a b
  refused_on call [] a b same = on_same a b same
  refused_on call (refusal ∷ refusals) a b (m, first, passing, rest) = on_more a m b (counted_on call (Err refusal) a m first) (refused_on call refusals m b rest)

  -- a try of a call that is alone is alone, too
  pub try_alone : (call : Call) (r : Result Reply TryFault) (a m b : PassView × G) (alone : RunsAlone index.layout a.0.number a.0.seat b.0.seat) → GoneOn m b → IsTried call r index becomes a m →
      (first : RunsAlone index.layout a.0.number a.0.seat m.0.seat) × (first.core ≡ alone.core)
  try_alone call r a m b alone more tried =
      let made = tried.made in
      let (x, run, last) = made.steps in
      let number : a.0.number ≡ a.0.seat.known.pass = ap (λ (z : PassView). z.number) made.begins in
      let pass : x.0.known.pass ≡ a.0.number = (runs_same index becomes made.acts (a.0.seat, a.1) x run).2 ∙ sym number in
      alone_before index.layout a.0.number a.0.seat m.0.seat b.0.seat last.next.before (record { pass = x.0.known.pass; act = ClearPin }) pass
      (begins_on a.0.seat.trace x.0.trace last.next.before (runs_begin index becomes made.acts (a.0.seat, a.1) x run) (others_begin x.0.known.pass x.0.trace last.next.before last.next.others))
      ([], last.next.next_is ∙ sym (append-nil (last.next.before ++ record { pass = x.0.known.pass; act = ClearPin } ∷ []))) more.0 alone

  -- where no try of it is refused, it makes one
  module _ (call : Call) (a b : PassView × G) (never : (r : Result Reply TryFault) (m : PassView × G) → IsErr r → GoneOn m b → IsTried call r index becomes a m → ⊥) where
    not_refused : (refusal : Refusal) (m : PassView × G) → GoneOn m b → IsTriedAndCounted call (Err refusal) index becomes a m → ⊥
    not_refused refusal m more h = never (as_tried (Err refusal)) h.mid refl (on_more h.mid m b (told_on call (Err refusal) a h.mid m h.told) more) h.tried

    pub once_unless : (result : Result Reply Full) (tries : MakesTries call result index becomes a b) → (tries.refusals ≡ []) × IsOk result
    once_unless result tries = of tries.refusals refl tries.refused
      where
        last_made : (r : Result Reply Full) (o : Result Reply Refusal) → IsResultOfLast r o → IsTriedAndCounted call o index becomes a b → IsOk r
        last_made (Ok reply) o is h = refl
        last_made (Err full) o (counts, is) h = absurd (not_refused (IsFull full counts) b (on_same b b refl) (subst (λ (z : Result Reply Refusal). IsTriedAndCounted call z index becomes a b) is h))

        of : (refusals : List Refusal) → tries.refusals ≡ refusals → AreTriesRefused call tries.refusals index becomes a tries.last → (tries.refusals ≡ []) × IsOk result
        of [] is refused = (
          is,
          last_made result tries.outcome tries.is_last
              (subst (λ (z : PassView × G). IsTriedAndCounted call tries.outcome index becomes z b) (subst (λ l. AreTriesRefused call l index becomes a tries.last) is refused) tries.tried),
        )
        of (refusal ∷ refusals) is refused =
            let (m, first, passing, rest) = subst (λ l. AreTriesRefused call l index becomes a tries.last) is refused in
            absurd (not_refused refusal m
            (on_more m tries.last b (refused_on call refusals m tries.last rest) (counted_on call tries.outcome tries.last b tries.tried)) first)

  -- a try of a call that takes no record is not refused
  never_refused : (call : Call) (a b : PassView × G) → RunsAlone index.layout a.0.number a.0.seat b.0.seat → TakesNone call a.0 b.0 → (r : Result Reply TryFault) (m : PassView × G) → IsErr r → GoneOn m b → IsTried call r index becomes a m → ⊥
  never_refused call a b alone none (Ok reply) m bad more tried = absurd cc
  never_refused call a b alone none (Err Busy) m bad more tried =
      never_busy index.layout call a.0 m.0 (subst (λ q. RunsAlone index.layout q a.0.seat m.0.seat) (sym tried.call.unnoted.number) (try_alone call (Err Busy) a m b alone more tried).0) tried.cause
  never_refused call a b alone none (Err FullNodes) m bad more tried = none m.0 more.1 (tried.call.full tt)
  never_refused call a b alone none (Err FullLeaves) m bad more tried = none m.0 more.1 (tried.call.full tt)

-- ---- the first call of a new index
first_alone : (layout : Layout) (q : ℕ) (p : PassView) (t : SeatView) → IsNewPass q p → All (λ x. x.pass ≡ q) t.trace → RunsAlone layout q p.seat t
first_alone layout q p t new own = record {
  before = [];
  others = ([], sym (append-nil p.seat.trace ∙ new.4), All-nil (λ (x : Event). x.pass ≢ q));
  core = opening layout;
  led = refl;
  none = λ r low another. record { locks = λ has. unlocked r has; own = λ i has. absurd (cc) };
  own = t.trace;
  until = refl;
  each = own;
}
  where
    unlocked : (r : ℕ) → HoldsLock (opening layout) r → ⊥
    unlocked r (inl has) = absurd (cc)
    unlocked r (inr (n, has)) = absurd (cc)

pub alone_calls_end : {G : Type 0} (becomes : G → Event → G → Type 0) → AloneCallsEnd becomes
alone_calls_end becomes = record { busy = never_busy; reply = replies; once = λ index call result a b tries alone none. once_unless index becomes call a b (never_refused index becomes call a b alone none) result tries; first = first_alone }
