-- What a call for a key says, where it was made.
use Rattle.std.specs.Prelude.{MatchResult}
use Rattle.hot_c.proofs.Common.{◌≡◌, ◌≢◌, ◌↔◌, ℕ, List, length, ◌≤◌, Option, None, Some, Result, Ok, Err, IsOk, IfErr, refl, sym, ◌∙◌, subst, arith, IsKey, MAX_BYTES, Call, Get, Reply, Inserted, Exists, New, Was, Exchanged, Differs, Value, Absent, Removed, TableView, Nodes, Leaves, as_tried, Refusal, IsBusy, HeldBack, IsFull, IsNoted, MayRefuse, GetsOrCounts, HasCause, IsOutcome, PassView, HasMadeGetSteps, untold, HandleView, Stays}
use Rattle.key_bits.specs.declared.KeyFault.{KeyFault}
use Rattle.hot_c.specs.Calls.{Answers, FitsInKey, TellsOutcome}
use Rattle.hot_c.specs.Refusals.{TellsOfNoLack, TellsRefusal, TellsWhatMay}
use Rattle.hot_c.specs.Statuses.{reply_status, value_after}
use Rattle.hot_c.specs.declared.opened.Opened.{Opened}
use Rattle.hot_c.specs.declared.status.TheConstants.{BUSY, FULL_LEAVES, FULL_NODES, HELD_BACK}

some_is_none : (s : Opened) → Some s ≡ None → ⊥
some_is_none s e = cc

pub answered : (key : List ℕ) (call asked : Call) (old new : Option Opened) (before after status : ℕ) (s u : Opened) (outcome : Result Reply Refusal) → old ≡ Some s → new ≡ Some u →
    Stays (TellsOutcome (length key) call status outcome) s.handle u.handle → call ≡ asked → FitsInKey key → after ≡ value_after before outcome →
    u.kept.items ≡ s.kept.items → Answers key asked old new before after status
answered key call asked old new before after status s u outcome was is stays same fits left keeps = record {
  closed = λ none. absurd (some_is_none s (sym was ∙ none));
  long = λ some no. absurd (no fits);
  made = λ some short. (
    outcome,
    record {
      before = s;
      after = u;
      was = was;
      is = is;
      stays = subst (λ (x : Call). Stays (TellsOutcome (length key) x status outcome) s.handle u.handle) same stays;
      keeps = keeps;
    },
    left,
  );
}

-- a get
pub replied : (size : ℕ) (key : List ℕ) (reply : Reply) (status : ℕ) (old new : HandleView) → Stays (λ index k j. IsNoted index.layout k j (Get key) reply) old new →
    Stays (λ index k j. HasMadeGetSteps index untold (k, tt) (j, tt)) old new → status ≡ reply_status reply → Stays (TellsOutcome size (Get key) status (Ok reply)) old new
replied size key reply status old new h by told = record { index = h.index; pass = ((h.pass, tt, by.pass), told) }

-- what is told of a call for a key of this length
pub for_size : (size other : ℕ) (call : Call) (status : ℕ) (outcome : Result Reply Refusal) (old new : HandleView) → other ≡ size → Stays (TellsOutcome size call status outcome) old new →
    Stays (TellsOutcome other call status outcome) old new
for_size size other call status outcome old new same h = subst (λ (n : ℕ). Stays (TellsOutcome n call status outcome) old new) (sym same) h

-- what is told of a call that was tried
abbrev pub Told : ℕ → Call → ℕ → HandleView → HandleView → ℕ → ℕ → Type 0
Told size call status old new before after =
    (outcome : Result Reply Refusal) × Stays (TellsOutcome size call status outcome) old new × (after ≡ value_after before outcome) × IfErr (as_tried outcome) (MayRefuse call)

-- what a try says that counts
pub record IsCounted (call : Call) (outcome : Result Reply Refusal) (old new : HandleView) : Type 0 where
  pub call_is : Stays (IsOutcome call (as_tried outcome)) old new
  pub cause : Stays (HasCause call (as_tried outcome)) old new
  pub may : IfErr (as_tried outcome) (MayRefuse call)
  pub made : Stays (λ index k j. GetsOrCounts call outcome index untold (k, tt) (j, tt)) old new

module _ (size : ℕ) (call : Call) (outcome : Result Reply Refusal) (status before after : ℕ) (old : HandleView) where
  told_as : (new : HandleView) → IsCounted call outcome old new → MatchResult outcome (λ reply. status ≡ reply_status reply) (λ refusal. TellsRefusal size refusal status) → after ≡ value_after before outcome →
      Told size call status old new before after
  told_as new h told left = (outcome, record { index = h.call_is.index; pass = ((h.call_is.pass, h.cause.pass, h.made.pass), told) }, left, h.may)

pub told_reply : (size : ℕ) (call : Call) (outcome : Result Reply Refusal) (status before after : ℕ) (old new : HandleView) (reply : Reply) → outcome ≡ Ok reply → IsCounted call outcome old new → status ≡ reply_status reply →
    after ≡ value_after before (Ok reply) → Told size call status old new before after
told_reply size call outcome status before after old new reply is h told left =
    told_as size call (Ok reply) status before after old new (subst (λ (o : Result Reply Refusal). IsCounted call o old new) is h) told left

pub told_refusal : (size : ℕ) (call : Call) (outcome : Result Reply Refusal) (status before after : ℕ) (old new : HandleView) (refusal : Refusal) → outcome ≡ Err refusal → IsCounted call outcome old new → TellsRefusal size refusal status →
    after ≡ before → Told size call status old new before after
told_refusal size call outcome status before after old new refusal is h told left =
    told_as size call (Err refusal) status before after old new (subst (λ (o : Result Reply Refusal). IsCounted call o old new) is h) told left

-- no reply is told as a lack
no_lack : (reply : Reply) (status : ℕ) → status ≡ reply_status reply → TellsOfNoLack status
no_lack (Value v) status e = ((λ f. omega (arith, e, f)), (λ f. omega (arith, e, f)), (λ f. omega (arith, e, f)))
no_lack Absent status e = ((λ f. omega (arith, e, f)), (λ f. omega (arith, e, f)), (λ f. omega (arith, e, f)))
no_lack Inserted status e = ((λ f. omega (arith, e, f)), (λ f. omega (arith, e, f)), (λ f. omega (arith, e, f)))
no_lack (Exists v) status e = ((λ f. omega (arith, e, f)), (λ f. omega (arith, e, f)), (λ f. omega (arith, e, f)))
no_lack New status e = ((λ f. omega (arith, e, f)), (λ f. omega (arith, e, f)), (λ f. omega (arith, e, f)))
no_lack (Was v) status e = ((λ f. omega (arith, e, f)), (λ f. omega (arith, e, f)), (λ f. omega (arith, e, f)))
no_lack (Removed v) status e = ((λ f. omega (arith, e, f)), (λ f. omega (arith, e, f)), (λ f. omega (arith, e, f)))
no_lack Exchanged status e = ((λ f. omega (arith, e, f)), (λ f. omega (arith, e, f)), (λ f. omega (arith, e, f)))
no_lack (Differs v) status e = ((λ f. omega (arith, e, f)), (λ f. omega (arith, e, f)), (λ f. omega (arith, e, f)))

-- and a status that tells of none tells of none that the call may not have
tells_may : (call : Call) (status : ℕ) → TellsOfNoLack status → TellsWhatMay call status
tells_may call status (nodes, leaves, held) = record { nodes = λ never. nodes; leaves = λ never. leaves; held = λ never none. held }

-- what a refusal tells that the call may have
pub told_may : (size : ℕ) (call : Call) (status : ℕ) (outcome : Result Reply Refusal) (index : TableView) (k j : PassView) → TellsOutcome size call status outcome index k j →
    IfErr (as_tried outcome) (MayRefuse call) → TellsWhatMay call status
told_may size call status (Ok reply) index k j told may = tells_may call status (no_lack reply status told.1)
told_may size call status (Err IsBusy) index k j told may = tells_may call status ((λ f. omega (arith, f, told.1)), (λ f. omega (arith, f, told.1)), (λ f. omega (arith, f, told.1)))
told_may size call status (Err (HeldBack Nodes)) index k j told may = record { nodes = λ never. absurd (never may); leaves = λ never f. omega (arith, f, told.1); held = λ never none. absurd (never may) }
told_may size call status (Err (HeldBack Leaves)) index k j told may = record { nodes = λ never f. omega (arith, f, told.1); leaves = λ never. absurd (never may); held = λ never none. absurd (none may) }
told_may size call status (Err (IsFull Nodes counts)) index k j told may = record { nodes = λ never. absurd (never may); leaves = λ never f. omega (arith, f, told.1); held = λ never none. absurd (never may) }
told_may size call status (Err (IsFull Leaves counts)) index k j told may = record { nodes = λ never f. (let taken = told.1.taken (λ all. omega (arith, f, told.1.none all)) in omega (arith, f, taken)); leaves = λ never. absurd (never may); held = λ never none. absurd (none may) }

-- the bytes that a key took are fit for one
pub of_key : (bytes key : List ℕ) (r : Result (Unit {0}) KeyFault) → r ≡ Ok tt → (IsOk r ↔ (length bytes ≤ MAX_BYTES)) → (IsOk r → (key ≡ bytes) × IsKey key) → (key ≡ bytes) × FitsInKey bytes
of_key bytes key r is fits same = let ok : IsOk r = subst IsOk (sym is) refl in ((same ok).0, fits.0 ok)
