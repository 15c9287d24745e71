-- How the parts of an attempt make its answer, or its refusal.
use Rattle.rowex_writing.specs.build.Spare.{IsRemoval}
use Rattle.std.specs.Prelude.{if◌then◌else◌, nat_eq, IsSome}
use Rattle.std.specs.Option.{option_map}
use Rattle.rowex_writing.proofs.Common.{le_refl, eqb-true, ◌≡◌, ◌≢◌, ◌⊎◌, inl, inr, ℕ, ◌+◌, ◌≤◌, ◌<◌, List, [], ◌∷◌, length, refl, sym, ap, subst, ◌∙◌, arith, Option, Some, None, Bool, true, false, Ok, Err, ◌*◌, Call, Change, Added, Replaced, TakenAway, Reply, OthersGoOn, Map, key_of, step_if, with_value, wrapped_sum, others_on, Case, LeafPushdown, NormalInsert, Overflow, PathNode, Key, IsHeldSince, WasAbsentSince, Layout, Rec, Event, Known, TableView, SeatView, IsSeatOf, IsPossible, Looks, Reads, looked_at, looks_same, reads_later, reads_same, reads_sees, IsAtRest, HadShapeSince, IsLater, HasFound, HasSearched, IsPinnedSince, Sure, since, later_trans, held_stable, missed_stable, shaped_stable, sure_later, since_later, IsWayOf, value_of, Found, Nothing, Leaf, HEAD_WORDS}
use Rattle.finite_map.specs.declared.Call.TheVariants.{Insert, Upsert, Exchange, Add, Get, Remove, RemoveIf}
use Rattle.finite_map.specs.declared.Kind.{Kind}
use Rattle.finite_map.specs.declared.Reply.TheVariants.{Exchanged, Exists, Absent, Removed}
use Rattle.finite_map.specs.Calls.{effect_of}
use Rattle.finite_map.specs.Maps.{without}
use Rattle.rowex_writing.specs.plan.Asking.{aim_of, aim_where, reply_to, value_in}
use Rattle.rowex_writing.specs.attempts.Attempts.{HasAnswered, HasLooked, HasRefused, IsAttemptCause, IsChangeOf, LacksNoLeaf, refusal_of, HasFailed, HasSeenKeyHeld, HasSeenKeyAbsent, bounds_for, IsFullFault, IsFullOnlyIfWanting, WantsRecord}
use Rattle.rowex_writing.specs.store.Values.{HasDoneDeed, revalued}
use Rattle.rowex_writing.specs.build.Changes.{HasChanged, HasNoRoom, IsFull}
use Rattle.rowex_writing.specs.plan.Planned.{AreAffected, IsPlanned, HasLoadedRoot}
use Rattle.rowex_writing.specs.locks.Locks.{HasMetLock, locks_of, HasRun}
use Rattle.rowex_writing.proofs.plan.Plans.{taking_takes, deed_in, no_answer, value_found}
use Rattle.rowex_writing.specs.plan.Plans.{change, IsCase, IsNewLeafPlan, TakesLeaf, removal_deed}
use Rattle.rowex_writing.specs.declared.plan.Aim.{Aim}
use Rattle.rowex_writing.specs.declared.plan.Aim.TheVariants.{Insert as ToInsert, Upsert as ToUpsert, Remove as ToRemove}
use Rattle.rowex_writing.specs.declared.plan.Deed.{Deed}
use Rattle.rowex_writing.specs.declared.plan.Deed.TheVariants.{Put, PushDown, Grow, Take, TakeTop, Empty, Value as ValueDeed}
use Rattle.rowex_writing.specs.declared.attempts.TryFault.{TryFault}
use Rattle.rowex_writing.specs.declared.attempts.TryFault.TheVariants.{Busy, FullLeaves, FullNodes}
use Rattle.rowex_writing.specs.declared.plan.Full.{Full}
use Rattle.rowex_writing.specs.declared.plan.Full.TheVariants.{Nodes, Leaves}
use Rattle.rowex_writing.specs.declared.plan.Plan.{Plan}
use Rattle.rowex_writing.specs.declared.plan.Plan.TheVariants.{Answer, Change as a_change}
use Rattle.rowex_writing.specs.declared.plan.Span.{Span}
use Rattle.record_words.specs.Layout.{uncommitted_in}
use Rattle.rowex_table.specs.Committed.{AtMost}
use Rattle.rowex_writing.specs.build.Deeds.{bounds_of_deed}
use Rattle.rowex_table.proofs.Committed.{at_most_trans}
use Rattle.rowex_writing.proofs.build.Growths.{full_since}
use Rattle.rowex_writing.proofs.locks.Onward.{looks_run, reads_run}
use Rattle.rowex_writing.proofs.locks.Runs.{run_loaded, runs_trans}
use Rattle.rowex_writing.proofs.locks.Spans.{met_since}
use Rattle.rowex_writing.specs.plan.Counts.{held_loads, most_nodes, most_steps, most_steps_of, search_steps, spare_steps, value_steps}
use Rattle.rowex_writing.specs.locks.Jobs.{IsJobFrom}
use Rattle.rowex_writing.specs.declared.plan.job.Job.{Job}

-- ---- what was found and planned stays so
pub found_later : (k j : Known) (key : Key) (value : Option ℕ) → IsLater k j → since j ≡ since k → HasFound k key value → HasFound j key value
found_later k j key None later same sure =
    subst (λ m. Sure j (λ s. WasAbsentSince s m key)) (sym same) (sure_later {P = λ s. WasAbsentSince s (since k) key} (missed_stable (since k) key) later sure)
found_later k j key (Some value) later same sure =
    subst (λ m. Sure j (λ s. IsHeldSince s m key value)) (sym same) (sure_later {P = λ s. IsHeldSince s (since k) key value} (held_stable (since k) key value) later sure)

affected_later : (k j : Known) (m : ℕ) (key : Key) (way : List PathNode) (found : Found) (first last : ℕ) → IsLater k j → AreAffected k m key way found first last →
    AreAffected j m key way found first last
affected_later k j m key way Nothing first last later a = tt
affected_later k j m key way (Leaf n v None) first last later a = tt
affected_later k j m key way (Leaf n v (Some p)) first last later a = λ level s is at.
    let (forks, shaped, affects) = a level s is at in (forks, sure_later {P = λ past. HadShapeSince past m s.number forks} (shaped_stable m s.number forks) later shaped, affects)

pub planned_later : (k j : Known) (m : ℕ) (key : Key) (way : List PathNode) (aim : Aim) (found : Found) (plan : Plan) → IsLater k j → IsPlanned k m key way aim found plan →
    IsPlanned j m key way aim found plan
planned_later k j m key way aim found plan later (first, last, is, affected) = (first, last, is, affected_later k j m key way found first last later affected)

-- the plan of a call, by a search on the way
pub plan_made : (layout : Layout) (k j : Known) (m : ℕ) (key : Key) (way shown : List PathNode) (found : Found) (aim : Aim) (plan : Plan) → shown ≡ way → IsWayOf layout k m key way found →
    ((m : ℕ) (key : Key) → IsWayOf layout k m key shown found → IsPlanned j m key shown aim found plan) → IsPlanned j m key shown aim found plan
plan_made layout k j m key way shown found aim plan same w each = each m key (subst (λ z. IsWayOf layout k m key z found) (sym same) w)

-- ---- an answer
some_is : (a b : Aim) → Some a ≡ Some b → a ≡ b
some_is a b e = cc

new_answer : {A : Type 0} (way : List PathNode) (p first last : ℕ) (reply : Reply) → IsNewLeafPlan way p first last (Answer reply) → A
new_answer [] p first last reply e = no_answer reply _ _ e
new_answer {A} (s ∷ way) p first last reply (level, at, (chosen, choice, case)) = go chosen.case case
  where
    go : (case : Case) → IsCase (s ∷ way) p chosen case (Answer reply) → A
    go LeafPushdown e = no_answer reply _ _ e
    go NormalInsert e = no_answer reply _ _ e
    go Overflow (end, upto, e) = no_answer reply _ _ e

-- the answer of a plan: for an aim, of a key with this value, or none
abbrev Answers : Aim → Option ℕ → Reply → Type 0
Answers ToInsert (Some held) reply = reply ≡ Exists held
Answers ToRemove None reply = reply ≡ Absent
Answers aim held reply = ⊥

-- the reply of a plan that answers
abbrev reply_in : Plan → Reply
reply_in (Answer reply) = reply
reply_in (a_change span deed) = Absent

plan_answers : (k : Known) (m : ℕ) (key : Key) (way : List PathNode) (aim : Aim) (found : Found) (reply : Reply) → IsPlanned k m key way aim found (Answer reply) → Answers aim (value_of found) reply
plan_answers k m key way ToInsert Nothing reply (first, last, is, affected) = no_answer reply _ _ is
plan_answers k m key way ToUpsert Nothing reply (first, last, is, affected) = no_answer reply _ _ is
plan_answers k m key way ToInsert (Leaf n v (Some p)) reply (first, last, is, affected) = new_answer way p first last reply is
plan_answers k m key way ToUpsert (Leaf n v (Some p)) reply (first, last, is, affected) = new_answer way p first last reply is
plan_answers k m key way ToInsert (Leaf n v None) reply (first, last, is, affected) = ap reply_in is
plan_answers k m key way ToUpsert (Leaf n v None) reply (first, last, is, affected) = no_answer reply _ _ is
plan_answers k m key way ToRemove Nothing reply (first, last, is, affected) = ap reply_in is
plan_answers k m key way ToRemove (Leaf n v (Some p)) reply (first, last, is, affected) = ap reply_in is
plan_answers k m key way ToRemove (Leaf n v None) reply (first, last, is, affected) = no_answer reply _ _ is

-- ---- what is found that changes nothing
-- a call that aims at nothing has no effect
no_effect : (call : Call) (held : Option ℕ) → aim_of call held ≡ None → effect_of call (reply_to call held) ≡ None
no_effect (Insert key value) held e = absurd (cc)
no_effect (Upsert key value) held e = absurd (cc)
no_effect (Exchange key expected value) None e = refl
no_effect (Exchange key expected value) (Some held) e = go (nat_eq held expected) e
  where
    go : (b : Bool) → (if b then Some ToUpsert else None) ≡ None → effect_of (Exchange key expected value) (step_if b [] held (with_value [] key value, Exchanged)).1 ≡ None
    go true e = absurd (cc)
    go false e = refl
no_effect (Add key delta) None e = refl
no_effect (Add key delta) (Some held) e = absurd (cc)
no_effect (Get key) None e = refl
no_effect (Get key) (Some held) e = refl
no_effect (Remove key) held e = absurd (cc)
no_effect (RemoveIf key expected) None e = refl
no_effect (RemoveIf key expected) (Some held) e = go (nat_eq held expected) e
  where
    go : (b : Bool) → (if b then Some ToRemove else None) ≡ None → effect_of (RemoveIf key expected) (step_if b [] held (without [] key, Removed held)).1 ≡ None
    go true e = absurd (cc)
    go false e = refl

found_for : (j : Known) (key other : Key) (held value : Option ℕ) → key ≡ other → held ≡ value → HasFound j key value → HasFound j other held
found_for j key other held value same is found = subst (HasFound j other) (sym is) (subst (λ z. HasFound j z value) same found)

pub aimless_looked : (j : Known) (key : Key) (call : Call) (held value : Option ℕ) → key ≡ key_of call → held ≡ value → aim_of call held ≡ None → HasFound j key value → HasLooked j call (reply_to call held)
aimless_looked j key call held value same is none found = (held, found_for j key (key_of call) held value same is found, refl, no_effect call held none)

-- the aim of a call that expects a value
aim_met : (P : Aim → Type 0) (expected : ℕ) (held : Option ℕ) (own aim : Aim) → aim_where expected held own ≡ Some aim → P aim → P own
aim_met P expected None own aim e p = absurd (cc)
aim_met P expected (Some held) own aim e p = go (nat_eq held expected) e
  where
    go : (b : Bool) → (if b then Some own else None) ≡ Some aim → P own
    go true e = subst P (let z : aim ≡ own = cc in z) p
    go false e = absurd (cc)

pub answers_looked : (j : Known) (call : Call) (held : Option ℕ) (aim : Aim) (reply : Reply) → aim_of call held ≡ Some aim → Answers aim held reply → HasFound j (key_of call) held → HasLooked j call reply
answers_looked j (Insert key value) None aim reply e answers found = absurd (subst (λ a. Answers a None reply) (some_is _ _ (sym e)) answers)
answers_looked j (Insert key value) (Some held) aim reply e answers found =
    let is : reply ≡ Exists held = subst (λ a. Answers a (Some held) reply) (some_is _ _ (sym e)) answers in (Some held, found, is, ap (effect_of (Insert key value)) is)
answers_looked j (Upsert key value) held aim reply e answers found = absurd (subst (λ a. Answers a held reply) (some_is _ _ (sym e)) answers)
answers_looked j (Exchange key expected value) held aim reply e answers found = absurd (aim_met (λ a. Answers a held reply) expected held ToUpsert aim e answers)
answers_looked j (Add key delta) None aim reply e answers found = absurd (cc)
answers_looked j (Add key delta) (Some held) aim reply e answers found = absurd (subst (λ a. Answers a (Some held) reply) (some_is _ _ (sym e)) answers)
answers_looked j (Get key) held aim reply e answers found = absurd (cc)
answers_looked j (Remove key) None aim reply e answers found =
    let is : reply ≡ Absent = subst (λ a. Answers a None reply) (some_is _ _ (sym e)) answers in (None, found, is, ap (effect_of (Remove key)) is)
answers_looked j (Remove key) (Some held) aim reply e answers found = absurd (subst (λ a. Answers a (Some held) reply) (some_is _ _ (sym e)) answers)
answers_looked j (RemoveIf key expected) None aim reply e answers found = absurd (cc)
answers_looked j (RemoveIf key expected) (Some held) aim reply e answers found = absurd (aim_met (λ a. Answers a (Some held) reply) expected (Some held) ToRemove aim e answers)

pub looked : (k j : Known) (m : ℕ) (key : Key) (way : List PathNode) (call : Call) (held : Option ℕ) (aim : Aim) (found : Found) (reply : Reply) → key ≡ key_of call → held ≡ value_of found →
    aim_of call held ≡ Some aim → IsPlanned k m key way aim found (Answer reply) → HasFound j key (value_of found) → HasLooked j call reply
looked k j m key way call held aim found reply same is e planned sure =
    answers_looked j call held aim reply e (subst (λ h. Answers aim h reply) (sym is) (plan_answers k m key way aim found reply planned)) (found_for j key (key_of call) held (value_of found) same is sure)

-- ---- a change
-- the change that was made for an aim, of a key with this value, or none
abbrev IsMade : ℕ → Key → ℕ → Aim → Option ℕ → Change → Option ℕ → Type 0
IsMade q key value ToInsert None x was = (x ≡ record { pass = q; key = key; value = value; kind = Added }) × (was ≡ None)
IsMade q key value ToUpsert None x was = (x ≡ record { pass = q; key = key; value = value; kind = Added }) × (was ≡ None)
IsMade q key value ToUpsert (Some held) x was = (x ≡ record { pass = q; key = key; value = value; kind = Replaced }) × (was ≡ Some held)
IsMade q key value ToRemove (Some held) x was = (x ≡ record { pass = q; key = key; value = held; kind = TakenAway }) × (was ≡ Some held)
IsMade q key value aim held x was = ⊥

abbrev HasMadeAim : Known → Known → Key → ℕ → Aim → Option ℕ → Type 0
HasMadeAim i j key value aim held = (x : Change) × (was : Option ℕ) × IsMade i.pass key value aim held x was × HasChanged i j x was

module _ (i j : Known) (key : Key) (value : ℕ) (found : Found) where
  done_by : (span : Span) (deed other : Deed) (len end : ℕ) → a_change span deed ≡ change len end other → HasDoneDeed i j deed key value found → HasDoneDeed i j other key value found
  done_by span deed other len end e done = subst (λ d. HasDoneDeed i j d key value found) (ap deed_in e) done

  take_done : (way : List PathNode) → HasDoneDeed i j (removal_deed way) key value found → HasDoneDeed i j Take key value found
  take_done [] done = done
  take_done (step ∷ []) done = done
  take_done (step ∷ next ∷ way) done = done

  new_done : (way : List PathNode) (p first last : ℕ) (span : Span) (deed : Deed) → IsNewLeafPlan way p first last (a_change span deed) → HasDoneDeed i j deed key value found →
      HasDoneDeed i j Put key value found
  new_done [] p first last span deed e done = done_by span deed (PushDown p) 0 0 e done
  new_done (s ∷ way) p first last span deed (level, at, (chosen, choice, case)) done = go chosen.case case
    where
      go : (case : Case) → IsCase (s ∷ way) p chosen case (a_change span deed) → HasDoneDeed i j Put key value found
      go LeafPushdown e = done_by span deed (PushDown p) _ _ e done
      go NormalInsert e = done_by span deed (Grow p) _ _ e done
      go Overflow (end, upto, e) = done_by span deed (Grow p) _ _ e done

-- the change is the one that was aimed at
plan_does : (i j k : Known) (m : ℕ) (key : Key) (value : ℕ) (way : List PathNode) (aim : Aim) (found : Found) (span : Span) (deed : Deed) →
    IsPlanned k m key way aim found (a_change span deed) → HasDoneDeed i j deed key value found → HasMadeAim i j key value aim (value_of found)
plan_does i j k m key value way ToInsert Nothing span deed (first, last, is, affected) done = done_by i j key value Nothing span deed Put 0 0 is done
plan_does i j k m key value way ToUpsert Nothing span deed (first, last, is, affected) done = done_by i j key value Nothing span deed Put 0 0 is done
plan_does i j k m key value way ToInsert (Leaf n v (Some p)) span deed (first, last, is, affected) done = new_done i j key value (Leaf n v (Some p)) way p first last span deed is done
plan_does i j k m key value way ToUpsert (Leaf n v (Some p)) span deed (first, last, is, affected) done = new_done i j key value (Leaf n v (Some p)) way p first last span deed is done
plan_does i j k m key value way ToInsert (Leaf n v None) span deed (first, last, is, affected) done = no_answer _ span deed (sym is)
plan_does i j k m key value way ToUpsert (Leaf n v None) span deed (first, last, is, affected) done = done_by i j key value (Leaf n v None) span deed ValueDeed _ _ is done
plan_does i j k m key value way ToRemove Nothing span deed (first, last, is, affected) done = no_answer _ span deed (sym is)
plan_does i j k m key value way ToRemove (Leaf n v (Some p)) span deed (first, last, is, affected) done = no_answer _ span deed (sym is)
plan_does i j k m key value way ToRemove (Leaf n v None) span deed (first, last, is, affected) done = take_done i j key value (Leaf n v None) way (done_by i j key value (Leaf n v None) span deed (removal_deed way) _ _ is done)

-- and so the one that the call asked for
module _ (q : ℕ) (x : Change) (was : Option ℕ) where
  -- a call that gives this reply to a key with this value, or none, and has this effect
  is_change_of : (call : Call) (held : Option ℕ) (kind : Kind) (value : ℕ) → effect_of call (reply_to call held) ≡ Some (kind, value) →
      x ≡ record { pass = q; key = key_of call; value = value; kind = kind } → was ≡ held → IsChangeOf q call (reply_to call held) x was
  is_change_of call held kind value effect x_is was_is = (ap (reply_to call) (sym was_is), ap (option_map (λ (e : Kind × ℕ). record { pass = q; key = key_of call; value = e.1; kind = e.0 })) effect ∙ ap Some (sym x_is))

  -- where a call expects a value, it has its effect if it has its aim
  expected_effect : {A : Type 0} (P : Reply → A) (b : Bool) (own aim : Aim) (held : ℕ) (met : Map × Reply) → (if b then Some own else None) ≡ Some aim → P (step_if b [] held met).1 ≡ P met.1
  expected_effect P true own aim held met e = refl
  expected_effect P false own aim held met e = absurd (cc)

  made_change : (call : Call) (held : Option ℕ) (aim : Aim) → aim_of call held ≡ Some aim → IsMade q (key_of call) (value_in call held) aim held x was → IsChangeOf q call (reply_to call held) x was
  made_change (Insert key value) None aim e made =
      let (x_is, was_is) = subst (λ a. IsMade q key value a None x was) (some_is _ _ (sym e)) made in is_change_of (Insert key value) None Added value refl x_is was_is
  made_change (Insert key value) (Some held) aim e made = absurd (subst (λ a. IsMade q key value a (Some held) x was) (some_is _ _ (sym e)) made)
  made_change (Upsert key value) None aim e made =
      let (x_is, was_is) = subst (λ a. IsMade q key value a None x was) (some_is _ _ (sym e)) made in is_change_of (Upsert key value) None Added value refl x_is was_is
  made_change (Upsert key value) (Some held) aim e made =
      let (x_is, was_is) = subst (λ a. IsMade q key value a (Some held) x was) (some_is _ _ (sym e)) made in is_change_of (Upsert key value) (Some held) Replaced value refl x_is was_is
  made_change (Exchange key expected value) None aim e made = absurd (cc)
  made_change (Exchange key expected value) (Some held) aim e made =
      let (x_is, was_is) = aim_met (λ a. IsMade q key value a (Some held) x was) expected (Some held) ToUpsert aim e made in
      is_change_of (Exchange key expected value) (Some held) Replaced value (expected_effect (effect_of (Exchange key expected value)) (nat_eq held expected) ToUpsert aim held _ e) x_is was_is
  made_change (Add key delta) None aim e made = absurd (cc)
  made_change (Add key delta) (Some held) aim e made =
      let (x_is, was_is) = subst (λ a. IsMade q key (wrapped_sum held delta) a (Some held) x was) (some_is _ _ (sym e)) made in
      is_change_of (Add key delta) (Some held) Replaced (wrapped_sum held delta) refl x_is was_is
  made_change (Get key) held aim e made = absurd (cc)
  made_change (Remove key) None aim e made = absurd (subst (λ a. IsMade q key 0 a None x was) (some_is _ _ (sym e)) made)
  made_change (Remove key) (Some held) aim e made =
      let (x_is, was_is) = subst (λ a. IsMade q key 0 a (Some held) x was) (some_is _ _ (sym e)) made in is_change_of (Remove key) (Some held) TakenAway held refl x_is was_is
  made_change (RemoveIf key expected) None aim e made = absurd (cc)
  made_change (RemoveIf key expected) (Some held) aim e made =
      let (x_is, was_is) = aim_met (λ a. IsMade q key 0 a (Some held) x was) expected (Some held) ToRemove aim e made in
      is_change_of (RemoveIf key expected) (Some held) TakenAway held (expected_effect (effect_of (RemoveIf key expected)) (nat_eq held expected) ToRemove aim held _ e) x_is was_is

takes : (k : Known) (m : ℕ) (key : Key) (way : List PathNode) (found : Found) (span : Span) (deed : Deed) → IsPlanned k m key way ToRemove found (a_change span deed) → TakesLeaf deed
takes k m key way Nothing span deed (first, last, is, affected) = no_answer _ span deed (sym is)
takes k m key way (Leaf n v (Some p)) span deed (first, last, is, affected) = no_answer _ span deed (sym is)
takes k m key way (Leaf n v None) span deed (first, last, is, affected) = subst TakesLeaf (sym (ap deed_in is)) (taking_takes way)

-- a removal that changes the map takes a leaf away
pub removal_takes : (k : Known) (m : ℕ) (key : Key) (way : List PathNode) (aim : Aim) (found : Found) (plan : Plan) (span : Span) (deed : Deed) → aim ≡ ToRemove →
    plan ≡ a_change span deed → IsPlanned k m key way aim found plan → TakesLeaf deed
removal_takes k m key way aim found plan span deed e is planned =
    takes k m key way found span deed (subst (λ a. IsPlanned k m key way a found (a_change span deed)) e (subst (IsPlanned k m key way aim found) is planned))

-- a removal is not full of leaves, if what aims at one is not; and no call that was answered is
pub leafless : (call : Call) (held : Option ℕ) (aim : Aim) (fault : TryFault) → aim_of call held ≡ Some aim → (aim ≡ ToRemove → fault ≢ FullLeaves) → LacksNoLeaf FullLeaves call (Err fault)
leafless (Insert key value) held aim fault e h = tt
leafless (Upsert key value) held aim fault e h = tt
leafless (Exchange key expected value) held aim fault e h = tt
leafless (Add key delta) held aim fault e h = tt
leafless (Get key) held aim fault e h = tt
leafless (Remove key) held aim fault e h = λ is. h (sym (some_is _ _ e)) (let z : fault ≡ FullLeaves = cc in z)
leafless (RemoveIf key expected) held aim fault e h = λ is. aim_met (λ a. a ≡ ToRemove → ⊥) expected held ToRemove aim e (λ removes. h removes (let z : fault ≡ FullLeaves = cc in z)) refl

-- a removal aims at one, and a refusal for want of a node record is another fault than the kind
pub removes_aim : (call : Call) (held : Option ℕ) (aim : Aim) → IsRemoval call → aim_of call held ≡ Some aim → aim ≡ ToRemove
removes_aim (Insert key value) held aim r e = absurd r
removes_aim (Upsert key value) held aim r e = absurd r
removes_aim (Exchange key expected value) held aim r e = absurd r
removes_aim (Add key delta) held aim r e = absurd r
removes_aim (Get key) held aim r e = absurd r
removes_aim (Remove key) held aim r e = sym (some_is _ _ e)
removes_aim (RemoveIf key expected) held aim r e = aim_met (λ a. aim ≡ a) expected held ToRemove aim e refl

pub nodes_refused : (full : Full) → refusal_of full ≡ FullNodes → full ≡ Nodes
nodes_refused Nodes is = refl
nodes_refused Leaves is = cc

pub answered_leafless : (call : Call) (reply : Reply) → LacksNoLeaf FullLeaves call (Ok reply)
answered_leafless (Insert key value) reply = tt
answered_leafless (Upsert key value) reply = tt
answered_leafless (Exchange key expected value) reply = tt
answered_leafless (Add key delta) reply = tt
answered_leafless (Get key) reply = tt
answered_leafless (Remove key) reply = λ is. absurd (cc)
answered_leafless (RemoveIf key expected) reply = λ is. absurd (cc)

-- the change of a pass that went on before
pub changed_from_before : (k i j : Known) (x : Change) (was : Option ℕ) → i.pass ≡ k.pass → OthersGoOn k.pass k.front i.front → HasChanged i j x was → HasChanged k j x was
changed_from_before k i j x was pass others c = record {
  rest = c.rest;
  before = c.before;
  others = others_on k.pass k.front i.front c.before others (subst (λ q. OthersGoOn q i.front c.before) pass c.others);
  front = c.front;
  fresh = c.fresh;
  fits = c.fits;
  was_held = c.was_held;
}

-- ---- after the search and the plan
-- What the pass knows when it has searched and planned: nothing is its own, and it loaded the root at a version since the start.
pub record Begun {G : Type 0} (table : TableView) (becomes : G → Event → G → Type 0) (a c : SeatView × G) : Type 0 where
  pub run : HasRun table becomes a c
  pub loaded : HasLoadedRoot a.0.known c.0.known
  pub later : IsLater a.0.known c.0.known
  pub rest : IsAtRest c.0.known
  pub seat : IsSeatOf table c.0

module _ {G : Type 0} (table : TableView) (becomes : G → Event → G → Type 0) where
  pub begun : (e n : ℕ) (a c : SeatView × G) → Looks table becomes e n a c → IsPossible table.layout c.0.known → IsSeatOf table a.0 → IsAtRest a.0.known → Begun table becomes a c
  begun e n a c looks possible seat rest =
      let h = looked_at looks in record {
        run = looks_run table becomes e n a c looks;
        loaded = record { from = h.now; upto = possible.knows.counted.loaded; old = h.fresh; new = possible.knows.seen.fresh };
        later = h.later;
        rest = record {
          own = ap (λ (z : Known). z.own) h.sees ∙ rest.own;
          locks = ap (λ (z : Known). z.locks) h.sees ∙ rest.locks;
          anchor = ap (λ (z : Known). z.anchor) h.sees ∙ rest.anchor;
        };
        seat = (looks_same looks).0 ∙ seat;
      }

  pub searched : (a c : SeatView × G) → HasSearched table becomes a c → IsPossible table.layout c.0.known → IsSeatOf table a.0 → IsAtRest a.0.known → Begun table becomes a c
  searched a c s possible seat rest = begun s.nodes s.loaded a c s.looks possible seat rest

  -- loads below the root leave it so
  pub rest_reads : (e n : ℕ) (a b : SeatView × G) → Reads table becomes e n a b → IsAtRest a.0.known → IsAtRest b.0.known
  rest_reads e n a b r rest = let s = reads_sees r in record {
    own = ap (λ (z : Known). z.own) s ∙ rest.own;
    locks = ap (λ (z : Known). z.locks) s ∙ rest.locks;
    anchor = ap (λ (z : Known). z.anchor) s ∙ rest.anchor;
  }

  -- so after the search and such loads
  pub begun_on : (e n : ℕ) (a m p : SeatView × G) → HasSearched table becomes a m → IsPossible table.layout m.0.known → IsSeatOf table a.0 → IsAtRest a.0.known → Reads table becomes e n m p → Begun table becomes a p
  begun_on e n a m p s possible seat rest r = let b = searched a m s possible seat rest in record {
    run = runs_trans table becomes a m p b.run (reads_run table becomes e n m p r);
    loaded = run_loaded table becomes a.0.known m p b.loaded (reads_run table becomes e n m p r);
    later = later_trans b.later (reads_later r);
    rest = rest_reads e n m p r b.rest;
    seat = (reads_same r).0 ∙ b.seat;
  }

-- ---- found again
-- the plan is that of what was found again, too
pub planned_again : (k : Known) (m : ℕ) (key : Key) (way : List PathNode) (aim : Aim) (found : Found) (value : ℕ) (span : Span) (deed : Deed) → IsPlanned k m key way aim found (a_change span deed) →
    IsPlanned k m key way aim (revalued found value) (a_change span deed)
planned_again k m key way aim Nothing value span deed planned = planned
planned_again k m key way aim (Leaf n v (Some p)) value span deed planned = planned
planned_again k m key way ToInsert (Leaf n v None) value span deed (first, last, is, affected) = no_answer _ span deed (sym is)
planned_again k m key way ToUpsert (Leaf n v None) value span deed planned = planned
planned_again k m key way ToRemove (Leaf n v None) value span deed planned = planned

-- a call keeps its aim where it has one
aim_here : (expected : ℕ) (a b : ℕ) (own aim : Aim) → aim_where expected (Some a) own ≡ Some aim → IsSome (aim_where expected (Some b) own) → aim_where expected (Some b) own ≡ Some aim
aim_here expected a b own aim e some = go (nat_eq a expected) (nat_eq b expected) e some
  where
    go : (x y : Bool) → (if x then Some own else None) ≡ Some aim → IsSome (if y then Some own else None) → (if y then Some own else None) ≡ Some aim
    go true true e s = e
    go true false e s = absurd (let z : ⊥ = cc in z)
    go false y e s = absurd (cc)

pub aims_again : (call : Call) (a b : ℕ) (aim : Aim) → aim_of call (Some a) ≡ Some aim → IsSome (aim_of call (Some b)) → aim_of call (Some b) ≡ Some aim
aims_again (Insert key value) a b aim e some = e
aims_again (Upsert key value) a b aim e some = e
aims_again (Exchange key expected value) a b aim e some = aim_here expected a b ToUpsert aim e some
aims_again (Add key delta) a b aim e some = e
aims_again (Get key) a b aim e some = absurd (cc)
aims_again (Remove key) a b aim e some = e
aims_again (RemoveIf key expected) a b aim e some = aim_here expected a b ToRemove aim e some

pub no_aim : {A : Type 0} (o : Option Aim) → IsSome o → o ≡ None → A
no_aim None some none = absurd (let z : ⊥ = cc in z)
no_aim (Some aim) some none = absurd (cc)

taking_spares : (way : List PathNode) → 3 ≤ spare_steps (removal_deed way)
taking_spares [] = omega arith
taking_spares (step ∷ []) = omega arith
taking_spares (step ∷ next ∷ way) = omega arith

-- a deed that makes a leaf's record loads no value, and one that takes a leaf away spares its steps
pub loads_spared : (k : Known) (m : ℕ) (key : Key) (way : List PathNode) (aim : Aim) (found : Found) (span : Span) (deed : Deed) → IsPlanned k m key way aim found (a_change span deed) →
    3 * held_loads found ≤ spare_steps deed
loads_spared k m key way aim Nothing span deed planned = omega arith
loads_spared k m key way aim (Leaf n v (Some p)) span deed planned = omega arith
loads_spared k m key way ToInsert (Leaf n v None) span deed (first, last, is, affected) = no_answer _ span deed (sym is)
loads_spared k m key way ToUpsert (Leaf n v None) span deed (first, last, is, affected) = subst (λ d. 3 ≤ spare_steps d) (sym (ap deed_in is)) (omega arith)
loads_spared k m key way ToRemove (Leaf n v None) span deed (first, last, is, affected) = subst (λ d. 3 ≤ spare_steps d) (sym (ap deed_in is)) (taking_spares way)

-- since the start no fewer steps have been made
loaded_steps : (k j : Known) → HasLoadedRoot k j → k.steps ≤ j.steps
loaded_steps k j l = let x = l.from in let y = l.upto in omega (arith, x, y)

-- ---- refusals
pub refused_busy : (layout : Layout) (bounds : List ℕ) (key : Key) (k i j : Known) (m : ℕ) (made : List Rec) → IsPinnedSince i m → HasLoadedRoot k i → IsLater k i → IsLater i j → HasMetLock layout i j ⊎ (m < length j.front) → HasRefused layout bounds key k j made Busy
refused_busy layout bounds key k i j m made (p, pinned, early) loaded first next why = record {
  others = (later_trans first next).front;
  cause = elim why [ inl met ↦ inl (met_since layout k i j j (loaded_steps k i loaded) first.pass refl met) | inr moved ↦ inr (m, (p, (sym first.pin ∙ pinned), early), moved) ];
}

-- ---- which records must be found not free
none_more : (bounds : List ℕ) → AtMost (uncommitted_in []) (uncommitted_in bounds)
none_more bounds kind = omega arith

pub deed_bounds_fall : (deed : Deed) (few many : List ℕ) → AtMost (uncommitted_in few) (uncommitted_in many) → AtMost (uncommitted_in (bounds_of_deed deed few)) (uncommitted_in (bounds_of_deed deed many))
deed_bounds_fall Take few many falls = none_more []
deed_bounds_fall TakeTop few many falls = none_more []
deed_bounds_fall Empty few many falls = none_more []
deed_bounds_fall ValueDeed few many falls = falls
deed_bounds_fall Put few many falls = falls
deed_bounds_fall (PushDown position) few many falls = falls
deed_bounds_fall (Grow position) few many falls = falls

-- of a deed no more than those that are known to be committed, and of one that takes a leaf away all
deed_bounds_few : (deed : Deed) (bounds : List ℕ) → AtMost (uncommitted_in (bounds_of_deed deed bounds)) (uncommitted_in bounds)
deed_bounds_few Take bounds = none_more bounds
deed_bounds_few TakeTop bounds = none_more bounds
deed_bounds_few Empty bounds = none_more bounds
deed_bounds_few ValueDeed bounds = λ kind. le_refl (uncommitted_in bounds kind)
deed_bounds_few Put bounds = λ kind. le_refl (uncommitted_in bounds kind)
deed_bounds_few (PushDown position) bounds = λ kind. le_refl (uncommitted_in bounds kind)
deed_bounds_few (Grow position) bounds = λ kind. le_refl (uncommitted_in bounds kind)

deed_bounds_all : (deed : Deed) (bounds : List ℕ) → TakesLeaf deed → AtMost (uncommitted_in (bounds_of_deed deed bounds)) (uncommitted_in [])
deed_bounds_all Take bounds takes = none_more []
deed_bounds_all TakeTop bounds takes = none_more []
deed_bounds_all Empty bounds takes = none_more []
deed_bounds_all ValueDeed bounds takes = absurd takes
deed_bounds_all Put bounds takes = absurd takes
deed_bounds_all (PushDown position) bounds takes = absurd takes
deed_bounds_all (Grow position) bounds takes = absurd takes

-- those of a call's deed are among those of the call
pub call_bounds : (call : Call) (deed : Deed) (few many : List ℕ) → (IsRemoval call → TakesLeaf deed) → AtMost (uncommitted_in few) (uncommitted_in many) →
    AtMost (uncommitted_in (bounds_of_deed deed few)) (uncommitted_in (bounds_for call many))
call_bounds (Insert key value) deed few many takes falls = at_most_trans _ (uncommitted_in few) _ (deed_bounds_few deed few) falls
call_bounds (Upsert key value) deed few many takes falls = at_most_trans _ (uncommitted_in few) _ (deed_bounds_few deed few) falls
call_bounds (Exchange key expected value) deed few many takes falls = at_most_trans _ (uncommitted_in few) _ (deed_bounds_few deed few) falls
call_bounds (Add key delta) deed few many takes falls = at_most_trans _ (uncommitted_in few) _ (deed_bounds_few deed few) falls
call_bounds (Get key) deed few many takes falls = at_most_trans _ (uncommitted_in few) _ (deed_bounds_few deed few) falls
call_bounds (Remove key) deed few many takes falls = deed_bounds_all deed few (takes tt)
call_bounds (RemoveIf key expected) deed few many takes falls = deed_bounds_all deed few (takes tt)

full_cause : (layout : Layout) (bounds : List ℕ) (key : Key) (k j : Known) (made : List Rec) (full : Full) → IsFull layout bounds key k j made full → IsAttemptCause layout bounds key k j made (refusal_of full)
full_cause layout bounds key k j made Nodes f = f
full_cause layout bounds key k j made Leaves f = f

module _ (layout : Layout) (few many : List ℕ) (falls : AtMost (uncommitted_in few) (uncommitted_in many)) where
  refused_full : (key : Key) (k i j : Known) (made : List Rec) (full : Full) → HasLoadedRoot k i → IsLater k i → HasNoRoom layout few key i j made full → HasRefused layout many key k j made (refusal_of full)
  refused_full key k i j made full loaded later none = record {
    others = (later_trans later none.later).front;
    cause = full_cause layout many key k j made full (full_since layout few many key k i j made full falls (loaded_steps k i loaded) none.full_of);
  }

  -- what is so by few bounds is so by more
  pub refused_fewer : (key : Key) (k j : Known) (made : List Rec) (fault : TryFault) → HasRefused layout few key k j made fault → HasRefused layout many key k j made fault
  refused_fewer key k j made Busy r = record { others = r.others; cause = r.cause }
  refused_fewer key k j made FullNodes r = record { others = r.others; cause = full_since layout few many key k k j made Nodes falls (le_refl k.steps) r.cause }
  refused_fewer key k j made FullLeaves r = record { others = r.others; cause = full_since layout few many key k k j made Leaves falls (le_refl k.steps) r.cause }

  -- a change that failed
  pub refused_failed : (job : Job) (k i j : Known) (made : List Rec) (fault : TryFault) (m : ℕ) → IsJobFrom layout i m job → HasLoadedRoot k i → IsLater k i → HasFailed layout few job i j made fault → HasRefused layout many job.key.now k j made fault
  refused_failed job k i j made Busy m from loaded first (rest, later, moved) = refused_busy layout many job.key.now k i j m made from.since loaded first later (inr (moved m from))
  refused_failed job k i j made FullNodes m from loaded first none = refused_full job.key.now k i j made Nodes loaded first none
  refused_failed job k i j made FullLeaves m from loaded first none = refused_full job.key.now k i j made Leaves loaded first none

-- as busy only where it had moved
pub failed_moved : (layout : Layout) (bounds : List ℕ) (job : Job) (i j : Known) (made : List Rec) (fault : TryFault) (m : ℕ) → IsJobFrom layout i m job → HasFailed layout bounds job i j made fault → fault ≡ Busy → m < length j.front
failed_moved layout bounds job i j made Busy m from (rest, later, moved) is = moved m from
failed_moved layout bounds job i j made FullNodes m from none is = absurd (cc)
failed_moved layout bounds job i j made FullLeaves m from none is = absurd (cc)

pub failed_later : (layout : Layout) (bounds : List ℕ) (job : Job) (i j : Known) (made : List Rec) (fault : TryFault) → HasFailed layout bounds job i j made fault → IsLater i j
failed_later layout bounds job i j made Busy failed = failed.1
failed_later layout bounds job i j made FullNodes none = none.later
failed_later layout bounds job i j made FullLeaves none = none.later

-- a call that expects a value aims at something only where its key has that value
expects : (expected held : ℕ) (own aim : Aim) → aim_where expected (Some held) own ≡ Some aim → held ≡ expected
expects expected held own aim e = go (nat_eq held expected) refl e
  where
    go : (b : Bool) → nat_eq held expected ≡ b → (if b then Some own else None) ≡ Some aim → held ≡ expected
    go true same e = eqb-true held expected same
    go false same e = absurd (cc)

-- a call that aims at a removal is one, and has found its key
removal_may : (j : Known) (call : Call) (held : ℕ) → aim_of call (Some held) ≡ Some ToRemove → HasSeenKeyHeld j (key_of call) held → WantsRecord j call
removal_may j (Insert key value) held e met = absurd (cc)
removal_may j (Upsert key value) held e met = absurd (cc)
removal_may j (Exchange key expected value) held e met = absurd (let other : ToUpsert ≡ ToRemove = aim_met (λ a. a ≡ ToRemove) expected (Some held) ToUpsert ToRemove e refl in cc)
removal_may j (Add key delta) held e met = absurd (cc)
removal_may j (Get key) held e met = absurd (cc)
removal_may j (Remove key) held e met = (held, met)
removal_may j (RemoveIf key expected) held e met = subst (HasSeenKeyHeld j key) (expects expected held ToRemove ToRemove e) met

-- and one that aims at anything else where its key is absent gives it a value
absent_may : (j : Known) (call : Call) (aim : Aim) → (aim ≡ ToRemove → ⊥) → aim_of call None ≡ Some aim → HasSeenKeyAbsent j (key_of call) → WantsRecord j call
absent_may j (Insert key value) aim gives e missed = missed
absent_may j (Upsert key value) aim gives e missed = missed
absent_may j (Exchange key expected value) aim gives e missed = absurd (cc)
absent_may j (Add key delta) aim gives e missed = absurd (cc)
absent_may j (Get key) aim gives e missed = absurd (cc)
absent_may j (Remove key) aim gives e missed = absurd (gives (sym (some_is _ _ e)))
absent_may j (RemoveIf key expected) aim gives e missed = absurd (cc)

missed : (k j : Known) (key other : Key) → key ≡ other → IsPinnedSince k (since k) → Sure k (λ s. WasAbsentSince s (since k) key) → IsLater k j → HasSeenKeyAbsent j other
missed k j key other same pinned sure later =
    (since k, since_later later pinned, subst (λ z. Sure j (λ s. WasAbsentSince s (since k) z)) same (sure_later {P = λ s. WasAbsentSince s (since k) key} (missed_stable (since k) key) later sure))

met : (k j : Known) (key other : Key) (value : ℕ) → key ≡ other → IsPinnedSince k (since k) → Sure k (λ s. IsHeldSince s (since k) key value) → IsLater k j → HasSeenKeyHeld j other value
met k j key other value same pinned sure later =
    (since k, since_later later pinned, subst (λ z. Sure j (λ s. IsHeldSince s (since k) z value)) same (sure_later {P = λ s. IsHeldSince s (since k) key value} (held_stable (since k) key value) later sure))

-- so where no record was free for it, it may take one
pub full_of_new : (k p j : Known) (m : ℕ) (key : Key) (way : List PathNode) (aim : Aim) (found : Found) (span : Span) (deed : Deed) (fault : TryFault) (call : Call) → key ≡ key_of call →
    IsPlanned p m key way aim found (a_change span deed) → IsPinnedSince k (since k) → HasFound k key (value_of found) → IsLater k j → aim_of call (value_of found) ≡ Some aim → (deed ≡ ValueDeed → fault ≡ Busy) →
    IsFullOnlyIfWanting j call fault
full_of_new k p j m key way ToInsert Nothing span deed fault call same planned pinned sure later e whole full = absent_may j call ToInsert (λ is. cc) e (missed k j key (key_of call) same pinned sure later)
full_of_new k p j m key way ToUpsert Nothing span deed fault call same planned pinned sure later e whole full = absent_may j call ToUpsert (λ is. cc) e (missed k j key (key_of call) same pinned sure later)
full_of_new k p j m key way ToRemove Nothing span deed fault call same (first, last, is, affected) pinned sure later e whole full = no_answer _ span deed (sym is)
full_of_new k p j m key way ToInsert (Leaf n v (Some q)) span deed fault call same planned pinned sure later e whole full = absent_may j call ToInsert (λ is. cc) e (missed k j key (key_of call) same pinned sure later)
full_of_new k p j m key way ToUpsert (Leaf n v (Some q)) span deed fault call same planned pinned sure later e whole full = absent_may j call ToUpsert (λ is. cc) e (missed k j key (key_of call) same pinned sure later)
full_of_new k p j m key way ToRemove (Leaf n v (Some q)) span deed fault call same (first, last, is, affected) pinned sure later e whole full = no_answer _ span deed (sym is)
full_of_new k p j m key way ToInsert (Leaf n v None) span deed fault call same (first, last, is, affected) pinned sure later e whole full = no_answer _ span deed (sym is)
full_of_new k p j m key way ToUpsert (Leaf n v None) span deed fault call same (first, last, is, affected) pinned sure later e whole full = absurd (subst IsFullFault (whole (ap deed_in is)) full)
full_of_new k p j m key way ToRemove (Leaf n v None) span deed fault call same (first, last, is, affected) pinned sure later e whole full = removal_may j call v e (met k j key (key_of call) v same pinned sure later)

-- ---- how many steps a new value takes
-- it locks one node, or the anchor
pub one_lock : (k : Known) (m : ℕ) (key : Key) (way : List PathNode) (aim : Aim) (found : Found) (span : Span) (deed : Deed) → IsPlanned k m key way aim found (a_change span deed) → deed ≡ ValueDeed → locks_of span ≡ 1
one_lock k m key way aim found span deed planned e =
    let (number, value, is, len, end) = value_found k m key way aim found span (subst (λ d. IsPlanned k m key way aim found (a_change span d)) e planned) in omega (arith, len, end)

-- a call that aims at a new value of a held key alone
upserts : (expected v : ℕ) (aim : Aim) → aim_where expected (Some v) ToUpsert ≡ Some aim → aim ≡ ToUpsert
upserts expected v ToInsert e = absurd (let other : ToUpsert ≡ ToInsert = aim_met (λ a. a ≡ ToInsert) expected (Some v) ToUpsert ToInsert e refl in cc)
upserts expected v ToUpsert e = refl
upserts expected v ToRemove e = absurd (let other : ToUpsert ≡ ToRemove = aim_met (λ a. a ≡ ToRemove) expected (Some v) ToUpsert ToRemove e refl in cc)

value_planned : (k : Known) (m : ℕ) (key : Key) (way : List PathNode) (aim : Aim) (n v : ℕ) (span : Span) (deed : Deed) → IsPlanned k m key way aim (Leaf n v None) (a_change span deed) → aim ≡ ToUpsert → deed ≡ ValueDeed
value_planned k m key way ToInsert n v span deed planned e = absurd (cc)
value_planned k m key way ToUpsert n v span deed (first, last, is, affected) e = ap deed_in is
value_planned k m key way ToRemove n v span deed planned e = absurd (cc)

-- the deed of an exchange or an addition
exchange_values : (k : Known) (m : ℕ) (key : Key) (way : List PathNode) (expected : ℕ) (aim : Aim) (found : Found) (span : Span) (deed : Deed) → aim_where expected (value_of found) ToUpsert ≡ Some aim →
    IsPlanned k m key way aim found (a_change span deed) → deed ≡ ValueDeed
exchange_values k m key way expected aim Nothing span deed e planned = absurd (cc)
exchange_values k m key way expected aim (Leaf n v (Some p)) span deed e planned = absurd (cc)
exchange_values k m key way expected aim (Leaf n v None) span deed e planned = value_planned k m key way aim n v span deed planned (upserts expected v aim e)

add_values : (k : Known) (m : ℕ) (key : Key) (way : List PathNode) (added : Key) (delta : ℕ) (aim : Aim) (found : Found) (span : Span) (deed : Deed) → aim_of (Add added delta) (value_of found) ≡ Some aim →
    IsPlanned k m key way aim found (a_change span deed) → deed ≡ ValueDeed
add_values k m key way added delta aim Nothing span deed e planned = absurd (cc)
add_values k m key way added delta aim (Leaf n v (Some p)) span deed e planned = absurd (cc)
add_values k m key way added delta aim (Leaf n v None) span deed e planned = value_planned k m key way aim n v span deed planned (let same : ToUpsert ≡ aim = cc in sym same)

-- a change that was tried makes no more steps than an attempt of its call
pub tried_few : (layout : Layout) (a b : ℕ) (k : Known) (m : ℕ) (key : Key) (way : List PathNode) (aim : Aim) (found : Found) (span : Span) (deed : Deed) (call : Call) → aim_of call (value_of found) ≡ Some aim →
    IsPlanned k m key way aim found (a_change span deed) → (deed ≡ ValueDeed → b ≤ a + search_steps most_nodes + HEAD_WORDS + value_steps) → b ≤ a + most_steps layout → b ≤ a + most_steps_of call layout
tried_few layout a b k m key way aim found span deed (Insert own value) e planned short few = few
tried_few layout a b k m key way aim found span deed (Upsert own value) e planned short few = few
tried_few layout a b k m key way aim found span deed (Exchange own expected value) e planned short few = let n = short (exchange_values k m key way expected aim found span deed e planned) in omega (arith, n)
tried_few layout a b k m key way aim found span deed (Add own delta) e planned short few = let n = short (add_values k m key way own delta aim found span deed e planned) in omega (arith, n)
tried_few layout a b k m key way aim found span deed (Get own) e planned short few = few
tried_few layout a b k m key way aim found span deed (Remove own) e planned short few = few
tried_few layout a b k m key way aim found span deed (RemoveIf own expected) e planned short few = few

-- nor does one that only looks
pub looked_few : (layout : Layout) (a b : ℕ) (call : Call) → b ≤ a + search_steps most_nodes + HEAD_WORDS → b ≤ a + most_steps_of call layout
looked_few layout a b (Insert own value) few = omega (arith, few)
looked_few layout a b (Upsert own value) few = omega (arith, few)
looked_few layout a b (Exchange own expected value) few = omega (arith, few)
looked_few layout a b (Add own delta) few = omega (arith, few)
looked_few layout a b (Get own) few = omega (arith, few)
looked_few layout a b (Remove own) few = omega (arith, few)
looked_few layout a b (RemoveIf own expected) few = omega (arith, few)

-- a refusal for want of a leaf record is for want of one
pub leaves_refused : (full : Full) → refusal_of full ≡ FullLeaves → full ≡ Leaves
leaves_refused Nodes e = absurd (cc)
leaves_refused Leaves e = refl

-- ---- answers
pub answered_look : (k j : Known) (call : Call) (reply : Reply) → IsLater k j → HasLooked j call reply → HasAnswered k j call reply
answered_look k j call reply later looked = inl (looked, later.front)

pub answered_change : (k p i j : Known) (m : ℕ) (key : Key) (value : ℕ) (way : List PathNode) (call : Call) (held : Option ℕ) (aim : Aim) (found : Found) (span : Span) (deed : Deed) → IsLater k i →
    key ≡ key_of call → value ≡ value_in call held → held ≡ value_of found → aim_of call held ≡ Some aim → IsPlanned p m key way aim found (a_change span deed) → HasDoneDeed i j deed key value found →
    HasAnswered k j call (reply_to call held)
answered_change k p i j m key value way call held aim found span deed later key_is value_is held_is e planned done =
    let (x, was, made, changed) = plan_does i j p m key value way aim found span deed planned done in
    let asked = subst (λ h. IsMade i.pass (key_of call) (value_in call held) aim h x was) (sym held_is)
    (subst (λ v. IsMade i.pass (key_of call) v aim (value_of found) x was) value_is (subst (λ z. IsMade i.pass z value aim (value_of found) x was) key_is made)) in
    inr (x, was, subst (λ q. IsChangeOf q call (reply_to call held) x was) later.pass (made_change i.pass x was call held aim e asked), changed_from_before k i j x was later.pass later.front changed)
