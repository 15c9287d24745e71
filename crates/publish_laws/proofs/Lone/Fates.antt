-- What a step makes of the fate of a record, where it is no publish, and what a publish makes of one that was not made ready.
use Rattle.publish_laws.proofs.Common.{◌≡◌, ◌≢◌, ℕ, suc, Bool, true, false, nat_eq, if◌then◌else◌, Option, Some, None, refl, subst, Rec, Fate, Shared, Free, Held, Ready, InTree, Unlinked, Marked, with_fate, with_lock, with_epoch, unlocked, next_fate, Act, Claim, Fill, MakeReady, Release, LoadRef, LoadFixed, Lock, Unlock, Publish, Mark, LoadEpoch, Advance, SetPin, ClearPin, LoadPin, LoadState, GiveBack, Load, Anchor, NodeTarget, Core, after, anchored, claimed, given_back, marked}
use Rattle.record_words.specs.declared.state.Tag.TheVariants.{Live}
use Rattle.record_words.specs.State.{state_word}
use Rattle.rowex_core.proofs.Sharing.{at_record}
use Rattle.publish_laws.specs.Lone.{IsOut, LeavesTree, IsUnused}

-- What holds of a fate holds of those that steps which are no publishes make of it.
pub record IsClosed (P : Fate → Type 0) : Type 0 where
  pub free : P Free
  pub held : (q : ℕ) → P (Held q)
  pub ready : (q : ℕ) → P (Ready q)

-- and of what a mark makes of it, if the step is one
abbrev pub MarksWell : (Fate → Type 0) → Act → Type 0
MarksWell P (Mark r epoch) = (since last q : ℕ) → P (Unlinked since last q) → P (Marked since last epoch)
MarksWell P act = Unit {0}

pub out_closed : IsClosed IsOut
out_closed = record { free = tt; held = λ q. tt; ready = λ q. tt }

pub out_marks : (act : Act) → MarksWell IsOut act
out_marks (Mark r epoch) = λ since last q h. tt
out_marks _ = tt

pub unused_closed : IsClosed IsUnused
unused_closed = record { free = tt; held = λ q. tt; ready = λ q. tt }

pub unused_marks : (act : Act) → MarksWell IsUnused act
unused_marks (Mark r epoch) = λ since last q h. absurd h
unused_marks _ = tt

module _ (P : Fate → Type 0) (closed : IsClosed P) where
  -- one record gets another fate
  given : (s : Shared) (r : Rec) (f : Fate) → (P (s.fate r) → P f) → (i : Rec) → P (s.fate i) → P ((with_fate s r f).fate i)
  given s r f h i = at_record (λ j g. P (s.fate j) → P g) r f s.fate h (λ j other was. was) i

  claim_kept : (s : Shared) (q : ℕ) (r : Rec) (f : Fate) (i : Rec) → P (s.fate i) → P ((claimed s q r f).fate i)
  claim_kept s q r Free i = given s r (Held q) (λ was. closed.held q) i
  claim_kept s q r (Held p) i = λ was. was
  claim_kept s q r (Ready p) i = λ was. was
  claim_kept s q r (InTree since) i = λ was. was
  claim_kept s q r (Unlinked since last p) i = λ was. was
  claim_kept s q r (Marked since last epoch) i = λ was. was

  mark_kept : (s : Shared) (r : Rec) (epoch : ℕ) → ((since last q : ℕ) → P (Unlinked since last q) → P (Marked since last epoch)) → (f : Fate) → s.fate r ≡ f → (i : Rec) → P (s.fate i) → P ((marked s r epoch f).fate i)
  mark_kept s r epoch well (Unlinked since last p) is i = given (unlocked s r) r (Marked since last epoch) (λ was. well since last p (subst P is was)) i
  mark_kept s r epoch well Free is i = λ was. was
  mark_kept s r epoch well (Held p) is i = λ was. was
  mark_kept s r epoch well (Ready p) is i = λ was. was
  mark_kept s r epoch well (InTree since) is i = λ was. was
  mark_kept s r epoch well (Marked since last m) is i = λ was. was

  either : (b : Bool) (s t : Shared) (i : Rec) → P (s.fate i) → P (t.fate i) → P ((if b then s else t).fate i)
  either true s t i one other = one
  either false s t i one other = other

  given_back_kept : (s : Shared) (r : Rec) (epoch : ℕ) (f : Fate) (i : Rec) → P (s.fate i) → P ((given_back s r epoch f).fate i)
  given_back_kept s r epoch (Marked since last m) i = λ was. either (nat_eq m epoch) (with_fate s r Free) s i (given s r Free (λ h. closed.free) i was) was
  given_back_kept s r epoch Free i = λ was. was
  given_back_kept s r epoch (Held p) i = λ was. was
  given_back_kept s r epoch (Ready p) i = λ was. was
  given_back_kept s r epoch (InTree since) i = λ was. was
  given_back_kept s r epoch (Unlinked since last p) i = λ was. was

  anchor_kept : (s : Shared) (q : ℕ) (o : Option ℕ) (i : Rec) → P (s.fate i) → P ((anchored s q o).fate i)
  anchor_kept s q None i = λ was. was
  anchor_kept s q (Some p) i = λ was. was

  -- a step that is no publish
  pub fate_kept : (c : Core) (q : ℕ) (act : Act) → LeavesTree act → MarksWell P act → (i : Rec) → P (c.fate i) → P ((after c q act).fate i)
  fate_kept c q (Claim r found) plain well i = claim_kept c.shared q r (c.fate r) i
  fate_kept c q (Fill r offset w) plain well i = λ was. was
  fate_kept c q (MakeReady r) plain well i = given c.shared r (Ready q) (λ was. closed.ready q) i
  fate_kept c q (Release r) plain well i = given c.shared r Free (λ was. closed.free) i
  fate_kept c q (LoadRef spot w) plain well i = λ was. was
  fate_kept c q (LoadFixed r offset w) plain well i = λ was. was
  fate_kept c q (Lock Anchor found) plain well i = anchor_kept c.shared q c.anchor i
  fate_kept c q (Lock (NodeTarget n) found) plain well i = λ was. either (nat_eq found (state_word Live)) (with_lock c.shared n (Some q)) c.shared i was was
  fate_kept c q (Unlock Anchor) plain well i = λ was. was
  fate_kept c q (Unlock (NodeTarget n)) plain well i = λ was. was
  fate_kept c q (Publish spot w) plain well i = absurd plain
  fate_kept c q (Load words) plain well i = absurd plain
  fate_kept c q (Mark r epoch) plain well i = mark_kept c.shared r epoch well (c.fate r) refl i
  fate_kept c q (LoadEpoch w) plain well i = λ was. was
  fate_kept c q (Advance expected found) plain well i = λ was. either (nat_eq c.epoch expected) (with_epoch c.shared (suc c.epoch)) c.shared i was was
  fate_kept c q (SetPin w) plain well i = λ was. was
  fate_kept c q ClearPin plain well i = λ was. was
  fate_kept c q (LoadPin o w) plain well i = λ was. was
  fate_kept c q (LoadState r w) plain well i = λ was. was
  fate_kept c q (GiveBack r epoch found) plain well i = given_back_kept c.shared r epoch (c.fate r) i

-- A publish links no record that was not in the tree and not made ready.
pub next_out : (now q : ℕ) (linked : Bool) (f : Fate) → IsOut f → ((p : ℕ) → f ≢ Ready p) → IsOut (next_fate now q linked f)
next_out now q linked Free out unready = tt
next_out now q linked (Held p) out unready = tt
next_out now q linked (Ready p) out unready = absurd (unready p refl)
next_out now q linked (InTree since) out unready = absurd out
next_out now q linked (Unlinked since last p) out unready = tt
next_out now q linked (Marked since last epoch) out unready = tt
