-- Marks are no later than the epoch, and the epoch is no greater than the number of steps.
use Rattle.publish_laws.proofs.Common.{◌≡◌, Option, Some, None, ℕ, suc, ◌+◌, ◌≤◌, List, [], ◌∷◌, Bool, true, false, nat_eq, if◌then◌else◌, length, refl, sym, subst, arith, Fate, Shared, Free, Held, Ready, InTree, Unlinked, Marked, next_fate, is_linked, with_epoch, Rec, Act, Claim, Fill, MakeReady, Release, LoadRef, LoadFixed, Lock, Unlock, Publish, Mark, LoadEpoch, Advance, SetPin, ClearPin, LoadPin, LoadState, GiveBack, Load, Event, Anchor, NodeTarget, Core, IsLawful, Legal, after, anchored, claimed, given_back, loaded_tree, marked, next_tree, items_of, EventsLead, stays_lawful}
use Rattle.publish_laws.proofs.Lone.Fates.{IsClosed, fate_kept}

-- the mark, where the record is retired, is no later than this epoch
abbrev pub IsMarkedBy : ℕ → Fate → Type 0
IsMarkedBy e (Marked since last epoch) = epoch ≤ e
IsMarkedBy e f = Unit {0}

by_closed : (e : ℕ) → IsClosed (IsMarkedBy e)
by_closed e = record { free = tt; held = λ q. tt; ready = λ q. tt }

-- a publish marks nothing
next_by : (e now q : ℕ) (linked : Bool) (f : Fate) → IsMarkedBy e f → IsMarkedBy e (next_fate now q linked f)
next_by e now q linked Free by = tt
next_by e now q linked (Held p) by = tt
next_by e now q true (Ready p) by = tt
next_by e now q false (Ready p) by = tt
next_by e now q true (InTree since) by = tt
next_by e now q false (InTree since) by = tt
next_by e now q linked (Unlinked since last p) by = tt
next_by e now q linked (Marked since last epoch) by = by

by_later : (d e : ℕ) → d ≤ e → (f : Fate) → IsMarkedBy d f → IsMarkedBy e f
by_later d e low Free by = tt
by_later d e low (Held q) by = tt
by_later d e low (Ready q) by = tt
by_later d e low (InTree since) by = tt
by_later d e low (Unlinked since last q) by = tt
by_later d e low (Marked since last epoch) by = omega arith

-- what a step makes of the epoch
claim_epoch : (s : Shared) (q : ℕ) (r : Rec) (f : Fate) → (claimed s q r f).epoch ≡ s.epoch
claim_epoch s q r Free = refl
claim_epoch s q r (Held p) = refl
claim_epoch s q r (Ready p) = refl
claim_epoch s q r (InTree since) = refl
claim_epoch s q r (Unlinked since last p) = refl
claim_epoch s q r (Marked since last epoch) = refl

mark_epoch : (s : Shared) (r : Rec) (epoch : ℕ) (f : Fate) → (marked s r epoch f).epoch ≡ s.epoch
mark_epoch s r epoch Free = refl
mark_epoch s r epoch (Held p) = refl
mark_epoch s r epoch (Ready p) = refl
mark_epoch s r epoch (InTree since) = refl
mark_epoch s r epoch (Unlinked since last p) = refl
mark_epoch s r epoch (Marked since last m) = refl

either_epoch : (b : Bool) (s t : Shared) (e : ℕ) → s.epoch ≡ e → t.epoch ≡ e → (if b then s else t).epoch ≡ e
either_epoch true s t e one other = one
either_epoch false s t e one other = other

give_epoch : (s : Shared) (r : Rec) (epoch : ℕ) (f : Fate) → (given_back s r epoch f).epoch ≡ s.epoch
give_epoch s r epoch (Marked since last m) = either_epoch (nat_eq m epoch) _ s s.epoch refl refl
give_epoch s r epoch Free = refl
give_epoch s r epoch (Held p) = refl
give_epoch s r epoch (Ready p) = refl
give_epoch s r epoch (InTree since) = refl
give_epoch s r epoch (Unlinked since last p) = refl

lock_epoch : (s : Shared) (q : ℕ) (o : Option ℕ) → (anchored s q o).epoch ≡ s.epoch
lock_epoch s q None = refl
lock_epoch s q (Some p) = refl

rises : (s : Shared) (expected : ℕ) (b : Bool) → (s.epoch ≤ (if b then with_epoch s (suc s.epoch) else s).epoch) × ((if b then with_epoch s (suc s.epoch) else s).epoch ≤ s.epoch + 1)
rises s expected true = (omega arith, omega arith)
rises s expected false = (omega arith, omega arith)

-- it stays, or becomes the next one
pub epoch_rises : (c : Core) (q : ℕ) (act : Act) → (c.epoch ≤ (after c q act).epoch) × ((after c q act).epoch ≤ c.epoch + 1)
epoch_rises c q (Advance expected found) = rises c.shared expected (nat_eq c.epoch expected)
epoch_rises c q (Claim r found) = let is = claim_epoch c.shared q r (c.fate r) in (omega (arith, is), omega (arith, is))
epoch_rises c q (Mark r epoch) = let is = mark_epoch c.shared r epoch (c.fate r) in (omega (arith, is), omega (arith, is))
epoch_rises c q (GiveBack r epoch found) = let is = give_epoch c.shared r epoch (c.fate r) in (omega (arith, is), omega (arith, is))
epoch_rises c q (Lock Anchor found) = let is = lock_epoch c.shared q c.anchor in (omega (arith, is), omega (arith, is))
epoch_rises c q (Lock (NodeTarget n) found) = let is : (after c q (Lock (NodeTarget n) found)).epoch ≡ c.epoch = either_epoch _ _ c.shared c.epoch refl refl in (omega (arith, is), omega (arith, is))
epoch_rises c q (Unlock Anchor) = (omega arith, omega arith)
epoch_rises c q (Unlock (NodeTarget n)) = (omega arith, omega arith)
epoch_rises c q (Fill r offset w) = (omega arith, omega arith)
epoch_rises c q (MakeReady r) = (omega arith, omega arith)
epoch_rises c q (Release r) = (omega arith, omega arith)
epoch_rises c q (LoadRef spot w) = (omega arith, omega arith)
epoch_rises c q (LoadFixed r offset w) = (omega arith, omega arith)
epoch_rises c q (Publish spot w) = (omega arith, omega arith)
epoch_rises c q (LoadEpoch w) = (omega arith, omega arith)
epoch_rises c q (SetPin w) = (omega arith, omega arith)
epoch_rises c q ClearPin = (omega arith, omega arith)
epoch_rises c q (LoadPin o w) = (omega arith, omega arith)
epoch_rises c q (LoadState r w) = (omega arith, omega arith)
epoch_rises c q (Load words) = (omega arith, omega arith)

plain_or_not : (c : Core) (q : ℕ) (act : Act) → IsLawful c → Legal c q act → (r : Rec) → IsMarkedBy c.epoch (c.fate r) → IsMarkedBy c.epoch ((after c q act).fate r)
plain_or_not c q (Publish spot w) lawful legal r by = next_by c.epoch c.past.now q (is_linked (next_tree c spot w) r) (c.fate r) by
plain_or_not c q (Load words) lawful legal r by = load_by (is_linked (loaded_tree c.layout words.now) r)
  where
    load_by : (b : Bool) → IsMarkedBy c.epoch (if b then InTree (length (items_of (loaded_tree c.layout words.now))) else c.fate r)
    load_by true = tt
    load_by false = by
plain_or_not c q (Mark s epoch) lawful legal r by = fate_kept (IsMarkedBy c.epoch) (by_closed c.epoch) c q (Mark s epoch) tt (λ since last p h. (let now = legal.1.1 in let low = (lawful.core.paced.loads q).0 in omega (arith, now, low))) r by
plain_or_not c q (Claim s found) lawful legal r by = fate_kept (IsMarkedBy c.epoch) (by_closed c.epoch) c q (Claim s found) tt tt r by
plain_or_not c q (Fill s offset w) lawful legal r by = by
plain_or_not c q (MakeReady s) lawful legal r by = fate_kept (IsMarkedBy c.epoch) (by_closed c.epoch) c q (MakeReady s) tt tt r by
plain_or_not c q (Release s) lawful legal r by = fate_kept (IsMarkedBy c.epoch) (by_closed c.epoch) c q (Release s) tt tt r by
plain_or_not c q (LoadRef spot w) lawful legal r by = by
plain_or_not c q (LoadFixed s offset w) lawful legal r by = by
plain_or_not c q (Lock target found) lawful legal r by = fate_kept (IsMarkedBy c.epoch) (by_closed c.epoch) c q (Lock target found) tt tt r by
plain_or_not c q (Unlock target) lawful legal r by = fate_kept (IsMarkedBy c.epoch) (by_closed c.epoch) c q (Unlock target) tt tt r by
plain_or_not c q (LoadEpoch w) lawful legal r by = by
plain_or_not c q (Advance expected found) lawful legal r by = fate_kept (IsMarkedBy c.epoch) (by_closed c.epoch) c q (Advance expected found) tt tt r by
plain_or_not c q (SetPin w) lawful legal r by = by
plain_or_not c q ClearPin lawful legal r by = by
plain_or_not c q (LoadPin o w) lawful legal r by = by
plain_or_not c q (LoadState s w) lawful legal r by = by
plain_or_not c q (GiveBack s epoch found) lawful legal r by = fate_kept (IsMarkedBy c.epoch) (by_closed c.epoch) c q (GiveBack s epoch found) tt tt r by

-- Over a run marks stay no later than the epoch, and the epoch grows by one at most with each step.
pub run_timely : (c : Core) (xs : List Event) (d : Core) → IsLawful c → EventsLead c xs d → ((r : Rec) → IsMarkedBy c.epoch (c.fate r)) → ((r : Rec) → IsMarkedBy d.epoch (d.fate r)) × (d.epoch ≤ c.epoch + length xs)
run_timely c [] d lawful lead by = subst (λ (z : Core). ((r : Rec) → IsMarkedBy z.epoch (z.fate r)) × (z.epoch ≤ c.epoch + 0)) (sym lead) (by, omega arith)
run_timely c (x ∷ xs) d lawful lead by =
    let next = after c x.pass x.act in
    let (low, high) = epoch_rises c x.pass x.act in
    let (marks, few) = run_timely next xs d (stays_lawful c x.pass x.act lawful lead.0) lead.1 (λ r. by_later c.epoch next.epoch low (next.fate r) (plain_or_not c x.pass x.act lawful lead.0 r (by r))) in
    (marks, omega (arith, few, high))
