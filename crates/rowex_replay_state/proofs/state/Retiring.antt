-- Marks, and giving back.
use Rattle.rowex_replay_state.proofs.Common.{◌≡◌, ◌<◌, ◌≤◌, ℕ, zero, suc, List, [], ◌∷◌, length, take, slice_get, Some, None, Bool, true, refl, sym, ap, ◌∙◌, subst, arith, eq-eqb, ne_eqb, All-head, All-tail, same_Some, none-some, Rec, a_node, a_leaf, Fate, Free, Held, ReadyBy, InTree, Unlinked, Marked, has_seen, Mark, GiveBack, Core, IsLawful, LegalAct, after, marked, given_back, with_fate, with_lock, unlocked}
use Rattle.std.proofs.Common.{All}
use Rattle.rowex_replay_state.specs.declared.fate.Fate.{Fate as Stored}
use Rattle.rowex_replay_state.specs.declared.fate.Fate.TheVariants.{Free as IsFree, Unlinked as IsUnlinked, Marked as IsMarked}
use Rattle.rowex_replay_state.specs.declared.passes.PassState.{PassState}
use Rattle.rowex_replay_state.specs.Fates.{stored_fate}
use Rattle.rowex_replay_state.specs.Passes.{IsOutOfReach}
use Rattle.rowex_replay_state.specs.Records.{HasState, fate_in, with_fate_unlocked_in, with_fate_in, with_lock_in}
use Rattle.rowex_replay_state.specs.States.{StateView, IsStateOf}
use Rattle.rowex_replay_state.proofs.States.{fate_at, fate_from, marked_stored, state_from}
use Rattle.rowex_replay_state.proofs.RecordSteps.{with_fate_is}
use Rattle.rowex_replay_state.proofs.LockSteps.{lock_is}

-- ---- marks

marked_is : (s : StateView) (c : Core) → IsStateOf s c → (r : Rec) (g : Stored) → IsStateOf (record s { records = with_fate_unlocked_in s.records r g }) (record c { shared = with_fate (unlocked c.shared r) r (stored_fate g) })
marked_is s c h (a_node n) g = with_fate_is (record s { records = with_lock_in s.records n None }) (record c { shared = with_lock c.shared n None }) (lock_is s c h n None) (a_node n) g
marked_is s c h (a_leaf n) g = with_fate_is s c h (a_leaf n) g

pub marks : (s : StateView) (q : ℕ) (r : Rec) (epoch since last : ℕ) (p : PassState) → slice_get s.passes q ≡ Some p → fate_in s.records r ≡ Some (IsUnlinked since last q) → p.epoch ≡ epoch → last < p.version →
    (c : Core) → ∥ IsLawful c ∥₁ → IsStateOf s c → LegalAct c q (Mark r epoch) × IsStateOf (record s { records = with_fate_unlocked_in s.records r (IsMarked since last epoch) }) (after c q (Mark r epoch))
marks s q r epoch since last p at gone same before c lawful h =
    let own = h.passes.each q p at in
    let x = fate_at s c h r (IsUnlinked since last q) gone in (
      (x.0, sym same ∙ sym own.epoch_is, (since, last, x.1, subst (λ m. last < m) (sym own.version_is) before)),
      subst (λ f. IsStateOf (record s { records = with_fate_unlocked_in s.records r (IsMarked since last epoch) }) (record c { shared = marked c.shared r epoch f })) (sym x.1) (marked_is s c h r (IsMarked since last epoch)),
    )

-- ---- giving back

all_seen : (xs : List Bool) (n o : ℕ) (b : Bool) → All (λ b. b ≡ true) (take n xs) → o < n → slice_get xs o ≡ Some b → b ≡ true
all_seen [] n o b all less at = absurd (none-some b at)
all_seen (x ∷ xs) zero o b all less at = absurd (omega (arith, less))
all_seen (x ∷ xs) (suc n) zero b all less at = sym (same_Some x b at) ∙ All-head (λ b. b ≡ true) x (take n xs) all
all_seen (x ∷ xs) (suc n) (suc o) b all less at = all_seen xs n o b (All-tail (λ b. b ≡ true) x (take n xs) all) (omega (arith, less)) at

pub past_is : (s : StateView) (c : Core) → IsStateOf s c → (q epoch : ℕ) (p : PassState) → slice_get s.passes q ≡ Some p → IsOutOfReach p epoch (length s.passes) →
    (1 ≤ epoch) × (epoch < (c.rounds q).bound) × ((o : ℕ) → o < c.layout.passes → has_seen (c.rounds q).seen o ≡ true)
past_is s c h q epoch p at (low, below, seen) =
    let own = h.passes.each q p at in (
      low,
      subst (λ b. epoch < b) (sym own.bound_is) below,
      λ o there. all_seen p.seen (length s.passes) o (has_seen (c.rounds q).seen o) seen (subst (λ n. o < n) (sym h.passes.count) there) (own.seen_are o there),
    )

pub gives_back : (s : StateView) (q : ℕ) (r : Rec) (epoch w : ℕ) (p : PassState) → slice_get s.passes q ≡ Some p → IsOutOfReach p epoch (length s.passes) → HasState s.records r w →
    ((since : ℕ) × (last : ℕ) × (fate_in s.records r ≡ Some (IsMarked since last epoch))) → (c : Core) → ∥ IsLawful c ∥₁ → IsStateOf s c →
    LegalAct c q (GiveBack r epoch w) × IsStateOf (record s { records = with_fate_in s.records r IsFree }) (after c q (GiveBack r epoch w))
gives_back s q r epoch w p at past has (since, last, e) c lawful h =
    let x = state_from s c h r w has in
    let y = past_is s c h q epoch p at past in
    let z = fate_at s c h r (IsMarked since last epoch) e in (
      (x.0, x.1, y.0, y.1, y.2),
      subst (λ f. IsStateOf (record s { records = with_fate_in s.records r IsFree }) (record c { shared = given_back c.shared r epoch f })) (sym z.1)
          (rw (eq-eqb epoch epoch refl) (with_fate_is s c h r IsFree)),
    )

kept_back : (c : Core) (r : Rec) (epoch : ℕ) (f : Fate) → ((since last : ℕ) → f ≡ Marked since last epoch → ⊥) → given_back c.shared r epoch f ≡ c.shared
kept_back c r epoch Free ne = refl
kept_back c r epoch (Held p) ne = refl
kept_back c r epoch (ReadyBy p) ne = refl
kept_back c r epoch (InTree i) ne = refl
kept_back c r epoch (Unlinked i l p) ne = refl
kept_back c r epoch (Marked i l s) ne = rw (ne_eqb s epoch (λ e. ne i l (ap (Marked i l) e))) refl

pub keeps_back : (s : StateView) (q : ℕ) (r : Rec) (epoch w : ℕ) (p : PassState) → slice_get s.passes q ≡ Some p → IsOutOfReach p epoch (length s.passes) → HasState s.records r w →
    ¬ ((since : ℕ) × (last : ℕ) × (fate_in s.records r ≡ Some (IsMarked since last epoch))) → (c : Core) → ∥ IsLawful c ∥₁ → IsStateOf s c →
    LegalAct c q (GiveBack r epoch w) × IsStateOf s (after c q (GiveBack r epoch w))
keeps_back s q r epoch w p at past has other c lawful h =
    let x = state_from s c h r w has in
    let y = past_is s c h q epoch p at past in
    let z = fate_from s c h r x.0 in (
      (x.0, x.1, y.0, y.1, y.2),
      rw (kept_back c r epoch (c.fate r) (λ since last e. other (since, last, z.1 ∙ ap Some (marked_stored z.0 since last epoch (sym z.2 ∙ e))))) h,
    )
