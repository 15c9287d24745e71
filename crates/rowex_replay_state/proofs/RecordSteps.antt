-- The steps on records of a pass's own.
use Rattle.rowex_replay_state.proofs.Common.{◌≡◌, ◌≢◌, ◌-◌, ◌^◌, ◌<◌, ℕ, List, set, Some, refl, sym, ap, ◌∙◌, subst, Rec, Fate, Free, Held, ReadyBy, InTree, Unlinked, Marked, Claim, Fill, Ready, Release, IsPacked, Layout, Core, IsLawful, FitsIn, HasRecord, HasPlace, tag_of, lock_of, state_at, LegalAct, after, claimed, IsOffset, with_fate, free_tag}
use Rattle.rowex_replay_state.specs.declared.fate.Fate.{Fate as Stored}
use Rattle.rowex_replay_state.specs.declared.fate.Fate.TheVariants.{Free as IsFree, Held as IsHeld, Ready as IsReady}
use Rattle.rowex_replay_state.specs.Fates.{stored_fate}
use Rattle.rowex_replay_state.specs.Records.{RecordsView, HasState, IsPackedIn, words_in, fate_in, with_fate_in, with_words_in}
use Rattle.rowex_replay_state.specs.States.{StateView, IsStateOf}
use Rattle.rowex_replay_state.proofs.Tables as table
use Rattle.rowex_replay_state.proofs.States.{held_at, state_from, state_is, words_from, with_records_is}

-- the replay with one fate changed is at the core with that fate changed
pub with_fate_is : (s : StateView) (c : Core) → IsStateOf s c → (r : Rec) (g : Stored) → IsStateOf (record s { records = with_fate_in s.records r g }) (record c { shared = with_fate c.shared r (stored_fate g) })
with_fate_is s c h r g = with_records_is s c h (with_fate_in s.records r g) c.words _ c.lock (table.fate_set s.records c.layout c.words c.fate c.lock h.records r g)

-- ---- claim

claim_taken : (s : StateView) (c : Core) (q : ℕ) (r : Rec) (f : Fate) → f ≡ Free → IsStateOf s c → IsStateOf (record s { records = with_fate_in s.records r (IsHeld q) }) (record c { shared = claimed c.shared q r f })
claim_taken s c q r f e h = rw e (with_fate_is s c h r (IsHeld q))

claim_left : (c : Core) (q : ℕ) (r : Rec) (f : Fate) → f ≢ Free → claimed c.shared q r f ≡ c.shared
claim_left c q r Free ne = absurd (ne refl)
claim_left c q r (Held p) ne = refl
claim_left c q r (ReadyBy p) ne = refl
claim_left c q r (InTree i) ne = refl
claim_left c q r (Unlinked i l p) ne = refl
claim_left c q r (Marked i l e) ne = refl

pub claims : (s : StateView) (q : ℕ) (r : Rec) (w : ℕ) → HasState s.records r w → w ≡ 0 → (c : Core) → ∥ IsLawful c ∥₁ → IsStateOf s c →
    LegalAct c q (Claim r w) × IsStateOf (record s { records = with_fate_in s.records r (IsHeld q) }) (after c q (Claim r w))
claims s q r w has zero_is c lawful h =
    let x = state_from s c h r w has in
    (x, claim_taken s c q r (c.fate r) (free_tag (lock_of c r) (c.fate r) (sym x.1 ∙ zero_is)) h)

pub claims_nothing : (s : StateView) (q : ℕ) (r : Rec) (w : ℕ) → HasState s.records r w → w ≢ 0 → (c : Core) → ∥ IsLawful c ∥₁ → IsStateOf s c →
    LegalAct c q (Claim r w) × IsStateOf s (after c q (Claim r w))
claims_nothing s q r w has ne c lawful h =
    let x = state_from s c h r w has in
    (x, rw (claim_left c q r (c.fate r) (λ e. ne (x.1 ∙ ap (λ z. Rattle.record_words.specs.State.state_word (tag_of (lock_of c r) z)) e))) h)

pub no_state : (s : StateView) (r : Rec) (w : ℕ) → ¬ (HasState s.records r w) → (c : Core) → IsLawful c → IsStateOf s c → ¬ (HasRecord c.layout r × (w ≡ state_at c r))
no_state s r w fails c lawful h (there, is) = fails (state_is s c lawful h r w there is)

-- ---- fill, ready and release

pub fills : (s : StateView) (q : ℕ) (r : Rec) (offset w : ℕ) (t : RecordsView) → fate_in s.records r ≡ Some (IsHeld q) → IsOffset r offset → HasPlace s.records.layout r offset → w < 2 ^ 64 →
    ((words : List ℕ) → words_in s.records r ≡ Some words → t ≡ with_words_in s.records r (set words (offset - 1) w)) → (c : Core) → ∥ IsLawful c ∥₁ → IsStateOf s c →
    LegalAct c q (Fill r offset w) × IsStateOf (record s { records = t }) (after c q (Fill r offset w))
fills s q r offset w t held offset_is there small put c lawful h =
    let x = held_at s c h r q held in (
      (x.0, x.1, offset_is, small, subst (λ (z : Layout). HasPlace z r offset) h.records.layout_is there),
      rw (put (c.words r) (words_from s c h r x.0))
          (with_records_is s c h _ _ c.fate c.lock (table.words_set s.records c.layout c.words c.fate c.lock h.records r (set (c.words r) (offset - 1) w))),
    )

pub readies : (s : StateView) (q : ℕ) (r : Rec) → fate_in s.records r ≡ Some (IsHeld q) → IsPackedIn s.records r → (c : Core) → ∥ IsLawful c ∥₁ → IsStateOf s c →
    LegalAct c q (Ready r) × IsStateOf (record s { records = with_fate_in s.records r (IsReady q) }) (after c q (Ready r))
readies s q r held (words, there, packed, room) c lawful h =
    let x = held_at s c h r q held in (
      (
        x.0,
        x.1,
        subst (IsPacked r) (sym (h.records.words_are r words there)) packed,
        subst (λ (z : Layout). FitsIn z r (c.words r)) h.records.layout_is (subst (FitsIn s.records.layout r) (sym (h.records.words_are r words there)) room),
      ),
      with_fate_is s c h r (IsReady q),
    )

pub releases : (s : StateView) (q : ℕ) (r : Rec) → fate_in s.records r ≡ Some (IsHeld q) → (c : Core) → ∥ IsLawful c ∥₁ → IsStateOf s c →
    LegalAct c q (Release r) × IsStateOf (record s { records = with_fate_in s.records r IsFree }) (after c q (Release r))
releases s q r held c lawful h = (held_at s c h r q held, with_fate_is s c h r IsFree)
