-- What a publish stores, and what it puts back.
use Rattle.rowex_replay_state.proofs.Common.{◌≡◌, ◌⊎◌, inl, inr, ◌+◌, ◌-◌, ◌<◌, ℕ, List, set, slice_get, Option, Some, Bool, true, false, if◌then◌else◌, refl, sym, ap, ◌∙◌, subst, arith, cases_Bool, set-set, set-get_or, get_or_from_slice_get, Entry, HasEntryWord, entry_word, Rec, a_node, same_rec, same_rec_refl, same_rec_true, Publish, Root, Slot, entry_of, IsPacked, Core, IsLawful, IsPastFilling, LegalAct, after, stored_words, entry_of_word}
use Rattle.rowex_replay_state.specs.Records.{RecordsView, AreRecordsOf, lock_in, with_words_in}
use Rattle.rowex_replay_state.specs.States.{StateView, IsStateOf, IsStepped}
use Rattle.rowex_replay_state.specs.Publishing.{IsWordStored, AreWordsPacked, MayMakeVersion, IsPublishJudged, published}
use Rattle.rowex_replay_state.proofs.Tables as table
use Rattle.rowex_replay_state.proofs.States.{with_records_is}

pub entry_is : (e : Option Entry) (w : ℕ) → HasEntryWord e → entry_word e ≡ w → entry_of w ≡ e
entry_is e w fits is = subst (λ z. entry_of z ≡ e) is (entry_of_word e fits)

-- ---- the root

root_stored : (s : StateView) (c : Core) → ∥ IsLawful c ∥₁ → IsStateOf s c → IsWordStored s c c.words
root_stored s c lawful h = record { lawful = lawful; at = h; leaves = λ n. refl }

pub root_steps : (b : Bool) (s t : StateView) (q w : ℕ) → HasEntryWord (entry_of w) → entry_word (entry_of w) ≡ w → s.anchor ≡ Some q → IsPublishJudged b s t q (entry_of w) → IsStepped b s t q (Publish Root w)
root_steps true s t q w fits is own p = λ c lawful h.
    let x = p c c.words (root_stored s c lawful h) in
    (record { locked = h.anchor ∙ own; entry = (fits, is); packed = tt; next = x.0 }, x.1)
root_steps false s t q w fits is own (same, p) = (same, λ c lawful h legal. p c c.words (root_stored s c ∣ lawful ∣₁ h) lawful.records.packed legal.next)

-- ---- an entry word

stored_here : (c : Core) (n j w : ℕ) (x y : List ℕ) → c.words (a_node n) ≡ x → y ≡ set x (25 + j) w → stored_words c (Slot n j) w (a_node n) ≡ y
stored_here c n j w x y e is = rw (same_rec_refl (a_node n), e, is) (ap (λ i. set x i w) (let k : 26 + j - 1 ≡ 25 + j = omega arith in k))

pub entry_stored : (s : StateView) (c : Core) (n j w : ℕ) (x y : List ℕ) → ∥ IsLawful c ∥₁ → IsStateOf s c → slice_get s.records.nodes n ≡ Some x → y ≡ set x (25 + j) w →
    IsWordStored (record s { records = with_words_in s.records (a_node n) y }) c (stored_words c (Slot n j) w)
entry_stored s c n j w x y lawful h at is = record {
  lawful = lawful;
  at = with_records_is s c h (with_words_in s.records (a_node n) y) (stored_words c (Slot n j) w) c.fate c.lock
      (subst (λ z. AreRecordsOf (with_words_in s.records (a_node n) y) c.layout (λ i. if same_rec i (a_node n) then z else c.words i) c.fate c.lock) (sym new)
      (table.words_set s.records c.layout c.words c.fate c.lock h.records (a_node n) y));
  leaves = λ m. refl;
}
  where
    new : set (c.words (a_node n)) (26 + j - 1) w ≡ y
    new = ap (λ z. set z (26 + j - 1) w) (h.records.words_are (a_node n) x at) ∙ (ap (λ i. set x i w) (let k : 26 + j - 1 ≡ 25 + j = omega arith in k) ∙ sym is)

entry_packed : (s : StateView) (c : Core) (n j w : ℕ) (x y : List ℕ) → IsLawful c → IsStateOf s c → slice_get s.records.nodes n ≡ Some x → y ≡ set x (25 + j) w → IsPacked (a_node n) y →
    AreWordsPacked c (stored_words c (Slot n j) w)
entry_packed s c n j w x y lawful h at is packed = λ r whole. go r whole (cases_Bool (same_rec r (a_node n)))
  where
    go : (r : Rec) → IsPastFilling (c.fate r) → ((same_rec r (a_node n) ≡ true) ⊎ (same_rec r (a_node n) ≡ false)) → IsPacked r (stored_words c (Slot n j) w r)
    go r whole (inl e) = subst (λ z. IsPacked z (stored_words c (Slot n j) w z)) (sym (same_rec_true r (a_node n) e))
        (subst (IsPacked (a_node n)) (sym (stored_here c n j w x y (h.records.words_are (a_node n) x at) is)) packed)
    go r whole (inr e) = rw e (lawful.records.packed r whole)

pub entry_publishes : (s t : StateView) (q n j w : ℕ) (x y : List ℕ) → j < 32 → lock_in s.records (a_node n) ≡ Some (Some q) → slice_get s.records.nodes n ≡ Some x → y ≡ set x (25 + j) w → IsPacked (a_node n) y →
    HasEntryWord (entry_of w) × (entry_word (entry_of w) ≡ w) → IsPublishJudged true (record s { records = with_words_in s.records (a_node n) y }) t q s.root → (c : Core) → ∥ IsLawful c ∥₁ → IsStateOf s c →
    LegalAct c q (Publish (Slot n j) w) × IsStateOf t (after c q (Publish (Slot n j) w))
entry_publishes s t q n j w x y few own at is packed entry p c lawful h =
    let z = subst (λ o. MayMakeVersion c q (stored_words c (Slot n j) w) o × IsStateOf t (published c q (stored_words c (Slot n j) w) o)) (sym h.root)
    (p c (stored_words c (Slot n j) w) (entry_stored s c n j w x y lawful h at is)) in (
      record {
        locked = (table.has_words s.records c.layout c.words c.fate c.lock h.records (a_node n) x at, few, h.records.locks_are n (Some q) own);
        entry = entry;
        packed = subst (IsPacked (a_node n)) (sym (stored_here c n j w x y (h.records.words_are (a_node n) x at) is)) packed;
        next = z.0;
      },
      z.1,
    )

pub entry_refused : (s t : StateView) (q n j w : ℕ) (x y : List ℕ) → slice_get s.records.nodes n ≡ Some x → y ≡ set x (25 + j) w → IsPacked (a_node n) y →
    IsPublishJudged false (record s { records = with_words_in s.records (a_node n) y }) t q s.root → (c : Core) → IsLawful c → IsStateOf s c → ¬ (LegalAct c q (Publish (Slot n j) w))
entry_refused s t q n j w x y at is packed (same, p) c lawful h legal =
    p c (stored_words c (Slot n j) w) (entry_stored s c n j w x y ∣ lawful ∣₁ h at is) (entry_packed s c n j w x y lawful h at is packed)
    (subst (MayMakeVersion c q (stored_words c (Slot n j) w)) h.root legal.next)

pub entry_unpacked : (s : StateView) (q n j w : ℕ) (x y : List ℕ) → slice_get s.records.nodes n ≡ Some x → y ≡ set x (25 + j) w → ¬ (IsPacked (a_node n) y) → (c : Core) → IsLawful c → IsStateOf s c →
    ¬ (LegalAct c q (Publish (Slot n j) w))
entry_unpacked s q n j w x y at is fails c lawful h legal = fails (subst (IsPacked (a_node n)) (stored_here c n j w x y (h.records.words_are (a_node n) x at) is) legal.packed)

-- the old words are put back
pub put_back : (s : RecordsView) (n : ℕ) (x y : List ℕ) → slice_get s.nodes n ≡ Some x → with_words_in (with_words_in s (a_node n) y) (a_node n) x ≡ s
put_back s n x y at =
    ap (λ z. record s { nodes = z }) (set-set s.nodes n y x ∙ subst (λ z. set s.nodes n z ≡ s.nodes) (get_or_from_slice_get s.nodes n x x at) (set-get_or s.nodes n x))

pub entry_spelled : (e : Option Entry) (w : ℕ) → HasEntryWord e × (entry_word e ≡ w) → HasEntryWord (entry_of w) × (entry_word (entry_of w) ≡ w)
entry_spelled e w (fits, is) = rw (entry_is e w fits is) (fits, is)

pub root_answers : (b : Bool) (s t : StateView) (q w : ℕ) (root : Option Entry) → HasEntryWord root → entry_word root ≡ w → s.anchor ≡ Some q → IsPublishJudged b s t q root → IsStepped b s t q (Publish Root w)
root_answers b s t q w root fits is own p =
    let x = entry_spelled root w (fits, is) in
    root_steps b s t q w x.0 x.1 own (subst (IsPublishJudged b s t q) (sym (entry_is root w fits is)) p)

-- the replay is as before once the old words are put back
pub restored : (s t u : StateView) (r : RecordsView) (n : ℕ) (x y : List ℕ) → slice_get s.records.nodes n ≡ Some x → t ≡ u → u ≡ record s { records = with_words_in s.records (a_node n) y } →
    r ≡ with_words_in t.records (a_node n) x → record t { records = r } ≡ s
restored s t u r n x y at e f g = rw (g, e ∙ f) (ap (λ z. record s { records = z }) (put_back s.records n x y at))

pub of_words : (s t : StateView) (r u : RecordsView) (q : ℕ) (root : Option Entry) (b e : Bool) → b ≡ e → r ≡ u → IsPublishJudged b (record s { records = r }) t q root → IsPublishJudged e (record s { records = u }) t q root
of_words s t r u q root b e same put p = rw (← same, ← put) p
