-- What a change of the core makes of what a pass has.
pub mod Owning
use Rattle.rowex_core.proofs.Common.{◌≡◌, ◌≢◌, inl, inr, ℕ, ◌-◌, ◌&&◌, set, Bool, true, false, if◌then◌else◌, nat_eq, eqb, Option, Some, None, refl, sym, ap, subst, eq-eqb, eqb-true, cases_Bool, false≢true, Rec, a_node, Fate, same_rec, with_fate, with_lock, unlocked, same_rec_true}
use Rattle.rowex_core.specs.Cores.{Core}
use Rattle.rowex_core.specs.Events.{with_word}
use Rattle.rowex_core.specs.Sharing.{Share, share, holding_of, owned, locked, is_by, is_in_tree}

-- two shares of the same parts
pub same_share : {s t : Share} → ((r : Rec) → s.own r ≡ t.own r) → ((n : ℕ) → s.locks n ≡ t.locks n) → s.anchor ≡ t.anchor → s.pin ≡ t.pin → s.round ≡ t.round → s ≡ t
same_share own locks anchor pin round = λ i. record { own = λ r. own r i; locks = λ n. locks n i; anchor = anchor i; pin = pin i; round = round i }

pub and_false : (b : Bool) → (b && false) ≡ false
and_false true = refl
and_false false = refl

-- a property of what stands at each record, or at each number, after it has changed at one
pub at_record : {X : Type 0} (P : Rec → X → Type 0) (r : Rec) (x : X) (f : Rec → X) → P r x → ((i : Rec) → same_rec i r ≡ false → P i (f i)) → (i : Rec) → P i (if same_rec i r then x else f i)
at_record P r x f here there i = elim (cases_Bool (same_rec i r)) [ inl e ↦ rw e (subst (λ z. P z x) (sym (same_rec_true i r e)) here) | inr e ↦ rw e (there i e) ]

pub at_number : {X : Type 0} (P : ℕ → X → Type 0) (n : ℕ) (x : X) (f : ℕ → X) → P n x → ((i : ℕ) → nat_eq i n ≡ false → P i (f i)) → (i : ℕ) → P i (if nat_eq i n then x else f i)
at_number P n x f here there i = elim (cases_Bool (eqb i n)) [ inl e ↦ rw e (subst (λ z. P z x) (sym (eqb-true i n e)) here) | inr e ↦ rw e (there i e) ]

-- who has what

pub by_itself : (q : ℕ) → nat_eq q q ≡ true
by_itself q = eq-eqb q q refl

pub by_another : {p q : ℕ} → p ≢ q → nat_eq p q ≡ false
by_another {p} {q} ne = elim (cases_Bool (eqb p q)) [ inl e ↦ absurd (ne (eqb-true p q e)) | inr e ↦ e ]

pub is_by_true : (q : ℕ) (o : Option ℕ) → is_by q o ≡ true → o ≡ Some q
is_by_true q None e = absurd (false≢true e)
is_by_true q (Some p) e = ap Some (eqb-true p q e)

-- One record's fate, in the tree neither before nor after

module _ (c : Core) (q : ℕ) (r : Rec) (f : Fate) (before : is_in_tree (c.fate r) ≡ false) (after : is_in_tree f ≡ false) where
  pub fate_locks : (n : ℕ) → (share q (record c { shared = with_fate c.shared r f })).locks n ≡ (share q c).locks n
  fate_locks n = at_record (λ i x. locked n (c.words (a_node n)) (is_in_tree x && is_by q (c.lock n)) ≡ locked n (c.words (a_node n)) (is_in_tree (c.fate i) && is_by q (c.lock n))) r f c.fate
      (rw (before, after) refl) (λ i e. refl) (a_node n)

  -- and in the pass's hands as before
  pub same_fate : holding_of q f ≡ holding_of q (c.fate r) → share q (record c { shared = with_fate c.shared r f }) ≡ share q c
  same_fate e = same_share
      (at_record (λ i x. owned i (c.words i) (holding_of q x) ≡ owned i (c.words i) (holding_of q (c.fate i))) r f c.fate (ap (owned r (c.words r)) e) (λ i n. refl))
      fate_locks refl refl refl

-- The words of a record that is not in the tree

pub word_locks : (c : Core) (q : ℕ) (r : Rec) (offset w : ℕ) → is_in_tree (c.fate r) ≡ false → (n : ℕ) → (share q (record c { words = with_word c.words r offset w })).locks n ≡ (share q c).locks n
word_locks c q r offset w out n = at_record (λ i x. locked n x (is_in_tree (c.fate i) && is_by q (c.lock n)) ≡ locked n (c.words i) (is_in_tree (c.fate i) && is_by q (c.lock n)))
    r (set (c.words r) (offset - 1) w) c.words (rw out refl) (λ i e. refl) (a_node n)

-- and that the pass does not have
pub same_word : (c : Core) (q : ℕ) (r : Rec) (offset w : ℕ) → is_in_tree (c.fate r) ≡ false → holding_of q (c.fate r) ≡ None → share q (record c { words = with_word c.words r offset w }) ≡ share q c
same_word c q r offset w out none = same_share
    (at_record (λ i x. owned i x (holding_of q (c.fate i)) ≡ owned i (c.words i) (holding_of q (c.fate i))) r (set (c.words r) (offset - 1) w) c.words (rw none refl) (λ i e. refl))
    (word_locks c q r offset w out) refl refl refl

-- The lock of a node

pub same_lock : (c : Core) (q n : ℕ) (o : Option ℕ) → is_by q o ≡ is_by q (c.lock n) → share q (record c { shared = with_lock c.shared n o }) ≡ share q c
same_lock c q n o e = same_share (λ r. refl)
    (at_number (λ i x. locked i (c.words (a_node i)) (is_in_tree (c.fate (a_node i)) && is_by q x) ≡ (share q c).locks i) n o c.lock
    (ap (λ b. locked n (c.words (a_node n)) (is_in_tree (c.fate (a_node n)) && b)) e) (λ i e. refl)) refl refl refl

-- a record that is not in the tree is locked no more
pub same_unlocked : (c : Core) (q : ℕ) (r : Rec) → is_in_tree (c.fate r) ≡ false → share q (record c { shared = unlocked c.shared r }) ≡ share q c
same_unlocked c q r out = same_share (λ i. refl)
    (λ n. at_record (λ i x. locked n (c.words (a_node n)) (is_in_tree (c.fate i) && is_by q x) ≡ locked n (c.words (a_node n)) (is_in_tree (c.fate i) && is_by q (c.lock n)))
    r None (λ i. c.lock n) (rw out refl) (λ i e. refl) (a_node n)) refl refl refl
