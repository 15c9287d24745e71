-- The records as data, and the functions that they stand for.
use Rattle.rowex_replay_state.proofs.Common.{◌≡◌, ◌≢◌, ◌⊎◌, inl, inr, ⊎_elim, ℕ, zero, suc, ◌<◌, List, [], ◌∷◌, length, set, slice_get, replicate, Option, Some, None, nat_eq, if◌then◌else◌, refl, sym, ap, ◌∙◌, arith, cases_Bool, slice_get_within, same_Some, none-some, Layout, Rec, a_node, a_leaf, Fate, same_rec, same_rec_refl, same_rec_true, HasRecord}
use Rattle.std.proofs.lemmas.List.{length-set}
use Rattle.rowex_replay_state.specs.declared.fate.Fate.{Fate as Stored}
use Rattle.rowex_replay_state.specs.Fates.{stored_fate}
use Rattle.rowex_replay_state.specs.Records.{RecordsView, AreRecordsOf, words_in, fate_in, lock_in, with_fate_in, with_lock_in, with_words_in}

-- ---- lists

pub slice_get-replicate : {X : Type 0} (n : ℕ) (x : X) (i : ℕ) (y : X) → slice_get (replicate n x) i ≡ Some y → y ≡ x
slice_get-replicate zero x i y e = absurd (none-some y e)
slice_get-replicate (suc n) x zero y e = sym (same_Some x y e)
slice_get-replicate (suc n) x (suc i) y e = slice_get-replicate n x i y e

-- an item of a list in which one was changed is the new one, or the old one elsewhere
pub slice_get-set : {X : Type 0} (xs : List X) (i j : ℕ) (y x : X) → slice_get (set xs i y) j ≡ Some x → ((j ≡ i) × (x ≡ y)) ⊎ ((j ≢ i) × (slice_get xs j ≡ Some x))
slice_get-set [] i j y x e = absurd (none-some x e)
slice_get-set (z ∷ xs) zero zero y x e = inl (refl, sym (same_Some y x e))
slice_get-set (z ∷ xs) zero (suc j) y x e = inr ((λ h. omega (arith, h)), e)
slice_get-set (z ∷ xs) (suc i) zero y x e = inr ((λ h. omega (arith, h)), e)
slice_get-set (z ∷ xs) (suc i) (suc j) y x e =
    ⊎_elim (λ (a, b). inl (ap suc a, b)) (λ (a, b). inr ((λ h. a (omega (arith, h))), b)) (slice_get-set xs i j y x e)

pub slice_get_there : {X : Type 0} (xs : List X) (n i : ℕ) → length xs ≡ n → i < n → (x : X) × (slice_get xs i ≡ Some x)
slice_get_there [] n i l h = absurd (omega (arith, l))
slice_get_there (x ∷ xs) n zero l h = (x, refl)
slice_get_there (x ∷ xs) n (suc i) l h = slice_get_there xs (length xs) i refl (omega (arith, l))

pub within : {X : Type 0} (xs : List X) (n i : ℕ) (x : X) → length xs ≡ n → slice_get xs i ≡ Some x → i < n
within xs n i x l e = let h = slice_get_within xs i x e in omega (arith, l)

-- ---- records

-- the table has a record whose fate, lock or words are stored
pub has_fate : (s : RecordsView) (layout : Layout) (words : Rec → List ℕ) (fate : Rec → Fate) (lock : ℕ → Option ℕ) → AreRecordsOf s layout words fate lock →
    (r : Rec) (f : Stored) → fate_in s r ≡ Some f → HasRecord layout r
has_fate s layout words fate lock a (a_node n) f e = within s.node_fates layout.nodes n f a.node_count.1 e
has_fate s layout words fate lock a (a_leaf n) f e = within s.leaf_fates layout.leaves n f a.leaf_count.1 e

pub has_words : (s : RecordsView) (layout : Layout) (words : Rec → List ℕ) (fate : Rec → Fate) (lock : ℕ → Option ℕ) → AreRecordsOf s layout words fate lock →
    (r : Rec) (x : List ℕ) → words_in s r ≡ Some x → HasRecord layout r
has_words s layout words fate lock a (a_node n) x e = within s.nodes layout.nodes n x a.node_count.0 e
has_words s layout words fate lock a (a_leaf n) x e = within s.leaves layout.leaves n x a.leaf_count.0 e

-- and they are stored of a record that it has
pub fate_there : (s : RecordsView) (layout : Layout) (words : Rec → List ℕ) (fate : Rec → Fate) (lock : ℕ → Option ℕ) → AreRecordsOf s layout words fate lock →
    (r : Rec) → HasRecord layout r → (f : Stored) × (fate_in s r ≡ Some f)
fate_there s layout words fate lock a (a_node n) h = slice_get_there s.node_fates layout.nodes n a.node_count.1 h
fate_there s layout words fate lock a (a_leaf n) h = slice_get_there s.leaf_fates layout.leaves n a.leaf_count.1 h

pub lock_there : (s : RecordsView) (layout : Layout) (words : Rec → List ℕ) (fate : Rec → Fate) (lock : ℕ → Option ℕ) → AreRecordsOf s layout words fate lock →
    (r : Rec) → HasRecord layout r → (o : Option ℕ) × (lock_in s r ≡ Some o)
lock_there s layout words fate lock a (a_node n) h = slice_get_there s.locks layout.nodes n a.node_count.2 h
lock_there s layout words fate lock a (a_leaf n) h = (None, refl)

pub words_there : (s : RecordsView) (layout : Layout) (words : Rec → List ℕ) (fate : Rec → Fate) (lock : ℕ → Option ℕ) → AreRecordsOf s layout words fate lock →
    (r : Rec) → HasRecord layout r → (x : List ℕ) × (words_in s r ≡ Some x)
words_there s layout words fate lock a (a_node n) h = slice_get_there s.nodes layout.nodes n a.node_count.0 h
words_there s layout words fate lock a (a_leaf n) h = slice_get_there s.leaves layout.leaves n a.leaf_count.0 h

-- a function of records, one of whose values has changed, at a record whose number is the same or another

at_same : {X : Type 0} (f : Rec → X) (r : Rec) (x : X) → (if same_rec r r then x else f r) ≡ x
at_same f r x = rw (same_rec_refl r) refl

at_other : {X : Type 0} (f : Rec → X) (i r : Rec) (x : X) → i ≢ r → (if same_rec i r then x else f i) ≡ f i
at_other f i r x ne = elim (cases_Bool (same_rec i r)) [ inl e ↦ absurd (ne (same_rec_true i r e)) | inr e ↦ rw e refl ]

pub at_number : {X : Type 0} (f : ℕ → X) (n : ℕ) (x : X) → (if nat_eq n n then x else f n) ≡ x
at_number f n x = at_same (λ r. elim r [ a_node i ↦ f i | a_leaf i ↦ f i ]) (a_node n) x

pub other_number : {X : Type 0} (f : ℕ → X) (i n : ℕ) (x : X) → i ≢ n → (if nat_eq i n then x else f i) ≡ f i
other_number f i n x ne = at_other (λ r. elim r [ a_node i ↦ f i | a_leaf i ↦ f i ]) (a_node i) (a_node n) x (λ e. ne (cc))

-- the records with one fate changed
fates_set : (s : RecordsView) (fate : Rec → Fate) → ((r : Rec) (f : Stored) → fate_in s r ≡ Some f → fate r ≡ stored_fate f) → (r : Rec) (g : Stored) →
    (i : Rec) (f : Stored) → fate_in (with_fate_in s r g) i ≡ Some f → (if same_rec i r then stored_fate g else fate i) ≡ stored_fate f
fates_set s fate h (a_node n) g (a_node i) f e =
    ⊎_elim (λ (a, b). rw a (at_same fate (a_node n) (stored_fate g) ∙ ap stored_fate (sym b)))
    (λ (a, b). at_other fate (a_node i) (a_node n) (stored_fate g) (λ x. a (cc)) ∙ h (a_node i) f b)
    (slice_get-set s.node_fates n i g f e)
fates_set s fate h (a_node n) g (a_leaf i) f e = h (a_leaf i) f e
fates_set s fate h (a_leaf n) g (a_node i) f e = h (a_node i) f e
fates_set s fate h (a_leaf n) g (a_leaf i) f e =
    ⊎_elim (λ (a, b). rw a (at_same fate (a_leaf n) (stored_fate g) ∙ ap stored_fate (sym b)))
    (λ (a, b). at_other fate (a_leaf i) (a_leaf n) (stored_fate g) (λ x. a (cc)) ∙ h (a_leaf i) f b)
    (slice_get-set s.leaf_fates n i g f e)

pub fate_set : (s : RecordsView) (layout : Layout) (words : Rec → List ℕ) (fate : Rec → Fate) (lock : ℕ → Option ℕ) → AreRecordsOf s layout words fate lock →
    (r : Rec) (g : Stored) → AreRecordsOf (with_fate_in s r g) layout words (λ i. if same_rec i r then stored_fate g else fate i) lock
fate_set s layout words fate lock a (a_node n) g = record {
  layout_is = a.layout_is;
  node_count = (a.node_count.0, length-set s.node_fates n g ∙ a.node_count.1, a.node_count.2);
  leaf_count = a.leaf_count;
  words_are = λ r x e. a.words_are r x (elim r as (λ r. words_in (with_fate_in s (a_node n) g) r ≡ Some x → words_in s r ≡ Some x) [ a_node i ↦ λ e. e | a_leaf i ↦ λ e. e ] e);
  fates_are = fates_set s fate a.fates_are (a_node n) g;
  locks_are = a.locks_are;
}
fate_set s layout words fate lock a (a_leaf n) g = record {
  layout_is = a.layout_is;
  node_count = a.node_count;
  leaf_count = (a.leaf_count.0, length-set s.leaf_fates n g ∙ a.leaf_count.1);
  words_are = λ r x e. a.words_are r x (elim r as (λ r. words_in (with_fate_in s (a_leaf n) g) r ≡ Some x → words_in s r ≡ Some x) [ a_node i ↦ λ e. e | a_leaf i ↦ λ e. e ] e);
  fates_are = fates_set s fate a.fates_are (a_leaf n) g;
  locks_are = a.locks_are;
}

-- with one lock changed
pub lock_set : (s : RecordsView) (layout : Layout) (words : Rec → List ℕ) (fate : Rec → Fate) (lock : ℕ → Option ℕ) → AreRecordsOf s layout words fate lock →
    (n : ℕ) (o : Option ℕ) → AreRecordsOf (with_lock_in s n o) layout words fate (λ i. if nat_eq i n then o else lock i)
lock_set s layout words fate lock a n o = record {
  layout_is = a.layout_is;
  node_count = (a.node_count.0, a.node_count.1, length-set s.locks n o ∙ a.node_count.2);
  leaf_count = a.leaf_count;
  words_are = λ r x e. a.words_are r x (elim r as (λ r. words_in (with_lock_in s n o) r ≡ Some x → words_in s r ≡ Some x) [ a_node i ↦ λ e. e | a_leaf i ↦ λ e. e ] e);
  fates_are = λ r f e. a.fates_are r f (elim r as (λ r. fate_in (with_lock_in s n o) r ≡ Some f → fate_in s r ≡ Some f) [ a_node i ↦ λ e. e | a_leaf i ↦ λ e. e ] e);
  locks_are = λ i p e. ⊎_elim (λ (x, y). rw x (at_number lock n o ∙ sym y)) (λ (x, y). other_number lock i n o x ∙ a.locks_are i p y) (slice_get-set s.locks n i o p e);
}

-- with the words of one changed
words_put : (s : RecordsView) (words : Rec → List ℕ) → ((r : Rec) (x : List ℕ) → words_in s r ≡ Some x → words r ≡ x) → (r : Rec) (y : List ℕ) →
    (i : Rec) (x : List ℕ) → words_in (with_words_in s r y) i ≡ Some x → (if same_rec i r then y else words i) ≡ x
words_put s words h (a_node n) y (a_node i) x e =
    ⊎_elim (λ (a, b). rw a (at_same words (a_node n) y ∙ sym b)) (λ (a, b). at_other words (a_node i) (a_node n) y (λ x. a (cc)) ∙ h (a_node i) x b) (slice_get-set s.nodes n i y x e)
words_put s words h (a_node n) y (a_leaf i) x e = h (a_leaf i) x e
words_put s words h (a_leaf n) y (a_node i) x e = h (a_node i) x e
words_put s words h (a_leaf n) y (a_leaf i) x e =
    ⊎_elim (λ (a, b). rw a (at_same words (a_leaf n) y ∙ sym b)) (λ (a, b). at_other words (a_leaf i) (a_leaf n) y (λ x. a (cc)) ∙ h (a_leaf i) x b) (slice_get-set s.leaves n i y x e)

pub words_set : (s : RecordsView) (layout : Layout) (words : Rec → List ℕ) (fate : Rec → Fate) (lock : ℕ → Option ℕ) → AreRecordsOf s layout words fate lock →
    (r : Rec) (y : List ℕ) → AreRecordsOf (with_words_in s r y) layout (λ i. if same_rec i r then y else words i) fate lock
words_set s layout words fate lock a (a_node n) y = record {
  layout_is = a.layout_is;
  node_count = (length-set s.nodes n y ∙ a.node_count.0, a.node_count.1, a.node_count.2);
  leaf_count = a.leaf_count;
  words_are = words_put s words a.words_are (a_node n) y;
  fates_are = λ r f e. a.fates_are r f (elim r as (λ r. fate_in (with_words_in s (a_node n) y) r ≡ Some f → fate_in s r ≡ Some f) [ a_node i ↦ λ e. e | a_leaf i ↦ λ e. e ] e);
  locks_are = a.locks_are;
}
words_set s layout words fate lock a (a_leaf n) y = record {
  layout_is = a.layout_is;
  node_count = a.node_count;
  leaf_count = (length-set s.leaves n y ∙ a.leaf_count.0, a.leaf_count.1);
  words_are = words_put s words a.words_are (a_leaf n) y;
  fates_are = λ r f e. a.fates_are r f (elim r as (λ r. fate_in (with_words_in s (a_leaf n) y) r ≡ Some f → fate_in s r ≡ Some f) [ a_node i ↦ λ e. e | a_leaf i ↦ λ e. e ] e);
  locks_are = a.locks_are;
}
