-- The steps keep the law of the epochs.
use Rattle.versions.proofs.Common.{◌≡◌, ◌⊎◌, ◌≢◌, inl, inr, ℕ, suc, ◌<◌, ◌≤◌, Bool, true, false, if◌then◌else◌, refl, ap, sym, ◌∙◌, subst, arith, Option, Some, None, le_refl, le_trans, nat_eq, eqb, eqb-true, cases_Bool, false≢true, Entry, Tree, Rec, Change}
use Rattle.versions.specs.State.{Spans, IsLived, IsLawfulState, Stands}
use Rattle.versions.specs.Core.{has_seen, pin_version, Fate, Free, Held, Ready, InTree, Unlinked, Marked, life_of, BareCore, view, HasLawfulEpochs}
use Rattle.versions.specs.declared.Pin.{Pin}
use Rattle.versions.specs.declared.Round.{Round}
use Rattle.versions.specs.Steps.{with_fate, with_lock, with_anchor, with_epoch, with_pin, same_rec, next_fate, is_linked, published_by, after_set_pin, after_load_epoch, lowered, after_load_pin, after_mark}

-- A choice by a test keeps what both have.
either : {A : Type 0} (P : A → Type 0) (b : Bool) (x y : A) → (b ≡ true → P x) → (b ≡ false → P y) → P (if b then x else y)
either P true x y f g = f refl
either P false x y f g = g refl

same_pin : {p q : Pin} → Some p ≡ Some q → p ≡ q
same_pin e = cc

pub same_mark : {a b c d e f : ℕ} → Marked a b c ≡ Marked d e f → (b ≡ e) × (c ≡ f)
same_mark e = (cc, cc)

marked_old : (c : BareCore) → IsLawfulState (view c) → (r : Rec) (f l s : ℕ) → c.fate r ≡ Marked f l s → l < c.past.now
marked_old c law r f l s e =
    let x : (f ≤ l) × (l < c.past.now) = subst (λ z. IsLived c.past.now (life_of z)) e (law.lived r) in x.1

pub set_pin_paced : (c : BareCore) (q : ℕ) → IsLawfulState (view c) → HasLawfulEpochs c.shared → HasLawfulEpochs (after_set_pin c.shared q (c.rounds q).epoch)
set_pin_paced c q law p = record {
  floors = λ i x e. either (λ z. z ≡ Some x → (x.word ≤ x.floor) × (x.floor ≤ c.epoch) × (x.version ≤ c.past.now)) (nat_eq i q) (Some new) (c.pins i)
      (λ b h. subst (λ z. (z.word ≤ z.floor) × (z.floor ≤ c.epoch) × (z.version ≤ c.past.now)) (same_pin h) ((p.loads q).0, le_refl c.epoch, le_refl c.past.now))
      (λ b h. p.floors i x h) e;
  loads = p.loads;
  after = λ i o x e. either (λ z. z ≡ Some x → (x.floor ≤ (c.rounds o).epoch) ⊎ ((c.rounds o).version ≤ x.version)) (nat_eq i q) (Some new) (c.pins i)
      (λ b h. inr (subst (λ (z : Pin). (c.rounds o).version ≤ z.version) (same_pin h) (p.loads o).1))
      (λ b h. p.after i o x h) e;
  marks = λ r f l s m i x e. either (λ z. z ≡ Some x → (x.floor ≤ s) ⊎ (l < x.version)) (nat_eq i q) (Some new) (c.pins i)
      (λ b h. inr (subst (λ (z : Pin). l < z.version) (same_pin h) (marked_old c law r f l s m)))
      (λ b h. p.marks r f l s m i x h) e;
  bounds = λ i o x e seen. either (λ z. z ≡ Some x → (c.rounds o).bound ≤ x.floor) (nat_eq i q) (Some new) (c.pins i)
      (λ b h. subst (λ (z : Pin). (c.rounds o).bound ≤ z.floor) (same_pin h) (le_trans (p.loads o).2 (p.loads o).0))
      (λ b h. p.bounds i o x h seen) e;
}
  where
    new : Pin
    new = record { word = (c.rounds q).epoch; version = c.past.now; floor = c.epoch }

pub load_epoch_paced : (c : BareCore) (q : ℕ) → HasLawfulEpochs c.shared → HasLawfulEpochs (after_load_epoch c.shared q)
load_epoch_paced c q p = record {
  floors = p.floors;
  loads = λ i. either (λ (z : Round). (z.epoch ≤ c.epoch) × (z.version ≤ c.past.now) × (z.bound ≤ z.epoch)) (nat_eq i q) _ (c.rounds i)
      (λ b. (le_refl c.epoch, le_refl c.past.now, le_refl c.epoch)) (λ b. p.loads i);
  after = λ i o x e. either (λ (z : Round). (x.floor ≤ z.epoch) ⊎ (z.version ≤ x.version)) (nat_eq o q) _ (c.rounds o)
      (λ b. inl (p.floors i x e).1) (λ b. p.after i o x e);
  marks = p.marks;
  bounds = λ i o x e seen. either (λ (z : Round). has_seen z.seen i ≡ true → z.bound ≤ x.floor) (nat_eq o q) _ (c.rounds o)
      (λ b h. absurd (false≢true h)) (λ b h. p.bounds i o x e h) seen;
}

lowered_less : (b : ℕ) (o : Option Pin) → lowered b o ≤ b
lowered_less b None = le_refl b
lowered_less b (Some p) = omega arith

lowered_pin : (b : ℕ) (o : Option Pin) (x : Pin) → o ≡ Some x → x.word ≤ x.floor → lowered b o ≤ x.floor
lowered_pin b o x e h = rw e (omega arith)

pub load_pin_paced : (c : BareCore) (q o : ℕ) → HasLawfulEpochs c.shared → HasLawfulEpochs (after_load_pin c.shared q o)
load_pin_paced c q o p = record {
  floors = p.floors;
  loads = λ i. either (λ (z : Round). (z.epoch ≤ c.epoch) × (z.version ≤ c.past.now) × (z.bound ≤ z.epoch)) (nat_eq i q) _ (c.rounds i)
      (λ b. ((p.loads q).0, (p.loads q).1, le_trans (lowered_less (c.rounds q).bound (c.pins o)) (p.loads q).2)) (λ b. p.loads i);
  after = λ i k x e. either (λ (z : Round). (x.floor ≤ z.epoch) ⊎ (z.version ≤ x.version)) (nat_eq k q) _ (c.rounds k)
      (λ b. p.after i q x e) (λ b. p.after i k x e);
  marks = p.marks;
  bounds = λ i k x e seen. either (λ (z : Round). has_seen z.seen i ≡ true → z.bound ≤ x.floor) (nat_eq k q) _ (c.rounds k)
      (λ b h. low i x e h) (λ b h. p.bounds i k x e h) seen;
}
  where
    low : (i : ℕ) (x : Pin) → c.pins i ≡ Some x → (if nat_eq i o then true else has_seen (c.rounds q).seen i) ≡ true → lowered (c.rounds q).bound (c.pins o) ≤ x.floor
    low i x e h = go (cases_Bool (eqb i o))
      where
        go : (eqb i o ≡ true) ⊎ (eqb i o ≡ false) → lowered (c.rounds q).bound (c.pins o) ≤ x.floor
        go (inl b) = lowered_pin (c.rounds q).bound (c.pins o) x (ap c.pins (sym (eqb-true i o b)) ∙ e) (p.floors i x e).0
        go (inr b) = le_trans (lowered_less (c.rounds q).bound (c.pins o)) (p.bounds i q x e (rw b at h))

-- Mark: the pass loaded the epoch after it had unlinked the record.
pub mark_paced : (c : BareCore) (q : ℕ) (r : Rec) (f l : ℕ) → l < (c.rounds q).version → HasLawfulEpochs c.shared → HasLawfulEpochs (after_mark c.shared r f l (c.rounds q).epoch)
mark_paced c q r f l late p = record {
  floors = p.floors;
  loads = p.loads;
  after = p.after;
  marks = λ i a b s m k x e. either (λ z. z ≡ Marked a b s → (x.floor ≤ s) ⊎ (b < x.version)) (same_rec i r) (Marked f l (c.rounds q).epoch) (c.fate i)
      (λ t h. new a b s k x e h (p.after k q x e)) (λ t h. p.marks i a b s h k x e) m;
  bounds = p.bounds;
}
  where
    new : (a b s k : ℕ) (x : Pin) → c.pins k ≡ Some x → Marked f l (c.rounds q).epoch ≡ Marked a b s →
        (x.floor ≤ (c.rounds q).epoch) ⊎ ((c.rounds q).version ≤ x.version) → (x.floor ≤ s) ⊎ (b < x.version)
    new a b s k x e h (inl y) = inl (subst (λ z. x.floor ≤ z) (same_mark h).1 y)
    new a b s k x e h (inr y) = inr (subst (λ z. z < x.version) (same_mark h).0 (omega arith))

pub next_marked : (now q : ℕ) (b : Bool) (g : Fate) (f l s : ℕ) → next_fate now q b g ≡ Marked f l s → g ≡ Marked f l s
next_marked now q linked Free f l s e = absurd cc
next_marked now q linked (Held p) f l s e = absurd cc
next_marked now q true (Ready p) f l s e = absurd cc
next_marked now q true (InTree p) f l s e = absurd cc
next_marked now q linked (Unlinked a b p) f l s e = absurd cc
next_marked now q linked (Marked a b p) f l s e = e
next_marked now q false (Ready p) f l s e = absurd cc
next_marked now q false (InTree p) f l s e = absurd cc

pub publish_paced : (c : BareCore) (q : ℕ) (root : Option Entry) (t : Option Tree) (x : Change) → HasLawfulEpochs c.shared → HasLawfulEpochs (published_by c.shared q root t x)
publish_paced c q root t x p = record {
  floors = λ i y e. let z = p.floors i y e in (z.0, z.1, omega arith);
  loads = λ i. let z = p.loads i in (z.0, omega arith, z.2);
  after = p.after;
  marks = λ r f l s m i y e. p.marks r f l s (next_marked c.past.now q (is_linked t r) (c.fate r) f l s m) i y e;
  bounds = p.bounds;
}

-- A record that gets a fate other than a mark.
pub fate_paced : (c : BareCore) (r : Rec) (f : Fate) → ((a b s : ℕ) → f ≡ Marked a b s → ⊥) → HasLawfulEpochs c.shared → HasLawfulEpochs (with_fate c.shared r f)
fate_paced c r f n p = record {
  floors = p.floors;
  loads = p.loads;
  after = p.after;
  marks = λ i a b s m k x e. either (λ z. z ≡ Marked a b s → (x.floor ≤ s) ⊎ (b < x.version)) (same_rec i r) f (c.fate i)
      (λ t h. absurd (n a b s h)) (λ t h. p.marks i a b s h k x e) m;
  bounds = p.bounds;
}

-- The epochs don't turn on locks.
pub lock_paced : (c : BareCore) (n : ℕ) (o : Option ℕ) → HasLawfulEpochs c.shared → HasLawfulEpochs (with_lock c.shared n o)
lock_paced c n o p = record { floors = p.floors; loads = p.loads; after = p.after; marks = p.marks; bounds = p.bounds }

pub anchor_paced : (c : BareCore) (o : Option ℕ) → HasLawfulEpochs c.shared → HasLawfulEpochs (with_anchor c.shared o)
anchor_paced c o p = record { floors = p.floors; loads = p.loads; after = p.after; marks = p.marks; bounds = p.bounds }

pub advance_paced : (c : BareCore) → HasLawfulEpochs c.shared → HasLawfulEpochs (with_epoch c.shared (suc c.epoch))
advance_paced c p = record {
  floors = λ i x e. let z = p.floors i x e in (z.0, omega arith, z.2);
  loads = λ i. let z = p.loads i in (omega arith, z.1, z.2);
  after = p.after;
  marks = p.marks;
  bounds = p.bounds;
}

pub clear_pin_paced : (c : BareCore) (q : ℕ) → HasLawfulEpochs c.shared → HasLawfulEpochs (with_pin c.shared q None)
clear_pin_paced c q p = record {
  floors = λ i x e. p.floors i x (old i x e);
  loads = p.loads;
  after = λ i o x e. p.after i o x (old i x e);
  marks = λ r f l s m i x e. p.marks r f l s m i x (old i x e);
  bounds = λ i o x e seen. p.bounds i o x (old i x e) seen;
}
  where
    old : (i : ℕ) (x : Pin) → (if nat_eq i q then None else c.pins i) ≡ Some x → c.pins i ≡ Some x
    old i x e = either (λ z. z ≡ Some x → c.pins i ≡ Some x) (nat_eq i q) None (c.pins i) (λ b h. absurd (let y : None ≡ Some x = h in cc)) (λ b h. h) e

-- No record of a pinned pass's reach is Free or Held.
pub reach_kept : (c : BareCore) → IsLawfulState (view c) → (q : ℕ) (p : Pin) → c.pins q ≡ Some p → (n : ℕ) → p.version ≤ n → n ≤ c.past.now →
    (r : Rec) (u : Tree) → Stands c.past n r u → (c.fate r ≢ Free) × ((o : ℕ) → c.fate r ≢ Held o)
reach_kept c law q p e n lo hi r u st =
    let h = law.reach q p.version (ap pin_version e) n lo hi r u st in
    ((λ x. subst (λ z. Spans c.past.now (life_of z) n) x h), (λ o x. subst (λ z. Spans c.past.now (life_of z) n) x h))
