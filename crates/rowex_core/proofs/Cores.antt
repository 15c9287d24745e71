-- Each legal step keeps the core lawful.
pub mod Loading
pub mod Published
pub mod Publishing
pub mod Valuing
use Rattle.rowex_core.proofs.Common.{◌≡◌, ◌≢◌, ◌⊎◌, inl, inr, ℕ, ◌+◌, ◌^◌, ◌<◌, ◌≤◌, Bool, true, false, if◌then◌else◌, nat_eq, eqb, Option, Some, None, refl, sym, ap, ◌∙◌, subst, arith, eqb-true, cases_Bool, false≢true, state_word, Rec, a_node, a_leaf, Pin, Round, Fate, Free, Held, ReadyBy, InTree, Unlinked, Marked, has_seen, same_rec, IsLawfulCore, claims, fills, readies, releases, locks_anchor, unlocks_anchor, locks, unlocks, marks, loads_epoch, advances, pins, unpins, loads_pin, gives_back, with_fate, with_lock, with_pin, with_round, unlocked, after_mark, same_rec_true, step_lawful}
use Rattle.std.specs.Prelude.{IsSome}
use Rattle.rowex_core.specs.declared.event.Act.{Act}
use Rattle.rowex_core.specs.declared.event.Act.TheVariants.{Claim, Fill, Ready, Release, LoadRef, LoadFixed, Lock, Unlock, Publish, Mark, LoadEpoch, Advance, SetPin, ClearPin, LoadPin, LoadState, GiveBack, Load}
use Rattle.rowex_core.specs.declared.event.Target.TheVariants.{Anchor, Node as NodeTarget}
use Rattle.rowex_core.specs.Reading.{node_words_of, leaf_of, IsPacked}
use Rattle.rowex_core.specs.Cores.{Core, IsLawful, bare, heap_of, HasRecord, HasWord, FitsIn, IsPastFilling, holder_of}
use Rattle.rowex_core.specs.Words.{tag_of}
use Rattle.rowex_core.specs.Events.{Legal, IsOffset, after, with_word, claimed, marked, given_back, anchored, locked_where, advanced}
use Rattle.rowex_core.proofs.Opening.{load_stays}
use Rattle.rowex_core.proofs.Events.Records.{word_at_record, sized_after}
use Rattle.rowex_core.proofs.Cores.Published.{publish_stays}
use Rattle.rowex_core.proofs.Cores.Valuing.{legal_publish}

-- One record's fate

-- a property of each record and its fate, after one fate has changed
fate_at : (c : Core) (r : Rec) (f : Fate) (P : Rec → Fate → Type 0) → P r f → ((i : Rec) → same_rec i r ≡ false → P i (c.fate i)) → (i : Rec) → P i ((with_fate c.shared r f).fate i)
fate_at c r f P here there i = elim (cases_Bool (same_rec i r)) [ inl e ↦ rw e (subst (λ z. P z f) (sym (same_rec_true i r e)) here) | inr e ↦ rw e (there i e) ]

-- a fate before the record is linked
abbrev IsNew : Fate → Type 0
IsNew Free = Unit {0}
IsNew (Held q) = Unit {0}
IsNew (ReadyBy q) = Unit {0}
IsNew f = ⊥

new_unlinked : (f : Fate) → IsNew f → (since last q : ℕ) → f ≡ Unlinked since last q → ⊥
new_unlinked f n since last q e = subst IsNew e n

new_marked : (f : Fate) → IsNew f → (since last epoch : ℕ) → f ≡ Marked since last epoch → ⊥
new_marked f n since last epoch e = subst IsNew e n

fate_stays : (c : Core) (r : Rec) (f : Fate) → IsLawful c → IsLawfulCore (bare (record c { shared = with_fate c.shared r f })) → HasRecord c.layout r → IsNew f → ((q : ℕ) → holder_of f ≡ Some q → q < c.layout.passes) →
    (IsPastFilling f → IsPacked r (c.words r) × FitsIn c.layout r (c.words r)) → IsLawful (record c { shared = with_fate c.shared r f })
fate_stays c r f law core has new by packed = record {
  core = core;
  records = record {
    sized = law.records.sized;
    packed = fate_at c r f (λ i g. IsPastFilling g → IsPacked i (c.words i)) (λ w. (packed w).0) (λ i e. law.records.packed i);
    fits = fate_at c r f (λ i g. IsPastFilling g → FitsIn c.layout i (c.words i)) (λ w. (packed w).1) (λ i e. law.records.fits i);
    retired = λ n since last q. fate_at c r f (λ i g. i ≡ a_node n → g ≡ Unlinked since last q → c.lock n ≡ Some q)
        (λ e x. absurd (new_unlinked f new since last q x)) (λ i e x y. law.records.retired n since last q (ap c.fate (sym x) ∙ y)) (a_node n) refl;
    used = fate_at c r f (λ i g. (g ≡ Free) ⊎ HasRecord c.layout i) (inr has) (λ i e. law.records.used i);
    holders = fate_at c r f (λ i g. (q : ℕ) → holder_of g ≡ Some q → q < c.layout.passes) by (λ i e. law.records.holders i);
  };
  epochs = record {
    now = law.epochs.now;
    loads = law.epochs.loads;
    pinned = law.epochs.pinned;
    marked = λ i since last epoch. fate_at c r f (λ i g. g ≡ Marked since last epoch → (1 ≤ epoch) × (epoch < 2 ^ 60))
        (λ x. absurd (new_marked f new since last epoch x)) (λ i e. law.epochs.marked i since last epoch) i;
  };
  root = law.root;
  lockers = law.lockers;
  makers = law.makers;
}

-- the pass that has it then is one of the index, if this one is
one_holder : (q p passes : ℕ) → q < passes → Some q ≡ Some p → p < passes
one_holder q p passes small e = subst (λ z. z < passes) (let x : q ≡ p = cc in x) small

no_holder : (p passes : ℕ) → None ≡ Some p → p < passes
no_holder p passes e = absurd (let x : None ≡ Some p = e in cc)

claim_stays : (c : Core) (q : ℕ) (r : Rec) (f : Fate) → q < c.layout.passes → IsLawful c → HasRecord c.layout r → c.fate r ≡ f → IsLawful (record c { shared = claimed c.shared q r f })
claim_stays c q r Free small law has e = fate_stays c r (Held q) law (step_lawful (bare c) q _ law.core (claims r e)) has tt (λ p x. one_holder q p c.layout.passes small x) (λ x. absurd x)
claim_stays c q r (Held p) small law has e = law
claim_stays c q r (ReadyBy p) small law has e = law
claim_stays c q r (InTree s) small law has e = law
claim_stays c q r (Unlinked s l p) small law has e = law
claim_stays c q r (Marked s l p) small law has e = law

give_back_stays : (c : Core) (q : ℕ) (r : Rec) (epoch : ℕ) (f : Fate) → IsLawful c → HasRecord c.layout r → c.fate r ≡ f → epoch < (c.rounds q).bound →
    ((o : ℕ) → o < c.layout.passes → has_seen (c.rounds q).seen o ≡ true) → IsLawful (record c { shared = given_back c.shared r epoch f })
give_back_stays c q r epoch Free law has e low seen = law
give_back_stays c q r epoch (Held p) law has e low seen = law
give_back_stays c q r epoch (ReadyBy p) law has e low seen = law
give_back_stays c q r epoch (InTree s) law has e low seen = law
give_back_stays c q r epoch (Unlinked s l p) law has e low seen = law
give_back_stays c q r epoch (Marked s l m) law has e low seen = go (cases_Bool (eqb m epoch))
  where
    go : ((eqb m epoch ≡ true) ⊎ (eqb m epoch ≡ false)) → IsLawful (record c { shared = if nat_eq m epoch then with_fate c.shared r Free else c.shared })
    go (inl x) = rw x (fate_stays c r Free law (step_lawful (bare c) q _ law.core (gives_back r s l m e (let y = eqb-true m epoch x in omega arith)
        (λ o p z. seen o (law.epochs.pinned o p z).0))) has tt (λ p y. no_holder p c.layout.passes y) (λ y. absurd y))
    go (inr x) = rw x law

mark_stays : (c : Core) (q : ℕ) (r : Rec) (epoch since last : ℕ) → IsLawful c → HasRecord c.layout r → epoch ≡ (c.rounds q).epoch → c.fate r ≡ Unlinked since last q →
    last < (c.rounds q).version → IsLawful (record c { shared = after_mark c.shared r since last epoch })
mark_stays c q r epoch since last law has same e late = record {
  core = subst (λ z. IsLawfulCore (bare (record c { shared = after_mark c.shared r since last z }))) (sym same) (step_lawful (bare c) q _ law.core (marks r since last e late));
  records = record {
    sized = law.records.sized;
    packed = fate_at c r (Marked since last epoch) (λ i g. IsPastFilling g → IsPacked i (c.words i)) (λ w. law.records.packed r (subst IsPastFilling (sym e) tt)) (λ i x. law.records.packed i);
    fits = fate_at c r (Marked since last epoch) (λ i g. IsPastFilling g → FitsIn c.layout i (c.words i)) (λ w. law.records.fits r (subst IsPastFilling (sym e) tt)) (λ i x. law.records.fits i);
    retired = λ n s l p. fate_at c r (Marked since last epoch) (λ i g. i ≡ a_node n → g ≡ Unlinked s l p → (unlocked c.shared r).lock n ≡ Some p)
        (λ x y. absurd cc) (λ i x y z. rw (subst (λ v. same_rec v r ≡ false) y x) (law.records.retired n s l p (ap c.fate (sym y) ∙ z))) (a_node n) refl;
    used = fate_at c r (Marked since last epoch) (λ i g. (g ≡ Free) ⊎ HasRecord c.layout i) (inr has) (λ i x. law.records.used i);
    holders = fate_at c r (Marked since last epoch) (λ i g. (p : ℕ) → holder_of g ≡ Some p → p < c.layout.passes) (λ p x. no_holder p c.layout.passes x) (λ i x. law.records.holders i);
  };
  epochs = record {
    now = law.epochs.now;
    loads = law.epochs.loads;
    pinned = law.epochs.pinned;
    marked = λ i s l m. fate_at c r (Marked since last epoch) (λ i g. g ≡ Marked s l m → (1 ≤ m) × (m < 2 ^ 60))
        (λ x. subst (λ z. (1 ≤ z) × (z < 2 ^ 60)) (let y : epoch ≡ m = cc in y) range) (λ i x. law.epochs.marked i s l m) i;
  };
  root = law.root;
  lockers = record {
    root = law.lockers.root;
    nodes = λ n p. lock_at (same_rec (a_node n) r) n p (law.lockers.nodes n p);
  };
  makers = law.makers;
}
  where
    lock_at : (b : Bool) (n p : ℕ) → (c.lock n ≡ Some p → p < c.layout.passes) → (if b then None else c.lock n) ≡ Some p → p < c.layout.passes
    lock_at true n p old is = absurd (let x : None ≡ Some p = is in cc)
    lock_at false n p old is = old is

    range : (1 ≤ epoch) × (epoch < 2 ^ 60)
    range = let x = law.core.paced.loads q in let y = law.epochs.now in
        elim (law.epochs.loads q) [ inl z ↦ absurd (omega arith) | inr z ↦ (omega arith, omega arith) ]

-- The words of a held record

fill_stays : (c : Core) (q : ℕ) (r : Rec) (offset w : ℕ) → IsLawful c → c.fate r ≡ Held q → IsOffset r offset → w < 2 ^ 64 → HasWord c.layout r offset → IsLawful (record c { words = with_word c.words r offset w })
fill_stays c q r offset w law e at small there = record {
  core = step_lawful (bare c) q _ law.core (fills r (heap_of (with_word c.words r offset w)) e (record {
    nodes = λ n ne. ap node_words_of (sym (other (a_node n) (λ x. ne (sym x))));
    leaves = λ n ne. ap leaf_of (sym (other (a_leaf n) (λ x. ne (sym x))));
  }));
  records = record {
    sized = sized_after c.words r offset w small law.records.sized;
    packed = word_at_record c.words r offset w (λ i words. IsPastFilling (c.fate i) → IsPacked i words) (λ x. absurd (subst IsPastFilling e x)) (λ i ne. law.records.packed i);
    fits = word_at_record c.words r offset w (λ i words. IsPastFilling (c.fate i) → FitsIn c.layout i words) (λ x. absurd (subst IsPastFilling e x)) (λ i ne. law.records.fits i);
    retired = law.records.retired;
    used = law.records.used;
    holders = law.records.holders;
  };
  epochs = law.epochs;
  root = law.root;
  lockers = law.lockers;
  makers = law.makers;
}
  where
    low : (r : Rec) → IsOffset r offset → 1 ≤ offset
    low (a_node n) at = at.0
    low (a_leaf n) at = at.0

    other : (i : Rec) → i ≢ r → with_word c.words r offset w i ≡ c.words i
    other i ne = word_at_record c.words r offset w (λ j words. j ≢ r → words ≡ c.words j) (λ x. absurd (x refl)) (λ j x y. refl) i ne

-- Locks

anchor_stays : (c : Core) (q : ℕ) (o : Option ℕ) → q < c.layout.passes → IsLawful c → c.anchor ≡ o → IsLawful (record c { shared = anchored c.shared q o })
anchor_stays c q None small law e = record { core = step_lawful (bare c) q _ law.core (locks_anchor e); records = law.records; epochs = law.epochs; root = law.root; lockers = record { root = λ p is. subst (λ z. z < c.layout.passes) (let x : q ≡ p = cc in x) small; nodes = law.lockers.nodes }; makers = law.makers }
anchor_stays c q (Some p) small law e = law

-- the lock of a node in the tree
lock_stays : (c : Core) (n since : ℕ) (o : Option ℕ) → ((p : ℕ) → o ≡ Some p → p < c.layout.passes) → IsLawful c → c.fate (a_node n) ≡ InTree since → IsLawfulCore (bare (record c { shared = with_lock c.shared n o })) → IsLawful (record c { shared = with_lock c.shared n o })
lock_stays c n since o by law e core = record {
  core = core;
  records = record { sized = law.records.sized; packed = law.records.packed; fits = law.records.fits; retired = λ i s l q h. go i s l q h (cases_Bool (eqb i n)); used = law.records.used; holders = law.records.holders };
  epochs = law.epochs;
  root = law.root;
  lockers = record { root = law.lockers.root; nodes = λ i p is. taken i p is (cases_Bool (eqb i n)) };
  makers = law.makers;
}
  where
    taken : (i p : ℕ) → (if nat_eq i n then o else c.lock i) ≡ Some p → ((eqb i n ≡ true) ⊎ (eqb i n ≡ false)) → p < c.layout.passes
    taken i p is (inl x) = by p (subst (λ b. (if b then o else c.lock i) ≡ Some p) x is)
    taken i p is (inr x) = law.lockers.nodes i p (subst (λ b. (if b then o else c.lock i) ≡ Some p) x is)

    go : (i s l q : ℕ) → c.fate (a_node i) ≡ Unlinked s l q → ((eqb i n ≡ true) ⊎ (eqb i n ≡ false)) → (if nat_eq i n then o else c.lock i) ≡ Some q
    go i s l q h (inl x) = absurd (let y : InTree since ≡ Unlinked s l q = sym e ∙ (ap (λ z. c.fate (a_node z)) (sym (eqb-true i n x)) ∙ h) in cc)
    go i s l q h (inr x) = rw x (law.records.retired i s l q h)

-- LIVE: not locked, where the record is in the tree
live_unlocked : (o : Option ℕ) (f : Fate) (since : ℕ) → f ≡ InTree since → 2 ≡ state_word (tag_of o f) → o ≡ None
live_unlocked None f since e h = refl
live_unlocked (Some q) f since e h = absurd (let x : 2 ≡ 3 = h ∙ ap (λ z. state_word (tag_of (Some q) z)) e in omega arith)

-- A pass's pin and round

no_pin : IsSome {T = Pin} None → ⊥
no_pin h = false≢true h

pin_at : (c : Core) (q : ℕ) (o : Option Pin) (P : ℕ → Option Pin → Type 0) → P q o → ((i : ℕ) → P i (c.pins i)) → (i : ℕ) → P i ((with_pin c.shared q o).pins i)
pin_at c q o P here there i = elim (cases_Bool (eqb i q)) [ inl e ↦ rw e (subst (λ z. P z o) (sym (eqb-true i q e)) here) | inr e ↦ rw e (there i) ]

pin_stays : (c : Core) (q : ℕ) (o : Option Pin) → IsLawful c → IsLawfulCore (bare (record c { shared = with_pin c.shared q o })) → ((p : Pin) → o ≡ Some p → (q < c.layout.passes) × (1 ≤ p.word)) → IsLawful (record c { shared = with_pin c.shared q o })
pin_stays c q o law core new = record {
  core = core;
  records = law.records;
  epochs = record {
    now = law.epochs.now;
    loads = law.epochs.loads;
    pinned = pin_at c q o (λ i x. (p : Pin) → x ≡ Some p → (i < c.layout.passes) × (1 ≤ p.word)) new law.epochs.pinned;
    marked = law.epochs.marked;
  };
  root = law.root;
  lockers = law.lockers;
  makers = law.makers;
}

round_stays : (c : Core) (q : ℕ) (o : Round) → IsLawful c → IsLawfulCore (bare (record c { shared = with_round c.shared q o })) → (o.version ≡ 0) ⊎ (1 ≤ o.epoch) → IsLawful (record c { shared = with_round c.shared q o })
round_stays c q o law core new = record {
  core = core;
  records = law.records;
  epochs = record { now = law.epochs.now; loads = λ i. go i (cases_Bool (eqb i q)); pinned = law.epochs.pinned; marked = law.epochs.marked };
  root = law.root;
  lockers = law.lockers;
  makers = law.makers;
}
  where
    go : (i : ℕ) → ((eqb i q ≡ true) ⊎ (eqb i q ≡ false)) → ((if nat_eq i q then o else c.rounds i).version ≡ 0) ⊎ (1 ≤ (if nat_eq i q then o else c.rounds i).epoch)
    go i (inl e) = rw e new
    go i (inr e) = rw e (law.epochs.loads i)

-- The epoch

advance_stays : (c : Core) (q expected : ℕ) → IsLawful c → expected + 1 < 2 ^ 60 → IsLawful (record c { shared = advanced c.shared expected })
advance_stays c q expected law low = go (cases_Bool (eqb c.epoch expected))
  where
    go : ((eqb c.epoch expected ≡ true) ⊎ (eqb c.epoch expected ≡ false)) → IsLawful (record c { shared = advanced c.shared expected })
    go (inr e) = rw e law
    go (inl e) = rw e (record {
      core = step_lawful (bare c) q _ law.core advances;
      records = law.records;
      epochs = record { now = let x = eqb-true c.epoch expected e in (omega arith, omega arith); loads = law.epochs.loads; pinned = law.epochs.pinned; marked = law.epochs.marked };
      root = law.root;
      lockers = law.lockers;
      makers = law.makers;
    })

-- A legal step keeps the core lawful.
pub stays_lawful : (c : Core) (q : ℕ) (act : Act) → IsLawful c → Legal c q act → IsLawful (after c q act)
stays_lawful c q (Claim r found) law (a, b) = claim_stays c q r (c.fate r) a law b.0 refl
stays_lawful c q (Fill r offset w) law (a, b) = fill_stays c q r offset w law b.1 b.2 b.3 b.4
stays_lawful c q (Ready r) law (a, b) = fate_stays c r (ReadyBy q) law (step_lawful (bare c) q _ law.core (readies r b.1)) b.0 tt (λ p x. one_holder q p c.layout.passes a x) (λ x. (b.2, b.3))
stays_lawful c q (Release r) law (a, b) = fate_stays c r Free law (step_lawful (bare c) q _ law.core (releases r b.1)) b.0 tt (λ p x. no_holder p c.layout.passes x) (λ x. absurd x)
stays_lawful c q (LoadRef spot w) law l = law
stays_lawful c q (LoadFixed r offset w) law l = law
stays_lawful c q (Lock Anchor found) law (a, b) = anchor_stays c q c.anchor a law refl
stays_lawful c q (Lock (NodeTarget n) found) law (a, b) = go (cases_Bool (eqb found 2))
  where
    go : ((eqb found 2 ≡ true) ⊎ (eqb found 2 ≡ false)) → IsLawful (record c { shared = locked_where c.shared n q found })
    go (inr e) = rw e law
    go (inl e) =
        let live : found ≡ 2 = eqb-true found 2 e in
        let t = b.2 live in
        rw e (lock_stays c n t.0 (Some q) (λ p is. subst (λ z. z < c.layout.passes) (let x : q ≡ p = cc in x) a) law t.1 (step_lawful (bare c) q _ law.core (locks n t.0 (live_unlocked (c.lock n) (c.fate (a_node n)) t.0 t.1 (sym live ∙ b.1)) t.1)))
stays_lawful c q (Unlock Anchor) law (a, b) = record { core = step_lawful (bare c) q _ law.core (unlocks_anchor b); records = law.records; epochs = law.epochs; root = law.root; lockers = record { root = λ p is. absurd (let x : None ≡ Some p = is in cc); nodes = law.lockers.nodes }; makers = law.makers }
stays_lawful c q (Unlock (NodeTarget n)) law (a, b) = lock_stays c n b.2.0 None (λ p is. absurd (let x : None ≡ Some p = is in cc)) law b.2.1 (step_lawful (bare c) q _ law.core (unlocks n b.2.0 b.1 b.2.1))
stays_lawful c q (Publish spot w) law (a, b) = publish_stays c q spot w law (legal_publish c q spot w law b) a
stays_lawful c q (Mark r epoch) law (a, b) = subst (λ f. IsLawful (record c { shared = marked c.shared r epoch f })) (sym b.2.2) (mark_stays c q r epoch b.2.0 b.2.1 law b.0 b.1 b.2.2 b.2.3)
stays_lawful c q (LoadEpoch w) law l = round_stays c q _ law (step_lawful (bare c) q _ law.core loads_epoch) (inr law.epochs.now.0)
stays_lawful c q (Advance expected found) law (a, b) = advance_stays c q expected law b.1
stays_lawful c q (SetPin w) law (a, b) =
    subst (λ z. IsLawful (record c { shared = with_pin c.shared q (Some (record { word = z; version = c.past.now; floor = c.epoch })) })) (sym b.1)
    (pin_stays c q _ law (step_lawful (bare c) q _ law.core (pins b.0)) (λ p e. (a, subst (λ (z : Pin). 1 ≤ z.word) (let x : (record { word = (c.rounds q).epoch; version = c.past.now; floor = c.epoch }) ≡ p = cc in x) (let y = b.1 in let z = b.2 in omega arith))))
stays_lawful c q ClearPin law (a, b) = go (c.pins q) refl b
  where
    go : (o : Option Pin) → c.pins q ≡ o → IsSome o → IsLawful (record c { shared = with_pin c.shared q None })
    go None e h = absurd (no_pin h)
    go (Some p) e h = pin_stays c q None law (step_lawful (bare c) q _ law.core (unpins p e)) (λ z x. absurd cc)
stays_lawful c q (LoadPin o w) law l = round_stays c q _ law (step_lawful (bare c) q _ law.core (loads_pin o)) (law.epochs.loads q)
stays_lawful c q (LoadState r w) law l = law
stays_lawful c q (GiveBack r epoch found) law (a, b) = give_back_stays c q r epoch (c.fate r) law b.0 refl b.3 b.4
stays_lawful c q (Load load) law (a, (e, b)) = subst (λ (z : Core). IsLawful (after z q (Load load))) (sym e) (load_stays c.layout q load.now a b)
