-- A legal step changes one word of the table.
pub mod Appending
pub mod Finding
pub mod Records
use Rattle.rowex_core.proofs.Common.{◌≡◌, ◌≢◌, ◌⊎◌, inl, inr, ℕ, zero, suc, ◌+◌, ◌-◌, ◌*◌, ◌<◌, ◌≤◌, List, length, set, get_or, Bool, true, false, if◌then◌else◌, nat_eq, eqb, Option, Some, None, refl, sym, ap, ◌∙◌, subst, arith, eq-eqb, eqb-true, ne_eqb, cases_Bool, false≢true, length-set, get_or-set_same, get_or-set_other, Layout, Location, Epoch, RootWord, AnchorWord, PinOf, NodeWord, LeafWord, address, word_count, IsInTable, state_word, entry_word, Rec, a_node, a_leaf, Pin, Round, Fate, Free, Held, ReadyBy, InTree, Unlinked, Marked, same_rec, is_linked, next_fate, IsLockable, with_fate, with_lock, with_pin, with_round, with_anchor, with_epoch, after_mark, same_rec_refl, same_rec_true}
use Rattle.record_words.proofs.Locations.{size_fits, address-below, same_location}
use Rattle.rowex_core.specs.declared.event.Act.{Act}
use Rattle.rowex_core.specs.declared.event.Act.TheVariants.{Claim, Fill, Ready, Release, LoadRef, LoadFixed, Lock, Unlock, Publish, Mark, LoadEpoch, Advance, SetPin, ClearPin, LoadPin, LoadState, GiveBack, Load}
use Rattle.rowex_core.specs.declared.event.Target.TheVariants.{Anchor, Node as NodeTarget}
use Rattle.rowex_core.specs.declared.event.Spot.{Spot}
use Rattle.rowex_core.specs.declared.event.Spot.TheVariants.{Root, Slot, Value}
use Rattle.rowex_core.specs.Cores.{Core, IsLawful, HasRecord}
use Rattle.rowex_core.specs.Words.{lock_tag, tag_of, lock_of, state_at, pin_word, record_word, word_at, Shows}
use Rattle.rowex_core.specs.Events.{IsAtomic, Legal, after, with_word, claimed, marked, given_back, anchored, stored_words, stored_root, next_tree, IsInTree, IsOffset, IsLegalPublish, word_of, spot_word, location_of, exchanged, writes, locked_where, advanced}
use Rattle.rowex_core.proofs.Cores.Valuing.{legal_publish}

-- From core c to core d the word at this location becomes w, and every other one stays.
pub record IsWrite (c d : Core) (location : Location) (w : ℕ) : Type 0 where
  pub layout : d.layout ≡ c.layout
  pub here : word_at d location ≡ w
  pub others : (other : Location) → other ≢ location → word_at d other ≡ word_at c other

-- the first word of a record is its state
first_word : (c : Core) (r : Rec) → word_at c (word_of r 0) ≡ state_at c r
first_word c (a_node n) = refl
first_word c (a_leaf n) = refl

-- a step that writes nothing, or what stands there
nothing : (c : Core) (location : Location) (w : ℕ) → word_at c location ≡ w → IsWrite c c location w
nothing c location w e = record { layout = refl; here = e; others = λ o ne. refl }

-- Words of records

-- the state or another word of record r changes, and nothing else
record_write : (c d : Core) (r : Rec) (offset w : ℕ) → d.layout ≡ c.layout → d.epoch ≡ c.epoch → d.root ≡ c.root → d.anchor ≡ c.anchor → ((q : ℕ) → d.pins q ≡ c.pins q) →
    record_word d r offset ≡ w → ((i : Rec) (o : ℕ) → (same_rec i r ≡ false) ⊎ (o ≢ offset) → record_word d i o ≡ record_word c i o) → IsWrite c d (word_of r offset) w
record_write c d r offset w layout epoch root anchor pins here there = record { layout = layout; here = at r here; others = others }
  where
    at : (r : Rec) → record_word d r offset ≡ w → word_at d (word_of r offset) ≡ w
    at (a_node n) h = h
    at (a_leaf n) h = h

    apart : (i : Rec) (o : ℕ) → word_of i o ≢ word_of r offset → (same_rec i r ≡ false) ⊎ (o ≢ offset)
    apart i o ne = elim (cases_Bool (same_rec i r)) [ inl e ↦ inr (λ x. ne (ap (λ z. word_of z o) (same_rec_true i r e) ∙ ap (word_of r) x)) | inr e ↦ inl e ]

    others : (other : Location) → other ≢ word_of r offset → word_at d other ≡ word_at c other
    others Epoch ne = epoch
    others RootWord ne = ap entry_word root
    others AnchorWord ne = ap (λ z. state_word (lock_tag z)) anchor
    others (PinOf q) ne = ap pin_word (pins q)
    others (NodeWord n o) ne = there (a_node n) o (apart (a_node n) o ne)
    others (LeafWord n o) ne = there (a_leaf n) o (apart (a_leaf n) o ne)

-- the state
state_write : (c d : Core) (r : Rec) (w : ℕ) → d.layout ≡ c.layout → d.epoch ≡ c.epoch → d.root ≡ c.root → d.anchor ≡ c.anchor → ((q : ℕ) → d.pins q ≡ c.pins q) →
    ((i : Rec) → d.words i ≡ c.words i) → state_at d r ≡ w → ((i : Rec) → same_rec i r ≡ false → state_at d i ≡ state_at c i) → IsWrite c d (word_of r 0) w
state_write c d r w layout epoch root anchor pins words here there = record_write c d r 0 w layout epoch root anchor pins here other
  where
    other : (i : Rec) (o : ℕ) → (same_rec i r ≡ false) ⊎ (o ≢ 0) → record_word d i o ≡ record_word c i o
    other i zero (inl e) = there i e
    other i zero (inr e) = absurd (e refl)
    other i (suc o) e = ap (λ z. get_or z o 0) (words i)

-- a record's fate
fate_write : (c : Core) (r : Rec) (f : Fate) (w : ℕ) → state_word (tag_of (lock_of c r) f) ≡ w → IsWrite c (record c { shared = with_fate c.shared r f }) (word_of r 0) w
fate_write c r f w e = state_write c (record c { shared = with_fate c.shared r f }) r w refl refl refl refl (λ q. refl) (λ i. refl) (rw (same_rec_refl r) e) (λ i x. rw x refl)

-- a node's lock
lock_write : (c : Core) (n : ℕ) (o : Option ℕ) (w : ℕ) → state_word (tag_of o (c.fate (a_node n))) ≡ w → IsWrite c (record c { shared = with_lock c.shared n o }) (NodeWord n 0) w
lock_write c n o w e = state_write c (record c { shared = with_lock c.shared n o }) (a_node n) w refl refl refl refl (λ q. refl) (λ i. refl) (rw (eq-eqb n n refl) e) other
  where
    other : (i : Rec) → same_rec i (a_node n) ≡ false → state_at (record c { shared = with_lock c.shared n o }) i ≡ state_at c i
    other (a_node i) x = rw x refl
    other (a_leaf i) x = refl

mark_write : (c : Core) (r : Rec) (since last epoch : ℕ) → IsWrite c (record c { shared = after_mark c.shared r since last epoch }) (word_of r 0) (8 * epoch + 4)
mark_write c r since last epoch = state_write c d r _ refl refl refl refl (λ q. refl) (λ i. refl) (rw (same_rec_refl r) refl) other
  where
    d : Core
    d = record c { shared = after_mark c.shared r since last epoch }

    other : (i : Rec) → same_rec i r ≡ false → state_at (record c { shared = after_mark c.shared r since last epoch }) i ≡ state_at c i
    other (a_node i) x = rw x refl
    other (a_leaf i) x = rw x refl

-- a word that is not the state
fill_write : (c : Core) (r : Rec) (offset w : ℕ) → 1 ≤ offset → offset - 1 < length (c.words r) → IsWrite c (record c { words = with_word c.words r offset w }) (word_of r offset) w
fill_write c r offset w low high = record_write c (record c { words = with_word c.words r offset w }) r offset w refl refl refl refl (λ q. refl) (here offset low high) (other offset low)
  where
    here : (o : ℕ) → 1 ≤ o → o - 1 < length (c.words r) → record_word (record c { words = with_word c.words r o w }) r o ≡ w
    here zero l h = absurd (omega arith)
    here (suc o) l h = rw (same_rec_refl r) (ap (λ z. get_or (set (c.words r) (suc o - 1) w) z 0) (let x : o ≡ suc o - 1 = omega arith in x) ∙ get_or-set_same (c.words r) (suc o - 1) w 0 h)

    other : (x : ℕ) → 1 ≤ x → (i : Rec) (o : ℕ) → (same_rec i r ≡ false) ⊎ (o ≢ x) → record_word (record c { words = with_word c.words r x w }) i o ≡ record_word c i o
    other x l i zero e = refl
    other x l i (suc o) (inl e) = rw e refl
    other zero l i (suc o) (inr e) = absurd (omega arith)
    other (suc x) l i (suc o) (inr e) = go (cases_Bool (same_rec i r))
      where
        go : ((same_rec i r ≡ true) ⊎ (same_rec i r ≡ false)) → get_or (with_word c.words r (suc x) w i) o 0 ≡ get_or (c.words i) o 0
        go (inr y) = rw y refl
        go (inl y) = rw y (get_or-set_other (c.words r) (suc x - 1) o w 0 (λ z. e (let v : suc o ≡ suc x = omega arith in v)) ∙ ap (λ z. get_or (c.words z) o 0) (sym (same_rec_true i r y)))

-- Other words

anchor_write : (c : Core) (o : Option ℕ) (w : ℕ) → state_word (lock_tag o) ≡ w → IsWrite c (record c { shared = with_anchor c.shared o }) AnchorWord w
anchor_write c o w e = record { layout = refl; here = e; others = others }
  where
    others : (other : Location) → other ≢ AnchorWord → word_at (record c { shared = with_anchor c.shared o }) other ≡ word_at c other
    others Epoch ne = refl
    others RootWord ne = refl
    others AnchorWord ne = absurd (ne refl)
    others (PinOf q) ne = refl
    others (NodeWord n o) ne = refl
    others (LeafWord n o) ne = refl

epoch_write : (c : Core) (e w : ℕ) → e ≡ w → IsWrite c (record c { shared = with_epoch c.shared e }) Epoch w
epoch_write c e w same = record { layout = refl; here = same; others = others }
  where
    others : (other : Location) → other ≢ Epoch → word_at (record c { shared = with_epoch c.shared e }) other ≡ word_at c other
    others Epoch ne = absurd (ne refl)
    others RootWord ne = refl
    others AnchorWord ne = refl
    others (PinOf q) ne = refl
    others (NodeWord n o) ne = refl
    others (LeafWord n o) ne = refl

pin_write : (c : Core) (q : ℕ) (o : Option Pin) (w : ℕ) → pin_word o ≡ w → IsWrite c (record c { shared = with_pin c.shared q o }) (PinOf q) w
pin_write c q o w e = record { layout = refl; here = rw (eq-eqb q q refl) e; others = others }
  where
    others : (other : Location) → other ≢ PinOf q → word_at (record c { shared = with_pin c.shared q o }) other ≡ word_at c other
    others Epoch ne = refl
    others RootWord ne = refl
    others AnchorWord ne = refl
    others (PinOf p) ne = rw (ne_eqb p q (λ x. ne (ap PinOf x))) refl
    others (NodeWord n o) ne = refl
    others (LeafWord n o) ne = refl

-- rounds stand in no word
round_write : (c : Core) (q : ℕ) (o : Round) (location : Location) (w : ℕ) → word_at c location ≡ w → IsWrite c (record c { shared = with_round c.shared q o }) location w
round_write c q o location w e = record { layout = refl; here = same location ∙ e; others = λ other ne. same other }
  where
    same : (other : Location) → word_at (record c { shared = with_round c.shared q o }) other ≡ word_at c other
    same Epoch = refl
    same RootWord = refl
    same AnchorWord = refl
    same (PinOf p) = refl
    same (NodeWord n o) = refl
    same (LeafWord n o) = refl

-- Compare-exchanges

exchanged_here : (w old new : ℕ) → w ≡ old → exchanged w old new ≡ new
exchanged_here w old new e = rw (eq-eqb w old e) refl

exchanged_not : (w old new : ℕ) → w ≢ old → exchanged w old new ≡ w
exchanged_not w old new e = rw (ne_eqb w old e) refl

-- of LIVE and LOCKED
lock_small : (o : Option ℕ) → (2 ≤ state_word (lock_tag o)) × (state_word (lock_tag o) < 4)
lock_small None = (omega arith, omega arith)
lock_small (Some q) = (omega arith, omega arith)

claim_write : (c : Core) (q : ℕ) (r : Rec) (f : Fate) → c.fate r ≡ f → IsWrite c (record c { shared = claimed c.shared q r f }) (word_of r 0) (exchanged (word_at c (word_of r 0)) 0 1)
claim_write c q r f e = subst (λ z. IsWrite c (record c { shared = claimed c.shared q r f }) (word_of r 0) (exchanged z 0 1)) (sym stands) (go f e)
  where
    stands : word_at c (word_of r 0) ≡ state_word (tag_of (lock_of c r) f)
    stands = first_word c r ∙ ap (λ z. state_word (tag_of (lock_of c r) z)) e

    stay : (g : Fate) → c.fate r ≡ g → state_word (tag_of (lock_of c r) g) ≢ 0 → IsWrite c c (word_of r 0) (exchanged (state_word (tag_of (lock_of c r) g)) 0 1)
    stay g x ne = nothing c (word_of r 0) _ (first_word c r ∙ (ap (λ z. state_word (tag_of (lock_of c r) z)) x ∙ sym (exchanged_not _ 0 1 ne)))

    go : (g : Fate) → c.fate r ≡ g → IsWrite c (record c { shared = claimed c.shared q r g }) (word_of r 0) (exchanged (state_word (tag_of (lock_of c r) g)) 0 1)
    go Free x = fate_write c r (Held q) 1 refl
    go (Held p) x = stay (Held p) x (λ z. omega arith)
    go (ReadyBy p) x = stay (ReadyBy p) x (λ z. let y = lock_small (lock_of c r) in omega arith)
    go (InTree s) x = stay (InTree s) x (λ z. let y = lock_small (lock_of c r) in omega arith)
    go (Unlinked s l p) x = stay (Unlinked s l p) x (λ z. let y = lock_small (lock_of c r) in omega arith)
    go (Marked s l p) x = stay (Marked s l p) x (λ z. omega arith)

give_back_write : (c : Core) (r : Rec) (epoch : ℕ) (f : Fate) → c.fate r ≡ f → IsWrite c (record c { shared = given_back c.shared r epoch f }) (word_of r 0) (exchanged (word_at c (word_of r 0)) (8 * epoch + 4) 0)
give_back_write c r epoch f e = subst (λ z. IsWrite c (record c { shared = given_back c.shared r epoch f }) (word_of r 0) (exchanged z (8 * epoch + 4) 0)) (sym stands) (go f e)
  where
    stands : word_at c (word_of r 0) ≡ state_word (tag_of (lock_of c r) f)
    stands = first_word c r ∙ ap (λ z. state_word (tag_of (lock_of c r) z)) e

    stay : (g : Fate) → c.fate r ≡ g → state_word (tag_of (lock_of c r) g) ≢ 8 * epoch + 4 → IsWrite c c (word_of r 0) (exchanged (state_word (tag_of (lock_of c r) g)) (8 * epoch + 4) 0)
    stay g x ne = nothing c (word_of r 0) _ (first_word c r ∙ (ap (λ z. state_word (tag_of (lock_of c r) z)) x ∙ sym (exchanged_not _ (8 * epoch + 4) 0 ne)))

    go : (g : Fate) → c.fate r ≡ g → IsWrite c (record c { shared = given_back c.shared r epoch g }) (word_of r 0) (exchanged (state_word (tag_of (lock_of c r) g)) (8 * epoch + 4) 0)
    go Free x = stay Free x (λ z. omega arith)
    go (Held p) x = stay (Held p) x (λ z. omega arith)
    go (ReadyBy p) x = stay (ReadyBy p) x (λ z. let y = lock_small (lock_of c r) in omega arith)
    go (InTree s) x = stay (InTree s) x (λ z. let y = lock_small (lock_of c r) in omega arith)
    go (Unlinked s l p) x = stay (Unlinked s l p) x (λ z. let y = lock_small (lock_of c r) in omega arith)
    go (Marked s l m) x = at (cases_Bool (eqb m epoch))
      where
        at : ((eqb m epoch ≡ true) ⊎ (eqb m epoch ≡ false)) → IsWrite c (record c { shared = if nat_eq m epoch then with_fate c.shared r Free else c.shared }) (word_of r 0) (exchanged (8 * m + 4) (8 * epoch + 4) 0)
        at (inl y) = rw y (subst (IsWrite c (record c { shared = with_fate c.shared r Free }) (word_of r 0)) (sym (exchanged_here (8 * m + 4) (8 * epoch + 4) 0 (let z = eqb-true m epoch y in omega arith))) (fate_write c r Free 0 refl))
        at (inr y) = rw y (stay (Marked s l m) x (λ z. false≢true (sym y ∙ eq-eqb m epoch (omega arith))))

anchored_write : (c : Core) (q : ℕ) (o : Option ℕ) → c.anchor ≡ o → IsWrite c (record c { shared = anchored c.shared q o }) AnchorWord (exchanged (state_word (lock_tag c.anchor)) 2 3)
anchored_write c q o e = subst (λ z. IsWrite c (record c { shared = anchored c.shared q o }) AnchorWord (exchanged (state_word (lock_tag z)) 2 3)) (sym e) (go o e)
  where
    go : (o : Option ℕ) → c.anchor ≡ o → IsWrite c (record c { shared = anchored c.shared q o }) AnchorWord (exchanged (state_word (lock_tag o)) 2 3)
    go None x = anchor_write c (Some q) 3 refl
    go (Some p) x = nothing c AnchorWord 3 (ap (λ z. state_word (lock_tag z)) x)

lock_exchange : (c : Core) (q n found : ℕ) → found ≡ state_at c (a_node n) → (found ≡ 2 → IsInTree c n) →
    IsWrite c (record c { shared = locked_where c.shared n q found }) (NodeWord n 0) (exchanged (state_at c (a_node n)) 2 3)
lock_exchange c q n found e live = go (cases_Bool (eqb found 2))
  where
    go : ((eqb found 2 ≡ true) ⊎ (eqb found 2 ≡ false)) → IsWrite c (record c { shared = locked_where c.shared n q found }) (NodeWord n 0) (exchanged (state_at c (a_node n)) 2 3)
    go (inl x) =
        let two = eqb-true found 2 x in
        rw x (subst (IsWrite c (record c { shared = with_lock c.shared n (Some q) }) (NodeWord n 0)) (sym (exchanged_here (state_at c (a_node n)) 2 3 (sym e ∙ two)))
        (lock_write c n (Some q) 3 (ap (λ z. state_word (tag_of (Some q) z)) (live two).1)))
    go (inr x) = rw x (nothing c (NodeWord n 0) _ (sym (exchanged_not (state_at c (a_node n)) 2 3 (λ z. false≢true (sym x ∙ eq-eqb found 2 (e ∙ z))))))

advance_write : (c : Core) (expected : ℕ) → IsWrite c (record c { shared = advanced c.shared expected }) Epoch (exchanged c.epoch expected (expected + 1))
advance_write c expected = elim (cases_Bool (eqb c.epoch expected)) [ inl x ↦ rw x (epoch_write c (suc c.epoch) (expected + 1) (let y = eqb-true c.epoch expected x in omega arith)) | inr x ↦ rw x (nothing c Epoch c.epoch refl) ]

-- Publish

-- a publish leaves the state words: what comes or goes is locked as before
next_state : (o : Option ℕ) (now q : ℕ) (b : Bool) (f : Fate) → state_word (tag_of o (next_fate now q b f)) ≡ state_word (tag_of o f)
next_state o now q b Free = refl
next_state o now q b (Held p) = refl
next_state o now q true (ReadyBy p) = refl
next_state o now q true (InTree s) = refl
next_state o now q b (Unlinked s l p) = refl
next_state o now q b (Marked s l p) = refl
next_state o now q false (ReadyBy p) = refl
next_state o now q false (InTree s) = refl

-- words of different records, or at different offsets
words_apart : (i r : Rec) (o p : ℕ) → (same_rec i r ≡ false) ⊎ (o ≢ p) → word_of i o ≢ word_of r p
words_apart (a_node i) (a_node r) o p (inl e) = λ x. false≢true (sym e ∙ eq-eqb i r (let y : i ≡ r = cc in y))
words_apart (a_leaf i) (a_leaf r) o p (inl e) = λ x. false≢true (sym e ∙ eq-eqb i r (let y : i ≡ r = cc in y))
words_apart (a_node i) (a_node r) o p (inr e) = λ x. e (let y : o ≡ p = cc in y)
words_apart (a_leaf i) (a_leaf r) o p (inr e) = λ x. e (let y : o ≡ p = cc in y)
words_apart (a_node i) (a_leaf r) o p e = λ x. cc
words_apart (a_leaf i) (a_node r) o p e = λ x. cc

-- a word of a record, that is not the state
stored_write : (c : Core) (q : ℕ) (spot : Spot) (w : ℕ) (r : Rec) (offset : ℕ) → 1 ≤ offset → offset - 1 < length (c.words r) → stored_root c spot w ≡ c.root →
    ((i : Rec) → stored_words c spot w i ≡ with_word c.words r offset w i) → IsWrite c (after c q (Publish spot w)) (word_of r offset) w
stored_write c q spot w r offset low long root words = record_write c (after c q (Publish spot w)) r offset w refl refl root refl (λ p. refl) (here r offset low filled.here words) other
  where
    filled : IsWrite c (record c { words = with_word c.words r offset w }) (word_of r offset) w
    filled = fill_write c r offset w low long

    here : (i : Rec) (o : ℕ) → 1 ≤ o → word_at (record c { words = with_word c.words r offset w }) (word_of i o) ≡ w →
        ((i : Rec) → stored_words c spot w i ≡ with_word c.words r offset w i) → record_word (after c q (Publish spot w)) i o ≡ w
    here i zero h e same = absurd (omega arith)
    here (a_node i) (suc o) h e same = ap (λ z. get_or z o 0) (same (a_node i)) ∙ e
    here (a_leaf i) (suc o) h e same = ap (λ z. get_or z o 0) (same (a_leaf i)) ∙ e

    other : (i : Rec) (o : ℕ) → (same_rec i r ≡ false) ⊎ (o ≢ offset) → record_word (after c q (Publish spot w)) i o ≡ record_word c i o
    other (a_node i) zero e = next_state (c.lock i) c.past.now q (is_linked (next_tree c spot w) (a_node i)) (c.fate (a_node i))
    other (a_leaf i) zero e = next_state None c.past.now q (is_linked (next_tree c spot w) (a_leaf i)) (c.fate (a_leaf i))
    other (a_node i) (suc o) e = ap (λ z. get_or z o 0) (words (a_node i)) ∙ filled.others (NodeWord i (suc o)) (words_apart (a_node i) r (suc o) offset e)
    other (a_leaf i) (suc o) e = ap (λ z. get_or z o 0) (words (a_leaf i)) ∙ filled.others (LeafWord i (suc o)) (words_apart (a_leaf i) r (suc o) offset e)

publish_write : (c : Core) (q : ℕ) (spot : Spot) (w : ℕ) → IsLawful c → IsLegalPublish c q spot w → IsWrite c (after c q (Publish spot w)) (spot_word spot) w
publish_write c q Root w law l = record { layout = refl; here = l.entry.1; others = others }
  where
    others : (other : Location) → other ≢ RootWord → word_at (after c q (Publish Root w)) other ≡ word_at c other
    others Epoch ne = refl
    others RootWord ne = absurd (ne refl)
    others AnchorWord ne = refl
    others (PinOf p) ne = refl
    others (NodeWord n zero) ne = next_state (c.lock n) c.past.now q (is_linked (next_tree c Root w) (a_node n)) (c.fate (a_node n))
    others (NodeWord n (suc o)) ne = refl
    others (LeafWord n zero) ne = next_state None c.past.now q (is_linked (next_tree c Root w) (a_leaf n)) (c.fate (a_leaf n))
    others (LeafWord n (suc o)) ne = refl
publish_write c q (Slot n j) w law l =
    stored_write c q (Slot n j) w (a_node n) (26 + j) (omega arith) (let x = (law.records.sized (a_node n)).0 in let y = l.locked.1 in omega arith) refl (λ i. refl)
publish_write c q (Value m) w law l =
    stored_write c q (Value m) w (a_leaf m) 1 (omega arith) (let x = (law.records.sized (a_leaf m)).0 in omega arith) refl (λ i. refl)

-- A legal step changes its own word alone, as `writes` says.
pub step_writes : (c : Core) (q : ℕ) (act : Act) → IsAtomic act → IsLawful c → Legal c q act → IsWrite c (after c q act) (location_of q act) (writes act (word_at c (location_of q act)))
step_writes c q (Claim r found) atomic law l = claim_write c q r (c.fate r) refl
step_writes c q (Fill r offset w) atomic law (a, b) = go r b.2 (law.records.sized r)
  where
    go : (r : Rec) → IsOffset r offset → Rattle.rowex_core.specs.Cores.IsSized r (c.words r) → IsWrite c (record c { words = with_word c.words r offset w }) (word_of r offset) w
    go (a_node n) h s = fill_write c (a_node n) offset w h.0 (let x = s.0 in let y = h.1 in omega arith)
    go (a_leaf n) h s = fill_write c (a_leaf n) offset w h.0 (let x = s.0 in let y = h.1 in omega arith)
step_writes c q (Ready r) atomic law (a, b) = fate_write c r (ReadyBy q) 2 (ap (λ z. state_word (lock_tag z)) (free r b.1))
  where
    free : (r : Rec) → c.fate r ≡ Held q → lock_of c r ≡ None
    free (a_leaf n) e = refl
    free (a_node n) e = go (c.lock n) refl
      where
        go : (o : Option ℕ) → c.lock n ≡ o → o ≡ None
        go None x = refl
        go (Some p) x = absurd (subst (IsLockable p) e (law.core.locked n p x))
step_writes c q (Release r) atomic law l = fate_write c r Free 0 refl
step_writes c q (LoadRef spot w) atomic law l = nothing c (spot_word spot) _ refl
step_writes c q (LoadFixed r offset w) atomic law l = nothing c (word_of r offset) _ refl
step_writes c q (Lock Anchor found) atomic law l = anchored_write c q c.anchor refl
step_writes c q (Lock (NodeTarget n) found) atomic law (a, b) = lock_exchange c q n found b.1 b.2
step_writes c q (Unlock Anchor) atomic law l = anchor_write c None 2 refl
step_writes c q (Unlock (NodeTarget n)) atomic law (a, b) = lock_write c n None 2 (ap (λ z. state_word (tag_of None z)) b.2.1)
step_writes c q (Publish spot w) atomic law (a, b) = publish_write c q spot w law (legal_publish c q spot w law b)
step_writes c q (Mark r epoch) atomic law (a, b) = subst (λ f. IsWrite c (record c { shared = marked c.shared r epoch f }) (word_of r 0) (8 * epoch + 4)) (sym b.2.2) (mark_write c r b.2.0 b.2.1 epoch)
step_writes c q (LoadEpoch w) atomic law l = round_write c q _ Epoch _ refl
step_writes c q (Advance expected found) atomic law l = advance_write c expected
step_writes c q (SetPin w) atomic law l = pin_write c q _ w refl
step_writes c q ClearPin atomic law l = pin_write c q None 0 refl
step_writes c q (LoadPin o w) atomic law l = round_write c q _ (PinOf o) _ refl
step_writes c q (LoadState r w) atomic law l = nothing c (word_of r 0) _ refl
step_writes c q (GiveBack r epoch found) atomic law l = give_back_write c r epoch (c.fate r) refl
step_writes c q (Load load) atomic law l = absurd atomic

-- The word is in the table.

any_state : (layout : Layout) (r : Rec) → HasRecord layout r → IsInTable layout (word_of r 0)
any_state layout (a_node n) h = (h, omega arith)
any_state layout (a_leaf n) h = (h, omega (arith, size_fits layout n))

pub in_table : (c : Core) (q : ℕ) (act : Act) → Legal c q act → IsInTable c.layout (location_of q act)
in_table c q (Claim r found) (a, b) = any_state c.layout r b.0
in_table c q (Fill (a_node n) offset w) (a, b) = (b.0, b.2.1)
in_table c q (Fill (a_leaf n) offset w) (a, b) = (b.0, b.4)
in_table c q (Ready r) (a, b) = any_state c.layout r b.0
in_table c q (Release r) (a, b) = any_state c.layout r b.0
in_table c q (LoadRef Root w) l = tt
in_table c q (LoadRef (Slot n j) w) (a, b) = (b.0, let x = b.1 in omega arith)
in_table c q (LoadRef (Value l) w) (a, b) = (b.0, omega (arith, size_fits c.layout l))
in_table c q (LoadFixed (a_node n) offset w) (a, b) = (b.0, let x = b.1.1 in omega arith)
in_table c q (LoadFixed (a_leaf n) offset w) (a, b) = (b.0, b.3)
in_table c q (Lock Anchor found) l = tt
in_table c q (Lock (NodeTarget n) found) (a, b) = (b.0, omega arith)
in_table c q (Unlock Anchor) l = tt
in_table c q (Unlock (NodeTarget n)) (a, b) = (b.0, omega arith)
in_table c q (Publish Root w) l = tt
in_table c q (Publish (Slot n j) w) (a, b) = (b.locked.0, let x = b.locked.1 in omega arith)
in_table c q (Publish (Value l) w) (a, b) = (b.0.0, omega (arith, size_fits c.layout l))
in_table c q (Mark r epoch) (a, b) = any_state c.layout r b.0
in_table c q (LoadEpoch w) l = tt
in_table c q (Advance expected found) l = tt
in_table c q (SetPin w) (a, b) = a
in_table c q ClearPin (a, b) = a
in_table c q (LoadPin o w) (a, b) = b.0
in_table c q (LoadState r w) (a, b) = any_state c.layout r b.0
in_table c q (GiveBack r epoch found) (a, b) = any_state c.layout r b.0
in_table c q (Load load) l = tt

-- The words of the table show the core after the step.
shows_after : (c d : Core) (location : Location) (w : ℕ) (words : List ℕ) → IsWrite c d location w → IsInTable c.layout location → Shows c words → Shows d (set words (address c.layout location) w)
shows_after c d location w words x inside shows = record {
  size = length-set words (address c.layout location) w ∙ (shows.size ∙ ap word_count (sym x.layout));
  each = λ other h. go other (subst (λ z. IsInTable z other) x.layout h) (cases_Bool (eqb (address c.layout other) (address c.layout location)));
}
  where
    go : (other : Location) → IsInTable c.layout other → ((eqb (address c.layout other) (address c.layout location) ≡ true) ⊎ (eqb (address c.layout other) (address c.layout location) ≡ false)) →
        get_or (set words (address c.layout location) w) (address d.layout other) 0 ≡ word_at d other
    go other h (inl e) =
        let same : other ≡ location = same_location c.layout other location h inside (eqb-true _ _ e) in
        ap (λ z. get_or (set words (address c.layout location) w) (address z other) 0) x.layout ∙
        (ap (λ z. get_or (set words (address c.layout location) w) (address c.layout z) 0) same ∙
        (get_or-set_same words (address c.layout location) w 0 (let a = address-below c.layout location inside in let b = shows.size in omega arith) ∙
        (sym x.here ∙ ap (word_at d) (sym same))))
    go other h (inr e) =
        ap (λ z. get_or (set words (address c.layout location) w) (address z other) 0) x.layout ∙
        (get_or-set_other words (address c.layout location) (address c.layout other) w 0 (λ z. false≢true (sym e ∙ eq-eqb _ _ z)) ∙
        (shows.each other h ∙ sym (x.others other (λ z. false≢true (sym e ∙ eq-eqb _ _ (ap (address c.layout) z))))))

-- A legal step changes one word, and its words show the core after it.
pub writes_one : (c : Core) (q : ℕ) (act : Act) (words : List ℕ) → IsAtomic act → IsLawful c → Legal c q act → Shows c words →
    Shows (after c q act) (set words (address c.layout (location_of q act)) (writes act (word_at c (location_of q act))))
writes_one c q act words atomic law l shows = shows_after c (after c q act) (location_of q act) _ words (step_writes c q act atomic law l) (in_table c q act l) shows
