-- Each legal step of one pass leaves to another what it knows.
use Rattle.rowex_core.proofs.Common.{◌≡◌, ◌≢◌, ◌⊎◌, inl, inr, ℕ, suc, List, [], ◌∷◌, get_or, true, false, eqb, Option, Some, None, refl, sym, ap, ◌∙◌, subst, arith, le_refl, eqb-true, cases_Bool, All-from_recursion, OthersGoOn, Item, Rec, a_node, a_leaf, Pin, Round, items_of, key_order, Fate, Free, Held, ReadyBy, InTree, Unlinked, Marked, IsLockable, with_fate, with_lock, with_pin, with_round, unlocked, with_anchor, version_old, state_word, one_locker, IsGrown, others_none}
use Rattle.std.specs.declared.cmp.Ordering.{Ordering}
use Rattle.std.specs.declared.cmp.Ordering.TheVariants.{Less, Equal, Greater}
use Rattle.rowex_core.specs.declared.event.Act.{Act}
use Rattle.rowex_core.specs.declared.event.Act.TheVariants.{Claim, Fill, Ready, Release, LoadRef, LoadFixed, Lock, Unlock, Publish, Mark, LoadEpoch, Advance, SetPin, ClearPin, LoadPin, LoadState, GiveBack, Load}
use Rattle.rowex_core.specs.declared.event.Target.TheVariants.{Anchor, Node as NodeTarget}
use Rattle.rowex_core.specs.declared.event.Spot.{Spot}
use Rattle.rowex_core.specs.declared.event.Spot.TheVariants.{Root, Slot, Value}
use Rattle.rowex_core.specs.Cores.{Core, IsLawful, bare}
use Rattle.rowex_core.specs.Words.{lock_tag, tag_of, state_at, record_word}
use Rattle.rowex_core.specs.Events.{Legal, after, with_word, claimed, marked, given_back, anchored, stored_words, next_tree, next_change, IsLegalPublish, IsLockedAt, change_at, change_between, locked_where, advanced}
use Rattle.rowex_core.specs.Frames.{IsFrame}
use Rattle.rowex_core.specs.Sharing.{share, holding_of, is_by, is_in_tree, anchored_at}
use Rattle.rowex_core.proofs.Opening.{load_frame}
use Rattle.rowex_core.proofs.Cores.Publishing.{publish_share}
use Rattle.rowex_core.proofs.Cores.Valuing.{legal_publish, value_left}
use Rattle.rowex_core.proofs.Sharing.{same_share, same_fate, same_word, same_lock, same_unlocked, by_another}

-- nothing that pass q knows has changed
quiet : (q : ℕ) (c d : Core) → d.layout ≡ c.layout → d.past ≡ c.past → d.changes ≡ c.changes → share q d ≡ share q c →
    ((l : ℕ) → IsLockedAt c q (Value l) → record_word d (a_leaf l) 1 ≡ record_word c (a_leaf l) 1) → IsFrame q c d
quiet q c d layout past changes own values = record {
  layout = layout;
  past = subst (IsGrown c.past) (sym past) (record { longer = le_refl c.past.now; kept = λ i h. refl });
  changes = subst (OthersGoOn q c.changes) (sym changes) (others_none q c.changes);
  own = own;
  values = values;
}

unchanged : (q : ℕ) (c : Core) → IsFrame q c c
unchanged q c = quiet q c c refl refl refl refl (λ l h. refl)

-- the fate of a record that is neither q's nor in the tree, before or after
fate_frame : (c : Core) (q : ℕ) (r : Rec) (f g : Fate) → c.fate r ≡ g → is_in_tree g ≡ false → is_in_tree f ≡ false → holding_of q f ≡ holding_of q g → IsFrame q c (record c { shared = with_fate c.shared r f })
fate_frame c q r f g is before after e = quiet q c (record c { shared = with_fate c.shared r f }) refl refl refl
    (same_fate c q r f (ap is_in_tree is ∙ before) after (e ∙ ap (holding_of q) (sym is))) (λ l h. refl)

-- a word of a record that is neither q's nor in the tree
word_frame : (c : Core) (q : ℕ) (r : Rec) (offset w : ℕ) (g : Fate) → IsLawful c → c.fate r ≡ g → is_in_tree g ≡ false → holding_of q g ≡ None → IsFrame q c (record c { words = with_word c.words r offset w })
word_frame c q r offset w g law is out none =
    quiet q c _ refl refl refl (same_word c q r offset w (ap is_in_tree is ∙ out) (ap (holding_of q) is ∙ none)) (value_left c q r offset w law (ap is_in_tree is ∙ out))

-- the lock of a node, or of the anchor
lock_frame : (c : Core) (q n : ℕ) (o : Option ℕ) → is_by q o ≡ is_by q (c.lock n) → IsFrame q c (record c { shared = with_lock c.shared n o })
lock_frame c q n o e = quiet q c (record c { shared = with_lock c.shared n o }) refl refl refl (same_lock c q n o e) (λ l h. refl)

anchor_frame : (c : Core) (q : ℕ) (o : Option ℕ) → is_by q o ≡ is_by q c.anchor → IsFrame q c (record c { shared = with_anchor c.shared o })
anchor_frame c q o e = quiet q c _ refl refl refl (same_share (λ r. refl) (λ n. refl) (ap (anchored_at c.root) e) refl refl) (λ l h. refl)

-- the pin or the round of another
pin_frame : (c : Core) (p q : ℕ) (o : Option Pin) → p ≢ q → IsFrame q c (record c { shared = with_pin c.shared p o })
pin_frame c p q o ne = quiet q c _ refl refl refl (same_share (λ r. refl) (λ n. refl) refl (rw (by_another (λ e. ne (sym e))) refl) refl) (λ l h. refl)

round_frame : (c : Core) (p q : ℕ) (o : Round) → p ≢ q → IsFrame q c (record c { shared = with_round c.shared p o })
round_frame c p q o ne = quiet q c _ refl refl refl (same_share (λ r. refl) (λ n. refl) refl refl (rw (by_another (λ e. ne (sym e))) refl)) (λ l h. refl)

-- the epoch
pub advance_frame : (c : Core) (q expected : ℕ) → IsFrame q c (record c { shared = advanced c.shared expected })
advance_frame c q expected = elim (cases_Bool (eqb c.epoch expected)) [ inl e ↦ rw e (quiet q c _ refl refl refl refl (λ l h. refl)) | inr e ↦ rw e (unchanged q c) ]

-- another has it
not_by : {p q : ℕ} (o : Option ℕ) → p ≢ q → o ≡ Some p → is_by q o ≡ false
not_by {p} {q} o ne e = ap (is_by q) e ∙ by_another ne

claim_frame : (c : Core) (p q : ℕ) (r : Rec) (f : Fate) → p ≢ q → c.fate r ≡ f → IsFrame q c (record c { shared = claimed c.shared p r f })
claim_frame c p q r Free ne e = fate_frame c q r (Held p) Free e refl refl (rw (by_another ne) refl)
claim_frame c p q r _ ne e = unchanged q c

pub give_back_frame : (c : Core) (q : ℕ) (r : Rec) (epoch : ℕ) (f : Fate) → c.fate r ≡ f → IsFrame q c (record c { shared = given_back c.shared r epoch f })
give_back_frame c q r epoch (Marked s l m) e = elim (cases_Bool (eqb m epoch)) [ inl x ↦ rw x (fate_frame c q r Free (Marked s l m) e refl refl refl) | inr x ↦ rw x (unchanged q c) ]
give_back_frame c q r epoch _ e = unchanged q c

mark_frame : (c : Core) (p q : ℕ) (r : Rec) (epoch since last : ℕ) → p ≢ q → c.fate r ≡ Unlinked since last p → IsFrame q c (record c { shared = marked c.shared r epoch (c.fate r) })
mark_frame c p q r epoch since last ne e = subst (λ f. IsFrame q c (record c { shared = marked c.shared r epoch f })) (sym e) (quiet q c _ refl refl refl
    (same_fate (record c { shared = unlocked c.shared r }) q r (Marked since last epoch) (ap is_in_tree e) refl (rw (e, by_another ne) refl) ∙ same_unlocked c q r (ap is_in_tree e)) (λ l h. refl))

anchored_frame : (c : Core) (p q : ℕ) (o : Option ℕ) → p ≢ q → c.anchor ≡ o → IsFrame q c (record c { shared = anchored c.shared p o })
anchored_frame c p q None ne e = anchor_frame c q (Some p) (by_another ne ∙ ap (is_by q) (sym e))
anchored_frame c p q (Some i) ne e = unchanged q c

change_at_pass : (q : ℕ) (o : Ordering) (x y : Item) → (change_at q o x y).pass ≡ q
change_at_pass q Less x y = refl
change_at_pass q Equal x y = refl
change_at_pass q Greater x y = refl

pub change_pass : (q : ℕ) (xs ys : List Item) → (change_between q xs ys).pass ≡ q
change_pass q [] [] = refl
change_pass q [] (y ∷ ys) = refl
change_pass q (x ∷ xs) [] = refl
change_pass q (x ∷ xs) (y ∷ ys) = go (change_pass q xs ys) (cases_Bool (eqb x.number y.number))
  where
    go : (change_between q xs ys).pass ≡ q → ((eqb x.number y.number ≡ true) ⊎ (eqb x.number y.number ≡ false)) → (change_between q (x ∷ xs) (y ∷ ys)).pass ≡ q
    go h (inl e) = rw e h
    go h (inr e) = rw e (change_at_pass q (key_order x.key y.key) x y)

pub next_change_pass : (c : Core) (q : ℕ) (spot : Spot) (w : ℕ) → (next_change c q spot w).pass ≡ q
next_change_pass c q Root w = change_pass q (items_of (c.past.version c.past.now)) (items_of (next_tree c Root w))
next_change_pass c q (Slot n j) w = change_pass q (items_of (c.past.version c.past.now)) (items_of (next_tree c (Slot n j) w))
next_change_pass c q (Value l) w = refl

-- a publish
module _ (c : Core) (p q : ℕ) (spot : Spot) (w : ℕ) (ne : p ≢ q) (law : IsLawful c) (l : IsLegalPublish c p spot w) where
  pub publish_frame : IsFrame q c (after c p (Publish spot w))
  publish_frame = record {
    layout = refl;
    past = record { longer = omega arith; kept = λ i h. version_old c.past.version (suc c.past.now) (next_tree c spot w) i (omega arith) };
    changes = (next_change c p spot w ∷ [], refl, All-from_recursion (λ z. z.pass ≢ q) (next_change c p spot w ∷ []) ((λ e. ne (sym (next_change_pass c p spot w) ∙ e)), tt));
    own = publish_share c p spot w law l q ne;
    values = values spot l.locked;
  }
    where
      values : (s : Spot) → IsLockedAt c p s → (m : ℕ) → IsLockedAt c q (Value m) → get_or (stored_words c s w (a_leaf m)) 0 0 ≡ get_or (c.words (a_leaf m)) 0 0
      values Root h m g = refl
      values (Slot n j) h m g = refl
      values (Value n) h m g = elim (cases_Bool (eqb m n)) [
        | inl e ↦ absurd (ne (one_locker (bare c) law.core.state p q n h.1 (subst (λ z. IsLockedAt c q (Value z)) (eqb-true m n e) g).1))
        | inr e ↦ rw e refl
      ]

-- what a locked record's state word is
locked_state : (o : Option ℕ) (f : Fate) (q : ℕ) → o ≡ Some q → IsLockable q f → state_word (tag_of o f) ≡ 3
locked_state o Free q e h = absurd h
locked_state o (Held p) q e h = absurd h
locked_state o (ReadyBy p) q e h = absurd h
locked_state o (InTree s) q e h = ap (λ z. state_word (lock_tag z)) e
locked_state o (Unlinked s l p) q e h = ap (λ z. state_word (lock_tag z)) e
locked_state o (Marked s l p) q e h = absurd h

-- a node whose state word is 2 is not locked
pub unlocked_node : (c : Core) → IsLawful c → (n : ℕ) → state_at c (a_node n) ≡ 2 → c.lock n ≡ None
unlocked_node c law n two = go (c.lock n) refl
  where
    go : (o : Option ℕ) → c.lock n ≡ o → o ≡ None
    go None e = refl
    go (Some q) e = let three = locked_state (c.lock n) (c.fate (a_node n)) q e (law.core.locked n q e) in absurd (omega (arith, two, three))

-- A legal step of pass p leaves to another pass what it knows.
pub frame : (c : Core) (p q : ℕ) (act : Act) → p ≢ q → IsLawful c → Legal c p act → IsFrame q c (after c p act)
frame c p q (Claim r found) ne law l = claim_frame c p q r (c.fate r) ne refl
frame c p q (Fill r offset w) ne law (a, b) = word_frame c q r offset w (Held p) law b.1 refl (rw (by_another ne) refl)
frame c p q (Ready r) ne law (a, b) = fate_frame c q r (ReadyBy p) (Held p) b.1 refl refl (rw (by_another ne) refl)
frame c p q (Release r) ne law (a, b) = fate_frame c q r Free (Held p) b.1 refl refl (rw (by_another ne) refl)
frame c p q (LoadRef spot w) ne law l = unchanged q c
frame c p q (LoadFixed r offset w) ne law l = unchanged q c
frame c p q (Lock Anchor found) ne law l = anchored_frame c p q c.anchor ne refl
frame c p q (Lock (NodeTarget n) found) ne law (a, b) = go (cases_Bool (eqb found 2))
  where
    go : ((eqb found 2 ≡ true) ⊎ (eqb found 2 ≡ false)) → IsFrame q c (record c { shared = locked_where c.shared n p found })
    go (inl e) = rw e (lock_frame c q n (Some p) (by_another ne ∙ ap (is_by q) (sym (unlocked_node c law n (sym b.1 ∙ eqb-true found 2 e)))))
    go (inr e) = rw e (unchanged q c)
frame c p q (Unlock Anchor) ne law (a, b) = anchor_frame c q None (sym (not_by c.anchor ne b))
frame c p q (Unlock (NodeTarget n)) ne law (a, b) = lock_frame c q n None (sym (not_by (c.lock n) ne b.1))
frame c p q (Publish spot w) ne law (a, b) = publish_frame c p q spot w ne law (legal_publish c p spot w law b)
frame c p q (Mark r epoch) ne law (a, b) = mark_frame c p q r epoch b.2.0 b.2.1 ne b.2.2
frame c p q (LoadEpoch w) ne law l = round_frame c p q _ ne
frame c p q (Advance expected found) ne law l = advance_frame c q expected
frame c p q (SetPin w) ne law l = pin_frame c p q _ ne
frame c p q ClearPin ne law l = pin_frame c p q None ne
frame c p q (LoadPin o w) ne law l = round_frame c p q _ ne
frame c p q (LoadState r w) ne law l = unchanged q c
frame c p q (GiveBack r epoch found) ne law l = give_back_frame c q r epoch (c.fate r) refl
frame c p q (Load load) ne law (a, (e, b)) = subst (λ (z : Core). IsFrame q z (after z p (Load load))) (sym e) (load_frame c.layout p load.now q ne)
