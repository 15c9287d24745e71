-- What filling a record comes to, making it ready, and giving it up.
use Rattle.rowex_records.proofs.Common.{◌≡◌, ◌≢◌, ℕ, zero, suc, ◌+◌, ◌-◌, ◌<◌, ◌≤◌, List, [], ◌∷◌, ◌++◌, length, map, take, set, get_or, Bool, true, false, if◌then◌else◌, refl, sym, ap, subst, ◌∙◌, arith, add-one, get_or-take, All, Contains, not, length-set, take_all, take_more, take_more_set, All-head, All-tail, All-weaker, HasLeafWords, leaf_words, up_to_key, words_for, leaf_words_parts, Rec, same_rec, same_rec_true, Ready, Release, Event, Holding, Owned, Known, Core, IsLawful, word_count_of, IsOwned, Knows, with_filled_word, knows_all, OwnsAs, Steps, TableView, SeatView}
use Rattle.record_words.specs.declared.TheConstants.{LEAF_FIELDS}
use Rattle.record_words.proofs.UpToKey.{spells_up_to_key}
use Rattle.rowex_core.proofs.Lists.{kept}
use Rattle.rowex_core.proofs.Having.{other_rec}
use Rattle.rowex_records.specs.Records.{fill_with, stored, stored_in, Readies, GivesUp}
use Rattle.rowex_records.proofs.Claims.Making.{owns_one}

-- Lists of records

-- two changes, one after the other
pub twice : (f g h : Owned → Owned) → ((o : Owned) → f (g o) ≡ h o) → (own : List Owned) → map f (map g own) ≡ map h own
twice f g h e [] = refl
twice f g h e (o ∷ own) = λ i. e o i ∷ twice f g h e own i

-- a change is what it is to each
pub each_mapped : (P : Owned → Type 0) (f g : Owned → Owned) → ((o : Owned) → P o → f o ≡ g o) → (own : List Owned) → All P own → map f own ≡ map g own
each_mapped P f g e [] all = refl
each_mapped P f g e (o ∷ own) all = λ i. e o (All-head P o own all) i ∷ each_mapped P f g e own (All-tail P o own all) i

passes_beside : (r s : Rec) → s ≢ r → not (same_rec s r) ≡ true
passes_beside r s ne = rw (other_rec s r ne) refl

-- Filling, word by word

stored_none : (r : Rec) (words : List ℕ) (o : Owned) → stored_in r words 0 o ≡ o
stored_none r words o = go (same_rec o.rec r)
  where
    go : (b : Bool) → (if b then record o { words = o.words } else o) ≡ o
    go true = refl
    go false = refl

pub stored_nothing : (r : Rec) (words : List ℕ) (own : List Owned) → map (stored_in r words 0) own ≡ own
stored_nothing r words [] = refl
stored_nothing r words (o ∷ own) = λ i. stored_none r words o i ∷ stored_nothing r words own i

pub stored_more : (r : Rec) (words : List ℕ) (i : ℕ) (o : Owned) → with_filled_word r (i + 1) (get_or words i 0) (stored_in r words i o) ≡ stored_in r words (i + 1) o
stored_more r words i o = rw (add-one i) (go (same_rec o.rec r) refl)
  where
    at : suc i - 1 ≡ i
    at = omega arith

    go : (b : Bool) → same_rec o.rec r ≡ b → with_filled_word r (suc i) (get_or words i 0) (stored_in r words i o) ≡ stored_in r words (suc i) o
    go true e = rw e (rw e (rw at refl))
    go false e = rw e (rw e refl)

stored_first : (words : List ℕ) (i : ℕ) (old : List ℕ) → length old ≡ length words → i ≤ length words → (length (stored words i old) ≡ length words) × (take i (stored words i old) ≡ take i words)
stored_first words zero old size low = (size, refl)
stored_first words (suc i) old size low =
    let before = stored_first words i old size (omega arith) in
    let more : take (i + 1) (set (stored words i old) i (get_or words i 0)) ≡ take (i + 1) words =
    take_more_set (stored words i old) i (get_or words i 0) (let z = before.0 in omega arith) ∙ (ap (λ l. l ++ get_or words i 0 ∷ []) before.1 ∙ sym (take_more words i 0 (omega arith))) in
    (length-set (stored words i old) i (get_or words i 0) ∙ before.0, subst (λ n. take n (set (stored words i old) i (get_or words i 0)) ≡ take n words) (add-one i) more)

stored_all : (words old : List ℕ) → length old ≡ length words → stored words (length words) old ≡ words
stored_all words old size =
    let all = stored_first words (length words) old size (omega arith) in
    let long = all.0 in
    sym (take_all (length words) (stored words (length words) old) (omega arith)) ∙ (all.1 ∙ take_all (length words) words (omega arith))

stored_word : (words : List ℕ) (i j : ℕ) (old : List ℕ) → length old ≡ length words → i ≤ length words → j < i → get_or (stored words i old) j 0 ≡ get_or words j 0
stored_word words i j old size low before =
    sym (get_or-take i (stored words i old) j 0 before) ∙ (ap (λ l. get_or l j 0) (stored_first words i old size low).1 ∙ get_or-take i words j 0 before)

-- where a leaf's words are stored up to the end of its key, they are its words up to there, whatever was there before
pub leaf_stored : (leaf : List ℕ × ℕ) (old : List ℕ) → HasLeafWords leaf → length old ≡ LEAF_FIELDS → leaf_words leaf ≡ up_to_key (stored (leaf_words leaf) (words_for (length leaf.0) - 1) old)
leaf_stored leaf old has size =
    let parts = leaf_words_parts leaf (leaf_words leaf) refl in
    let short = has.key.short in
    let word : (j : ℕ) → j < words_for (length leaf.0) - 1 → get_or (stored (leaf_words leaf) (words_for (length leaf.0) - 1) old) j 0 ≡ get_or (leaf_words leaf) j 0 =
    λ j before. stored_word (leaf_words leaf) (words_for (length leaf.0) - 1) j old (size ∙ sym parts.count) (omega (arith, short, parts.count)) before in
    spells_up_to_key leaf (stored (leaf_words leaf) (words_for (length leaf.0) - 1) old)
    (word 0 (omega arith) ∙ parts.value) (word 1 (omega arith) ∙ parts.size)
    (λ j before few. word (2 + j) (omega (arith, before)) ∙ parts.bytes j few)

-- each record has its number of words
abbrev pub AreSized : List Owned → Type 0
AreSized own = All (λ o. length o.words ≡ word_count_of o.rec) own

pub own_sized : (c : Core) (k : Known) → IsLawful c → Knows c k → AreSized k.own
own_sized c k lawful known =
    All-weaker (IsOwned k.pass c) (λ o. length o.words ≡ word_count_of o.rec) (λ o is. ap length (sym is.1) ∙ (lawful.records.sized o.rec).0) k.own (knows_all c k known).own

pub filled_with : (r : Rec) (words : List ℕ) → length words ≡ word_count_of r → (o : Owned) → length o.words ≡ word_count_of o.rec → stored_in r words (length words) o ≡ fill_with r words o
filled_with r words size o sized = go (same_rec o.rec r) refl
  where
    go : (b : Bool) → same_rec o.rec r ≡ b → stored_in r words (length words) o ≡ fill_with r words o
    go true e = rw e (ap (λ l. record o { words = l }) (stored_all words o.words (sized ∙ (ap word_count_of (same_rec_true o.rec r e) ∙ sym size))))
    go false e = rw e refl

module _ {G : Type 0} (table : TableView) (becomes : G → Event → G → Type 0) where
  pub gives_up_keeps : (r s : Rec) (h : Holding) (words : List ℕ) (a b : SeatView × G) → s ≢ r → GivesUp table becomes r a b → OwnsAs a.0.known s h words → OwnsAs b.0.known s h words
  gives_up_keeps r s h words a b ne gives has =
      let o : Owned = record { rec = s; holding = h; words = words } in
      subst (λ l. Contains l o) (sym gives.own) (kept (λ x. not (same_rec x.rec r)) a.0.known.own o (passes_beside r s ne) has)

  -- Making ready, and giving up

  pub readies_of : (r : Rec) (a b : SeatView × G) → Steps table becomes (Ready r) a b → Readies table becomes r a b
  readies_of r a b step = record { does = owns_one table becomes (Ready r) a b tt step; own = ap (λ (z : Known). z.own) step.event.learned_is }

  pub gives_up : (r : Rec) (a b : SeatView × G) → Steps table becomes (Release r) a b → GivesUp table becomes r a b
  gives_up r a b step = record { does = owns_one table becomes (Release r) a b tt step; own = ap (λ (z : Known). z.own) step.event.learned_is }

-- One record among those of a list

-- what changes just a record that is not among them leaves them
pub left_beside : (r : Rec) (change : Owned → Owned) → ((o : Owned) → same_rec o.rec r ≡ false → change o ≡ o) → (own : List Owned) → All (λ o. o.rec ≢ r) own → map change own ≡ own
left_beside r change just [] apart = refl
left_beside r change just (o ∷ own) apart =
    λ i. just o (other_rec o.rec r (All-head (λ x. x.rec ≢ r) o own apart)) i ∷ left_beside r change just own (All-tail (λ x. x.rec ≢ r) o own apart) i
