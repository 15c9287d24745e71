-- A leaf's words compared with those of a key, while they are loaded.
use Rattle.rowex_reading.proofs.Common.{◌≡◌, ◌≢◌, inl, inr, ◌⊎◌, ℕ, ◌+◌, ◌<◌, ◌≤◌, length, get_or, set, None, refl, ap, sym, ◌∙◌, subst, arith, lit<, cases_eq, cases_lt, get_or-set_same, get_or-set_other, get_or_past, set-get_or, Leaf, Layout, LEAF_FIELDS, IsKey, HasLeafWords, leaf_words, words_for, words_of_key, same_leaf, leaf_word_past, up_to_key_before, Key, a_leaf, LoadRef, LoadFixed, Value, Known, IsEvent, IsPacked, silent, IsRead}
use Rattle.std.proofs.Math.Dec.{lit≤}
use Rattle.rowex_reading.specs.Possible.{IsPossible}
use Rattle.rowex_reading.specs.Seen.{seen, AreLoaded, Sure, IsLedTo, IsCompared}
use Rattle.rowex_reading.proofs.reading.Leafing.{leaf_packed, leaf_read, leaf_stood}
use Rattle.rowex_reading.proofs.Seen.Later.{event_later}
use Rattle.rowex_reading.proofs.Seen.{later_reflexive, later_trans, since_later, sure_later}
use Rattle.rowex_reading.proofs.Seen.Valuing.{StoodWithKey, both_read, first_word, keyed_stable, length_word, same_words, value_read, words_long, words_with}
use Rattle.rowex_reading.proofs.reading.Wording.{IsKeyWord, from_first, led_stood, next_key_word, no_key_word, one_loaded, word_now}

-- one of these, or this one
abbrev IsThisToo : (ℕ → Type 0) → ℕ → ℕ → Type 0
IsThisToo IsLoaded p o = (IsLoaded o × (o ≢ p)) ⊎ (o ≡ p)

module _ (layout : Layout) (k : Known) (n : ℕ) (key : Key) (m : ℕ) (led : IsLedTo k m (Leaf n)) where
  -- one more is the key's
  pub next_same : (j i : Known) (p w : ℕ) → AreLoaded k j (a_leaf n) 0 (IsKeyWord p) (words_with key) → p < LEAF_FIELDS → IsEvent layout (LoadFixed (a_leaf n) (p + 1) w) silent j i →
      w ≡ get_or (words_with key) p 0 → AreLoaded k i (a_leaf n) 0 (IsKeyWord (p + 1)) (words_with key)
  next_same j i p w loaded low event is =
      subst (AreLoaded k i (a_leaf n) 0 (IsKeyWord (p + 1))) (ap (set (words_with key) p) is ∙ set-get_or (words_with key) p 0)
      (next_key_word layout k j i n p w (words_with key) loaded (omega (arith, low, words_long key)) event m (led_stood k m (Leaf n) led))

  -- the first is
  pub first_same : (i : Known) (w : ℕ) → IsEvent layout (LoadFixed (a_leaf n) 2 w) silent k i → w ≡ length key → AreLoaded k i (a_leaf n) 0 (IsKeyWord 2) (words_with key)
  first_same i w event is = next_same k i 1 w (no_key_word k k n (words_with key) (later_reflexive k)) (omega arith) event (is ∙ sym (length_word key))

  -- one is not: the leaf has another key
  pub other_key : (j i : Known) (p w : ℕ) (IsLoaded : ℕ → Type 0) → AreLoaded k j (a_leaf n) 0 IsLoaded (words_with key) → 1 ≤ p → p < LEAF_FIELDS → (p ≡ 1) ⊎ (IsLoaded 1 × (p < 2 + words_of_key (length key))) →
      IsEvent layout (LoadFixed (a_leaf n) (p + 1) w) silent j i → w ≢ get_or (words_with key) p 0 → Sure i (λ s. IsCompared s m n key None)
  unfolding IsPacked
  other_key j i p w IsLoaded loaded some low used event differs c lawful known = go (leaf_packed k i now.later n m led c lawful known)
    where
      now : AreLoaded k i (a_leaf n) 0 (IsThisToo IsLoaded p) (set (words_with key) p w)
      now = one_loaded layout k j i (a_leaf n) 0 IsLoaded (IsThisToo IsLoaded p) p w (words_with key) loaded (omega (arith, low, words_long key)) (λ o is. is) (from_first p event) m (led_stood k m (Leaf n) led)

      word : (o : ℕ) → IsThisToo IsLoaded p o → 1 ≤ o → o < LEAF_FIELDS → o + 1 < words_for (get_or (c.words (a_leaf n)) 1 0) → get_or (set (words_with key) p w) o 0 ≡ get_or (c.words (a_leaf n)) o 0
      word o is past inside before = word_now k i (a_leaf n) (IsThisToo IsLoaded p) (set (words_with key) p w) now m (led_stood k m (Leaf n) led) c lawful known o is (omega arith, omega (arith, inside)) before

      before_end : (p ≡ 1) ⊎ (p ≢ 1) → (p ≡ 1) ⊎ (IsLoaded 1 × (p < 2 + words_of_key (length key))) → p + 1 < words_for (get_or (c.words (a_leaf n)) 1 0)
      before_end (inl first) used = omega (arith, first)
      before_end (inr later) (inl first) = absurd (later first)
      before_end (inr later) (inr (there, inside)) =
          let size : length key ≡ get_or (c.words (a_leaf n)) 1 0 =
          sym (get_or-set_other (words_with key) p 1 w 0 (λ e. later (sym e)) ∙ length_word key) ∙ word 1 (inl (there, (λ e. later (sym e)))) (lit≤ tt) (lit< tt) (omega arith) in
          omega (arith, inside, size)

      here : p + 1 < words_for (get_or (c.words (a_leaf n)) 1 0)
      here = before_end (cases_eq p 1) used

      go : IsPacked (a_leaf n) (c.words (a_leaf n)) → IsCompared (seen c i) m n key None
      go (pair, has, same) = let stood = leaf_stood k i now.later n m led c lawful known pair has same in (pair.0, stood.0, stood.1, another)
        where
          there : w ≡ get_or (leaf_words pair) p 0
          there = sym (get_or-set_same (words_with key) p w 0 (omega (arith, low, words_long key))) ∙
              (word p (inr refl) some low here ∙ (sym (up_to_key_before (c.words (a_leaf n)) p (omega (arith, here)) low) ∙ ap (λ l. get_or l p 0) (sym same)))

          another : key ≢ pair.0
          another is = differs (there ∙ (same_words pair.0 pair.1 p some low ∙ ap (λ z. get_or (words_with z) p 0) (sym is)))

  -- all are: it has the key, and the value that was loaded then
  pub same_key : (j i : Known) (p value : ℕ) → IsKey key → IsPossible layout j → AreLoaded k j (a_leaf n) 0 (IsKeyWord p) (words_with key) → p ≡ 2 + words_of_key (length key) →
      IsEvent layout (LoadRef (Value n) value) silent j i → Sure i (λ s. IsRead s m n key value)
  same_key j i p value is possible loaded all event =
      let now = event_later event tt in
      both_read i m n key value (since_later (later_trans loaded.later now) led.0) (sure_later (keyed_stable m n key) now keyed) (value_read layout k j i n value loaded.later event m led)
    where
      has : HasLeafWords (key, 0)
      has = record { key = is; value = lit< tt }

      rest : (o : ℕ) → p ≤ o → (o < LEAF_FIELDS) ⊎ (LEAF_FIELDS ≤ o) → get_or (words_with key) o 0 ≡ 0
      rest o past (inl low) = leaf_word_past (key, 0) o (omega (arith, past, all)) low
      rest o past (inr high) = get_or_past (words_with key) o 0 (omega (arith, high, words_long key))

      keyed : Sure j (λ s. StoodWithKey s m n key)
      keyed = leaf_read layout k j n p (words_with key) possible loaded (all ∙ ap (λ z. 2 + words_of_key z) (sym (length_word key))) (first_word key)
          (λ o past. rest o past (cases_lt o LEAF_FIELDS)) (words_long key) m led (key, 0)
          record { is_value = has; spells = refl; only = λ other its same. same_leaf (key, 0) other has its (sym same) }
