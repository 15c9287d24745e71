-- The words of a record, loaded one after the other.
use Rattle.rowex_reading.proofs.Common.{◌≡◌, ◌≢◌, inl, inr, ◌⊎◌, ⊎_elim, ℕ, ◌+◌, ◌-◌, ◌<◌, ◌≤◌, ◌++◌, List, length, length-append, get_or, set, take, Some, refl, sym, ◌∙◌, subst, arith, le_trans, zero-add, cases_lt, ext_get_or, get_or_append_left, get_or-append_right, get_or-set_same, get_or-set_other, length-take-le, Entry, Layout, leaf_words, words_for, leaf_words_parts, Tree, leaf, node, fork, Pin, Rec, a_node, a_leaf, IsRecord, rec_of, stands_grown, LoadFixed, Fixed, Known, Core, IsLawful, IsFixedOffset, Recalls, IsEvent, StoodBetween, IsPinnedSince, HasWordAt, record_word, silent, IsLater}
use Rattle.std.proofs.lemmas.List.{get_or-take}
use Rattle.rowex_reading.specs.Seen.{seen, AreLoaded, StoodWithWord, IsStood, Sure, IsLedTo}
use Rattle.rowex_reading.proofs.Seen.{later_reflexive, later_trans, recalls_before, sure_later, since_later, seen_within, stands_in, IsStable}
use Rattle.rowex_reading.proofs.Seen.Loading.{IsTaught, fixed_taught, taught_now, found_seen}
use Rattle.rowex_reading.proofs.Seen.Standing.{word_stays, later_word}

word_stable : (m : ℕ) (r : Rec) (offset w : ℕ) → IsStable (λ s. StoodWithWord s m r offset w)
word_stable m r offset w a b g (n, u, lo, hi, st, is) = (n, u, lo, le_trans hi g.longer, stands_grown a b g n r u hi st, is)

stood_later : (k j : Known) (m : ℕ) (r : Rec) → IsLater k j → IsStood k m r → IsStood j m r
stood_later k j m r later (pinned, sure) =
    (since_later later pinned, sure_later {P = λ s. StoodBetween s m s.now r} (λ a b g is. (is.0, is.1, is.2, le_trans is.3 g.longer, stands_grown a b g is.0 r is.1 is.3 is.4)) later sure)

pub led_stood : (k : Known) (m : ℕ) (e : Entry) → IsLedTo k m e → IsStood k m (rec_of e)
led_stood k m e led = (led.0, λ c lawful recalls. (let s = led.1 c lawful recalls in (s.0, s.1, s.2, s.3, s.4)))

pub none_loaded : (k : Known) (r : Rec) (before : ℕ) (words : List ℕ) → AreLoaded k k r before (λ o. o < 0) words
none_loaded k r before words = record { later = later_reflexive k; each = λ m led o low. absurd (omega arith) }

-- the event, of a record's words from the first on
pub from_first : {layout : Layout} {j i : Known} {r : Rec} {w : ℕ} (n : ℕ) → IsEvent layout (LoadFixed r (n + 1) w) silent j i → IsEvent layout (LoadFixed r (0 + n + 1) w) silent j i
from_first {layout} {j} {i} {r} {w} n = subst (λ z. IsEvent layout (LoadFixed r (z + 1) w) silent j i) (sym (zero-add n))

-- one word more
module _ (layout : Layout) (k j i : Known) (r : Rec) (before : ℕ) (IsLoaded IsNow : ℕ → Type 0) (n w : ℕ) (words : List ℕ) (so_far : AreLoaded k j r before IsLoaded words) (room : n < length words)
    (older : (o : ℕ) → IsNow o → (IsLoaded o × (o ≢ n)) ⊎ (o ≡ n)) (event : IsEvent layout (LoadFixed r (before + n + 1) w) silent j i) where
  is : (p : Pin) → j.pin ≡ Some p → IsTaught event.core (Fixed p.version event.core.past.now r (before + n + 1) w) j i
  is p pinned = fixed_taught layout j i p pinned r (before + n + 1) w event

  pub one_loaded : (m : ℕ) → IsStood k m r → AreLoaded k i r before IsNow (set words n w)
  one_loaded m stood = record {
    later = both;
    each = λ o from a now. word_at o from a (older a now);
  }
    where
      still : IsPinnedSince j m
      still = since_later so_far.later stood.0

      now : IsTaught event.core (Fixed still.0.version event.core.past.now r (before + n + 1) w) j i
      now = is still.0 still.1

      both : IsLater k i
      both = later_trans so_far.later now.later

      new_word : (o : ℕ) → IsStood k o r → Sure i (λ s. StoodWithWord s o r (before + n + 1) w)
      new_word o from c lawful recalls =
          let since : IsPinnedSince j o = since_later so_far.later from.0 in
          let taught = is since.0 since.1 in
          found_seen event.core c k i since.0.version o r (λ u. HasWordAt u (before + n + 1) w) (taught_now event.lawful taught) both since.2 (from.1 c lawful (recalls_before both recalls)) (taught.fact c recalls).1

      word_at : (o : ℕ) → IsStood k o r → (a : ℕ) → (IsLoaded a × (a ≢ n)) ⊎ (a ≡ n) → Sure i (λ s. StoodWithWord s o r (before + a + 1) (get_or (set words n w) a 0))
      word_at o from a (inl (loaded, other)) =
          subst (λ z. Sure i (λ s. StoodWithWord s o r (before + a + 1) z)) (sym (get_or-set_other words n a w 0 other)) (sure_later (word_stable o r (before + a + 1) (get_or words a 0)) now.later (so_far.each o from a loaded))
      word_at o from a (inr newest) =
          subst (λ z. Sure i (λ s. StoodWithWord s o r (before + z + 1) (get_or (set words n w) z 0))) (sym newest)
          (subst (λ z. Sure i (λ s. StoodWithWord s o r (before + n + 1) z)) (sym (get_or-set_same words n w 0 room)) (new_word o from))

-- fewer of them
pub fewer_loaded : (k j : Known) (r : Rec) (before : ℕ) (IsLoaded IsNow : ℕ → Type 0) (words : List ℕ) → ((o : ℕ) → IsNow o → IsLoaded o) → AreLoaded k j r before IsLoaded words → AreLoaded k j r before IsNow words
fewer_loaded k j r before IsLoaded IsNow words fewer loaded = record { later = loaded.later; each = λ m stood o now. loaded.each m stood o (fewer o now) }

-- the first words of a record, and those behind them
pub both_loaded : (k j i : Known) (r : Rec) (front back : List ℕ) → AreLoaded k j r 0 (λ o. o < length front) front → AreLoaded j i r (length front) (λ o. o < length back) back →
    AreLoaded k i r 0 (λ o. o < length (front ++ back)) (front ++ back)
both_loaded k j i r front back first second = record {
  later = later_trans first.later second.later;
  each = λ m stood o low. ⊎_elim
      (λ (before : o < length front). subst (λ w. Sure i (λ s. StoodWithWord s m r (0 + o + 1) w)) (sym (get_or_append_left front back 0 o before)) (sure_later (word_stable m r (0 + o + 1) (get_or front o 0)) second.later (first.each m stood o before)))
      (λ (after : length front ≤ o).
      (let here : length front + (o - length front) ≡ 0 + o = omega (arith, after) in
      subst (λ z. Sure i (λ s. StoodWithWord s m r (z + 1) (get_or (front ++ back) o 0))) here
      (subst (λ w. Sure i (λ s. StoodWithWord s m r (length front + (o - length front) + 1) w)) (sym (get_or-append_right front back (length front) o 0 refl after))
      (second.each m (stood_later k j m r first.later stood) (o - length front) (omega (arith, low, after, length-append front back))))))
      (cases_lt o (length front));
}

-- the next word after the first n
pub next_loaded : (layout : Layout) (k j i : Known) (r : Rec) (before n w : ℕ) (words : List ℕ) → AreLoaded k j r before (λ o. o < n) words → n < length words → IsEvent layout (LoadFixed r (before + n + 1) w) silent j i →
    (m : ℕ) → IsStood k m r → AreLoaded k i r before (λ o. o < n + 1) (set words n w)
next_loaded layout k j i r before n w words so_far room event =
    one_loaded layout k j i r before (λ o. o < n) (λ o. o < n + 1) n w words so_far room (λ o low. ⊎_elim (λ (before : o < n). inl (before, (λ e. omega (arith, e, before)))) (λ (after : n ≤ o). inr (omega (arith, low, after))) (cases_lt o n)) event

-- the words of a leaf's key, from its length up to some
abbrev pub IsKeyWord : ℕ → ℕ → Type 0
IsKeyWord i o = (1 ≤ o) × (o < i)

-- of none of which the pass need know anything,
pub no_key_word : (k j : Known) (n : ℕ) (words : List ℕ) → IsLater k j → AreLoaded k j (a_leaf n) 0 (IsKeyWord 1) words
no_key_word k j n words later = record { later = later; each = λ m stood o both. absurd (let low = both.0 in let high = both.1 in omega (arith, low, high)) }

-- and one more
pub next_key_word : (layout : Layout) (k j i : Known) (n p w : ℕ) (words : List ℕ) → AreLoaded k j (a_leaf n) 0 (IsKeyWord p) words → p < length words →
    IsEvent layout (LoadFixed (a_leaf n) (p + 1) w) silent j i → (m : ℕ) → IsStood k m (a_leaf n) → AreLoaded k i (a_leaf n) 0 (IsKeyWord (p + 1)) (set words p w)
next_key_word layout k j i n p w words so_far room event =
    one_loaded layout k j i (a_leaf n) 0 (IsKeyWord p) (IsKeyWord (p + 1)) p w words so_far room
    (λ o both. ⊎_elim (λ (older : o < p). inl ((both.0, older), (λ e. omega (arith, e, older)))) (λ (newest : p ≤ o). inr (let b = both.1 in omega (arith, newest, b))) (cases_lt o p))
    (from_first p event)

-- of a leaf with these words, the offset is one up to the end of its key
abbrev pub IsBeforeEnd : Rec → List ℕ → ℕ → Type 0
IsBeforeEnd (a_node n) words offset = Unit {0}
IsBeforeEnd (a_leaf n) words offset = offset < words_for (get_or words 1 0)

-- and there it has one word
one_word : (r : Rec) (u : Tree) (words : List ℕ) (offset v w : ℕ) → IsRecord r u → HasWordAt u 2 (get_or words 1 0) → IsBeforeEnd r words offset → HasWordAt u offset v → HasWordAt u offset w → v ≡ w
one_word (a_leaf n) (leaf m k x) words offset v w is size before one other =
    let long : get_or words 1 0 ≡ length k = sym (size (omega arith)) ∙ (leaf_words_parts (k, x) (leaf_words (k, x)) refl).size in
    let low : offset < words_for (length k) = omega (arith, before, long) in
    sym (one low) ∙ other low
one_word (a_leaf n) (node m x b) words offset v w is size before one other = absurd cc
one_word (a_leaf n) (fork p a b) words offset v w is size before one other = absurd is
one_word (a_node n) (leaf m k x) words offset v w is size before one other = absurd cc
one_word (a_node n) (node m x b) words offset v w is size before one other = sym one ∙ other
one_word (a_node n) (fork p a b) words offset v w is size before one other = absurd is

second_fixed : (r : Rec) → IsFixedOffset r 2
second_fixed (a_node n) = (omega arith, omega arith)
second_fixed (a_leaf n) = (omega arith, omega arith)

-- in each core of which it knows true things, what was loaded is the record now
module _ (k j : Known) (r : Rec) (IsLoaded : ℕ → Type 0) (words : List ℕ) (loaded : AreLoaded k j r 0 IsLoaded words) (m : ℕ) (stood : IsStood k m r) (c : Core) (lawful : IsLawful c) (known : Recalls c j) where
  pub word_now : (o : ℕ) → IsLoaded o → IsFixedOffset r (o + 1) → IsBeforeEnd r (c.words r) (o + 1) → get_or words o 0 ≡ get_or (c.words r) o 0
  word_now o has fixed before =
      let h : StoodWithWord (seen c j) m r (o + 1) (get_or words o 0) = subst (λ z. StoodWithWord (seen c j) m r (z + 1) (get_or words o 0)) (zero-add o) (loaded.each m stood o has c lawful known) in
      let st = stands_in c j h.4 in
      let stays : (offset : ℕ) → IsFixedOffset r offset → HasWordAt h.1 offset (record_word c r offset) =
      word_stays c j lawful known m (since_later loaded.later stood.0) h.0 r h.1 h.2 (le_trans h.3 (seen_within lawful known)) st in
      one_word r h.1 (c.words r) (o + 1) (get_or words o 0) (record_word c r (o + 1)) st.is_record (subst (HasWordAt h.1 2) (later_word c r 1) (stays 2 (second_fixed r))) before h.5 (stays (o + 1) fixed) ∙
      later_word c r o

-- words that are the record's, one by one
pub words_now : (n : ℕ) (words now : List ℕ) → length words ≡ n → n ≤ length now → ((o : ℕ) → o < n → get_or words o 0 ≡ get_or now o 0) → words ≡ take n now
words_now n words now long room same = ext_get_or 0 words (take n now) (long ∙ sym (length-take-le n now room))
    (λ o low. same o (omega (arith, long, low)) ∙ sym (get_or-take n now o 0 (omega (arith, long, low))))
