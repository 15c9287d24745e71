-- What the loads of a leaf tell.
use Rattle.rowex_reading.proofs.Common.{◌≡◌, ◌≢◌, inl, inr, ◌⊎◌, ℕ, ◌+◌, ◌-◌, ◌<◌, ◌≤◌, List, length, get_or, set, replicate, take, drop, ⊎_elim, ap, sym, ◌∙◌, subst, arith, le_trans, lit<, cases_eq, cases_lt, ext_get_or, length-set, length-replicate, get_or-set_same, get_or-set_other, get_or-replicate, get_or_past, Leaf, Layout, MAX_BYTES, HoldsKey, HasLeafWords, IsBytesOf, key_word, leaf_words, up_to_key, words_for, words_of_key, key_of_bytes, key_part, leaf_words_parts, places_of_leaf, same_pair, first_long, first_rest, first_size, first_words, zero_word, up_to_key_before, up_to_key_past, IsSpelling, IsSpelledBy, LEAF_FIELDS, leaf, Key, a_leaf, LeafWords, Stands, Known, Core, IsLawful, LoadRef, LoadFixed, Value, Event, IsEvent, Recalls, IsLater, Steps, silent, SeatView, TableView, recalls, IsPacked, EntryStoodSince, IsRead, leaf_now, leaf_of, leaf_size, view}
use Rattle.std.proofs.Math.Dec.{lit≤}
use Rattle.record_words.proofs.Reading.{spells_leaf}
use Rattle.rowex_core.proofs.Reading.Leafing.{leaf_is, leaf_size_is}
use Rattle.rowex_reading.specs.Possible.{IsPossible}
use Rattle.rowex_reading.specs.Reads.{IsReader, Reads}
use Rattle.rowex_reading.specs.Seen.{seen, AreLoaded, Sure, IsLedTo}
use Rattle.rowex_reading.proofs.Seen.Led.{reader_then, reads_later, reads_one, reads_trans}
use Rattle.rowex_reading.proofs.Seen.Later.{event_later}
use Rattle.rowex_reading.proofs.Seen.{later_reflexive, recalls_before, seen_within, seen_grown, since_later, stands_in, stands_seen, sure_later}
use Rattle.rowex_reading.proofs.Seen.Standing.{reach, is_packed, fits_in}
use Rattle.rowex_reading.proofs.Seen.Valuing.{StoodWithKey, StoodWithValue, both_read, first_word, same_words, value_read, valued_stable, words_long, words_with}
use Rattle.rowex_reading.proofs.reading.Wording.{IsKeyWord, led_stood, next_key_word, no_key_word, word_now}

-- the length has been loaded
first_loaded : (layout : Layout) (k i j : Known) (n size : ℕ) → IsLater k i → IsEvent layout (LoadFixed (a_leaf n) 2 size) silent i j → (m : ℕ) → IsLedTo k m (Leaf n) →
    AreLoaded k j (a_leaf n) 0 (IsKeyWord 2) (first_words 0 size)
first_loaded layout k i j n size later event m led =
    next_key_word layout k i j n 1 size (set (replicate LEAF_FIELDS 0) 0 0) (no_key_word k i n (set (replicate LEAF_FIELDS 0) 0 0) later)
    (omega (arith, length-replicate {A = ℕ} LEAF_FIELDS 0, length-set {A = ℕ} (replicate LEAF_FIELDS 0) 0 0)) event m (led_stood k m (Leaf n) led)

-- the length that was loaded is that of a key
length_low : (layout : Layout) (k j : Known) (n : ℕ) (words : List ℕ) → IsPossible layout j → AreLoaded k j (a_leaf n) 0 (IsKeyWord 2) words → (m : ℕ) → IsLedTo k m (Leaf n) → get_or words 1 0 ≤ MAX_BYTES
unfolding IsPacked
length_low layout k j n words possible loaded m led =
    let c = possible.core in
    let known = recalls c j possible.knows in
    let before = recalls_before loaded.later known in
    let packed = is_packed c k possible.lawful before m led.0 (Leaf n) (led.1 c possible.lawful before) in
    let now = word_now k j (a_leaf n) (IsKeyWord 2) words loaded m (led_stood k m (Leaf n) led) c possible.lawful known 1 (lit≤ tt, lit< tt) (lit≤ tt, lit≤ tt) (omega arith) in
    let size = leaf_size_is packed.0 (c.words (a_leaf n)) packed.2 in
    let short = packed.1.key.short in omega (arith, now, size, short)

-- and its bytes have room in the record
pub room_of : (layout : Layout) (k j : Known) (n : ℕ) (IsLoaded : ℕ → Type 0) (words : List ℕ) → IsPossible layout j → AreLoaded k j (a_leaf n) 0 IsLoaded words → IsLoaded 1 → (m : ℕ) → IsLedTo k m (Leaf n) →
    words_for (get_or words 1 0) ≤ leaf_size layout n
room_of layout k j n IsLoaded words possible loaded here m led =
    let c = possible.core in
    let known = recalls c j possible.knows in
    let before = recalls_before loaded.later known in
    let fits = fits_in c k possible.lawful before m led.0 (Leaf n) (led.1 c possible.lawful before) in
    let now = word_now k j (a_leaf n) IsLoaded words loaded m (led_stood k m (Leaf n) led) c possible.lawful known 1 here (lit≤ tt, lit≤ tt) (omega arith) in
    subst (λ z. words_for z ≤ leaf_size layout n) (sym now) (subst (λ (z : Layout). words_for (get_or (c.words (a_leaf n)) 1 0) ≤ leaf_size z n) possible.layout_is fits)

-- The value of a leaf and the length of its key have been loaded.
pub record HasFirst {G : Type 0} (table : TableView) (becomes : G → Event → G → Type 0) (a b : SeatView × G) (n value size : ℕ) : Type 0 where
  pub reads : Reads table becomes 0 2 a b
  pub reader : IsReader table b.0
  pub valued : (m : ℕ) → IsLedTo a.0.known m (Leaf n) → Sure b.0.known (λ s. StoodWithValue s m n value)
  pub loaded : AreLoaded a.0.known b.0.known (a_leaf n) 0 (IsKeyWord 2) (first_words 0 size)
  pub short : size ≤ MAX_BYTES
  pub room : words_for size ≤ leaf_size table.layout n

pub first_read : {G : Type 0} {table : TableView} {becomes : G → Event → G → Type 0} {a i b : SeatView × G} {n value size : ℕ} → IsReader table a.0 → (m : ℕ) × IsLedTo a.0.known m (Leaf n) →
    Steps table becomes (LoadRef (Value n) value) a i → Steps table becomes (LoadFixed (a_leaf n) 2 size) i b → HasFirst table becomes a b n value size
first_read {table = table} {a = a} {i = i} {b = b} {n = n} {value = value} {size = size} before led one two =
    let x = reads_one (LoadRef (Value n) value) tt one in let y = reads_one (LoadFixed (a_leaf n) 2 size) tt two in
    let reader = reader_then (reader_then before x) y in
    let loaded = first_loaded table.layout a.0.known i.0.known b.0.known n size (reads_later x) two.event led.0 led.1 in
    let low = length_low table.layout a.0.known b.0.known n (first_words 0 size) reader.1 loaded led.0 led.1 in
    record {
      reads = reads_trans x y;
      reader = reader;
      valued = λ m led. sure_later (valued_stable m n value) (reads_later y) (value_read table.layout a.0.known a.0.known i.0.known n value (later_reflexive a.0.known) one.event m led);
      loaded = loaded;
      short = omega (arith, low, first_size 0 size);
      room = subst (λ z. words_for z ≤ leaf_size table.layout n) (first_size 0 size)
          (room_of table.layout a.0.known b.0.known n (IsKeyWord 2) (first_words 0 size) reader.1 loaded (lit≤ tt, lit< tt) led.0 led.1);
    }

-- In a core of which j is true, a record to which the pass was led has the words of a leaf, and that leaf stood.
module _ (k j : Known) (later : IsLater k j) (n m : ℕ) (led : IsLedTo k m (Leaf n)) (c : Core) (lawful : IsLawful c) (known : Recalls c j) where
  before : Recalls c k
  before = recalls_before later known

  led_there : EntryStoodSince (seen c k) m (Leaf n)
  led_there = led.1 c lawful before

  pub leaf_packed : IsPacked (a_leaf n) (c.words (a_leaf n))
  leaf_packed = is_packed c k lawful before m led.0 (Leaf n) led_there

  pub leaf_stood : (pair : List ℕ × ℕ) → HasLeafWords pair → leaf_words pair ≡ up_to_key (c.words (a_leaf n)) → StoodWithKey (seen c j) m n pair.0
  leaf_stood pair has same = go (leaf_of n led_there.1 led_there.5)
    where
      go : (key : Key) × (value : ℕ) × (led_there.1 ≡ leaf n key value) → StoodWithKey (seen c j) m n pair.0
      go (key, value, is_leaf) =
          let st : Stands c.past led_there.0 (a_leaf n) (leaf n key value) = subst (λ z. Stands c.past led_there.0 (a_leaf n) z) is_leaf (stands_in c k led_there.4) in
          let now = leaf_now (view c) lawful.core.state m (reach c k lawful before m led.0) led_there.0 n n key value led_there.2 (le_trans led_there.3 (seen_within lawful before)) st in
          let key_is : key ≡ pair.0 = sym now.key ∙ ap (λ (z : LeafWords). z.key) (leaf_is pair (c.words (a_leaf n)) has same) in
          (value, (led_there.0, led_there.2, le_trans led_there.3 (seen_grown c later).longer, stands_seen c j (subst (λ z. Stands c.past led_there.0 (a_leaf n) (leaf n z value)) key_is st)))

-- All words of a leaf that have bytes of its key have been loaded, and the others are 0, the value's too.
module _ (layout : Layout) (k j : Known) (n i : ℕ) (words : List ℕ) (possible : IsPossible layout j) (loaded : AreLoaded k j (a_leaf n) 0 (IsKeyWord i) words)
    (all : i ≡ 2 + words_of_key (get_or words 1 0)) (blank : get_or words 0 0 ≡ 0) (rest : (o : ℕ) → i ≤ o → get_or words o 0 ≡ 0) (long : length words ≡ LEAF_FIELDS) (m : ℕ) (led : IsLedTo k m (Leaf n)) where
  -- in each core of which j is true, the words are those of a leaf, but for its value
  record LeafNow (c : Core) : Type 0 where
    pair : List ℕ × ℕ
    has : HasLeafWords pair
    spelled : words_with pair.0 ≡ words
    there : leaf_words pair ≡ up_to_key (c.words (a_leaf n))

  leaf_there : (c : Core) → IsLawful c → Recalls c j → LeafNow c
  unfolding IsPacked
  leaf_there c lawful known = go (leaf_packed k j loaded.later n m led c lawful known)
    where
      go : IsPacked (a_leaf n) (c.words (a_leaf n)) → LeafNow c
      go (pair, has, same) =
          record {
            pair = pair;
            has = has;
            spelled = sym (ext_get_or 0 words (words_with pair.0) (long ∙ sym (words_long pair.0)) (λ o inside. word o (omega (arith, inside, long)) (cases_lt 0 o) (cases_lt o i)));
            there = same;
          }
        where
          loaded_now : (o : ℕ) → 1 ≤ o → o < i → o < LEAF_FIELDS → o + 1 < words_for (get_or (c.words (a_leaf n)) 1 0) → get_or words o 0 ≡ get_or (c.words (a_leaf n)) o 0
          loaded_now o some before low used = word_now k j (a_leaf n) (IsKeyWord i) words loaded m (led_stood k m (Leaf n) led) c lawful known o (some, before) (omega (arith, some), omega (arith, low)) used

          size : get_or words 1 0 ≡ get_or (c.words (a_leaf n)) 1 0
          size = loaded_now 1 (lit≤ tt) (omega (arith, all)) (lit< tt) (omega arith)

          there_now : (o : ℕ) → 1 ≤ o → o < LEAF_FIELDS → get_or (words_with pair.0) o 0 ≡ get_or (up_to_key (c.words (a_leaf n))) o 0
          there_now o some low = sym (same_words pair.0 pair.1 o some low) ∙ ap (λ z. get_or z o 0) same

          word : (o : ℕ) → o < LEAF_FIELDS → (0 < o) ⊎ (o ≤ 0) → (o < i) ⊎ (i ≤ o) → get_or words o 0 ≡ get_or (words_with pair.0) o 0
          word o low (inr none) _ = let is : o ≡ 0 = omega (arith, none) in ap (λ z. get_or words z 0) is ∙ (blank ∙ sym (ap (λ z. get_or (words_with pair.0) z 0) is ∙ first_word pair.0))
          word o low (inl some) (inl before) =
              loaded_now o some before low (omega (arith, before, all, size)) ∙
              (sym (up_to_key_before (c.words (a_leaf n)) o (omega (arith, before, all, size)) low) ∙ sym (there_now o some low))
          word o low (inl some) (inr past) = rest o past ∙ (sym (up_to_key_past (c.words (a_leaf n)) o (omega (arith, past, all, size))) ∙ sym (there_now o some low))

  -- the words spell a leaf
  pub leaf_spelled : IsSpelling HasLeafWords leaf_words words
  leaf_spelled =
      let now = leaf_there possible.core possible.lawful (recalls possible.core j possible.knows) in ((now.pair.0, 0), record { key = now.has.key; value = lit< tt }, now.spelled)

  -- and its key is the record's
  pub leaf_read : (pair : List ℕ × ℕ) → IsSpelledBy HasLeafWords leaf_words words pair → Sure j (λ s. StoodWithKey s m n pair.0)
  leaf_read pair read c lawful known =
      let now = leaf_there c lawful known in
      subst (λ (z : List ℕ × ℕ). StoodWithKey (seen c j) m n z.0) (sym (read.only (now.pair.0, 0) (record { key = now.has.key; value = lit< tt }) now.spelled))
      (leaf_stood k j loaded.later n m led c lawful known now.pair now.has now.there)

-- Of a leaf that stood with this value, whose key has this length, so many words have been loaded, and all that have bytes of the key
-- stand in the bytes.
pub record AreSoFar (k j : Known) (n i value size : ℕ) (bytes : List ℕ) : Type 0 where
  pub words : List ℕ
  pub long : length words ≡ LEAF_FIELDS
  pub valued : (m : ℕ) → IsLedTo k m (Leaf n) → Sure j (λ s. StoodWithValue s m n value)
  pub blank : get_or words 0 0 ≡ 0
  pub size_is : get_or words 1 0 ≡ size
  pub loaded : AreLoaded k j (a_leaf n) 0 (IsKeyWord i) words
  pub rest : (o : ℕ) → i ≤ o → get_or words o 0 ≡ 0
  pub count : length bytes ≡ MAX_BYTES
  pub bytes_are : (b : ℕ) → b < 30 → key_word bytes b ≡ get_or words (2 + b) 0

first_value : (value size : ℕ) → get_or (first_words value size) 0 0 ≡ value
first_value value size =
    get_or-set_other (set (replicate LEAF_FIELDS 0) 0 value) 1 0 size 0 (λ e. omega (arith, e)) ∙
    get_or-set_same (replicate LEAF_FIELDS 0) 0 value 0 (omega (arith, length-replicate {A = ℕ} LEAF_FIELDS 0))

pub so_far_first : (k j : Known) (n value size : ℕ) → ((m : ℕ) → IsLedTo k m (Leaf n) → Sure j (λ s. StoodWithValue s m n value)) →
    AreLoaded k j (a_leaf n) 0 (IsKeyWord 2) (first_words 0 size) → AreSoFar k j n 2 value size (replicate MAX_BYTES 0)
so_far_first k j n value size valued loaded = record {
  words = first_words 0 size;
  long = first_long 0 size;
  valued = valued;
  blank = first_value 0 size;
  size_is = first_size 0 size;
  loaded = loaded;
  rest = first_rest 0 size;
  count = length-replicate {A = ℕ} MAX_BYTES 0;
  bytes_are = λ b low. zero_word MAX_BYTES b ∙ sym (first_rest 0 size (2 + b) (omega arith));
}

-- zeros are bytes
pub zero_small : (n i : ℕ) → get_or (replicate {A = ℕ} n 0) i 0 < 256
zero_small n i =
    ⊎_elim (λ (inside : i < n). rw (get_or-replicate {A = ℕ} n i 0 0 inside) (lit< tt))
    (λ (past : n ≤ i). rw (get_or_past (replicate {A = ℕ} n 0) i 0 (omega (arith, past, length-replicate {A = ℕ} n 0))) (lit< tt)) (cases_lt i n)

-- a word more, whose eight bytes were written
pub so_far_next : (layout : Layout) (k j h : Known) (n i value size w : ℕ) (bytes more : List ℕ) → AreSoFar k j n i value size bytes → 2 ≤ i → i < LEAF_FIELDS →
    IsEvent layout (LoadFixed (a_leaf n) (i + 1) w) silent j h → (m : ℕ) → IsLedTo k m (Leaf n) →
    length more ≡ MAX_BYTES → key_word more (i - 2) ≡ w → ((b : ℕ) → b ≢ i - 2 → key_word more b ≡ key_word bytes b) → AreSoFar k h n (i + 1) value size more
so_far_next layout k j h n i value size w bytes more so_far past low event m led count written others = record {
  words = set so_far.words i w;
  long = length-set so_far.words i w ∙ so_far.long;
  valued = λ m led. sure_later (valued_stable m n value) (event_later event tt) (so_far.valued m led);
  blank = get_or-set_other so_far.words i 0 w 0 (λ e. omega (arith, e, past)) ∙ so_far.blank;
  size_is = get_or-set_other so_far.words i 1 w 0 (λ e. omega (arith, e, past)) ∙ so_far.size_is;
  loaded = next_key_word layout k j h n i w so_far.words so_far.loaded inside event m (led_stood k m (Leaf n) led);
  rest = λ o behind. get_or-set_other so_far.words i o w 0 (λ e. omega (arith, e, behind)) ∙ so_far.rest o (omega (arith, behind));
  count = count;
  bytes_are = λ b few. ⊎_elim (λ (same : b ≡ i - 2). at_word b same) (λ (other : b ≢ i - 2).
      others b other ∙ (so_far.bytes_are b few ∙ sym (get_or-set_other so_far.words i (2 + b) w 0 (λ e. other (omega (arith, e)))))) (cases_eq b (i - 2));
}
  where
    inside : i < length so_far.words
    inside = let long = so_far.long in omega (arith, low, long)

    at_word : (b : ℕ) → b ≡ i - 2 → key_word more b ≡ get_or (set so_far.words i w) (2 + b) 0
    at_word b same =
        let at : 2 + b ≡ i = omega (arith, same, past) in
        ap (key_word more) same ∙ (written ∙ (sym (get_or-set_same so_far.words i w 0 inside) ∙ ap (λ o. get_or (set so_far.words i w) o 0) (sym at)))

-- all that have bytes of the key: these are the key's bytes, and the pair is the leaf
module _ (layout : Layout) (k j : Known) (n i value size : ℕ) (bytes : List ℕ) (possible : IsPossible layout j) (so_far : AreSoFar k j n i value size bytes)
    (all : i ≡ 2 + words_of_key size) (small : (b : ℕ) → get_or bytes b 0 < 256) (m : ℕ) (led : IsLedTo k m (Leaf n)) where
  at_end : i ≡ 2 + words_of_key (get_or so_far.words 1 0)
  at_end = all ∙ ap (λ z. 2 + words_of_key z) (sym so_far.size_is)

  given : IsSpelling HasLeafWords leaf_words so_far.words
  given = leaf_spelled layout k j n i so_far.words possible so_far.loaded at_end so_far.blank so_far.rest so_far.long m led

  are_bytes : IsBytesOf bytes (take 30 (drop 2 so_far.words))
  are_bytes = record { count = so_far.count; words_are = λ b few. so_far.bytes_are b few ∙ sym (key_part so_far.words b few) }

  pub all_places : HoldsKey bytes size
  all_places = places_of_leaf bytes so_far.words given.0 size are_bytes small given.1 (sym given.2) (sym so_far.size_is)

  pub all_counted : (key : List ℕ) → key ≡ take size bytes → i ≡ 2 + words_of_key (length key)
  all_counted key is = all ∙ ap (λ z. 2 + words_of_key z) (sym (ap length is ∙ all_places.counted))

  keyed : (key : List ℕ) → key ≡ take size bytes → Sure j (λ s. StoodWithKey s m n key)
  keyed key is =
      leaf_read layout k j n i so_far.words possible so_far.loaded at_end so_far.blank so_far.rest so_far.long m led (key, 0)
      (spells_leaf given.0 (key, 0) so_far.words given.1 given.2 (same_pair key given.0.0 0 given.0.1
      (is ∙ key_of_bytes bytes so_far.words given.0 size are_bytes small given.1 (sym given.2) (sym so_far.size_is))
      (sym so_far.blank ∙ (leaf_words_parts given.0 so_far.words (sym given.2)).value)))

  pub all_read : (key : List ℕ) → key ≡ take size bytes → Sure j (λ s. IsRead s m n key value)
  all_read key is = both_read j m n key value (since_later so_far.loaded.later led.0) (keyed key is) (so_far.valued m led)
